-- The walk over the nodes: the names of one, those before it, and what stands outside the tape.
use mathlib.Core.Path.{◌≡◌, refl, sym, subst}
use mathlib.Core.Bool.{Bool, true, false}
use mathlib.Core.List.{List}
use Prim.Native.Nat.{ℕ, ◌+◌, ◌≤◌, ◌<◌}
use native.Mathlib.Omega.{arith}
use lib.Dec.{ltb}
use borrow.Author.Tests.{ltb-true, ltb-false}
use denote.Ref.{Bor}
use Rattle.parts.specs.Bytes.{Bytes}
use Rattle.tape.specs.File.{Tape, contents, tape_in, tape_of, sections_of}
use Rattle.tape.specs.declared.Sections.{Sections}
use Rattle.tape.specs.declared.Cursor.{Cursor}
use Rattle.tape.proofs.Laws.{node_out}
use Rattle.admit.specs.Refusal.{Refusal, refusal_number, reason_number}
use Rattle.admit.specs.declared.reason.Reason.{Reason}
use Rattle.admit.specs.declared.reason.Reason.TheVariants.{Layout, Limits, Source, Names as Names-reason, Nodes, Depth, Nesting}
use Rattle.tape.specs.declared.TapeFile.{TapeFile}
use Rattle.accepts.specs.Proviso.{Name, names_of, AllFree}
use Rattle.accepts.proofs.Outside.{names_outside}
use Rattle.names.specs.declared.Hit.{Hit}
use Rattle.std.specs.Prelude.{Option, None, Some, Result, Ok, Err, IfOk}
use Rattle.names.specs.declared.Found.{Found}
use Rattle.names.specs.declared.Found.TheVariants.{Refused, Kept, Broken}
use Rattle.names.specs.Finding.{FindsIn, kept, broken, Finds, refused, admitted}
use Rattle.names.specs.Hits.{Hits, at, nowhere as nowhere-found}

-- ---- node by node

-- the names of the nodes before an index are free
pub record Earlier (t : Tape) (i : ℕ) : Type 0 where
  pub free : (j : ℕ) → j < i → AllFree (names_of t j)

pub earlier_start : (t : Tape) → Earlier t 0
earlier_start t = record { free = λ j l. absurd (omega arith) }

hit_free : {t : Tape} {k : ℕ} {ns : List Name} → Hits t k ns None → AllFree ns
hit_free (nowhere-found f) = f

module _ (t : Tape) (i : ℕ) (before : Earlier t i) {c : Cursor} (ec : c.at ≡ i) {h : Option Hit} (hh : Hits t c.at (names_of t c.at) h) where
  pub earlier_turn : h ≡ None → Earlier t (i + 1)
  earlier_turn e = record { free = go }
    where
      here : AllFree (names_of t i)
      here = subst (λ (k : ℕ). AllFree (names_of t k)) ec (hit_free (subst (Hits t c.at (names_of t c.at)) e hh))

      go : (j : ℕ) → j < i + 1 → AllFree (names_of t j)
      go j l = by (ltb j i) refl
        where
          by : (y : Bool) → ltb j i ≡ y → AllFree (names_of t j)
          by true y = before.free j (ltb-true j i y)
          by false y = let same : i ≡ j = omega (arith, ltb-false j i y) in subst (λ (k : ℕ). AllFree (names_of t k)) same here

  pub found-broken : {x : Hit} → h ≡ Some x → FindsIn t (Broken i x.what x.place)
  found-broken {x} e = go (subst (λ (k : ℕ). Hits t k (names_of t k) (Some x)) ec (subst (Hits t c.at (names_of t c.at)) e hh))
    where
      go : Hits t i (names_of t i) (Some x) → FindsIn t (Broken i x.what x.place)
      go (at n f ew s) = broken n (record { earlier = before.free; first = f }) ew s

pub found_kept : (c : Sections) (file : Bytes) (i : ℕ) → c.nodes ≤ i → Earlier (tape_in c file) i → FindsIn (tape_in c file) Kept
found_kept c file i l before = kept (record { free = λ k. go k (ltb k i) refl })
  where
    t : Tape
    t = tape_in c file

    go : (k : ℕ) (y : Bool) → ltb k i ≡ y → AllFree (names_of t k)
    go k true y = before.free k (ltb-true k i y)
    go k false y = subst AllFree (sym (names_outside t k (node_out c file k (omega (arith, ltb-false k i y))))) tt

-- ---- every file

some_number : (e : Reason) → 0 < reason_number e
unfolding reason_number
some_number Layout = omega arith
some_number Limits = omega arith
some_number Source = omega arith
some_number Names-reason = omega arith
some_number Nodes = omega arith
some_number Depth = omega arith
some_number Nesting = omega arith

module _ (file : Bor Bytes) {a : Result TapeFile Reason} (en : Refusal file.now (refusal_number a)) where
  pub names-refused : {e : Reason} → a ≡ Err e → {n : ℕ} → n ≡ reason_number e → Finds file.now (Refused n)
  unfolding refusal_number
  names-refused {e} ea {n} h = rw h (refused (rw ea at en) (some_number e))

  pub names-searched : IfOk a (λ t. t.file ≡ file) → IfOk a (λ t. t.sections ≡ sections_of file.now) → {t : TapeFile} → a ≡ Ok t
      → {r : Found} → FindsIn (contents t) r → Finds file.now r
  unfolding refusal_number tape_of
  names-searched ef es {t} ea {r} f = admitted (rw ea at en) (rw (rw ea at ef, rw ea at es) at f)
