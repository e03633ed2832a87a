-- Laws of rows of names: the first broken one of a row, of two rows, of rows that differ in free names alone.
use mathlib.Core.Path.{◌≡◌, refl, sym, ap, subst}
use mathlib.Core.Bool.{true}
use mathlib.Core.List.{List, [], ◌∷◌, ◌++◌}
use Prim.Native.Nat.{ℕ}
use Rattle.words.specs.declared.Part.{Part}
use Rattle.tape.specs.File.{Tape}
use Rattle.attrs.specs.Walk.{Spot}
use Rattle.accepts.specs.Proviso.{has_special, Free, Name, AllFree}
use Rattle.accepts.proofs.FreeKeys.{Alike, equal, plain, alike_free, none as nothing}
use Rattle.names.specs.declared.What.{What as Said}
use Rattle.names.specs.declared.Hit.{Hit}
use Rattle.std.specs.Prelude.{Option, None, Some}
use Rattle.names.specs.Finding.{what_of, FirstIn, Placed}
use Rattle.names.specs.Hits.{Tested, free, broken, Hits, nowhere, at}
use Rattle.names.proofs.Specials.{never}

-- ---- the first broken name, step by step

pub data First : List Name → Name → Type 0 where
  here : {n : Name} {ns : List Name} → has_special n.bytes ≡ true → First (n ∷ ns) n
  past : {m n : Name} {ns : List Name} → Free m.bytes → First ns n → First (m ∷ ns) n

stepped : (before after : List Name) (n : Name) → AllFree before → has_special n.bytes ≡ true → First (before ++ n ∷ after) n
stepped [] after n f h = here h
stepped (m ∷ before) after n (f, fs) h = past f (stepped before after n fs h)

pub first_steps : {ns : List Name} {n : Name} → FirstIn ns n → First ns n
first_steps {ns} {n} r = subst (λ (l : List Name). First l n) (sym r.here) (stepped r.before r.after n r.free r.broken)

pub first_in : {ns : List Name} {n : Name} → First ns n → FirstIn ns n
first_in (here {ns = ns} h) = record { before = []; after = ns; here = refl; free = tt; broken = h }
first_in (past {m = m} f r) =
    let q = first_in r in
    record { before = m ∷ q.before; after = q.after; here = ap (λ (l : List Name). m ∷ l) q.here; free = (f, q.free); broken = q.broken }

pub first_one : {ns : List Name} {m n : Name} → First ns m → First ns n → m ≡ n
first_one (here h) (here g) = refl
first_one (here {n = n} h) (past f r) = absurd (never n.bytes f h)
first_one (past {m = m} f r) (here h) = absurd (never m.bytes f h)
first_one (past f r) (past g q) = first_one r q

pub first-not : {ns : List Name} {n : Name} → First ns n → AllFree ns → ⊥
first-not (here {n = n} h) (f, fs) = never n.bytes f h
first-not (past f r) (g, gs) = first-not r gs

-- ---- two rows

free-append : (ns ms : List Name) → AllFree ns → AllFree ms → AllFree (ns ++ ms)
free-append [] ms f g = g
free-append (n ∷ ns) ms (f, fs) g = (f, free-append ns ms fs g)

first-behind : (ns : List Name) {ms : List Name} {n : Name} → AllFree ns → First ms n → First (ns ++ ms) n
first-behind [] f r = r
first-behind (n ∷ ns) (f, fs) r = past f (first-behind ns fs r)

first_before : {ns : List Name} (ms : List Name) {n : Name} → First ns n → First (ns ++ ms) n
first_before ms (here h) = here h
first_before ms (past f r) = past f (first_before ms r)

module _ (t : Tape) (k : ℕ) (ns ms : List Name) where
  -- what is found in a row, or else in the next
  module _ {o : Option Hit} (x : Hits t k ns o) where
    pub hit_here : {h : Hit} → o ≡ Some h → Hits t k (ns ++ ms) (Some h)
    hit_here e = go (subst (Hits t k ns) e x)
      where
        go : {h : Hit} → Hits t k ns (Some h) → Hits t k (ns ++ ms) (Some h)
        go (at n f ew s) = at n (first_in (first_before ms (first_steps f))) ew s

    pub hit_on : o ≡ None → {r : Option Hit} → Hits t k ms r → Hits t k (ns ++ ms) r
    hit_on e y = go (subst (Hits t k ns) e x) y
      where
        go : Hits t k ns None → {r : Option Hit} → Hits t k ms r → Hits t k (ns ++ ms) r
        go (nowhere f) (nowhere g) = nowhere (free-append ns ms f g)
        go (nowhere f) (at n g ew s) = at n (first_in (first-behind ns f (first_steps g))) ew s

-- ---- a row of one name

pub alone : (t : Tape) (k : ℕ) (n : Name) {w : Said} {h : Option Hit} → what_of w ≡ n.what → Tested t.source w n.bytes h
    → ((q : Part) → h ≡ Some (record { what = w; place = q }) → Spot t.source q n.bytes → Placed t k n.what q) → Hits t k (n ∷ []) h
alone t k n ew (free f) pl = nowhere (f, tt)
alone t k n ew (broken {p = p} b sp) pl = at n (first_in (here b)) ew (record { spot = sp; place = pl p refl sp })

-- ---- rows that differ in free names alone

alike_first : {ns ms : List Name} {n : Name} → Alike ns ms → First ns n → First ms n
alike_first {n = n} nothing x = elim x [ ]
alike_first (equal a) (here h) = here h
alike_first (equal a) (past f r) = past f (alike_first a r)
alike_first (plain {n = n} f g a) (here h) = absurd (never n.bytes f h)
alike_first (plain f g a) (past x r) = past g (alike_first a r)

pub alike_hits : {t : Tape} {k : ℕ} {ns ms : List Name} {h : Option Hit} → Alike ns ms → Hits t k ns h → Hits t k ms h
alike_hits a (nowhere f) = nowhere (alike_free a f)
alike_hits a (at n f ew s) = at n (first_in (alike_first a (first_steps f))) ew s
