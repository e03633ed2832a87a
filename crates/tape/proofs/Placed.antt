-- Where the parts of a file stand that the tape names.
use mathlib.Core.Path.{◌≡◌, refl, sym, ap, ◌∙◌}
use mathlib.Core.Bool.{Bool, true, false, cond}
use mathlib.Core.List.{[], ◌∷◌}
use Prim.Native.Nat.{ℕ, ◌-◌, ◌≤◌}
use native.Mathlib.Omega.{arith}
use lib.ListN.{length, drop, length-drop}
use denote.Ref.{Bor}
use Rattle.parts.specs.Bytes.{Bytes, part, begins}
use Rattle.parts.specs.Place.{VeryPart}
use Rattle.parts.proofs.Laws.{begins-fits}
use Rattle.parts.proofs.Places.{very_at, very_within, very_self}
use Rattle.tape.specs.File.{tape_in, names_at, source_at, node_at, text_at_of, text_start, entry_name, entry_start, info_name, name_of_start}
use Rattle.tape.specs.Name.{strip, bare, name_len, name_in_of, name_start, marker_start, marker_len}
use Rattle.tape.specs.declared.Sections.{Sections}
use Rattle.tape.specs.declared.Entry.{Entry}
use Rattle.tape.specs.Found.{Info}
use Rattle.std.specs.Prelude.{None, Some}
use Rattle.tape.proofs.Laws.{text_of, entry_name_in}
use Rattle.tape.proofs.NameRule.{strip-some, strip-none, bare_of, name_of}

-- ---- names in a text

module _ (x : ℕ) (s : Bor Bytes) {t : Bool} (et : t ≡ begins (x ∷ []) s.now) where
  pub strip_some_at : {r : Bor Bytes} → t ≡ true → r.now ≡ drop 1 s.now → VeryPart s r 1 (length s.now - 1)
      → VeryPart s r (length s.now - length (strip x s.now)) (length (strip x s.now))
  strip_some_at h er v =
      let e : drop 1 s.now ≡ strip x s.now = strip-some x s.now et h refl in
      let l : length s.now - 1 ≡ length (strip x s.now) = omega (arith, ap length e, length-drop 1 s.now) in
      very_at (omega (arith, begins-fits (x ∷ []) s.now (sym et ∙ h))) l v

  pub strip_none_at : t ≡ false → VeryPart s s (length s.now - length (strip x s.now)) (length (strip x s.now))
  strip_none_at h = let e = ap length (strip-none x s.now et h) in very_self s (omega arith) e

strip-le : (x : ℕ) (s : Bytes) → length (strip x s) ≤ length s
unfolding strip
strip-le x s = go (begins (x ∷ []) s)
  where
    go : (t : Bool) → length (cond t (drop 1 s) s) ≤ length s
    go true = omega (arith, length-drop 1 s)
    go false = omega arith

pub bare_at : (s : Bor Bytes) {u v : Bor Bytes} → u.now ≡ strip 92 s.now → v.now ≡ strip 43 u.now
    → VeryPart s u (length s.now - length (strip 92 s.now)) (length (strip 92 s.now))
    → VeryPart u v (length u.now - length (strip 43 u.now)) (length (strip 43 u.now))
    → VeryPart s v (name_start s.now) (length (bare s.now))
unfolding name_start
bare_at s {u} eu ev pu pv =
    let e = ap length (bare_of s.now eu ev) in
    very_within pu pv (omega (arith, e, ap length eu, ap length ev, strip-le 92 s.now, strip-le 43 u.now)) e

name_long : (s : Bytes) → length (name_in_of s) ≡ name_len (bare s)
unfolding name_in_of name_len
name_long s = refl

pub name_at : (s : Bor Bytes) {t r : Bor Bytes} {n : ℕ} → t.now ≡ bare s.now → n ≡ name_len t.now → r.now ≡ part t.now 0 n
    → VeryPart s t (name_start s.now) (length (bare s.now)) → VeryPart t r 0 n
    → VeryPart s r (name_start s.now) (name_len (bare s.now))
name_at s et en er pt pr = very_within pt pr (omega arith) (ap length (name_of s.now et en er) ∙ name_long s.now)

-- ---- sections, texts and names in a file

module _ (c : Sections) (file : Bor Bytes) where
  pub text_at : (k : ℕ) {src r : Bor Bytes} {m l a n : ℕ} → m ≡ (node_at (tape_in c file.now) k).start → a ≡ m
      → src.now ≡ (tape_in c file.now).source → l ≡ (node_at (tape_in c file.now) k).len → n ≡ l → r.now ≡ part src.now a n
      → VeryPart file src (source_at c) c.source → VeryPart src r a n
      → VeryPart file r (text_start c file.now k) (length (text_at_of (tape_in c file.now) k))
  unfolding text_start
  text_at k em ea es el en er ps pr =
      very_within ps pr (rw (es, ea, em)) (ap length (text_of (tape_in c file.now) k em ea es el en er))

  pub entry_at : (e : Entry) {ns r : Bor Bytes} {a n : ℕ} → ns.now ≡ (tape_in c file.now).names → a ≡ e.start → n ≡ e.len → r.now ≡ part ns.now a n
      → VeryPart file ns (names_at c) c.names → VeryPart ns r a n
      → VeryPart file r (entry_start c file.now e) (length (entry_name (tape_in c file.now) e))
  unfolding entry_start
  entry_at e es ea en er ps pr =
      very_within ps pr (rw (es, ea)) (ap length (entry_name_in (tape_in c file.now) e es ea en er))

  module _ {i j : Info} (ei : i ≡ j) where
    pub known_at : (e : Entry) {r : Bor Bytes} → i ≡ Some e → VeryPart file r (entry_start c file.now e) (length (entry_name (tape_in c file.now) e))
        → VeryPart file r (name_of_start c file.now j) (length (info_name (tape_in c file.now) j))
    unfolding name_of_start info_name
    known_at e h v = rw (sym ei ∙ h) v

    pub unknown_at : {r : Bor Bytes} → i ≡ None → VeryPart file r 0 0
        → VeryPart file r (name_of_start c file.now j) (length (info_name (tape_in c file.now) j))
    unfolding name_of_start info_name
    unknown_at h v = rw (sym ei ∙ h) v

  pub marker_at : (k : ℕ) {s r : Bor Bytes} → s.now ≡ text_at_of (tape_in c file.now) k → r.now ≡ name_in_of s.now
      → VeryPart file s (text_start c file.now k) (length (text_at_of (tape_in c file.now) k))
      → VeryPart s r (name_start s.now) (name_len (bare s.now))
      → VeryPart file r (marker_start c file.now k) (marker_len (tape_in c file.now) k)
  unfolding marker_start marker_len name_start
  marker_at k {s} es er ps pr =
      very_within ps pr (rw (← es) (omega arith)) (ap length er ∙ rw (← es) (name_long s.now))
