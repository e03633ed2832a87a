-- Reading back an escaped text or value gives it again.
use mathlib.Core.Path.{◌≡◌, refl, ap, sym, ◌∙◌}
use mathlib.Core.Bool.{Bool, true, false, cond, ◌&&◌}
use mathlib.Core.List.{[], ◌∷◌, ◌++◌}
use mathlib.Core.Option.{none}
use Prim.Native.Nat.{ℕ}
use native.Mathlib.Omega.{arith}
use lib.Dec.{eqb}
use borrow.Author.Tests.{eqb-true, eqb-false, ne_eqb}
use Rattle.parts.specs.Bytes.{Bytes, b, begins}
use Rattle.chars.specs.Escape.{escaped_byte, escape}
use Rattle.xml.specs.Entities.{predefined, reference_at, read_as, read_past, read_from, read_back_of}

-- a byte that is no `&` begins no reference
plain_at : (x : ℕ) (s : Bytes) → (x ≡ 38 → ⊥) → reference_at predefined (x ∷ s) ≡ none
unfolding reference_at begins
plain_at x s n = rw (ne_eqb 38 x (λ e. n (sym e)))

read_plain : (x : ℕ) (s : Bytes) → (x ≡ 38 → ⊥) → read_from 0 (x ∷ s) ≡ x ∷ read_from 0 s
unfolding read_from read_as read_past
read_plain x s n = rw (plain_at x s n)

-- what each byte is written as is read as that byte
read_one : (attr : Bool) (x : ℕ) (s : Bytes) → read_from 0 (escaped_byte attr x ++ s) ≡ x ∷ read_from 0 s
unfolding escaped_byte read_from read_as read_past reference_at begins
read_one attr x s = go (eqb x 60) (eqb x 62) (eqb x 38) (attr && eqb x 34) refl refl refl (quote attr (eqb x 34) refl)
  where
    quote : (a q : Bool) → eqb x 34 ≡ q → (a && q) ≡ true → x ≡ 34
    quote true true e h = eqb-true x 34 e
    quote true false e h = absurd (let no_way : ◌≡◌ {A = ℕ} 0 1 = cc in omega arith)
    quote false q e h = absurd (let no_way : ◌≡◌ {A = ℕ} 0 1 = cc in omega arith)

    go : (l g a q : Bool) → eqb x 60 ≡ l → eqb x 62 ≡ g → eqb x 38 ≡ a → (q ≡ true → x ≡ 34)
        → read_from 0 (cond l (b "&lt;") (cond g (b "&gt;") (cond a (b "&amp;") (cond q (b "&quot;") (x ∷ [])))) ++ s) ≡ x ∷ read_from 0 s
    go true g a q e f h k = rw (eqb-true x 60 e)
    go false true a q e f h k = rw (eqb-true x 62 f)
    go false false true q e f h k = rw (eqb-true x 38 h)
    go false false false true e f h k = rw (k refl)
    go false false false false e f h k = read_plain x s (eqb-false x 38 h)

read_all : (attr : Bool) (s : Bytes) → read_from 0 (escape attr s) ≡ s
unfolding escape read_from
read_all attr [] = refl
read_all attr (x ∷ s) = read_one attr x (escape attr s) ∙ ap (λ (r : Bytes). x ∷ r) (read_all attr s)

-- an escaped text (false) or value (true) is read back as it was
pub read_back : (attr : Bool) (s : Bytes) → read_back_of (escape attr s) ≡ s
unfolding read_back_of
read_back attr s = read_all attr s
