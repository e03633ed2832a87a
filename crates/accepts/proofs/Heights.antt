-- Rows of tags whose heights stay between zero and a limit.
use mathlib.Core.Path.{◌≡◌, sym, ap, ◌∙◌, subst}
use mathlib.Core.List.{List, [], ◌∷◌, ◌++◌}
use Prim.Native.Nat.{ℕ, suc, ◌+◌, ◌≤◌}
use native.Mathlib.Omega.{arith}
use lib.IntN.{ℤ, pos, ◌+ℤ◌, ◌-ℤ◌, pos-+ℤ-pos, +ℤ-neg_ℤ_cancel}
use Rattle.checker.specs.View.{Mark, View, words, opened, closed, single}
use Rattle.checker.specs.Words.{openings, closings, height_of}

-- from a height on, none is over the limit and none below zero
pub data Low (limit : ℕ) : ℕ → List View → Type 0 where
  low_end : {h : ℕ} → Low limit h []
  low_words : {h : ℕ} {vs : List View} → Low limit h vs → Low limit h (words ∷ vs)
  low_open : {h n : ℕ} {vs : List View} → suc h ≤ limit → Low limit (suc h) vs → Low limit h (opened n ∷ vs)
  low_close : {h n : ℕ} {vs : List View} → Low limit h vs → Low limit (suc h) (closed n ∷ vs)
  low_single : {h n : ℕ} {m : Mark} {vs : List View} → Low limit h vs → Low limit h (single n m ∷ vs)

-- the height behind the front of such a row, by its opening and closing tags
low_front : {limit h : ℕ} (a z : List View) → Low limit h (a ++ z) → h ≤ limit → (g : ℕ) × (g ≤ limit) × (openings a + h ≡ g + closings a)
unfolding openings closings
low_front {limit} {h} [] z l r = (h, r, omega arith)
low_front (words ∷ a) z (low_words l) r = low_front a z l r
low_front (opened n ∷ a) z (low_open b l) r = let i = low_front a z l b in (i.0, i.1, omega (arith, i.2))
low_front (closed n ∷ a) z (low_close l) r = let i = low_front a z l (omega arith) in (i.0, i.1, omega (arith, i.2))
low_front (single n m ∷ a) z (low_single l) r = low_front a z l r

-- from zero on: each height is a number up to the limit
pub low_height : (limit : ℕ) (vs : List View) → Low limit 0 vs → (a z : List View) → vs ≡ a ++ z → (g : ℕ) × (g ≤ limit) × (height_of a ≡ pos g)
low_height limit vs l a z e =
    let i = low_front a z (subst (Low limit 0) e l) (omega arith) in
    let f : openings a ≡ i.0 + closings a = omega (arith, i.2) in
    (i.0, i.1, ap (λ (k : ℕ). pos k -ℤ pos (closings a)) f ∙ ap (λ (k : ℤ). k -ℤ pos (closings a)) (sym (pos-+ℤ-pos i.0 (closings a))) ∙ +ℤ-neg_ℤ_cancel (pos i.0) (pos (closings a)))
