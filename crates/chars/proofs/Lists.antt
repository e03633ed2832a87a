-- A test of every element of a list.
use mathlib.Core.Path.{◌≡◌, refl, sym}
use mathlib.Core.Bool.{Bool, true, ◌&&◌, and_assoc}
use mathlib.Core.List.Memᴰ
use mathlib.Core.List.{List, [], ◌∷◌, ◌++◌, Memᴰ}
use mathlib.Core.Logic.{⊎_elim}
use Rattle.parts.proofs.Laws.{and-true as both_true}

module _ {A : Type 0} where
  unfoldable pub all : (A → Bool) → List A → Bool
  all p [] = true
  all p (x ∷ xs) = p x && all p xs

  pub all_at : (p : A → Bool) (xs : List A) (x : A) → all p xs ≡ true → Memᴰ x xs → p x ≡ true
  unfolding all
  all_at p [] x e m = absurd (Memᴰ.not-nil m)
  all_at p (y ∷ xs) x e m =
      let h = both_true (p y) (all p xs) e in
      ⊎_elim (λ same. rw same h.0) (λ later. all_at p xs x h.1 later) (Memᴰ.cases_cons m)

  pub all_append : (p : A → Bool) (xs ys : List A) → all p (xs ++ ys) ≡ all p xs && all p ys
  unfolding all
  all_append p [] ys = refl
  all_append p (x ∷ xs) ys = rw (all_append p xs ys) (sym (and_assoc (p x) (all p xs) (all p ys)))
