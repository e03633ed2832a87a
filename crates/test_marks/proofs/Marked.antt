-- Marks, counted.
use Rattle.std.proofs.Common.{◌≡◌, ℕ, ◌+◌, List, Bool, true, false, cond, refl, zero-add}
use mathlib.Core.List.{[], ◌∷◌}
use Prim.Native.Nat.{suc, ◌≤◌}
use native.Mathlib.Omega.{arith}
use lib.ListN.{length}
use Rattle.std.proofs.lemmas.List.Recursion.{is_count_by}
use Rattle.std.specs.Prelude.{count_by, eqb}
use Rattle.test_marks.specs.Left.{marks_in}

one_more : (b : Bool) (n : ℕ) → cond b 1 0 + n ≡ cond b (1 + n) n
one_more true n = refl
one_more false n = zero-add n

pub marks_counted : (s : List ℕ) → marks_in s ≡ count_by (λ x. eqb x 255) s
unfolding marks_in
marks_counted = is_count_by marks_in (λ x. eqb x 255) refl (λ x s. one_more (eqb x 255) (marks_in s))

-- there are no more marks than bytes
at_most : (t : Bool) {n m : ℕ} → n ≤ m → cond t 1 0 + n ≤ suc m
at_most true h = omega arith
at_most false h = omega arith

marks_most : (s : List ℕ) → marks_in s ≤ length s
unfolding marks_in
marks_most [] = omega arith
marks_most (x ∷ s) = at_most (eqb x 255) (marks_most s)
