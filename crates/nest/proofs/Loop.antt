-- The loop of nests: the stack stands in an array.
use mathlib.Core.Path.{◌≡◌, refl, sym, ap, ◌∙◌, subst}
use mathlib.Core.Bool.{Bool, true, false, not}
use mathlib.Core.List.{List, [], ◌∷◌}
use mathlib.Core.Logic.{◌↔◌}
use Prim.Native.Nat.{ℕ, zero, suc, ◌+◌, ◌-◌, ◌≤◌, ◌<◌}
use native.Mathlib.Omega.{arith}
use native.Mathlib.Numerals.{add-one}
use lib.ListN.{length, get_or, set, length-set}
use lib.Dec.{eqb}
use lib.Seq.{get_or-set_same, get_or-set_other}
use borrow.Author.Tests.{eqb-true, eqb-false, not-true, not-false}
use Rattle.tape.specs.declared.Node.{Node}
use Rattle.nest.specs.Tape.{link_at}
use Rattle.nest.specs.Nest.{part_of, RootEnds, Sound}
use Rattle.nest.specs.declared.Part.{Part}
use Rattle.nest.specs.declared.Part.TheVariants.{Opens, Closes, Leaf}
use Rattle.nest.proofs.Tape.{clash, no_is, told}
use Rattle.nest.proofs.Going.{Going, going_start, going_leaf, going_open, going_close, no_room, none-awaited, other-awaited, all_matched, one_awaited}

-- ---- the stack: the first n elements of an array, the last first

unfoldable pub stack_of : List ℕ → ℕ → List ℕ
stack_of a zero = []
stack_of a (suc n) = get_or a n 0 ∷ stack_of a n

length_stack : (a : List ℕ) (n : ℕ) → length (stack_of a n) ≡ n
unfolding stack_of
length_stack a zero = refl
length_stack a (suc n) = ap suc (length_stack a n)

stack_none : (a : List ℕ) {n : ℕ} → n ≡ 0 → stack_of a n ≡ []
unfolding stack_of
stack_none a h = rw h

stack_pop : (a : List ℕ) (n : ℕ) → (n ≡ 0 → ⊥) → stack_of a n ≡ get_or a (n - 1) 0 ∷ stack_of a (n - 1)
unfolding stack_of
stack_pop a n h = let e : n ≡ suc (n - 1) = omega arith in ap (stack_of a) e

stack_set : (a : List ℕ) (n k v : ℕ) → n ≤ k → stack_of (set a k v) n ≡ stack_of a n
unfolding stack_of
stack_set a zero k v h = refl
stack_set a (suc n) k v h = rw (get_or-set_other a k n v 0 (λ p. omega arith), stack_set a n k v (omega arith))

stack_push : (a : List ℕ) (n v : ℕ) → n < length a → stack_of (set a n v) (n + 1) ≡ v ∷ stack_of a n
unfolding stack_of
stack_push a n v h = rw (add-one, get_or-set_same a n v 0 h, stack_set a n n v (omega arith))

-- ---- the loop

pub record Loop (t : List Node) (i n : ℕ) (a : List ℕ) : Type 0 where
  pub going : Going t i (stack_of a n)
  pub size : length a ≡ 64
  pub fits : n ≤ 64

pub loop_start : {t : List Node} {a : List ℕ} {b : Bool} → (b ≡ true) ↔ RootEnds t → not b ≡ false → length a ≡ 64 → Loop t 0 0 a
unfolding stack_of
loop_start {b = b} root e w = record { going = going_start (root.0 (not-false b e)); size = w; fits = omega arith }

pub no_root : {t : List Node} {b : Bool} → (b ≡ true) ↔ RootEnds t → not b ≡ true → (false ≡ true) ↔ Sound t
no_root {b = b} root e = no_is (λ f. clash (root.1 f.nested.root) (not-true b e))

module _ {t : List Node} {i n : ℕ} {a : List ℕ} (g : Loop t i n a) {e : ℕ} (el : e ≡ link_at t 0) where
  -- the stack as it is, where the array has a top
  popped : (n ≡ 0 → ⊥) → Going t i (get_or a (n - 1) 0 ∷ stack_of a (n - 1))
  popped h = subst (Going t i) (stack_pop a n h) g.going

  emptied : n ≡ 0 → Going t i []
  emptied h = subst (Going t i) (stack_none a h) g.going

  module _ (l : i < e) {r : Part} (er : r ≡ part_of t i) where
    inner : i < link_at t 0
    inner = omega arith

    pub loop_leaf : r ≡ Leaf → Loop t (i + 1) n a
    loop_leaf h = record { going = going_leaf inner g.going (told t i er h); size = g.size; fits = g.fits }

    pub loop_open : {m : ℕ} → r ≡ Opens m → (n ≡ 64 → ⊥) → Loop t (i + 1) (n + 1) (set a n m)
    loop_open {m} h d =
        record {
          going = subst (Going t (i + 1)) (sym (stack_push a n m (omega (arith, g.size, g.fits))))
              (going_open inner g.going (told t i er h) (omega (arith, length_stack a n, g.fits)));
          size = length-set a n m ∙ g.size;
          fits = omega (arith, g.fits);
        }

    pub loop_close : r ≡ Closes → (n ≡ 0 → ⊥) → get_or a (n - 1) 0 ≡ i → Loop t (i + 1) (n - 1) a
    loop_close h d q =
        record { going = going_close inner (popped d) (told t i er h) q; size = g.size; fits = omega (arith, g.fits) }

    pub loop_full : {m : ℕ} → r ≡ Opens m → n ≡ 64 → (false ≡ true) ↔ Sound t
    loop_full h full = no_is (no_room inner g.going (told t i er h) (length_stack a n ∙ full))

    pub loop_none : r ≡ Closes → n ≡ 0 → (false ≡ true) ↔ Sound t
    loop_none h none = no_is (none-awaited inner (emptied none) (told t i er h))

    pub loop_other : r ≡ Closes → (n ≡ 0 → ⊥) → (get_or a (n - 1) 0 ≡ i → ⊥) → (false ≡ true) ↔ Sound t
    loop_other h some d = no_is (other-awaited inner (popped some) (told t i er h) d)

  pub loop_end : e ≤ i → (eqb n 0 ≡ true) ↔ Sound t
  loop_end l = (λ q. all_matched ended (emptied (eqb-true n 0 q)), go (eqb n 0) refl)
    where
      ended : i ≡ link_at t 0
      ended = omega (arith, g.going.short)

      go : (b : Bool) → eqb n 0 ≡ b → Sound t → b ≡ true
      go true q f = refl
      go false q f = absurd (one_awaited ended (popped (eqb-false n 0 q)) f)
