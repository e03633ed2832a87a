-- Laws of answers, and of loops that ask one thing of every index.
use mathlib.Core.Path.{◌≡◌, refl}
use mathlib.Core.Bool.{Bool, true, false}
use mathlib.Core.Logic.{◌↔◌}
use Prim.Native.Nat.{ℕ, ◌≤◌, ◌<◌}
use native.Mathlib.Omega.{arith}
use lib.Dec.{eqb, leb}
use borrow.Author.Tests.{eq-eqb, eqb-true, le-leb, leb-true}
use Rattle.std.proofs.Common.{List, get_or, length, ◌∙◌, subst, zero-add, Option}
use Rattle.std.proofs.lemmas.Iterator.{cases_from_all, YieldsList-from_range}
use Rattle.std.proofs.lemmas.List.FromFn.{length-range_with_len, get_or-range_with_len}
use Rattle.std.proofs.iter.Yields.{nat_range_steps}
use Rattle.std.specs.Bool.{MatchBool}
use Rattle.std.specs.Fn.{Called}
use Rattle.std.specs.Iterator.{YieldsThen}
use Rattle.std.specs.List.{range_with_len, FoldsTo, AllWithin, HoldsAt}
use Rattle.std.specs.Option.{MatchOption}
use Rattle.std.specs.declared.ops.Range.{Range}
use denote.Param.Members.{Mut}
use Rattle.nest.proofs.Tape.{yes_is}
use Rattle.nest.proofs.Tape.{yes_is, no_is, clash}

-- an answer by a comparison
pub eq_is : {P : Type 0} (a b : ℕ) → (a ≡ b → P) → (P → a ≡ b) → (eqb a b ≡ true) ↔ P
eq_is a b f g = (λ e. f (eqb-true a b e), λ p. eq-eqb a b (g p))

pub le_is : {P : Type 0} (a b : ℕ) → (a ≤ b → P) → (P → a ≤ b) → (leb a b ≡ true) ↔ P
le_is a b f g = (λ e. f (leb-true a b e), λ p. le-leb a b (g p))

-- an answer is handed on
pub same_is : {P Q : Type 0} {b : Bool} → (b ≡ true) ↔ P → (P → Q) → (Q → P) → (b ≡ true) ↔ Q
same_is a f g = (λ e. f (a.0 e), λ q. a.1 (g q))

-- ---- `all` over 0..n

-- what its answer says, from what the closure's answers say of an index
pub all_below : {F : Type 0} {g : Mut F (ℕ × Unit {0}) Bool} {s : Range ℕ} (u : Range ℕ) (f : F) (r : Bool) (m n : ℕ) (Yes No : ℕ → Type 0)
    → (xs : List ℕ) × (o : Option ℕ) × (j : F) × YieldsThen nat_range_steps s xs o u × FoldsTo (λ p x q. Called g p (x, tt) true q) f xs j
    × MatchOption o (r ≡ true) (λ x. (r ≡ false) × ((h : F) × Called g j (x, tt) false h))
    → s ≡ record { start = 0; end = m } → m ≡ n → ((x : ℕ) (q : F) → Called g f (x, tt) true q → (q ≡ f) × Yes x)
    → ((x : ℕ) (q : F) → Called g f (x, tt) false q → No x) → MatchBool r ((k : ℕ) → k < n → Yes k) ((k : ℕ) × (k < n) × No k)
all_below u f r m n Yes No ran e same kept broken =
    go r (cases_from_all u f r Yes No ran (YieldsList-from_range 0 m n e (omega arith)) kept broken)
  where
    at : (k d : ℕ) → k < n → get_or (range_with_len 0 n) k d ≡ k
    at k d l = get_or-range_with_len 0 n k d l ∙ zero-add k

    go : (r : Bool) → MatchBool r (AllWithin Yes (range_with_len 0 n) 0 (length (range_with_len 0 n))) ((k : ℕ) × (k < length (range_with_len 0 n)) × HoldsAt No (range_with_len 0 n) k)
        → MatchBool r ((k : ℕ) → k < n → Yes k) ((k : ℕ) × (k < n) × No k)
    go true h = λ k l. subst Yes (at k 0 l) (h k 0 (omega arith) (omega (arith, length-range_with_len 0 n)))
    go false h =
        let l : h.0 < n = omega (arith, h.1, length-range_with_len 0 n) in (h.0, l, subst No (at h.0 0 l) (h.2 0))

-- it decides a fact of each index
pub decides_each : {n : ℕ} {Yes No : ℕ → Type 0} (r : Bool) (P : ℕ → Type 0) → MatchBool r ((k : ℕ) → k < n → Yes k) ((k : ℕ) × (k < n) × No k)
    → ((k : ℕ) → k < n → Yes k → P k) → ((k : ℕ) → k < n → No k → P k → ⊥) → (r ≡ true) ↔ ((k : ℕ) → k < n → P k)
decides_each true P h kept broken = yes_is (λ k l. kept k l (h k l))
decides_each false P h kept broken = no_is (λ p. broken h.0 h.1 h.2 (p h.0 h.1))

-- what a true answer says
pub told : {P : Type 0} (Q : Type 0) (r : Bool) → MatchBool r P Q → r ≡ true → P
told Q true h e = h
told Q false h e = absurd (clash e refl)
