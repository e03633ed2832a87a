-- What a call leaves, from what its parts ensure.
use mathlib.Core.Path.{◌≡◌, refl, subst, ◌∙◌}
use mathlib.Core.List.{List, [], ◌∷◌}
use Prim.Native.Nat.{ℕ, ◌≤◌, min}
use native.Mathlib.Omega.{arith}
use lib.ListN.{length, set}
use borrow.Author.Tests.{leb-true, leb-false}
use lib.Dec.{leb}
use mathlib.Core.Bool.{Bool, true, false, cond}
use Rattle.parts.specs.Bytes.{Bytes}
use Rattle.layout.specs.declared.Writer.{Writer}
use Rattle.writer.specs.declared.Answer.{Answer}
use Rattle.writer.proofs.StepRule.{kept, done}
use Rattle.steps.specs.Numbers.{phase_in_of, writer_in, kept_in, stored_in, Called, asked}

-- ---- phases

pub phase_least : (p : ℕ) → min p 3 ≡ phase_in_of p
unfolding phase_in_of
phase_least p = go (leb p 2) refl
  where
    go : (b : Bool) → leb p 2 ≡ b → min p 3 ≡ cond b p 3
    go true e = omega (arith, leb-true p 2 e)
    go false e = omega (arith, leb-false p 2 e)

-- ---- numbers

-- seven stores, one by one
pub kept_made : (st : List ℕ) (w : Writer) → 8 ≤ length st
    → set (set (set (set (set (set (set st 0 w.phase) 1 w.nodes) 2 w.entries) 3 w.names) 4 w.source) 5 w.inner) 6 w.depth ≡ kept_in st w
unfolding kept_in
kept_made [] w l = absurd (omega arith)
kept_made (_ ∷ []) w l = absurd (omega arith)
kept_made (_ ∷ _ ∷ []) w l = absurd (omega arith)
kept_made (_ ∷ _ ∷ _ ∷ []) w l = absurd (omega arith)
kept_made (_ ∷ _ ∷ _ ∷ _ ∷ []) w l = absurd (omega arith)
kept_made (_ ∷ _ ∷ _ ∷ _ ∷ _ ∷ []) w l = absurd (omega arith)
kept_made (_ ∷ _ ∷ _ ∷ _ ∷ _ ∷ _ ∷ []) w l = absurd (omega arith)
kept_made (_ ∷ _ ∷ _ ∷ _ ∷ _ ∷ _ ∷ _ ∷ rest) w l = refl

-- a refused step, and one that is done
pub stored_kept : (st : List ℕ) (r : Answer) {n : ℕ} → n ≡ r.length → (r.number ≡ 0 → ⊥) → set st 7 n ≡ stored_in st r
unfolding stored_in
stored_kept st r en h = (λ i. set (kept r.number (kept_in st r.writer) st h i) 7 (en i))

pub stored_done : (st : List ℕ) (r : Answer) {n : ℕ} {mid : List ℕ} → n ≡ r.length → r.number ≡ 0 → mid ≡ kept_in st r.writer → set mid 7 n ≡ stored_in st r
unfolding stored_in
stored_done st r en h em = (λ i. set ((em ∙ done r.number (kept_in st r.writer) st h) i) 7 (en i))

-- ---- calls

-- a step asked for the state that was read
pub called : {st : List ℕ} {buf : Bytes} {Step : Writer → Bytes → Answer → Bytes → Type 0} {w : Writer} (r : Answer) {number : ℕ} {after : List ℕ} {last : Bytes}
    → 8 ≤ length st → w ≡ writer_in st → Step w buf r last → number ≡ r.number → after ≡ stored_in st r → Called st buf Step number after last
called {buf = buf} {Step = Step} r {last = last} l ew h en es = asked r l (subst (λ (v : Writer). Step v buf r last) ew h) en es
