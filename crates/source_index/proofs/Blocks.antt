-- Tables of places: filled from the last block on, and asked.
use mathlib.Core.Path.{◌≡◌, refl, sym, ap, ◌∙◌}
use mathlib.Core.Bool.{Bool, true, false, cond}
use mathlib.Core.List.{List}
use Prim.Native.Nat.{ℕ, ◌+◌, ◌-◌, ◌/◌, ◌≤◌, ◌<◌, ◌^◌}
use native.Mathlib.Omega.{arith}
use lib.ListN.{length, get_or, set, length-set}
use lib.Seq.{get_or-set_same, get_or-set_other}
use lib.Dec.{ltb, eqb}
use borrow.Author.Tests.{lt-ltb, le-ltb, ltb-true, ltb-false, eqb-true, eqb-false}
use Rattle.parts.specs.Bytes.{Bytes}
use Rattle.source_index.specs.Seek.{next_from, edge_of, Right, RightFrom, Sought}
use Rattle.source_index.specs.declared.Test.{Test}
use Rattle.source_index.proofs.Firsts.{next_le, next-same, sought_all, sought_hit, sought_none}

-- ---- filling

pub found_some : (p end other : ℕ) → p < end → p ≡ cond (ltb p end) p other
found_some p end other h = rw (lt-ltb p end h)

pub found_none : (p end other : ℕ) → end ≤ p → other ≡ cond (ltb p end) p other
found_none p end other h = rw (le-ltb p end h)

-- what holds while the blocks from one on are filled
pub record Filled (test : Test) (s : Bytes) (b next : ℕ) (table : List ℕ) : Type 0 where
  pub bound : b ≤ length table
  pub place : next ≡ next_from test s (edge_of s b)
  pub right : length s < 2 ^ 32 → RightFrom b test s table

module _ {test : Test} {s : Bytes} {table : List ℕ} {b : ℕ} where
  pub fill_start : {e n r : ℕ} → b ≡ length table → e ≡ edge_of s b → n ≡ length s → Sought test s e n r → Filled test s b r table
  fill_start {e} eb ee en q =
      record {
        bound = omega arith;
        place = sought_all en q (omega arith) ∙ ap (next_from test s) ee;
        right = λ h. record { block = λ j l k. absurd (omega arith) };
      }

  pub fill-turn : {next end e p next' v : ℕ} → Filled test s b next table → 0 < b → end ≡ edge_of s (b - 1 + 1) → e ≡ edge_of s (b - 1) → Sought test s e end p
      → next' ≡ cond (ltb p end) p next → (next' < 2 ^ 32 → v ≡ next') → Filled test s (b - 1) next' (set table (b - 1) v)
  fill-turn {next} {end} {e} {p} {next'} {v} f pos behind ee q en ev =
      record { bound = omega (arith, f.bound, length-set table (b - 1) v); place = place; right = right }
    where
      ed : end ≡ edge_of s b
      ed = let same : b - 1 + 1 ≡ b = omega arith in behind ∙ ap (edge_of s) same

      go : (t : Bool) → ltb p end ≡ t → next' ≡ cond t p next → next' ≡ next_from test s e
      go true t n = n ∙ sought_hit q (omega arith) (ltb-true p end t)
      go false t n =
          n ∙ f.place ∙ sym (ap (next_from test s) ed) ∙ sought_none q (omega arith) (omega arith) (ltb-false p end t)

      place : next' ≡ next_from test s (edge_of s (b - 1))
      place = go (ltb p end) refl en ∙ ap (next_from test s) ee

      right : length s < 2 ^ 32 → RightFrom (b - 1) test s (set table (b - 1) v)
      right h = record { block = λ j l k. at j l k (eqb j (b - 1)) refl }
        where
          low : next' < 2 ^ 32
          low = omega (arith, place, next_le test s (edge_of s (b - 1)) (omega arith))

          at : (j : ℕ) → b - 1 ≤ j → j < length (set table (b - 1) v) → (t : Bool) → eqb j (b - 1) ≡ t
              → get_or (set table (b - 1) v) j 0 ≡ next_from test s (edge_of s j)
          at j l k true t =
              let z : j ≡ b - 1 = eqb-true j (b - 1) t in
              ap (λ (n : ℕ). get_or (set table (b - 1) v) n 0) z
              ∙ get_or-set_same table (b - 1) v 0 (omega (arith, f.bound))
              ∙ ev low ∙ place ∙ sym (ap (λ (n : ℕ). next_from test s (edge_of s n)) z)
          at j l k false t =
              let z = eqb-false j (b - 1) t in
              get_or-set_other table (b - 1) j v 0 z ∙ (f.right h).block j (omega arith) (omega (arith, length-set table (b - 1) v))

-- ---- asking

module _ {test : Test} {s : Bytes} {table : List ℕ} {i b : ℕ} (eb : b ≡ i / 64) where
  pub ask_own : {p : ℕ} → b < length table → p ≡ get_or table b 0 → i ≤ p → Right test s table → i ≤ length s → p ≡ next_from test s i
  ask_own {p} k ep l t h =
      let q : p ≡ next_from test s (edge_of s b) = ep ∙ t.block b (omega arith) k in
      q ∙ sym (next-same test s (edge_of s b) i (omega arith) (omega arith))

module _ {test : Test} {s : Bytes} {table : List ℕ} {i b end p : ℕ} (eb : b ≡ i / 64 + 1) (ee : end ≡ edge_of s b) (q : Sought test s i end p) where
  pub ask_far : {n r : ℕ} → end ≤ p → n ≡ length s → Sought test s end n r → Right test s table → i ≤ length s → r ≡ next_from test s i
  ask_far l en z t h = sought_all en z (omega arith) ∙ sought_none q (omega arith) (omega arith) l
