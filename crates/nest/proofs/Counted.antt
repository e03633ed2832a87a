-- The loop of too_deep: where it stands, its steps and its answers.
use mathlib.Core.Path.{◌≡◌, refl}
use mathlib.Core.Bool.{true, false, cond}
use mathlib.Core.List.{List}
use mathlib.Core.Logic.{◌↔◌}
use Prim.Native.Nat.{ℕ, ◌+◌, ◌≤◌, ◌<◌}
use native.Mathlib.Nat.{add-zero}
use native.Mathlib.Omega.{arith}
use borrow.Author.Count.{below_more}
use Rattle.parts.specs.Bytes.{Bytes}
use Rattle.tape.specs.File.{tape_in}
use Rattle.tape.specs.declared.Node.{Node}
use Rattle.tape.specs.declared.Sections.{Sections}
use Rattle.tape.proofs.Laws.{node-count}
use Rattle.nest.specs.Nest.{container, close, count, DeepAt, TooDeep, part_of}
use Rattle.nest.specs.declared.Part.{Part}
use Rattle.nest.specs.declared.Part.TheVariants.{Opens, Closes, Leaf}
use Rattle.nest.proofs.Tape.{yes_is, no_is, told, count_yes, count_no}

-- before i stand o containers and c closes, and no node is too deep
pub record Counted (t : List Node) (i o c : ℕ) : Type 0 where
  pub opened : o ≡ count (container t) i
  pub closed : c ≡ count (close t) i
  pub few : (o ≤ i) × (c ≤ i)
  pub low : (k : ℕ) → k < i → DeepAt t k → ⊥

pub counted_start : (t : List Node) → Counted t 0 0 0
unfolding count
counted_start t = record { opened = refl; closed = refl; few = omega arith; low = λ k h. absurd (omega arith) }

module _ {t : List Node} {i o c : ℕ} {r : Part} (g : Counted t i o c) (low : o ≤ c + 64) (e : r ≡ part_of t i) where
  low_more : (k : ℕ) → k < i + 1 → DeepAt t k → ⊥
  low_more = below_more _ _ g.low (λ d. omega (arith, g.opened, g.closed))

  pub counted_open : {l : ℕ} → r ≡ Opens l → Counted t (i + 1) (o + 1) c
  counted_open h =
      let p = told t i e h in
      record {
        opened = omega (arith, g.opened, count_yes (container t) i p.0);
        closed = omega (arith, g.closed, count_no (close t) i p.1);
        few = omega (arith, g.few);
        low = low_more;
      }

  pub counted_close : r ≡ Closes → Counted t (i + 1) o (c + 1)
  counted_close h =
      let p = told t i e h in
      record {
        opened = omega (arith, g.opened, count_no (container t) i p.0);
        closed = omega (arith, g.closed, count_yes (close t) i p.1);
        few = omega (arith, g.few);
        low = low_more;
      }

  pub counted_leaf : r ≡ Leaf → Counted t (i + 1) o c
  counted_leaf h =
      let p = told t i e h in
      record {
        opened = omega (arith, g.opened, count_no (container t) i p.0);
        closed = omega (arith, g.closed, count_no (close t) i p.1);
        few = omega (arith, g.few);
        low = low_more;
      }

-- the step as deepFrom takes it
pub counted_next : {t : List Node} {i o c : ℕ} → Counted t i o c → o ≤ c + 64
    → Counted t (i + 1) (o + cond (container t i) 1 0) (c + cond (close t i) 1 0)
counted_next {t} {i} {o} {c} g low = go (part_of t i) refl
  where
    go : (p : Part) → part_of t i ≡ p → Counted t (i + 1) (o + cond (container t i) 1 0) (c + cond (close t i) 1 0)
    go (Opens l) e = let p = told t i refl e in simp (p.0, p.1, add-zero) (counted_open g low refl e)
    go Closes e = let p = told t i refl e in simp (p.0, p.1, add-zero) (counted_close g low refl e)
    go Leaf e = let p = told t i refl e in simp (p.0, p.1, add-zero) (counted_leaf g low refl e)

pub deep_yes : (s : Sections) (file : Bytes) {i o c : ℕ} → Counted (tape_in s file).nodes i o c → i < s.nodes → c + 64 < o → (true ≡ true) ↔ TooDeep (tape_in s file).nodes
deep_yes s file {i} g l h = yes_is (i, omega (arith, node-count s file), omega (arith, g.opened, g.closed))

pub deep_no : (s : Sections) (file : Bytes) {i o c : ℕ} → Counted (tape_in s file).nodes i o c → s.nodes ≤ i → (false ≡ true) ↔ TooDeep (tape_in s file).nodes
deep_no s file g l = no_is (λ d. g.low d.0 (omega (arith, d.1, node-count s file)) d.2)
