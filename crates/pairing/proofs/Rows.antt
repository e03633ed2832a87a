-- Milestones along a row of tags, from what is open in front of it.
use mathlib.Core.Path.{◌≡◌, subst}
use mathlib.Core.List.{List, [], ◌∷◌, ◌++◌}
use Prim.Native.Nat.{ℕ}
use native.Mathlib.Omega.{arith}
use Rattle.checker.specs.View.{View}
use Rattle.checker.specs.Words.{Demand}
use Rattle.checker.specs.Steps.{Held, shut}
use Rattle.checker.specs.Meaning.{since, open_behind, Fits, Milestones}
use Rattle.checker.proofs.Demands.{demand_exact}

-- every tag fits behind those before it, and nothing stays open
abbrev pub Row : Held → Held → List View → Type 0
Row c v [] = (c ≡ shut) × (v ≡ shut)
Row c v (w ∷ ws) = Fits c v w × Row (since 3 c w) (since 4 v w) ws

row_place : (c v : Held) (a : List View) (w : View) (z : List View) (vs : List View) → vs ≡ a ++ w ∷ z → Row c v vs
    → Fits (open_behind 3 c a) (open_behind 4 v a) w
unfolding open_behind
row_place c v [] w z [] e r = absurd (let no_way : ◌≡◌ {A = ℕ} 0 1 = cc in omega arith)
row_place c v (u ∷ a) w z [] e r = absurd (let no_way : ◌≡◌ {A = ℕ} 0 1 = cc in omega arith)
row_place c v [] w z (x ∷ vs) e r = let i : x ≡ w = cc in subst (Fits c v) i r.0
row_place c v (u ∷ a) w z (x ∷ vs) e r =
    let i : x ≡ u = cc in
    let j : vs ≡ a ++ w ∷ z = cc in
    row_place (since 3 c u) (since 4 v u) a w z vs j (subst (λ (y : View). Row (since 3 c y) (since 4 v y) vs) i r.1)

row_end : (c v : Held) (vs : List View) → Row c v vs → (open_behind 3 c vs ≡ shut) × (open_behind 4 v vs ≡ shut)
unfolding open_behind
row_end c v [] r = r
row_end c v (w ∷ ws) r = row_end (since 3 c w) (since 4 v w) ws r.1

-- from nothing open: the milestones are right in the words of demand 3
pub row_demand : (vs : List View) → Row shut shut vs → Demand vs
row_demand vs r =
    let m : Milestones vs =
    record {
      places = λ a w z e. row_place shut shut a w z vs e r;
      chapter = (row_end shut shut vs r).0;
      verse = (row_end shut shut vs r).1;
    } in
    (demand_exact vs).0 m
