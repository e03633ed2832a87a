-- Steps one after the other.
use mathlib.Core.List.{List, [], ◌∷◌, ◌++◌}
use Prim.Native.Nat.{ℕ}
use Rattle.draft.specs.Draft.{Draft, Act}
use Rattle.draft.specs.Grown.{Proper, Grown, step}
use Rattle.draft.specs.Rebuild.{Runs, none, more}

-- steps behind steps
pub runs_append : {room : ℕ} {d mid last : Draft} {xs ys : List Act} → Runs room d xs mid → Runs room mid ys last → Runs room d (xs ++ ys) last
runs_append none r = r
runs_append (more h s) r = more h (runs_append s r)

-- the node of each step is of that step's kinds
abbrev pub AllProper : List Act → Type 0
AllProper [] = Unit {0}
AllProper (a ∷ rest) = Proper a × AllProper rest

-- such steps lead from a draft that steps have built to one that steps have built
pub runs_grown : {room : ℕ} {d last : Draft} {acts : List Act} → Grown d → Runs room d acts last → AllProper acts → Grown last
runs_grown g none p = g
runs_grown {room} g (more {a = a} h r) p = runs_grown (step g a p.0 room h) r p.1
