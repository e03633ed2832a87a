-- Rows that stand together: one turn along them.
use mathlib.Core.Path.{◌≡◌}
use mathlib.Core.Bool.{true, false}
use mathlib.Core.List.{List, [], ◌∷◌}
use Prim.Native.Nat.{ℕ}
use Rattle.tape.specs.File.{Tape}
use Rattle.tape.specs.Tree.{up_to}
use Rattle.render.specs.Shape.{is_row}
use Rattle.tables.specs.Rows.{is_no_row}

-- ---- a list by its first node

pub up-row : (t : Tape) (k : ℕ) (ks : List ℕ) → is_row t k ≡ true → up_to (is_no_row t) (k ∷ ks) ≡ k ∷ up_to (is_no_row t) ks
unfolding up_to
up-row t k ks h = rw h

pub up-other : (t : Tape) (k : ℕ) (ks : List ℕ) → is_row t k ≡ false → up_to (is_no_row t) (k ∷ ks) ≡ []
unfolding up_to
up-other t k ks h = rw h

pub up_none : (t : Tape) {ks : List ℕ} → ks ≡ [] → up_to (is_no_row t) ks ≡ []
unfolding up_to
up_none t h = rw h
