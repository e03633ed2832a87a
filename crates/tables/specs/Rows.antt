-- The depth at a level, and rows that stand together.
use Rattle.std.specs.Prelude.{ℕ, ◌-◌, Bool, not}
use Rattle.tape.specs.File.{Tape}
use Rattle.render.specs.Shape.{is_row}

-- the depth that is left at a level: 64 containers may be entered in each other, and the blocks of Root stand at level 1
abbrev pub depth_at : ℕ → ℕ
depth_at level = 65 - level

-- where rows that stand together end
abbrev pub is_no_row : Tape → ℕ → Bool
is_no_row t k = not (is_row t k)
