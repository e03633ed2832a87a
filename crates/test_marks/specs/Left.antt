-- The marks of a buffer.
use Rattle.std.specs.Prelude.{ℕ, ◌+◌, cond, List, [], ◌∷◌, eqb}

-- how many bytes are the mark
unfoldable pub marks_in : List ℕ → ℕ
marks_in [] = 0
marks_in (x ∷ s) = cond (eqb x 255) 1 0 + marks_in s
