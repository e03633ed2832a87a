-- Example 12 of document 01, at this level.
use mathlib.Core.Path.{◌≡◌, refl}
use mathlib.Core.List.{[], ◌∷◌, map}
use Rattle.parts.specs.Bytes.{Bytes, b, begins}
use Rattle.render.specs.Note.{cell_align_of, align_word}

-- 12: cells
twelve : map (λ (name : Bytes). align_word (cell_align_of name)) (b "tcr2" ∷ b "thc1" ∷ b "tc1" ∷ []) ≡ b "end" ∷ b "center" ∷ b "start" ∷ []
unfolding cell_align_of align_word begins
twelve = refl
