-- What is still to be written of a text that is split at `//`.
use Rattle.std.specs.Prelude.{ℕ, ◌+◌, List, [], map, cond, length, drop, ltb}
use Rattle.parts.specs.Bytes.{Bytes}
use Rattle.words.specs.Words.{trim}
use Rattle.words.specs.declared.Set.TheVariants.{Unicode}
use Rattle.texts.specs.Text.{body_of, split_breaks}
use Rattle.events.specs.Event.{Event}
use Rattle.events.specs.Walk.{breaks}

-- a segment: the body of a piece, trimmed
unfoldable pub segment : Bytes → Bytes
segment s = trim Unicode (body_of s)

-- the segments behind the `//` at a place, where it is one
unfoldable pub breaks_from : Bytes → ℕ → List Event
breaks_from s at = cond (ltb at (length s)) (breaks (map segment (split_breaks (drop (at + 2) s)))) []
