-- Parts of what is written for a figure of old, each by a function of its own.
use Rattle.std.specs.Prelude.{ℕ, List, ◌++◌}
use Rattle.parts.specs.Bytes.{b}
use Rattle.tape.specs.File.{Tape}
use Rattle.attrs.specs.Attr.{Pair}
use Rattle.figure.specs.Figure.{field_at, described_by, valued}

-- the first three attributes of a figure of old
unfoldable pub about_pairs : Tape → ℕ → ℕ → List Pair
about_pairs t k a = valued (b "alt") (described_by t k) ++ (valued (b "file") (field_at t a 0) ++ valued (b "size") (field_at t a 1))

-- the last three attributes of a figure of old
unfoldable pub place_pairs : Tape → ℕ → List Pair
place_pairs t a = valued (b "loc") (field_at t a 2) ++ (valued (b "copy") (field_at t a 3) ++ valued (b "ref") (field_at t a 5))
