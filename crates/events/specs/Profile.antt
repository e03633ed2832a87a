-- Profiles: which text of a tape is written.
use Rattle.std.specs.Prelude.{List}
use Rattle.parts.specs.Bytes.{Bytes}
use Rattle.tags.specs.Items.{Item, render}

-- which text is written: the one that the Rust writes
pub data Profile : Type 0 where
  rust : Profile

-- the bytes of items in a profile
unfoldable pub render_as : Profile → List Item → Bytes
render_as rust is = render is
