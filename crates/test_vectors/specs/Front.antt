-- What an answer leaves of a buffer.
use Rattle.std.specs.Prelude.{◌≡◌}
use Rattle.parts.specs.Bytes.{Bytes}
use Rattle.window.specs.Page.{Page, paint}

-- a page is another behind which some text was written
pub data Written (p q : Page) : Type 0 where
  by : (text : Bytes) → q ≡ paint p text → Written p q
