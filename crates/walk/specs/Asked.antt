-- What a walk over the whole text gives, and leaves in a buffer.
use Rattle.std.specs.Prelude.{◌≡◌, ℕ, ◌^◌, ◌<◌, length}
use Rattle.parts.specs.Bytes.{Bytes}
use Rattle.window.specs.Page.{Page, paint}
use Rattle.tape.specs.File.{Tape}
use Rattle.events.specs.Text.{text_of, fitting}
use Rattle.walk.specs.Shows.{showing}
use Rattle.walk.specs.declared.Asked.{Asked}
use Rattle.walk.specs.declared.Asked.TheVariants.{Whole, From}

-- the page that the whole text leaves in a buffer that starts with one of its bytes
unfoldable pub whole_in : Tape → ℕ → Bytes → Page
whole_in t from out = paint (record { at = 0; from = from; buf = out }) (text_of t)

-- the buffer behind a walk that was asked for the whole text, or for a window of it
unfoldable pub left : Asked → Bytes → Bytes → Bytes
left Whole text out = (fitting text out).buffer
left (From from) text out = showing text from out

-- a walk over a tape: of a text under 2^60 bytes, as every admitted tape has, it gives the length, and leaves what was asked for
pub record Walked (t : Tape) (asked : Asked) (out : Bytes) (n : ℕ) (last : Bytes) : Type 0 where
  pub counts : length (text_of t) < 2 ^ 60 → n ≡ length (text_of t)
  pub leaves : length (text_of t) < 2 ^ 60 → last ≡ left asked (text_of t) out
