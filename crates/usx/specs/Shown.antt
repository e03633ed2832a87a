-- What a call for a window of the text answers and leaves in the buffer: request Eleven of document 02.
use Rattle.std.specs.Prelude.{ℕ, zero, suc, length}
use Rattle.parts.specs.Bytes.{Bytes}
use Rattle.tape.specs.File.{tape_of}
use Rattle.admit.specs.Decide.{refusal}
use Rattle.events.specs.Text.{text_of}
use Rattle.walk.specs.Shows.{window_of, showing}
use Rattle.usx.specs.declared.Shown.{Shown}
use Rattle.usx.specs.declared.Shown.TheVariants.{Given, Refused}

-- the number of an answer, how many bytes it gives, how long the whole text is, and the whole buffer behind it
pub record View : Type 0 where
  pub number : ℕ
  pub given : ℕ
  pub whole : ℕ
  pub buffer : Bytes

-- "1 to 7 as before; 8 is never given": a refusal gives no length and writes nothing
unfoldable pub view_by : ℕ → Bytes → ℕ → Bytes → View
view_by zero text from out =
    record { number = 0; given = length (window_of text from (length out)); whole = length text; buffer = showing text from out }
view_by (suc n) text from out = record { number = suc n; given = 0; whole = 0; buffer = out }

-- what a call gives for a file, a starting byte and a buffer
unfoldable pub view : Bytes → ℕ → Bytes → View
view file from out = view_by (refusal file) (text_of (tape_of file)) from out

-- document 01's number of an answer: 0 where a window is given
unfoldable pub shown_number : Shown → ℕ
shown_number (Given bytes whole) = 0
shown_number (Refused n) = n

-- how many bytes an answer gives: none where the tape is refused
unfoldable pub shown_bytes : Shown → ℕ
shown_bytes (Given bytes whole) = bytes
shown_bytes (Refused n) = 0

-- how long it says the whole text is
unfoldable pub shown_whole : Shown → ℕ
shown_whole (Given bytes whole) = whole
shown_whole (Refused n) = 0

-- an answer and the buffer behind it
unfoldable pub view_of : Shown → Bytes → View
view_of s buffer = record { number = shown_number s; given = shown_bytes s; whole = shown_whole s; buffer = buffer }
