-- A window of the text: request Eleven of document 02.
use Rattle.std.specs.Prelude.{ℕ, ◌++◌, length, take, drop}
use Rattle.parts.specs.Bytes.{Bytes}

-- "the text's bytes from there until the buffer or the text ends": from one on, as many as there is room for
unfoldable pub window_of : Bytes → ℕ → ℕ → Bytes
window_of text from room = take room (drop from text)

-- those bytes at the front of a buffer, and behind them what the buffer held
unfoldable pub showing : Bytes → ℕ → Bytes → Bytes
showing text from out = window_of text from (length out) ++ drop (length (window_of text from (length out))) out
