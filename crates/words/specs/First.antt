-- What the code reads at the front of a text, and at its end.
use Rattle.std.specs.Prelude.{ℕ, ◌-◌, Bool, true, false, length, get_or, take}
use Rattle.parts.specs.Bytes.{Bytes}
use Rattle.chars.specs.Range.{◌to◌, within}
use Rattle.words.specs.Words.{step_of, white, white_len, word_len}
use Rattle.words.specs.declared.Set.{Set}
use Rattle.words.specs.declared.FirstChar.{FirstChar}

-- the first character's length, and whether it is white space
unfoldable pub front_of_of : Set → Bytes → FirstChar
front_of_of set s = record { width = step_of set s; white = white set (take (step_of set s) s) }

-- the bytes of white space at the front, or those before it
unfoldable pub run_of : Set → Bool → Bytes → ℕ
run_of set true s = white_len set s
run_of set false s = word_len set s

-- whether a byte is visible ASCII, 21..7E
unfoldable pub visible : ℕ → Bool
visible x = within (33 to 126) x

-- whether the last byte is
unfoldable pub ends_visible : Bytes → Bool
ends_visible s = visible (get_or s (length s - 1) 0)
