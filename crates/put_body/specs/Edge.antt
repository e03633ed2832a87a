-- A text without what the trim takes off its body.
use Rattle.std.specs.Prelude.{ℕ, Bool, ◌||◌, length, get_or, take, eqb}
use mathlib.Core.List.{flatten}
use Rattle.parts.specs.Bytes.{Bytes}
use Rattle.chars.specs.Utf8.{step}
use Rattle.words.specs.Words.{chars_of, white, take_while, drop_while, drop_end}
use Rattle.words.specs.declared.Set.TheVariants.{Unicode}
use Rattle.put_body.specs.declared.Front.{Front}

-- a character that is white space in a body: `~`, which becomes U+00A0, or Unicode white space
unfoldable pub soft : Bytes → Bool
soft c = eqb (get_or c 0 0) 126 || white Unicode c

-- the bytes of such characters that a text begins with
unfoldable pub soft_len : Bytes → ℕ
soft_len s = length (flatten (take_while soft (chars_of Unicode s)))

-- a text without such characters at its end
unfoldable pub core_end_of : Bytes → Bytes
core_end_of s = flatten (drop_end soft (chars_of Unicode s))

-- a text without such characters at its edges
unfoldable pub core_of : Bytes → Bytes
core_of s = core_end_of (flatten (drop_while soft (chars_of Unicode s)))

-- the first character of a text: its length, and whether it is soft
unfoldable pub front_of_of : Bytes → Front
front_of_of s = record { width = step s; soft = soft (take (step s) s) }
