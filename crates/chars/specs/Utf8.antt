-- UTF-8, from Unicode's tables 3-6 and 3-7: sequences, characters, code points.
use Rattle.std.specs.Prelude.{ℕ, zero, suc, ◌+◌, ◌-◌, ◌*◌, max, ◌≡◌, Bool, true, false, cond, not, ◌&&◌, ◌||◌, length, take, get_or, eqb, ltb}
use mathlib.Core.List.{List, [], ◌∷◌, flatten, Memᴰ}
use Rattle.parts.specs.Bytes.{Bytes}
use Rattle.chars.specs.Range.{Range, ◌to◌, within}
use Rattle.chars.specs.declared.Char.{Char}

-- ---- sequences

-- 80..BF, the bytes that follow the first of a sequence
abbrev pub tail : Range
tail = 128 to 191

-- table 3-7, a row a line: the ranges of a well-formed sequence's bytes
unfoldable pub table37 : List (List Range)
table37 =
    (0 to 127 ∷ [])
    ∷ (194 to 223 ∷ tail ∷ [])
    ∷ (224 to 224 ∷ 160 to 191 ∷ tail ∷ [])
    ∷ (225 to 236 ∷ tail ∷ tail ∷ [])
    ∷ (237 to 237 ∷ 128 to 159 ∷ tail ∷ [])
    ∷ (238 to 239 ∷ tail ∷ tail ∷ [])
    ∷ (240 to 240 ∷ 144 to 191 ∷ tail ∷ tail ∷ [])
    ∷ (241 to 243 ∷ tail ∷ tail ∷ tail ∷ [])
    ∷ (244 to 244 ∷ 128 to 143 ∷ tail ∷ tail ∷ [])
    ∷ []

-- whether a text begins with bytes of these ranges
unfoldable pub fits : List Range → Bytes → Bool
fits [] s = true
fits (r ∷ rs) [] = false
fits (r ∷ rs) (x ∷ s) = within r x && fits rs s

-- the length of the first row that fits, and 0 where none does
unfoldable pub row_len : List (List Range) → Bytes → ℕ
row_len [] s = 0
row_len (r ∷ rs) s = cond (fits r s) (length r) (row_len rs s)

-- the length of the well-formed sequence that a text begins with, and 0 where it begins with none
unfoldable pub seq_len : Bytes → ℕ
seq_len s = row_len table37 s

-- ---- characters

-- the length of a text's first character: a byte that begins no sequence is a character of its own
unfoldable pub step : Bytes → ℕ
step [] = 0
step (x ∷ s) = max 1 (seq_len (x ∷ s))

-- a text cut into pieces, where `size` gives the length of the first of what is left. A definition by cases goes on a byte at a time:
-- `k` counts the bytes of a piece that is taken already and are still to be passed
unfoldable pub cut_at : (Bytes → ℕ) → ℕ → Bytes → List Bytes
cut_at size k [] = []
cut_at size (suc k) (x ∷ s) = cut_at size k s
cut_at size zero (x ∷ s) = take (size (x ∷ s)) (x ∷ s) ∷ cut_at size (size (x ∷ s) - 1) s

-- a text cut into pieces, where `size` gives the length of the first
abbrev pub cut : (Bytes → ℕ) → Bytes → List Bytes
cut size s = cut_at size zero s

-- the characters of a text, each as its bytes
unfoldable pub characters : Bytes → List Bytes
characters s = cut step s

-- whether a character is a well-formed sequence
unfoldable pub is_sequence : Bytes → Bool
is_sequence c = eqb (seq_len c) (length c)

-- whether each of some pieces passes a test
unfoldable pub every : (Bytes → Bool) → List Bytes → Bool
every p [] = true
every p (c ∷ cs) = p c && every p cs

-- UTF-8: every character is a well-formed sequence
unfoldable pub is_utf8 : Bytes → Bool
is_utf8 s = every is_sequence (characters s)

-- a well-formed sequence: as many bytes as a row of table 3-7 has ranges, each in its range
pub record Sequence (c : Bytes) : Type 0 where
  pub row : List Range
  pub listed : Memᴰ row table37
  pub long : length row ≡ length c
  pub fitting : fits row c ≡ true

-- a text that is well-formed sequences, one behind the other; these are the texts of UTF-8
pub record Partition (s : Bytes) : Type 0 where
  pub pieces : List Bytes
  pub each : (c : Bytes) → Memᴰ c pieces → Sequence c
  pub whole : flatten pieces ≡ s

-- table 3-6: the code point of a well-formed sequence
unfoldable pub point : Bytes → ℕ
point [] = 0
point (x ∷ []) = x
point (x ∷ y ∷ []) = (x - 192) * 64 + (y - 128)
point (x ∷ y ∷ z ∷ []) = (x - 224) * 4096 + (y - 128) * 64 + (z - 128)
point (x ∷ y ∷ z ∷ w ∷ []) = (x - 240) * 262144 + (y - 128) * 4096 + (z - 128) * 64 + (w - 128)
point (x ∷ y ∷ z ∷ w ∷ v ∷ s) = 0

-- the code point of a character; U+FFFD for a byte that is no sequence
unfoldable pub code_of : Bytes → ℕ
code_of c = cond (is_sequence c) (point c) 65533

-- the first character of a text: its code point, and its length
unfoldable pub first_char : Bytes → Char
first_char s = record { code = code_of (take (step s) s); width = step s }

-- ---- places between characters

-- a place between characters: behind the first so many of them
pub record Between (s : Bytes) (at : ℕ) : Type 0 where
  pub passed : ℕ
  pub place : at ≡ length (flatten (take passed (characters s)))

-- at the end of a text, or at a byte that continues no sequence; in UTF-8 these are the places between characters
unfoldable pub is_boundary : Bytes → ℕ → Bool
is_boundary s at = eqb at (length s) || (ltb at (length s) && not (within tail (get_or s at 0)))
