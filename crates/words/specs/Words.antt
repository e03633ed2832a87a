-- Words and trims of a text, by the white space of either set.
use Rattle.std.specs.Prelude.{ℕ, zero, suc, ◌+◌, min, Bool, cond, not, length, drop, get_or}
use mathlib.Core.List.{List, [], ◌∷◌, ◌++◌, flatten}
use Rattle.parts.specs.Bytes.{Bytes, part}
use Rattle.chars.specs.Utf8.{step, cut, every, code_of}
use Rattle.chars.specs.Space.{is_white, is_ascii_white}
use Rattle.words.specs.declared.Set.{Set}
use Rattle.words.specs.declared.Set.TheVariants.{Ascii, Unicode}
use Rattle.words.specs.declared.Part.{Part}

-- ---- characters and white space of a set

-- how many bytes the first character of a text takes: in ASCII one
unfoldable pub step_of : Set → Bytes → ℕ
step_of Ascii s = min 1 (length s)
step_of Unicode s = step s

-- the characters of a text, each as its bytes
unfoldable pub chars_of : Set → Bytes → List Bytes
chars_of set s = cut (step_of set) s

-- whether a character is white space
unfoldable pub white : Set → Bytes → Bool
white Ascii c = is_ascii_white (get_or c 0 0)
white Unicode c = is_white (code_of c)

-- a character that is no white space
unfoldable pub solid : Set → Bytes → Bool
solid set c = not (white set c)

-- ---- characters in a row

-- the first characters that pass a test
unfoldable pub take_while : (Bytes → Bool) → List Bytes → List Bytes
take_while p [] = []
take_while p (c ∷ cs) = cond (p c) (c ∷ take_while p cs) []

-- what follows them
unfoldable pub drop_while : (Bytes → Bool) → List Bytes → List Bytes
drop_while p [] = []
drop_while p (c ∷ cs) = cond (p c) (drop_while p cs) (c ∷ cs)

-- a character in front of others, unless it passes the test and is the last
unfoldable pub keep : (Bytes → Bool) → Bytes → List Bytes → List Bytes
keep p c [] = cond (p c) [] (c ∷ [])
keep p c (d ∷ ds) = c ∷ d ∷ ds

-- without the last characters that pass a test
unfoldable pub drop_end : (Bytes → Bool) → List Bytes → List Bytes
drop_end p [] = []
drop_end p (c ∷ cs) = keep p c (drop_end p cs)

-- a character at the front of the first piece
unfoldable pub onto : Bytes → List Bytes → List Bytes
onto c [] = c ∷ []
onto c (w ∷ ws) = (c ++ w) ∷ ws

-- the pieces between the characters that pass a test, the empty ones too
unfoldable pub pieces : (Bytes → Bool) → List Bytes → List Bytes
pieces p [] = [] ∷ []
pieces p (c ∷ cs) = cond (p c) ([] ∷ pieces p cs) (onto c (pieces p cs))

-- the pieces that are not empty
unfoldable pub nonempty : List Bytes → List Bytes
nonempty [] = []
nonempty ([] ∷ ws) = nonempty ws
nonempty ((x ∷ w) ∷ ws) = (x ∷ w) ∷ nonempty ws

-- ---- texts

-- the words of a text: what stands between white space
unfoldable pub words : Set → Bytes → List Bytes
words set s = nonempty (pieces (white set) (chars_of set s))

-- a text without the white space that it begins with
unfoldable pub trim_start : Set → Bytes → Bytes
trim_start set s = flatten (drop_while (white set) (chars_of set s))

-- a text without the white space that it ends with
unfoldable pub trim_end : Set → Bytes → Bytes
trim_end set s = flatten (drop_end (white set) (chars_of set s))

-- a text without white space at both ends
unfoldable pub trim : Set → Bytes → Bytes
trim set s = trim_end set (trim_start set s)

-- whether a text is white space alone, or empty
unfoldable pub is_blank_of : Set → Bytes → Bool
is_blank_of set s = every (white set) (chars_of set s)

-- the bytes of white space that a text begins with
unfoldable pub white_len : Set → Bytes → ℕ
white_len set s = length (flatten (take_while (white set) (chars_of set s)))

-- the bytes before its first white space
unfoldable pub word_len : Set → Bytes → ℕ
word_len set s = length (flatten (take_while (solid set) (chars_of set s)))

-- what follows the first word
unfoldable pub after_word : Set → Bytes → Bytes
after_word set s = let t = trim_start set s in drop (word_len set t) t

-- the last of a list of words, or nothing
unfoldable pub last_of : List Bytes → Bytes
last_of [] = []
last_of (w ∷ []) = w
last_of (w ∷ v ∷ ws) = last_of (v ∷ ws)

-- ---- words as parts of a text

-- the bytes of a part
abbrev pub bytes_of : Bytes → Part → Bytes
bytes_of s p = part s p.start p.len

-- where the first word at or after a place starts; the text's length where there is none
unfoldable pub word_from : Set → Bytes → ℕ → ℕ
word_from set s at = at + white_len set (drop at s)

-- the first word at or after a place; of length 0 where there is none
unfoldable pub next_word : Set → Bytes → ℕ → Part
next_word set s at =
    record { start = word_from set s at; len = word_len set (drop (word_from set s at) s) }

-- the word that so many others precede, counted from a place; of length 0 where there is none
unfoldable pub nth_word : Set → Bytes → ℕ → ℕ → Part
nth_word set s at zero = next_word set s at
nth_word set s at (suc n) = nth_word set s ((next_word set s at).start + (next_word set s at).len) n

-- words joined by one space
unfoldable pub joined : List Bytes → Bytes
joined [] = []
joined (w ∷ []) = w
joined (w ∷ v ∷ ws) = w ++ (32 ∷ joined (v ∷ ws))
