-- White space: the two sets of document 01.
use Rattle.std.specs.Prelude.{ℕ, List, [], ◌∷◌, Bool, false, cond, leb, eqb}
use Rattle.chars.specs.Range.{Range, ◌to◌, in_any}

-- the 25 code points that Unicode marks White_Space: 09..0D, 20, 85, A0, 1680, 2000..200A, 2028, 2029, 202F, 205F, 3000
unfoldable pub white_space : List Range
white_space =
    9 to 13
    ∷ 32 to 32
    ∷ 133 to 133
    ∷ 160 to 160
    ∷ 5760 to 5760
    ∷ 8192 to 8202
    ∷ 8232 to 8233
    ∷ 8239 to 8239
    ∷ 8287 to 8287
    ∷ 12288 to 12288
    ∷ []

-- whether a code point is Unicode white space
unfoldable pub is_white : ℕ → Bool
is_white c = in_any white_space c

-- whether a byte is ASCII white space: 09, 0A, 0C, 0D, 20
unfoldable pub is_ascii_white : ℕ → Bool
is_ascii_white x = in_any (9 to 10 ∷ 12 to 13 ∷ 32 to 32 ∷ []) x

-- the search of a rising table: up to the first entry that is not less than the number
unfoldable pub searched : ℕ → List ℕ → Bool
searched c [] = false
searched c (x ∷ xs) = cond (leb c x) (eqb x c) (searched c xs)
