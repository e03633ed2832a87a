-- A body as it is written: runs that it shares with its text, and the marks between them.
use Rattle.std.specs.Prelude.{ℕ, ◌+◌, ◌≤◌, ◌≡◌, Bool, false, true, cond, not, ◌&&◌, ◌||◌, [], ◌∷◌, ◌++◌, length, drop, eqb, ltb}
use Rattle.parts.specs.Bytes.{Bytes, b, first_at}
use Rattle.parts.specs.Pair.{any_pair}
use Rattle.chars.specs.Space.{is_ascii_white}
use Rattle.words.specs.Words.{white_len}
use Rattle.words.specs.declared.Set.TheVariants.{Ascii}
use Rattle.texts.specs.Text.{body_of}
use Rattle.put_body.specs.declared.Mark.{Mark}
use Rattle.put_body.specs.declared.Mark.TheVariants.{Nothing, Space, Hard}
use Rattle.put_body.specs.declared.Gap.{Gap}

-- what a body goes on with behind a plain byte: the letter stands for any, since all give the same (proofs/Rest.antt, `rest-any`)
unfoldable pub rest_of : Bytes → Bytes
rest_of s = drop 1 (body_of (b "A" ++ s))

-- a byte that a body holds as it is: neither white space nor `~`
unfoldable pub plain : ℕ → Bool
plain x = not (is_ascii_white x || eqb x 126)

-- whether a text begins with a byte that is no white space
unfoldable pub starts_solid : Bytes → Bool
starts_solid [] = false
starts_solid (x ∷ s) = not (is_ascii_white x)

-- where the run ends that a text shares with its body behind a solid byte: plain bytes, and a space before a solid one
unfoldable pub differs : Bytes → Bool
differs [] = true
differs (x ∷ s) = not (plain x || (eqb x 32 && starts_solid s))

-- how many bytes that run has
unfoldable pub shared_len : Bytes → ℕ
shared_len s = first_at differs s

-- whether a byte before another may end such a run: no other does
unfoldable pub odd : ℕ → ℕ → Bool
odd x y = ltb x 32 || (eqb x 126 || (eqb x 32 && ltb y 33))

-- whether one of a text's bytes may, but for the last
abbrev pub any_odd : Bytes → Bool
any_odd s = any_pair odd s

-- a place of a text up to which such a run reaches
pub record SharedTo (s : Bytes) (i : ℕ) : Type 0 where
  pub within : i ≤ length s
  pub rest : i + shared_len (drop i s) ≡ shared_len s

-- what is written for a mark: nothing, a space, U+00A0
unfoldable pub marked : Mark → Bytes
marked Nothing = []
marked Space = 32 ∷ []
marked Hard = 194 ∷ 160 ∷ []

-- white space is one space, and at the end of a text nothing
unfoldable pub gap_white_of : Bytes → Gap
gap_white_of s =
    record { mark = cond (eqb (white_len Ascii s) (length s)) Nothing Space; len = white_len Ascii s }

-- what is written for the first bytes of a text behind a solid byte, and how many they are; none where the first is plain
unfoldable pub gap_of : Bytes → Gap
gap_of [] = record { mark = Nothing; len = 0 }
gap_of (x ∷ s) =
    cond (eqb x 126) (record { mark = Hard; len = 1 })
    (cond (is_ascii_white x) (gap_white_of (x ∷ s)) (record { mark = Nothing; len = 0 }))
