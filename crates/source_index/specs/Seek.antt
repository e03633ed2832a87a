-- The first place of a text that passes a test, and tables of such places.
use Rattle.std.specs.Prelude.{◌≡◌, Bool, cond, not, ◌&&◌, List, [], ◌∷◌, ℕ, ◌+◌, ◌*◌, ◌≤◌, ◌<◌, min, length, get_or, take, drop, ltb}
use Rattle.parts.specs.Bytes.{Bytes, first_at}
use Rattle.chars.specs.Utf8.{step, code_of}
use Rattle.chars.specs.Space.{is_ascii_white}
use Rattle.words.specs.Words.{white}
use Rattle.words.specs.declared.Set.TheVariants.{Unicode}
use Rattle.tape.specs.Name.{ends_name_of}
use Rattle.source_index.specs.declared.Test.{Test}
use Rattle.source_index.specs.declared.Test.TheVariants.{Ender, Gap, Solid}

-- ---- tests of the front of a text

-- whether it begins with a character that ends a name
unfoldable pub ends_at : Bytes → Bool
ends_at u = ends_name_of (code_of (take (step u) u))

-- whether it begins with white space
unfoldable pub white_at : Bytes → Bool
white_at u = white Unicode (take (step u) u)

-- whether it begins with a character that is no white space
unfoldable pub solid_at : Bytes → Bool
solid_at u = ltb 0 (length u) && not (white_at u)

-- whether it begins with white space, and a word follows at once
unfoldable pub gap_at : Bytes → Bool
gap_at u = white_at u && solid_at (drop (step u) u)

-- whether it begins with a byte that is no ASCII white space
unfoldable pub solid_byte : Bytes → Bool
solid_byte u = ltb 0 (length u) && not (is_ascii_white (get_or u 0 0))

-- whether the front of a text passes a test
unfoldable pub passes_at : Test → Bytes → Bool
passes_at Ender u = ends_at u
passes_at Gap u = gap_at u
passes_at Solid u = solid_byte u

-- ---- places

-- the first place at or behind i that passes a test; the text's length where there is none
unfoldable pub next_from : Test → Bytes → ℕ → ℕ
next_from test s i = i + first_at (passes_at test) (drop i s)

-- where a block of 64 bytes starts, as far as the text reaches
abbrev pub edge_of : Bytes → ℕ → ℕ
edge_of s b = min (64 * b) (length s)

-- a table of a text: for each block from one on the first place at or behind its start that passes
pub record RightFrom (a : ℕ) (test : Test) (s : Bytes) (table : List ℕ) : Type 0 where
  pub block : (b : ℕ) → a ≤ b → b < length table → get_or table b 0 ≡ next_from test s (edge_of s b)

-- the same for every block
abbrev pub Right : Test → Bytes → List ℕ → Type 0
Right test s table = RightFrom 0 test s table

-- what a search from i up to a place gives: the first place that passes, or the end of the search
pub record Sought (test : Test) (s : Bytes) (i end r : ℕ) : Type 0 where
  pub behind : i ≤ end → r ≤ end
  pub ahead : i ≤ r
  pub stopped : r < end → next_from test s r ≡ r
  pub same : end ≤ length s → next_from test s r ≡ next_from test s i

-- ---- words

-- how many bytes stand before the first word behind white space, where a character precedes that is white or not
unfoldable pub to_word : Bool → List Bytes → ℕ
to_word w [] = 0
to_word w (c ∷ cs) = cond (w && not (white Unicode c)) 0 (length c + to_word (white Unicode c) cs)

-- a byte that begins no white space and no character that ends a name
pub record Dull (x : ℕ) : Type 0 where
  pub low : 32 < x
  pub star : x ≡ 42 → ⊥
  pub slash : x ≡ 92 → ⊥
  pub bar : x ≡ 124 → ⊥
  pub two : x ≡ 194 → ⊥
  pub three : 225 ≤ x → 227 < x
