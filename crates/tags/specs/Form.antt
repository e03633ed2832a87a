-- The tag form: a text as a list of tokens.
use Rattle.std.specs.Prelude.{ℕ, zero, suc, ◌+◌, ◌-◌, List, [], ◌∷◌, Bool, true, false, cond, not, ◌&&◌, ◌||◌, length, take, drop, get_or, eqb, ltb}
use Rattle.std.proofs.Math.Option.{Option, some, none}
use Rattle.std.specs.Prelude.{Option as Optional, Some, None}
use Rattle.parts.specs.Bytes.{Bytes, b, begins}
use Rattle.tags.specs.Names.{element_at}
use Rattle.tags.specs.declared.Class.{Class}
use Rattle.tags.specs.declared.Class.TheVariants.{Text, Value, Key}
use Rattle.tags.specs.declared.Named.{Named}
use Rattle.tags.specs.declared.Named.TheVariants.{Name, Unnamed}
use Rattle.tags.specs.declared.Head.{Head}
use Rattle.tags.specs.declared.Head.TheVariants.{Bad, Words, Closing, Opening}
use Rattle.tags.specs.declared.Tail.{Tail}
use Rattle.tags.specs.declared.Tail.TheVariants.{Open, Empty, Neither}

-- ---- bytes that may stand in a text, a value, a key

-- none of < > &
unfoldable pub plain : ℕ → Bool
plain x = not (eqb x 60) && (not (eqb x 62) && not (eqb x 38))

-- whether a text begins with `&lt;`, `&gt;` or `&amp;`
unfoldable pub escape_at : Bytes → Bool
escape_at s = begins (b "&lt;") s || (begins (b "&gt;") s || begins (b "&amp;") s)

-- neither a space nor = nor "
unfoldable pub key_byte_of : ℕ → Bool
key_byte_of x = not (eqb x 32) && (not (eqb x 61) && not (eqb x 34))

-- whether the first byte may stand there, where `&` looks ahead
unfoldable pub ok : Class → Bytes → Bool
ok Text s = cond (plain (get_or s 0 0)) true (escape_at s)
ok Value s = cond (plain (get_or s 0 0)) (not (eqb (get_or s 0 0) 34)) (escape_at s || begins (b "&quot;") s)
ok Key s = plain (get_or s 0 0) && key_byte_of (get_or s 0 0)

-- how many places in a row pass a test of what stands from there on
unfoldable pub run : (Bytes → Bool) → Bytes → ℕ
run p [] = 0
run p (x ∷ s) = elim (p (x ∷ s)) [ true ↦ suc (run p s) | false ↦ 0 ]

-- ---- attributes

-- a key and its value, as they stand in the text
pub record Pair : Type 0 where
  pub key : Bytes
  pub value : Bytes

-- ` key="value"` at the front: the lengths of key and value
unfoldable pub pair_at : Bytes → Optional (ℕ × ℕ)
pair_at s =
    let s₁ = drop 1 s in
    let k = run (ok Key) s₁ in
    let s₂ = drop k s₁ in
    let s₃ = drop 2 s₂ in
    let v = run (ok Value) s₃ in
    cond (begins (b " ") s && (ltb 0 k && (begins (b "=\"") s₂ && begins (b "\"") (drop v s₃)))) (Some (k, v)) None

-- how far ` key="value"` reaches
abbrev pub pair_len : ℕ → ℕ → ℕ
pair_len k v = k + v + 4

-- the key and the value by their lengths
abbrev pub pair_of : Bytes → ℕ → ℕ → Pair
pair_of s k v = record { key = take k (drop 1 s); value = take v (drop (k + 3) s) }

-- attributes in a row, and what follows them
pub record Row : Type 0 where
  pub list : List Pair
  pub rest : Bytes

-- the attribute at the front, where there is one, and those behind it
abbrev pub more_pairs : (Bytes → Row) → Bytes → Optional (ℕ × ℕ) → Row
more_pairs f s None = record { list = []; rest = s }
more_pairs f s (Some (k, v)) =
    record { list = pair_of s k v ∷ (f (drop (pair_len k v) s)).list; rest = (f (drop (pair_len k v) s)).rest }

-- the attributes at the front, at most as many as the fuel
unfoldable pub pairs_at : ℕ → Bytes → Row
pairs_at zero s = record { list = []; rest = s }
pairs_at (suc n) s = more_pairs (pairs_at n) s (pair_at s)

-- "any number of ` key="value"`" at the front
unfoldable pub pairs_row : Bytes → Row
pairs_row s = pairs_at (length s) s

-- ---- tokens

-- a text; an opening tag, a closing tag, a tag ending in ` />`, by the number of the element
pub data Token : Type 0 where
  text : Bytes → Token
  opens : ℕ → List Pair → Token
  closes : ℕ → Token
  empty : ℕ → List Pair → Token

-- the token at the front and what follows it, or none that can be read
pub data Read : Type 0 where
  bad : Read
  got : Token → Bytes → Read

-- `</name>` at the front, by what stands behind `</`
unfoldable pub close_head : Bytes → Named → Head
close_head s Unnamed = Bad
close_head s (Name n l) = cond (begins (b ">") (drop (l + 2) s)) (Closing n (l + 3)) Bad

-- `<name` at the front, by what stands behind `<`
unfoldable pub open_head_of : Named → Head
open_head_of Unnamed = Bad
open_head_of (Name n l) = Opening n (l + 1)

-- a text of so many bytes at the front
unfoldable pub text_head : ℕ → Head
text_head k = cond (ltb 0 k) (Words k) Bad

-- what the token at the front begins with
unfoldable pub head_at_of : Bytes → Head
head_at_of s =
    cond (begins (b "</") s) (close_head s (element_at (drop 2 s)))
    (cond (begins (b "<") s) (open_head_of (element_at (drop 1 s))) (text_head (run (ok Text) s)))

-- `>` or ` />` at the front
unfoldable pub tail_at : Bytes → Tail
tail_at s = cond (begins (b ">") s) Open (cond (begins (b " />") s) Empty Neither)

-- an opening tag or one ending in ` />`, by what stands behind its attributes
unfoldable pub ended : ℕ → Row → Tail → Read
ended n ps Open = got (opens n ps.list) (drop 1 ps.rest)
ended n ps Empty = got (empty n ps.list) (drop 3 ps.rest)
ended n ps Neither = bad

-- an opening tag or one ending in ` />`, by what stands behind its name
unfoldable pub tagged : ℕ → Bytes → Read
tagged n s = ended n (pairs_row s) (tail_at (pairs_row s).rest)

-- the token at the front, by what it begins with
unfoldable pub headed : Bytes → Head → Read
headed s Bad = bad
headed s (Words k) = got (text (take k s)) (drop k s)
headed s (Closing n l) = got (closes n) (drop l s)
headed s (Opening n l) = tagged n (drop l s)

-- the token at the front
unfoldable pub next : Bytes → Read
next s = headed s (head_at_of s)

-- ---- the whole

-- a token in front of those that are read
abbrev pub onto : Token → Option (List Token) → Option (List Token)
onto t none = none
onto t (some ts) = some (t ∷ ts)

-- the tokens of a text, by the one at its front
abbrev pub more_tokens : (Bytes → Option (List Token)) → Bytes → Read → Option (List Token)
more_tokens f [] r = some []
more_tokens f (x ∷ s) bad = none
more_tokens f (x ∷ s) (got t r) = onto t (f r)

-- the tokens of a text, at most as many as the fuel
unfoldable pub tokens_at : ℕ → Bytes → Option (List Token)
tokens_at zero s = more_tokens (λ r. none) s bad
tokens_at (suc n) s = more_tokens (tokens_at n) s (next s)

-- the tokens that a text is, whatever it opens and closes with
unfoldable pub tokens_from : Bytes → Option (List Token)
tokens_from s = tokens_at (length s) s

-- what the whole opens with
abbrev pub opening : Bytes
opening = b "<usx version=\"3.0\">"

-- what the whole closes with
abbrev pub closing : Bytes
closing = b "</usx>"

-- the tokens of a text in tag form
unfoldable pub tokens : Bytes → Option (List Token)
tokens s = cond (begins opening s && begins closing (drop (length s - 6) s)) (tokens_from s) none
