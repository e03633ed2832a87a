-- The attributes of a node, by `collect_attributes`.
use Rattle.std.specs.Prelude.{ℕ, zero, suc, ◌+◌, min, List, [], ◌∷◌, ◌++◌, map, Bool, true, false, cond, not, ◌&&◌, ◌||◌, length, take, drop, eqb, ltb}
use Rattle.parts.specs.Bytes.{Bytes, b, part, same, begins, find}
use Rattle.words.specs.Words.{words, trim, white_len, word_len, last_of}
use Rattle.words.specs.declared.Set.TheVariants.{Unicode}
use Rattle.tape.specs.File.{Tape, kind_at, text_at_of}
use Rattle.tape.specs.Name.{strip}
use Rattle.tape.specs.Tree.{children}
use Rattle.attrs.specs.declared.Taken.{Taken}
use Rattle.tape.specs.Kind as kinds

-- an attribute: its key, and its value with no escape left
pub record Pair : Type 0 where
  pub key : Bytes
  pub value : Bytes

-- ---- values

-- whether a byte ends a quoted value: a `"` with no `\` in front of it
unfoldable pub closes_at : ℕ → ℕ → Bool
closes_at last x = eqb x 34 && not (eqb last 92)

-- how many bytes stand before the first `"` with no `\` in front of it; `last` is the byte in front of the text
unfoldable pub quoted_from : ℕ → Bytes → ℕ
quoted_from last [] = 0
quoted_from last (x ∷ s) = elim (closes_at last x) [ true ↦ 0 | false ↦ suc (quoted_from x s) ]

-- "escaped quote, unclosed quote": a quoted value goes up to an unescaped `"` or the end
unfoldable pub quoted_len : Bytes → ℕ
quoted_len s = quoted_from 0 s

-- where the first `\"` stands
unfoldable pub piece_len : Bytes → ℕ
piece_len s = find (b "\\\"") s

-- each `\"` is replaced by `"`: the `\` in front of a `"` goes
unfoldable pub unquoted : Bytes → Bytes
unquoted [] = []
unquoted (x ∷ s) = cond (begins (b "\\\"") (x ∷ s)) [] (x ∷ []) ++ unquoted s

-- what a raw value stands for
unfoldable pub shown : Bool → Bytes → Bytes
shown quoted s = cond quoted (unquoted s) s

-- the value that starts at a place: quoted, or bare up to white space; and where what follows it starts
unfoldable pub value_from : Bytes → ℕ → Taken
value_from s at =
    cond (begins (b "\"") (drop at s))
    (let n = quoted_len (drop (at + 1) s) in
    record { start = at + 1; len = n; quoted = true; past = min (at + 1 + n + 1) (length s) })
    (let n = word_len Unicode (drop at s) in record { start = at; len = n; quoted = false; past = at + n })

-- the value at or after a place, past white space
unfoldable pub value_at : Bytes → ℕ → Taken
value_at s at = value_from s (at + white_len Unicode (drop at s))

-- ---- pairs

-- where the first `=` stands; the length where there is none
unfoldable pub equals : Bytes → ℕ
equals s = find (b "=") s

-- whether a text holds a `=`
unfoldable pub has_equals : Bytes → Bool
has_equals s = ltb (equals s) (length s)

-- "dangling word": the key is the last word before the `=`
unfoldable pub key_in_of : Bytes → Bytes
key_in_of s = last_of (words Unicode (take (equals s) s))

-- "empty key (its value is read and dropped)"
unfoldable pub keyed : Bytes → Bytes → List Pair
keyed [] value = []
keyed (x ∷ key) value = record { key = x ∷ key; value = value } ∷ []

-- the pairs of a text, at most so many; a rest with no `=` is dropped
unfoldable pub pairs_from : ℕ → Bytes → List Pair
pairs_from zero s = []
pairs_from (suc n) s =
    elim (has_equals s) as (λ _. List Pair) [
      | true ↦ (let v = value_at s (equals s + 1) in keyed (key_in_of s) (shown v.quoted (part s v.start v.len)) ++ pairs_from n (drop v.past s))
      | false ↦ []
    ]

-- the pairs of a body that holds a `=`, each of which takes one
unfoldable pub pairs_in : Bytes → List Pair
pairs_in s = pairs_from (length s) s

-- ---- keys

-- the markers of word lists
unfoldable pub is_word_marker : Bytes → Bool
is_word_marker m = same m (b "w") || (same m (b "wa") || (same m (b "wg") || same m (b "wh")))

-- the key of a body with no `=`, by `default_attribute`
unfoldable pub default_key : Bytes → Bytes
default_key m =
    cond (is_word_marker m) (b "lemma")
    (cond (same m (b "rb")) (b "gloss")
    (cond (same m (b "xt")) (b "href")
    (cond (same m (b "ref")) (b "loc")
    (cond (same m (b "jmp")) (b "link-href")
    (cond (same m (b "periph")) (b "id") (cond (begins (b "qt") m) (b "who") (b "default")))))))

-- "`src` on `fig` becomes `file`"
unfoldable pub key_for : Bytes → Bytes → Bytes
key_for marker key = cond (same marker (b "fig") && same key (b "src")) (b "file") key

-- a pair with the key that a marker gives it
unfoldable pub keyed_for : Bytes → Pair → Pair
keyed_for marker p = record { key = key_for marker p.key; value = p.value }

-- ---- attributes

-- the body of an attribute: its text without one `|` in front, trimmed
unfoldable pub attribute_body : Bytes → Bytes
attribute_body s = trim Unicode (strip 124 s)

-- the pairs of a body; a body with no `=` is the value of the default key, as it stands
unfoldable pub body_pairs : Bytes → Bytes → List Pair
body_pairs marker [] = []
body_pairs marker (x ∷ s) =
    cond (has_equals (x ∷ s)) (map (keyed_for marker) (pairs_in (x ∷ s))) (record { key = default_key marker; value = x ∷ s } ∷ [])

-- the pairs of a node: an Attribute has those of its body, others have none
unfoldable pub pairs_at : Tape → Bytes → ℕ → List Pair
pairs_at t marker k = cond (eqb (kind_at t k) kinds.attribute) (body_pairs marker (attribute_body (text_at_of t k))) []

-- the pairs of a list of nodes
unfoldable pub pairs_along : Tape → Bytes → List ℕ → List Pair
pairs_along t marker [] = []
pairs_along t marker (k ∷ ks) = pairs_at t marker k ++ pairs_along t marker ks

-- the attributes of a node, whose marker goes by this name
unfoldable pub attributes_of : Tape → ℕ → Bytes → List Pair
attributes_of t k marker = pairs_along t marker (children t k)
