-- Examples of document 01, by computation.
use mathlib.Core.Path.{◌≡◌, refl}
use mathlib.Core.List.{List, [], ◌∷◌, flatten, map}
use Rattle.parts.specs.Bytes.{Bytes, b, same, begins, first_at}
use Rattle.chars.specs.Utf8.{table37, fits, row_len, seq_len, step, cut_at, is_sequence, every, point, code_of}
use Rattle.chars.specs.Range.{within, in_any}
use Rattle.chars.specs.Space.{white_space, is_white}
use Rattle.words.specs.Words.{step_of, chars_of, white, solid, take_while, drop_while, keep, drop_end, onto, pieces, nonempty, words, trim_start, trim_end, trim, white_len, word_len, last_of}
use Rattle.tape.specs.Name.{strip}
use Rattle.attrs.specs.Attr.{Pair, closes_at, quoted_from, quoted_len, unquoted, shown, value_from, value_at, equals, has_equals, key_in_of, keyed, pairs_from, pairs_in, is_word_marker, default_key, key_for, keyed_for, attribute_body, body_pairs}

-- an Attribute of a marker, and the pairs that it gives
pub record Row : Type 0 where
  pub marker : Bytes
  pub text : Bytes
  pub pairs : List Pair

abbrev row : Bytes → Bytes → List Pair → Row
row m s ps = record { marker = m; text = s; pairs = ps }

abbrev pair : Bytes → Bytes → Pair
pair k v = record { key = k; value = v }

-- examples 8 and 9, and corners of the Rust
abbrev rows : List Row
rows =
    row (b "w") (b "|lemma strong=\"l\"") (pair (b "strong") (b "l") ∷ [])
    ∷ row (b "w") (b "|=v") []
    ∷ row (b "w") (b "|k=\"x\\\"y\"") (pair (b "k") (b "x\"y") ∷ [])
    ∷ row (b "w") (b "|k=\"x") (pair (b "k") (b "x") ∷ [])
    ∷ row (b "rb") (b "| a \\\"b ") (pair (b "gloss") (b "a \\\"b") ∷ [])
    ∷ row (b "w") (b "|a=b=c k = \"v\"l=\"w\" z") (pair (b "a") (b "b=c") ∷ pair (b "k") (b "v") ∷ pair (b "l") (b "w") ∷ [])
    ∷ row (b "fig") (b "|src=\"a\"") (pair (b "file") (b "a") ∷ [])
    ∷ row (b "w") (b "|src=a") (pair (b "src") (b "a") ∷ [])
    ∷ row (b "qt-s") (b "|God") (pair (b "who") (b "God") ∷ [])
    ∷ row (b "w") (b "| ") []
    ∷ []

pub attribute_examples : map (λ (r : Row). body_pairs r.marker (attribute_body r.text)) rows ≡ map (λ (r : Row). r.pairs) rows
unfolding within in_any white_space is_white table37 fits row_len seq_len step cut_at is_sequence every point code_of same begins first_at strip step_of chars_of white solid take_while drop_while keep drop_end onto pieces nonempty words trim_start trim_end trim white_len word_len last_of closes_at quoted_from quoted_len unquoted shown value_from value_at equals has_equals key_in_of keyed pairs_from pairs_in is_word_marker default_key key_for keyed_for attribute_body body_pairs flatten
attribute_examples = refl
