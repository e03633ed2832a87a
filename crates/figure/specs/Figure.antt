-- Figures: the positional form of old, by `figure_legacy`.
use Rattle.std.specs.Prelude.{ℕ, List, [], ◌∷◌, ◌++◌, cond, get_or, eqb, None, Some}
use Rattle.parts.specs.Bytes.{Bytes, b}
use Rattle.words.specs.Words.{trim, onto}
use Rattle.words.specs.declared.Set.TheVariants.{Unicode}
use Rattle.tape.specs.File.{Tape, text_at_of}
use Rattle.tape.specs.Name.{strip}
use Rattle.tape.specs.Tree.{children}
use Rattle.tape.specs.Found.{Step}
use Rattle.render.specs.First.{first_with}
use Rattle.render.specs.Shape.{is_attribute}
use Rattle.render.specs.Children.{first_text_of}
use Rattle.attrs.specs.Attr.{Pair, has_equals}

-- an Attribute whose text holds no `=`
unfoldable pub if_legacy : Tape → Step → Step
if_legacy t None = None
if_legacy t (Some a) = cond (has_equals (strip 124 (text_at_of t a.at))) None (Some a)

-- `figure_legacy_raw`: the first Attribute, where it has no `=` behind one `|`
unfoldable pub legacy_at : Tape → ℕ → Step
legacy_at t k = if_legacy t (first_with (is_attribute t) (children t k))

-- a text split at a byte
unfoldable pub split : ℕ → Bytes → List Bytes
split x [] = [] ∷ []
split x (y ∷ s) = cond (eqb y x) ([] ∷ split x s) (onto (y ∷ []) (split x s))

-- a field of an Attribute, counted from 0: its body split at `|`, trimmed; nothing where there are fewer
unfoldable pub field_at : Tape → ℕ → ℕ → Bytes
field_at t a n = trim Unicode (get_or (split 124 (strip 124 (text_at_of t a))) n [])

-- the text of a node without white space at both ends
unfoldable pub trimmed_text : Tape → Step → Bytes
trimmed_text t None = []
trimmed_text t (Some c) = trim Unicode (text_at_of t c.at)

-- the description: the first Text child, trimmed
unfoldable pub described_by : Tape → ℕ → Bytes
described_by t k = trimmed_text t (first_text_of t k)

-- a pair unless its value is empty
unfoldable pub valued : Bytes → Bytes → List Pair
valued key [] = []
valued key (x ∷ value) = record { key = key; value = x ∷ value } ∷ []

-- the attributes of a figure k of old, whose fields stand in its Attribute a
unfoldable pub legacy_pairs : Tape → ℕ → ℕ → List Pair
legacy_pairs t k a =
    valued (b "alt") (described_by t k)
    ++ (valued (b "file") (field_at t a 0)
    ++ (valued (b "size") (field_at t a 1)
    ++ (valued (b "loc") (field_at t a 2)
    ++ (valued (b "copy") (field_at t a 3) ++ valued (b "ref") (field_at t a 5)))))

-- its caption
unfoldable pub caption_of : Tape → ℕ → Bytes
caption_of t a = field_at t a 4
