-- The label of a verse, as bytes and as a part of the source.
use Rattle.std.specs.Prelude.{ℕ, zero, ◌+◌, ◌-◌, ◌≡◌, cond, List, [], ◌∷◌, length, drop, eqb}
use Rattle.parts.specs.Bytes.{Bytes, part}
use Rattle.words.specs.Words.{words, nth_word}
use Rattle.words.specs.declared.Set.TheVariants.{Unicode}
use Rattle.words.specs.declared.Part.{Part}
use Rattle.tape.specs.File.{Tape, node_at, text_at_of, info_at, base_len}
use Rattle.tape.specs.Name.{name_start, marker_name}

-- the second of some words, or something else
unfoldable pub second_or : Bytes → List Bytes → Bytes
second_or other [] = other
second_or other (w ∷ []) = other
second_or other (w ∷ v ∷ ws) = v

-- `verse_label`: second word of the node's text; else the marker name past the entry's name length; else empty
unfoldable pub label_of : Tape → ℕ → Bytes
label_of t k = second_or (drop (base_len (info_at t k)) (marker_name t k)) (words Unicode (text_at_of t k))

-- ---- where it stands in the source

-- a part of a node's text as a part of the source
unfoldable pub in_source : Tape → ℕ → Part → Part
in_source t k p = record { start = (node_at t k).start + p.start; len = p.len }

-- the word of a node's text that so many others precede, as a part of the source; of length 0 where there is none
unfoldable pub word_part_of : Tape → ℕ → ℕ → Part
word_part_of t k n = in_source t k (nth_word Unicode (text_at_of t k) zero n)

-- the marker name past the entry's name length, as a part of the source
unfoldable pub name_rest : Tape → ℕ → Part
name_rest t k =
    let base = base_len (info_at t k) in
    in_source t k (record { start = name_start (text_at_of t k) + base; len = length (marker_name t k) - base })

-- the label as a part of the source: the second word where there is one, else the rest of the name
unfoldable pub label_part : Tape → ℕ → Part
label_part t k = cond (eqb (word_part_of t k 1).len 0) (name_rest t k) (word_part_of t k 1)

-- what is said of a label: where it stands, and that its bytes are the label
pub record IsLabel (t : Tape) (k : ℕ) (p : Part) : Type 0 where
  pub place : p ≡ label_part t k
  pub bytes : part t.source p.start p.len ≡ label_of t k
