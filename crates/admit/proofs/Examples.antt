-- Both sides of each refusal's line: one table, each row by computation.
use mathlib.Core.Path.{◌≡◌, refl, subst}
use mathlib.Core.List.{List, [], ◌∷◌, ◌++◌, flatten}
use Prim.Native.Nat.{ℕ, zero, suc, ◌+◌}
use Rattle.parts.specs.Bytes.{Bytes, b, begins}
use Rattle.chars.specs.Range.{within, in_any}
use Rattle.chars.specs.Utf8.{table37, fits, row_len, seq_len, step, cut_at, characters, is_sequence, every, is_utf8, point, code_of, is_boundary}
use Rattle.chars.specs.Space.{white_space, is_white}
use Rattle.words.specs.Words.{step_of, chars_of, white, take_while, onto, pieces, nonempty, words}
use Rattle.tape.specs.File.{le16, le32, node_fields_of, node_of, entry_fields_of, entry_of, records_of, tape_in, sections_of, tape_of, node_at, entry_at, text_at_of, bears_marker, info_at, element_of, base_len}
use Rattle.tape.specs.Name.{strip, bare, ends_name_of, in_name_of, name_in_of, marker_name}
use Rattle.nest.specs.Nest.{container, close, part_of}
use Rattle.nest.specs.Decide.{deep_from_of, too_deep, awaited, match_from_of, all_matched_of, root_ends_of, sound}
use Rattle.admit.specs.Refusal.{Refusal}
use Rattle.admit.specs.Decide.{all_below, laid_out, small, good_byte, good_entry, good_names, label_cut, good_node, good_nodes, refusal_in, refusal}
use Rattle.admit.specs.Encode.{node, entry, file}
use Rattle.admit.proofs.Decide.{refusal_right}

-- a file and its number
pub record Row : Type 0 where
  pub file : Bytes
  pub number : ℕ

infix 20 ◌gives◌
abbrev ◌gives◌ : Bytes → ℕ → Row
f gives n = record { file = f; number = n }

-- Root alone, over a source
abbrev alone : Bytes → Bytes
alone source = file (node 0 9 1 0 0 ∷ []) [] [] source

-- n containers inside one another, of which the innermost ends at e
abbrev opens : ℕ → ℕ → List Bytes
opens zero e = []
opens (suc n) e = node 3 9 (e + n) 0 0 ∷ opens n e

abbrev closes : ℕ → List Bytes
closes zero = []
closes (suc n) = node 5 9 0 0 0 ∷ closes n

-- n containers inside one another, with their closes
abbrev rooms : ℕ → Bytes
rooms n = file (node 0 9 (n + n + 1) 0 0 ∷ (opens n (n + 1) ++ closes n)) [] [] []

-- Root and one node more that spans so many bytes of é
abbrev over : ℕ → Bytes
over n = file (node 0 9 2 0 0 ∷ node 1 9 0 0 n ∷ []) [] [] (195 ∷ 169 ∷ [])

-- the Verse `\vé`, whose entry's name is so long
abbrev verse : ℕ → Bytes
verse n = file (node 0 9 2 0 0 ∷ node 7 0 0 0 4 ∷ []) (entry 0 n 2 0 ∷ []) (b "vv") (b "\\v" ++ (195 ∷ 169 ∷ []))

-- one entry of a category
abbrev category : ℕ → Bytes
category c = file (node 0 9 1 0 0 ∷ []) (entry 0 1 c 0 ∷ []) (b "v") []

-- a container whose link is this, with a close behind it
abbrev linked : ℕ → Bytes
linked l = file (node 0 9 4 0 0 ∷ node 3 9 l 0 0 ∷ node 1 9 0 0 0 ∷ node 5 9 0 0 0 ∷ []) [] [] []

abbrev pub table : List Row
table =
    ([] gives 1)
    ∷ (file [] [] [] [] gives 2)
    ∷ (alone [] gives 0)
    ∷ (alone [] ++ (0 ∷ []) gives 1)
    ∷ (alone (195 ∷ 169 ∷ []) gives 0)
    ∷ (alone (195 ∷ []) gives 3)
    ∷ (category 7 gives 0)
    ∷ (category 8 gives 4)
    ∷ (over 2 gives 0)
    ∷ (over 1 gives 5)
    ∷ (verse 1 gives 0)
    ∷ (verse 2 gives 5)
    ∷ (rooms 64 gives 0)
    ∷ (rooms 65 gives 6)
    ∷ (linked 3 gives 0)
    ∷ (linked 2 gives 7)
    ∷ []

-- what a row says
abbrev pub Holds : Row → Type 0
Holds r = Refusal r.file r.number

-- something said of each member of a list
abbrev pub Each : {A : Type 0} → (A → Type 0) → List A → Type 0
Each P [] = Unit
Each P (x ∷ xs) = P x × Each P xs

by : {f : Bytes} {n : ℕ} → refusal f ≡ n → Refusal f n
by {f} e = subst (Refusal f) e (refusal_right f)

pub examples : Each Holds table
unfolding flatten begins within in_any table37 fits row_len seq_len step cut_at characters is_sequence every is_utf8 point code_of is_boundary white_space is_white step_of chars_of white take_while onto pieces nonempty words le16 le32 node_fields_of node_of entry_fields_of entry_of records_of tape_in sections_of tape_of node_at entry_at text_at_of bears_marker info_at strip bare ends_name_of in_name_of name_in_of marker_name container close part_of deep_from_of too_deep awaited match_from_of all_matched_of root_ends_of sound base_len element_of all_below laid_out small good_byte good_entry good_names label_cut good_node good_nodes refusal_in refusal
examples = (by refl, (by refl, (by refl, (by refl, (by refl, (by refl, (by refl, (by refl, (by refl, (by refl, (by refl, (by refl, (by refl, (by refl, (by refl, (by refl, tt))))))))))))))))
