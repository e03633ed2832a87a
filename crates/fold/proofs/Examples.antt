-- Examples of document 01, by computation.
use Prim.Native.Nat.{ℕ}
use mathlib.Core.Path.{◌≡◌, refl}
use mathlib.Core.List.{[], ◌∷◌, flatten}
use mathlib.Core.Option.{none, some}
use Rattle.parts.specs.Bytes.{b, same, begins}
use Rattle.chars.specs.Utf8.{table37, fits, row_len, seq_len, step, cut_at, characters, is_sequence, every, point, code_of}
use Rattle.chars.specs.Range.{within, in_any}
use Rattle.chars.specs.Space.{white_space, is_white, is_ascii_white}
use Rattle.words.specs.Words.{step_of, chars_of, white, take_while, onto, pieces, nonempty, words, joined, is_blank_of}
use Rattle.tape.specs.File.{Tape, node_at, text_at_of}
use Rattle.tape.specs.Name.{strip, bare, ends_name_of, in_name_of, name_in_of, marker_name}
use Rattle.tape.specs.Tree.{is_close, holds, child_before, first_child, last_held, sibling_past, next_sibling, left, along, walk_from, children, siblings}
use Rattle.tape.specs.declared.Node.{Node}
use Rattle.render.specs.First.{first_with, any}
use Rattle.render.specs.Shape.{is_blank_text}
use Rattle.render.specs.Children.{is_plain_text_of}
use Rattle.fold.specs.Fold.{slot_by, slot_of, free, claim_of, own_text, texts_of, number_in, is_some, fold_from, fold_at}

abbrev node : ℕ → ℕ → ℕ → ℕ → Node
node k l s n = record { kind = record { code = k }; flags = record { bits = 0 }; marker = 0; link = l; start = s; len = n }

-- Root, a Verse, a blank, `va`, `va`
abbrev tape : Tape
tape =
    record {
      nodes =
          node 0 9 0 0
          ∷ node 7 1 0 4
          ∷ node 1 0 4 1
          ∷ node 3 5 5 3
          ∷ node 1 0 8 2
          ∷ node 4 0 10 4
          ∷ node 3 8 14 3
          ∷ node 1 0 17 2
          ∷ node 4 0 19 4
          ∷ [];
      entries = [];
      names = [];
      source = b "\\v 1 \\va 2\\va*\\va 3\\va*";
    }

-- example 10: the first `va` is the alternate number, the second stays; behind a Chapter neither folds
pub fold_examples :
    (fold_at tape 7 (siblings tape 1) ≡ record { alt = some (b "2"); published = none; rest = 6 ∷ [] })
    × (fold_at tape 6 (siblings tape 1) ≡ record { alt = none; published = none; rest = 3 ∷ 6 ∷ [] })
unfolding within in_any white_space is_white is_ascii_white table37 fits row_len seq_len step cut_at characters is_sequence every point code_of same begins strip bare ends_name_of in_name_of name_in_of marker_name step_of chars_of white take_while onto pieces nonempty words joined is_blank_of node_at text_at_of is_close holds child_before first_child last_held sibling_past next_sibling left along walk_from children siblings is_blank_text first_with any is_plain_text_of slot_by slot_of free claim_of own_text texts_of number_in is_some fold_from fold_at flatten
fold_examples = (refl, refl)
