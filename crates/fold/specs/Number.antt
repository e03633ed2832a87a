-- A folded number, as it is walked: pieces of texts, with a space where white space stood between two.
use Rattle.std.specs.Prelude.{Option, None, Some, ℕ, ◌≤◌, ◌<◌, length, [], ◌∷◌, ◌++◌, Bool, true, false, cond, ◌&&◌}
use Rattle.parts.specs.Bytes.{Bytes}
use Rattle.words.specs.Words.{bytes_of}
use Rattle.chars.specs.Space.{is_ascii_white}
use Rattle.tape.specs.File.{Tape}
use Rattle.tape.specs.Tree.{first_child, walk_from}
use Rattle.fold.specs.Fold.{texts_of}
use Rattle.fold.specs.declared.Run.{Run}
use Rattle.fold.specs.declared.Run.TheVariants.{Word, White}
use Rattle.fold.specs.declared.Number.{Number}
use Rattle.fold.specs.declared.Piece.{Piece}

-- one space, or nothing
unfoldable pub gap_space : Bool → Bytes
gap_space t = cond t (32 ∷ []) []

-- a text collapsed byte by byte: whether a byte stands in front of it, and whether white space stands between
unfoldable pub collapse : Bool → Bool → Bytes → Bytes
collapse begun gap [] = []
collapse begun gap (x ∷ s) =
    elim (is_ascii_white x) as (λ _. Bytes) [
      | true ↦ collapse begun true s
      | false ↦ gap_space (begun && gap) ++ (x ∷ collapse true false s)
    ]

-- what is left of a number behind the first run of a part, with more behind the part
unfoldable pub run_list : Bytes → Bool → Run → Bytes → Bytes
run_list source begun (Word p space rest) more = gap_space space ++ (bytes_of source p ++ collapse true false (bytes_of source rest ++ more))
run_list source begun (White gap) more = collapse begun gap more

-- what is still to come of a number
unfoldable pub to_come : Tape → Number → Bytes
to_come t n = collapse n.begun n.gap (bytes_of t.source n.rest ++ texts_of t (walk_from t n.next))

-- a walk before a number's first byte: no text is begun, and the first child is next
unfoldable pub number_start : Tape → ℕ → Number
number_start t k = record { rest = record { start = 0; len = 0 }; next = first_child t k; begun = false; gap = false }

-- an answer: a piece, with or without a space in front, and what comes behind it
unfoldable pub piece_list : Tape → Option Piece → Bytes
piece_list t (Some p) = gap_space p.space ++ (bytes_of t.source p.part ++ to_come t p.left)
piece_list t None = []

-- a word is not empty
abbrev pub word_some : Bytes → Run → Type 0
word_some source (Word p space rest) = 0 < length (bytes_of source p)
word_some source (White gap) = 0 ≤ 0

-- nor is a piece
abbrev pub piece_some : Tape → Option Piece → Type 0
piece_some t (Some p) = 0 < length (bytes_of t.source p.part)
piece_some t None = 0 ≤ 0
