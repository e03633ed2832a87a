-- What elements say in attributes: a note's caller, a category, the book's code and rest, periph's alt, a cell's alignment.
use Rattle.std.specs.Prelude.{ℕ, ◌≡◌, cond, ◌||◌, List, [], ◌∷◌, drop, None, Some}
use Rattle.std.proofs.Math.Option.{Option, none, some}
use Rattle.parts.specs.Bytes.{Bytes, b, begins, part}
use Rattle.words.specs.Words.{words, joined, trim, after_word}
use Rattle.words.specs.declared.Set.TheVariants.{Unicode}
use Rattle.words.specs.declared.Part.{Part}
use Rattle.tape.specs.File.{Tape, text_at_of}
use Rattle.tape.specs.Tree.{first_child, children}
use Rattle.tape.specs.Found.{Step}
use Rattle.render.specs.declared.note.Align.{Align}
use Rattle.render.specs.declared.note.Align.TheVariants.{Start, Center, End}
use Rattle.render.specs.Shape.{is_text, is_category_marker_of}
use Rattle.render.specs.First.{first_with}
use Rattle.render.specs.Children.{first_text_of}
use Rattle.render.specs.Label.{word_part_of}

-- the first of some words, or something else
unfoldable pub first_or : Bytes → List Bytes → Bytes
first_or other [] = other
first_or other (w ∷ ws) = w

-- ---- notes

-- the text that a step leads to, if it is a Text
unfoldable pub lead_text : Tape → Step → Bytes
lead_text t None = []
lead_text t (Some c) = cond (is_text t c.at) (text_at_of t c.at) []

-- the first word of the first child if that is Text, or something else
unfoldable pub caller_or : Bytes → Tape → ℕ → Bytes
caller_or other t k = first_or other (words Unicode (lead_text t (first_child t k)))

-- `note_caller`: the first word of the first child if that is Text, else `+`
unfoldable pub note_caller_of : Tape → ℕ → Bytes
note_caller_of t k = caller_or (b "+") t k

-- `remainder_after_first_token`: what follows the first word
unfoldable pub remainder : Bytes → Bytes
remainder s = after_word Unicode s

-- ---- category

-- the first Text child of the node that a step leads to
unfoldable pub text_under : Tape → Step → Step
text_under t None = None
text_under t (Some c) = first_text_of t c.at

-- of the first `cat` child the first Text
unfoldable pub category_text_of : Tape → ℕ → Step
category_text_of t k = text_under t (first_with (is_category_marker_of t) (children t k))

-- the text that a step leads to, trimmed
unfoldable pub trimmed_at : Tape → Step → Option Bytes
trimmed_at t None = none
trimmed_at t (Some c) = some (trim Unicode (text_at_of t c.at))

-- `category_of`, trimmed: of the first `cat` child the first Text; none if it has no Text
unfoldable pub written_category : Tape → ℕ → Option Bytes
written_category t k = trimmed_at t (category_text_of t k)

-- ---- book and periph

-- the text that a step leads to
unfoldable pub step_text : Tape → Step → Bytes
step_text t None = []
step_text t (Some c) = text_at_of t c.at

-- the words of the first Text child
unfoldable pub first_words : Tape → ℕ → List Bytes
first_words t k = words Unicode (step_text t (first_text_of t k))

-- the book's code: the first word
unfoldable pub book_code_of : Tape → ℕ → Bytes
book_code_of t k = first_or [] (first_words t k)

-- the first word that a step leads to, as a part of the source
unfoldable pub word_at : Tape → Step → Part
word_at t None = record { start = 0; len = 0 }
word_at t (Some c) = word_part_of t c.at 0

-- the book's code as a part of the source
unfoldable pub code_part : Tape → ℕ → Part
code_part t k = word_at t (first_text_of t k)

-- what is said of a book's code: where it stands, and that its bytes are the code
pub record IsCode (t : Tape) (k : ℕ) (p : Part) : Type 0 where
  pub place : p ≡ code_part t k
  pub bytes : part t.source p.start p.len ≡ book_code_of t k

-- the book's rest: the other words, joined
unfoldable pub book_rest_of : Tape → ℕ → Bytes
book_rest_of t k = joined (drop 1 (first_words t k))

-- a text that is not empty
unfoldable pub unless_empty : Bytes → Option Bytes
unless_empty [] = none
unless_empty (x ∷ s) = some (x ∷ s)

-- periph's alt: all words of the first Text child joined by one space; none if empty
unfoldable pub periph_alt : Tape → ℕ → Option Bytes
periph_alt t k = unless_empty (joined (first_words t k))

-- ---- cells

-- `cell_align`: thr and tcr end, thc and tcc center, else start
unfoldable pub cell_align_of : Bytes → Align
cell_align_of name =
    cond (begins (b "thr") name || begins (b "tcr") name) End
    (cond (begins (b "thc") name || begins (b "tcc") name) Center Start)

-- the word that is written for it
unfoldable pub align_word : Align → Bytes
align_word Start = b "start"
align_word Center = b "center"
align_word End = b "end"
