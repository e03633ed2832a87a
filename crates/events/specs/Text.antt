-- The text of a tape, and what a call answers and leaves in the buffer.
use Rattle.std.specs.Prelude.{ℕ, zero, suc, List, [], ◌∷◌, ◌++◌, Bool, false, cond, ◌||◌, length, drop, eqb, leb}
use Rattle.std.proofs.Math.Option.{none}
use Rattle.parts.specs.Bytes.{Bytes}
use Rattle.tape.specs.File.{Tape, tape_of}
use Rattle.tape.specs.declared.Node.{Node}
use Rattle.admit.specs.Decide.{refusal}
use Rattle.tags.specs.Items.{Item, line, framed, render}
use Rattle.events.specs.Pairing.{State, paired}
use Rattle.events.specs.Walk.{events_of}
use Rattle.tape.specs.Kind as kinds

-- whether the tape has a Chapter node, written or not
unfoldable pub any_chapter : List Node → Bool
any_chapter [] = false
any_chapter (n ∷ ns) = eqb n.kind.code kinds.chapter || any_chapter ns

-- "the chapter starts at 1 if the tape has no Chapter node, else 0"
unfoldable pub first_state_of : Tape → State
first_state_of t = record { book = []; number = cond (any_chapter t.nodes) 0 1; chapter = none; verse = none }

-- usx around the paired events; ends stand before the last newline
unfoldable pub items_of_tape : Tape → List Item
items_of_tape t = framed (paired (first_state_of t) (events_of t) ++ (line 0 ∷ []))

-- the text of a tape
unfoldable pub text_of : Tape → Bytes
text_of t = render (items_of_tape t)

-- the number and length of an answer, and the whole buffer behind it
pub record Outcome : Type 0 where
  pub number : ℕ
  pub given : ℕ
  pub buffer : Bytes

-- room for a text, or 8 with the length needed
unfoldable pub fitting : Bytes → Bytes → Outcome
fitting text out =
    cond (leb (length text) (length out))
    (record { number = 0; given = length text; buffer = text ++ drop (length text) out })
    (record { number = 8; given = length text; buffer = out })

-- "refusals 1 to 7 give length 0; 1 to 8 write nothing"
unfoldable pub outcome_by : ℕ → Bytes → Bytes → Outcome
outcome_by zero text out = fitting text out
outcome_by (suc n) text out = record { number = suc n; given = 0; buffer = out }

-- what a call gives for a file and a buffer
unfoldable pub outcome : Bytes → Bytes → Outcome
outcome file out = outcome_by (refusal file) (text_of (tape_of file)) out
