-- What each step of the writer answers and leaves: the contracts.
use Rattle.std.specs.Prelude.{◌≡◌, Bool, cond, ◌||◌, ◌++◌, ℕ, zero, suc, length, eqb}
use Rattle.parts.specs.Bytes.{Bytes}
use Rattle.tape.specs.declared.Node.{Node}
use Rattle.tape.specs.Kind as kinds
use Rattle.draft.specs.Draft.{Act, empty, after, size_of}
use Rattle.layout.specs.declared.Writer.{Writer}
use Rattle.layout.specs.Layout.{at_work_of, finished, top_len, held_in, free_of, draft_of, state_of, file_of, behind_of}
use Rattle.layout.specs.Steps.{buffer_after}
use Rattle.judge.specs.Phase.{number_of, start_number_of, finish_number_of}
use Rattle.writer.specs.declared.Answer.{Answer}

-- ---- answers

-- one of two by a number: the first where the step is done
abbrev pub pick : {A : Type 0} → ℕ → A → A → A
pick zero done kept = done
pick (suc k) done kept = kept

-- the length given: that of the file with this step where it is done or would need room, else 0
unfoldable pub length_given : ℕ → ℕ → ℕ
length_given number size = cond (eqb number 0 || eqb number 8) size 0

-- the answer with a number: the length, and the state behind the step or, refused, as it was
abbrev pub answer_of : ℕ → ℕ → Writer → Writer → Answer
answer_of number size done kept = record { number = number; length = length_given number size; writer = pick number done kept }

-- what a step leaves: its answer, the whole buffer, and the draft with what it adds, or all as it was
pub record Took (w : Writer) (buf : Bytes) (a : Act) (r : Answer) (last : Bytes) : Type 0 where
  pub answer : r ≡ answer_of (number_of w buf a) (size_of (after (draft_of w buf) a)) (state_of at_work_of (after (draft_of w buf) a)) w
  pub buffer : last ≡ pick (number_of w buf a) (buffer_after w buf a) buf
  pub draft : draft_of r.writer last ≡ pick (number_of w buf a) (after (draft_of w buf) a) (draft_of w buf)

-- what a start leaves: the empty draft, and every byte of the buffer as it was
pub record Started (w : Writer) (buf : Bytes) (r : Answer) (last : Bytes) : Type 0 where
  pub answer : r ≡ answer_of (start_number_of w (length buf)) top_len (state_of at_work_of empty) w
  pub buffer : last ≡ buf

-- what a finish leaves: the file at the buffer's front, and behind it free bytes as they were lent and zeros
pub record Finished (w : Writer) (buf : Bytes) (r : Answer) (last : Bytes) : Type 0 where
  pub answer : r ≡ answer_of (finish_number_of w (length buf)) (size_of (draft_of w buf)) (state_of finished (draft_of w buf)) w
  pub buffer : last ≡ pick (finish_number_of w (length buf)) (file_of w (held_in w buf) ++ behind_of w (free_of w buf)) buf

-- ---- what callers give

-- a node of these fields
abbrev pub node_with : ℕ → ℕ → ℕ → ℕ → ℕ → ℕ → Node
node_with kind flags marker link start len =
    record { kind = record { code = kind }; flags = record { bits = flags }; marker = marker; link = link; start = start; len = len }

-- the kind of a close
abbrev pub close_kind : Bool → ℕ
close_kind block = cond block kinds.block_end_of kinds.marker_close
