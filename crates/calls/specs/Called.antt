-- What a call of both says: the serializer's answer, and the checker's answer to the text that was written.
use Rattle.std.specs.Prelude.{◌≡◌, ℕ}
use Rattle.parts.specs.Bytes.{Bytes}
use Rattle.tape.specs.File.{tape_of}
use Rattle.checker.specs.Words.{Judged}
use Rattle.checker.specs.Answer.{answer_of}
use Rattle.checker.specs.declared.Verdict.{Verdict}
use Rattle.checker.specs.declared.Verdict.TheVariants.{Accepted}
use Rattle.events.specs.Text.{text_of}
use Rattle.events.specs.Walk.{events_of}
use Rattle.pairing.specs.Seen.{chapters_in, verses_in}
use Rattle.usx.specs.declared.Answer.{Answer}
use Rattle.usx.specs.declared.Answer.TheVariants.{Written as AnswerWritten, Refused as AnswerRefused, NoRoom as AnswerNoRoom}
use Rattle.accepts.specs.Proviso.{Proviso}
use Rattle.calls.specs.declared.Called.{Called}
use Rattle.calls.specs.declared.Called.TheVariants.{Written, Refused, NoRoom}

-- the serializer's answer
unfoldable pub answer_in : Called → Answer
answer_in (Written n v) = AnswerWritten n
answer_in (Refused n) = AnswerRefused n
answer_in (NoRoom n) = AnswerNoRoom n

-- the checker's answer to the file's text; where the file keeps the proviso it is accepted, with the Chapter and Verse nodes that the text writes
pub data Checked (file : Bytes) : Called → Type 0 where
  written : {n : ℕ} {v : Verdict} → Judged (text_of (tape_of file)) (answer_of v)
      → (Proviso (tape_of file) → v ≡ Accepted (chapters_in (events_of (tape_of file))) (verses_in (events_of (tape_of file)))) → Checked file (Written n v)
  refused : {n : ℕ} → Checked file (Refused n)
  no_room : {n : ℕ} → Checked file (NoRoom n)
