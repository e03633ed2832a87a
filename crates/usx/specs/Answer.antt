-- What an answer says in document 01's numbers.
use Rattle.std.specs.Prelude.{ℕ}
use Rattle.parts.specs.Bytes.{Bytes}
use Rattle.events.specs.Text.{Outcome}
use Rattle.usx.specs.declared.Answer.{Answer}
use Rattle.usx.specs.declared.Answer.TheVariants.{Written, Refused, NoRoom}

-- document 01's number of an answer: 0 where the text is written, 8 where there is no room
unfoldable pub answer_number : Answer → ℕ
answer_number (Written n) = 0
answer_number (Refused n) = n
answer_number (NoRoom n) = 8

-- the length that an answer gives: none where the tape is refused
unfoldable pub answer_length : Answer → ℕ
answer_length (Written n) = n
answer_length (Refused n) = 0
answer_length (NoRoom n) = n

-- an answer and the buffer behind it
unfoldable pub outcome_of : Answer → Bytes → Outcome
outcome_of a buffer = record { number = answer_number a; given = answer_length a; buffer = buffer }
