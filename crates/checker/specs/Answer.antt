-- Document 01's answer to a text: a number, and both counts.
use Rattle.std.specs.Prelude.{ℕ}
use Rattle.checker.specs.declared.Verdict.{Verdict}
use Rattle.checker.specs.declared.Verdict.TheVariants.{Accepted, NotTags, TooHigh, NoTree, BadMarks}

-- an answer's number, and the numbers of chapter and verse starts that go with it
pub record Answer : Type 0 where
  pub number : ℕ
  pub chapters : ℕ
  pub verses : ℕ

-- "0 with the numbers of chapter and verse starts"
abbrev pub accepted : ℕ → ℕ → Answer
accepted c v = record { number = 0; chapters = c; verses = v }

-- "11 to 14 give zero counts"
abbrev pub refused : ℕ → Answer
refused n = record { number = n; chapters = 0; verses = 0 }

-- the number and the counts of each case of the enum
unfoldable pub answer_of : Verdict → Answer
answer_of (Accepted c v) = accepted c v
answer_of NotTags = refused 11
answer_of TooHigh = refused 12
answer_of NoTree = refused 13
answer_of BadMarks = refused 14
