-- What the calls about a finished text and about names leave: numbers at fixed places, as far as the lent slice reaches. The contracts.
use Rattle.std.specs.Prelude.{◌≡◌, List, ℕ, set}
use Rattle.parts.specs.Bytes.{Bytes}
use Rattle.words.specs.declared.Part.{Part}
use Rattle.tape.specs.File.{tape_of}
use Rattle.checker.specs.declared.Verdict.{Verdict}
use Rattle.checker.specs.declared.Verdict.TheVariants.{Accepted, NotTags, TooHigh, NoTree, BadMarks}
use Rattle.checker.specs.Answer.{answer_of}
use Rattle.checker.specs.Words.{Judged}
use Rattle.checker.specs.Place.{broken_place, line_of}
use Rattle.names.specs.declared.What.{What}
use Rattle.names.specs.declared.What.TheVariants.{Code, Label, Marker, Key}
use Rattle.names.specs.declared.Found.{Found}
use Rattle.names.specs.declared.Found.TheVariants.{Refused, Kept, Broken}
use Rattle.names.specs.Finding.{Finds}

-- ---- a finished text

-- a number that is said of a refused text alone, and is 0 of an accepted one
unfoldable pub of_refused_of : Verdict → ℕ → ℕ
of_refused_of (Accepted c v) n = 0
of_refused_of NotTags n = n
of_refused_of TooHigh n = n
of_refused_of NoTree n = n
of_refused_of BadMarks n = n

-- how many bytes stand before the place where a text broke its rule
unfoldable pub place_told : Verdict → Bytes → ℕ
place_told v s = of_refused_of v (broken_place v s)

-- the line of a place, from 1
unfoldable pub line_told : Verdict → Bytes → ℕ → ℕ
line_told v s at = of_refused_of v (line_of s at)

-- document 01's answer to a text: its number; of the lent numbers 0 and 1 are its counts, 2 the place and 3 its line
pub record Checked (text : Bytes) (before : List ℕ) (number : ℕ) (after : List ℕ) : Type 0 where
  pub verdict : Verdict
  pub judged : Judged text (answer_of verdict)
  pub answer : number ≡ (answer_of verdict).number
  pub told : after
      ≡ set (set (set (set before 0 (answer_of verdict).chapters) 1 (answer_of verdict).verses) 2 (place_told verdict text)) 3 (line_told verdict text (place_told verdict text))

-- ---- the names of a tape

-- what a name is, as a number
unfoldable pub what_number : What → ℕ
what_number Code = 1
what_number Label = 2
what_number Marker = 3
what_number Key = 4

-- a name told: what it is, its node, its part of the source, the line of that
unfoldable pub name_in_of : List ℕ → ℕ → ℕ → Part → ℕ → List ℕ
name_in_of before what node place line = set (set (set (set (set before 0 what) 1 node) 2 place.start) 3 place.len) 4 line

-- no name told
abbrev pub none_in_of : List ℕ → List ℕ
none_in_of before = name_in_of before 0 0 (record { start = 0; len = 0 }) 0

-- document 01's number of what is found: 0 where the file is admitted
unfoldable pub found_number : Found → ℕ
found_number (Refused n) = n
found_number Kept = 0
found_number (Broken node what place) = 0

-- the numbers behind what is found in a file
unfoldable pub found_in : Bytes → List ℕ → Found → List ℕ
found_in file before (Refused n) = none_in_of before
found_in file before Kept = none_in_of before
found_in file before (Broken node what place) = name_in_of before (what_number what) node place (line_of (tape_of file).source place.start)

-- what is found in a file: its number, and the lent numbers behind it
pub record Named (file : Bytes) (before : List ℕ) (number : ℕ) (after : List ℕ) : Type 0 where
  pub found : Found
  pub finds : Finds file found
  pub answer : number ≡ found_number found
  pub told : after ≡ found_in file before found
