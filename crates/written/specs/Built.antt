-- Runs of steps, by the contracts of the steps alone, and what is promised of the file that they end as.
use Rattle.std.specs.Prelude.{◌≡◌, List, [], ◌∷◌, length, take}
use Rattle.parts.specs.Bytes.{Bytes}
use Rattle.tape.specs.File.{Tape, tape_of}
use Rattle.admit.specs.Refusal.{Refusal}
use Rattle.events.specs.Text.{text_of, fitting, outcome}
use Rattle.draft.specs.Draft.{Act}
use Rattle.draft.specs.Grown.{Proper}
use Rattle.layout.specs.declared.Writer.{Writer}
use Rattle.writer.specs.declared.Answer.{Answer}
use Rattle.writer.specs.Steps.{Took, Started}

-- the states and buffers that steps lead to from a start that is done on; a refused step leads to where it stood
pub data Built : Writer → Bytes → Type 0 where
  begun : {w : Writer} {buf last : Bytes} {r : Answer} → Started w buf r last → r.number ≡ 0 → Built r.writer last
  next : {w : Writer} {buf last : Bytes} {r : Answer} → Built w buf → (a : Act) → Proper a → Took w buf a r last → Built r.writer last

-- steps one after the other, done or refused
pub data Ran : Writer → Bytes → List Act → Writer → Bytes → Type 0 where
  none : {w : Writer} {buf : Bytes} → Ran w buf [] w buf
  more : {w v : Writer} {buf mid last : Bytes} {a : Act} {rest : List Act} {r : Answer} → Took w buf a r mid → Ran r.writer mid rest v last → Ran w buf (a ∷ rest) v last

-- all of them done
abbrev pub AllDone : {w v : Writer} {buf last : Bytes} {acts : List Act} → Ran w buf acts v last → Type 0
AllDone none = Unit {0}
AllDone (more {r = r} t rest) = (r.number ≡ 0) × AllDone rest

-- the finished file: the buffer's front, as long as the answer says
abbrev pub file_in : Answer → Bytes → Bytes
file_in r last = take r.length last

-- what is promised of it: it is admitted, it holds the tape of the draft, and a call of `serialize` gives the text or 8
pub record Promised (file : Bytes) (t : Tape) : Type 0 where
  pub admitted : Refusal file 0
  pub tape : tape_of file ≡ t
  pub serialized : (out : Bytes) → outcome file out ≡ fitting (text_of t) out
