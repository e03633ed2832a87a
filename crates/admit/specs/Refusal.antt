-- The lowest number that applies to a file, and 0 where none does.
use Rattle.std.specs.Prelude.{ℕ, Result, Ok, Err}
use Rattle.parts.specs.Bytes.{Bytes}
use Rattle.tape.specs.File.{tape_of}
use Rattle.tape.specs.declared.Sections.{Sections}
use Rattle.tape.specs.declared.TapeFile.{TapeFile}
use Rattle.nest.specs.Nest.{TooDeep, Nested}
use Rattle.admit.specs.Rules.{LaidOut, Small, Utf8, GoodNames, GoodNodes}
use Rattle.admit.specs.declared.reason.Reason.{Reason}
use Rattle.admit.specs.declared.reason.Reason.TheVariants.{Layout, Limits, Source, Names, Nodes, Depth, Nesting}

-- a file keeps the rule of 1
pub record Kept₁ (file : Bytes) : Type 0 where
  pub laid : LaidOut file

-- a file keeps the rules of 1 and 2
pub record Kept₂ (file : Bytes) : Type 0 where
  pub kept : Kept₁ file
  pub small : Small file

-- a file keeps the rules of 1 to 3
pub record Kept₃ (file : Bytes) : Type 0 where
  pub kept : Kept₂ file
  pub utf8 : Utf8 (tape_of file)

-- a file keeps the rules of 1 to 4
pub record Kept₄ (file : Bytes) : Type 0 where
  pub kept : Kept₃ file
  pub names : GoodNames (tape_of file)

-- a file keeps the rules of 1 to 5
pub record Kept₅ (file : Bytes) : Type 0 where
  pub kept : Kept₄ file
  pub nodes : GoodNodes (tape_of file)

-- a file keeps the rules of 1 to 6
pub record Kept₆ (file : Bytes) : Type 0 where
  pub kept : Kept₅ file
  pub shallow : TooDeep (tape_of file).nodes → ⊥

-- a file keeps every rule
pub record Kept₇ (file : Bytes) : Type 0 where
  pub kept : Kept₆ file
  pub nested : Nested (tape_of file).nodes

-- the lowest number that applies: the rule of each lower number is kept, and its own is broken
pub data Refusal (file : Bytes) : ℕ → Type 0 where
  none : Kept₇ file → Refusal file 0
  first : (LaidOut file → ⊥) → Refusal file 1
  second : Kept₁ file → (Small file → ⊥) → Refusal file 2
  third : Kept₂ file → (Utf8 (tape_of file) → ⊥) → Refusal file 3
  fourth : Kept₃ file → (GoodNames (tape_of file) → ⊥) → Refusal file 4
  fifth : Kept₄ file → (GoodNodes (tape_of file) → ⊥) → Refusal file 5
  sixth : Kept₅ file → TooDeep (tape_of file).nodes → Refusal file 6
  seventh : Kept₆ file → (Nested (tape_of file).nodes → ⊥) → Refusal file 7

-- the number of a reason
unfoldable pub reason_number : Reason → ℕ
reason_number Layout = 1
reason_number Limits = 2
reason_number Source = 3
reason_number Names = 4
reason_number Nodes = 5
reason_number Depth = 6
reason_number Nesting = 7

-- the number of an answer, 0 for an admitted tape
unfoldable pub refusal_number : Result TapeFile Reason → ℕ
refusal_number (Ok t) = 0
refusal_number (Err e) = reason_number e

-- what an answer says of the bytes: the sections, or why they are refused
unfoldable pub said_of : Result TapeFile Reason → Result Sections Reason
said_of (Ok t) = Ok t.sections
said_of (Err e) = Err e
