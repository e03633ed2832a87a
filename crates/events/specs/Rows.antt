-- A row of a table of examples: a file, the room for its text, and the outcome.
use Rattle.std.specs.Prelude.{◌≡◌, List, [], ◌∷◌, ◌++◌, ℕ, ◌-◌, length, replicate}
use Rattle.parts.specs.Bytes.{Bytes}
use Rattle.events.specs.Text.{outcome}

-- a file and the length of its buffer; the number, the length given and the text written
pub record Row : Type 0 where
  pub file : Bytes
  pub room : ℕ
  pub number : ℕ
  pub given : ℕ
  pub text : Bytes

-- file, room, number, length given, text
abbrev pub row : Bytes → ℕ → ℕ → ℕ → Bytes → Row
row s r n l t = record { file = s; room = r; number = n; given = l; text = t }

-- what a row says: behind the text the buffer is as it was
abbrev pub Holds : Row → Type 0
Holds r =
    outcome r.file (replicate r.room 0)
    ≡ record { number = r.number; given = r.given; buffer = r.text ++ replicate (r.room - length r.text) 0 }

-- something said of each member of a list
abbrev pub Each : {A : Type 0} → (A → Type 0) → List A → Type 0
Each P [] = Unit
Each P (x ∷ xs) = P x × Each P xs
