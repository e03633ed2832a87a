-- The drafts that steps build.
use Rattle.std.specs.Prelude.{◌≡◌, ◌⊎◌, ℕ}
use Rattle.tape.specs.Kind as kinds
use Rattle.draft.specs.Draft.{Draft, Act, piece, entry, plain, leaf, opens, closes, empty, after}
use Rattle.draft.specs.Fault.{fault}

-- the kinds that open and close nothing: Text, Attribute, Error, Chapter, Verse
abbrev pub PlainKind : ℕ → Type 0
PlainKind k = (k ≡ kinds.text) ⊎ ((k ≡ kinds.attribute) ⊎ ((k ≡ kinds.error) ⊎ ((k ≡ kinds.chapter) ⊎ (k ≡ kinds.verse))))

-- a node of a step is of that step's kinds
abbrev pub Proper : Act → Type 0
Proper (piece s) = Unit {0}
Proper (entry s e) = Unit {0}
Proper (plain n) = PlainKind n.kind.code
Proper (leaf n) = n.kind.code ≡ kinds.marker_open
Proper (opens n) = n.kind.code ≡ kinds.marker_open
Proper (closes n) = (n.kind.code ≡ kinds.marker_close) ⊎ (n.kind.code ≡ kinds.block_end_of)

-- a draft that steps have built, each of them done
pub data Grown : Draft → Type 0 where
  start : Grown empty
  step : {d : Draft} → Grown d → (a : Act) → Proper a → (room : ℕ) → fault d a room ≡ 0 → Grown (after d a)
