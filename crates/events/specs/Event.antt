-- Events: what a walk over a tape finds, in order. They know nothing of ends and identifiers.
use Rattle.std.specs.Prelude.{ℕ, List, [], ◌∷◌, ◌++◌, Bool, true, false, cond}
use Rattle.std.proofs.Math.Option.{Option, none, some}
use Rattle.parts.specs.Bytes.{Bytes}
use Rattle.tags.specs.Items.{Attr, Item, start, close}
use Rattle.attrs.specs.Attr.{Pair}

-- an item as it stands; a chapter or verse with its alternate and published numbers; a book's code and rest
pub data Event : Type 0 where
  item : Item → Event
  chapter : ℕ → Option Bytes → Option Bytes → Event
  verse : Bytes → Option Bytes → Option Bytes → Event
  book : Bytes → Bytes → Event
  -- before and behind a note or a figure: what a text that leaves these out passes over
  aside back : Event

-- ---- attributes

-- a name: written as it is
unfoldable pub rawly : Bytes → Bytes → Attr
rawly key value = record { key = key; value = value; raw = true }

-- a value: written with its escapes
unfoldable pub escaped : Bytes → Bytes → Attr
escaped key value = record { key = key; value = value; raw = false }

-- a value that may be missing
unfoldable pub perhaps : Bytes → Option Bytes → List Attr
perhaps key none = []
perhaps key (some value) = escaped key value ∷ []

-- the attributes that `collect_attributes` or a figure of old gives
unfoldable pub collected : List Pair → List Attr
collected [] = []
collected (p ∷ ps) = escaped p.key p.value ∷ collected ps

-- ---- elements

-- an element around its content
unfoldable pub element : ℕ → List Attr → List Event → List Event
element n qs es = item (start n qs) ∷ (es ++ (item (close n) ∷ []))

-- a note or a figure: `aside` before it, `back` behind it
unfoldable pub asided : List Event → List Event
asided es = aside ∷ (es ++ (back ∷ []))

-- what may be one
unfoldable pub besides : Bool → List Event → List Event
besides one es = cond one (asided es) es
