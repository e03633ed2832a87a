-- The auditor's question: which start's `sid` and which end's `eid` differ in the text.
use Rattle.std.specs.Prelude.{◌≡◌, List, [], ◌∷◌, ◌++◌, ◌↔◌, ℕ}
use Rattle.parts.specs.Bytes.{Bytes}
use Rattle.tape.specs.File.{Tape}
use Rattle.tags.specs.Items.{Attr, Item, start, empty, close, text, line, pairs_of_of}
use Rattle.checker.specs.Words.{Kind, IsStart, IsEnd}
use Rattle.events.specs.Event.{Event, item, chapter, verse, book, aside, back}
use Rattle.events.specs.Pairing.{State, after}
use Rattle.events.specs.Text.{first_state_of, items_of_tape}
use Rattle.events.specs.Walk.{events_of}
use Rattle.pairing.specs.Seen.{pairs}
use Rattle.accepts.specs.Proviso.{Free}

-- no tag of that kind stands among the items: neither a start nor an end
abbrev pub NoTag : ℕ → List Item → Type 0
NoTag k [] = Unit {0}
NoTag k (start n qs ∷ is) = (n ≡ k → ⊥) × NoTag k is
NoTag k (empty n qs ∷ is) = (n ≡ k → ⊥) × NoTag k is
NoTag k (close n ∷ is) = (n ≡ k → ⊥) × NoTag k is
NoTag k (text s ∷ is) = NoTag k is
NoTag k (line d ∷ is) = NoTag k is

-- the end that belongs to a start with these attributes, among the items behind it
pub record Ended (k : ℕ) (qs : List Attr) (z : List Item) : Type 0 where
  -- the next tag of its kind
  pub between : List Item
  pub ends : List Attr
  pub after : List Item
  pub here : z ≡ between ++ empty k ends ∷ after
  pub next : NoTag k between
  -- its identifier before the escapes
  pub identifier : Bytes
  pub identifier_is : IsEnd (pairs ends) identifier
  -- the bytes of the start's `sid` and of its own `eid` as they stand in the text
  pub sid : Bytes
  pub eid : Bytes
  pub sid_is : IsStart (pairs_of_of qs) sid
  pub eid_is : IsEnd (pairs_of_of ends) eid

-- such an end, and a start with this identifier
pub record Agrees (k : ℕ) (i : Bytes) (qs : List Attr) (z : List Item) (e : Ended k qs z) : Type 0 where
  -- "before escapes they are always equal"
  pub before : e.identifier ≡ i
  -- "equal bytes exactly where the identifier holds none of & < > and the double quote"
  pub text : (e.sid ≡ e.eid) ↔ Free i

-- at each chapter and verse start of the text `sid` and the `eid` of its end are equal bytes
pub record AllAgree (t : Tape) : Type 0 where
  pub same : (k : ℕ) → Kind k → (a : List Item) (qs : List Attr) (z : List Item) (i : Bytes) → items_of_tape t ≡ a ++ empty k qs ∷ z → IsStart (pairs qs) i
      → (e : Ended k qs z) → e.sid ≡ e.eid

-- of each chapter that is written the book code, of each verse the book code and the label hold none of the four bytes
abbrev pub FreeNames : State → List Event → Type 0
FreeNames s [] = Unit {0}
FreeNames s (item i ∷ es) = FreeNames s es
FreeNames s (chapter n alt published ∷ es) = Free s.book × FreeNames (after s (chapter n alt published)) es
FreeNames s (verse label alt published ∷ es) = (Free s.book × Free label) × FreeNames (after s (verse label alt published)) es
FreeNames s (book code rest ∷ es) = FreeNames (after s (book code rest)) es
FreeNames s (aside ∷ es) = FreeNames s es
FreeNames s (back ∷ es) = FreeNames s es

-- those of a tape
abbrev pub WrittenFree : Tape → Type 0
WrittenFree t = FreeNames (first_state_of t) (events_of t)
