-- What is written is sound: of the written events alone, without the proviso.
use Rattle.std.specs.Prelude.{List, [], ◌∷◌}
use Rattle.tape.specs.File.{Tape}
use Rattle.tags.specs.Write.{Clean}
use Rattle.tags.specs.Items.{Item, start, empty, close, text, line, LegalAttrs}
use Rattle.tags.specs.declared.Class.TheVariants.{Value}
use Rattle.events.specs.Event.{Event, item, chapter, verse, book, aside, back}
use Rattle.events.specs.Pairing.{State, chapter_id_of, verse_id_of, after}
use Rattle.events.specs.Text.{first_state_of}
use Rattle.events.specs.Walk.{events_of}
use Rattle.accepts.specs.Proviso.{Free}

-- an item: keys that the tag form allows, style names that may stand raw in a value
abbrev pub SoundItem : Item → Type 0
SoundItem (start n qs) = LegalAttrs qs
SoundItem (empty n qs) = LegalAttrs qs
SoundItem (close n) = Unit {0}
SoundItem (text t) = Unit {0}
SoundItem (line d) = Unit {0}

-- an event in a state: its identifier is free of the four bytes; a book's code may stand raw in a value
abbrev pub SoundEvent : State → Event → Type 0
SoundEvent s (item i) = SoundItem i
SoundEvent s (chapter n alt published) = Free (chapter_id_of s.book n)
SoundEvent s (verse label alt published) = Free (verse_id_of s.book s.number label)
SoundEvent s (book code rest) = Clean Value code
SoundEvent s aside = Unit {0}
SoundEvent s back = Unit {0}

-- events one behind the other, each in the state that those before it leave
abbrev pub SoundEvents : State → List Event → Type 0
SoundEvents s [] = Unit {0}
SoundEvents s (e ∷ es) = SoundEvent s e × SoundEvents (after s e) es

-- all that is written of a tape
pub record Sound (t : Tape) : Type 0 where
  pub events : SoundEvents (first_state_of t) (events_of t)
