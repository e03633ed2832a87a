-- What a search for a pair or a value gives, or nothing.
use Rattle.std.specs.Prelude.{Option}
use Rattle.words.specs.declared.Part.{Part}
use Rattle.attrs.specs.declared.First.{First}
use Rattle.attrs.specs.declared.Item.{Item}
use Rattle.attrs.specs.declared.Key.{Key}
use Rattle.attrs.specs.declared.Value.{Value}
use Rattle.attrs.specs.declared.Attribute.{Attribute}

-- the pair at the front of a text
abbrev pub AtFront : Type 0
AtFront = Option First

-- the first pair of a part of the source that has a key
abbrev pub Listed : Type 0
Listed = Option (Item Part)

-- the same with the key that a marker gives it
abbrev pub Got : Type 0
Got = Option (Item Key)

-- the next attribute
abbrev pub Next : Type 0
Next = Option Attribute

-- the value that was sought
abbrev pub Sought : Type 0
Sought = Option Value
