-- The `sid` of chapters and verses as it stands in the text.
use mathlib.Core.Path.{◌≡◌, refl}
use mathlib.Core.Bool.{true}
use mathlib.Core.Option.{Option, none as nothing, some}
use Prim.Native.Nat.{ℕ}
use Rattle.parts.specs.Bytes.{Bytes, same}
use Rattle.chars.specs.Escape.{escape}
use Rattle.tags.specs.Items.{value_of, pairs_of_of}
use Rattle.checker.specs.View.{start as starts, bare, id_key_of, noted_by, noted, mark_on}
use Rattle.events.specs.Event.{rawly, escaped, perhaps}
use Rattle.events.specs.Pairing.{chapter_id_of, verse_id_of, chapter_attrs_of, verse_attrs_of}

-- a chapter's tag as it stands in the text is a start with the escape of its identifier
pub chapter_sid : (code : Bytes) (n : ℕ) (alt published : Option Bytes) → mark_on bare (pairs_of_of (chapter_attrs_of code n alt published)) ≡ starts (escape true (chapter_id_of code n))
unfolding pairs_of_of value_of chapter_attrs_of perhaps rawly escaped mark_on noted noted_by id_key_of same
chapter_sid code n nothing nothing = refl
chapter_sid code n nothing (some p) = refl
chapter_sid code n (some a) nothing = refl
chapter_sid code n (some a) (some p) = refl

-- a verse's
pub verse_sid : (code : Bytes) (n : ℕ) (label : Bytes) (alt published : Option Bytes)
    → mark_on bare (pairs_of_of (verse_attrs_of code n label alt published)) ≡ starts (escape true (verse_id_of code n label))
unfolding pairs_of_of value_of verse_attrs_of perhaps rawly escaped mark_on noted noted_by id_key_of same
verse_sid code n label nothing nothing = refl
verse_sid code n label nothing (some p) = refl
verse_sid code n label (some a) nothing = refl
verse_sid code n label (some a) (some p) = refl
