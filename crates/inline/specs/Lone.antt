-- Chars that hold one text alone.
use Rattle.std.specs.Prelude.{◌≡◌, Bool, true, false, List, [], ◌∷◌, ℕ, drop, None, Some}
use Rattle.parts.specs.Bytes.{Bytes, b}
use Rattle.tape.specs.File.{Tape, node_at, kind_at}
use Rattle.tape.specs.Tree.{next_sibling, first_child}
use Rattle.tape.specs.declared.Cursor.{Cursor}
use Rattle.tape.specs.Found.{Step}
use Rattle.tape.specs.Kind as kinds
use Rattle.render.specs.Shape.{trims_after_of}
use Rattle.attrs.specs.Attr.{attributes_of}
use Rattle.events.specs.Event.{Event, rawly, collected, element}
use Rattle.events.specs.Emit.{emit_all}
use Rattle.tags.specs.Items.{Attr, start, text, close}
use Rattle.tags.specs.Element as el
use Rattle.desk.specs.Desk.{desk_of}
use Rattle.desk.specs.Stroke.{Stroke, strokes_of_all}
use Rattle.desk.specs.declared.Desk.{Desk as Held}

-- an Attribute that no sibling follows
pub record LastAttribute (t : Tape) (a : Cursor) : Type 0 where
  pub kind : kind_at t a.at ≡ kinds.attribute
  pub last : next_sibling t a.at ≡ None

-- a step leads nowhere or to such an Attribute
abbrev pub AttributeAt : Tape → Step → Type 0
AttributeAt t None = Unit {0}
AttributeAt t (Some a) = LastAttribute t a

-- a node's first child is a text, and nothing follows that text but such an Attribute
pub record OnlyText (t : Tape) (n : ℕ) (k : Cursor) : Type 0 where
  pub first : first_child t n ≡ Some k
  pub text : kind_at t k.at ≡ kinds.text
  pub rest : AttributeAt t (next_sibling t k.at)

-- the same of where a step leads, if it leads anywhere
abbrev pub OnlyAt : Tape → ℕ → Step → Type 0
OnlyAt t n None = Unit {0}
OnlyAt t n (Some k) = OnlyText t n k

-- the source from a node's span on
abbrev pub tail_at : Tape → ℕ → Bytes
tail_at t k = drop (node_at t k).start t.source

-- the strokes of a char of this name with attributes, around a text
abbrev pub lone_char : Bytes → List Attr → Bytes → List Stroke
lone_char name qs t = strokes_of_all (start el.char (rawly (b "style") name ∷ qs) ∷ text t ∷ close el.char ∷ [])

-- a char of this name with a node's attributes, around events
abbrev pub char_around : Tape → ℕ → Bytes → List Event → List Event
char_around t n name es = element el.char (rawly (b "style") name ∷ collected (attributes_of t n name)) es

-- what may have been written: nothing is changed, or the events are written
abbrev pub PutAs : Bytes → Held → Bytes → List Event → Held → Bytes → Bool → Type 0
PutAs source d out es last-d last false = desk_of source last-d last ≡ desk_of source d out
PutAs source d out es last-d last true = desk_of source last-d last ≡ emit_all (desk_of source d out) es

-- what was written of a node: a text behind it keeps its leading space
abbrev pub KeepsBehind : Tape → ℕ → Bool → Type 0
KeepsBehind t k false = Unit {0}
KeepsBehind t k true = trims_after_of t k ≡ false
