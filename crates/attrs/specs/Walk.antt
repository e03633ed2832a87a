-- What the code's parts, keys, values and answers stand for.
use Rattle.std.specs.Prelude.{None, Some, ℕ, ◌+◌, ◌≤◌, ◌<◌, ◌≡◌, List, [], ◌∷◌, ◌++◌, map, cond, length, drop}
use Rattle.std.proofs.Math.Option.{Option, none, some}
use Rattle.std.specs.Borrow.{Bor}
use Rattle.parts.specs.Bytes.{Bytes, b, part, same}
use Rattle.parts.specs.Place.{VeryPart}
use Rattle.words.specs.Words.{bytes_of}
use Rattle.words.specs.declared.Part.{Part}
use Rattle.tape.specs.File.{Tape}
use Rattle.tape.specs.Tree.{first_child, walk_from}
use Rattle.attrs.specs.Attr.{Pair, shown, keyed, pairs_in, keyed_for, pairs_along}
use Rattle.attrs.specs.declared.Taken.{Taken}
use Rattle.attrs.specs.declared.Value.{Value}
use Rattle.attrs.specs.declared.Key.{Key}
use Rattle.attrs.specs.declared.Key.TheVariants.{Own, Fixed}
use Rattle.attrs.specs.declared.Attrs.{Attrs}
use Rattle.attrs.specs.Found.{AtFront, Listed, Got, Next, Sought}

-- the keys that stand in no source
abbrev pub fixed_keys : Bytes
fixed_keys = b "lemmaglosshrefloclink-hrefidwhodefaultfile"

-- a part of a text that is these bytes
pub record Spot (s : Bytes) (p : Part) (w : Bytes) : Type 0 where
  pub inside : p.start + p.len ≤ length s
  pub here : bytes_of s p ≡ w

-- what a value stands for
unfoldable pub value_of : Bytes → Value → Bytes
value_of s v = shown v.quoted (part s v.start v.len)

-- a key is a part of the source or of the lent text of fixed keys
unfoldable pub key_of : Bytes → Bytes → Key → Bytes
key_of source fixed (Own p) = bytes_of source p
key_of source fixed (Fixed p) = bytes_of fixed p

-- r is that very part
unfoldable pub KeyPart : Bor Bytes → Bor Bytes → Key → Bor Bytes → Type 0
KeyPart source fixed (Own p) r = VeryPart source r p.start p.len
KeyPart source fixed (Fixed p) r = VeryPart fixed r p.start p.len

-- a pair in front of the pairs of a text, by its parts
pub record Front (s : Bytes) (key : Part) (v : Taken) : Type 0 where
  pub key_inside : key.start + key.len ≤ length s
  pub value_inside : v.start + v.len ≤ length s
  pub past_inside : v.past ≤ length s
  pub further : 0 < v.past
  pub listed : pairs_in s ≡ keyed (bytes_of s key) (shown v.quoted (part s v.start v.len)) ++ pairs_in (drop v.past s)

-- what is at the front of a text
abbrev pub FirstOf : Bytes → AtFront → Type 0
FirstOf s (Some f) = Front s f.key f.value
FirstOf s None = pairs_in s ≡ []

-- the pairs of a part, by the first of them and what follows it
unfoldable pub item_list : Bytes → Listed → List Pair
item_list source (Some i) = record { key = bytes_of source i.key; value = value_of source i.value } ∷ pairs_in (bytes_of source i.rest)
item_list source None = []

-- the same with the keys that a marker has
unfoldable pub got_list : Bytes → Bytes → Got → List Pair
got_list source marker (Some i) =
    record { key = key_of source fixed_keys i.key; value = value_of source i.value } ∷ map (keyed_for marker) (pairs_in (bytes_of source i.rest))
got_list source marker None = []

-- the attributes that are still to come
unfoldable pub remaining : Tape → Bytes → Attrs → List Pair
remaining t marker a =
    map (keyed_for marker) (pairs_in (bytes_of t.source a.rest)) ++ pairs_along t marker (walk_from t a.next)

-- a walk before the first attribute: nothing is left of a body, and the first child is next
unfoldable pub attrs_start : Tape → ℕ → Attrs
attrs_start t k = record { rest = record { start = 0; len = 0 }; next = first_child t k }

-- an answer: one attribute and those behind it
unfoldable pub next_list : Tape → Bytes → Next → List Pair
next_list t marker (Some a) =
    record { key = key_of t.source fixed_keys a.key; value = value_of t.source a.value } ∷ remaining t marker a.left
next_list t marker None = []

-- the value of the first pair that has a key
unfoldable pub first_of : Bytes → List Pair → Option Bytes
first_of key [] = none
first_of key (p ∷ ps) = cond (same p.key key) (some p.value) (first_of key ps)

-- the value that was sought, as bytes
unfoldable pub sought_of : Bytes → Sought → Option Bytes
sought_of source (Some v) = some (value_of source v)
sought_of source None = none
