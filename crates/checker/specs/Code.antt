-- What the code's values stand for.
use Rattle.std.specs.Prelude.{ℕ, ◌+◌, ◌^◌, ◌<◌, ◌≡◌, Bool, true, false, [], Option, Some, None, length, take, drop, pos}
use Rattle.parts.specs.Bytes.{Bytes}
use Rattle.tags.specs.Form.{Read, bad, got}
use Rattle.checker.specs.View.{Mark, bare, plain, other, start, ends, View, words, opened, closed, single, view}
use Rattle.checker.specs.Steps.{Trunk, Held, shut, held, Turned, begun, ended, wrong, turn, Pairs}
use Rattle.checker.specs.Check.{Run}
use Rattle.checker.specs.Stack.{room}
use Rattle.checker.specs.declared.Part.{Part}
use Rattle.checker.specs.declared.Form.{Form}
use Rattle.checker.specs.declared.Form.TheVariants.{Bare, Plain, Start, End, Other}
use Rattle.checker.specs.declared.Tag.{Tag}
use Rattle.checker.specs.declared.Tag.TheVariants.{Words, Opened, Closed, Single}
use Rattle.checker.specs.declared.Tree.{Tree}
use Rattle.checker.specs.declared.Kind.{Kind}
use Rattle.checker.specs.declared.Marks.{Marks}
use Rattle.checker.specs.declared.State.{State}

-- the bytes of a part of a text
abbrev pub bytes_of : Bytes → Part → Bytes
bytes_of s p = take p.len (drop p.start s)

-- a form by the attributes that it was made of
unfoldable pub mark_in : Bytes → Form → Mark
mark_in s Bare = bare
mark_in s Plain = plain
mark_in s Other = other
mark_in s (Start p) = start (bytes_of s p)
mark_in s (End p) = ends (bytes_of s p)

-- a tag as the rules see it
unfoldable pub view_in : Bytes → Tag → View
view_in s Words = words
view_in s (Opened n) = opened n
view_in s (Closed n) = closed n
view_in s (Single n f) = single n (mark_in s f)

-- a token as the rules see it, and what follows it; or nothing that can be read
pub data Sight : Type 0 where
  nothing : Sight
  sight : View → Bytes → Sight

-- what the rules see of a token that is read
unfoldable pub brief : Read → Sight
brief bad = nothing
brief (got t r) = sight (view t) r

-- the next token and its end
unfoldable pub sight_in : Bytes → Option (Tag × ℕ) → Sight
sight_in s None = nothing
sight_in s (Some n) = sight (view_in s n.0) (drop n.1 s)

-- the tree so far
abbrev pub trunk_of : Tree → Trunk
trunk_of t = record { stack = t.stack; seen = t.seen; done = t.done; broken = t.broken }

-- there is room for what a tag opens
abbrev pub HasRoom : Tree → Tag → Type 0
HasRoom t tag = (n : ℕ) → tag ≡ Opened n → length t.stack < room

-- what is open of a kind
unfoldable pub held_in : Bytes → Option Part → Held
held_in s None = shut
held_in s (Some p) = held (bytes_of s p)

-- what a chapter or verse tag does
abbrev pub turn_in : Bytes → Kind → Form → Turned
turn_in s k f = turn (held_in s k.held) (mark_in s f)

-- what is open of its kind then
unfoldable pub held_then : Turned → Held → Held
held_then (begun i) h = held i
held_then ended h = shut
held_then wrong h = h

-- how many of its kind began then
unfoldable pub begun_then : Turned → ℕ → ℕ
begun_then (begun i) n = n + 1
begun_then ended n = n
begun_then wrong n = n

-- whether it may stand there
unfoldable pub is_right : Turned → Bool
is_right (begun i) = true
is_right ended = true
is_right wrong = false

-- the milestones so far
abbrev pub pairs_in : Bytes → Marks → Pairs
pairs_in s m =
    record {
      chapter = held_in s m.chapter.held;
      verse = held_in s m.verse.held;
      chapters = m.chapter.begun;
      verses = m.verse.begun;
      amiss = m.wrong;
    }

-- one milestone more of each kind can be counted
abbrev pub CanCount : Marks → Type 0
CanCount m = (m.chapter.begun + 1 < 2 ^ 64) × (m.verse.begun + 1 < 2 ^ 64)

-- the state
abbrev pub run_in : Bytes → State → Run
run_in s z = record { height = z.height; high = z.high; trunk = trunk_of z.tree; pairs = pairs_in s z.marks }

-- the tree at the start of a text
abbrev pub tree_at_start : Tree
tree_at_start = record { stack = []; seen = false; done = false; broken = false }

-- the chapters or the verses there
abbrev pub kind_at_start : Kind
kind_at_start = record { held = None; begun = 0 }

-- the milestones there
abbrev pub marks_at_start : Marks
marks_at_start = record { chapter = kind_at_start; verse = kind_at_start; wrong = false }

-- the state there
abbrev pub state_at_start : State
state_at_start = record { height = pos 0; high = false; tree = tree_at_start; marks = marks_at_start }

-- the height tells how many elements are open, unless one was over 160 or the tree is broken
abbrev pub Told : State → Type 0
Told s = s.high ≡ false → s.tree.broken ≡ false → s.height ≡ pos (length s.tree.stack)
