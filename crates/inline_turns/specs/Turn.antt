-- Turns along a list of inline children, by what a child is to it.
use Rattle.std.specs.Prelude.{ℕ, ◌≡◌, List, [], ◌++◌, Bool, true, false, cond, not, ◌&&◌, ◌||◌, take, eqb, None, Some}
use Rattle.parts.specs.Bytes.{Bytes}
use Rattle.texts.specs.Text.{ends_white}
use Rattle.put_body.specs.Frame.{Frame, Framed}
use Rattle.tape.specs.File.{Tape, kind_at, text_at_of}
use Rattle.tape.specs.Tree.{next_sibling}
use Rattle.tape.specs.Found.{Step}
use Rattle.render.specs.Shape.{is_category_marker_of, trims_after_of}
use Rattle.render.specs.Follow.{Kept, next_solid_of, inline_follows_of, followed}
use Rattle.tape.specs.declared.Cursor.{Cursor}
use Rattle.lists.specs.Span.{member_of_of, folds_at}
use Rattle.lists.specs.declared.Span.{Span}
use Rattle.lists.specs.declared.Member.{Member}
use Rattle.lists.specs.declared.Member.TheVariants.{End as EndMember, Skipped as SkippedMember, Listed}
use Rattle.events.specs.Event.{Event}
use Rattle.events.specs.Walk.{anchor, words, normalized, inline_all, inline_on, note_text, note_turn_of, note_all, direct}
use Rattle.inline_turns.specs.declared.Behind.{Behind}
use Rattle.inline_turns.specs.declared.Behind.TheVariants.{Unasked, Follows, Ends}
use Rattle.inline_turns.specs.declared.Child.{Child}
use Rattle.inline_turns.specs.declared.Child.TheVariants.{Skipped, Anchor, Words, Passed}
use Rattle.inline_turns.specs.declared.Sort.{Sort}
use Rattle.inline_turns.specs.declared.Sort.TheVariants.{End, Enter, Plain}
use Rattle.tape.specs.Kind as kinds

-- ---- what a child is

-- what a child is by its kind: Verse, Text, Attribute or Error, and markers
unfoldable pub sort_of : ℕ → Sort
sort_of kind = cond (eqb kind kinds.verse) (Plain Anchor) (cond (eqb kind kinds.text) (Plain Words) (cond (eqb kind kinds.attribute || eqb kind kinds.error) (Plain Passed) Enter))

-- by what it is to its list, then by its kind
unfoldable pub sort_by : Member → ℕ → Sort
sort_by EndMember kind = End
sort_by SkippedMember kind = Plain Skipped
sort_by Listed kind = sort_of kind

-- what a child is to a list that may be cut or filtered
unfoldable pub sort_in_of : Tape → Span → ℕ → Sort
sort_in_of t span k = sort_by (member_of_of t span k) (kind_at t k)

-- what a child is to a note: category markers are left out, and a Verse is written as a marker is
unfoldable pub note_sort_of : Tape → ℕ → Sort
note_sort_of t k =
    cond (is_category_marker_of t k) (Plain Skipped)
    (cond (eqb (kind_at t k) kinds.text) (Plain Words) (cond (eqb (kind_at t k) kinds.attribute || eqb (kind_at t k) kinds.error) (Plain Passed) Enter))

-- ---- what is still written

module _ (node : ℕ → Bool → List Event) (t : Tape) (behind trim : Bool) where
  -- from a child on that no marker is entered for; the siblings behind it are these
  unfoldable pub plain_from : ℕ → List ℕ → Child → List Event
  plain_from k ks Skipped = inline_all node t behind trim ks
  plain_from k ks Anchor = inline_on node t behind trim k ks anchor
  plain_from k ks Words = inline_on node t behind trim k ks words
  plain_from k ks Passed = inline_all node t behind trim ks

  -- from any child on
  unfoldable pub onward : ℕ → List ℕ → Sort → List Event
  onward k ks End = []
  onward k ks Enter = node k behind ++ inline_all node t behind (trims_after_of t k) ks
  onward k ks (Plain c) = plain_from k ks c

  -- from such a child on in a note whose first child has this index
  unfoldable pub note_plain : ℕ → ℕ → List ℕ → Child → List Event
  note_plain first k ks Skipped = note_all node t first behind trim ks
  note_plain first k ks Anchor = note_all node t first behind trim ks
  note_plain first k ks Words = let r = note_turn_of node t first behind trim k direct in r.written ++ note_all node t first behind r.trim ks
  note_plain first k ks Passed = note_all node t first behind trim ks

  -- from any child of a note on
  unfoldable pub note_onward : ℕ → ℕ → List ℕ → Sort → List Event
  note_onward first k ks End = []
  note_onward first k ks Enter = node k behind ++ note_all node t first behind (trims_after_of t k) ks
  note_onward first k ks (Plain c) = note_plain first k ks c

-- ---- where a turn that enters no marker leads

-- the step behind such a child: behind a verse it leads to where the fold stops
unfoldable pub next_by : Tape → Span → ℕ → Child → Step
next_by t span k Skipped = next_sibling t k
next_by t span k Anchor = (folds_at t span kinds.verse (next_sibling t k)).rest
next_by t span k Words = next_sibling t k
next_by t span k Passed = next_sibling t k

-- whether a text behind such a child loses its leading space
unfoldable pub trim_by : Tape → Bool → Bool → ℕ → Child → Bool
trim_by t behind trim k Skipped = trim
trim_by t behind trim k Anchor = true
trim_by t behind trim k Words = trim && not (normalized t k (text_at_of t k) trim behind).shows
trim_by t behind trim k Passed = trim

-- whether a text behind such a child of a note, whose first child has this index, loses its leading space
unfoldable pub note_trim_by : Tape → ℕ → Bool → Bool → ℕ → Child → Bool
note_trim_by t first behind trim k Skipped = trim
note_trim_by t first behind trim k Anchor = trim
note_trim_by t first behind trim k Words = trim && not (normalized t k (note_text t first k) trim behind).shows
note_trim_by t first behind trim k Passed = trim

-- ---- the solid sibling that is kept

-- it serves the child that a step leads to
abbrev pub KeptAt : Tape → Step → Step → Type 0
KeptAt t None kept = Unit {0}
KeptAt t (Some c) kept = Kept t c kept

-- what is kept behind a child: what was, or the step behind where that was the child itself
unfoldable pub kept_past : Step → ℕ → Step → Step
kept_past None k next = None
kept_past (Some d) k next = cond (eqb d.at k) next (Some d)

-- what is kept behind a text: the solid sibling where it was looked for, which is where the text ends with white space
unfoldable pub kept_behind_of : Tape → Bytes → Step → ℕ → Step → Step
kept_behind_of t s kept k next = cond (ends_white s) (next_solid_of t k) (kept_past kept k next)

-- what is kept behind a child that no marker is entered for: behind a verse it is the step that the turn leads to
unfoldable pub kept_by : Tape → Span → Step → ℕ → Child → Step
kept_by t span kept k Skipped = kept_past kept k (next_sibling t k)
kept_by t span kept k Anchor = next_by t span k Anchor
kept_by t span kept k Words = kept_behind_of t (text_at_of t k) kept k (next_sibling t k)
kept_by t span kept k Passed = kept_past kept k (next_sibling t k)

-- what is kept behind such a child of a note whose first child has this index
unfoldable pub note_kept_by : Tape → ℕ → Step → ℕ → Child → Step
note_kept_by t first kept k Skipped = kept_past kept k (next_sibling t k)
note_kept_by t first kept k Anchor = kept_past kept k (next_sibling t k)
note_kept_by t first kept k Words = kept_behind_of t (note_text t first k) kept k (next_sibling t k)
note_kept_by t first kept k Passed = kept_past kept k (next_sibling t k)

-- ---- whether inline content follows the parent

-- what was learnt of it, or the truth where it was not asked yet; `outer` says whether inline content follows the parent's own parent
unfoldable pub behind_of : Tape → Cursor → Bool → Behind → Bool
behind_of t parent outer Unasked = followed t parent.at outer
behind_of t parent outer Follows = true
behind_of t parent outer Ends = false

-- the truth, learnt
unfoldable pub learnt : Bool → Behind
learnt b = cond b Follows Ends

-- what was learnt says
unfoldable pub follows_by : Behind → Bool
follows_by Unasked = false
follows_by Follows = true
follows_by Ends = false

-- what is known behind a text: it is asked where the text ends with white space and nothing inline follows the text itself
unfoldable pub behind_text : Tape → Cursor → Bool → Behind → ℕ → Bytes → Behind
behind_text t parent outer known k s =
    cond (ends_white s && not (inline_follows_of t k)) (learnt (behind_of t parent outer known)) known

-- what is known behind a child that no marker is entered for
unfoldable pub behind_by : Tape → Cursor → Bool → Behind → ℕ → Child → Behind
behind_by t parent outer known k Skipped = known
behind_by t parent outer known k Anchor = known
behind_by t parent outer known k Words = behind_text t parent outer known k (text_at_of t k)
behind_by t parent outer known k Passed = known

-- the same in a note whose first child has this index
unfoldable pub note_behind_by : Tape → ℕ → Cursor → Bool → Behind → ℕ → Child → Behind
note_behind_by t first parent outer known k Skipped = known
note_behind_by t first parent outer known k Anchor = known
note_behind_by t first parent outer known k Words = behind_text t parent outer known k (note_text t first k)
note_behind_by t first parent outer known k Passed = known

-- ---- texts told by their frames

-- the text of a node is told by a frame in what stands from it on
pub record Here (t : Tape) (k : ℕ) (tail : Bytes) (f : Frame) : Type 0 where
  pub size : ℕ
  pub text : take size tail ≡ text_at_of t k
  pub framed : Framed tail size f
