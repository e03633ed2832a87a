use borrow.Author.Rules.{rules}
use mathlib.Core.Path.{◌≡◌, refl}
use mathlib.Core.List.{List}
use Prim.Native.Nat.{ℕ, ◌+◌}
use native.Mathlib.Omega.{arith}
use Rattle.tape.specs.File.{Tape, contents}
use Rattle.events.specs.Event.{Event}
use Rattle.events.specs.Walk.{node_in_of, inside as inside_of}
use Rattle.events.specs.Emit.{Desk}
use Rattle.desk.specs.Desk.{desk_of}
use mathlib.Core.Bool.{Bool, true}
use Rattle.tape.proofs.Walk.{left-turn, left_behind}
use Rattle.inline.proofs.Steps.{marker_whole, marker-leaf, node-chapter, node-verse, node-marker, node-other, inside-zero, inside-inline, inside-note, inline_done, inline-ended, inline-entered, inline_lone, inline-plain, note_done, note-ended, note-entered, note_lone, note-plain, kept_plain}
use Rattle.inline.proofs.Alone.{put_nothing, from_same}
use Rattle.inline_turns.proofs.Laws.{kept_here}
use Rattle.inline.proofs.+inline_inside_marker_node_note_inline.Goals as goal

pub inline-loop-step-init : goal.inline-loop-step-init
inline-loop-step-init t c = (refl, (search kept_here, refl))

pub inline-returns : goal.inline-returns
inline-returns t c = search inline_done

pub inline-returns-in-End : goal.inline-returns-in-End
inline-returns-in-End t c = search inline-ended

pub inline-loop-step-smaller-then-lone : goal.inline-loop-step-smaller-then-lone
inline-loop-step-smaller-then-lone t c = search left-turn

pub inline-loop-step-preserved-then-lone : goal.inline-loop-step-preserved-then-lone
inline-loop-step-preserved-then-lone t c =
    let u : Tape = contents c.args.book.now.tape in
    let m : ℕ → Bool → List Event = node_in_of (inside_of u c.args.depth) u in
    let l = c.loop-step in
    let s : Desk = desk_of u.source l.desk l.out in (
      inline_lone m u c.args.span c.args.parent c.args.outer l.known l.trim s l.invariant.0 c.in-Some.c u.source l.desk l.out c.lone.new.desk c.lone.new.out c.lone.result refl c.lone.ensures.put_as c.lone.ensures.keeps_behind
          c.if-lone.true c.in-Some.is c.sort_in.ensures c.in-Enter.is c.next_sibling-step.ensures,
      (search kept_here, omega (arith, l.invariant.1.1, c.lone.auto.out)),
    )

pub inline-loop-step-smaller-else-lone : goal.inline-loop-step-smaller-else-lone
inline-loop-step-smaller-else-lone t c = left-turn _ _ c.in-Some.is c.next_sibling-step-else-lone.ensures

pub inline-loop-step-preserved-else-lone : goal.inline-loop-step-preserved-else-lone
inline-loop-step-preserved-else-lone t c =
    let u : Tape = contents c.args.book.now.tape in
    let m : ℕ → Bool → List Event = node_in_of (inside_of u c.args.depth) u in
    let l = c.loop-step in
    let s : Desk = desk_of u.source c.lone.new.desk c.lone.new.out in
    let same : s ≡ desk_of u.source l.desk l.out =
    put_nothing u.source l.desk l.out (m c.in-Some.c.at true) c.lone.new.desk c.lone.new.out {r = c.lone.result} (c.lone.ensures.put_as true) c.if-lone.false in (
      inline-entered m u c.args.span c.args.parent c.args.outer l.known l.trim s (from_same same _ l.invariant.0) c.in-Some.is c.sort_in.ensures c.in-Enter.is c.ask-known.ensures c.follows.ensures c.node.ensures c.trims_after-trim.ensures
          c.next_sibling-step-else-lone.ensures,
      (search kept_here, omega (arith, l.invariant.1.1, c.lone.auto.out, c.node.auto.out)),
    )

pub inline-loop-step-smaller : goal.inline-loop-step-smaller
inline-loop-step-smaller t c = search left_behind

pub inline-loop-step-preserved : goal.inline-loop-step-preserved
inline-loop-step-preserved t c = (search inline-plain, (search kept_plain, search rules))

pub inside-returns-then-depth-eq0 : goal.inside-returns-then-depth-eq0
inside-returns-then-depth-eq0 t c = search inside-zero

pub inside-returns-then-note : goal.inside-returns-then-note
inside-returns-then-note t c = search inside-note

pub inside-returns-else-note : goal.inside-returns-else-note
inside-returns-else-note t c = search inside-inline

pub marker-returns-then-is_whole : goal.marker-returns-then-is_whole
marker-returns-then-is_whole t c = marker_whole _ _ _ _ _ c.role_of-role.ensures c.is_whole.ensures c.if-is_whole.true _ c.open_marker.ensures c.is_note.ensures c.inside.ensures c.close_marker.ensures

pub marker-returns-else-is_whole : goal.marker-returns-else-is_whole
marker-returns-else-is_whole t c = search marker-leaf

pub node-returns-then-kind-eq-CHAPTER : goal.node-returns-then-kind-eq-CHAPTER
node-returns-then-kind-eq-CHAPTER t c = search node-chapter

pub node-returns-then-kind-eq-VERSE : goal.node-returns-then-kind-eq-VERSE
node-returns-then-kind-eq-VERSE t c = search node-verse

pub node-returns-then-kind-eq-MARKER_OPEN : goal.node-returns-then-kind-eq-MARKER_OPEN
node-returns-then-kind-eq-MARKER_OPEN t c = search node-marker

pub node-returns-else-kind-eq-MARKER_OPEN : goal.node-returns-else-kind-eq-MARKER_OPEN
node-returns-else-kind-eq-MARKER_OPEN t c = search node-other

pub note_inline-loop-step-init : goal.note_inline-loop-step-init
note_inline-loop-step-init t c = (refl, (search kept_here, refl))

pub note_inline-returns : goal.note_inline-returns
note_inline-returns t c = search note_done

pub note_inline-returns-in-End : goal.note_inline-returns-in-End
note_inline-returns-in-End t c = search note-ended

pub note_inline-loop-step-smaller-then-lone : goal.note_inline-loop-step-smaller-then-lone
note_inline-loop-step-smaller-then-lone t c = search left-turn

pub note_inline-loop-step-preserved-then-lone : goal.note_inline-loop-step-preserved-then-lone
note_inline-loop-step-preserved-then-lone t c =
    let u : Tape = contents c.args.book.now.tape in
    let m : ℕ → Bool → List Event = node_in_of (inside_of u c.args.depth) u in
    let l = c.loop-step in
    let s : Desk = desk_of u.source l.desk l.out in (
      note_lone m u (c.args.parent.at + 1) c.args.parent c.args.outer l.known l.trim s l.invariant.0 c.in-Some.c u.source l.desk l.out c.lone.new.desk c.lone.new.out c.lone.result refl c.lone.ensures.put_as c.lone.ensures.keeps_behind
          c.if-lone.true c.in-Some.is c.note_sort.ensures c.in-Enter.is c.next_sibling-step.ensures,
      (search kept_here, omega (arith, l.invariant.1.1, c.lone.auto.out)),
    )

pub note_inline-loop-step-smaller-else-lone : goal.note_inline-loop-step-smaller-else-lone
note_inline-loop-step-smaller-else-lone t c = left-turn _ _ c.in-Some.is c.next_sibling-step-else-lone.ensures

pub note_inline-loop-step-preserved-else-lone : goal.note_inline-loop-step-preserved-else-lone
note_inline-loop-step-preserved-else-lone t c =
    let u : Tape = contents c.args.book.now.tape in
    let m : ℕ → Bool → List Event = node_in_of (inside_of u c.args.depth) u in
    let l = c.loop-step in
    let s : Desk = desk_of u.source c.lone.new.desk c.lone.new.out in
    let same : s ≡ desk_of u.source l.desk l.out =
    put_nothing u.source l.desk l.out (m c.in-Some.c.at true) c.lone.new.desk c.lone.new.out {r = c.lone.result} (c.lone.ensures.put_as true) c.if-lone.false in (
      note-entered m u (c.args.parent.at + 1) c.args.parent c.args.outer l.known l.trim s (from_same same _ l.invariant.0) c.in-Some.is c.note_sort.ensures c.in-Enter.is c.ask-known.ensures c.follows.ensures c.node.ensures c.trims_after-trim.ensures
          c.next_sibling-step-else-lone.ensures,
      (search kept_here, omega (arith, l.invariant.1.1, c.lone.auto.out, c.node.auto.out)),
    )

pub note_inline-loop-step-smaller : goal.note_inline-loop-step-smaller
note_inline-loop-step-smaller t c = search left_behind

pub note_inline-loop-step-preserved : goal.note_inline-loop-step-preserved
note_inline-loop-step-preserved t c = (search note-plain, (search kept_plain, search rules))
