-- The walk writes chapters and verses as events alone, so every tape's milestones are right.
use mathlib.Core.Path.{◌≡◌}
use mathlib.Core.List.{List, [], ◌∷◌}
use mathlib.Core.Logic.{inl, inr}
use Prim.Native.Nat.{ℕ, ◌≤◌}
use native.Mathlib.Omega.{arith}
use Rattle.tape.specs.File.{Tape}
use Rattle.checker.specs.Words.{Kind, Demand, starts_in}
use Rattle.events.specs.Event.{Event}
use Rattle.events.specs.Pairing.{paired}
use Rattle.events.specs.Text.{first_state_of}
use Rattle.events.specs.Walk.{events_of}
use Rattle.grammar.specs.Grammar.{a_text, a_line, an_empty, a_chapter, a_verse, an_aside, a_back, by_itself, of_book, opening, closing, AllWritten}
use Rattle.grammar.proofs.Written.{walk_written, given_range}
use Rattle.pairing.specs.Seen.{seen, start_of, open_starts, PlainEvents, chapters_in, verses_in}
use Rattle.pairing.proofs.Paired.{paired_demand, paired_counts}

-- from 5 on no element is a chapter or a verse
neither : (n : ℕ) → 5 ≤ n → Kind n → ⊥
neither n h (inl e) = omega arith
neither n h (inr e) = omega arith

written-plain : (t : Tape) (es : List Event) → AllWritten t es → PlainEvents es
written-plain t [] w = tt
written-plain t (e ∷ es) (by_itself a_text, w) = (tt, written-plain t es w)
written-plain t (e ∷ es) (by_itself a_line, w) = (tt, written-plain t es w)
written-plain t (e ∷ es) (by_itself (an_empty {n} a), w) = (neither n (given_range a).0, written-plain t es w)
written-plain t (e ∷ es) (by_itself a_chapter, w) = written-plain t es w
written-plain t (e ∷ es) (by_itself (a_verse k v), w) = written-plain t es w
written-plain t (e ∷ es) (by_itself an_aside, w) = written-plain t es w
written-plain t (e ∷ es) (by_itself a_back, w) = written-plain t es w
written-plain t (e ∷ es) (of_book k o r, w) = written-plain t es w
written-plain t (e ∷ es) (opening {n} a, w) = (neither n (given_range a).0, written-plain t es w)
written-plain t (e ∷ es) (closing {n} a, w) = (neither n (given_range a).0, written-plain t es w)

-- no chapter and no verse stands as an item
pub walk_plain : (t : Tape) → PlainEvents (events_of t)
walk_plain t = written-plain t (events_of t) (walk_written t)

-- every tape's items have their milestones right in the words of demand 3, by their identifiers before the escapes
pub tape_demand_unescaped : (t : Tape) → Demand (seen (paired (first_state_of t) (events_of t)))
unfolding open_starts start_of first_state_of
tape_demand_unescaped t = paired_demand (first_state_of t) (events_of t) (walk_plain t)

-- and as many starts as the walk finds chapters and verses
pub tape_counts : (t : Tape)
    → (starts_in 3 (seen (paired (first_state_of t) (events_of t))) ≡ chapters_in (events_of t)) × (starts_in 4 (seen (paired (first_state_of t) (events_of t))) ≡ verses_in (events_of t))
tape_counts t = paired_counts (first_state_of t) (events_of t) (walk_plain t)
