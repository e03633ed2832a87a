-- The events of every tape are wordy.
use mathlib.Core.Path.{◌≡◌}
use mathlib.Core.List.{List, [], ◌∷◌}
use Prim.Native.Nat.{ℕ, ◌≤◌}
use native.Mathlib.Omega.{arith}
use Rattle.tape.specs.File.{Tape}
use Rattle.tags.specs.Items.{Attr}
use Rattle.events.specs.Event.{Event}
use Rattle.events.specs.Walk.{events_of}
use Rattle.grammar.specs.Grammar.{Given, a_text, a_line, an_empty, a_chapter, a_verse, an_aside, a_back, by_itself, of_book, opening, closing, AllWritten}
use Rattle.grammar.proofs.Written.{walk_written, given_range, given-name}
use Rattle.grammar.proofs.Attrs.{given_attrs}
use Rattle.accepts.proofs.Spaces.{marker_spaceless, code_spaceless}
use Rattle.accepts.proofs.Keys.{Own, attributes_own}
use Rattle.exact.proofs.Attrs.{WordyAttrs}
use Rattle.exact.proofs.Wordy.{Spaceless, attrs_wordy, styles_spaceless, keys_own, WordyEvents}

-- the attributes of an element
given_wordy : {t : Tape} {n : ℕ} {qs : List Attr} → Given t n qs → WordyAttrs qs
given_wordy {t} a =
    attrs_wordy
    (given_attrs Spaceless Own styles_spaceless keys_own t (λ k m. record { none_in = marker_spaceless t k }) (attributes_own t) a)

-- ---- events

-- from 5 on no element is one below
apart : (n k : ℕ) → 5 ≤ n → k ≤ 4 → n ≡ k → ⊥
apart n k h l e = omega arith

written_wordy : (t : Tape) (es : List Event) → AllWritten t es → WordyEvents es
written_wordy t [] w = tt
written_wordy t (e ∷ es) (by_itself a_text, w) = (tt, written_wordy t es w)
written_wordy t (e ∷ es) (by_itself a_line, w) = (tt, written_wordy t es w)
written_wordy t (e ∷ es) (by_itself (an_empty {n} a), w) =
    ((given-name a, apart n 3 (given_range a).0 (omega arith), apart n 4 (given_range a).0 (omega arith), given_wordy a), written_wordy t es w)
written_wordy t (e ∷ es) (by_itself a_chapter, w) = (tt, written_wordy t es w)
written_wordy t (e ∷ es) (by_itself (a_verse k v), w) = (tt, written_wordy t es w)
written_wordy t (e ∷ es) (by_itself an_aside, w) = (tt, written_wordy t es w)
written_wordy t (e ∷ es) (by_itself a_back, w) = (tt, written_wordy t es w)
written_wordy t (e ∷ es) (of_book k o r, w) = (code_spaceless t k, written_wordy t es w)
written_wordy t (e ∷ es) (opening {n} a, w) =
    ((given-name a, apart n 3 (given_range a).0 (omega arith), apart n 4 (given_range a).0 (omega arith), given_wordy a), written_wordy t es w)
written_wordy t (e ∷ es) (closing a, w) = (given-name a, written_wordy t es w)

-- every tape's events
pub walk_wordy : (t : Tape) → WordyEvents (events_of t)
walk_wordy t = written_wordy t (events_of t) (walk_written t)
