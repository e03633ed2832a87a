-- The last sentence of demand 3, for every file.
use mathlib.Core.Path.{◌≡◌}
use mathlib.Core.Bool.{Bool, true, false, cond}
use mathlib.Core.List.{List, [], ◌∷◌, ◌++◌}
use Prim.Native.Nat.{ℕ, zero, suc}
use native.Mathlib.Omega.{arith}
use lib.ListN.{length, take, drop}
use lib.Seq.{take-append_seam}
use lib.Dec.{leb}
use Rattle.parts.specs.Bytes.{Bytes}
use Rattle.tape.specs.File.{Tape, tape_of}
use Rattle.admit.specs.Refusal.{Refusal}
use Rattle.admit.specs.Decide.{refusal}
use Rattle.checker.specs.Words.{Judged}
use Rattle.checker.specs.Answer.{accepted as accepted_with}
use Rattle.events.specs.Event.{Event, item, chapter, verse, book, aside, back}
use Rattle.events.specs.Pairing.{State, after}
use Rattle.events.specs.Text.{first_state_of, text_of, Outcome, fitting, outcome_by, outcome}
use Rattle.events.specs.Walk.{events_of}
use Rattle.pairing.specs.Seen.{chapters_in, verses_in}
use Rattle.accepts.specs.Proviso.{Proviso}
use Rattle.accepts.specs.Sound.{SoundEvents}
use Rattle.accepts.specs.Ends.{AllAgree, FreeNames}
use Rattle.accepts.proofs.Free.{free-chapter, free-verse}
use Rattle.accepts.proofs.Ends.{names_agree}
use Rattle.accepts.proofs.Accepted.{sound-accepted}
use Rattle.accepts.proofs.Kept.{proviso_sound}

-- the checker accepts the text of every file that is admitted and keeps the proviso; the counts are the Chapter and Verse nodes that the text writes
pub accepted : (file : Bytes) → Refusal file 0 → Proviso (tape_of file)
    → Judged (text_of (tape_of file)) (accepted_with (chapters_in (events_of (tape_of file))) (verses_in (events_of (tape_of file))))
accepted file admitted p = sound-accepted (tape_of file) (proviso_sound (tape_of file) p)

-- ---- what the proviso says of starts and ends

sound-names : (s : State) (es : List Event) → SoundEvents s es → FreeNames s es
unfolding after
sound-names s [] h = tt
sound-names s (item i ∷ es) h = sound-names s es h.1
sound-names s (chapter n alt published ∷ es) h = ((free-chapter s.book n).1 h.0, sound-names (after s (chapter n alt published)) es h.1)
sound-names s (verse label alt published ∷ es) h = ((free-verse s.book s.number label).1 h.0, sound-names (after s (verse label alt published)) es h.1)
sound-names s (book code rest ∷ es) h = sound-names (after s (book code rest)) es h.1
sound-names s (aside ∷ es) h = sound-names s es h.1
sound-names s (back ∷ es) h = sound-names s es h.1

-- where a tape keeps the proviso every start and the end that belongs to it have equal bytes
pub kept_agree : (t : Tape) → Proviso t → AllAgree t
kept_agree t p = (names_agree t).1 (sound-names (first_state_of t) (events_of t) (proviso_sound t p).events)

-- ---- what a call leaves in the buffer

-- the bytes of the buffer that are the answer
abbrev text_in : Outcome → Bytes
text_in o = take o.given o.buffer

abbrev fits_in : Bytes → Bytes → Bool → Outcome
fits_in s out z = cond z (record { number = 0; given = length s; buffer = s ++ drop (length s) out }) (record { number = 8; given = length s; buffer = out })

fits-text : (s out : Bytes) (z : Bool) → (fits_in s out z).number ≡ 0 → text_in (fits_in s out z) ≡ s
fits-text s out true e = take-append_seam s (drop (length s) out)
fits-text s out false e = absurd (omega arith)

outcome-text : (n : ℕ) (s out : Bytes) → (outcome_by n s out).number ≡ 0 → text_in (outcome_by n s out) ≡ s
unfolding outcome_by fitting
outcome-text zero s out e = fits-text s out (leb (length s) (length out)) e
outcome-text (suc n) s out e = absurd (omega arith)

-- the text that a call writes is that of the file
pub written-text : (file out : Bytes) → (outcome file out).number ≡ 0 → take (outcome file out).given (outcome file out).buffer ≡ text_of (tape_of file)
unfolding outcome
written-text file out e = outcome-text (refusal file) (text_of (tape_of file)) out e
