-- What a call of `serialize` writes, a call of `check` accepts, where the file keeps the proviso.
use mathlib.Core.Path.{◌≡◌, sym, ap, ◌∙◌, subst}
use Prim.Native.Nat.{ℕ}
use lib.ListN.{take}
use Rattle.parts.specs.Bytes.{Bytes, part}
use Rattle.tape.specs.File.{tape_of}
use Rattle.checker.specs.Words.{Judged}
use Rattle.checker.specs.Answer.{answer_of}
use Rattle.checker.specs.declared.Verdict.{Verdict}
use Rattle.checker.specs.declared.Verdict.TheVariants.{Accepted}
use Rattle.checker.proofs.Answers.{settled}
use Rattle.events.specs.Text.{text_of, Outcome, outcome}
use Rattle.events.specs.Walk.{events_of}
use Rattle.pairing.specs.Seen.{chapters_in, verses_in}
use Rattle.usx.specs.Answer.{answer_number, answer_length, outcome_of}
use Rattle.usx.specs.declared.Answer.{Answer}
use Rattle.usx.specs.declared.Answer.TheVariants.{Written as AnswerWritten, Refused as AnswerRefused, NoRoom as AnswerNoRoom}
use Rattle.accepts.specs.Proviso.{Proviso}
use Rattle.accepts.proofs.Accepted.{sound-accepted}
use Rattle.accepts.proofs.Kept.{proviso_sound}
use Rattle.accepts.proofs.Whole.{written-text}
use Rattle.calls.specs.Called.{answer_in, Checked, written}
use Rattle.calls.specs.declared.Called.TheVariants.{Written, Refused, NoRoom}

-- the bytes that are written are the text of the file
text-written : (file out left : Bytes) (n : ℕ) → outcome_of (AnswerWritten n) left ≡ outcome file out → take n left ≡ text_of (tape_of file)
unfolding outcome_of answer_number answer_length
text-written file out left n e = ap (λ (o : Outcome). take o.given o.buffer) e ∙ written-text file out (sym (ap (λ (o : Outcome). o.number) e))

-- for every file and buffer: where `serialize` answers Written n and leaves these bytes, and the file keeps the proviso, `check` of the first n of them answers
-- accepted, with the numbers of Chapter and Verse nodes that the text writes. The premises are the contracts of both functions
pub call_accepted : (file out left : Bytes) (n : ℕ) (v : Verdict) → outcome_of (AnswerWritten n) left ≡ outcome file out → Judged (take n left) (answer_of v) → Proviso (tape_of file)
    → v ≡ Accepted (chapters_in (events_of (tape_of file))) (verses_in (events_of (tape_of file)))
unfolding answer_of
call_accepted file out left n v e j p =
    let t = tape_of file in
    settled (text_of t) v (Accepted (chapters_in (events_of t)) (verses_in (events_of t)))
    (subst (λ (s : Bytes). Judged s (answer_of v)) (text-written file out left n e) j)
    (sound-accepted t (proviso_sound t p))

-- ---- of the code that calls both

module _ (file out left : Bytes) {a : Answer} (e : outcome_of a left ≡ outcome file out) where
  pub text-refused : {n : ℕ} → a ≡ AnswerRefused n → outcome_of (answer_in (Refused n)) left ≡ outcome file out
  unfolding answer_in
  text-refused i = sym (ap (λ (x : Answer). outcome_of x left) i) ∙ e

  pub text_no_room : {n : ℕ} → a ≡ AnswerNoRoom n → outcome_of (answer_in (NoRoom n)) left ≡ outcome file out
  unfolding answer_in
  text_no_room i = sym (ap (λ (x : Answer). outcome_of x left) i) ∙ e

  module _ {n : ℕ} (i : a ≡ AnswerWritten n) where
    pub text_checked : (v : Verdict) → outcome_of (answer_in (Written n v)) left ≡ outcome file out
    unfolding answer_in
    text_checked v = sym (ap (λ (x : Answer). outcome_of x left) i) ∙ e

    pub verdict_checked : {s : Bytes} → s ≡ part left 0 n → {v : Verdict} → Judged s (answer_of v) → Checked file (Written n v)
    verdict_checked {s} f {v} j =
        let o : outcome_of (AnswerWritten n) left ≡ outcome file out = sym (ap (λ (x : Answer). outcome_of x left) i) ∙ e in
        let k : Judged (take n left) (answer_of v) = subst (λ (x : Bytes). Judged x (answer_of v)) f j in
        written (subst (λ (x : Bytes). Judged x (answer_of v)) (text-written file out left n o) k) (call_accepted file out left n v o k)
