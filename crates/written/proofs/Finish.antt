-- A finished file is admitted and reads back as the draft.
use mathlib.Core.Path.{◌≡◌, sym, ap, subst, ◌∙◌}
use mathlib.Core.List.{◌++◌}
use Prim.Native.Nat.{ℕ}
use lib.ListN.{length, take}
use lib.Seq.{take_at}
use Rattle.parts.specs.Bytes.{Bytes}
use Rattle.tape.specs.File.{Tape, tape_of}
use Rattle.admit.specs.Refusal.{Refusal}
use Rattle.admit.proofs.Decide.{refusal_right, refusal_unique}
use Rattle.events.specs.Text.{text_of, fitting, outcome_by, outcome}
use Rattle.draft.specs.Draft.{Draft, tape_from, size_of}
use Rattle.draft.proofs.Kept.{Kept, grown_kept}
use Rattle.draft.proofs.Nesting.{grown_sound}
use Rattle.layout.specs.declared.Writer.{Writer}
use Rattle.layout.specs.Layout.{Fits, held_in, free_of, read_as, draft_of, file_of, behind_of}
use Rattle.layout.proofs.States.{size_of_lem}
use Rattle.layout.proofs.File.{file-length, file-tape, file_admitted}
use Rattle.judge.specs.Phase.{finish_number_of}
use Rattle.judge.proofs.NumberRule.{FinishPassed, finish_passed}
use Rattle.writer.specs.declared.Answer.{Answer}
use Rattle.writer.specs.Steps.{pick, length_given, Finished}
use Rattle.written.specs.Built.{Built, file_in, Promised}
use Rattle.written.proofs.Works.{Works, built_works}

-- an admitted file is serialized: the text, or 8
pub admitted_outcome : (file out : Bytes) → Refusal file 0 → outcome file out ≡ fitting (text_of (tape_of file)) out
unfolding outcome outcome_by
admitted_outcome file out z = ap (λ (n : ℕ). outcome_by n (text_of (tape_of file)) out) (refusal_unique (refusal_right file) z)

module _ {w : Writer} {buf : Bytes} (z : Works w buf) {r : Answer} {last : Bytes} (t : Finished w buf r last) (e : r.number ≡ 0) where
  abbrev d : Draft
  d = draft_of w buf

  number : finish_number_of w (length buf) ≡ 0
  number = sym (ap (λ (x : Answer). x.number) t.answer) ∙ e

  closed : FinishPassed w (length buf)
  closed = finish_passed w (length buf) number

  fit : Fits w (length buf)
  fit = closed.work.fits

  long : r.length ≡ length (file_of w (held_in w buf))
  unfolding length_given
  long =
      ap (λ (x : Answer). x.length) t.answer ∙ ap (λ (k : ℕ). length_given k (size_of d)) number ∙ size_of_lem w buf fit
      ∙ sym (file-length w buf fit)

  -- the buffer's front is the file
  pub file_front : file_in r last ≡ file_of w (held_in w buf)
  file_front =
      ap (take r.length) (t.buffer ∙ ap (λ (k : ℕ). pick k (file_of w (held_in w buf) ++ behind_of w (free_of w buf)) buf) number)
      ∙ take_at (file_of w (held_in w buf)) (behind_of w (free_of w buf)) r.length (sym long)

  file_good : Refusal (file_of w (held_in w buf)) 0
  unfolding tape_from read_as
  file_good =
      let k : Kept d = grown_kept d z.grown in
      file_admitted w buf fit k.utf8 k.named k.good (grown_sound d z.grown closed.depth)

  pub works_promised : Promised (file_in r last) (tape_from d)
  works_promised =
      let a : Refusal (file_in r last) 0 = subst (λ (f : Bytes). Refusal f 0) (sym file_front) file_good in
      let p : tape_of (file_in r last) ≡ tape_from d = ap tape_of file_front ∙ file-tape w buf fit in
      record { admitted = a; tape = p; serialized = λ out. admitted_outcome (file_in r last) out a ∙ ap (λ (x : Tape). fitting (text_of x) out) p }

-- whatever steps were taken, done or refused: where finish is done, the file that it gives is admitted, holds Root and the nodes added, in order and with their links, and
-- the entries, names and source added, and `serialize` gives its text or 8
pub finished_promised : {w : Writer} {buf : Bytes} → Built w buf → {r : Answer} {last : Bytes} → Finished w buf r last → r.number ≡ 0 → Promised (file_in r last) (tape_from (draft_of w buf))
finished_promised b t e = works_promised (built_works b) t e
