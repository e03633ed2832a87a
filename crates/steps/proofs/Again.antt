-- The next call reads the state that the last one gave.
use mathlib.Core.Path.{◌≡◌, sym, ap, subst, ◌∙◌}
use mathlib.Core.List.{List}
use Prim.Native.Nat.{ℕ, zero, suc, ◌≤◌}
use native.Mathlib.Omega.{arith}
use lib.ListN.{length, set}
use lib.Seq.{get_or-set_other}
use borrow.Author.Tests.{le-leb}
use Rattle.parts.specs.Bytes.{Bytes}
use Rattle.draft.specs.Draft.{Act, empty, after}
use Rattle.layout.specs.declared.Writer.{Writer}
use Rattle.layout.specs.Layout.{draft_of, state_of}
use Rattle.judge.specs.Phase.{number_of, start_number_of, finish_number_of}
use Rattle.writer.specs.declared.Answer.{Answer}
use Rattle.writer.specs.Steps.{pick, Took, Started, Finished}
use Rattle.steps.specs.Numbers.{phase_in_of, writer_in, kept_in, stored_in}

-- the length given is no part of the state
past-length : (st : List ℕ) (n : ℕ) → writer_in (set st 7 n) ≡ writer_in st
unfolding writer_in
past-length st n =
    rw (
      get_or-set_other st 7 0 n 0 (λ e. omega arith),
      get_or-set_other st 7 1 n 0 (λ e. omega arith),
      get_or-set_other st 7 2 n 0 (λ e. omega arith),
      get_or-set_other st 7 3 n 0 (λ e. omega arith),
      get_or-set_other st 7 4 n 0 (λ e. omega arith),
      get_or-set_other st 7 5 n 0 (λ e. omega arith),
      get_or-set_other st 7 6 n 0 (λ e. omega arith),
    )

kept_read : (st : List ℕ) (w : Writer) → w.phase ≤ 2 → writer_in (kept_in st w) ≡ w
unfolding writer_in kept_in phase_in_of
kept_read st w h = rw (le-leb w.phase 2 h)

-- an answer's state is the one that its step gave, or the one that was read
given_again : (st : List ℕ) (r : Answer) (k : ℕ) (v : Writer) → r.number ≡ k → r.writer ≡ pick k v (writer_in st) → v.phase ≤ 2 → writer_in (stored_in st r) ≡ r.writer
unfolding stored_in
given_again st r zero v e ew h =
    past-length (pick r.number (kept_in st r.writer) st) r.length ∙ ap (λ (k : ℕ). writer_in (pick k (kept_in st r.writer) st)) e
    ∙ kept_read st r.writer (subst (λ (w : Writer). w.phase ≤ 2) (sym ew) h)
given_again st r (suc k) v e ew h =
    past-length (pick r.number (kept_in st r.writer) st) r.length ∙ ap (λ (j : ℕ). writer_in (pick j (kept_in st r.writer) st)) e ∙ sym ew

module _ (st : List ℕ) (buf : Bytes) (r : Answer) (last : Bytes) where
  abbrev w : Writer
  w = writer_in st

  pub took_again : (a : Act) → Took w buf a r last → writer_in (stored_in st r) ≡ r.writer
  took_again a t =
      given_again st r (number_of w buf a) (state_of 1 (after (draft_of w buf) a)) (ap (λ (x : Answer). x.number) t.answer) (ap (λ (x : Answer). x.writer) t.answer) (omega arith)

  pub started_again : Started w buf r last → writer_in (stored_in st r) ≡ r.writer
  started_again t = given_again st r (start_number_of w (length buf)) (state_of 1 empty) (ap (λ (x : Answer). x.number) t.answer) (ap (λ (x : Answer). x.writer) t.answer) (omega arith)

  pub finished_again : Finished w buf r last → writer_in (stored_in st r) ≡ r.writer
  finished_again t =
      given_again st r (finish_number_of w (length buf)) (state_of 2 (draft_of w buf)) (ap (λ (x : Answer). x.number) t.answer) (ap (λ (x : Answer). x.writer) t.answer) (omega arith)
