-- Any admitted tape whose Root links to the node count can be written.
use mathlib.Core.Path.{◌≡◌, ap, subst, ◌∙◌}
use mathlib.Core.List.{List}
use Prim.Native.Nat.{ℕ, ◌≤◌}
use native.Mathlib.Omega.{arith}
use lib.ListN.{length}
use borrow.Author.Tests.{le-leb}
use Rattle.parts.specs.Bytes.{Bytes}
use Rattle.tape.specs.File.{tape_of, sections_of}
use Rattle.nest.specs.Tape.{link_at}
use Rattle.admit.specs.Refusal.{Refusal, Kept₇}
use Rattle.admit.proofs.Decide.{kept_all}
use Rattle.draft.specs.Draft.{Draft, Act, after, tape_from}
use Rattle.draft.specs.Fault.{first, fault}
use Rattle.draft.specs.Rebuild.{acts_of, Runs, rewritten}
use Rattle.draft.specs.Rebuild.Runs.{none as ended, more as going}
use Rattle.draft.proofs.Runs.{AllProper}
use Rattle.draft.proofs.Rewrite.{proper_acts, written_again}
use Rattle.layout.specs.declared.Writer.{Writer}
use Rattle.layout.specs.Layout.{read_as, draft_of}
use Rattle.judge.specs.Phase.{phase_of, start_number_of, finish_number_of}
use Rattle.writer.specs.declared.Answer.{Answer}
use Rattle.writer.specs.Steps.{Started, Finished}
use Rattle.written.specs.Built.{Ran, none, more, AllDone, file_in, Promised}
use Rattle.written.proofs.Works.{Works, step_works, start_works}
use Rattle.written.proofs.Finish.{works_promised}

-- where steps lead that are done on drafts
record Reached {w v : Writer} {buf last : Bytes} {acts : List Act} (ran : Ran w buf acts v last) (d : Draft) (room : ℕ) : Type 0 where
  done : AllDone ran
  works : Works v last
  draft : draft_of v last ≡ d
  long : length last ≡ room

-- steps that are done on drafts are done on states and buffers
runs_done : {room : ℕ} {d last : Draft} {acts : List Act} → Runs room d acts last → AllProper acts → {w v : Writer} {buf end : Bytes} → Works w buf → draft_of w buf ≡ d → length buf ≡ room
    → (ran : Ran w buf acts v end) → Reached ran last room
runs_done ended p z e l none = record { done = tt; works = z; draft = e; long = l }
runs_done {room} {d} (going {a = a} f rest) p {w} {buf = buf} z e l (more t ran) =
    let g : fault (draft_of w buf) a (length buf) ≡ 0 = (λ i. fault (e i) a (l i)) ∙ f in
    let s = step_works w buf a t p.0 z g in
    let n = runs_done rest p.1 s.0 (s.1 ∙ ap (λ (x : Draft). after x a) e) (s.2 ∙ l) ran in
    record { done = (s.3, n.done); works = n.works; draft = n.draft; long = n.long }

-- a file that is admitted is at least as long as header and Root
admitted_long : (file : Bytes) → Kept₇ file → 52 ≤ length file
unfolding sections_of
admitted_long file z =
    let k = z.kept.kept.kept.kept.kept in
    omega (arith, k.kept.laid.whole, k.small.some)

-- a start before which nothing was begun is done where there is room
start_done : {w : Writer} {buf last : Bytes} {r : Answer} → phase_of w (length buf) ≡ 0 → 52 ≤ length buf → Started w buf r last → r.number ≡ 0
unfolding start_number_of
start_done {w} {buf} p l t = ap (λ (x : Answer). x.number) t.answer ∙ rw (p, le-leb 52 (length buf) l)

-- a finish with nothing open is done
finish_done : {w : Writer} {buf last : Bytes} {r : Answer} → phase_of w (length buf) ≡ 1 → w.depth ≡ 0 → w.inner ≡ 0 → Finished w buf r last → r.number ≡ 0
unfolding finish_number_of
finish_done {w} {buf} p d i t = ap (λ (x : Answer). x.number) t.answer ∙ rw (p, d, i)

-- for every admitted file whose Root links to the node count, every state before start and every buffer as long as the file: the steps for its entries, its source and its
-- nodes are all done, and so is the finish behind them; the file that it gives is admitted and has the same entries, the same source, and the same nodes in the fields of their kinds
pub tape-written : (file : Bytes) → Refusal file 0 → link_at (tape_of file).nodes 0 ≡ length (tape_of file).nodes → {w : Writer} {buf : Bytes} → phase_of w (length buf) ≡ 0 → length file ≤ length buf
    → {begun : Answer} {first : Bytes} → Started w buf begun first → {v : Writer} {mid : Bytes} (ran : Ran begun.writer first (acts_of (tape_of file)) v mid) → {r : Answer} {last : Bytes}
    → Finished v mid r last → (begun.number ≡ 0) × AllDone ran × (r.number ≡ 0) × Promised (file_in r last) (rewritten (tape_of file))
unfolding read_as
tape-written file a root {w} {buf} p l {begun} {first} s {v} {mid} ran {r} {last} t =
    let z : Kept₇ file = kept_all a in
    let b : begun.number ≡ 0 = start_done p (omega (arith, admitted_long file z)) s in
    let w₀ = start_works s b in
    let run = written_again file z root (length buf) l in
    let reached = runs_done run.1 (proper_acts (tape_of file) z.kept.kept.nodes) w₀.0 w₀.1 w₀.2 ran in
    let e : r.number ≡ 0 = finish_done reached.works.phase (ap (λ (d : Draft). d.depth) reached.draft ∙ run.4) (ap (λ (d : Draft). d.inner) reached.draft ∙ run.3) t in (
      b,
      reached.done,
      e,
      subst (Promised (file_in r last)) (ap tape_from reached.draft ∙ run.2) (works_promised reached.works t e),
    )
