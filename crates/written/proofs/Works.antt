-- Every state that steps give is at work on its buffer, and its draft is one that steps build.
use mathlib.Core.Path.{◌≡◌, refl, sym, ap, subst, ◌∙◌}
use mathlib.Core.Bool.{Bool, true, false}
use mathlib.Core.Logic.{◌⊎◌, inl, inr, ⊎_elim}
use mathlib.Core.List.{List, [], ◌∷◌}
use Prim.Native.Nat.{ℕ, zero, suc, ◌+◌, ◌-◌, ◌≤◌, ◌<◌}
use native.Mathlib.Omega.{arith}
use lib.ListN.{length, drop_of_length-le}
use lib.Dec.{eqb, leb}
use borrow.Author.Tests.{lt-ltb, le-leb, leb-true, eq-eqb, eqb-false}
use Rattle.parts.specs.Bytes.{Bytes}
use Rattle.chars.specs.Utf8.{is_utf8}
use Rattle.tape.specs.File.{records_of}
use Rattle.tape.specs.declared.Node.{Node}
use Rattle.draft.specs.Draft.{Draft, Act, piece, entry, plain, leaf, opens, closes, empty, next_index, add, after, size_of}
use Rattle.draft.specs.Fault.{first, few_nodes, few_names_of, few_source, good_name, good_last, roomy, node_fault, open_nest, close_nest, fault}
use Rattle.draft.specs.Grown.{Proper, Grown, start, step}
use Rattle.draft.proofs.Kept.{Kept, passed, grown_kept}
use Rattle.draft.proofs.Links.{Chain}
use Rattle.draft.proofs.Adds.{rooted}
use Rattle.draft.proofs.Nesting.{Nests, grown_nests, opens_low, closes_inner}
use Rattle.layout.specs.declared.Writer.{Writer}
use Rattle.layout.specs.Layout.{Fits, file_len, held_in, read_as, draft_of, state_of}
use Rattle.layout.specs.Steps.{buffer_after}
use Rattle.layout.proofs.States.{size_plain, size_leaf, size_opens, size_closes, size_piece, size_entry}
use Rattle.layout.proofs.Drafts.{length-plain, length-leaf, length-opens, length-closes, length-piece, length-entry}
use Rattle.judge.specs.Phase.{limited, fits, phase_of, number_of, start_number_of}
use Rattle.judge.proofs.NumberRule.{at_work, working}
use Rattle.writer.specs.declared.Answer.{Answer}
use Rattle.writer.specs.Steps.{pick, Took, Started}
use Rattle.written.specs.Built.{Built, begun, next}

-- ---- what steps build is small

-- what is open in a draft that steps build: an index of its nodes, and at most 64 containers
pub record Low (d : Draft) : Type 0 where
  pub inner : d.inner ≤ length d.nodes
  pub depth : d.depth ≤ 64

module _ (d more : Draft) (nest room : ℕ) where
  node-roomy : node_fault d more nest room ≡ 0 → size_of more ≤ room
  unfolding node_fault
  node-roomy = go (few_nodes more) (good_last more (next_index d)) (eqb nest 0) (roomy more room) refl refl
    where
      go : (a b c e : Bool) → eqb nest 0 ≡ c → roomy more room ≡ e → first a 2 (first b 5 (first c nest (first e 8 0))) ≡ 0 → size_of more ≤ room
      go true true true true q h z = leb-true (size_of more) room h
      go true true true false q h z = absurd (omega arith)
      go true true false e q h z = absurd (eqb-false nest 0 q z)
      go true false c e q h z = absurd (omega arith)
      go false b c e q h z = absurd (omega arith)

-- the file of a draft with a step that is done fits
pub step-roomy : (d : Draft) (a : Act) (room : ℕ) → fault d a room ≡ 0 → size_of (after d a) ≤ room
unfolding fault
step-roomy d (piece s) room e =
    let x = passed (few_source (after d (piece s))) (omega arith) e in
    let y = passed (is_utf8 s) (omega arith) x.1 in
    leb-true (size_of (after d (piece s))) room (passed (roomy (after d (piece s)) room) (omega arith) y.1).0
step-roomy d (entry s c) room e =
    let x = passed (eqb (length d.nodes) 0) (omega arith) e in
    let y = passed (few_names_of (after d (entry s c))) (omega arith) x.1 in
    let z = passed (good_name (after d (entry s c)) s c) (omega arith) y.1 in
    leb-true (size_of (after d (entry s c))) room (passed (roomy (after d (entry s c)) room) (omega arith) z.1).0
step-roomy d (plain n) room e = node-roomy d (after d (plain n)) 0 room e
step-roomy d (leaf n) room e = node-roomy d (after d (leaf n)) 0 room e
step-roomy d (opens n) room e = node-roomy d (after d (opens n)) (open_nest d) room e
step-roomy d (closes n) room e = node-roomy d (after d (closes n)) (close_nest d) room e

-- at most 64 containers are open
grown_depth : {d : Draft} → Grown d → d.depth ≤ 64
unfolding after add
grown_depth start = omega arith
grown_depth (step g (piece s) p room e) = grown_depth g
grown_depth (step g (entry s c) p room e) = grown_depth g
grown_depth (step g (plain n) p room e) = grown_depth g
grown_depth (step g (leaf n) p room e) = grown_depth g
grown_depth (step {d} g (opens n) p room e) = omega (arith, opens_low d n room e)
grown_depth (step {d} g (closes n) p room e) = omega (arith, grown_depth g)

-- the innermost open container is one of the nodes
chain_inner : (t : List Node) (m top : ℕ) (s : List ℕ) → Chain t m top s → (top ≡ 0) ⊎ (top < m)
chain_inner t m top [] c = inl c
chain_inner t m top (k ∷ s) c = inr (omega (arith, c.0, c.2))

pub grown_low : (d : Draft) → Grown d → Low d
grown_low d g =
    let n : Nests 0 d = grown_nests 0 g in
    let l : length (rooted 0 d) ≡ length d.nodes + 1 = omega arith in
    record {
      inner = ⊎_elim {C = d.inner ≤ length d.nodes} (λ e. omega arith) (λ h. omega arith) (chain_inner (rooted 0 d) (length (rooted 0 d)) d.inner n.held n.opened.chain);
      depth = grown_depth g;
    }

-- ---- states

-- the state of a draft that is within the limits is at work on a buffer that its file fits
state_works : (d : Draft) (n : ℕ) → Kept d → Low d → size_of d ≤ n → phase_of (state_of 1 d) n ≡ 1
unfolding phase_of fits limited size_of
state_works d n k l h =
    rw (
      lt-ltb (length d.nodes) 262144 (omega (arith, k.nodes)),
      le-leb (length d.entries) 1024 k.entries,
      le-leb (length d.names) 16384 k.names,
      le-leb (length d.source) 4194304 k.source,
      le-leb d.inner (length d.nodes) l.inner,
      le-leb d.depth 64 l.depth,
      le-leb (file_len (state_of 1 d)) n (omega arith),
    )

-- nothing is read where nothing was added
empty_read : (buf : Bytes) → draft_of (state_of 1 empty) buf ≡ empty
unfolding read_as held_in records_of
empty_read buf = let n : length buf ≤ length buf - 0 = omega arith in rw (drop_of_length-le buf {i = length buf - 0} n)

-- a state and a buffer that steps have built
pub record Works (w : Writer) (buf : Bytes) : Type 0 where
  pub grown : Grown (draft_of w buf)
  pub phase : phase_of w (length buf) ≡ 1

-- a close that is done closes something
inner-some : (w : Writer) (buf : Bytes) (n : Node) → fault (draft_of w buf) (closes n) (length buf) ≡ 0 → 0 < w.inner
unfolding read_as
inner-some w buf n e = closes_inner (draft_of w buf) n (length buf) e

-- the buffer is as long behind a step that is done
length-after : (w : Writer) (buf : Bytes) (a : Act) → Fits w (length buf) → fault (draft_of w buf) a (length buf) ≡ 0 → length (buffer_after w buf a) ≡ length buf
length-after w buf a f e = go a (step-roomy (draft_of w buf) a (length buf) e) e
  where
    go : (a : Act) → size_of (after (draft_of w buf) a) ≤ length buf → fault (draft_of w buf) a (length buf) ≡ 0 → length (buffer_after w buf a) ≡ length buf
    go (piece s) h z = length-piece w buf f s (omega (arith, size_piece w buf f s))
    go (entry s c) h z = length-entry w buf f s c (omega (arith, size_entry w buf f s c))
    go (plain n) h z = length-plain w buf f n (omega (arith, size_plain w buf f n))
    go (leaf n) h z = length-leaf w buf f n (omega (arith, size_leaf w buf f n))
    go (opens n) h z = length-opens w buf f n (omega (arith, size_opens w buf f n))
    go (closes n) h z = length-closes w buf f n (inner-some w buf n z) (omega (arith, size_closes w buf f n))

module _ (w : Writer) (buf : Bytes) (a : Act) {r : Answer} {last : Bytes} (t : Took w buf a r last) where
  abbrev d : Draft
  d = draft_of w buf

  -- a step that is done leads to the draft with what it adds
  pub step_works : Proper a → Works w buf → fault d a (length buf) ≡ 0 → Works r.writer last × (draft_of r.writer last ≡ after d a) × (length last ≡ length buf) × (r.number ≡ 0)
  unfolding number_of
  step_works p z e = (
    record { grown = subst Grown (sym draft) more; phase = state ∙ state_works (after d a) (length buf) (grown_kept (after d a) more) (grown_low (after d a) more) (step-roomy d a (length buf) e) },
    draft,
    long,
    ap (λ (x : Answer). x.number) t.answer ∙ done,
  )
    where
      done : number_of w buf a ≡ 0
      done = rw (z.phase, e)

      more : Grown (after d a)
      more = step z.grown a p (length buf) e

      draft : draft_of r.writer last ≡ after d a
      draft = t.draft ∙ ap (λ (k : ℕ). pick k (after d a) d) done

      long : length last ≡ length buf
      long = ap length (t.buffer ∙ ap (λ (k : ℕ). pick k (buffer_after w buf a) buf) done) ∙ length-after w buf a (at_work w (length buf) (eq-eqb (phase_of w (length buf)) 1 z.phase)).fits e

      state : phase_of r.writer (length last) ≡ phase_of (state_of 1 (after d a)) (length buf)
      state = λ i. phase_of ((ap (λ (x : Answer). x.writer) t.answer ∙ ap (λ (k : ℕ). pick k (state_of 1 (after d a)) w) done) i) (long i)

  -- a refused step leads to where it stood
  step_kept : (k : ℕ) → number_of w buf a ≡ suc k → Works w buf → Works r.writer last
  step_kept k e z =
      let ew : r.writer ≡ w = ap (λ (x : Answer). x.writer) t.answer ∙ ap (λ (j : ℕ). pick j (state_of 1 (after d a)) w) e in
      let eb : last ≡ buf = t.buffer ∙ ap (λ (j : ℕ). pick j (buffer_after w buf a) buf) e in
      record { grown = subst Grown (λ i. draft_of (sym ew i) (sym eb i)) z.grown; phase = (λ i. phase_of (ew i) (length (eb i))) ∙ z.phase }

  pub any_works : Proper a → Works w buf → Works r.writer last
  unfolding number_of
  any_works p z = go (number_of w buf a) refl
    where
      go : (k : ℕ) → number_of w buf a ≡ k → Works r.writer last
      go zero e = (step_works p z (working w (length buf) (omega arith) e).1).0
      go (suc k) e = step_kept k e z

-- a start that is done
pub start_works : {w : Writer} {buf last : Bytes} {r : Answer} → Started w buf r last → r.number ≡ 0 → Works r.writer last × (draft_of r.writer last ≡ empty) × (length last ≡ length buf)
unfolding start_number_of size_of
start_works {w} {buf} {last} {r} t e = (record { grown = subst Grown (sym draft) start; phase = (λ i. phase_of (writer i) (length (t.buffer i))) ∙ state_works empty (length buf) (grown_kept empty start) (grown_low empty start) room }, draft, ap length t.buffer)
  where
    number : start_number_of w (length buf) ≡ 0
    number = sym (ap (λ (x : Answer). x.number) t.answer) ∙ e

    room : size_of empty ≤ length buf
    room =
        let x = passed (eqb (phase_of w (length buf)) 0) (omega arith) number in
        leb-true 52 (length buf) (passed (leb 52 (length buf)) (omega arith) x.1).0

    writer : r.writer ≡ state_of 1 empty
    writer = ap (λ (x : Answer). x.writer) t.answer ∙ ap (λ (k : ℕ). pick k (state_of 1 empty) w) number

    draft : draft_of r.writer last ≡ empty
    draft = ap (λ (x : Writer). draft_of x last) writer ∙ empty_read last

-- every state that steps lead to is at work
pub built_works : {w : Writer} {buf : Bytes} → Built w buf → Works w buf
built_works (begun t e) = (start_works t e).0
built_works (next {w} {buf} b a p t) = any_works w buf a t p (built_works b)
