-- What the steps answer and leave, from what their parts ensure.
use mathlib.Core.Path.{◌≡◌, refl, sym, ap, ◌∙◌}
use mathlib.Core.Bool.{Bool, true, false, cond, not, ◌&&◌, ◌||◌}
use mathlib.Core.List.{◌++◌}
use mathlib.Core.Logic.{◌⊎◌, inl, inr, ⊎_elim}
use Prim.Native.Nat.{ℕ, zero, suc, ◌+◌, ◌-◌, ◌≤◌, ◌<◌, min}
use native.Mathlib.Nat.{min-eq_left}
use native.Mathlib.Omega.{arith}
use lib.ListN.{length, take, drop}
use lib.Dec.{eqb, ltb}
use borrow.Author.Tests.{eqb-true, ne_eqb, ltb-true, not-true, not-false}
use Rattle.parts.specs.Bytes.{Bytes}
use Rattle.parts.proofs.Laws.{and-true}
use Rattle.tape.specs.declared.Node.{Node}
use Rattle.tape.specs.declared.Entry.{Entry}
use Rattle.draft.specs.Draft.{Draft, Act, piece, entry, plain, leaf, opens, closes, empty, relinked, after, size_of}
use Rattle.draft.specs.Fault.{first}
use Rattle.draft.proofs.Kept.{passed}
use Rattle.layout.specs.declared.Writer.{Writer}
use Rattle.layout.specs.Layout.{Fits, file_len, held_in, head_of, free_of, laid, draft_of, state_of, file_of, behind_of}
use Rattle.layout.specs.Steps.{push, pour, enter, link, outer, pushed, poured, entered, held_after, free_after, buffer_after}
use Rattle.layout.specs.Bytes.{entry_bytes}
use Rattle.layout.proofs.States.{state_of_lem, size_of_lem, state_plain, state_leaf, state_opens, state_closes, state_piece, state_entry, size_plain, size_leaf, size_opens, size_closes, size_piece, size_entry}
use Rattle.layout.proofs.Drafts.{draft_plain, draft_leaf, draft_opens, draft_closes, draft_piece, draft_entry}
use Rattle.judge.specs.Phase.{limited, fits, phase_of, number_of, start_number_of, finish_number_of}
use Rattle.judge.specs.Numbers.{node_number_of, piece_number_of, entry_number_of}
use Rattle.judge.proofs.NumberRule.{limits_of, working, NodePassed, node_passed, node_short, PiecePassed, piece_passed, piece_short, EntryPassed, entry_passed, entry_short, finish_passed, finish_not_eight}
use Rattle.judge.proofs.Bridge.{Known8, number-plain, number-leaf, number-opens, number-closes, number-piece, number-entry}
use Rattle.writer.specs.declared.Answer.{Answer}
use Rattle.writer.specs.Steps.{pick, length_given, answer_of, Took, Started, Finished, node_with, close_kind}
use Rattle.writer.specs.States.{refused_with, ended}

-- ---- answers

-- the answer of these three
abbrev answer : ℕ → ℕ → Writer → Answer
answer k n w = record { number = k; length = n; writer = w }

module _ (w : Writer) (more : ℕ) {k : ℕ} where
  pub refused_short : {t : Bool} {z : ℕ} → k ≡ 8 → t ≡ limited w → t ≡ true → z ≡ file_len w → answer k (z + more) w ≡ refused_with k w more
  unfolding refused_with
  refused_short e et h ez = rw (e, ← et, h, ez)

  pub refused-odd : {t : Bool} → k ≡ 8 → t ≡ limited w → t ≡ false → answer k 0 w ≡ refused_with k w more
  unfolding refused_with
  refused-odd e et h = rw (e, ← et, h)

  pub refused-other : (k ≡ 8 → ⊥) → answer k 0 w ≡ refused_with k w more
  unfolding refused_with
  refused-other h = rw (ne_eqb k 8 h)

-- a refused step
pub answer_kept : (w v : Writer) (more k : ℕ) {r : Answer} → (k ≡ 0 → ⊥) → (k ≡ 8 → limited w ≡ true) → r ≡ refused_with k w more
    → r ≡ answer_of k (file_len w + more) v w
unfolding refused_with length_given
answer_kept w v more zero h l e = absurd (h refl)
answer_kept w v more (suc k) h l e = e ∙ go (eqb (suc k) 8) refl
  where
    go : (t : Bool) → eqb (suc k) 8 ≡ t → answer (suc k) (cond (t && limited w) (file_len w + more) 0) w ≡ answer (suc k) (cond (eqb (suc k) 0 || t) (file_len w + more) 0) w
    go true q = rw (l (eqb-true (suc k) 8 q), ne_eqb (suc k) 0 (λ z. omega arith))
    go false q = rw (ne_eqb (suc k) 0 (λ z. omega arith))

-- a step that is done
pub answer_done : (w v : Writer) {k size n : ℕ} {r : Writer} → k ≡ 0 → n ≡ size → r ≡ v → answer k n r ≡ answer_of k size v w
unfolding length_given
answer_done w v e en er = rw (e, en, er)

pub kept : {A : Type 0} (k : ℕ) (x y : A) → (k ≡ 0 → ⊥) → y ≡ pick k x y
kept zero x y h = absurd (h refl)
kept (suc k) x y h = refl

pub done : {A : Type 0} (k : ℕ) (x y : A) → k ≡ 0 → x ≡ pick k x y
done zero x y e = refl
done (suc k) x y e = absurd (omega arith)

-- ---- one law of all steps

-- a length that is given is that of the file with the step
given-same : (k a b : ℕ) → (k ≡ 0 → a ≡ b) → (k ≡ 8 → a ≡ b) → length_given k a ≡ length_given k b
unfolding length_given
given-same k a b f g = go (eqb k 0) (eqb k 8) refl refl
  where
    go : (x y : Bool) → eqb k 0 ≡ x → eqb k 8 ≡ y → cond (x || y) a 0 ≡ cond (x || y) b 0
    go true y e h = f (eqb-true k 0 e)
    go false true e h = g (eqb-true k 8 h)
    go false false e h = refl

module _ (w : Writer) (buf : Bytes) (a : Act) where
  abbrev d : Draft
  d = draft_of w buf

  -- a step is done, or short of room, only at work
  busy : {k : ℕ} → k < 16 → number_of w buf a ≡ k → Fits w (length buf)
  unfolding number_of
  busy l e = (working w (length buf) l e).0.fits

  pub took : {k size : ℕ} {v : Writer} {x : Bytes} {r : Answer} {last : Bytes} → number_of w buf a ≡ k
      → (Fits w (length buf) → (k ≡ 0) ⊎ (k ≡ 8) → size ≡ size_of (after d a)) → (Fits w (length buf) → k ≡ 0 → v ≡ state_of 1 (after d a)) → x ≡ buffer_after w buf a
      → (Fits w (length buf) → k ≡ 0 → draft_of (state_of 1 (after d a)) (buffer_after w buf a) ≡ after d a)
      → r ≡ answer_of k size v w → last ≡ pick k x buf → Took w buf a r last
  took {k} {size} {v} {x} {r} {last} e es ev ex ed er el =
      record { answer = er ∙ answers k refl e; buffer = el ∙ buffers; draft = (λ i. draft_of (er i).writer (el i)) ∙ drafts k refl e }
    where
      answers : (j : ℕ) → k ≡ j → number_of w buf a ≡ j → answer_of j size v w ≡ answer_of (number_of w buf a) (size_of (after d a)) (state_of 1 (after d a)) w
      answers zero q h =
          let f : Fits w (length buf) = busy (omega arith) h in
          rw h (λ i. answer_of 0 (es f (inl q) i) (ev f q i) w)
      answers (suc j) q h =
          rw h (ap (λ (n : ℕ). answer (suc j) n w) (given-same (suc j) size (size_of (after d a)) (λ z. absurd (omega arith)) (λ z. es (busy (omega arith) h) (inr (q ∙ z)))))

      buffers : pick k x buf ≡ pick (number_of w buf a) (buffer_after w buf a) buf
      buffers = λ i. pick (sym e i) (ex i) buf

      drafts : (j : ℕ) → k ≡ j → number_of w buf a ≡ j → draft_of (pick j v w) (pick j x buf) ≡ pick (number_of w buf a) (after d a) d
      drafts zero q h =
          let f : Fits w (length buf) = busy (omega arith) h in
          (λ i. draft_of (ev f q i) (ex i)) ∙ ed f q ∙ ap (λ (n : ℕ). pick n (after d a) d) (sym h)
      drafts (suc j) q h = ap (λ (n : ℕ). pick n (after d a) d) (sym h)

-- ---- steps that add a node

-- the kind of a close is known
pub close_known : (block : Bool) → Known8 (close_kind block)
close_known true = (omega arith, omega arith)
close_known false = (omega arith, omega arith)

pub close-node : (block : Bool) (f m s l : ℕ) {k : ℕ} {n : Node} → k ≡ close_kind block → n ≡ node_with k f m 0 s l → n ≡ node_with (close_kind block) f m 0 s l
close-node block f m s l ek en = en ∙ ap (λ (z : ℕ). node_with z f m 0 s l) ek

-- a state within the limits
pub state_small : (w : Writer) {t : Bool} → t ≡ limited w → not t ≡ false → Fits w (file_len w)
state_small w {t} e h = limits_of w (sym e ∙ not-false t h)

module _ (w : Writer) (buf : Bytes) where
  -- the buffer with a node more
  abbrev pub with_node : Node → Bytes
  with_node n = laid (head_of buf) (push (held_in w buf) n) (take (length (free_of w buf) - 16) (free_of w buf))

  -- the same with the innermost open container linked to it
  abbrev pub with_close : Node → Bytes
  with_close n = laid (head_of buf) (push (link (held_in w buf) w.inner (w.nodes + 1)) n) (take (length (free_of w buf) - 16) (free_of w buf))

  pub took_plain : (n : Node) {m : Node} {r : Answer} {last : Bytes} → Known8 n.kind.code → m ≡ n
      → r ≡ answer_of (node_number_of w buf m 0) (file_len w + 16) (pushed w w.inner w.depth) w → last ≡ pick (node_number_of w buf m 0) (with_node m) buf
      → Took w buf (plain n) r last
  unfolding buffer_after held_after free_after
  took_plain n {m} q em er el =
      took w buf (plain n) {k = node_number_of w buf m 0} {x = with_node m} (number-plain w buf n q ∙ ap (λ (z : Node). node_number_of w buf z 0) (sym em))
      (λ f z. sym (size_plain w buf f n)) (λ f z. sym (state_plain w buf f n)) (ap with_node em) (λ f z. draft_plain w buf f n) er el

  pub took_leaf : (n : Node) {m : Node} {r : Answer} {last : Bytes} → Known8 n.kind.code → m ≡ relinked n (w.nodes + 1)
      → r ≡ answer_of (node_number_of w buf m 0) (file_len w + 16) (pushed w w.inner w.depth) w → last ≡ pick (node_number_of w buf m 0) (with_node m) buf
      → Took w buf (leaf n) r last
  unfolding buffer_after held_after free_after
  took_leaf n {m} q em er el =
      took w buf (leaf n) {k = node_number_of w buf m 0} {x = with_node m} (number-leaf w buf n (w.nodes + 1) q refl ∙ ap (λ (z : Node). node_number_of w buf z 0) (sym em))
      (λ f z. sym (size_leaf w buf f n)) (λ f z. sym (state_leaf w buf f n)) (ap with_node em) (λ f z. draft_leaf w buf f n) er el

  pub took_opens : (n : Node) {m : Node} {nest : ℕ} {r : Answer} {last : Bytes} → Known8 n.kind.code → m ≡ relinked n w.inner → nest ≡ first (ltb w.depth 64) 6 0
      → r ≡ answer_of (node_number_of w buf m nest) (file_len w + 16) (pushed w (w.nodes + 1) (w.depth + 1)) w → last ≡ pick (node_number_of w buf m nest) (with_node m) buf
      → Took w buf (opens n) r last
  unfolding buffer_after held_after free_after
  took_opens n {m} {nest} q em en er el =
      took w buf (opens n) {k = node_number_of w buf m nest} {x = with_node m} (number-opens w buf n q ∙ (λ i. node_number_of w buf (sym em i) (sym en i)))
      (λ f z. sym (size_opens w buf f n)) (λ f z. sym (state_opens w buf f n)) (ap with_node em) (λ f z. draft_opens w buf f n) er el

  -- a close that is done closes something
  some_open : first (ltb 0 w.inner && ltb 0 w.depth) 7 0 ≡ 0 → (0 < w.inner) × (0 < w.depth)
  some_open e =
      let t = and-true (ltb 0 w.inner) (ltb 0 w.depth) (passed (ltb 0 w.inner && ltb 0 w.depth) (omega arith) e).0 in
      (ltb-true 0 w.inner t.0, ltb-true 0 w.depth t.1)

  -- the number of a close
  abbrev close_nest : ℕ
  close_nest = first (ltb 0 w.inner && ltb 0 w.depth) 7 0

  pub close_passed : (m : Node) {k : ℕ} → k ≡ node_number_of w buf m close_nest → k ≡ 0 → (0 < w.inner) × (0 < w.depth)
  close_passed m e z = some_open (node_passed w buf m close_nest (sym e ∙ z)).nested

  pub took_closes : (n : Node) {m : Node} {r : Answer} {last : Bytes} → Known8 n.kind.code → m ≡ n
      → r ≡ answer_of (node_number_of w buf m close_nest) (file_len w + 16) (pushed w (outer (held_in w buf) w.inner) (w.depth - 1)) w
      → last ≡ pick (node_number_of w buf m close_nest) (with_close m) buf → Took w buf (closes n) r last
  unfolding buffer_after held_after free_after
  took_closes n {m} q em er el =
      took w buf (closes n) {k = node_number_of w buf m close_nest} {x = with_close m} (number-closes w buf n q ∙ ap (λ (z : Node). node_number_of w buf z close_nest) (sym em))
      (λ f z. sym (size_closes w buf f n)) (λ f z. sym (state_closes w buf f n (close_passed m refl z).0)) (ap with_close em) (λ f z. draft_closes w buf f n (close_passed m refl z).0) er el

  -- ---- what put and end leave

  pub put_limited : (n : Node) (nest : ℕ) {k : ℕ} → k ≡ node_number_of w buf n nest → k ≡ 0 → limited w ≡ true
  put_limited n nest e z = (node_passed w buf n nest (sym e ∙ z)).work.limited

  pub put_room : (n : Node) (nest : ℕ) {k : ℕ} → k ≡ node_number_of w buf n nest → k ≡ 0 → Fits w (length buf) × (file_len w + 16 ≤ length buf)
  put_room n nest e z = let p : NodePassed w (length buf) nest = node_passed w buf n nest (sym e ∙ z) in (p.work.fits, p.room)

  pub close_depth : (m : Node) {nest k : ℕ} → nest ≡ close_nest → k ≡ node_number_of w buf m nest → k ≡ 0 → 1 ≤ w.depth
  close_depth m {nest} en e z = (some_open (sym en ∙ (node_passed w buf m nest (sym e ∙ z)).nested)).1

  pub close-room : (m : Node) {nest k : ℕ} → nest ≡ close_nest → k ≡ node_number_of w buf m nest → k ≡ 0 → Fits w (length buf) × ((file_len w + 16 ≤ length buf) × (0 < w.inner))
  close-room m {nest} en e z =
      let p : NodePassed w (length buf) nest = node_passed w buf m nest (sym e ∙ z) in
      (p.work.fits, (p.room, (some_open (sym en ∙ p.nested)).0))

  pub put_kept : (n : Node) (nest : ℕ) (v : Writer) {k : ℕ} {r : Answer} → k ≡ node_number_of w buf n nest → (k ≡ 0 → ⊥) → r ≡ refused_with k w 16
      → r ≡ answer_of (node_number_of w buf n nest) (file_len w + 16) v w
  put_kept n nest v {k} {r} e h er = rw (← e) (answer_kept w v 16 k h (λ z. node_short w buf n nest (sym e ∙ z)) er)

  pub put_same : (n : Node) (nest : ℕ) (x : Bytes) {k : ℕ} → k ≡ node_number_of w buf n nest → (k ≡ 0 → ⊥) → buf ≡ pick (node_number_of w buf n nest) x buf
  put_same n nest x {k} e h = rw (← e) (kept k x buf h)

  pub put_done : (n : Node) (nest : ℕ) (v : Writer) {k z size : ℕ} {r : Writer} → k ≡ node_number_of w buf n nest → k ≡ 0 → z ≡ file_len w → size ≡ z + 16 → r ≡ v
      → answer k size r ≡ answer_of (node_number_of w buf n nest) (file_len w + 16) v w
  put_done n nest v {k} e h ez es er = rw (← e) (answer_done w v h (es ∙ ap (λ (m : ℕ). m + 16) ez) er)

  pub put_laid : (n : Node) (nest : ℕ) (x : Bytes) {k : ℕ} {last : Bytes} → k ≡ node_number_of w buf n nest → k ≡ 0 → last ≡ x → last ≡ pick (node_number_of w buf n nest) x buf
  put_laid n nest x {k} e h el = rw (← e) (el ∙ done k x buf h)

  -- the same of a close, whose nest is asked first
  module _ (n : Node) {nest k : ℕ} (en : nest ≡ close_nest) (e : k ≡ node_number_of w buf n nest) where
    close-number : k ≡ node_number_of w buf n close_nest
    close-number = e ∙ ap (node_number_of w buf n) en

    pub end_kept : (v : Writer) {r : Answer} → (k ≡ 0 → ⊥) → r ≡ refused_with k w 16 → r ≡ answer_of (node_number_of w buf n close_nest) (file_len w + 16) v w
    end_kept v h er = put_kept n close_nest v close-number h er

    pub end_same : (x : Bytes) → (k ≡ 0 → ⊥) → buf ≡ pick (node_number_of w buf n close_nest) x buf
    end_same x h = put_same n close_nest x close-number h

    pub end_done : {z size inner depth : ℕ} {r : Writer} → k ≡ 0 → z ≡ file_len w → size ≡ z + 16 → inner ≡ outer (held_in w buf) w.inner → r ≡ pushed w inner depth
        → answer k size r ≡ answer_of (node_number_of w buf n close_nest) (file_len w + 16) (pushed w (outer (held_in w buf) w.inner) depth) w
    end_done {depth = depth} {r = r} h ez es ei er = put_done n close_nest _ close-number h ez es (er ∙ ap (λ (i : ℕ). pushed w i depth) ei)

    pub end_laid : (x : Bytes) {last : Bytes} → k ≡ 0 → last ≡ x → last ≡ pick (node_number_of w buf n close_nest) x buf
    end_laid x h el = put_laid n close_nest x close-number h el

  -- a state that is not within the limits
  pub took_idle : (a : Act) {t : Bool} {r : Answer} → t ≡ limited w → not t ≡ true → r ≡ refused_with 16 w 0 → Took w buf a r buf
  unfolding refused_with number_of phase_of fits length_given
  took_idle a {t} {r} et h er =
      took w buf a {k = 16} {size = 0} {v = w} {x = buffer_after w buf a} (rw (sym et ∙ not-true t h)) (λ f z. ⊎_elim (λ q. absurd (omega arith)) (λ q. absurd (omega arith)) z)
      (λ f z. absurd (omega arith)) refl (λ f z. absurd (omega arith)) er refl

  -- ---- pieces

  module _ (s : Bytes) {k more : ℕ} (e : k ≡ piece_number_of w (length buf) s) (em : more ≡ min (length s) 4194304) where
    all-piece : length s ≤ 4194304 → more ≡ length s
    all-piece l = em ∙ min-eq_left l

    given-piece : (k ≡ 0) ⊎ (k ≡ 8) → more ≡ length s
    given-piece = ⊎_elim (λ z. all-piece (omega (arith, (piece_passed w (length buf) s (sym e ∙ z)).source))) (λ z. all-piece (piece_short w (length buf) s (sym e ∙ z)).1)

    took_piece : {v : Writer} {r : Answer} {last : Bytes} → (k ≡ 0 → v ≡ poured w more) → r ≡ answer_of k (file_len w + more) v w
        → last ≡ pick k (laid (head_of buf) (pour (held_in w buf) s) (drop (length s) (free_of w buf))) buf → Took w buf (piece s) r last
    unfolding buffer_after held_after free_after
    took_piece ev er el =
        took w buf (piece s) {k = k} (number-piece w buf s ∙ sym e) (λ f z. ap (λ (n : ℕ). file_len w + n) (given-piece z) ∙ sym (size_piece w buf f s))
        (λ f z. ev z ∙ ap (poured w) (given-piece (inl z)) ∙ sym (state_piece w buf f s)) refl (λ f z. draft_piece w buf f s) er el

    pub piece-room : k ≡ 0 → Fits w (length buf) × (file_len w + length s ≤ length buf)
    piece-room z = let p : PiecePassed w (length buf) (length s) = piece_passed w (length buf) s (sym e ∙ z) in (p.work.fits, p.room)

    pub piece-limited : k ≡ 0 → limited w ≡ true
    piece-limited z = (piece_passed w (length buf) s (sym e ∙ z)).work.limited

    pub piece-more : k ≡ 0 → w.source + more < 4294967296
    piece-more z = omega (arith, given-piece (inl z), (piece_passed w (length buf) s (sym e ∙ z)).source)

    pub piece_kept : {r : Answer} → (k ≡ 0 → ⊥) → r ≡ refused_with k w more → Took w buf (piece s) r buf
    piece_kept h er =
        took_piece {v = w} (λ z. absurd (h z)) (answer_kept w w more k h (λ z. (piece_short w (length buf) s (sym e ∙ z)).0) er)
        (kept k (laid (head_of buf) (pour (held_in w buf) s) (drop (length s) (free_of w buf))) buf h)

    pub piece_done : {z n : ℕ} {r : Writer} {last : Bytes} → k ≡ 0 → z ≡ file_len w → n ≡ z + more → r ≡ poured w more
        → last ≡ laid (head_of buf) (pour (held_in w buf) s) (drop (length s) (free_of w buf)) → Took w buf (piece s) (answer k n r) last
    piece_done {z} {n} {r} h ez en er el =
        took_piece {v = r} (λ q. er) (answer_done w r h (en ∙ ap (λ (m : ℕ). m + more) ez) refl)
        (el ∙ done k (laid (head_of buf) (pour (held_in w buf) s) (drop (length s) (free_of w buf))) buf h)

  -- ---- entries

  module _ (s : Bytes) (c : Entry) {k more : ℕ} (e : k ≡ entry_number_of w (length buf) s c) (em : more ≡ min (length s) 16384) where
    all-names : length s ≤ 16384 → more ≡ length s
    all-names l = em ∙ min-eq_left l

    given-names : (k ≡ 0) ⊎ (k ≡ 8) → more ≡ length s
    given-names = ⊎_elim (λ z. all-names (omega (arith, (entry_passed w (length buf) s c (sym e ∙ z)).names))) (λ z. all-names (entry_short w (length buf) s c (sym e ∙ z)).1)

    -- the buffer with the entry
    abbrev with_entry : Bytes
    with_entry = laid (head_of buf) (enter (held_in w buf) (entry_bytes c) s) (take (length (free_of w buf) - (8 + length s)) (free_of w buf))

    took_entry : {v : Writer} {r : Answer} {last : Bytes} → (k ≡ 0 → v ≡ entered w more) → r ≡ answer_of k (file_len w + (8 + more)) v w
        → last ≡ pick k with_entry buf → Took w buf (entry s c) r last
    unfolding buffer_after held_after free_after
    took_entry ev er el =
        took w buf (entry s c) {k = k} (number-entry w buf s c ∙ sym e) (λ f z. ap (λ (n : ℕ). file_len w + (8 + n)) (given-names z) ∙ regroup (file_len w) (length s) ∙ sym (size_entry w buf f s c))
        (λ f z. ev z ∙ ap (entered w) (given-names (inl z)) ∙ sym (state_entry w buf f s c)) refl (λ f z. draft_entry w buf f s c) er el
      where
        regroup : (a b : ℕ) → a + (8 + b) ≡ a + 8 + b
        regroup a b = omega arith

    pub entry-room : k ≡ 0 → Fits w (length buf) × ((w.nodes ≡ 0) × (file_len w + 8 + length s ≤ length buf))
    entry-room z = let p : EntryPassed w (length buf) (length s) = entry_passed w (length buf) s c (sym e ∙ z) in (p.work.fits, (p.bare, p.room))

    pub entry-limited : k ≡ 0 → limited w ≡ true
    entry-limited z = (entry_passed w (length buf) s c (sym e ∙ z)).work.limited

    pub entry_more : k ≡ 0 → (w.entries < 4294967296) × (w.names + more < 4294967296)
    entry_more z =
        let p : EntryPassed w (length buf) (length s) = entry_passed w (length buf) s c (sym e ∙ z) in
        (omega (arith, p.entries), omega (arith, given-names (inl z), p.names))

    pub entry_kept : {r : Answer} → (k ≡ 0 → ⊥) → r ≡ refused_with k w (8 + more) → Took w buf (entry s c) r buf
    entry_kept h er =
        took_entry {v = w} (λ z. absurd (h z)) (answer_kept w w (8 + more) k h (λ z. (entry_short w (length buf) s c (sym e ∙ z)).0) er) (kept k with_entry buf h)

    pub entry_done : {z n : ℕ} {r : Writer} {last : Bytes} → k ≡ 0 → z ≡ file_len w → n ≡ z + (8 + more) → r ≡ entered w more → last ≡ with_entry
        → Took w buf (entry s c) (answer k n r) last
    entry_done {z} {n} {r} h ez en er el =
        took_entry {v = r} (λ q. er) (answer_done w r h (en ∙ ap (λ (m : ℕ). m + (8 + more)) ez) refl) (el ∙ done k with_entry buf h)

  -- ---- start and finish

  module _ {k : ℕ} (e : k ≡ start_number_of w (length buf)) where
    started : {r : Answer} → r ≡ answer_of k 52 (state_of 1 empty) w → Started w buf r buf
    started er = record { answer = er ∙ ap (λ (n : ℕ). answer_of n 52 (state_of 1 empty) w) e; buffer = refl }

    pub start_done : k ≡ 0 → Started w buf (answer k 52 (state_of 1 empty)) buf
    start_done h = started (answer_done w (state_of 1 empty) h refl refl)

    pub start_short : k ≡ 8 → Started w buf (answer k 52 w) buf
    unfolding length_given
    start_short h = started (rw h)

    pub start_kept : (k ≡ 0 → ⊥) → (k ≡ 8 → ⊥) → Started w buf (answer k 0 w) buf
    unfolding length_given
    start_kept n h = started (ap (λ (v : Writer). answer k 0 v) (kept k (state_of 1 empty) w n) ∙ (λ i. answer k (none i) (pick k (state_of 1 empty) w)))
      where
        none : ◌≡◌ {A = ℕ} 0 (cond (eqb k 0 || eqb k 8) 52 0)
        none = rw (ne_eqb k 0 n, ne_eqb k 8 h)

  module _ {k : ℕ} (e : k ≡ finish_number_of w (length buf)) where
    -- the file, and what stands behind it
    abbrev filed : Bytes
    filed = file_of w (held_in w buf) ++ behind_of w (free_of w buf)

    pub finish_room : k ≡ 0 → Fits w (length buf)
    finish_room z = (finish_passed w (length buf) (sym e ∙ z)).work.fits

    pub finish_limited : k ≡ 0 → limited w ≡ true
    finish_limited z = (finish_passed w (length buf) (sym e ∙ z)).work.limited

    pub finish_kept : {r : Answer} → (k ≡ 0 → ⊥) → r ≡ refused_with k w 0 → Finished w buf r buf
    unfolding refused_with length_given
    finish_kept {r} h er =
        record { answer = er ∙ (λ i. answer k (none i) (kept k (state_of 2 (draft_of w buf)) w h i)) ∙ ap (λ (n : ℕ). answer_of n (size_of (draft_of w buf)) (state_of 2 (draft_of w buf)) w) e; buffer = kept k filed buf h ∙ ap (λ (n : ℕ). pick n filed buf) e }
      where
        not_eight : k ≡ 8 → ⊥
        not_eight z = finish_not_eight w (length buf) (sym e ∙ z)

        none : cond (eqb k 8 && limited w) (file_len w + 0) 0 ≡ cond (eqb k 0 || eqb k 8) (size_of (draft_of w buf)) 0
        none = rw (ne_eqb k 0 h, ne_eqb k 8 not_eight)

    pub finish_done : {z : ℕ} {r : Writer} {last : Bytes} → k ≡ 0 → z ≡ file_len w → r ≡ ended w → last ≡ filed → Finished w buf (answer k z r) last
    finish_done {z} {r} h ez er el =
        let f : Fits w (length buf) = finish_room h in
        let same : ended w ≡ state_of 2 (draft_of w buf) = ap ended (sym (state_of_lem w buf f)) in
        record {
          answer = answer_done w (state_of 2 (draft_of w buf)) h (ez ∙ sym (size_of_lem w buf f)) (er ∙ same) ∙ ap (λ (n : ℕ). answer_of n (size_of (draft_of w buf)) (state_of 2 (draft_of w buf)) w) e;
          buffer = el ∙ done k filed buf h ∙ ap (λ (n : ℕ). pick n filed buf) e;
        }
