-- The state of the draft behind each step, and the size of its file.
use mathlib.Core.Path.{◌≡◌, ap, ◌∙◌}
use mathlib.Core.List.{List, [], ◌∷◌, ◌++◌}
use Prim.Native.Nat.{ℕ, ◌+◌, ◌-◌, ◌<◌}
use native.Mathlib.Omega.{arith}
use lib.ListN.{length, length-append, length-set}
use Rattle.parts.specs.Bytes.{Bytes}
use Rattle.tape.specs.File.{node_of, entry_of}
use Rattle.tape.specs.declared.Node.{Node}
use Rattle.tape.specs.declared.Entry.{Entry}
use Rattle.tape.proofs.Laws.{records_length}
use Rattle.draft.specs.Draft.{Draft, piece, entry, plain, leaf, opens, closes, relinked, next_index, innermost, add, linked, after, size_of}
use Rattle.layout.specs.declared.Writer.{Writer}
use Rattle.layout.specs.Layout.{Fits, file_len, held_in, read_as, draft_of, state_of}
use Rattle.layout.specs.Steps.{outer, pushed, poured, entered}
use Rattle.layout.proofs.Laid.{counts, names-length, source-length}
use Rattle.layout.proofs.Back.{link_back}

-- ---- states

-- the size of a draft is the length of its state's file
size_by : (d : Draft) {k : ℕ} {v : Writer} → state_of k d ≡ v → size_of d ≡ file_len v
unfolding size_of
size_by d {k} {v} e =
    let same : size_of d ≡ file_len (state_of k d) = omega arith in
    same ∙ ap file_len e

module _ (w : Writer) (buf : Bytes) (f : Fits w (length buf)) where
  -- the counts of the draft that a state and a buffer stand for
  pub nodes-count : length (draft_of w buf).nodes ≡ w.nodes
  unfolding read_as
  nodes-count = records_length node_of 16 w.nodes (held_in w buf).nodes

  pub entries-count : length (draft_of w buf).entries ≡ w.entries
  unfolding read_as
  entries-count = records_length entry_of 8 w.entries (held_in w buf).entries

  pub names-count : length (draft_of w buf).names ≡ w.names
  unfolding read_as
  names-count = names-length w buf f

  pub source-count : length (draft_of w buf).source ≡ w.source
  unfolding read_as
  source-count = source-length w buf f

  -- its state and its size
  pub state_of_lem : state_of w.phase (draft_of w buf) ≡ w
  unfolding read_as
  state_of_lem = λ i. record { phase = w.phase; nodes = nodes-count i; entries = entries-count i; names = names-count i; source = source-count i; inner = w.inner; depth = w.depth }

  pub size_of_lem : size_of (draft_of w buf) ≡ file_len w
  size_of_lem = size_by (draft_of w buf) state_of_lem

  -- ---- the state behind each step

  -- one node more behind as many as there were
  state_add : (before : List Node) (n : Node) (inner depth : ℕ) → length before ≡ w.nodes → state_of 1 (add (draft_of w buf) before n inner depth) ≡ pushed w inner depth
  unfolding add read_as
  state_add before n inner depth e =
      let more : length (before ++ (n ∷ [])) ≡ w.nodes + 1 = length-append before (n ∷ []) ∙ ap (λ (k : ℕ). k + 1) e in
      λ i. record { phase = 1; nodes = more i; entries = entries-count i; names = names-count i; source = source-count i; inner = inner; depth = depth }

  pub state_plain : (n : Node) → state_of 1 (after (draft_of w buf) (plain n)) ≡ pushed w w.inner w.depth
  unfolding after read_as
  state_plain n = state_add (draft_of w buf).nodes n w.inner w.depth nodes-count

  pub state_leaf : (n : Node) → state_of 1 (after (draft_of w buf) (leaf n)) ≡ pushed w w.inner w.depth
  unfolding after read_as
  state_leaf n = state_add (draft_of w buf).nodes (relinked n (next_index (draft_of w buf))) w.inner w.depth nodes-count

  pub state_opens : (n : Node) → state_of 1 (after (draft_of w buf) (opens n)) ≡ pushed w (w.nodes + 1) (w.depth + 1)
  unfolding after read_as
  state_opens n =
      state_add (draft_of w buf).nodes (relinked n w.inner) (next_index (draft_of w buf)) (w.depth + 1) nodes-count
      ∙ ap (λ (k : ℕ). pushed w (k + 1) (w.depth + 1)) nodes-count

  -- the link of the innermost open container
  pub outer-link : 0 < w.inner → (innermost (draft_of w buf)).link ≡ outer (held_in w buf) w.inner
  unfolding read_as outer
  outer-link pos = link_back w.nodes w.inner (held_in w buf).nodes (omega (arith, (counts w buf f).nodes)) pos f.inner

  -- a close, whatever is open
  pub state_shut : (n : Node) → state_of 1 (after (draft_of w buf) (closes n)) ≡ pushed w (innermost (draft_of w buf)).link (w.depth - 1)
  unfolding after linked read_as
  state_shut n =
      let d : Draft = draft_of w buf in
      state_add (linked d) n (innermost d).link (w.depth - 1) (length-set d.nodes (w.inner - 1) (relinked (innermost d) (next_index d)) ∙ nodes-count)

  pub state_closes : (n : Node) → 0 < w.inner → state_of 1 (after (draft_of w buf) (closes n)) ≡ pushed w (outer (held_in w buf) w.inner) (w.depth - 1)
  state_closes n pos = state_shut n ∙ ap (λ (k : ℕ). pushed w k (w.depth - 1)) (outer-link pos)

  pub state_piece : (s : Bytes) → state_of 1 (after (draft_of w buf) (piece s)) ≡ poured w (length s)
  unfolding after read_as
  state_piece s =
      let more : length ((draft_of w buf).source ++ s) ≡ w.source + length s = length-append (draft_of w buf).source s ∙ ap (λ (k : ℕ). k + length s) source-count in
      λ i. record { phase = 1; nodes = nodes-count i; entries = entries-count i; names = names-count i; source = more i; inner = w.inner; depth = w.depth }

  pub state_entry : (s : Bytes) (e : Entry) → state_of 1 (after (draft_of w buf) (entry s e)) ≡ entered w (length s)
  unfolding after read_as
  state_entry s e =
      let one : length ((draft_of w buf).entries ++ (e ∷ [])) ≡ w.entries + 1 = length-append (draft_of w buf).entries (e ∷ []) ∙ ap (λ (k : ℕ). k + 1) entries-count in
      let more : length ((draft_of w buf).names ++ s) ≡ w.names + length s = length-append (draft_of w buf).names s ∙ ap (λ (k : ℕ). k + length s) names-count in
      λ i. record { phase = 1; nodes = nodes-count i; entries = one i; names = more i; source = source-count i; inner = w.inner; depth = w.depth }

  -- ---- the size behind each step

  pub size_plain : (n : Node) → size_of (after (draft_of w buf) (plain n)) ≡ file_len w + 16
  size_plain n = size_by (after (draft_of w buf) (plain n)) (state_plain n) ∙ omega arith

  pub size_leaf : (n : Node) → size_of (after (draft_of w buf) (leaf n)) ≡ file_len w + 16
  size_leaf n = size_by (after (draft_of w buf) (leaf n)) (state_leaf n) ∙ omega arith

  pub size_opens : (n : Node) → size_of (after (draft_of w buf) (opens n)) ≡ file_len w + 16
  size_opens n = size_by (after (draft_of w buf) (opens n)) (state_opens n) ∙ omega arith

  pub size_closes : (n : Node) → size_of (after (draft_of w buf) (closes n)) ≡ file_len w + 16
  size_closes n = size_by (after (draft_of w buf) (closes n)) (state_shut n) ∙ omega arith

  pub size_piece : (s : Bytes) → size_of (after (draft_of w buf) (piece s)) ≡ file_len w + length s
  size_piece s = size_by (after (draft_of w buf) (piece s)) (state_piece s) ∙ omega arith

  pub size_entry : (s : Bytes) (e : Entry) → size_of (after (draft_of w buf) (entry s e)) ≡ file_len w + 8 + length s
  size_entry s e = size_by (after (draft_of w buf) (entry s e)) (state_entry s e) ∙ omega arith
