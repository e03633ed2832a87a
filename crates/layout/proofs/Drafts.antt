-- The buffer behind each step holds the draft behind it, and keeps its length.
use mathlib.Core.Path.{◌≡◌, refl, sym, ap, ◌∙◌}
use mathlib.Core.List.{[], ◌∷◌, ◌++◌}
use Prim.Native.Nat.{ℕ, ◌+◌, ◌-◌, ◌≤◌, ◌<◌}
use native.Mathlib.Omega.{arith}
use lib.ListN.{length, take, drop, set, length-append, length-drop}
use lib.Seq.{length-take-le}
use Rattle.parts.specs.Bytes.{Bytes}
use Rattle.tape.specs.File.{node_of, entry_of, records_of}
use Rattle.tape.specs.declared.Node.{Node}
use Rattle.tape.specs.declared.Entry.{Entry}
use Rattle.draft.specs.Draft.{Draft, Act, piece, entry, plain, leaf, opens, closes, relinked, innermost, add, linked, after}
use Rattle.layout.specs.declared.Writer.{Writer}
use Rattle.layout.specs.Bytes.{node_bytes_of, entry_bytes}
use Rattle.layout.specs.Layout.{Held, Fits, file_len, held_in, head_of, free_of, read_as, draft_of, state_of}
use Rattle.layout.specs.Steps.{push, pour, enter, link, outer, held_after, free_after, buffer_after, pushed, poured, entered}
use Rattle.layout.proofs.Laid.{Counts, counts, free-length, head_length, nodes-length, laid-length, held_read}
use Rattle.layout.proofs.Moved.{linked_counts}
use Rattle.layout.proofs.Back.{nodes_snoc, entries_snoc}
use Rattle.layout.proofs.Relink.{nodes-relink}
use Rattle.layout.proofs.States.{nodes-count, state_plain, state_leaf, state_opens, state_closes, state_piece, state_entry, outer-link}

-- ---- what is held with one thing more

module _ (w : Writer) (h : Held) (c : Counts w h) where
  push_counts : (n : Node) (inner depth : ℕ) → Counts (pushed w inner depth) (push h n)
  unfolding push node_bytes_of
  push_counts n inner depth = record { entries = c.entries; names = c.names; source = c.source; nodes = length-append h.nodes (node_bytes_of n) ∙ omega (arith, c.nodes) }

  push_read : (n : Node) (inner depth : ℕ) → read_as (pushed w inner depth) (push h n) ≡ add (read_as w h) (read_as w h).nodes n inner depth
  unfolding push read_as add
  push_read n inner depth =
      let more : records_of node_of 16 (w.nodes + 1) (h.nodes ++ node_bytes_of n) ≡ records_of node_of 16 w.nodes h.nodes ++ (n ∷ []) = nodes_snoc w.nodes h.nodes n c.nodes in
      λ i. record { entries = records_of entry_of 8 w.entries h.entries; names = h.names; source = h.source; nodes = more i; inner = inner; depth = depth }

  pour_counts : (s : Bytes) → Counts (poured w (length s)) (pour h s)
  unfolding pour
  pour_counts s = record { entries = c.entries; names = c.names; source = length-append h.source s ∙ omega (arith, c.source); nodes = c.nodes }

  pour_read : (s : Bytes) → read_as (poured w (length s)) (pour h s) ≡ after (read_as w h) (piece s)
  unfolding pour read_as after
  pour_read s = refl

  enter_counts : (s : Bytes) (e : Entry) → Counts (entered w (length s)) (enter h (entry_bytes e) s)
  unfolding enter entry_bytes
  enter_counts s e =
      record {
        entries = length-append h.entries (entry_bytes e) ∙ omega (arith, c.entries);
        names = length-append h.names s ∙ omega (arith, c.names);
        source = c.source;
        nodes = c.nodes;
      }

  enter_read : (s : Bytes) (e : Entry) → read_as (entered w (length s)) (enter h (entry_bytes e) s) ≡ after (read_as w h) (entry s e)
  unfolding enter read_as after
  enter_read s e =
      let more : records_of entry_of 8 (w.entries + 1) (h.entries ++ entry_bytes e) ≡ records_of entry_of 8 w.entries h.entries ++ (e ∷ []) = entries_snoc w.entries h.entries e c.entries in
      λ i. record { entries = more i; names = h.names ++ s; source = h.source; nodes = records_of node_of 16 w.nodes h.nodes; inner = w.inner; depth = w.depth }

-- ---- the draft behind each step

module _ (w : Writer) (buf : Bytes) (f : Fits w (length buf)) where
  -- what is held behind a step, read as the draft behind it, is what the buffer behind it stands for
  draft_by : (a : Act) {v : Writer} → state_of 1 (after (draft_of w buf) a) ≡ v → Counts v (held_after w (held_in w buf) a) → read_as v (held_after w (held_in w buf) a) ≡ after (draft_of w buf) a
      → draft_of (state_of 1 (after (draft_of w buf) a)) (buffer_after w buf a) ≡ after (draft_of w buf) a
  unfolding buffer_after
  draft_by a {v} es c er =
      ap (λ (u : Writer). draft_of u (buffer_after w buf a)) es
      ∙ ap (read_as v) (held_read v (head_of buf) (held_after w (held_in w buf) a) (free_after (free_of w buf) a) (head_length w buf f) c) ∙ er

  pub draft_plain : (n : Node) → draft_of (state_of 1 (after (draft_of w buf) (plain n))) (buffer_after w buf (plain n)) ≡ after (draft_of w buf) (plain n)
  unfolding held_after after read_as
  draft_plain n =
      let c : Counts w (held_in w buf) = counts w buf f in
      draft_by (plain n) (state_plain w buf f n) (push_counts w (held_in w buf) c n w.inner w.depth) (push_read w (held_in w buf) c n w.inner w.depth)

  pub draft_leaf : (n : Node) → draft_of (state_of 1 (after (draft_of w buf) (leaf n))) (buffer_after w buf (leaf n)) ≡ after (draft_of w buf) (leaf n)
  unfolding held_after after read_as
  draft_leaf n =
      let c : Counts w (held_in w buf) = counts w buf f in
      let d : Draft = draft_of w buf in
      let x : Node = relinked n (w.nodes + 1) in
      draft_by (leaf n) (state_leaf w buf f n) (push_counts w (held_in w buf) c x w.inner w.depth)
      (push_read w (held_in w buf) c x w.inner w.depth ∙ ap (λ (k : ℕ). add d d.nodes (relinked n (k + 1)) w.inner w.depth) (sym (nodes-count w buf f)))

  pub draft_opens : (n : Node) → draft_of (state_of 1 (after (draft_of w buf) (opens n))) (buffer_after w buf (opens n)) ≡ after (draft_of w buf) (opens n)
  unfolding held_after after read_as
  draft_opens n =
      let c : Counts w (held_in w buf) = counts w buf f in
      let d : Draft = draft_of w buf in
      let x : Node = relinked n w.inner in
      draft_by (opens n) (state_opens w buf f n) (push_counts w (held_in w buf) c x (w.nodes + 1) (w.depth + 1))
      (push_read w (held_in w buf) c x (w.nodes + 1) (w.depth + 1) ∙ ap (λ (k : ℕ). add d d.nodes x (k + 1) (w.depth + 1)) (sym (nodes-count w buf f)))

  -- the nodes with the innermost open container linked to the next
  linked_read : 0 < w.inner → (read_as w (link (held_in w buf) w.inner (w.nodes + 1))).nodes ≡ linked (draft_of w buf)
  unfolding link read_as linked
  linked_read pos =
      let d : Draft = draft_of w buf in
      let below : w.inner ≤ w.nodes = f.inner in
      nodes-relink w.nodes (w.inner - 1) (held_in w buf).nodes (w.nodes + 1) (omega arith) (omega (arith, nodes-length w buf f))
      ∙ ap (λ (k : ℕ). set d.nodes (w.inner - 1) (relinked (innermost d) (k + 1))) (sym (nodes-count w buf f))

  pub draft_closes : (n : Node) → 0 < w.inner → draft_of (state_of 1 (after (draft_of w buf) (closes n))) (buffer_after w buf (closes n)) ≡ after (draft_of w buf) (closes n)
  unfolding held_after link after add read_as
  draft_closes n pos =
      let h : Held = link (held_in w buf) w.inner (w.nodes + 1) in
      let c : Counts w h = linked_counts w buf f pos in
      let k : ℕ = outer (held_in w buf) w.inner in
      draft_by (closes n) (state_closes w buf f n pos) (push_counts w h c n k (w.depth - 1))
      (push_read w h c n k (w.depth - 1) ∙ (λ i. add (draft_of w buf) (linked_read pos i) n (sym (outer-link w buf f pos) i) (w.depth - 1)))

  pub draft_piece : (s : Bytes) → draft_of (state_of 1 (after (draft_of w buf) (piece s))) (buffer_after w buf (piece s)) ≡ after (draft_of w buf) (piece s)
  unfolding held_after
  draft_piece s = let c : Counts w (held_in w buf) = counts w buf f in draft_by (piece s) (state_piece w buf f s) (pour_counts w (held_in w buf) c s) (pour_read w (held_in w buf) c s)

  pub draft_entry : (s : Bytes) (e : Entry) → draft_of (state_of 1 (after (draft_of w buf) (entry s e))) (buffer_after w buf (entry s e)) ≡ after (draft_of w buf) (entry s e)
  unfolding held_after
  draft_entry s e = let c : Counts w (held_in w buf) = counts w buf f in draft_by (entry s e) (state_entry w buf f s e) (enter_counts w (held_in w buf) c s e) (enter_read w (held_in w buf) c s e)

  -- ---- the buffer keeps its length

  length-by : (a : Act) {v : Writer} → Counts v (held_after w (held_in w buf) a) → file_len v + length (free_after (free_of w buf) a) ≡ length buf → length (buffer_after w buf a) ≡ length buf
  unfolding buffer_after
  length-by a {v} c e = laid-length v (head_of buf) (held_after w (held_in w buf) a) (free_after (free_of w buf) a) (head_length w buf f) c ∙ e

  -- the free bytes without so many at their end
  left : (k : ℕ) → file_len w + k ≤ length buf → file_len w + k + length (take (length (free_of w buf) - k) (free_of w buf)) ≡ length buf
  left k room =
      let fl : length (free_of w buf) ≡ length buf - file_len w = free-length w buf f in
      let tl : length (take (length (free_of w buf) - k) (free_of w buf)) ≡ length (free_of w buf) - k = length-take-le (length (free_of w buf) - k) (free_of w buf) (omega arith) in
      ap (λ (m : ℕ). file_len w + k + m) tl ∙ whole (file_len w) k (length buf) (length (free_of w buf)) room fl
    where
      whole : (s k n m : ℕ) → s + k ≤ n → m ≡ n - s → s + k + (m - k) ≡ n
      whole s k n m h e = omega arith

  pub length-plain : (n : Node) → file_len w + 16 ≤ length buf → length (buffer_after w buf (plain n)) ≡ length buf
  unfolding held_after free_after
  length-plain n room = length-by (plain n) (push_counts w (held_in w buf) (counts w buf f) n w.inner w.depth) (omega (arith, left 16 room))

  pub length-leaf : (n : Node) → file_len w + 16 ≤ length buf → length (buffer_after w buf (leaf n)) ≡ length buf
  unfolding held_after free_after
  length-leaf n room = length-by (leaf n) (push_counts w (held_in w buf) (counts w buf f) (relinked n (w.nodes + 1)) w.inner w.depth) (omega (arith, left 16 room))

  pub length-opens : (n : Node) → file_len w + 16 ≤ length buf → length (buffer_after w buf (opens n)) ≡ length buf
  unfolding held_after free_after
  length-opens n room = length-by (opens n) (push_counts w (held_in w buf) (counts w buf f) (relinked n w.inner) w.inner w.depth) (omega (arith, left 16 room))

  pub length-closes : (n : Node) → 0 < w.inner → file_len w + 16 ≤ length buf → length (buffer_after w buf (closes n)) ≡ length buf
  unfolding held_after free_after
  length-closes n pos room =
      length-by (closes n) (push_counts w (link (held_in w buf) w.inner (w.nodes + 1)) (linked_counts w buf f pos) n w.inner w.depth) (omega (arith, left 16 room))

  pub length-piece : (s : Bytes) → file_len w + length s ≤ length buf → length (buffer_after w buf (piece s)) ≡ length buf
  unfolding held_after free_after
  length-piece s room =
      let dl : length (drop (length s) (free_of w buf)) ≡ length (free_of w buf) - length s = length-drop (length s) (free_of w buf) in
      length-by (piece s) (pour_counts w (held_in w buf) (counts w buf f) s) (omega (arith, free-length w buf f))

  pub length-entry : (s : Bytes) (e : Entry) → file_len w + 8 + length s ≤ length buf → length (buffer_after w buf (entry s e)) ≡ length buf
  unfolding held_after free_after
  length-entry s e room = length-by (entry s e) (enter_counts w (held_in w buf) (counts w buf f) s e) (omega (arith, left (8 + length s) (omega arith)))
