-- The numbers that the code tests are those of the steps on drafts.
use mathlib.Core.Path.{◌≡◌, refl, sym, ap, subst, ◌∙◌}
use mathlib.Core.Bool.{Bool, true, false, cond, ◌&&◌, ◌||◌}
use mathlib.Core.List.{List, [], ◌∷◌, ◌++◌}
use Prim.Native.Nat.{ℕ, suc, ◌+◌, ◌-◌, ◌≤◌, ◌<◌}
use native.Mathlib.Omega.{arith}
use lib.ListN.{length, length-append, length-set}
use lib.Dec.{eqb, ltb, leb}
use borrow.Author.Tests.{leb-true, leb-false, le-leb, lt-leb, eqb-true, ne_eqb}
use Rattle.parts.specs.Bytes.{Bytes, part}
use Rattle.chars.specs.Utf8.{is_utf8, is_boundary}
use Rattle.tape.specs.File.{Tape, node_at, kind_at, entry_at, text_at_of, info_at, bears_marker, element_of, base_len}
use Rattle.tape.specs.Name.{marker_name}
use Rattle.tape.specs.declared.Node.{Node}
use Rattle.tape.specs.declared.Entry.{Entry}
use Rattle.tape.specs.Found.{Info}
use Rattle.admit.specs.Decide.{label_cut, good_node, good_entry}
use Rattle.draft.specs.Draft.{Draft, piece, entry, plain, leaf, opens, closes, relinked, next_index, innermost, add, linked, after, tape_from, size_of}
use Rattle.draft.specs.Fault.{first, good_name, good_last, node_fault, fault}
use Rattle.draft.proofs.GoodAgain.{last_at}
use Rattle.layout.specs.declared.Writer.{Writer}
use Rattle.layout.specs.Layout.{Fits, file_len, read_as, draft_of}
use Rattle.layout.proofs.States.{nodes-count, entries-count, names-count, source-count, size_plain, size_leaf, size_opens, size_closes, size_piece, size_entry}
use Rattle.judge.specs.Phase.{phase_of, number_of}
use Rattle.judge.specs.Tests.{info_of, good_span, good_label, good_marker, good_here}
use Rattle.judge.specs.Numbers.{node_number_of, piece_number_of, good_entry_for, entry_number_of}
use Rattle.judge.proofs.NumberRule.{at_work}

-- ---- tests

-- two comparisons that say the same
same_leb : (a b c d : ℕ) → (a ≤ b → c ≤ d) → (c ≤ d → a ≤ b) → leb a b ≡ leb c d
same_leb a b c d f g = go (leb a b) refl
  where
    go : (x : Bool) → leb a b ≡ x → x ≡ leb c d
    go true e = sym (le-leb c d (f (leb-true a b e)))
    go false e = sym (other (leb c d) refl)
      where
        other : (y : Bool) → leb c d ≡ y → y ≡ false
        other true h = let l : a ≤ b = g (leb-true c d h) in absurd (omega (arith, leb-false a b e))
        other false h = refl

-- a kind that a node behind Root can have
abbrev pub Known8 : ℕ → Type 0
Known8 k = (0 < k) × (k ≤ 8)

-- ---- a node

regroup : (b d e f g : Bool) → b && (d && (e && (f && g))) ≡ (b && (d && (e && f))) && g
regroup true true true true g = refl
regroup true true true false g = refl
regroup true true false f g = refl
regroup true false e f g = refl
regroup false d e f g = refl

module _ (t : Tape) (k : ℕ) where
  -- a node that bears a marker has the info of its marker number
  info_is : bears_marker (kind_at t k) ≡ true → info_at t k ≡ info_of t.entries (node_at t k).marker
  unfolding info_at info_of entry_at
  info_is h = rw h

  -- what is asked of the marker
  marker_is : cond (eqb (kind_at t k) 6 || eqb (kind_at t k) 7) (eqb (element_of (info_at t k)) 0) true
      && cond (eqb (kind_at t k) 7 && label_cut t k) (is_boundary (marker_name t k) (base_len (info_at t k))) true
      ≡ good_marker t.source (node_at t k) (info_of t.entries (node_at t k).marker)
  unfolding good_marker good_label label_cut marker_name text_at_of bears_marker
  marker_is = go (eqb (kind_at t k) 6) (eqb (kind_at t k) 7) refl refl
    where
      i : Info
      i = info_of t.entries (node_at t k).marker

      s : Bytes
      s = part t.source (node_at t k).start (node_at t k).len

      go : (x y : Bool) → eqb (kind_at t k) 6 ≡ x → eqb (kind_at t k) 7 ≡ y
          → cond (x || y) (eqb (element_of (info_at t k)) 0) true && cond (y && label_cut t k) (is_boundary (marker_name t k) (base_len (info_at t k))) true
          ≡ cond (x || y) (eqb (element_of i) 0) true && cond y (good_label s (base_len i)) true
      go true true e h = absurd (omega (arith, eqb-true (kind_at t k) 6 e, eqb-true (kind_at t k) 7 h))
      go true false e h = let b : bears_marker (kind_at t k) ≡ true = rw (eqb-true (kind_at t k) 6 e) in rw (info_is b)
      go false true e h = let b : bears_marker (kind_at t k) ≡ true = rw (eqb-true (kind_at t k) 7 h) in rw (info_is b)
      go false false e h = refl

  pub here_is : 0 < k → Known8 (kind_at t k) → good_node t k ≡ good_here t.source t.entries (node_at t k)
  unfolding good_node good_here good_span
  here_is p h =
      rw (le-leb (kind_at t k) 8 h.1, ne_eqb (kind_at t k) 0 (λ e. omega (arith, h.0)), ne_eqb k 0 (λ e. omega arith))
      (regroup (leb (node_at t k).flags.bits 3) (leb ((node_at t k).start + (node_at t k).len) (length t.source)) (is_boundary t.source (node_at t k).start)
      (is_boundary t.source ((node_at t k).start + (node_at t k).len)) _
      ∙ ap (λ (b : Bool). good_span t.source (node_at t k) && b) marker_is)

-- the last node of a draft with one node more
last_is : (d : Draft) (ns : List Node) (n : Node) (i h : ℕ) → length ns ≡ length d.nodes → Known8 n.kind.code
    → good_last (add d ns n i h) (next_index d) ≡ good_here d.source d.entries n
unfolding good_last add tape_from
last_is d ns n i h e q =
    let at : node_at (tape_from (add d ns n i h)) (next_index d) ≡ n = last_at d ns n i h e in
    here_is (tape_from (add d ns n i h)) (next_index d) (omega arith) (subst (λ (x : Node). Known8 x.kind.code) (sym at) q)
    ∙ ap (good_here d.source d.entries) at

-- ---- numbers

-- nothing is asked unless at work
by_work : (t : Bool) (a b : ℕ) → (t ≡ true → a ≡ b) → first t 16 a ≡ first t 16 b
by_work true a b f = f refl
by_work false a b f = refl

module _ (w : Writer) (buf : Bytes) where
  fits_in : eqb (phase_of w (length buf)) 1 ≡ true → Fits w (length buf)
  fits_in t = (at_work w (length buf) t).fits

  abbrev d : Draft
  d = draft_of w buf

  one_more : (f : Fits w (length buf)) (ns : List Node) (n : Node) (i h : ℕ) → length ns ≡ length d.nodes → next_index (add d ns n i h) ≡ w.nodes + 1 + 1
  unfolding add
  one_more f ns n i h e = ap (λ (k : ℕ). k + 1) (length-append ns (n ∷ [])) ∙ omega (arith, nodes-count w buf f)

  -- a step that adds a node
  fault-node : (f : Fits w (length buf)) (ns : List Node) (n : Node) (i h nest : ℕ) → length ns ≡ length d.nodes → Known8 n.kind.code
      → size_of (add d ns n i h) ≡ file_len w + 16
      → node_fault d (add d ns n i h) nest (length buf)
      ≡ first (ltb (w.nodes + 1) 262144) 2 (first (good_here d.source d.entries n) 5 (first (eqb nest 0) nest (first (leb (file_len w + 16) (length buf)) 8 0)))
  unfolding node_fault
  fault-node f ns n i h nest e q z = rw (few, last_is d ns n i h e q, z)
    where
      few : leb (next_index (add d ns n i h)) 262144 ≡ ltb (w.nodes + 1) 262144
      few = same_leb (next_index (add d ns n i h)) 262144 (suc (w.nodes + 1)) 262144 (λ l. omega (arith, one_more f ns n i h e)) (λ l. omega (arith, one_more f ns n i h e))

  pub number-plain : (n : Node) → Known8 n.kind.code → number_of w buf (plain n) ≡ node_number_of w buf n 0
  unfolding number_of node_number_of fault after
  number-plain n q =
      by_work (eqb (phase_of w (length buf)) 1) _ _ (λ t. let f : Fits w (length buf) = fits_in t in fault-node f d.nodes n d.inner d.depth 0 refl q (size_plain w buf f n))

  pub number-leaf : (n : Node) (to : ℕ) → Known8 n.kind.code → to ≡ w.nodes + 1 → number_of w buf (leaf n) ≡ node_number_of w buf (relinked n to) 0
  unfolding number_of node_number_of fault after
  number-leaf n to q e =
      by_work (eqb (phase_of w (length buf)) 1) _ _
      (λ t. let f : Fits w (length buf) = fits_in t in fault-node f d.nodes (relinked n (next_index d)) d.inner d.depth 0 refl q (size_leaf w buf f n) ∙ same f)
    where
      same : (f : Fits w (length buf))
          → first (ltb (w.nodes + 1) 262144) 2 (first (good_here d.source d.entries (relinked n (next_index d))) 5 (first (leb (file_len w + 16) (length buf)) 8 0))
          ≡ first (ltb (w.nodes + 1) 262144) 2 (first (good_here d.source d.entries (relinked n to)) 5 (first (leb (file_len w + 16) (length buf)) 8 0))
      same f =
          let k : next_index d ≡ to = omega (arith, nodes-count w buf f) in
          ap (λ (z : ℕ). first (ltb (w.nodes + 1) 262144) 2 (first (good_here d.source d.entries (relinked n z)) 5 (first (leb (file_len w + 16) (length buf)) 8 0))) k

  pub number-opens : (n : Node) → Known8 n.kind.code → number_of w buf (opens n) ≡ node_number_of w buf (relinked n w.inner) (first (ltb w.depth 64) 6 0)
  unfolding number_of node_number_of fault after read_as
  number-opens n q =
      by_work (eqb (phase_of w (length buf)) 1) _ _
      (λ t. let f : Fits w (length buf) = fits_in t in fault-node f d.nodes (relinked n d.inner) (next_index d) (d.depth + 1) (first (ltb w.depth 64) 6 0) refl q (size_opens w buf f n))

  pub number-closes : (n : Node) → Known8 n.kind.code → number_of w buf (closes n) ≡ node_number_of w buf n (first (ltb 0 w.inner && ltb 0 w.depth) 7 0)
  unfolding number_of node_number_of fault after linked read_as
  number-closes n q =
      by_work (eqb (phase_of w (length buf)) 1) _ _
      (λ t. let f : Fits w (length buf) = fits_in t in
      fault-node f (linked d) n (innermost d).link (d.depth - 1) (first (ltb 0 w.inner && ltb 0 w.depth) 7 0)
      (length-set d.nodes (d.inner - 1) (relinked (innermost d) (next_index d))) q (size_closes w buf f n))

  pub number-piece : (s : Bytes) → number_of w buf (piece s) ≡ piece_number_of w (length buf) s
  unfolding number_of piece_number_of fault after
  number-piece s = by_work (eqb (phase_of w (length buf)) 1) _ _ (λ t. tests (fits_in t))
    where
      tests : Fits w (length buf)
          → first (leb (length (d.source ++ s)) 4194304) 2 (first (is_utf8 s) 3 (first (leb (size_of (after d (piece s))) (length buf)) 8 0))
          ≡ first (leb (length s) (4194304 - w.source)) 2 (first (is_utf8 s) 3 (first (leb (length s) (length buf - file_len w)) 8 0))
      tests f =
          let n : length (d.source ++ s) ≡ w.source + length s = length-append d.source s ∙ ap (λ (k : ℕ). k + length s) (source-count w buf f) in
          let a : leb (w.source + length s) 4194304 ≡ leb (length s) (4194304 - w.source) = same_leb (w.source + length s) 4194304 (length s) (4194304 - w.source) (λ l. omega arith) (λ l. omega (arith, f.source)) in
          let b : leb (file_len w + length s) (length buf) ≡ leb (length s) (length buf - file_len w) = same_leb (file_len w + length s) (length buf) (length s) (length buf - file_len w) (λ l. omega arith) (λ l. omega (arith, f.room)) in
          (λ i. first ((ap (λ (k : ℕ). leb k 4194304) n ∙ a) i) 2 (first (is_utf8 s) 3 (first ((ap (λ (k : ℕ). leb k (length buf)) (size_piece w buf f s) ∙ b) i) 8 0)))

  pub number-entry : (s : Bytes) (e : Entry) → number_of w buf (entry s e) ≡ entry_number_of w (length buf) s e
  unfolding number_of entry_number_of fault after good_name good_entry good_entry_for tape_from
  number-entry s e = by_work (eqb (phase_of w (length buf)) 1) _ _ (λ t. tests (fits_in t))
    where
      tests : (f : Fits w (length buf)) → fault d (entry s e) (length buf)
          ≡ first (eqb w.nodes 0) 16 (first (ltb w.entries 1024 && leb (length s) (16384 - w.names)) 2
          (first (good_entry_for w.names s e) 4 (first (leb 8 (length buf - file_len w) && leb (length s) (length buf - file_len w - 8)) 8 0)))
      tests f =
          let m : length (d.names ++ s) ≡ w.names + length s = length-append d.names s ∙ ap (λ (k : ℕ). k + length s) (names-count w buf f) in
          let c : length (d.entries ++ (e ∷ [])) ≡ w.entries + 1 = length-append d.entries (e ∷ []) ∙ ap (λ (k : ℕ). k + 1) (entries-count w buf f) in
          let x : leb (length (d.entries ++ (e ∷ []))) 1024 ≡ ltb w.entries 1024 = same_leb (length (d.entries ++ (e ∷ []))) 1024 (suc w.entries) 1024 (λ l. omega arith) (λ l. omega arith) in
          let y : leb (length (d.names ++ s)) 16384 ≡ leb (length s) (16384 - w.names) = same_leb (length (d.names ++ s)) 16384 (length s) (16384 - w.names) (λ l. omega arith) (λ l. omega (arith, f.names)) in
          let z : leb (file_len w + 8 + length s) (length buf) ≡ leb 8 (length buf - file_len w) && leb (length s) (length buf - file_len w - 8) = room (file_len w) (length buf) (length s) f.room in
          rw (nodes-count w buf f, x, y, m, size_entry w buf f s e, z)
        where
          room : (p n k : ℕ) → p ≤ n → leb (p + 8 + k) n ≡ leb 8 (n - p) && leb k (n - p - 8)
          room p n k h = go (leb 8 (n - p)) refl
            where
              go : (b : Bool) → leb 8 (n - p) ≡ b → leb (p + 8 + k) n ≡ b && leb k (n - p - 8)
              go true e = let l : 8 ≤ n - p = leb-true 8 (n - p) e in same_leb (p + 8 + k) n k (n - p - 8) (λ q. omega arith) (λ q. omega arith)
              go false e = let l : n - p < 8 = leb-false 8 (n - p) e in lt-leb (p + 8 + k) n (omega arith)
