-- Where what is held stands in a buffer: cutting a buffer into its parts, and reading the parts back.
use mathlib.Core.Path.{◌≡◌, refl, sym, ap, ◌∙◌}
use mathlib.Core.List.{[], ◌++◌, append_assoc, append-nil}
use Prim.Native.Nat.{ℕ, ◌+◌, ◌-◌, ◌*◌, ◌≤◌}
use native.Mathlib.Omega.{arith}
use lib.ListN.{length, take, drop, length-append, length-drop, take-append-drop, length-reverse, drop_of_length-le}
use lib.Seq.{take_at, drop_at, drop-drop, drop-append-add, length-take-le, take_all, take-length}
use Rattle.parts.specs.Bytes.{Bytes, part}
use Rattle.std.specs.Prelude.{reverse}
use Rattle.std.proofs.lemmas.List.{reverse-append, reverse-reverse}
use Rattle.layout.specs.declared.Writer.{Writer}
use Rattle.tape.specs.declared.Node.{Node}
use Rattle.layout.specs.Bytes.{over, node_bytes_of}
use Rattle.layout.specs.Layout.{Held, Fits, file_len, nodes_at, entries_at, names_at, held_in, head_of, free_of, laid}
use Rattle.layout.specs.Steps.{push, pour}

-- ---- parts of a list

-- what stands from a place on is a part and the rest
pub cut : (s : Bytes) (i n : ℕ) {j : ℕ} → i + n ≡ j → drop i s ≡ part s i n ++ drop j s
cut s i n {j} e = sym (take-append-drop n (drop i s)) ∙ rw (drop-drop n i s, e)

pub part_length : (s : Bytes) (i n : ℕ) → i + n ≤ length s → length (part s i n) ≡ n
part_length s i n h = length-take-le n (drop i s) (omega (arith, length-drop i s))

-- a part behind a prefix, and one in front
pub part-past : (p r : Bytes) (i j n : ℕ) → length p + j ≡ i → part (p ++ r) i n ≡ part r j n
part-past p r i j n e = rw (← e, drop-append-add p r j)

pub part_front : (q z : Bytes) (n : ℕ) → length q ≡ n → part (q ++ z) 0 n ≡ q
part_front q z n e = take_at q z n e

-- a run over the middle of three parts
pub over-mid : (p q z s : Bytes) {i : ℕ} → length p ≡ i → length q ≡ length s → over (p ++ (q ++ z)) i s ≡ p ++ (s ++ z)
unfolding over
over-mid p q z s {i} e l =
    let rest : drop (i + length s) (p ++ (q ++ z)) ≡ z =
    rw (← e, ← l, drop-append-add p (q ++ z) (length q)) (drop_at q z (length q) refl) in
    rw (take_at p (q ++ z) i e, rest)

-- the same where the run goes over the end of the third part
over_third : (h s x y r b : Bytes) {at : ℕ} → length h + length s + length x ≡ at → length y ≡ length b
    → over (h ++ (s ++ ((x ++ y) ++ r))) at b ≡ h ++ (s ++ (x ++ (b ++ r)))
over_third h s x y r b {at} e l =
    let w : h ++ (s ++ ((x ++ y) ++ r)) ≡ (h ++ (s ++ x)) ++ (y ++ r) = simp append_assoc in
    let long : length (h ++ (s ++ x)) ≡ at = simp length-append (omega arith) in
    ap (λ (z : Bytes). over z at b) w ∙ over-mid (h ++ (s ++ x)) y r b long l ∙ simp append_assoc

-- a part of a list, given back with a run copied over its front
pub copied : (buf run : Bytes) (at : ℕ) {last : Bytes} → at + length run ≤ length buf
    → last ≡ take (length run) run ++ drop (length run) (take (length buf - at) (drop at buf))
    → take at buf ++ (last ++ drop (length buf - at) (drop at buf)) ≡ over buf at run
unfolding over
copied buf run at {last} h e =
    let all : take (length buf - at) (drop at buf) ≡ drop at buf = take_all (length buf - at) (drop at buf) (omega (arith, length-drop at buf)) in
    let none : drop (length buf - at) (drop at buf) ≡ [] = drop_of_length-le (drop at buf) {i = length buf - at} (omega (arith, length-drop at buf)) in
    rw (none, append-nil, e, all, take-length run, drop-drop (length run) at buf)

-- ---- the parts of a buffer

-- the counts of a state are those of what is held
pub record Counts (w : Writer) (h : Held) : Type 0 where
  pub entries : length h.entries ≡ 8 * w.entries
  pub names : length h.names ≡ w.names
  pub source : length h.source ≡ w.source
  pub nodes : length h.nodes ≡ 16 * w.nodes

module _ (w : Writer) (buf : Bytes) (f : Fits w (length buf)) where
  pub free-length : length (free_of w buf) ≡ length buf - file_len w
  unfolding free_of
  free-length = part_length buf (52 + w.source) (length buf - file_len w) (omega (arith, f.room))

  -- a buffer is what it holds, laid out
  pub split : buf ≡ laid (head_of buf) (held_in w buf) (free_of w buf)
  unfolding laid held_in free_of
  split =
      let n : ℕ = length buf in
      let r : file_len w ≤ n = f.room in
      let e₁ : drop 52 buf ≡ part buf 52 w.source ++ drop (52 + w.source) buf = cut buf 52 w.source refl in
      let e₂ : drop (52 + w.source) buf ≡ part buf (52 + w.source) (n - file_len w) ++ drop (nodes_at w n) buf = cut buf (52 + w.source) (n - file_len w) {j = nodes_at w n} (omega arith) in
      let e₃ : drop (nodes_at w n) buf ≡ part buf (nodes_at w n) (16 * w.nodes) ++ drop (entries_at w n) buf = cut buf (nodes_at w n) (16 * w.nodes) {j = entries_at w n} (omega arith) in
      let e₄ : drop (entries_at w n) buf ≡ part buf (entries_at w n) (8 * w.entries) ++ drop (names_at w n) buf = cut buf (entries_at w n) (8 * w.entries) {j = names_at w n} (omega arith) in
      let t : reverse (reverse (part buf (nodes_at w n) (16 * w.nodes))) ≡ part buf (nodes_at w n) (16 * w.nodes) = reverse-reverse (part buf (nodes_at w n) (16 * w.nodes)) in
      sym (take-append-drop 52 buf) ∙ ap (λ (z : Bytes). take 52 buf ++ z) (e₁ ∙ ap (λ (z : Bytes). part buf 52 w.source ++ z)
      (e₂ ∙ ap (λ (z : Bytes). part buf (52 + w.source) (n - file_len w) ++ z)
      (e₃ ∙ (λ i. sym t i ++ e₄ i))))

  pub source-length : length (held_in w buf).source ≡ w.source
  unfolding held_in
  source-length = part_length buf 52 w.source (omega (arith, f.room))

  pub head_length : length (head_of buf) ≡ 52
  head_length = length-take-le 52 buf (omega (arith, f.room))

  pub names-length : length (held_in w buf).names ≡ w.names
  unfolding held_in
  names-length = length-drop (names_at w (length buf)) buf ∙ omega (arith, f.room)

  pub entries-length : length (held_in w buf).entries ≡ 8 * w.entries
  unfolding held_in
  entries-length = part_length buf (entries_at w (length buf)) (8 * w.entries) (omega (arith, f.room))

  pub nodes-length : length (held_in w buf).nodes ≡ 16 * w.nodes
  unfolding held_in
  nodes-length = length-reverse (part buf (nodes_at w (length buf)) (16 * w.nodes)) ∙ part_length buf (nodes_at w (length buf)) (16 * w.nodes) (omega (arith, f.room))

  pub counts : Counts w (held_in w buf)
  counts = record { entries = entries-length; names = names-length; source = source-length; nodes = nodes-length }

  -- a node laid in front of the nodes
  pub push-laid : (n : Node) {run last : Bytes} {at at' : ℕ} → file_len w + 16 ≤ length buf → length run ≡ 16 → at ≡ nodes_at w (length buf) → at' ≡ at - 16 → run ≡ reverse (node_bytes_of n) → last ≡ over buf at' run
      → last ≡ laid (head_of buf) (push (held_in w buf) n) (take (length (free_of w buf) - 16) (free_of w buf))
  unfolding laid push
  push-laid n {run} {last} {at} {at'} room long ea ea' er el =
      let d : Held = held_in w buf in
      let z : Bytes = free_of w buf in
      let k : ℕ = length z - 16 in
      let fl : length z ≡ length buf - file_len w = free-length in
      let sl : length d.source ≡ w.source = source-length in
      let hl : length (head_of buf) ≡ 52 = head_length in
      let xl : length (take k z) ≡ k = length-take-le k z (omega arith) in
      let yl : length (drop k z) ≡ length run = length-drop k z ∙ omega arith in
      let place : length (head_of buf) + length d.source + length (take k z) ≡ at' = omega (arith, f.room) in
      let turn : run ++ (reverse d.nodes ++ (d.entries ++ d.names)) ≡ reverse (d.nodes ++ node_bytes_of n) ++ (d.entries ++ d.names) =
      rw (er, reverse-append d.nodes (node_bytes_of n), append_assoc) in
      el ∙ ap (λ (l : Bytes). over l at' run) (split ∙ ap (λ (y : Bytes). head_of buf ++ (d.source ++ (y ++ (reverse d.nodes ++ (d.entries ++ d.names))))) (sym (take-append-drop k z)))
      ∙ over_third (head_of buf) d.source (take k z) (drop k z) (reverse d.nodes ++ (d.entries ++ d.names)) run place yl
      ∙ ap (λ (y : Bytes). head_of buf ++ (d.source ++ (take k z ++ y))) turn

  -- a piece laid behind the source
  pub pour-laid : (piece : Bytes) {last : Bytes} → file_len w + length piece ≤ length buf → last ≡ over buf (52 + w.source) piece
      → last ≡ laid (head_of buf) (pour (held_in w buf) piece) (drop (length piece) (free_of w buf))
  unfolding laid pour
  pour-laid piece {last} room el =
      let d : Held = held_in w buf in
      let z : Bytes = free_of w buf in
      let k : ℕ = length piece in
      let fl : length z ≡ length buf - file_len w = free-length in
      let sl : length d.source ≡ w.source = source-length in
      let hl : length (head_of buf) ≡ 52 = head_length in
      let xl : length (take k z) ≡ k = length-take-le k z (omega arith) in
      let r : Bytes = reverse d.nodes ++ (d.entries ++ d.names) in
      let place : length (head_of buf ++ d.source) ≡ 52 + w.source = length-append (head_of buf) d.source ∙ omega arith in
      let ww : head_of buf ++ (d.source ++ ((take k z ++ drop k z) ++ r)) ≡ (head_of buf ++ d.source) ++ (take k z ++ (drop k z ++ r)) = simp append_assoc in
      el ∙ ap (λ (l : Bytes). over l (52 + w.source) piece) (split ∙ ap (λ (y : Bytes). head_of buf ++ (d.source ++ (y ++ r))) (sym (take-append-drop k z)) ∙ ww)
      ∙ over-mid (head_of buf ++ d.source) (take k z) (drop k z ++ r) piece place xl
      ∙ simp append_assoc

-- ---- reading it back

module _ (w : Writer) (head : Bytes) (d : Held) (free : Bytes) (hl : length head ≡ 52) (n : Counts w d) where
  pub laid-length : length (laid head d free) ≡ file_len w + length free
  unfolding laid
  laid-length = simp (length-append, length-reverse) (omega (arith, n.entries, n.names, n.source, n.nodes))

  pub head_read : head_of (laid head d free) ≡ head
  unfolding laid
  head_read = take_at head (d.source ++ (free ++ (reverse d.nodes ++ (d.entries ++ d.names)))) 52 hl

  source_read : part (laid head d free) 52 w.source ≡ d.source
  unfolding laid
  source_read =
      part-past head (d.source ++ (free ++ (reverse d.nodes ++ (d.entries ++ d.names)))) 52 0 w.source (omega arith)
      ∙ part_front d.source (free ++ (reverse d.nodes ++ (d.entries ++ d.names))) w.source n.source

  -- a part of what stands behind the free bytes
  behind : (i j m : ℕ) → 52 + w.source + length free + j ≡ i → part (laid head d free) i m ≡ part (reverse d.nodes ++ (d.entries ++ d.names)) j m
  unfolding laid
  behind i j m e =
      let sl : length d.source ≡ w.source = n.source in
      part-past head (d.source ++ (free ++ (reverse d.nodes ++ (d.entries ++ d.names)))) i (w.source + (length free + j)) m (omega arith)
      ∙ part-past d.source (free ++ (reverse d.nodes ++ (d.entries ++ d.names))) (w.source + (length free + j)) (length free + j) m (omega arith)
      ∙ part-past free (reverse d.nodes ++ (d.entries ++ d.names)) (length free + j) j m refl

  pub free_read : free_of w (laid head d free) ≡ free
  unfolding laid free_of
  free_read =
      let sl : length d.source ≡ w.source = n.source in
      let all : length (laid head d free) - file_len w ≡ length free = omega (arith, laid-length) in
      part-past head (d.source ++ (free ++ (reverse d.nodes ++ (d.entries ++ d.names)))) (52 + w.source) w.source (length (laid head d free) - file_len w) (omega arith)
      ∙ part-past d.source (free ++ (reverse d.nodes ++ (d.entries ++ d.names))) w.source 0 (length (laid head d free) - file_len w) (omega arith)
      ∙ part_front free (reverse d.nodes ++ (d.entries ++ d.names)) (length (laid head d free) - file_len w) (sym all)

  nodes_read : part (laid head d free) (nodes_at w (length (laid head d free))) (16 * w.nodes) ≡ reverse d.nodes
  nodes_read =
      behind (nodes_at w (length (laid head d free))) 0 (16 * w.nodes) (omega (arith, laid-length))
      ∙ part_front (reverse d.nodes) (d.entries ++ d.names) (16 * w.nodes) (length-reverse d.nodes ∙ n.nodes)

  entries_read : part (laid head d free) (entries_at w (length (laid head d free))) (8 * w.entries) ≡ d.entries
  entries_read =
      let nl : length (reverse d.nodes) ≡ 16 * w.nodes = length-reverse d.nodes ∙ n.nodes in
      behind (entries_at w (length (laid head d free))) (16 * w.nodes) (8 * w.entries) (omega (arith, laid-length))
      ∙ part-past (reverse d.nodes) (d.entries ++ d.names) (16 * w.nodes) 0 (8 * w.entries) (omega arith)
      ∙ part_front d.entries d.names (8 * w.entries) n.entries

  names_read : drop (names_at w (length (laid head d free))) (laid head d free) ≡ d.names
  unfolding laid
  names_read =
      let nl : length (reverse d.nodes) ≡ 16 * w.nodes = length-reverse d.nodes ∙ n.nodes in
      let e : laid head d free ≡ (head ++ (d.source ++ (free ++ (reverse d.nodes ++ d.entries)))) ++ d.names = simp append_assoc in
      let l : length (head ++ (d.source ++ (free ++ (reverse d.nodes ++ d.entries)))) ≡ names_at w (length (laid head d free)) =
      simp length-append (omega (arith, laid-length, n.entries, n.names, n.source)) in
      ap (drop (names_at w (length (laid head d free)))) e ∙ drop_at (head ++ (d.source ++ (free ++ (reverse d.nodes ++ d.entries)))) d.names (names_at w (length (laid head d free))) l

  -- what is laid out is what the buffer holds
  pub held_read : held_in w (laid head d free) ≡ d
  unfolding held_in
  held_read = rw (entries_read, names_read, source_read, nodes_read, reverse-reverse d.nodes)
