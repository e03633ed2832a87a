-- The link of the innermost open container: read and set among nodes that are turned around.
use mathlib.Core.Path.{◌≡◌, refl, sym, ap, ◌∙◌}
use mathlib.Core.List.{[], ◌∷◌, ◌++◌, append_assoc, reverse-cons}
use Prim.Native.Nat.{ℕ, zero, suc, ◌+◌, ◌-◌, ◌*◌, ◌≤◌, ◌<◌}
use native.Mathlib.Omega.{arith}
use lib.ListN.{length, get_or, take, drop, length-append, length-drop, take-append-drop, get_or-append}
use lib.Seq.{drop-drop, take-append-le, drop-append-le, take-append-add, drop-append-add, get_or_at, get_or-take, get_or-drop}
use Rattle.parts.specs.Bytes.{Bytes, part}
use Rattle.std.specs.Prelude.{reverse}
use Rattle.std.proofs.lemmas.List.{reverse-append, reverse-reverse}
use Rattle.tape.specs.File.{le16, le32}
use Rattle.layout.specs.declared.Writer.{Writer}
use Rattle.admit.specs.Encode.{four}
use Rattle.layout.specs.Bytes.{over}
use Rattle.layout.specs.Layout.{Held, Fits, file_len, nodes_at, entries_at, held_in, head_of, free_of, laid, link_at}
use Rattle.layout.specs.Steps.{link, outer}
use Rattle.layout.proofs.Laid.{cut, part_length, over-mid, split, free-length, source-length, head_length, nodes-length}
use Rattle.layout.proofs.Turn.{length_rev}

-- ---- storing

-- a run over the inside of the middle of three parts
pub over-inside : (p q z s : Bytes) (i k : ℕ) → length p + k ≡ i → k + length s ≤ length q → over (p ++ (q ++ z)) i s ≡ p ++ (over q k s ++ z)
unfolding over
over-inside p q z s i k e h =
    let a : take i (p ++ (q ++ z)) ≡ p ++ take k q = rw (← e, take-append-add p (q ++ z) k) (ap (λ (l : Bytes). p ++ l) (take-append-le k q z (omega arith))) in
    let i' : i + length s ≡ length p + (k + length s) = omega arith in
    let b : drop (i + length s) (p ++ (q ++ z)) ≡ drop (k + length s) q ++ z = rw (i', drop-append-add p (q ++ z) (k + length s)) (drop-append-le (k + length s) q z h) in
    rw (a, b) (simp append_assoc)

over_is : (xs : Bytes) (j : ℕ) (ys : Bytes) → take j xs ++ (ys ++ drop (j + length ys) xs) ≡ over xs j ys
unfolding over
over_is xs j ys = refl

-- a run over a list that is turned around
pub over_rev : (xs ys : Bytes) (k j : ℕ) → j + length ys + k ≡ length xs → over (reverse xs) k (reverse ys) ≡ reverse (over xs j ys)
over_rev xs ys k j e =
    let a : Bytes = take j xs in
    let b : Bytes = part xs j (length ys) in
    let c : Bytes = drop (j + length ys) xs in
    let parts : xs ≡ a ++ (b ++ c) = sym (take-append-drop j xs) ∙ ap (λ (l : Bytes). a ++ l) (cut xs j (length ys) refl) in
    let lb : length b ≡ length ys = part_length xs j (length ys) (omega arith) in
    let lc : length (reverse c) ≡ k = length_rev c ∙ length-drop (j + length ys) xs ∙ omega arith in
    let turn : (q : Bytes) → reverse (a ++ (q ++ c)) ≡ reverse c ++ (reverse q ++ reverse a) =
    λ q. reverse-append a (q ++ c) ∙ ap (λ (l : Bytes). l ++ reverse a) (reverse-append q c) ∙ append_assoc (reverse c) (reverse q) (reverse a) in
    ap (λ (l : Bytes). over l k (reverse ys)) (ap reverse parts ∙ turn b)
    ∙ over-mid (reverse c) (reverse b) (reverse a) (reverse ys) lc (length_rev b ∙ lb ∙ sym (length_rev ys))
    ∙ sym (turn ys) ∙ ap reverse (over_is xs j ys)

-- the link of the innermost open container set
pub link-laid : (w : Writer) (buf : Bytes) (to : ℕ) {p : ℕ} {run last : Bytes} → Fits w (length buf) → 0 < w.inner → run ≡ reverse (four to) → p ≡ entries_at w (length buf) - (link_at w.inner + 4)
    → last ≡ over buf p run → last ≡ laid (head_of buf) (link (held_in w buf) w.inner to) (free_of w buf)
unfolding laid link held_in
link-laid w buf to {p} {run} {last} f pos er ep el =
    let d : Held = held_in w buf in
    let z : Bytes = free_of w buf in
    let r : file_len w ≤ length buf = f.room in
    let below : w.inner ≤ w.nodes = f.inner in
    let fl : length z ≡ length buf - file_len w = free-length w buf f in
    let sl : length d.source ≡ w.source = source-length w buf f in
    let hl : length (head_of buf) ≡ 52 = head_length w buf f in
    let nl : length d.nodes ≡ 16 * w.nodes = nodes-length w buf f in
    let rl : length (reverse d.nodes) ≡ length d.nodes = length_rev d.nodes in
    let k : ℕ = 16 * w.nodes - (link_at w.inner + 4) in
    let q : Bytes = head_of buf ++ (d.source ++ z) in
    let ql : length q + k ≡ p = ap (λ (n : ℕ). n + k) (length-append (head_of buf) (d.source ++ z) ∙ ap (λ (n : ℕ). length (head_of buf) + n) (length-append d.source z)) ∙ omega arith in
    let run4 : length (reverse (four to)) ≡ 4 = length_rev (four to) in
    el ∙ ap (λ (s : Bytes). over buf p s) er
    ∙ ap (λ (s : Bytes). over s p (reverse (four to))) (split w buf f ∙ regroup (head_of buf) d.source z (reverse d.nodes) (d.entries ++ d.names))
    ∙ over-inside q (reverse d.nodes) (d.entries ++ d.names) (reverse (four to)) p k ql (omega arith)
    ∙ ap (λ (s : Bytes). q ++ (s ++ (d.entries ++ d.names))) (over_rev d.nodes (four to) k (link_at w.inner) (omega arith))
    ∙ sym (regroup (head_of buf) d.source z (reverse (over d.nodes (link_at w.inner) (four to))) (d.entries ++ d.names))
  where
    regroup : (h s x n t : Bytes) → h ++ (s ++ (x ++ (n ++ t))) ≡ (h ++ (s ++ x)) ++ (n ++ t)
    regroup h s x n t = simp append_assoc

-- ---- reading

pub get_d_rev : (xs : Bytes) (i j : ℕ) → i + suc j ≡ length xs → get_or (reverse xs) i 0 ≡ get_or xs j 0
get_d_rev [] i j e = absurd (omega arith)
get_d_rev (x ∷ xs) i zero e =
    ap (λ (l : Bytes). get_or l i 0) (reverse-cons x xs) ∙ get_or_at (reverse xs) x [] 0 i (length_rev xs ∙ omega arith)
get_d_rev (x ∷ xs) i (suc j) e =
    ap (λ (l : Bytes). get_or l i 0) (reverse-cons x xs) ∙ get_or-append (reverse xs) (x ∷ []) 0 i (omega (arith, length_rev xs)) ∙ get_d_rev xs i j (omega arith)

pub le32_at : (s : Bytes) (k : ℕ) → get_or s k 0 + 256 * get_or s (k + 1) 0 + 65536 * (get_or s (k + 2) 0 + 256 * get_or s (k + 3) 0) ≡ le32 (drop k s)
unfolding le32 le16
le32_at s k =
    let two : drop 2 (drop k s) ≡ drop (k + 2) s = drop-drop 2 k s in
    let low : get_or s (k + 0) 0 ≡ get_or s k 0 = ap (λ (i : ℕ). get_or s i 0) (omega arith) in
    let high : get_or s (k + 2 + 0) 0 ≡ get_or s (k + 2) 0 = ap (λ (i : ℕ). get_or s i 0) (omega arith) in
    let last : get_or s (k + 2 + 1) 0 ≡ get_or s (k + 3) 0 = ap (λ (i : ℕ). get_or s i 0) (omega arith) in
    rw (two, get_or-drop k s 0 0, get_or-drop k s 1 0, get_or-drop (k + 2) s 0 0, get_or-drop (k + 2) s 1 0, low, high, last)

-- byte j of the nodes, in the buffer
pub node_byte : (w : Writer) (buf : Bytes) (i j : ℕ) → Fits w (length buf) → j < 16 * w.nodes → i + suc j ≡ entries_at w (length buf) → get_or buf i 0 ≡ get_or (held_in w buf).nodes j 0
unfolding held_in
node_byte w buf i j f h e =
    let r : file_len w ≤ length buf = f.room in
    let n : ℕ = 16 * w.nodes in
    let a : ℕ = nodes_at w (length buf) in
    let at : a + (n - suc j) ≡ i = omega arith in
    let pl : length (part buf a n) ≡ n = part_length buf a n (omega arith) in
    ap (λ (k : ℕ). get_or buf k 0) (sym at) ∙ sym (get_or-drop a buf (n - suc j) 0) ∙ sym (get_or-take n (drop a buf) (n - suc j) 0 (omega arith))
    ∙ ap (λ (l : Bytes). get_or l (n - suc j) 0) (sym (reverse-reverse (part buf a n)))
    ∙ get_d_rev (reverse (part buf a n)) (n - suc j) j (omega (arith, length_rev (part buf a n)))

pub outer_made : (w : Writer) (buf : Bytes) {p r : ℕ} → Fits w (length buf) → 0 < w.inner → p ≡ entries_at w (length buf) - (link_at w.inner + 4)
    → r ≡ get_or buf p 0 * 16777216 + get_or buf (p + 1) 0 * 65536 + get_or buf (p + 2) 0 * 256 + get_or buf (p + 3) 0 → r ≡ outer (held_in w buf) w.inner
unfolding outer held_in
outer_made w buf {p} {r} f pos ep er =
    let d : Held = held_in w buf in
    let r : file_len w ≤ length buf = f.room in
    let below : w.inner ≤ w.nodes = f.inner in
    let k : ℕ = link_at w.inner in
    let a : get_or buf (p + 3) 0 ≡ get_or d.nodes k 0 = node_byte w buf (p + 3) k f (omega arith) (omega arith) in
    let b : get_or buf (p + 2) 0 ≡ get_or d.nodes (k + 1) 0 = node_byte w buf (p + 2) (k + 1) f (omega arith) (omega arith) in
    let c : get_or buf (p + 1) 0 ≡ get_or d.nodes (k + 2) 0 = node_byte w buf (p + 1) (k + 2) f (omega arith) (omega arith) in
    let e : get_or buf p 0 ≡ get_or d.nodes (k + 3) 0 = node_byte w buf p (k + 3) f (omega arith) (omega arith) in
    omega (arith, er, a, b, c, e, le32_at d.nodes k)
