-- Bytes moved down and zeros stored, one at a time; a close in its two stores; the file's parts gathered.
use mathlib.Core.Path.{◌≡◌, refl, sym, ap, ◌∙◌}
use mathlib.Core.List.{[], ◌∷◌, ◌++◌, append_assoc, append-nil}
use Prim.Native.Nat.{ℕ, suc, ◌+◌, ◌-◌, ◌≤◌, ◌<◌, min}
use mathlib.Core.Bool.{Bool, true, false}
use native.Mathlib.Nat.{min-eq_left, min-eq_right, min-le_left}
use native.Mathlib.Omega.{arith}
use lib.ListN.{length, get_or, set, take, drop, replicate, length-append, length-drop, length-replicate, take-append-drop, drop_of_length-le}
use lib.Seq.{paste, drop-cons, set_at, drop-drop, take_at, drop-append-le, get_or-drop, get_or-append-add, length-take-le}
use lib.Dec.{leb}
use borrow.Author.Tests.{leb-true, leb-false}
use Rattle.parts.specs.Bytes.{Bytes, part}
use Rattle.std.specs.Prelude.{reverse}
use Rattle.tape.specs.declared.Node.{Node}
use Rattle.admit.specs.Encode.{four}
use Rattle.layout.specs.declared.Writer.{Writer}
use Rattle.tape.specs.declared.Entry.{Entry}
use Rattle.layout.specs.Bytes.{over, entry_bytes}
use Rattle.layout.specs.Layout.{Held, Fits, file_len, tail_len, nodes_at, held_in, head_of, free_of, laid, link_at, behind_of}
use Rattle.layout.specs.Steps.{push, enter, link}
use Rattle.layout.proofs.Laid.{part_length, over-mid, part-past, part_front, Counts, counts, split, free-length, head_length, source-length, nodes-length, entries-length, names-length, head_read, held_read, free_read}
use Rattle.layout.proofs.Turn.{length_rev}

-- ---- one byte more of a run

pub over-more : (b p : Bytes) (at x : ℕ) {k : ℕ} → k ≡ length p → at + k < length b → set (over b at p) (at + k) x ≡ over b at (p ++ (x ∷ []))
unfolding over
over-more b p at x {k} e h =
    let l : length (take at b ++ p) ≡ at + k = length-append (take at b) p ∙ omega (arith, length-take-le at b (omega arith)) in
    let n : at + length (p ++ (x ∷ [])) ≡ suc (at + k) = ap (λ (m : ℕ). at + m) (length-append p (x ∷ [])) ∙ omega arith in
    let d : drop (at + length p) b ≡ get_or b (at + k) 0 ∷ drop (suc (at + k)) b = ap (λ (m : ℕ). drop (at + m) b) (sym e) ∙ drop-cons b (at + k) 0 h in
    ap (λ (s : Bytes). set (take at b ++ (p ++ s)) (at + k) x) d
    ∙ ap (λ (s : Bytes). set s (at + k) x) (sym (append_assoc (take at b) p (get_or b (at + k) 0 ∷ drop (suc (at + k)) b)))
    ∙ set_at (take at b ++ p) (get_or b (at + k) 0) (drop (suc (at + k)) b) x (at + k) l
    ∙ regroup (take at b) p x (drop (suc (at + k)) b)
    ∙ ap (λ (m : ℕ). take at b ++ ((p ++ (x ∷ [])) ++ drop m b)) (sym n)
  where
    regroup : (a p : Bytes) (x : ℕ) (z : Bytes) → (a ++ p) ++ (x ∷ z) ≡ a ++ ((p ++ (x ∷ [])) ++ z)
    regroup a p x z = simp append_assoc

-- so many zeros
abbrev zeros : ℕ → Bytes
zeros k = replicate k 0

length-zeros : (k : ℕ) → length (zeros k) ≡ k
length-zeros k = length-replicate {A = ℕ} k 0

-- what stands behind a run is as it was
pub over-past : (b p : Bytes) (at i : ℕ) → at + length p ≤ i → at + length p ≤ length b → get_or (over b at p) i 0 ≡ get_or b i 0
unfolding over
over-past b p at i h l =
    let j : ℕ = i - (at + length p) in
    let n : length (take at b ++ p) ≡ at + length p = length-append (take at b) p ∙ omega (arith, length-take-le at b (omega arith)) in
    ap (λ (s : Bytes). get_or s i 0) (sym (append_assoc (take at b) p (drop (at + length p) b)))
    ∙ ap (λ (k : ℕ). get_or ((take at b ++ p) ++ drop (at + length p) b) k 0) (omega arith)
    ∙ get_or-append-add (take at b ++ p) (drop (at + length p) b) j 0
    ∙ get_or-drop (at + length p) b j 0
    ∙ ap (λ (k : ℕ). get_or b k 0) (omega arith)

-- a part of a list is given back as a run over it
pub put_over : (s x : Bytes) (a k : ℕ) → length x ≡ k → take a s ++ (x ++ drop k (drop a s)) ≡ over s a x
unfolding over
put_over s x a k e = rw (drop-drop k a s, e) refl

-- what `fill` leaves
pub blanked : (s : Bytes) (from : ℕ) {x : Bytes} → from ≤ length s → x ≡ zeros (length (take (length s - from) (drop from s)))
    → take from s ++ (x ++ drop (length s - from) (drop from s)) ≡ over s from (zeros (length s - from))
blanked s from {x} h e =
    let k : ℕ = length s - from in
    let n : length (take k (drop from s)) ≡ k = length-take-le k (drop from s) (omega (arith, length-drop from s)) in
    let z : x ≡ zeros k = e ∙ ap zeros n in
    rw z (put_over s (zeros k) from k (length-zeros k))

-- what `copy_within` leaves
pub slid : (b : Bytes) (from to len : ℕ) {now : Bytes} → from + len ≤ length b → now ≡ paste b to (drop from b) (from + len - from) → now ≡ over b to (part b from len)
unfolding over
slid b from to len h e =
    let n : from + len - from ≡ len = omega arith in
    e ∙ ap (paste b to (drop from b)) n ∙ rw (part_length b from len h) (append_assoc (take to b) (part b from len) (drop (to + len) b))

pub length_over : (xs s : Bytes) (at : ℕ) → at + length s ≤ length xs → length (over xs at s) ≡ length xs
unfolding over
length_over xs s at h = simp (length-append, length-drop) (omega (arith, length-take-le at xs (omega arith)))

-- ---- a close: the link, then the node

module _ (w : Writer) (buf : Bytes) (f : Fits w (length buf)) (pos : 0 < w.inner) where
  pub linked_counts : Counts w (link (held_in w buf) w.inner (w.nodes + 1))
  unfolding link
  linked_counts =
      let k : Counts w (held_in w buf) = counts w buf f in
      let below : w.inner ≤ w.nodes = f.inner in
      record {
        entries = k.entries;
        names = k.names;
        source = k.source;
        nodes = length_over (held_in w buf).nodes (four (w.nodes + 1)) (link_at w.inner) (omega (arith, k.nodes)) ∙ k.nodes;
      }

  pub shut_laid : (n : Node) {b last : Bytes} → b ≡ laid (head_of buf) (link (held_in w buf) w.inner (w.nodes + 1)) (free_of w buf)
      → last ≡ laid (head_of b) (push (held_in w b) n) (take (length (free_of w b) - 16) (free_of w b))
      → last ≡ laid (head_of buf) (push (link (held_in w buf) w.inner (w.nodes + 1)) n) (take (length (free_of w buf) - 16) (free_of w buf))
  shut_laid n {b} {last} eb el =
      let h : length (head_of buf) ≡ 52 = head_length w buf f in
      let d : Held = link (held_in w buf) w.inner (w.nodes + 1) in
      let eh : head_of b ≡ head_of buf = ap head_of eb ∙ head_read w (head_of buf) d (free_of w buf) h linked_counts in
      let ed : held_in w b ≡ d = ap (held_in w) eb ∙ held_read w (head_of buf) d (free_of w buf) h linked_counts in
      let ef : free_of w b ≡ free_of w buf = ap (free_of w) eb ∙ free_read w (head_of buf) d (free_of w buf) h linked_counts in
      el ∙ (λ i. laid (eh i) (push (ed i) n) (take (length (ef i) - 16) (ef i)))

-- an entry whose bytes were made
pub enrolled : (w : Writer) (buf name : Bytes) (e : Entry) {b last : Bytes} → b ≡ entry_bytes e
    → last ≡ laid (head_of buf) (enter (held_in w buf) b name) (take (length (free_of w buf) - (8 + length name)) (free_of w buf))
    → last ≡ laid (head_of buf) (enter (held_in w buf) (entry_bytes e) name) (take (length (free_of w buf) - (8 + length name)) (free_of w buf))
enrolled w buf name e eb el = el ∙ ap (λ (z : Bytes). laid (head_of buf) (enter (held_in w buf) z name) (take (length (free_of w buf) - (8 + length name)) (free_of w buf))) eb

-- ---- the file's parts gathered

-- the end of two neighbours, of which the second is moved over the first, without what zeros replace
rest-free : (f x : Bytes) (k : ℕ) → k ≡ min (length f) (length x) → take (length f - k) (drop (length x) (f ++ x)) ≡ drop (length x) f
rest-free f x k e = go (leb (length x) (length f)) refl
  where
    go : (t : Bool) → leb (length x) (length f) ≡ t → take (length f - k) (drop (length x) (f ++ x)) ≡ drop (length x) f
    go true h =
        let l : length x ≤ length f = leb-true (length x) (length f) h in
        let n : length (drop (length x) f) ≡ length f - k = length-drop (length x) f ∙ omega (arith, min-eq_right l) in
        ap (take (length f - k)) (drop-append-le (length x) f x l) ∙ take_at (drop (length x) f) x (length f - k) n
    go false h =
        let l : length f < length x = leb-false (length x) (length f) h in
        let le : length f ≤ length x = omega arith in
        let n : length f - k ≡ 0 = omega (arith, min-eq_left le) in
        rw n (sym (drop_of_length-le f {i = length x} (omega arith)))

pub gathered : (w : Writer) (buf : Bytes) {b last : Bytes} {left : ℕ} → Fits w (length buf) → left ≡ min (nodes_at w (length buf) - (52 + w.source)) (tail_len w)
    → b ≡ over buf (52 + w.source) (part buf (nodes_at w (length buf)) (tail_len w)) → last ≡ over b (length buf - left) (zeros (length b - (length buf - left)))
    → last ≡ laid (head_of buf) (held_in w buf) [] ++ behind_of w (free_of w buf)
unfolding laid behind_of
gathered w buf {b} {last} {left} fit el eb e =
    let h : Held = held_in w buf in
    let f : Bytes = free_of w buf in
    let x : Bytes = reverse h.nodes ++ (h.entries ++ h.names) in
    let a : Bytes = head_of buf ++ h.source in
    let room : file_len w ≤ length buf = fit.room in
    let fl : length f ≡ length buf - file_len w = free-length w buf fit in
    let al : length a ≡ 52 + w.source = length-append (head_of buf) h.source ∙ omega (arith, head_length w buf fit, source-length w buf fit) in
    let xl : length x ≡ tail_len w =
    simp length-append (omega (arith, length_rev h.nodes, nodes-length w buf fit, entries-length w buf fit, names-length w buf fit)) in
    let whole : buf ≡ a ++ (f ++ x) = split w buf fit ∙ unlaid (head_of buf) h.source f (reverse h.nodes) (h.entries ++ h.names) in
    let px : part buf (nodes_at w (length buf)) (tail_len w) ≡ x =
    ap (λ (s : Bytes). part s (nodes_at w (length buf)) (tail_len w)) whole
    ∙ part-past a (f ++ x) (nodes_at w (length buf)) (length f) (tail_len w) (omega arith)
    ∙ part-past f x (length f) 0 (tail_len w) (omega arith)
    ∙ ap (λ (s : Bytes). part s 0 (tail_len w)) (sym (append-nil x)) ∙ part_front x [] (tail_len w) xl in
    let d : Bytes = drop (length x) (f ++ x) in
    let dl : length d ≡ length f = length-drop (length x) (f ++ x) ∙ omega (arith, length-append f x) in
    let moved : b ≡ a ++ (x ++ d) =
    eb ∙ (λ i. over (whole i) (52 + w.source) (px i)) ∙ ap (λ (s : Bytes). over (a ++ s) (52 + w.source) x) (sym (take-append-drop (length x) (f ++ x)))
    ∙ over-mid a (take (length x) (f ++ x)) d x al (length-take-le (length x) (f ++ x) (omega (arith, length-append f x))) in
    let bl : length b ≡ length buf = ap length moved ∙ three a x d ∙ omega arith in
    let k : left ≡ min (length f) (length x) = el ∙ (λ i. min (same i) (sym xl i)) in
    let kl : left ≤ length f = fewer left (length f) (length x) k in
    let y : Bytes = take (length f - left) d in
    let z : Bytes = drop (length f - left) d in
    let yl : length y ≡ length f - left = length-take-le (length f - left) d (within (length f) left (length d) dl) in
    let zl : length z ≡ left = length-drop (length f - left) d ∙ back (length f) left (length d) dl kl in
    let zn : length b - (length buf - left) ≡ left = back (length buf) left (length b) bl (more (length f) left (length buf) (file_len w) fl kl) in
    let pl : length (a ++ (x ++ y)) ≡ length buf - left = three a x y ∙ (λ i. al i + (xl i + yl i)) ∙ places (length buf) (52 + w.source) (tail_len w) (length f) left fl room kl in
    e ∙ ap (λ (n : ℕ). over b (length buf - left) (zeros n)) zn
    ∙ ap (λ (s : Bytes). over s (length buf - left) (zeros left)) (moved ∙ ap (λ (s : Bytes). a ++ (x ++ s)) (sym (take-append-drop (length f - left) d)) ∙ group a x y z)
    ∙ over-mid (a ++ (x ++ y)) z [] (zeros left) pl (zl ∙ sym (length-zeros left))
    ∙ ap (λ (s : Bytes). (a ++ (x ++ s)) ++ (zeros left ++ [])) (rest-free f x left k ∙ ap (λ (n : ℕ). drop n f) xl)
    ∙ ap (λ (n : ℕ). (a ++ (x ++ drop (tail_len w) f)) ++ (zeros n ++ [])) (k ∙ ap (min (length f)) xl)
    ∙ relaid (head_of buf) h.source (reverse h.nodes) (h.entries ++ h.names) (drop (tail_len w) f) (zeros (min (length f) (tail_len w)))
  where
    same : nodes_at w (length buf) - (52 + w.source) ≡ length (free_of w buf)
    same = omega (arith, free-length w buf fit, fit.room)

    three : (a x y : Bytes) → length (a ++ (x ++ y)) ≡ length a + (length x + length y)
    three a x y = simp length-append

    places : (n p t f k : ℕ) → f ≡ n - (p + t) → p + t ≤ n → k ≤ f → p + (t + (f - k)) ≡ n - k
    places n p t f k e h l = omega arith

    fewer : (k a b : ℕ) → k ≡ min a b → k ≤ a
    fewer k a b e = omega (arith, min-le_left a b)

    within : (f k n : ℕ) → n ≡ f → f - k ≤ n
    within f k n e = omega arith

    back : (n k m : ℕ) → m ≡ n → k ≤ n → m - (n - k) ≡ k
    back n k m e h = omega arith

    more : (f k n s : ℕ) → f ≡ n - s → k ≤ f → k ≤ n
    more f k n s e h = omega arith

    unlaid : (h s f n t : Bytes) → h ++ (s ++ (f ++ (n ++ t))) ≡ (h ++ s) ++ (f ++ (n ++ t))
    unlaid h s f n t = simp append_assoc

    group : (a x y z : Bytes) → a ++ (x ++ (y ++ z)) ≡ (a ++ (x ++ y)) ++ (z ++ [])
    group a x y z = simp (append_assoc, append-nil)

    relaid : (h s n t y z : Bytes) → ((h ++ s) ++ ((n ++ t) ++ y)) ++ (z ++ []) ≡ (h ++ (s ++ ([] ++ (n ++ t)))) ++ (y ++ z)
    relaid h s n t y z = simp (append_assoc, append-nil)
