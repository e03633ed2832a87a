-- A link set among the bytes of the nodes is the link of that node set; no other field and no other node changes.
use mathlib.Core.Path.{◌≡◌, refl, sym, ap, ◌∙◌}
use mathlib.Core.List.{List, [], ◌∷◌, ◌++◌, append_assoc}
use Prim.Native.Nat.{ℕ, zero, suc, ◌+◌, ◌*◌, ◌≤◌, ◌<◌}
use native.Mathlib.Nat.{mul-suc}
use native.Mathlib.Omega.{arith}
use borrow.Author.Tests.{le-leb}
use lib.ListN.{length, get_or, take, drop, set, length-drop, take-append-drop}
use lib.Seq.{drop-append-add, take-append-add, length-take-le, drop_at}
use Rattle.parts.specs.Bytes.{Bytes}
use Rattle.tape.specs.File.{le16, le32, node_fields_of, node_of, records_of, nowhere}
use Rattle.tape.specs.declared.Node.{Node}
use Rattle.tape.proofs.Laws.{node_local}
use Rattle.admit.specs.Encode.{four}
use Rattle.draft.specs.Draft.{relinked}
use Rattle.layout.specs.Bytes.{over}
use Rattle.layout.proofs.Chain.{over-inside}
use Rattle.layout.proofs.Moved.{length_over}
use Rattle.layout.proofs.Back.{four_back}

-- the link of the first node
fields_relink : (s : Bytes) (to : ℕ) → 8 ≤ length s → node_fields_of (over s 4 (four to)) ≡ relinked (node_fields_of s) to
unfolding over node_fields_of le32 le16
fields_relink [] to l = absurd (omega arith)
fields_relink (a ∷ []) to l = absurd (omega arith)
fields_relink (a ∷ b ∷ []) to l = absurd (omega arith)
fields_relink (a ∷ b ∷ c ∷ []) to l = absurd (omega arith)
fields_relink (a ∷ b ∷ c ∷ d ∷ []) to l = absurd (omega arith)
fields_relink (a ∷ b ∷ c ∷ d ∷ e ∷ []) to l = absurd (omega arith)
fields_relink (a ∷ b ∷ c ∷ d ∷ e ∷ f ∷ []) to l = absurd (omega arith)
fields_relink (a ∷ b ∷ c ∷ d ∷ e ∷ f ∷ g ∷ []) to l = absurd (omega arith)
fields_relink (a ∷ b ∷ c ∷ d ∷ e ∷ f ∷ g ∷ h ∷ s) to l = rw (four_back to)

first-relink : (s : Bytes) (to : ℕ) → 16 ≤ length s → node_of (over s 4 (four to)) ≡ relinked (node_of s) to
unfolding node_of
first-relink s to l =
    let same : length (over s 4 (four to)) ≡ length s = length_over s (four to) 4 (omega arith) in
    rw (same, le-leb 16 (length s) l) (fields_relink s to (omega arith))

-- a run over the second of two lists
over_second : (p r x : Bytes) (i at : ℕ) → length p + at ≡ i → over (p ++ r) i x ≡ p ++ over r at x
unfolding over
over_second p r x i at e =
    let a : take i (p ++ r) ≡ p ++ take at r = rw (← e, take-append-add p r at) in
    let j : i + length x ≡ length p + (at + length x) = omega arith in
    let b : drop (i + length x) (p ++ r) ≡ drop (at + length x) r = rw (j, drop-append-add p r (at + length x)) in
    rw (a, b) (append_assoc p (take at r) (x ++ drop (at + length x) r))

-- the link of the node at a place
pub nodes-relink : (n i : ℕ) (s : Bytes) (to : ℕ) → i < n → 16 * n ≤ length s
    → records_of node_of 16 n (over s (16 * i + 4) (four to)) ≡ set (records_of node_of 16 n s) i (relinked (get_or (records_of node_of 16 n s) i nowhere) to)
unfolding records_of
nodes-relink zero i s to h l = absurd (omega arith)
nodes-relink (suc n) zero s to h l =
    let step : 16 * suc n ≡ 16 * n + 16 = mul-suc 16 n in
    let p : Bytes = take 16 s in
    let r : Bytes = drop 16 s in
    let pl : length p ≡ 16 = length-take-le 16 s (omega arith) in
    let o : over s 4 (four to) ≡ over p 4 (four to) ++ r = ap (λ (z : Bytes). over z 4 (four to)) (sym (take-append-drop 16 s)) ∙ over-inside [] p r (four to) 4 4 refl (omega arith) in
    let rest : drop 16 (over s 4 (four to)) ≡ r = ap (drop 16) o ∙ drop_at (over p 4 (four to)) r 16 (length_over p (four to) 4 (omega arith) ∙ pl) in
    (λ j. first-relink s to (omega arith) j ∷ records_of node_of 16 n (rest j))
nodes-relink (suc n) (suc i) s to h l =
    let step : 16 * suc n ≡ 16 * n + 16 = mul-suc 16 n in
    let more : 16 * suc i ≡ 16 * i + 16 = mul-suc 16 i in
    let p : Bytes = take 16 s in
    let r : Bytes = drop 16 s in
    let q : Bytes = over r (16 * i + 4) (four to) in
    let pl : length p ≡ 16 = length-take-le 16 s (omega arith) in
    let is : p ++ r ≡ s = take-append-drop 16 s in
    let o : over s (16 * suc i + 4) (four to) ≡ p ++ q = ap (λ (z : Bytes). over z (16 * suc i + 4) (four to)) (sym is) ∙ over_second p r (four to) (16 * suc i + 4) (16 * i + 4) (omega arith) in
    let one : node_of (over s (16 * suc i + 4) (four to)) ≡ node_of s = ap node_of o ∙ node_local p q (omega arith) ∙ sym (node_local p r (omega arith)) ∙ ap node_of is in
    let rest : drop 16 (over s (16 * suc i + 4) (four to)) ≡ q = ap (drop 16) o ∙ drop_at p q 16 pl in
    (λ j. one j ∷ records_of node_of 16 n (rest j))
    ∙ ap (λ (z : List Node). node_of s ∷ z) (nodes-relink n i r to (omega arith) (omega (arith, length-drop 16 s)))
