-- What is good on a tape is good again where the steps of specs/Rebuild write it anew.
use mathlib.Core.Path.{◌≡◌, refl, sym, ap, ◌∙◌}
use mathlib.Core.Bool.{Bool, true, false, cond}
use mathlib.Core.List.{List, [], ◌++◌}
use mathlib.Core.Logic.{◌⊎◌, inl, inr}
use Prim.Native.Nat.{ℕ, zero, suc, ◌+◌, ◌≤◌, ◌<◌}
use native.Mathlib.Omega.{arith}
use native.Mathlib.Numerals.{add-one}
use lib.ListN.{length, get_or, length-append, length-set}
use lib.Seq.{get_or_at, get_or-append-add}
use lib.Dec.{eqb}
use borrow.Author.Tests.{eqb-true, eqb-false}
use Rattle.parts.specs.Bytes.{Bytes}
use Rattle.parts.proofs.Laws.{and-true, or_both}
use Rattle.tape.specs.File.{Tape, nowhere, node_at, entry_at}
use Rattle.tape.specs.Tree.{is_close}
use Rattle.tape.proofs.Laws.{close_second}
use Rattle.tape.specs.declared.Node.{Node}
use Rattle.admit.specs.Rules.{GoodNames, GoodNodes}
use Rattle.admit.specs.Decide.{all_below, good_byte, good_entry, good_names, good_node, good_nodes}
use Rattle.admit.proofs.Decide.{decides_4, decides_5}
use Rattle.draft.specs.Draft.{Draft, Act, entry, plain, leaf, opens, closes, relinked, next_index, add, linked, after, tape_from}
use Rattle.draft.specs.Fault.{good_name, good_last}
use Rattle.draft.specs.Grown.{PlainKind, Proper}
use Rattle.draft.specs.Rebuild.{own_node, node_act}
use Rattle.draft.proofs.Good.{all-below, Alike, good_alike}

-- ---- the step of a node

-- by whether two numbers are equal
by-eq : {P : Type 0} (a b : ℕ) → (a ≡ b → P) → ((a ≡ b → ⊥) → P) → P
by-eq {P} a b f g = go (eqb a b) refl
  where
    go : (x : Bool) → eqb a b ≡ x → P
    go true e = f (eqb-true a b e)
    go false e = g (eqb-false a b e)

-- the step of a node is one of four
pub by-act : (P : Act → Type 0) (k : ℕ) (n : Node)
    → (n.kind.code ≡ 3 → n.link ≡ k → P (leaf (relinked (own_node n) 0)))
    → (n.kind.code ≡ 3 → (n.link ≡ k → ⊥) → P (opens (relinked (own_node n) 0)))
    → (is_close n.kind.code ≡ true → P (closes (own_node n)))
    → ((n.kind.code ≡ 3 → ⊥) → is_close n.kind.code ≡ false → P (plain (own_node n)))
    → P (node_act k n)
unfolding node_act
by-act P k n l o c p = go (eqb n.kind.code 3) (eqb n.link k) (is_close n.kind.code) refl refl refl
  where
    go : (x y z : Bool) → eqb n.kind.code 3 ≡ x → eqb n.link k ≡ y → is_close n.kind.code ≡ z
        → P (cond x (cond y (leaf (relinked (own_node n) 0)) (opens (relinked (own_node n) 0))) (cond z (closes (own_node n)) (plain (own_node n))))
    go true true z e f g = l (eqb-true _ _ e) (eqb-true _ _ f)
    go true false z e f g = o (eqb-true _ _ e) (eqb-false _ _ f)
    go false y true e f g = c g
    go false y false e f g = p (eqb-false _ _ e) g

-- its node is of the step's kinds
pub proper_again : (k : ℕ) (n : Node) → 0 < n.kind.code → n.kind.code ≤ 8 → Proper (node_act k n)
unfolding own_node is_close
proper_again k n a b = by-act Proper k n (λ e f. e) (λ e f. e) closing other
  where
    x : ℕ
    x = n.kind.code

    closing : is_close x ≡ true → (x ≡ 4) ⊎ (x ≡ 5)
    closing h = by-eq x 4 inl (λ d. inr (eqb-true x 5 (close_second x d ∙ h)))

    high : 5 < x → (x ≡ 8) ⊎ ((x ≡ 6) ⊎ (x ≡ 7))
    high h = by-eq x 8 inl (λ p. inr (by-eq x 6 inl (λ q. inr (omega arith))))

    other : (x ≡ 3 → ⊥) → is_close x ≡ false → PlainKind x
    other e h =
        let o = or_both (eqb x 4) (eqb x 5) h in
        let f : x ≡ 4 → ⊥ = eqb-false x 4 o.0 in
        let g : x ≡ 5 → ⊥ = eqb-false x 5 o.1 in
        by-eq x 1 inl (λ p. inr (by-eq x 2 inl (λ q. inr (high (omega arith)))))

-- and it differs from the node on the tape in nothing that its goodness hangs on
own_alike : (n : Node) (to : ℕ) → Alike n (relinked (own_node n) to)
unfolding own_node
own_alike n to = record { kind = refl; flags = refl; marker = λ h. rw h; start = refl; len = refl }

-- ---- a node

-- the node that a step adds is the last
pub last_at : (d : Draft) (ns : List Node) (n : Node) (i h : ℕ) → length ns ≡ length d.nodes → node_at (tape_from (add d ns n i h)) (next_index d) ≡ n
unfolding node_at tape_from add
last_at d ns n i h e = rw (add-one (length d.nodes)) (get_or_at ns n [] nowhere (length d.nodes) e)

module _ (t : Tape) (g : GoodNodes t) where
  -- a node of the tape is good on every tape with the same entries and source
  good_elsewhere : (k : ℕ) → k < length t.nodes → (z : Tape) → Alike (node_at t k) (node_at z k) → t.entries ≡ z.entries → t.source ≡ z.source → good_node z k ≡ true
  unfolding good_nodes
  good_elsewhere k l z a e s = sym (good_alike t z k a e s) ∙ all-below (good_node t) (length t.nodes) ((decides_5 t).1 g) k l

  module _ (d : Draft) (e : d.entries ≡ t.entries) (s : d.source ≡ t.source) (l : next_index d < length t.nodes) where
    -- it is good as the next of a draft
    good_next : (ns : List Node) (n : Node) (i h : ℕ) → length ns ≡ length d.nodes → Alike (node_at t (next_index d)) n → good_last (add d ns n i h) (next_index d) ≡ true
    unfolding good_last tape_from add
    good_next ns n i h c a = good_elsewhere (next_index d) l (tape_from (add d ns n i h)) (rw (last_at d ns n i h c) a) (sym e) (sym s)

    next_again : good_last (after d (node_act (next_index d) (node_at t (next_index d)))) (next_index d) ≡ true
    unfolding after linked
    next_again =
        let m = node_at t (next_index d) in
        by-act (λ a. good_last (after d a) (next_index d) ≡ true) (next_index d) m
        (λ p q. good_next d.nodes _ _ _ refl (own_alike m _))
        (λ p q. good_next d.nodes _ _ _ refl (own_alike m _))
        (λ p. good_next (linked d) _ _ _ (simp length-set) (own_alike m (own_node m).link))
        (λ p q. good_next d.nodes _ _ _ refl (own_alike m (own_node m).link))

  -- a node behind Root is good again where its step writes it
  pub good_again : (k : ℕ) → k < length t.nodes → (d : Draft) → d.entries ≡ t.entries → d.source ≡ t.source → next_index d ≡ k
      → good_last (after d (node_act k (node_at t k))) (next_index d) ≡ true
  good_again k l d e s i = rw (← i) (next_again d e s (omega arith))

  -- and of its step's kinds
  pub proper_node : (k : ℕ) → 0 < k → k < length t.nodes → Proper (node_act k (node_at t k))
  proper_node k h l = proper_again k (node_at t k) (some (node_at t k).kind.code (g k l).root.0) (g k l).kind
    where
      some : (x : ℕ) → (x ≡ 0 → k ≡ 0) → 0 < x
      some zero f = absurd (omega (arith, f refl))
      some (suc x) f = omega arith

-- ---- an entry

-- a test that passes at each index below n passes below n
all_pass : (f : ℕ → Bool) (n : ℕ) → ((k : ℕ) → k < n → f k ≡ true) → all_below f n ≡ true
unfolding all_below
all_pass f zero h = refl
all_pass f (suc n) h = rw (h n (omega arith), all_pass f n (λ k l. h k (omega arith)))

-- an entry is good again, with the name bytes that come with it, where those before it and these are the tape's
pub name_again : (t : Tape) → GoodNames t → (d : Draft) (s : Bytes) → d.names ++ s ≡ t.names → (i : ℕ) → i < length t.entries
    → good_name (after d (entry s (entry_at t i))) s (entry_at t i) ≡ true
unfolding good_name good_names good_entry after tape_from
name_again t g d s e i l = rw (bytes, entry_good)
  where
    tests : (all_below (λ i. good_byte (get_or t.names i 0)) (length t.names) ≡ true) × (all_below (λ i. good_entry t (entry_at t i)) (length t.entries) ≡ true)
    tests = and-true _ _ ((decides_4 t).1 g)

    byte : (k : ℕ) → k < length s → good_byte (get_or s k 0) ≡ true
    byte k h =
        let there : good_byte (get_or t.names (length d.names + k) 0) ≡ true = all-below _ _ tests.0 _ (omega (arith, length-append d.names s, ap length e)) in
        rw (← e, get_or-append-add d.names s k 0) at there

    bytes : all_below (λ k. good_byte (get_or s k 0)) (length s) ≡ true
    bytes = all_pass _ (length s) byte

    entry_good : good_entry (tape_from (after d (entry s (entry_at t i)))) (entry_at t i) ≡ true
    entry_good = rw e (all-below _ _ tests.1 i l)
