-- What a step that adds a node does to the open containers of a draft, and to its nodes with the closes filled in.
use mathlib.Core.Path.{◌≡◌, ap}
use mathlib.Core.List.{List, [], ◌∷◌, ◌++◌}
use Prim.Native.Nat.{ℕ, zero, suc, ◌-◌, ◌<◌}
use native.Mathlib.Numerals.{add-one}
use native.Mathlib.Omega.{arith}
use lib.ListN.{length, get_or, set}
use Rattle.tape.specs.File.{nowhere}
use Rattle.tape.specs.declared.Node.{Node}
use Rattle.nest.specs.Tape.{link_at}
use Rattle.nest.specs.Decide.{awaited}
use Rattle.draft.specs.Draft.{Draft, plain, leaf, opens, closes, relinked, next_index, innermost, linked, add, after, root_node}
use Rattle.draft.proofs.Links.{relink, fill, length-fill, Opened, opened_plain, opened_more, opened_less, fill-plain, fill_more, fill_less}
use Rattle.draft.proofs.Awaits.{awaits, part_at, awaits-add}

-- the nodes of a draft behind Root
abbrev pub rooted : ℕ → Draft → List Node
rooted count d = root_node count ∷ d.nodes

-- the open containers of a draft
abbrev pub OpenIn : ℕ → Draft → List ℕ → Type 0
OpenIn count d s = Opened (rooted count d) d.inner d.depth s

-- from the open containers s with the closes cs to s' with cs', by one node
pub record Adds (count : ℕ) (d : Draft) (s cs : List ℕ) (e : Draft) (s' cs' : List ℕ) (n : Node) : Type 0 where
  pub opened : OpenIn count e s'
  pub filled : fill (rooted count e) s' cs' ≡ fill (rooted count d) s cs ++ (n ∷ [])

-- the closes that are awaited past it
pub adds_awaits : {count : ℕ} {d e : Draft} {s cs s' cs' : List ℕ} {n : Node} → Adds count d s cs e s' cs' n
    → awaits (fill (rooted count e) s' cs') ≡ awaited (part_at (next_index d) n) (next_index d) (awaits (fill (rooted count d) s cs))
adds_awaits {count} {d} {e} {s} {cs} {n = n} a =
    let l : length (fill (rooted count d) s cs) ≡ next_index d = omega (arith, length-fill (rooted count d) s cs) in
    rw (a.filled, awaits-add (fill (rooted count d) s cs) n, l)

-- ---- the innermost open container behind Root

inner-relinked : (r : Node) (ns : List Node) (k to : ℕ) → 0 < k → r ∷ set ns (k - 1) (relinked (get_or ns (k - 1) nowhere) to) ≡ relink (r ∷ ns) k to
unfolding relink
inner-relinked r ns zero to l = absurd (omega arith)
inner-relinked r ns (suc k) to l = let e : suc k - 1 ≡ k = omega arith in rw e

inner-link : (r : Node) (ns : List Node) (k : ℕ) → 0 < k → link_at ns (k - 1) ≡ link_at (r ∷ ns) k
inner-link r ns zero l = absurd (omega arith)
inner-link r ns (suc k) l = let e : suc k - 1 ≡ k = omega arith in rw (e, link_at)

-- ---- the steps

module _ {count : ℕ} {d : Draft} {s : List ℕ} (n : Node) (o : OpenIn count d s) where
  pub adds_plain : (cs : List ℕ) → Adds count d s cs (after d (plain n)) s cs n
  unfolding after add
  adds_plain cs = record { opened = opened_plain n o; filled = fill-plain n cs o }

  pub adds_leaf : (cs : List ℕ) → Adds count d s cs (after d (leaf n)) s cs (relinked n (next_index d))
  unfolding after add
  adds_leaf cs = record { opened = opened_plain _ o; filled = fill-plain _ cs o }

  pub adds_opens : (c : ℕ) (cs : List ℕ) → Adds count d s cs (after d (opens n)) (next_index d ∷ s) (c ∷ cs) (relinked n c)
  unfolding after add
  adds_opens c cs =
      let e = add-one (length d.nodes) in
      record { opened = rw e (opened_more n (omega arith) o); filled = rw e (fill_more (relinked n d.inner) c cs o) }

pub adds_closes : {count : ℕ} {d : Draft} {k : ℕ} {s : List ℕ} (n : Node) → OpenIn count d (k ∷ s) → (cs : List ℕ)
    → Adds count d (k ∷ s) (next_index d ∷ cs) (after d (closes n)) s cs n
unfolding after add linked
adds_closes {count} {d} {k} n o cs = record { opened = rw (nodes, link) (opened_less (next_index d) n o); filled = rw nodes (fill_less (next_index d) n o cs) }
  where
    nodes : root_node count ∷ (linked d ++ (n ∷ [])) ≡ relink (rooted count d) k (next_index d) ++ (n ∷ [])
    nodes = rw (← o.chain.0) (ap (λ (l : List Node). l ++ (n ∷ [])) (inner-relinked _ d.nodes d.inner _ (omega (arith, o.chain))))

    link : (innermost d).link ≡ link_at (rooted count d) k
    link = rw (← o.chain.0) (inner-link _ d.nodes d.inner (omega (arith, o.chain)))
