-- The steps that write the nodes of a tape anew keep its nesting: after each, the closes that the tape awaits are those of the draft's open containers.
use mathlib.Core.Path.{◌≡◌, refl, sym, ap, ◌∙◌}
use mathlib.Core.Bool.{Bool, true, false, cond, not, ◌&&◌}
use mathlib.Core.List.{List, [], ◌∷◌, ◌++◌, map, map-append}
use mathlib.Core.Option.{some, none}
use Prim.Native.Nat.{ℕ, suc, ◌+◌, ◌≤◌, ◌<◌}
use native.Mathlib.Omega.{arith}
use lib.ListN.{length, drop, length-map}
use lib.Seq.{append_snoc}
use lib.Dec.{eqb}
use borrow.Author.Tests.{eqb-true, eqb-false, lt-ltb}
use Rattle.tape.specs.Tree.{is_close}
use Rattle.tape.specs.declared.Node.{Node}
use Rattle.tape.specs.Kind as kinds
use Rattle.nest.specs.Nest.{container, close, part_of}
use Rattle.nest.specs.Decide.{awaited, match_from_of}
use Rattle.nest.specs.declared.Part.TheVariants.{Opens, Closes, Leaf}
use Rattle.nest.proofs.Tape.{clash}
use Rattle.draft.specs.Draft.{Draft, Act, piece, entry, plain, leaf, opens, closes, relinked, next_index, after, root_node}
use Rattle.draft.specs.Fault.{node_fault, open_nest, close_nest, fault}
use Rattle.draft.specs.Rebuild.{own_node, node_act}
use Rattle.draft.proofs.Links.{fill, length-fill}
use Rattle.draft.proofs.Awaits.{awaits, part_at, awaits-add, none-some, awaits_before}
use Rattle.draft.proofs.Adds.{rooted, OpenIn, Adds, adds_plain, adds_leaf, adds_opens, adds_closes}

-- a draft behind the nodes of a tape that are done, with the open containers s: once their links are set to the awaited closes cs, its nodes are theirs
pub record Behind (r : Node) (count : ℕ) (done : List Node) (d : Draft) (s cs : List ℕ) : Type 0 where
  pub opened : OpenIn count d s
  pub paired : length s ≡ length cs
  pub low : length cs ≤ 64
  pub waits : awaits (r ∷ done) ≡ some cs
  pub filled : fill (rooted count d) s cs ≡ root_node count ∷ map own_node done

-- a draft behind the nodes that are done
abbrev pub Again : Node → ℕ → List Node → Draft → Type 0
Again r count done d = (s : List ℕ) × (cs : List ℕ) × Behind r count done d s cs

-- a step does not break the nesting
abbrev pub Free : Draft → Act → Type 0
Free d (piece s) = Unit {0}
Free d (entry s e) = Unit {0}
Free d (plain n) = Unit {0}
Free d (leaf n) = Unit {0}
Free d (opens n) = d.depth < 64
Free d (closes n) = (0 < d.inner) × (0 < d.depth)

-- 6 or 7 where a step would break the nesting, else 0
abbrev pub nest_of : Draft → Act → ℕ
nest_of d (piece s) = 0
nest_of d (entry s e) = 0
nest_of d (plain n) = 0
nest_of d (leaf n) = 0
nest_of d (opens n) = open_nest d
nest_of d (closes n) = close_nest d

-- a step that does not break the nesting has no number for it
pub free_nest : (d : Draft) (a : Act) → Free d a → nest_of d a ≡ 0
free_nest d (piece s) f = refl
free_nest d (entry s e) f = refl
free_nest d (plain n) f = refl
free_nest d (leaf n) f = refl
free_nest d (opens n) f = rw (lt-ltb _ _ f)
free_nest d (closes n) f = rw (lt-ltb _ _ f.0, lt-ltb _ _ f.1)

-- the step for a node, by three tests of it: a MarkerOpen, one that links to itself, a close
abbrev act_by : Node → Bool → Bool → Bool → Act
act_by n a b c = cond a (cond b (leaf (relinked (own_node n) 0)) (opens (relinked (own_node n) 0))) (cond c (closes (own_node n)) (plain (own_node n)))

-- the number of the step for a node
pub node-fault : (d : Draft) (k : ℕ) (n : Node) (room : ℕ) → fault d (node_act k n) room ≡ node_fault d (after d (node_act k n)) (nest_of d (node_act k n)) room
unfolding fault node_act
node-fault d k n room = go (eqb n.kind.code kinds.marker_open) (eqb n.link k) (is_close n.kind.code)
  where
    go : (a b c : Bool) → fault d (act_by n a b c) room ≡ node_fault d (after d (act_by n a b c)) (nest_of d (act_by n a b c)) room
    go true true c = refl
    go true false c = refl
    go false b true = refl
    go false b false = refl

-- a step leads past one node more
abbrev pub Goes : Node → ℕ → List Node → Draft → Node → Act → Type 0
Goes r count done d n a = Again r count (done ++ (n ∷ [])) (after d a) × Free d a

-- as many nodes are written as are done
behind-count : {r : Node} {count : ℕ} {done : List Node} {d : Draft} {s cs : List ℕ} → Behind r count done d s cs → length d.nodes ≡ length done
behind-count {count = count} {done} {d} {s} {cs} g =
    let l : length (fill (rooted count d) s cs) ≡ suc (length (map own_node done)) = ap length g.filled in
    omega (arith, l, length-fill (rooted count d) s cs, length-map done own_node)

-- a MarkerOpen that a step links anew
own_linked : (n : Node) (to : ℕ) → n.kind.code ≡ kinds.marker_open → n.link ≡ to → relinked (relinked (own_node n) 0) to ≡ own_node n
unfolding own_node
own_linked n to k l = rw (k, l)

open_no_close : (k : ℕ) → k ≡ kinds.marker_open → is_close k ≡ false
unfolding is_close
open_no_close k e = rw e

-- ---- one node more

module _ {r : Node} {count : ℕ} {done : List Node} {d : Draft} {s cs : List ℕ} (n : Node) (g : Behind r count done d s cs) where
  adds_again : {e : Draft} {m : Node} {s' cs' : List ℕ} → Adds count d s cs e s' cs' m → m ≡ own_node n
      → length s' ≡ length cs' → length cs' ≤ 64 → awaits (r ∷ (done ++ (n ∷ []))) ≡ some cs' → Again r count (done ++ (n ∷ [])) e
  adds_again {s' = s'} {cs'} a o p l w = (
    s',
    cs',
    record { opened = a.opened; paired = p; low = l; waits = w; filled = a.filled ∙ rw (g.filled, o, map-append own_node done (n ∷ [])) },
  )

  goes_plain : awaits (r ∷ (done ++ (n ∷ []))) ≡ some cs → Goes r count done d n (plain (own_node n))
  goes_plain w = (adds_again (adds_plain (own_node n) g.opened cs) refl g.paired g.low w, tt)

  goes_leaf : n.kind.code ≡ kinds.marker_open → n.link ≡ next_index d → awaits (r ∷ (done ++ (n ∷ []))) ≡ some cs
      → Goes r count done d n (leaf (relinked (own_node n) 0))
  goes_leaf k l w = (adds_again (adds_leaf (relinked (own_node n) 0) g.opened cs) (own_linked n (next_index d) k l) g.paired g.low w, tt)

  goes_opens : n.kind.code ≡ kinds.marker_open → {all : List ℕ} → awaited (Opens n.link) (next_index d) (some cs) ≡ some all
      → awaits (r ∷ (done ++ (n ∷ []))) ≡ some all → Goes r count done d n (opens (relinked (own_node n) 0))
  unfolding awaited
  goes_opens k {all} h w = go (eqb (length cs) 64) refl h
    where
      go : (b : Bool) → eqb (length cs) 64 ≡ b → cond b none (some (n.link ∷ cs)) ≡ some all → Goes r count done d n (opens (relinked (own_node n) 0))
      go true e h = absurd (none-some h)
      go false e h =
          let less : length cs < 64 = omega (arith, eqb-false (length cs) 64 e, g.low) in (
            adds_again (adds_opens (relinked (own_node n) 0) g.opened n.link cs) (own_linked n n.link k refl) (omega (arith, g.paired)) less (w ∙ sym h),
            omega (arith, g.paired, g.opened.height),
          )

goes_closes : {r : Node} {count : ℕ} {done : List Node} {d : Draft} (s cs : List ℕ) (n : Node) → Behind r count done d s cs
    → {all : List ℕ} → awaited Closes (next_index d) (some cs) ≡ some all → awaits (r ∷ (done ++ (n ∷ []))) ≡ some all → Goes r count done d n (closes (own_node n))
unfolding awaited
goes_closes s [] n g h w = absurd (none-some h)
goes_closes [] (c ∷ cs) n g h w = absurd (omega (arith, g.paired))
goes_closes {r} {count} {done} {d} (k ∷ s) (c ∷ cs) n g {all} h w = go (eqb c (next_index d)) refl h
  where
    go : (b : Bool) → eqb c (next_index d) ≡ b → cond b (some cs) none ≡ some all → Goes r count done d n (closes (own_node n))
    go true e h =
        let a : Adds count d (k ∷ s) (c ∷ cs) (after d (closes (own_node n))) s cs (own_node n) =
        rw (eqb-true c (next_index d) e) (adds_closes (own_node n) g.opened cs)
        in (
          adds_again n g a refl (omega (arith, g.paired)) (omega (arith, g.low)) (w ∙ sym h),
          (omega (arith, g.opened.chain), omega (arith, g.opened.height)),
        )
    go false e h = absurd (none-some h)

-- the step for the next node of a row leads past it
pub again_step : {r : Node} {count : ℕ} {done : List Node} {d : Draft} (n : Node) (rest : List Node) {all : List ℕ}
    → awaits (r ∷ (done ++ (n ∷ rest))) ≡ some all → Again r count done d → Goes r count done d n (node_act (length done + 1) n)
unfolding node_act part_at awaited
again_step {r} {count} {done} {d} n rest h (s, cs, g) =
    let w = awaits_before (r ∷ (done ++ (n ∷ []))) rest (rw (← append_snoc done n rest) at h) in
    let i : suc (length done) ≡ next_index d = omega (arith, behind-count g) in
    let a = rw (i, g.waits) at (awaits-add (r ∷ done) n) in
    rw (← behind-count g) (go (eqb n.kind.code kinds.marker_open) (eqb n.link (next_index d)) (is_close n.kind.code) refl refl refl (sym a ∙ w.1) w.1)
  where
    go : (a b c : Bool) → eqb n.kind.code kinds.marker_open ≡ a → eqb n.link (next_index d) ≡ b → is_close n.kind.code ≡ c → {all : List ℕ}
        → awaited (cond (a && not b) (Opens n.link) (cond c Closes Leaf)) (next_index d) (some cs) ≡ some all → awaits (r ∷ (done ++ (n ∷ []))) ≡ some all
        → Goes r count done d n (act_by n a b c)
    go true true true k l m h w = absurd (clash m (open_no_close n.kind.code (eqb-true _ _ k)))
    go true true false k l m h w = goes_leaf n g (eqb-true _ _ k) (eqb-true _ _ l) (w ∙ sym h)
    go true false c k l m h w = goes_opens n g (eqb-true _ _ k) h w
    go false b true k l m h w = goes_closes s cs n g h w
    go false b false k l m h w = goes_plain n g (w ∙ sym h)

-- ---- the ends of a row

-- nothing is done
pub again_start : (r : Node) (count : ℕ) (d : Draft) → r.kind.code ≡ kinds.root → d.nodes ≡ [] → d.inner ≡ 0 → d.depth ≡ 0 → Again r count [] d
unfolding awaits match_from_of awaited part_of container close fill
again_start r count d k e i z = ([], [], record { opened = record { chain = i; height = z }; paired = refl; low = omega arith; waits = rw k; filled = rw e })

-- as many nodes are written as are done
pub again_count : {r : Node} {count : ℕ} {done : List Node} {d : Draft} → Again r count done d → length d.nodes ≡ length done
again_count (s, cs, g) = behind-count g

-- where nothing is awaited, nothing is open, and the nodes are those of the row
pub again_end : {r : Node} {count : ℕ} {done : List Node} {d : Draft} → awaits (r ∷ done) ≡ some [] → Again r count done d
    → (d.nodes ≡ map own_node done) × (d.inner ≡ 0) × (d.depth ≡ 0)
unfolding fill
again_end h ([], cs, g) = (ap (drop 1) g.filled, g.opened.chain, g.opened.height)
again_end h (k ∷ s, cs, g) = let e : cs ≡ [] = cc g.waits in absurd (omega (arith, g.paired, ap length e))
