-- The containers of what steps build nest.
use mathlib.Core.Path.{◌≡◌, refl, ap, ◌∙◌}
use mathlib.Core.Bool.{Bool, true, false, ◌&&◌}
use mathlib.Core.List.{List, [], ◌∷◌}
use mathlib.Core.Option.{some}
use Prim.Native.Nat.{ℕ, suc, ◌<◌}
use native.Mathlib.Numerals.{add-one}
use native.Mathlib.Omega.{arith}
use lib.ListN.{length}
use lib.Dec.{eqb, ltb}
use borrow.Author.Tests.{eqb-true, eq-eqb, ne_eqb, ltb-true}
use Rattle.tape.specs.declared.Node.{Node}
use Rattle.tape.specs.Kind as kinds
use Rattle.nest.specs.Nest.{Sound, container, close, part_of}
use Rattle.nest.specs.Decide.{awaited, match_from_of, all_matched_of}
use Rattle.nest.specs.declared.Part.TheVariants.{Closes, Leaf}
use Rattle.nest.proofs.Decide.{decides_7}
use Rattle.draft.specs.Draft.{Draft, Act, piece, entry, plain, leaf, opens, closes, relinked, next_index, after, tape_from}
use Rattle.draft.specs.Fault.{first, few_nodes, good_last, roomy, node_fault, open_nest, close_nest, fault}
use Rattle.draft.specs.Grown.{Proper, Grown, start, step}
use Rattle.draft.proofs.Links.{fill}
use Rattle.draft.proofs.Awaits.{awaits, part_at, part-plain, part-leaf, part-opens, part-closes, sound_is}
use Rattle.draft.proofs.Adds.{rooted, OpenIn, Adds, adds_awaits, adds_plain, adds_leaf, adds_opens, adds_closes}

-- ---- what a step that is done says of the nesting

-- a step that is done gives no number for the nesting
node_nests : (d more : Draft) (nest room : ℕ) → node_fault d more nest room ≡ 0 → nest ≡ 0
unfolding node_fault
node_nests d more nest room h = go (few_nodes more) (good_last more (next_index d)) (eqb nest 0) refl h
  where
    go : (a b c : Bool) → eqb nest 0 ≡ c → first a 2 (first b 5 (first c nest (first (roomy more room) 8 0))) ≡ 0 → nest ≡ 0
    go true true true e h = eqb-true nest 0 e
    go true true false e h = h
    go true false c e h = absurd (omega arith)
    go false b c e h = absurd (omega arith)

-- below 64 are open before one more
pub opens_low : (d : Draft) (n : Node) (room : ℕ) → fault d (opens n) room ≡ 0 → d.depth < 64
unfolding fault
opens_low d n room h = go (ltb d.depth 64) refl (node_nests d _ (open_nest d) room h)
  where
    go : (b : Bool) → ltb d.depth 64 ≡ b → first b 6 0 ≡ 0 → d.depth < 64
    go true e h = ltb-true _ _ e
    go false e h = absurd (omega arith)

-- something is open before a close
pub closes-some : (d : Draft) (n : Node) (room : ℕ) → fault d (closes n) room ≡ 0 → 0 < d.depth
unfolding fault
closes-some d n room h = go (ltb 0 d.inner) (ltb 0 d.depth) refl (node_nests d _ (close_nest d) room h)
  where
    go : (a b : Bool) → ltb 0 d.depth ≡ b → first (a && b) 7 0 ≡ 0 → 0 < d.depth
    go true true e h = ltb-true _ _ e
    go true false e h = absurd (omega arith)
    go false b e h = absurd (omega arith)

-- and the innermost is told
pub closes_inner : (d : Draft) (n : Node) (room : ℕ) → fault d (closes n) room ≡ 0 → 0 < d.inner
unfolding fault
closes_inner d n room h = go (ltb 0 d.inner) (ltb 0 d.depth) refl (node_nests d _ (close_nest d) room h)
  where
    go : (a b : Bool) → ltb 0 d.inner ≡ a → first (a && b) 7 0 ≡ 0 → 0 < d.inner
    go true b e h = ltb-true _ _ e
    go false b e h = absurd (omega arith)

-- ---- the nodes of a draft await the closes of its open containers

-- a close for each open container, past it
abbrev pub PastOpen : List ℕ → List ℕ → Type 0
PastOpen [] [] = Unit {0}
PastOpen [] (c ∷ cs) = ⊥
PastOpen (k ∷ s) [] = ⊥
PastOpen (k ∷ s) (c ∷ cs) = (k < c) × PastOpen s cs

fits-length : (s cs : List ℕ) → PastOpen s cs → length cs ≡ length s
fits-length [] [] f = refl
fits-length [] (c ∷ cs) f = absurd f
fits-length (k ∷ s) [] f = absurd f
fits-length (k ∷ s) (c ∷ cs) f = ap suc (fits-length s cs f.1)

-- once the links of its open containers are set to closes, a draft awaits these
pub record Nests (count : ℕ) (d : Draft) : Type 0 where
  pub held : List ℕ
  pub opened : OpenIn count d held
  pub matched : (cs : List ℕ) → PastOpen held cs → awaits (fill (rooted count d) held cs) ≡ some cs

module _ {count : ℕ} {d : Draft} where
  -- a node that opens and closes nothing
  nests_leaf : {e : Draft} {n : Node} (g : Nests count d) → ((cs : List ℕ) → Adds count d g.held cs e g.held cs n)
      → part_at (next_index d) n ≡ Leaf → Nests count e
  unfolding awaited
  nests_leaf g a p = record { held = g.held; opened = (a []).opened; matched = λ cs f. adds_awaits (a cs) ∙ rw (p, g.matched cs f) }

  nests_opens : Nests count d → (n : Node) → n.kind.code ≡ kinds.marker_open → d.depth < 64 → Nests count (after d (opens n))
  unfolding awaited
  nests_opens g n k l = record { held = next_index d ∷ g.held; opened = (adds_opens n g.opened 0 []).opened; matched = go }
    where
      go : (cs : List ℕ) → PastOpen (next_index d ∷ g.held) cs → awaits (fill (rooted count (after d (opens n))) (next_index d ∷ g.held) cs) ≡ some cs
      go [] f = absurd f
      go (c ∷ cs) f =
          adds_awaits (adds_opens n g.opened c cs)
          ∙ rw (
            part-opens (next_index d) (relinked n c) k (λ e. omega arith),
            g.matched cs f.1,
            ne_eqb (length cs) 64 (λ e. omega (arith, fits-length g.held cs f.1, g.opened.height)),
          )

  nests_closes : Nests count d → (n : Node) → part_at (next_index d) n ≡ Closes → 0 < d.depth → Nests count (after d (closes n))
  unfolding awaited
  nests_closes g n p l = go g.held g.opened g.matched
    where
      go : (s : List ℕ) → OpenIn count d s → ((cs : List ℕ) → PastOpen s cs → awaits (fill (rooted count d) s cs) ≡ some cs) → Nests count (after d (closes n))
      go [] o m = absurd (omega (arith, o.height))
      go (k ∷ s) o m =
          record {
            held = s;
            opened = (adds_closes n o []).opened;
            matched = λ cs f. adds_awaits (adds_closes n o cs) ∙ rw (p, m (next_index d ∷ cs) (omega (arith, o.chain), f), eq-eqb (next_index d) (next_index d) refl);
          }

  nests_step : (a : Act) → Proper a → (room : ℕ) → fault d a room ≡ 0 → Nests count d → Nests count (after d a)
  unfolding after
  nests_step (piece s) p room h g = record { held = g.held; opened = g.opened; matched = g.matched }
  nests_step (entry s e) p room h g = record { held = g.held; opened = g.opened; matched = g.matched }
  nests_step (plain n) p room h g = nests_leaf g (adds_plain n g.opened) (part-plain (next_index d) n p)
  nests_step (leaf n) p room h g = nests_leaf g (adds_leaf n g.opened) (part-leaf (next_index d) (relinked n (next_index d)) p refl)
  nests_step (opens n) p room h g = nests_opens g n p (opens_low d n room h)
  nests_step (closes n) p room h g = nests_closes g n (part-closes (next_index d) n p) (closes-some d n room h)

fits-none : (cs : List ℕ) → PastOpen [] cs → [] ≡ cs
fits-none [] f = refl
fits-none (c ∷ cs) f = absurd f

-- a draft that steps have built
pub grown_nests : (count : ℕ) {d : Draft} → Grown d → Nests count d
unfolding awaits fill match_from_of awaited part_of container close
grown_nests count start = record { held = []; opened = record { chain = refl; height = refl }; matched = λ cs f. ap some (fits-none cs f) }
grown_nests count (step g a p room h) = nests_step a p room h (grown_nests count g)

-- ---- the tape

-- the containers of a draft nest once none is open
pub grown_sound : (d : Draft) → Grown d → d.depth ≡ 0 → Sound (tape_from d).nodes
unfolding tape_from fill all_matched_of
grown_sound d g z =
    let n = grown_nests (next_index d) g in
    (decides_7 _).0 (sound_is (rooted (next_index d) d) (add-one (length d.nodes)) ∙ ap all_matched_of (go n.held n.opened.height n.matched))
  where
    go : (s : List ℕ) → d.depth ≡ length s
        → ((cs : List ℕ) → PastOpen s cs → awaits (fill (rooted (next_index d) d) s cs) ≡ some cs) → awaits (rooted (next_index d) d) ≡ some []
    go [] h m = m [] tt
    go (k ∷ s) h m = absurd (omega arith)
