-- Fuel for 64 containers is enough for every admitted tape: more changes nothing.
use mathlib.Core.Path.{◌≡◌, refl, sym, ◌∙◌}
use mathlib.Core.Bool.{Bool, false}
use mathlib.Core.List.{List, []}
use Prim.Native.Nat.{ℕ, zero, suc, ◌+◌, ◌≤◌, ◌<◌}
use native.Mathlib.Omega.{arith}
use Rattle.parts.specs.Bytes.{Bytes}
use Rattle.tape.specs.File.{Tape, tape_of}
use Rattle.tape.specs.Tree.{children, without}
use Rattle.nest.specs.Nest.{container, Container}
use Rattle.nest.specs.Walk.{In}
use Rattle.nest.proofs.Tape.{opens-inside}
use Rattle.nest.proofs.Walk.{by_part, tiles_in}
use Rattle.nest.proofs.Depth.{Open}
use Rattle.admit.specs.Refusal.{Kept₇, Refusal}
use Rattle.admit.proofs.Decide.{kept_all}
use Rattle.admit.proofs.Gives.{leaf-children, children_cover, root_cover, root_depth, child_depth, left_depth, open_limit}
use Rattle.render.specs.Shape.{is_category_marker_of}
use Rattle.render.specs.Follow.{followed}
use Rattle.events.specs.Event.{Event}
use Rattle.events.specs.Walk.{Manner, as_inline, as_note, node_in_of, note_all, inside, cells_along, cells, blocks_all_of, blocks_e, events_within, events_of, trimming}
use Rattle.events.proofs.Turns.{inline-none, blocks_none}
use Rattle.depth.proofs.Members.{Within, all-within, without-within}
use Rattle.depth.proofs.Inline.{node-same, inline-same, note-same}
use Rattle.depth.proofs.Blocks.{cells_same, Alike, blocks_same}

module _ (file : Bytes) (z : Kept₇ file) where
  abbrev t : Tape
  t = tape_of file

  -- a node that is not Root, before which so many containers are open
  record At (h k : ℕ) : Type 0 where
    behind : 0 < k
    deep : Open t.nodes k h

  -- so are all nodes of a list
  abbrev AllAt : ℕ → List ℕ → Type 0
  AllAt h ks = (c : ℕ) → In c ks → At h c

  children_at : (k h : ℕ) → Container t.nodes k → At h k → AllAt (h + 1) (children t k)
  children_at k h o a c i =
      record {
        behind = omega (arith, (tiles_in t.nodes (children t k) (k + 1) _ (children_cover file z k o)).1 c i);
        deep = child_depth file z k h o a.deep c i;
      }

  -- at a container there is fuel left
  fuel : (k h d : ℕ) → Container t.nodes k → At h k → 64 ≤ h + d → 0 < d
  fuel k h zero o a s =
      let most = open_limit file z k (opens-inside t.nodes k o) in
      let all : h + 0 ≡ 64 = omega (arith, a.deep, most) in absurd (omega (arith, left_depth file z k h 0 o a.deep all))
  fuel k h (suc d) o a s = omega arith

  -- ---- what stands inside

  empty-inside : (d : ℕ) (m : Manner) (k : ℕ) (outer : Bool) → children t k ≡ [] → inside t d m k outer ≡ []
  unfolding inside note_all
  empty-inside zero m k outer e = refl
  empty-inside (suc d) as_inline k outer e = rw e (inline-none (node_in_of (inside t d) t) t (followed t k outer) trimming)
  empty-inside (suc d) as_note k outer e = rw e

  leaf-same : (d e h k : ℕ) → At h k → container t.nodes k ≡ false → (m : Manner) (outer : Bool) → inside t d m k outer ≡ inside t e m k outer
  leaf-same d e h k a o m outer =
      let none = leaf-children file z k o (λ q. omega (arith, a.behind)) in empty-inside d m k outer none ∙ sym (empty-inside e m k outer none)

  -- what stands inside a container is the same where it is the same inside each of its children
  inside-step : (d e k : ℕ) (outer : Bool) → ((c : ℕ) → In c (children t k) → (m : Manner) (behind : Bool) → inside t d m c behind ≡ inside t e m c behind)
      → (m : Manner) → inside t (suc d) m k outer ≡ inside t (suc e) m k outer
  unfolding inside
  inside-step d e k outer same as_inline =
      let f = followed t k outer in
      inline-same t (node_in_of (inside t d) t) (node_in_of (inside t e) t) f trimming (children t k) (λ c i. node-same t (inside t d) (inside t e) c f (λ m. same c i m f))
  inside-step d e k outer same as_note =
      let f = followed t k outer in
      note-same t (node_in_of (inside t d) t) (node_in_of (inside t e) t) f (k + 1) trimming (children t k) (λ c i. node-same t (inside t d) (inside t e) c f (λ m. same c i m f))

  inside-same : (d e h k : ℕ) → At h k → 64 ≤ h + d → 64 ≤ h + e → (m : Manner) (outer : Bool) → inside t d m k outer ≡ inside t e m k outer
  inside-same zero e h k a s r m outer = by_part t.nodes k (λ o. absurd (omega (arith, fuel k h zero o a s))) (λ o. leaf-same zero e h k a o m outer)
  inside-same (suc d) zero h k a s r m outer = by_part t.nodes k (λ o. absurd (omega (arith, fuel k h zero o a r))) (λ o. leaf-same (suc d) zero h k a o m outer)
  inside-same (suc d) (suc e) h k a s r m outer =
      by_part t.nodes k
      (λ o. inside-step d e k outer (λ c i n behind. inside-same d e (h + 1) c (children_at k h o a c i) (omega arith) (omega arith) n behind) m)
      (λ o. leaf-same (suc d) (suc e) h k a o m outer)

  -- ---- cells

  empty-cells : (d level k : ℕ) → children t k ≡ [] → cells t d level k ≡ []
  unfolding cells cells_along
  empty-cells zero level k e = refl
  empty-cells (suc d) level k e = rw e

  cell_same : (d e h level k : ℕ) → At h k → 64 ≤ h + d → 64 ≤ h + e → cells t d level k ≡ cells t e level k
  unfolding cells
  cell_same d e h level k a s r = by_part t.nodes k (λ o. go d e o s r (fuel k h d o a s) (fuel k h e o a r)) (λ o. let n = leaf-children file z k o (λ q. omega (arith, a.behind)) in empty-cells d level k n ∙ sym (empty-cells e level k n))
    where
      go : (d e : ℕ) → Container t.nodes k → 64 ≤ h + d → 64 ≤ h + e → 0 < d → 0 < e → cells t d level k ≡ cells t e level k
      go zero e o s r x y = absurd (omega arith)
      go (suc d) zero o s r x y = absurd (omega arith)
      go (suc d) (suc e) o s r x y =
          cells_same t (inside t d) (inside t e) level (children t k) (λ c i m outer. inside-same d e (h + 1) c (children_at k h o a c i) (omega arith) (omega arith) m outer)

  -- ---- blocks

  -- the blocks one level down, by the fuel that is left
  below : ℕ → ℕ → List ℕ → List Event
  below zero level = λ _. []
  below (suc d) level = blocks_e t d (level + 1)

  blocks_by : (d level : ℕ) (ks : List ℕ) → blocks_e t d level ks ≡ blocks_all_of (below d level) t d level ks
  unfolding blocks_e below
  blocks_by zero level ks = refl
  blocks_by (suc d) level ks = refl

  empty-below : (d level : ℕ) → below d level [] ≡ []
  unfolding below blocks_e
  empty-below zero level = refl
  empty-below (suc zero) level = blocks_none (λ _. []) t zero (level + 1)
  empty-below (suc (suc d)) level = blocks_none (blocks_e t d (level + 1 + 1)) t (suc d) (level + 1)

  -- a list is the same where the blocks inside its containers are
  blocks_step : (d e h level : ℕ) (ks : List ℕ) → AllAt h ks → 64 ≤ h + d → 64 ≤ h + e
      → ((k : ℕ) → Container t.nodes k → At h k → (ls : List ℕ) → AllAt (h + 1) ls → below d level ls ≡ below e level ls)
      → blocks_e t d level ks ≡ blocks_e t e level ks
  unfolding without
  blocks_step d e h level ks all s r inner =
      blocks_by d level ks ∙ blocks_same t (below d level) (below e level) d e level ks (λ c i. alike c (all c i)) ∙ sym (blocks_by e level ks)
    where
      held : (k : ℕ) → At h k → (ls : List ℕ) → Within ls (children t k) → (children t k ≡ [] → ls ≡ []) → below d level ls ≡ below e level ls
      held k a ls w n =
          by_part t.nodes k (λ o. inner k o a ls (λ c i. children_at k h o a c (w.each c i)))
          (λ o. rw (n (leaf-children file z k o (λ q. omega (arith, a.behind)))) (empty-below d level ∙ sym (empty-below e level)))

      sifted_none : (k : ℕ) → children t k ≡ [] → without (is_category_marker_of t) (children t k) ≡ []
      sifted_none k e = rw e

      alike : (k : ℕ) → At h k → Alike t (below d level) (below e level) d e level k
      alike k a =
          record {
            within = inside-same d e h k a s r;
            cell = cell_same d e h (level + 2) k a s r;
            plain = held k a (children t k) (all-within (children t k)) (λ n. n);
            sifted = held k a (without (is_category_marker_of t) (children t k)) (without-within (is_category_marker_of t) (children t k)) (sifted_none k);
          }

  blocks_enough : (d e h level : ℕ) (ks : List ℕ) → AllAt h ks → 64 ≤ h + d → 64 ≤ h + e → blocks_e t d level ks ≡ blocks_e t e level ks
  unfolding below
  blocks_enough zero e h level ks all s r = blocks_step zero e h level ks all s r (λ k o a ls inner. absurd (omega (arith, fuel k h zero o a s)))
  blocks_enough (suc d) zero h level ks all s r = blocks_step (suc d) zero h level ks all s r (λ k o a ls inner. absurd (omega (arith, fuel k h zero o a r)))
  blocks_enough (suc d) (suc e) h level ks all s r =
      blocks_step (suc d) (suc e) h level ks all s r (λ k o a ls inner. blocks_enough d e (h + 1) (level + 1) ls inner (omega arith) (omega arith))

  root_at : AllAt 0 (children t 0)
  root_at c i = record { behind = omega (arith, (tiles_in t.nodes (children t 0) 1 _ (root_cover file z)).1 c i); deep = root_depth file z c i }

  within_enough : (d : ℕ) → 64 ≤ d → events_within d t ≡ events_of t
  unfolding events_of events_within
  within_enough d s = blocks_enough d 64 0 1 (children t 0) root_at (omega arith) (omega arith)

-- for each admitted file, any depth of 64 or more gives the same events
pub depth_enough : (file : Bytes) → Refusal file 0 → (d : ℕ) → 64 ≤ d → events_within d (tape_of file) ≡ events_of (tape_of file)
depth_enough file r = within_enough file (kept_all r)
