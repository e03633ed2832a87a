-- What every draft that steps build keeps: the limits, UTF-8, good names and good nodes.
use mathlib.Core.Path.{◌≡◌, refl, sym, ◌∙◌}
use mathlib.Core.Bool.{Bool, true, false}
use mathlib.Core.List.{List, [], ◌∷◌, ◌++◌, flatten}
use mathlib.Core.Logic.{⊎_elim}
use Prim.Native.Nat.{ℕ, zero, suc, ◌-◌, ◌≤◌, ◌<◌}
use native.Mathlib.Omega.{arith}
use lib.ListN.{length, get_or, length-append, length-set, get_or-append}
use lib.Dec.{eqb}
use borrow.Author.Tests.{leb-true, eqb-true}
use Rattle.parts.specs.Bytes.{Bytes}
use Rattle.parts.proofs.Laws.{and-true}
use Rattle.chars.specs.Utf8.{is_utf8, is_boundary}
use Rattle.chars.proofs.Characters.{utf8_nil, utf8_append, boundary_between}
use Rattle.tape.specs.File.{nowhere, node_at}
use Rattle.tape.specs.declared.Node.{Node}
use Rattle.tape.specs.declared.Entry.{Entry}
use Rattle.admit.specs.Rules.{GoodNames, GoodNode, GoodNodes}
use Rattle.admit.specs.Decide.{all_below, good_node, good_nodes}
use Rattle.admit.proofs.Decide.{decides_5}
use Rattle.draft.specs.Draft.{Draft, Act, piece, entry, plain, leaf, opens, closes, empty, next_index, add, linked, after, tape_from}
use Rattle.draft.specs.Fault.{first, few_nodes, few_names_of, few_source, good_name, good_last, node_fault, fault}
use Rattle.draft.specs.Grown.{Grown, start, step}
use Rattle.draft.proofs.Good.{all_same, Alike, alike_relinked, alike_set, good_alike, good_longer, names-renewed, names-enriched}

-- what every draft that steps build keeps
pub record Kept (d : Draft) : Type 0 where
  pub nodes : next_index d ≤ 262144
  pub entries : length d.entries ≤ 1024
  pub names : length d.names ≤ 16384
  pub source : length d.source ≤ 4194304
  pub utf8 : is_utf8 d.source ≡ true
  pub named : GoodNames (tape_from d)
  pub good : GoodNodes (tape_from d)

-- a step that is done has passed its tests
pub passed : (ok : Bool) {k rest : ℕ} → 0 < k → first ok k rest ≡ 0 → (ok ≡ true) × (rest ≡ 0)
passed true h e = (refl, e)
passed false h e = absurd (omega arith)

-- how many nodes the tape of a draft has
count : (d : Draft) → length (tape_from d).nodes ≡ next_index d
unfolding tape_from
count d = omega arith

-- ---- Root

-- Root is good in every draft
root_good : (d : Draft) → is_utf8 d.source ≡ true → GoodNode (tape_from d) 0
unfolding tape_from node_at flatten
root_good d u =
    let z : is_boundary d.source 0 ≡ true = (boundary_between d.source 0 u).1 (record { passed = 0; place = refl }) in
    record {
      kind = omega arith;
      flags = omega arith;
      root = (λ e. refl, λ e. refl);
      inside = omega arith;
      start = z;
      end = z;
      plain = ⊎_elim (λ e. absurd (omega arith)) (λ e. absurd (omega arith));
      label = λ e. absurd (omega arith);
    }

-- and it is the one node of a draft that no node was added to
root-alone : (d : Draft) → is_utf8 d.source ≡ true → length d.nodes ≡ 0 → GoodNodes (tape_from d)
unfolding tape_from
root-alone d u e k h = let z : k ≡ 0 = omega arith in rw z (root_good d u)

-- ---- a node more

-- nodes of which none has changed but its link
record Relinked (ns ms : List Node) : Type 0 where
  count : length ns ≡ length ms
  alike : (k : ℕ) → Alike (get_or ns k nowhere) (get_or ms k nowhere)

module _ (d : Draft) where
  same_nodes : Relinked d.nodes d.nodes
  same_nodes = record { count = refl; alike = λ k. alike_relinked _ (get_or d.nodes k nowhere).link }

  linked-nodes : Relinked d.nodes (linked d)
  unfolding linked
  linked-nodes = record { count = simp length-set; alike = alike_set d.nodes (d.inner - 1) (next_index d) }

  module _ (ns : List Node) (n : Node) (i h : ℕ) (r : Relinked d.nodes ns) where
    abbrev more : Draft
    more = add d ns n i h

    -- the nodes before the new one are good as they were
    good_before : (k : ℕ) → k < next_index d → good_node (tape_from d) k ≡ good_node (tape_from more) k
    unfolding tape_from add node_at
    good_before k l = good_alike (tape_from d) (tape_from more) k (go k l) refl refl
      where
        go : (k : ℕ) → k < next_index d → Alike (node_at (tape_from d) k) (node_at (tape_from more) k)
        go zero l = alike_relinked _ (next_index more)
        go (suc k) l = rw (get_or-append ns (n ∷ []) nowhere k (omega (arith, r.count))) (r.alike k)

    count-more : length (tape_from more).nodes ≡ suc (next_index d)
    unfolding tape_from add
    count-more = omega (arith, length-append ns (n ∷ []), r.count)

    -- and all are good where the new one is
    good_more : GoodNodes (tape_from d) → good_last more (next_index d) ≡ true → GoodNodes (tape_from more)
    unfolding good_nodes good_last all_below
    good_more g l =
        let old : all_below (good_node (tape_from d)) (next_index d) ≡ true = rw count at ((decides_5 (tape_from d)).1 g) in
        (decides_5 (tape_from more)).0 (rw (count-more, l) (sym (all_same (next_index d) good_before) ∙ old))

    node_kept : Kept d → (nest room : ℕ) → node_fault d more nest room ≡ 0 → Kept more
    unfolding node_fault tape_from add
    node_kept z nest room e =
        let a = passed (few_nodes more) (omega arith) e in
        let b = passed (good_last more (next_index d)) (omega arith) a.1 in
        record {
          nodes = leb-true _ _ a.0;
          entries = z.entries;
          names = z.names;
          source = z.source;
          utf8 = z.utf8;
          named = names-renewed (tape_from d) _ _ z.named;
          good = good_more z.good b.0;
        }

-- ---- steps

empty_kept : Kept empty
unfolding tape_from
empty_kept =
    record {
      nodes = omega arith;
      entries = omega arith;
      names = omega arith;
      source = omega arith;
      utf8 = utf8_nil;
      named = record { bytes = λ i h. absurd (omega arith); entries = λ i h. absurd (omega arith) };
      good = root-alone empty utf8_nil refl;
    }

module _ (d : Draft) (z : Kept d) where
  piece_kept : (s : Bytes) (room : ℕ) → fault d (piece s) room ≡ 0 → Kept (after d (piece s))
  unfolding fault after tape_from
  piece_kept s room e =
      let a = passed (few_source (after d (piece s))) (omega arith) e in
      let b = passed (is_utf8 s) (omega arith) a.1 in
      let u : is_utf8 (d.source ++ s) ≡ true = utf8_append d.source s z.utf8 ∙ b.0 in
      record {
        nodes = z.nodes;
        entries = z.entries;
        names = z.names;
        source = leb-true _ _ a.0;
        utf8 = u;
        named = names-renewed (tape_from d) _ _ z.named;
        good = λ k h. good_longer (tape_from d) s z.utf8 u k (z.good k h);
      }

  entry_kept : (s : Bytes) (e : Entry) (room : ℕ) → fault d (entry s e) room ≡ 0 → Kept (after d (entry s e))
  unfolding fault after good_name tape_from
  entry_kept s e room f =
      let o = passed (eqb (length d.nodes) 0) (omega arith) f in
      let a = passed (few_names_of (after d (entry s e))) (omega arith) o.1 in
      let b = passed (good_name (after d (entry s e)) s e) (omega arith) a.1 in
      let few = and-true _ _ a.0 in
      let good = and-true _ _ b.0 in
      record {
        nodes = z.nodes;
        entries = leb-true _ _ few.0;
        names = leb-true _ _ few.1;
        source = z.source;
        utf8 = z.utf8;
        named = names-enriched (tape_from d) s e z.named good.0 good.1;
        good = root-alone (after d (entry s e)) z.utf8 (eqb-true _ _ o.0);
      }

  -- a step that is done keeps it
  pub step_kept : (a : Act) (room : ℕ) → fault d a room ≡ 0 → Kept (after d a)
  unfolding fault after
  step_kept (piece s) room e = piece_kept s room e
  step_kept (entry s n) room e = entry_kept s n room e
  step_kept (plain n) room e = node_kept d d.nodes _ _ _ (same_nodes d) z _ room e
  step_kept (leaf n) room e = node_kept d d.nodes _ _ _ (same_nodes d) z _ room e
  step_kept (opens n) room e = node_kept d d.nodes _ _ _ (same_nodes d) z _ room e
  step_kept (closes n) room e = node_kept d (linked d) _ _ _ (linked-nodes d) z _ room e

pub grown_kept : (d : Draft) → Grown d → Kept d
grown_kept _ start = empty_kept
grown_kept _ (step {d} g a p room e) = step_kept d (grown_kept d g) a room e
