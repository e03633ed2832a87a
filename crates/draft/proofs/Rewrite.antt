-- Any admitted tape whose Root links to the node count can be written anew.
use mathlib.Core.Path.{◌≡◌, refl, sym, ap, ◌∙◌}
use mathlib.Core.Bool.{true}
use mathlib.Core.List.{List, [], ◌∷◌, ◌++◌, map, append-nil}
use Prim.Native.Nat.{ℕ, ◌+◌, ◌*◌, ◌≤◌, ◌<◌}
use native.Mathlib.Omega.{arith}
use lib.ListN.{length, get_or, drop, length-append, length-drop, length-map, length-set, length-take}
use lib.Seq.{append_snoc, drop-cons, get_or-append_seam, get_or-drop}
use borrow.Author.Tests.{le-leb}
use Rattle.parts.specs.Bytes.{Bytes}
use Rattle.chars.specs.Utf8.{is_utf8}
use Rattle.tape.specs.File.{Tape, tape_in, tape_of, sections_of, nowhere, nameless, node_at, entry_at}
use Rattle.tape.specs.declared.Node.{Node}
use Rattle.tape.specs.declared.Entry.{Entry}
use Rattle.tape.specs.declared.Sections.{Sections}
use Rattle.tape.specs.Kind as kinds
use Rattle.tape.proofs.Laws.{node-count, entry-count}
use Rattle.nest.specs.Tape.{link_at}
use Rattle.nest.specs.Nest.{Sound}
use Rattle.nest.proofs.Decide.{decides_7}
use Rattle.admit.specs.Rules.{GoodNames, GoodNodes}
use Rattle.admit.specs.Refusal.{Kept₇}
use Rattle.admit.proofs.Gives.{sound_of, node_limit, entry_limit, names_limit, source_limit, source_utf8}
use Rattle.draft.specs.Draft.{Draft, Act, piece, entry, empty, next_index, add, linked, after, tape_from, size_of}
use Rattle.draft.specs.Fault.{roomy, node_fault, fault}
use Rattle.draft.specs.Grown.{Grown, start}
use Rattle.draft.specs.Rebuild.{own_node, node_act, node_acts, entry_acts, acts_of, Runs, none, more, brought_names, rewritten}
use Rattle.draft.proofs.GoodAgain.{by-act, good_again, proper_node, name_again}
use Rattle.draft.proofs.Again.{Again, nest_of, node-fault, again_count}
use Rattle.draft.proofs.Row.{row_runs}
use Rattle.draft.proofs.Runs.{runs_append, AllProper, runs_grown}

-- ---- the names that entries bring

-- the name bytes that are still to come behind entries
unfoldable left_names : Bytes → List Entry → Bytes
left_names names [] = names
left_names names (e ∷ es) = []

module _ (names : Bytes) where
  brought_left : (es : List Entry) → brought_names names es ++ left_names names es ≡ names
  unfolding brought_names left_names
  brought_left [] = refl
  brought_left (e ∷ es) = append-nil names

  brought_more : (es : List Entry) (e : Entry) → brought_names names (es ++ (e ∷ [])) ≡ names
  unfolding brought_names
  brought_more [] e = refl
  brought_more (x ∷ es) e = refl

  left-more : (es : List Entry) (e : Entry) → left_names names (es ++ (e ∷ [])) ≡ []
  unfolding left_names
  left-more [] e = refl
  left-more (x ∷ es) e = refl

  brought_few : (es : List Entry) → length (brought_names names es) ≤ length names
  unfolding brought_names
  brought_few [] = omega arith
  brought_few (e ∷ es) = omega arith

-- ---- the nodes of a tape

-- Root
abbrev root_of : Tape → Node
root_of t = get_or t.nodes 0 nowhere

-- the nodes behind it
abbrev behind : Tape → List Node
behind t = drop 1 t.nodes

module _ (t : Tape) (done rest : List Node) (n : Node) (split : done ++ (n ∷ rest) ≡ behind t) where
  -- where a node behind others stands
  node_there : node_at t (length done + 1) ≡ n
  unfolding node_at
  node_there =
      let k : length done + 1 ≡ 1 + length done = omega arith in
      rw (k, ← get_or-drop 1 t.nodes (length done) nowhere, ← split) (get_or-append_seam done n rest nowhere)

  node-inside : length done + 1 < length t.nodes
  node-inside = omega (arith, ap length split, length-append done (n ∷ rest), length-drop 1 t.nodes)

-- ---- the steps are of their kinds

proper_entries : (names : Bytes) (es : List Entry) (acts : List Act) → AllProper acts → AllProper (entry_acts names es ++ acts)
unfolding entry_acts
proper_entries names [] acts p = p
proper_entries names (e ∷ es) acts p = (tt, proper_entries [] es acts p)

proper_nodes : (t : Tape) → GoodNodes t → (rest done : List Node) → done ++ rest ≡ behind t → AllProper (node_acts (length done + 1) rest)
unfolding node_acts
proper_nodes t g [] done e = tt
proper_nodes t g (n ∷ rest) done e =
    let k : length (done ++ (n ∷ [])) ≡ length done + 1 = omega (arith, length-append done (n ∷ [])) in (
      rw (node_there t done rest n e) at (proper_node t g (length done + 1) (omega arith) (node-inside t done rest n e)),
      rw k at (proper_nodes t g rest (done ++ (n ∷ [])) (append_snoc done n rest ∙ e)),
    )

-- the steps for a tape of good nodes are of their kinds
pub proper_acts : (t : Tape) → GoodNodes t → AllProper (acts_of t)
unfolding acts_of
proper_acts t g = proper_entries t.names t.entries _ (tt, proper_nodes t g (behind t) [] refl)

-- so what they lead to is a draft that steps have built
pub rewrite_grown : (t : Tape) → GoodNodes t → {room : ℕ} {last : Draft} → Runs room empty (acts_of t) last → Grown last
rewrite_grown t g r = runs_grown start r (proper_acts t g)

-- ---- the drafts on the way

-- entries are done, and nothing else
abbrev entered : Tape → List Entry → Draft
entered t es = record { entries = es; names = brought_names t.names es; source = []; nodes = []; inner = 0; depth = 0 }

-- entries and source are done, and no node
abbrev sourced : Tape → Draft
sourced t = record { entries = t.entries; names = brought_names t.names t.entries; source = t.source; nodes = []; inner = 0; depth = 0 }

-- entries and source are done, whatever the nodes
record Sourced (t : Tape) (d : Draft) : Type 0 where
  entries : d.entries ≡ t.entries
  names : d.names ≡ brought_names t.names t.entries
  source : d.source ≡ t.source

sourced_start : (t : Tape) → Sourced t (sourced t)
sourced_start t = record { entries = refl; names = refl; source = refl }

-- entries and source are done, and there is one node more than before
abbrev NodeMore : Tape → Draft → Draft → Type 0
NodeMore t d e = Sourced t e × (length e.nodes ≡ length d.nodes + 1)

module _ (t : Tape) (d : Draft) (z : Sourced t d) where
  add-more : (ns : List Node) (n : Node) (i h : ℕ) → length ns ≡ length d.nodes → NodeMore t d (add d ns n i h)
  unfolding add
  add-more ns n i h e = (record { entries = z.entries; names = z.names; source = z.source }, omega (arith, length-append ns (n ∷ [])))

  -- the step for a node adds one node, and nothing else
  node-more : (k : ℕ) (n : Node) → NodeMore t d (after d (node_act k n))
  unfolding after linked
  node-more k n =
      by-act (λ a. NodeMore t d (after d a)) k n
      (λ p q. add-more d.nodes _ _ _ refl)
      (λ p q. add-more d.nodes _ _ _ refl)
      (λ p. add-more (linked d) _ _ _ (simp length-set))
      (λ p q. add-more d.nodes _ _ _ refl)

-- ---- a tape

-- what lets a tape be written anew into so many bytes
pub record Writable (t : Tape) (room : ℕ) : Type 0 where
  pub some : 0 < length t.nodes
  pub nodes : length t.nodes ≤ 262144
  pub entries : length t.entries ≤ 1024
  pub names : length t.names ≤ 16384
  pub source : length t.source ≤ 4194304
  pub utf8 : is_utf8 t.source ≡ true
  pub named : GoodNames t
  pub good : GoodNodes t
  pub nested : Sound t.nodes
  pub ends : link_at t.nodes 0 ≡ length t.nodes
  pub fits : 36 + 16 * length t.nodes + 8 * length t.entries + length t.names + length t.source ≤ room

module _ (t : Tape) (room : ℕ) (w : Writable t room) where
  -- a draft that holds no more than the tape has room
  roomy-part : (d : Draft) → next_index d ≤ length t.nodes → length d.entries ≤ length t.entries
      → length d.names ≤ length t.names → length d.source ≤ length t.source → roomy d room ≡ true
  unfolding size_of
  roomy-part d n e m s = le-leb (size_of d) room (omega (arith, w.fits))

  roomy-sourced : (d : Draft) → Sourced t d → next_index d ≤ length t.nodes → roomy d room ≡ true
  roomy-sourced d z l =
      roomy-part d l
      (omega (arith, ap length z.entries))
      (omega (arith, ap length z.names, brought_few t.names t.entries))
      (omega (arith, ap length z.source))

  -- ---- its entries

  module _ (done rest : List Entry) (e : Entry) (split : done ++ (e ∷ rest) ≡ t.entries) where
    abbrev act : Act
    act = entry (left_names t.names done) e

    entry_there : entry_at t (length done) ≡ e
    unfolding entry_at
    entry_there = rw (← split) (get_or-append_seam done e rest nameless)

    entry-after : after (entered t done) act ≡ entered t (done ++ (e ∷ []))
    unfolding after
    entry-after = rw (brought_left, brought_more)

    entry-fault : fault (entered t done) act room ≡ 0
    unfolding fault
    entry-fault =
        let es = done ++ (e ∷ []) in
        let less : length es ≤ length t.entries = omega (arith, ap length split, length-append done (e ∷ rest), length-append done (e ∷ [])) in
        let inside : length done < length t.entries = omega (arith, length-append done (e ∷ [])) in
        let brought = brought_few t.names es in
        let few = le-leb (length es) 1024 (omega (arith, w.entries)) in
        let short = le-leb (length (brought_names t.names es)) 16384 (omega (arith, w.names)) in
        let good = rw entry_there at (name_again t w.named (entered t done) (left_names t.names done) (brought_left t.names done) (length done) inside) in
        rw (good, entry-after, few, short, roomy-part (entered t es) w.some less brought (omega arith))

  entries-run : (rest done : List Entry) → done ++ rest ≡ t.entries
      → Runs room (entered t done) (entry_acts (left_names t.names done) rest) (entered t t.entries)
  unfolding entry_acts
  entries-run [] done e = let same : done ≡ t.entries = sym (append-nil done) ∙ e in rw same none
  entries-run (x ∷ rest) done e =
      let further = entries-run rest (done ++ (x ∷ [])) (append_snoc done x rest ∙ e) in
      more (entry-fault done rest x e) (rw (left-more, ← entry-after done rest x e) at further)

  -- ---- its source

  piece-fault : fault (entered t t.entries) (piece t.source) room ≡ 0
  unfolding fault after
  piece-fault = rw (le-leb _ _ w.source, w.utf8, roomy-sourced (sourced t) (sourced_start t) w.some)

  -- ---- its nodes

  root-split : t.nodes ≡ root_of t ∷ behind t
  root-split = drop-cons t.nodes 0 nowhere w.some

  root_kind : (root_of t).kind.code ≡ kinds.root
  unfolding node_at
  root_kind = (w.good 0 w.some).root.1 refl

  -- the step for a node passes all tests if it passes that of the nesting
  node_fine : (done rest : List Node) (n : Node) → done ++ (n ∷ rest) ≡ behind t → (d : Draft) → Sourced t d → Again (root_of t) (length t.nodes) done d
      → nest_of d (node_act (length done + 1) n) ≡ 0
      → (fault d (node_act (length done + 1) n) room ≡ 0) × Sourced t (after d (node_act (length done + 1) n))
  unfolding node_fault
  node_fine done rest n e d z g nest =
      let k = length done + 1 in
      let i : next_index d ≡ k = omega (arith, again_count g) in
      let inside = node-inside t done rest n e in
      let a = node-more t d z k n in
      let few = le-leb (next_index (after d (node_act k n))) 262144 (omega (arith, a.1, w.nodes)) in
      let good = rw (node_there t done rest n e) at (good_again t w.good k inside d z.entries z.source i) in
      let fits = roomy-sourced (after d (node_act k n)) a.0 (omega (arith, a.1)) in
      (rw (node-fault d k n room, few, good, nest, fits), a.0)

  nodes-run : (last : Draft) × Runs room (sourced t) (node_acts 1 (behind t)) last × Sourced t last
      × (last.nodes ≡ map own_node (behind t)) × (last.inner ≡ 0) × (last.depth ≡ 0)
  nodes-run =
      row_runs (length t.nodes) (λ done. Sourced t) node_fine (sourced t)
      (rw root-split at ((decides_7 t.nodes).1 w.nested))
      (w.ends ∙ ap length root-split)
      root_kind refl refl refl (sourced_start t)

  -- ---- the whole

  -- it can be written anew
  pub written : (last : Draft) × Runs room empty (acts_of t) last × (tape_from last ≡ rewritten t) × (last.inner ≡ 0) × (last.depth ≡ 0)
  unfolding acts_of after brought_names left_names tape_from rewritten
  written =
      let (last, run, z, nodes, inner, depth) = nodes-run in
      let count : next_index last ≡ length t.nodes = omega (arith, ap length nodes, length-map (behind t) own_node, ap length root-split) in (
        last,
        runs_append (entries-run t.entries [] refl) (more piece-fault run),
        rw (count, nodes, z.entries, z.names, z.source),
        inner,
        depth,
      )

-- ---- a file

names-count : (c : Sections) (file : Bytes) → length (tape_in c file).names ≤ c.names
unfolding tape_in
names-count c file = simp length-take (omega arith)

source-count : (c : Sections) (file : Bytes) → length (tape_in c file).source ≤ c.source
unfolding tape_in
source-count c file = simp length-take (omega arith)

module _ (file : Bytes) (z : Kept₇ file) where
  abbrev t : Tape
  t = tape_of file

  -- an admitted file has the bytes that its tape takes
  file_size : 36 + 16 * length t.nodes + 8 * length t.entries + length t.names + length t.source ≤ length file
  unfolding tape_of sections_of
  file_size =
      let c = sections_of file in
      omega (arith, z.kept.kept.kept.kept.kept.kept.laid.whole, node-count c file, entry-count c file, names-count c file, source-count c file)

  file_writable : link_at t.nodes 0 ≡ length t.nodes → (room : ℕ) → length file ≤ room → Writable t room
  file_writable ends room l =
      record {
        some = (node_limit file z).0;
        nodes = (node_limit file z).1;
        entries = entry_limit file z;
        names = names_limit file z;
        source = source_limit file z;
        utf8 = source_utf8 file z;
        named = z.kept.kept.kept.names;
        good = z.kept.kept.nodes;
        nested = sound_of file z;
        ends = ends;
        fits = omega (arith, file_size);
      }

-- an admitted tape whose Root links to the node count can be written anew, where the file has room: the same nodes with their kinds' own fields, entries and source
pub written_again : (file : Bytes) → Kept₇ file → link_at (tape_of file).nodes 0 ≡ length (tape_of file).nodes → (room : ℕ) → length file ≤ room
    → (last : Draft) × Runs room empty (acts_of (tape_of file)) last × (tape_from last ≡ rewritten (tape_of file)) × (last.inner ≡ 0) × (last.depth ≡ 0)
written_again file z ends room l = written (tape_of file) room (file_writable file z ends room l)
