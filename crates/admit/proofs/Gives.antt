-- What an admitted file gives to those above: sizes, spans, entries, links, children, depth.
use mathlib.Core.Path.{◌≡◌, refl, sym, ap, ◌∙◌, subst}
use mathlib.Core.Bool.{Bool, true, false, cond, not, ◌&&◌, ◌||◌, or-true}
use mathlib.Core.List.{List, [], ◌∷◌, flatten}
use mathlib.Core.Logic.{⊎_elim}
use Prim.Native.Nat.{ℕ, ◌+◌, ◌≤◌, ◌<◌}
use native.Mathlib.Omega.{arith}
use lib.ListN.{length, drop, length-take, length-drop, get_or-eq_default}
use lib.Seq.{length-take-le}
use lib.Dec.{eqb, ltb, leb}
use borrow.Author.Tests.{eqb-true, ne_eqb, lt-ltb, le-ltb, le-leb, lt-leb, ltb-true, ltb-false}
use Rattle.parts.specs.Bytes.{Bytes}
use Rattle.chars.specs.Utf8.{is_utf8, is_boundary}
use Rattle.chars.proofs.Characters.{boundary_between}
use Rattle.tape.specs.File.{Tape, tape_in, tape_of, sections_of, nowhere, nameless, node_at, entry_at, kind_at, text_at_of, bears_marker, info_at}
use Rattle.tape.specs.Tree.{is_close, holds, child_before, first_child, last_held, sibling_past, next_sibling, walk_from, children}
use Rattle.tape.specs.declared.Node.{Node}
use Rattle.tape.specs.declared.Entry.{Entry}
use Rattle.tape.specs.Found.{Step}
use Rattle.std.specs.Prelude.{None, Some}
use Rattle.tape.proofs.Laws.{node-count, entry-count}
use Rattle.tape.proofs.Walk.{walk_done, walk_at}
use Rattle.nest.specs.Tape.{link_at}
use Rattle.nest.specs.Nest.{container, close, Container, Close, count, Nested, RootEnds, Sound}
use Rattle.nest.specs.Walk.{past, Tiles, Row, In}
use Rattle.nest.proofs.Tape.{clash, kind_opens, close_5, close-inside}
use Rattle.nest.proofs.Nested.{order, ends_in, before_root}
use Rattle.nest.proofs.Walk.{stops, past_forward, children-row, root-row, tiles_in, InOne, in_one}
use Rattle.nest.proofs.Depth.{Open, depth_left, child_open, root_open}
use Rattle.admit.specs.Rules.{GoodEntry, GoodNode}
use Rattle.admit.specs.Pieces.{GoodSpan}
use Rattle.admit.specs.Refusal.{Kept₇}
use Rattle.admit.proofs.Utf8.{utf8_part}

-- ---- a walk along siblings, on a tape that nests

module _ (t : Tape) (z : Nested t.nodes) where
  -- where a walk goes on: at a, if a row of siblings does not end there
  step_at : ℕ → Step
  step_at a = cond (stops t.nodes a) None (Some (record { at = a }))

  last_is : (a : ℕ) → (kind_at t a ≡ 0 → ⊥) → last_held t a + 1 ≡ past t.nodes a
  unfolding last_held holds past container node_at
  last_is a n = rw (ne_eqb (kind_at t a) 0 n) (go (eqb (kind_at t a) 3) (eqb (node_at t a).link a) refl)
    where
      go : (x y : Bool) → eqb (node_at t a).link a ≡ y
          → cond x (node_at t a).link a + 1 ≡ cond (x && not y) (node_at t a).link a + 1
      go true true e = ap (λ (k : ℕ). k + 1) (eqb-true (node_at t a).link a e)
      go true false e = refl
      go false y e = refl

  step_is : (a : ℕ) → cond {A = Step} (ltb a (length t.nodes)) (cond {A = Step} (is_close (kind_at t a)) None (Some (record { at = a }))) None ≡ step_at a
  unfolding step_at stops is_close close node_at
  step_is a = go (ltb a (length t.nodes)) refl
    where
      go : (x : Bool) → ltb a (length t.nodes) ≡ x
          → cond {A = Step} x (cond {A = Step} (is_close (kind_at t a)) None (Some (record { at = a }))) None ≡ cond {A = Step} (leb (length t.nodes) a || close t.nodes a) None (Some (record { at = a }))
      go true e = rw (lt-leb (length t.nodes) a (ltb-true a (length t.nodes) e))
      go false e = rw (le-leb (length t.nodes) a (ltb-false a (length t.nodes) e))

  next_is : (a : ℕ) → (kind_at t a ≡ 0 → ⊥) → next_sibling t a ≡ step_at (past t.nodes a)
  unfolding next_sibling sibling_past
  next_is a n =
      let e = last_is a n in
      rw (le-ltb (last_held t a) a (omega (arith, e, past_forward t.nodes z a)), e) (step_is (past t.nodes a))

  stops_at : (a : ℕ) → stops t.nodes a ≡ true → step_at a ≡ None
  unfolding step_at
  stops_at a e = rw e

  goes_at : (a : ℕ) → a < length t.nodes → close t.nodes a ≡ false → step_at a ≡ Some (record { at = a })
  unfolding step_at stops
  goes_at a h e = rw (lt-leb (length t.nodes) a h, e)

  module _ (roots : (k : ℕ) → kind_at t k ≡ 0 → k ≡ 0) (b : ℕ) (stop : stops t.nodes b ≡ true) (inside : b ≤ length t.nodes) where
    -- siblings that lead to where a row ends are walked one after the other
    walk_tiles : (ks : List ℕ) (a : ℕ) → 0 < a → Tiles t.nodes a b ks → walk_from t (step_at a) ≡ ks
    walk_tiles [] a h e = ap (walk_from t) (ap step_at e ∙ stops_at b stop) ∙ walk_done t
    walk_tiles (x ∷ ks) a h e =
        let le = (tiles_in t.nodes ks (past t.nodes a) b e.3).0 in
        ap (walk_from t) (goes_at a (omega (arith, e.2)) e.1)
        ∙ walk_at t (record { at = a })
        ∙ ap (λ (s : Step). a ∷ walk_from t s) (next_is a (λ r. omega (arith, roots a r)))
        ∙ ap (λ (l : List ℕ). a ∷ l) (walk_tiles ks (past t.nodes a) (omega (arith, e.2)) e.3)
        ∙ ap (λ (k : ℕ). k ∷ ks) (sym e.0)

    first_is : (ks : List ℕ) (k : ℕ) → Tiles t.nodes (k + 1) b ks → child_before (length t.nodes) k b ≡ step_at (k + 1)
    unfolding child_before
    first_is [] k e = rw (le-ltb (k + 1) b (omega (arith, e))) (sym (ap step_at e ∙ stops_at b stop))
    first_is (x ∷ ks) k e =
        let le = (tiles_in t.nodes ks (past t.nodes (k + 1)) b e.3).0 in
        let l : k + 1 < b = omega (arith, e.2) in
        let m : k + 1 < length t.nodes = omega arith in
        rw (lt-ltb (k + 1) b l, lt-ltb (k + 1) (length t.nodes) m) (sym (goes_at (k + 1) m e.1))

    children_are : (ks : List ℕ) (k : ℕ) → holds (kind_at t k) ≡ true → (node_at t k).link ≡ b → Tiles t.nodes (k + 1) b ks → children t k ≡ ks
    unfolding children first_child
    children_are ks k h l e = rw (h, l) (ap (walk_from t) (first_is ks k e) ∙ walk_tiles ks (k + 1) (omega arith) e)

  stops-close : (a : ℕ) → Close t.nodes a → stops t.nodes a ≡ true
  unfolding stops
  stops-close a c = rw c (or-true (leb (length t.nodes) a))

  stops_end : RootEnds t.nodes → stops t.nodes (link_at t.nodes 0) ≡ true
  unfolding stops
  stops_end = ⊎_elim (λ e. rw (le-leb (length t.nodes) (link_at t.nodes 0) (omega arith))) (λ e. stops-close (link_at t.nodes 0) (close_5 t.nodes (link_at t.nodes 0) e.1))

-- ---- an admitted file

module _ (file : Bytes) (z : Kept₇ file) where
  abbrev t : Tape
  t = tape_of file

  pub sound_of : Sound t.nodes
  sound_of = record { shallow = z.kept.shallow; nested = z.nested }

  -- ---- sizes

  pub node_limit : (0 < length t.nodes) × (length t.nodes ≤ 262144)
  unfolding tape_of
  node_limit =
      let s = z.kept.kept.kept.kept.kept.small in
      let e = node-count (sections_of file) file in (omega (arith, s.some), omega (arith, s.nodes))

  pub entry_limit : length t.entries ≤ 1024
  unfolding tape_of
  entry_limit = omega (arith, z.kept.kept.kept.kept.kept.small.entries, entry-count (sections_of file) file)

  pub names_limit : length t.names ≤ 16384
  unfolding tape_of tape_in
  names_limit = simp length-take (omega (arith, z.kept.kept.kept.kept.kept.small.names))

  pub source_limit : length t.source ≤ 4194304
  unfolding tape_of tape_in
  source_limit = simp length-take (omega (arith, z.kept.kept.kept.kept.kept.small.source))

  -- ---- spans and entries, also outside the tape

  pub source_utf8 : is_utf8 t.source ≡ true
  source_utf8 = z.kept.kept.kept.kept.utf8

  node_good : (k : ℕ) → k < length t.nodes → GoodNode t k
  node_good = z.kept.kept.nodes

  node_out : (k : ℕ) → length t.nodes ≤ k → node_at t k ≡ nowhere
  unfolding node_at
  node_out k h = get_or-eq_default t.nodes nowhere h

  -- by whether an index lies in a list of so many
  by_place : {P : Type 0} (n k : ℕ) → (k < n → P) → (n ≤ k → P) → P
  by_place n k f g = order k n f (λ h. g (omega arith)) (λ e. g (omega arith))

  -- a span lies in the source, with both ends between characters
  pub span_good : (k : ℕ) → GoodSpan t.source (node_at t k)
  unfolding flatten
  span_good k = by_place (length t.nodes) k (λ h. let g = node_good k h in record { inside = g.inside; start = g.start; end = g.end }) (λ h. rw (node_out k h) none)
    where
      zero_between : is_boundary t.source 0 ≡ true
      zero_between = (boundary_between t.source 0 source_utf8).1 (record { passed = 0; place = refl })

      none : GoodSpan t.source nowhere
      none = record { inside = omega arith; start = zero_between; end = zero_between }

  -- a text is as long as its span
  pub text-length : (k : ℕ) → length (text_at_of t k) ≡ (node_at t k).len
  unfolding text_at_of
  text-length k =
      let s = t.source in
      let a = (node_at t k).start in
      length-take-le (node_at t k).len (drop a s) (omega (arith, length-drop a s, (span_good k).inside))

  -- and UTF-8
  pub text_utf8 : (k : ℕ) → is_utf8 (text_at_of t k) ≡ true
  unfolding text_at_of
  text_utf8 k = let g = span_good k in utf8_part t.source source_utf8 (node_at t k).start (node_at t k).len g.start g.end

  pub root-first : kind_at t 0 ≡ 0
  root-first = (node_good 0 node_limit.0).root.1 refl

  pub root_only : (k : ℕ) → kind_at t k ≡ 0 → k ≡ 0
  root_only k e =
      by_place (length t.nodes) k (λ h. (node_good k h).root.0 e) (λ h. absurd (omega (arith, ap (λ (n : Node). n.kind.code) (node_out k h))))

  -- an entry's name lies in the names, category and element are known ones
  pub entry_good : (i : ℕ) → GoodEntry t (entry_at t i)
  unfolding entry_at
  entry_good i = by_place (length t.entries) i (z.kept.kept.kept.names.entries i) (λ h. rw (out h) none)
    where
      out : length t.entries ≤ i → entry_at t i ≡ nameless
      out h = get_or-eq_default t.entries nameless h

      none : GoodEntry t nameless
      none = record { inside = omega arith; category = omega arith; element = omega arith }

  pub info_good : (k : ℕ) (e : Entry) → info_at t k ≡ Some e → GoodEntry t e
  unfolding info_at
  info_good k e h = go (bears_marker (kind_at t k) && ltb (node_at t k).marker (length t.entries)) h
    where
      go : (b : Bool) → cond b (Some (entry_at t (node_at t k).marker)) None ≡ Some e → GoodEntry t e
      go true h = let same : entry_at t (node_at t k).marker ≡ e = cc in subst (GoodEntry t) same (entry_good (node_at t k).marker)
      go false h = absurd (let no_way : ◌≡◌ {A = ℕ} 0 1 = cc in omega arith)

  -- ---- links

  -- a container's link lies ahead, on the tape, and is a close
  pub link_ahead : (k : ℕ) → Container t.nodes k → (k < link_at t.nodes k) × (link_at t.nodes k < length t.nodes) × Close t.nodes (link_at t.nodes k)
  link_ahead k o = let l = z.nested.later k o in (l.0, close-inside t.nodes (link_at t.nodes k) l.1, l.1)

  -- inside the link of each container around it, and of Root
  pub link-inside : (k m : ℕ) → Container t.nodes k → Container t.nodes m → k < m → m < link_at t.nodes k → link_at t.nodes m < link_at t.nodes k
  link-inside = ends_in t.nodes z.nested

  pub link-root : (k : ℕ) → Container t.nodes k → link_at t.nodes k < link_at t.nodes 0
  link-root = before_root t.nodes z.nested

  -- ---- children

  -- the ranges of a container's children are what lies between it and its link
  pub children_cover : (k : ℕ) → Container t.nodes k → Tiles t.nodes (k + 1) (link_at t.nodes k) (children t k)
  unfolding holds node_at
  children_cover k o =
      let l = link_ahead k o in
      let row : Row t.nodes (k + 1) (link_at t.nodes k) = children-row t.nodes z.nested k o in
      rw
      (children_are t z.nested root_only (link_at t.nodes k) (stops-close t z.nested (link_at t.nodes k) l.2) (omega (arith, l.1)) row.nodes k
      (rw (kind_opens t.nodes k o)) refl row.tiles)
      row.tiles

  root-inside : link_at t.nodes 0 ≤ length t.nodes
  root-inside = ⊎_elim (λ e. omega arith) (λ e. omega (arith, e.0)) z.nested.root

  -- and those of Root's what lies between it and its end
  pub root_cover : Tiles t.nodes 1 (link_at t.nodes 0) (children t 0)
  unfolding holds node_at
  root_cover =
      let row : Row t.nodes 1 (link_at t.nodes 0) = root-row t.nodes z.nested root-first node_limit.0 in
      rw
      (children_are t z.nested root_only (link_at t.nodes 0) (stops_end t z.nested z.nested.root) root-inside row.nodes 0 (rw root-first) refl row.tiles)
      row.tiles

  -- what is neither Root nor a container has none
  pub leaf-children : (k : ℕ) → container t.nodes k ≡ false → (k ≡ 0 → ⊥) → children t k ≡ []
  unfolding children first_child child_before holds container node_at
  leaf-children k c n =
      rw (ne_eqb (kind_at t k) 0 (λ e. n (root_only k e))) (go (eqb (kind_at t k) 3) (eqb (node_at t k).link k) refl c)
    where
      go : (x y : Bool) → eqb (node_at t k).link k ≡ y → (x && not y) ≡ false
          → walk_from t (cond x (child_before (length t.nodes) k (node_at t k).link) None) ≡ []
      go true true e d = rw (le-ltb (k + 1) (node_at t k).link (omega (arith, eqb-true (node_at t k).link k e))) (walk_done t)
      go true false e d = absurd (clash refl d)
      go false y e d = walk_done t

  -- each node between lies in the range of exactly one
  pub in_one_child : (k j : ℕ) → Container t.nodes k → k < j → j < link_at t.nodes k → InOne t.nodes (children t k) j
  in_one_child k j o h l = in_one t.nodes (children t k) (k + 1) (link_at t.nodes k) j (children_cover k o) (omega arith) l

  -- ---- depth

  -- at most 64 containers are open before a node
  pub open_limit : (k : ℕ) → k < length t.nodes → count (container t.nodes) k ≤ count (close t.nodes) k + 64
  open_limit k h =
      order (count (close t.nodes) k + 64) (count (container t.nodes) k) (λ d. absurd (z.kept.shallow (k, h, d))) (λ l. omega arith) (λ e. omega arith)

  -- none is open before a child of Root, and one more before each child of a container; at a container depth is left
  pub root_depth : (c : ℕ) → In c (children t 0) → Open t.nodes c 0
  unfolding node_at
  root_depth c i = root_open t.nodes z.nested root-first (children t 0) root_cover c i

  pub child_depth : (k h : ℕ) → Container t.nodes k → Open t.nodes k h → (c : ℕ) → In c (children t k) → Open t.nodes c (h + 1)
  child_depth k h o e c i = child_open t.nodes z.nested k h o e (children t k) (children_cover k o) c i

  pub left_depth : (k h d : ℕ) → Container t.nodes k → Open t.nodes k h → h + d ≡ 64 → 0 < d
  left_depth = depth_left t.nodes sound_of
