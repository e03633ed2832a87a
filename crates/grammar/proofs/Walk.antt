-- One law of the walk: its events are grown by the grammar, with at most 131 elements around one another.
use mathlib.Core.Path.{◌≡◌, refl, subst}
use mathlib.Core.Bool.{Bool, true, false, cond, not, ◌&&◌, ◌||◌}
use mathlib.Core.List.{List, [], ◌∷◌, ◌++◌, append_assoc}
use mathlib.Core.Option.{Option, none as nothing, some}
use Prim.Native.Nat.{ℕ, zero, suc, ◌+◌}
use native.Mathlib.Omega.{arith}
use lib.ListN.{length}
use lib.Dec.{eqb, ltb}
use borrow.Author.Tests.{eqb-true}
use Rattle.parts.specs.Bytes.{Bytes}
use Rattle.parts.proofs.Laws.{and-true}
use Rattle.texts.specs.Text.{body_of, has_break, written, segments}
use Rattle.texts.specs.declared.Normalized.{Normalized}
use Rattle.tape.specs.File.{Tape, kind_at, node_at, text_at_of, info_at, entry_at, bears_marker}
use Rattle.tape.specs.Tree.{children, first_child, up_to, without, found}
use Rattle.tape.specs.Found.{Step}
use Rattle.std.specs.Prelude.{None, Some}
use Rattle.render.specs.Shape.{is_open, is_chapter_of, is_verse_of, is_row, is_element_of, is_top_level_block_of, is_category_marker_of}
use Rattle.render.specs.First.{any}
use Rattle.render.specs.Follow.{followed}
use Rattle.render.specs.Children.{has_content_of}
use Rattle.figure.specs.Figure.{legacy_at}
use Rattle.tags.specs.Items.{Attr, start, close, line}
use Rattle.events.specs.Event.{Event, item, element, asided, besides}
use Rattle.events.specs.Walk.{unbroken, breaks, segmented, broken, Manner, as_inline, as_note, Role, unknown_block, unknown_inline, unwritten, figure, ref, id, note, ms, char, para, role_of, link_of, linked, figure_as, marker_as, node_in_of, Child, anchor, words, passed, marker, child_of, note_child_of, normalized, inline_turn, inline_from, inline_all, note_text, note_turn_of, note_all, inside, is_cell_of, is_known, cell_in, cells_along, cells, row_e, rows_e, table_e, holder, sidebar_in, periph_in, Place, a_row_of, a_chapter_of, a_sidebar_of, a_periph_of, a_block, a_verse_of, dropped, place_of, is_figure, block_turn, blocks_from, blocks_all_of, blocks_e, events_within, events_of, NoteChild, direct, left_out, entered}
use Rattle.grammar.specs.Grammar.{Marked, Given, unknown-para, unknown-char, old_figure, a_figure, a_ref, a_link, a_note, an_ms, a_char, a_para, a_run, a_table, a_row, a_cell, a_sidebar, a_periph, a_break, a_text, a_line, an_empty, a_chapter, a_verse, an_aside, a_back, Grown, none, leaf, a_book, around, twice}

-- ---- lists of events

-- room for one more
pub taller : {t : Tape} {h : ℕ} {es : List Event} → Grown t h es → Grown t (suc h) es
taller none = none
taller (leaf l g) = leaf l (taller g)
taller (a_book k o r g) = a_book k o r (taller g)
taller (around a g f) = around a (taller g) (taller f)

pub grown_append : {t : Tape} {h : ℕ} {es fs : List Event} → Grown t h es → Grown t h fs → Grown t h (es ++ fs)
grown_append none g = g
grown_append (leaf l f) g = leaf l (grown_append f g)
grown_append (a_book k o r f) g = a_book k o r (grown_append f g)
grown_append (around a f i) g = rw append_assoc (around a f (grown_append i g))

grown_if : {t : Tape} {h : ℕ} (c : Bool) (es fs : List Event) → (c ≡ true → Grown t h es) → Grown t h fs → Grown t h (cond c es fs)
grown_if true es fs g f = g refl
grown_if false es fs g f = f

grown_element : {t : Tape} {h n : ℕ} {qs : List Attr} {es : List Event} → Given t n qs → Grown t h es → Grown t (suc h) (element n qs es)
unfolding element
grown_element a g = around a g none

grown_asided : {t : Tape} {h : ℕ} {es : List Event} → Grown t h es → Grown t h (asided es)
unfolding asided
grown_asided g = leaf an_aside (grown_append g (leaf a_back none))

grown_besides : {t : Tape} {h : ℕ} (one : Bool) {es : List Event} → Grown t h es → Grown t h (besides one es)
unfolding besides
grown_besides true g = grown_asided g
grown_besides false g = g

-- an element whose close stands on a line of its own
grown_lined : {t : Tape} {h n : ℕ} {qs : List Attr} {es : List Event} (level : ℕ) → Given t n qs → Grown t h es
    → Grown t (suc h) (item (start n qs) ∷ (es ++ (item (line level) ∷ item (close n) ∷ [])))
grown_lined {t} {h} {n} {qs} {es} level a g =
    subst (λ (fs : List Event). Grown t (suc h) (item (start n qs) ∷ fs)) (append_assoc es (item (line level) ∷ []) (item (close n) ∷ []))
    (around a (grown_append g (leaf a_line none)) none)

-- ---- which nodes bear a marker

open_marked : (t : Tape) (k : ℕ) → is_open t k ≡ true → Marked t k
unfolding bears_marker
open_marked t k e = rw (eqb-true (kind_at t k) 3 e)

element-marked : (t : Tape) (k n : ℕ) → is_element_of n (info_at t k) ≡ true → Marked t k
unfolding info_at is_element_of
element-marked t k n e = go (bears_marker (kind_at t k)) (ltb (node_at t k).marker (length t.entries)) e
  where
    go : (z w : Bool) → is_element_of n (cond (z && w) (Some (entry_at t (node_at t k).marker)) None) ≡ true → z ≡ true
    go true w e = refl
    go false w e = absurd (let no_way : ◌≡◌ {A = ℕ} 0 1 = cc in omega arith)

sidebar-marked : (t : Tape) (k : ℕ) → place_of t k ≡ a_sidebar_of → Marked t k
unfolding place_of
sidebar-marked t k e = element-marked t k 1 (go (is_row t k) (is_chapter_of t k) (is_element_of 1 (info_at t k)) (is_element_of 2 (info_at t k)) (is_top_level_block_of t k) (is_verse_of t k) e)
  where
    go : (r c s p i v : Bool) → cond r a_row_of (cond c a_chapter_of (cond s a_sidebar_of (cond p a_periph_of (cond i a_block (cond v a_verse_of dropped))))) ≡ a_sidebar_of → s ≡ true
    go true c s p i v e = absurd (let no_way : ◌≡◌ {A = ℕ} 0 1 = cc in omega arith)
    go false true s p i v e = absurd (let no_way : ◌≡◌ {A = ℕ} 0 1 = cc in omega arith)
    go false false true p i v e = refl
    go false false false true i v e = absurd (let no_way : ◌≡◌ {A = ℕ} 0 1 = cc in omega arith)
    go false false false false true v e = absurd (let no_way : ◌≡◌ {A = ℕ} 0 1 = cc in omega arith)
    go false false false false false true e = absurd (let no_way : ◌≡◌ {A = ℕ} 0 1 = cc in omega arith)
    go false false false false false false e = absurd (let no_way : ◌≡◌ {A = ℕ} 0 1 = cc in omega arith)

anchor_verse : (n : ℕ) → child_of n ≡ anchor → eqb n 7 ≡ true
unfolding child_of
anchor_verse n e = go (eqb n 7) (eqb n 1) (eqb n 2 || eqb n 8) e
  where
    go : (v w p : Bool) → cond v anchor (cond w words (cond p passed marker)) ≡ anchor → v ≡ true
    go true w p e = refl
    go false true p e = absurd (let no_way : ◌≡◌ {A = ℕ} 0 1 = cc in omega arith)
    go false false true e = absurd (let no_way : ◌≡◌ {A = ℕ} 0 1 = cc in omega arith)
    go false false false e = absurd (let no_way : ◌≡◌ {A = ℕ} 0 1 = cc in omega arith)

module _ (t : Tape) where
  -- ---- texts

  grown_unbroken : {h : ℕ} (s : Bytes) (n : Normalized) → Grown t h (unbroken s n)
  unfolding unbroken
  grown_unbroken s n = grown_if n.shows _ [] (λ _. leaf a_text none) none

  grown_breaks : {h : ℕ} (gs : List Bytes) → Grown t h (breaks gs)
  unfolding breaks
  grown_breaks [] = none
  grown_breaks (g ∷ gs) = leaf (an_empty a_break) (leaf a_text (grown_breaks gs))

  grown_segmented : {h : ℕ} (gs : List Bytes) → Grown t h (segmented gs)
  unfolding segmented
  grown_segmented [] = none
  grown_segmented (g ∷ gs) = leaf a_text (grown_breaks gs)

  grown_broken : {h : ℕ} (s : Bytes) (n : Normalized) → Grown t h (broken s n)
  unfolding broken
  grown_broken s n = grown_if (has_break (body_of s)) _ _ (λ _. grown_segmented (segments s)) (grown_unbroken s n)

  -- ---- one node

  grown_linked : {h : ℕ} (o : Option Bytes) (es : List Event) → Grown t h es → Grown t (suc h) (linked o es)
  unfolding linked
  grown_linked nothing es g = taller g
  grown_linked (some loc) es g = grown_element (a_link loc) g

  module _ (h : ℕ) (within : Manner → ℕ → Bool → List Event) (g : (m : Manner) (k : ℕ) (outer : Bool) → Grown t h (within m k outer)) where
    grown_figure : (k : ℕ) (outer : Bool) (s : Step) → Grown t (suc h) (figure_as within t k outer s)
    unfolding figure_as
    grown_figure k outer (Some a) = grown_asided (grown_element (old_figure k a.at) (leaf a_text none))
    grown_figure k outer None = grown_asided (grown_element (a_figure k) (g as_inline k outer))

    grown_marker : (k : ℕ) (outer : Bool) → is_open t k ≡ true → (r : Role) → role_of t k ≡ r → Grown t (suc (suc h)) (marker_as within t k outer r)
    unfolding marker_as
    grown_marker k outer o unknown_block e = taller (grown_element (unknown-para k (open_marked t k o)) (g as_inline k outer))
    grown_marker k outer o unknown_inline e = taller (grown_element (unknown-char k (open_marked t k o)) (g as_inline k outer))
    grown_marker k outer o unwritten e = none
    grown_marker k outer o figure e = taller (grown_figure k outer (legacy_at t k))
    grown_marker k outer o ref e = taller (grown_element (a_ref k) (g as_inline k outer))
    grown_marker k outer o id e = a_book k o e none
    grown_marker k outer o note e = taller (grown_asided (grown_element (a_note k (open_marked t k o)) (g as_note k outer)))
    grown_marker k outer o ms e = leaf (an_empty (an_ms k (open_marked t k o))) none
    grown_marker k outer o char e = grown_element (a_char k (open_marked t k o)) (grown_linked (link_of t k) _ (g as_inline k outer))
    grown_marker k outer o para e =
        let a : Given t 5 _ = a_para k (open_marked t k o) in
        grown_if (found (first_child t k)) _ _ (λ _. taller (grown_element a (g as_inline k outer))) (leaf (an_empty a) none)

    grown_node : (k : ℕ) (outer : Bool) → Grown t (suc (suc h)) (node_in_of within t k outer)
    unfolding node_in_of
    grown_node k outer =
        grown_if (is_chapter_of t k) _ _ (λ _. leaf a_chapter none)
        (grown_if (is_verse_of t k) _ _ (λ e. leaf (a_verse k e) none)
        (grown_if (is_open t k) _ [] (λ e. grown_marker k outer e (role_of t k) refl) none))

  -- ---- children

  module _ (h : ℕ) (node : ℕ → Bool → List Event) (g : (k : ℕ) (outer : Bool) → Grown t h (node k outer)) where
    grown_turn : (behind trim : Bool) (k : ℕ) (ks : List ℕ) (c : Child) → child_of (kind_at t k) ≡ c → Grown t h (inline_turn node t behind trim k ks c).written
    unfolding inline_turn
    grown_turn behind trim k ks anchor e = leaf (a_verse k (anchor_verse (kind_at t k) e)) none
    grown_turn behind trim k ks words e = grown_broken (text_at_of t k) (normalized t k (text_at_of t k) trim behind)
    grown_turn behind trim k ks passed e = none
    grown_turn behind trim k ks marker e = g k behind

    grown_inline : (behind : Bool) (n : ℕ) (trim : Bool) (ks : List ℕ) → Grown t h (inline_from node t behind n trim ks)
    unfolding inline_from
    grown_inline behind zero trim ks = none
    grown_inline behind (suc n) trim [] = none
    grown_inline behind (suc n) trim (k ∷ ks) = grown_append (grown_turn behind trim k ks (child_of (kind_at t k)) refl) (grown_inline behind n _ _)

    grown_all : (behind trim : Bool) (ks : List ℕ) → Grown t h (inline_all node t behind trim ks)
    unfolding inline_all
    grown_all behind trim ks = grown_inline behind (length ks) trim ks

    grown_note_turn : (first : ℕ) (behind trim : Bool) (k : ℕ) (c : NoteChild) → Grown t h (note_turn_of node t first behind trim k c).written
    unfolding note_turn_of
    grown_note_turn first behind trim k direct = grown_unbroken (note_text t first k) (normalized t k (note_text t first k) trim behind)
    grown_note_turn first behind trim k left_out = none
    grown_note_turn first behind trim k entered = g k behind

    grown_note : (first : ℕ) (behind trim : Bool) (ks : List ℕ) → Grown t h (note_all node t first behind trim ks)
    unfolding note_all
    grown_note first behind trim [] = none
    grown_note first behind trim (k ∷ ks) =
        grown_append (grown_note_turn first behind trim k (note_child_of t k)) (grown_note first behind (note_turn_of node t first behind trim k (note_child_of t k)).trim ks)

  -- ---- by depth: a container writes at most two elements, a char and its ref

  grown_inside : (d : ℕ) (m : Manner) (k : ℕ) (outer : Bool) → Grown t (twice d) (inside t d m k outer)
  unfolding inside twice
  grown_inside zero m k outer = none
  grown_inside (suc d) as_inline k outer =
      grown_all (twice (suc d)) (node_in_of (inside t d) t) (grown_node (twice d) (inside t d) (grown_inside d)) (followed t k outer) true (children t k)
  grown_inside (suc d) as_note k outer =
      grown_note (twice (suc d)) (node_in_of (inside t d) t) (grown_node (twice d) (inside t d) (grown_inside d)) (k + 1) (followed t k outer) true (children t k)

  -- ---- blocks

  grown_cell : (d level k : ℕ) → is_open t k ≡ true → Grown t (suc (twice d)) (cell_in (inside t d) t level k)
  unfolding cell_in
  grown_cell d level k o =
      let a : Given t 12 _ = a_cell k (open_marked t k o) in
      leaf a_line (grown_if (has_content_of t k) _ _ (λ _. grown_element a (grown_inside d as_inline k false)) (leaf (an_empty a) none))

  grown_along : (d level : ℕ) (ks : List ℕ) → Grown t (suc (twice d)) (cells_along (inside t d) t level ks)
  unfolding cells_along is_cell_of
  grown_along d level [] = none
  grown_along d level (k ∷ ks) =
      grown_append (grown_if (is_open t k && is_known (info_at t k)) _ [] (λ e. grown_cell d level k (and-true (is_open t k) _ e).0) none) (grown_along d level ks)

  grown_cells : (d level k : ℕ) → Grown t (suc (twice d)) (cells t d level k)
  unfolding cells twice
  grown_cells zero level k = none
  grown_cells (suc d) level k = taller (taller (grown_along d level (children t k)))

  grown_row : (d level k : ℕ) → Grown t (suc (suc (twice d))) (row_e t d level k)
  unfolding row_e
  grown_row d level k = leaf a_line (grown_lined (level + 1) a_row (grown_cells d (level + 2) k))

  grown_rows : (d level : ℕ) (ks : List ℕ) → Grown t (suc (suc (twice d))) (rows_e t d level ks)
  unfolding rows_e
  grown_rows d level [] = none
  grown_rows d level (k ∷ ks) = grown_append (grown_row d level k) (grown_rows d level ks)

  grown_table : (d level : ℕ) (ks : List ℕ) → Grown t (suc (suc (suc (twice d)))) (table_e t d level ks)
  unfolding table_e
  grown_table d level ks = leaf a_line (grown_lined level a_table (grown_rows d level ks))

  module _ (d level : ℕ) (blocks : List ℕ → List Event) (g : (ks : List ℕ) → Grown t (suc (suc (twice d))) (blocks ks)) where
    grown_holder : (n : ℕ) (qs : List Attr) (ks : List ℕ) → Given t n qs → Grown t (suc (suc (suc (twice d)))) (holder blocks t level n qs ks)
    unfolding holder
    grown_holder n qs ks a =
        grown_if (any (λ k. is_top_level_block_of t k || is_row t k) ks) _ _ (λ _. grown_lined level a (g ks)) (leaf (an_empty a) none)

    grown_block : (k : ℕ) (ks : List ℕ) (p : Place) → place_of t k ≡ p → Grown t (suc (suc (suc (twice d)))) (block_turn blocks t d level k ks p).written
    unfolding block_turn sidebar_in periph_in
    grown_block k ks a_row_of e = grown_table d level (k ∷ up_to (λ i. not (is_row t i)) ks)
    grown_block k ks a_chapter_of e = leaf a_line (leaf a_chapter none)
    grown_block k ks a_sidebar_of e =
        leaf a_line (grown_holder 13 _ (without (is_category_marker_of t) (children t k)) (a_sidebar k (sidebar-marked t k e)))
    grown_block k ks a_periph_of e = leaf a_line (grown_holder 14 _ (children t k) (a_periph k))
    grown_block k ks a_block e = grown_besides (is_figure t (info_at t k)) (leaf a_line (taller (grown_node (twice d) (inside t d) (grown_inside d) k false)))
    grown_block k ks a_verse_of e =
        leaf a_line (grown_element a_run
        (grown_all (suc (suc (twice d))) (node_in_of (inside t d) t) (grown_node (twice d) (inside t d) (grown_inside d)) false true (k ∷ up_to (is_top_level_block_of t) ks)))
    grown_block k ks dropped e = none

    grown_from : (n : ℕ) (ks : List ℕ) → Grown t (suc (suc (suc (twice d)))) (blocks_from blocks t d level n ks)
    unfolding blocks_from
    grown_from zero ks = none
    grown_from (suc n) [] = none
    grown_from (suc n) (k ∷ ks) = grown_append (grown_block k ks (place_of t k) refl) (grown_from n _)

  -- a sidebar or periph writes one, a table three, a run of verses one around two
  grown_blocks : (d level : ℕ) (ks : List ℕ) → Grown t (suc (suc (suc (twice d)))) (blocks_e t d level ks)
  unfolding blocks_e blocks_all_of twice
  grown_blocks zero level ks = grown_from zero level (λ _. []) (λ _. none) (length ks) ks
  grown_blocks (suc d) level ks = grown_from (suc d) level (blocks_e t d (level + 1)) (λ is. taller (grown_blocks d (level + 1) is)) (length ks) ks

  -- the events of every tape
  pub walk_grown : Grown t 131 (events_of t)
  unfolding events_of events_within twice
  walk_grown = grown_blocks 64 1 (children t 0)
