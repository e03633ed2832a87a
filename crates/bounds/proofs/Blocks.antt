-- What the events of blocks may cost.
use mathlib.Core.Path.{◌≡◌, refl}
use mathlib.Core.Bool.{Bool, true, false, cond, not, ◌||◌}
use mathlib.Core.List.{List, [], ◌∷◌, ◌++◌}
use Prim.Native.Nat.{ℕ, zero, suc, ◌+◌, ◌*◌, ◌≤◌}
use native.Mathlib.Omega.{arith}
use lib.ListN.{length}
use Rattle.parts.specs.Bytes.{Bytes, b}
use Rattle.tape.specs.File.{Tape, tape_of, info_at, number_at}
use Rattle.tape.specs.Tree.{children, up_to, without}
use Rattle.tape.specs.Name.{marker_name}
use Rattle.render.specs.Shape.{is_row, is_top_level_block_of, is_category_marker_of}
use Rattle.render.specs.First.{any}
use Rattle.render.specs.Children.{has_content_of}
use Rattle.render.specs.Note.{written_category, periph_alt, cell_align_of, align_word}
use Rattle.render.specs.declared.note.Align.{Align}
use Rattle.render.specs.declared.note.Align.TheVariants.{Start, Center, End}
use Rattle.attrs.specs.Attr.{attributes_of}
use Rattle.fold.specs.Fold.{fold_at}
use Rattle.tags.specs.Items.{Attr, start, empty, close, line, bytes_of}
use Rattle.admit.specs.Refusal.{Kept₇}
use Rattle.events.specs.Event.{Event, item, chapter, rawly, escaped, perhaps, collected, element}
use Rattle.events.specs.Walk.{style, styled, unclosed, as_inline, node_in_of, inside, is_cell_of, cell_in, cells_along, cells, row_e, rows_e, table_e, holder, sidebar_in, periph_in, Place, a_row_of, a_chapter_of, a_sidebar_of, a_periph_of, a_block, a_verse_of, dropped, place_of, is_figure, Blocks, block_turn, blocks_from, blocks_all_of, blocks_e}
use Rattle.bounds.proofs.Items.{attr_cost, attrs_cost, attrs_append, start_most, empty_most, close_most, line_most}
use Rattle.bounds.proofs.Light.{size_or, Light, nil, more, light_most, light_append, light_item, light_one, light_element, light_besides, perhaps_most}
use Rattle.bounds.proofs.Mass.{cost, under, size_of, sizes, mass, mass_is, cost-next, size_some, without-mass, cut-mass}
use Rattle.bounds.proofs.Parts.{category_limit, alt_limit, attributes_limit, style_limit, unclosed_limit, fold_limit}
use Rattle.bounds.proofs.Inside.{two-cost, more-cost, escaped-cost, own_cost, node_light, mass-more, text-cost, inline_light, under_next, inside_light}

-- a line, and events behind it
line_light : {m n : ℕ} (level : ℕ) {es : List Event} → level ≤ 100 → Light m es → 1000 + m ≤ n → Light n (item (line level) ∷ es)
line_light {m} {n} level h l s =
    let f : length (bytes_of (line level)) ≤ 1000 = omega (arith, line_most level) in more 1000 m n f l s

-- a line and a close
ends_light : (level i : ℕ) → level ≤ 100 → Light 2000 (item (line level) ∷ item (close i) ∷ [])
ends_light level i h = line_light {m = 1000} level h (light_item (close i) (omega (arith, close_most i))) (omega arith)

-- a start, events, a line and a close
held_light : {m n : ℕ} (level i : ℕ) (qs : List Attr) {es : List Event} → level ≤ 100 → Light m es → 4000 + attrs_cost qs + m ≤ n
    → Light n (item (start i qs) ∷ (es ++ (item (line level) ∷ item (close i) ∷ [])))
held_light {m} {n} level i qs h l s =
    more (200 + attrs_cost qs) (m + 2000) n (start_most i qs) (light_append l (ends_light level i h) (omega arith)) (omega arith)

align_most : (a : Align) → length (align_word a) ≤ 10
unfolding align_word
align_most Start = omega arith
align_most Center = omega arith
align_most End = omega arith

row-style : attrs_cost (styled (b "tr")) ≤ 100
unfolding styled attrs_cost attr_cost rawly
row-style = omega arith

run-style : attrs_cost (styled (b "p")) ≤ 100
unfolding styled attrs_cost attr_cost rawly
run-style = omega arith

no_attrs : attrs_cost [] ≡ 0
unfolding attrs_cost
no_attrs = refl

module _ (file : Bytes) (z : Kept₇ file) where
  abbrev t : Tape
  t = tape_of file

  abbrev inner : ℕ → ℕ
  inner k = sizes t (children t k)

  -- ---- tables

  own : (d k : ℕ) → 8000000000 + 8000000000 * inner k + under d (inner k) ≤ cost d (size_of t k)
  own d k = own_cost file z d (inside t d) (inside_light file z d) k

  cell_light : (d level k : ℕ) → level ≤ 100 → Light (cost d (size_of t k)) (cell_in (inside t d) t level k)
  unfolding cell_in
  cell_light d level k h = line_light {m = 1000000000 + under d (inner k)} level h (go (has_content_of t k)) (omega (arith, own d k))
    where
      w : Bytes
      w = align_word (cell_align_of (marker_name t k))

      qs : List Attr
      qs = style t k ∷ escaped (b "align") w ∷ []

      qs_cost : attrs_cost qs ≤ 40000000
      qs_cost = omega (arith, two-cost (style t k) (escaped (b "align") w), escaped-cost (b "align") w, align_most (cell_align_of (marker_name t k)), style_limit file z k)

      go : (x : Bool) → Light (1000000000 + under d (inner k)) (cond x (element 12 qs (inside t d as_inline k false)) (item (empty 12 qs) ∷ []))
      go true = light_element 12 qs (inside_light file z d as_inline k false) (omega (arith, qs_cost))
      go false = light_item (empty 12 qs) (omega (arith, qs_cost, empty_most 12 qs))

  along_light : (d level : ℕ) → level ≤ 100 → (ks : List ℕ) → Light (mass t d ks) (cells_along (inside t d) t level ks)
  unfolding cells_along
  along_light d level h [] = nil
  along_light d level h (k ∷ ks) = light_append (go (is_cell_of t k)) (along_light d level h ks) (omega (arith, mass-more file z d k ks))
    where
      go : (x : Bool) → Light (cost d (size_of t k)) (cond x (cell_in (inside t d) t level k) [])
      go true = cell_light d level k h
      go false = nil

  cells_light : (d level k : ℕ) → level ≤ 100 → Light (under d (inner k)) (cells t d level k)
  unfolding cells
  cells_light zero level k h = nil
  cells_light (suc d) level k h = light_most (along_light d level h (children t k)) (omega (arith, under_next file z d (children t k)))

  row_light : (d level k : ℕ) → level + 2 ≤ 100 → Light (cost d (size_of t k)) (row_e t d level k)
  unfolding row_e
  row_light d level k low =
      line_light {m = 5000 + under d (inner k)} (level + 1) (omega arith)
      (held_light (level + 1) 11 (styled (b "tr")) (omega arith) (cells_light d (level + 2) k low) (omega (arith, row-style))) (omega (arith, own d k))

  rows_light : (d level : ℕ) → level + 2 ≤ 100 → (ks : List ℕ) → Light (mass t d ks) (rows_e t d level ks)
  unfolding rows_e
  rows_light d level low [] = nil
  rows_light d level low (k ∷ ks) = light_append (row_light d level k low) (rows_light d level low ks) (omega (arith, mass-more file z d k ks))

  table_light : (d level : ℕ) → level + 2 ≤ 100 → (ks : List ℕ) → Light (10000 + mass t d ks) (table_e t d level ks)
  unfolding table_e
  table_light d level low ks =
      line_light {m = 5000 + mass t d ks} level (omega arith)
      (held_light level 10 [] (omega arith) (rows_light d level low ks) (omega (arith, no_attrs))) (omega arith)

  -- ---- sidebars and periphs

  mass-next : (d : ℕ) (ks : List ℕ) → mass t (suc d) ks ≡ 8000000000 * sizes t ks + mass t d ks
  mass-next d ks = omega (arith, mass_is t (suc d) ks, mass_is t d ks, cost-next d (sizes t ks))

  -- what a node may cost around blocks inside it
  around : (d k : ℕ) → 8000000000 + 8000000000 * inner k + mass t d (children t k) ≤ cost (suc d) (size_of t k)
  around d k = omega (arith, own (suc d) k, under_next file z d (children t k))

  module _ (d : ℕ) (blocks : List ℕ → List Event) (light : (ks : List ℕ) → Light (mass t d ks) (blocks ks)) where
    holder_light : (level i : ℕ) (qs : List Attr) (ks : List ℕ) → level ≤ 100 → Light (4000 + attrs_cost qs + mass t d ks) (holder blocks t level i qs ks)
    unfolding holder
    holder_light level i qs ks h = go (any (λ k. is_top_level_block_of t k || is_row t k) ks)
      where
        go : (x : Bool)
            → Light (4000 + attrs_cost qs + mass t d ks) (cond x (item (start i qs) ∷ (blocks ks ++ (item (line level) ∷ item (close i) ∷ []))) (item (empty i qs) ∷ []))
        go true = held_light level i qs h (light ks) (omega arith)
        go false = light_item (empty i qs) (omega (arith, empty_most i qs))

    sidebar_light : (level k : ℕ) → level ≤ 100 → Light (1000000000 + mass t d (children t k)) (sidebar_in blocks t level k)
    unfolding sidebar_in
    sidebar_light level k h =
        let p = perhaps (b "category") (written_category t k) in
        let qs = style t k ∷ (p ++ unclosed t k) in
        light_most (holder_light level 13 qs (without (is_category_marker_of t) (children t k)) h)
        (omega (
          arith,
          without-mass t d (is_category_marker_of t) (children t k),
          more-cost (style t k) (p ++ unclosed t k),
          attrs_append p (unclosed t k),
          style_limit file z k,
          unclosed_limit file z k,
          perhaps_most (b "category") (written_category t k),
          category_limit file z k,
        ))

    periph_light : (level k : ℕ) → level ≤ 100 → Light (1000000000 + 50000000 * inner k + mass t d (children t k)) (periph_in blocks t level k)
    unfolding periph_in
    periph_light level k h =
        let p = perhaps (b "alt") (periph_alt t k) in
        let q = collected (attributes_of t k (b "periph")) in
        light_most (holder_light level 14 (p ++ q) (children t k) h)
        (omega (arith, attrs_append p q, perhaps_most (b "alt") (periph_alt t k), alt_limit file z k, attributes_limit file z k (b "periph")))

    -- ---- one turn

    record Turned (k : ℕ) (ks : List ℕ) (r : Blocks) : Type 0 where
      weight : ℕ
      written : Light weight r.written
      left : weight + mass t (suc d) r.rest ≤ mass t (suc d) (k ∷ ks)

    turn_light : (level : ℕ) → level + 2 ≤ 100 → (k : ℕ) (ks : List ℕ) (p : Place) → Turned k ks (block_turn blocks t d level k ks p)
    unfolding block_turn
    turn_light level low k ks a_row_of =
        let p : ℕ → Bool = λ i. not (is_row t i) in
        record {
          weight = 10000 + mass t d (k ∷ up_to p ks);
          written = table_light d level low (k ∷ up_to p ks);
          left =
              omega (
                arith,
                cut-mass t (suc d) p ks,
                mass-next d (up_to p ks),
                mass-more file z d k (up_to p ks),
                mass-more file z (suc d) k ks,
                cost-next d (size_of t k),
                size_some file z k,
              );
        }
    turn_light level low k ks a_chapter_of =
        let f = fold_at t 6 ks in
        let w = 400000000 + 6 * (size_or f.alt + size_or f.published) in
        record {
          weight = 1000 + w;
          written = line_light {m = w} level (omega arith) (light_one {e = chapter (number_at t k) f.alt f.published} (omega arith)) (omega arith);
          left = omega (arith, mass-more file z (suc d) k ks, text-cost file z (suc d) k, fold_limit file z (suc d) 6 ks);
        }
    turn_light level low k ks a_sidebar_of =
        record {
          weight = 2000000000 + mass t d (children t k);
          written = line_light level (omega arith) (sidebar_light level k (omega arith)) (omega arith);
          left = omega (arith, mass-more file z (suc d) k ks, around d k);
        }
    turn_light level low k ks a_periph_of =
        record {
          weight = 2000000000 + 50000000 * inner k + mass t d (children t k);
          written = line_light level (omega arith) (periph_light level k (omega arith)) (omega arith);
          left = omega (arith, mass-more file z (suc d) k ks, around d k);
        }
    turn_light level low k ks a_block =
        record {
          weight = 1000 + cost d (size_of t k);
          written = light_besides (is_figure t (info_at t k)) (line_light level (omega arith) (node_light file z d (inside t d) (inside_light file z d) k false) (omega arith));
          left = omega (arith, mass-more file z (suc d) k ks, cost-next d (size_of t k), size_some file z k);
        }
    turn_light level low k ks a_verse_of =
        let p = is_top_level_block_of t in
        let run = k ∷ up_to p ks in
        record {
          weight = 2000 + mass t d run;
          written =
              line_light {m = 1000 + mass t d run} level (omega arith)
              (light_element 5 (styled (b "p")) (inline_light file z d (node_in_of (inside t d) t) (node_light file z d (inside t d) (inside_light file z d)) false true run) (omega (arith, run-style)))
              (omega arith);
          left =
              omega (
                arith,
                cut-mass t (suc d) p ks,
                mass-next d (up_to p ks),
                mass-more file z d k (up_to p ks),
                mass-more file z (suc d) k ks,
                cost-next d (size_of t k),
                size_some file z k,
              );
        }
    turn_light level low k ks dropped = record { weight = 0; written = nil; left = omega (arith, mass-more file z (suc d) k ks) }

    from_light : (level : ℕ) → level + 2 ≤ 100 → (n : ℕ) (ks : List ℕ) → Light (mass t (suc d) ks) (blocks_from blocks t d level n ks)
    unfolding blocks_from
    from_light level low zero ks = nil
    from_light level low (suc n) [] = nil
    from_light level low (suc n) (k ∷ ks) =
        let r : Blocks = block_turn blocks t d level k ks (place_of t k) in
        let l = turn_light level low k ks (place_of t k) in
        light_append l.written (from_light level low n r.rest) l.left

  -- no line of blocks at a level, with fuel for so many containers below it, is indented further than the fuel allows
  pub blocks_light : (d level : ℕ) → level + d ≤ 65 → (ks : List ℕ) → Light (mass t (suc d) ks) (blocks_e t d level ks)
  unfolding blocks_e blocks_all_of
  blocks_light zero level h ks = from_light zero (λ _. []) (λ is. nil) level (omega arith) (length ks) ks
  blocks_light (suc d) level h ks =
      from_light (suc d) (blocks_e t d (level + 1)) (blocks_light d (level + 1) (omega arith)) level (omega arith) (length ks) ks
