-- Cells, rows and tables from their parts, over desks.
use mathlib.Core.Path.{◌≡◌, refl, sym, ap, ◌∙◌}
use mathlib.Core.Bool.{Bool, true, false, cond}
use mathlib.Core.List.{List, [], ◌∷◌, ◌++◌}
use Prim.Native.Nat.{ℕ, zero, suc, ◌+◌, ◌-◌}
use native.Mathlib.Omega.{arith}
use Rattle.parts.specs.Bytes.{Bytes}
use Rattle.tape.specs.File.{Tape}
use Rattle.tape.specs.Tree.{first_child, next_sibling, walk_from, children, up_to}
use Rattle.tape.specs.declared.Cursor.{Cursor}
use Rattle.tape.specs.Found.{Step}
use Rattle.std.specs.Prelude.{None, Some}
use Rattle.tape.proofs.Walk.{walk_turn, walk_end}
use Rattle.render.specs.Shape.{is_row}
use Rattle.render.specs.Children.{has_content_of}
use Rattle.tags.specs.Items.{start, empty, close, line}
use Rattle.events.specs.Event.{Event, item, element}
use Rattle.events.specs.Walk.{as_inline, inside, is_cell_of, cell_in, cells_along, cells, row_e, rows_e, table_e}
use Rattle.events.specs.Emit.{Desk, emit, emit_all}
use Rattle.events.proofs.Emits.{emit-append, between}
use Rattle.lists.specs.Span.{nodes_in, member_of_of}
use Rattle.lists.specs.declared.Span.{Span}
use Rattle.lists.specs.declared.Member.{Member}
use Rattle.lists.specs.declared.Member.TheVariants.{End, Skipped, Listed}
use Rattle.lists.proofs.Nodes.{nodes_done, nodes-cut, nodes_skip, nodes_go}
use Rattle.desk.specs.Desk.{desk_of}
use Rattle.desk.specs.Stroke.{closes, strokes_of, Drew}
use Rattle.desk.proofs.Strokes.{drew_item}
use Rattle.roles.specs.Roles.{manner_by}
use Rattle.holders.specs.Rows.{cell_attrs, row_opens, row_closes, table_opens, table_closes}
use Rattle.tables.specs.Rows.{is_no_row}
use Rattle.tables.proofs.Spans.{up-row, up-other, up_none}
use Rattle.desk.specs.declared.Desk.{Desk as Held}

-- ---- a cell

cell-around : (t : Tape) (k : ℕ) (d : Desk) {e f g : Desk} (ys : List Event) → e ≡ emit d (item (start 12 (cell_attrs t k))) → f ≡ emit_all e ys → g ≡ emit f (item (close 12))
    → g ≡ emit_all d (element 12 (cell_attrs t k) ys)
unfolding element emit_all
cell-around t k d ys ee ef eg = between d (item (start 12 (cell_attrs t k)) ∷ []) ys (item (close 12) ∷ []) ee ef eg

-- the desk behind a cell with something in it
pub cell_full : (t : Tape) (k depth : ℕ) (at a z r : ℕ) (d d₁ d₂ d₃ : Held) (out mid now last : Bytes)
    → desk_of t.source d₁ mid ≡ emit (desk_of t.source d out) (item (start 12 (cell_attrs t k)))
    → desk_of t.source d₂ now ≡ emit_all (desk_of t.source d₁ mid) (inside t depth (manner_by false) k false)
    → Drew d₂ now (closes 12 ∷ []) d₃ last
    → desk_of t.source d₃ last
    ≡ emit_all (desk_of t.source d out) (element 12 (cell_attrs t k) (inside t depth as_inline k false))
unfolding manner_by strokes_of
cell_full t k depth at a z r d d₁ d₂ d₃ out mid now last ea ez er =
    cell-around t k (desk_of t.source d out) (inside t depth as_inline k false) ea ez (drew_item d₂ d₃ (close 12) er t.source)

module _ (t : Tape) (k depth level a : ℕ) (d d₁ d₂ : Held) (out mid last : Bytes)
    (ea : (source : Bytes) → desk_of source d₁ mid ≡ emit (desk_of source d out) (item (line level))) {x : Bool} (ex : x ≡ has_content_of t k) where
  pub cell_with : x ≡ true
      → desk_of t.source d₂ last ≡ emit_all (desk_of t.source d₁ mid) (element 12 (cell_attrs t k) (inside t depth as_inline k false))
      → desk_of t.source d₂ last ≡ emit_all (desk_of t.source d out) (cell_in (inside t depth) t level k)
  unfolding cell_in emit_all
  cell_with hx er =
      rw (← ex, hx) (er ∙ ap (λ (w : Desk). emit_all w (element 12 (cell_attrs t k) (inside t depth as_inline k false))) (ea t.source))

  pub cell-without : x ≡ false
      → desk_of t.source d₂ last ≡ emit (desk_of t.source d₁ mid) (item (empty 12 (cell_attrs t k)))
      → desk_of t.source d₂ last ≡ emit_all (desk_of t.source d out) (cell_in (inside t depth) t level k)
  unfolding cell_in emit_all
  cell-without hx er = rw (← ex, hx) (er ∙ ap (λ (w : Desk). emit w (item (empty 12 (cell_attrs t k)))) (ea t.source))

-- ---- cells along a row

module _ (t : Tape) (depth level : ℕ) (d : Desk) where
  -- what the cells from a step on still give
  unfoldable pub cells_on : Step → Desk
  cells_on s = emit_all d (cells_along (inside t depth) t level (walk_from t s))

module _ (t : Tape) (depth level : ℕ) (d₀ d : Desk) (s₀ s : Step) (inv : cells_on t depth level d s ≡ cells_on t depth level d₀ s₀) where
  pub cells_end : s ≡ None → d ≡ emit_all d₀ (cells_along (inside t depth) t level (walk_from t s₀))
  unfolding cells_on cells_along emit_all
  cells_end e = sym (ap (λ (ks : List ℕ). emit_all d (cells_along (inside t depth) t level ks)) (walk_end t e)) ∙ inv

  module _ (c : Cursor) (es : s ≡ Some c) {n : Step} (en : n ≡ next_sibling t c.at) {x : Bool} (ex : x ≡ is_cell_of t c.at) where
    here : emit_all d (cond x (cell_in (inside t depth) t level c.at) [] ++ cells_along (inside t depth) t level (walk_from t n)) ≡ cells_on t depth level d₀ s₀
    unfolding cells_on cells_along
    here =
        ap (λ (y : Bool). emit_all d (cond y (cell_in (inside t depth) t level c.at) [] ++ cells_along (inside t depth) t level (walk_from t n))) ex
        ∙ sym (ap (λ (ks : List ℕ). emit_all d (cells_along (inside t depth) t level ks)) (walk_turn t c es en)) ∙ inv

    pub cells-turn : {e : Desk} → x ≡ true → e ≡ emit_all d (cell_in (inside t depth) t level c.at) → cells_on t depth level e n ≡ cells_on t depth level d₀ s₀
    unfolding cells_on
    cells-turn hx ee =
        ap (λ (u : Desk). emit_all u (cells_along (inside t depth) t level (walk_from t n))) ee
        ∙ sym (emit-append d (cell_in (inside t depth) t level c.at) (cells_along (inside t depth) t level (walk_from t n)))
        ∙ ap (λ (y : Bool). emit_all d (cond y (cell_in (inside t depth) t level c.at) [] ++ cells_along (inside t depth) t level (walk_from t n))) (sym hx)
        ∙ here

    pub cells-past : x ≡ false → cells_on t depth level d n ≡ cells_on t depth level d₀ s₀
    unfolding cells_on
    cells-past hx =
        ap (λ (y : Bool). emit_all d (cond y (cell_in (inside t depth) t level c.at) [] ++ cells_along (inside t depth) t level (walk_from t n))) (sym hx)
        ∙ here

module _ (t : Tape) (k level : ℕ) (d : Desk) where
  pub cells-none : {depth : ℕ} → depth ≡ 0 → d ≡ emit_all d (cells t depth level k)
  unfolding cells emit_all
  cells-none h = rw h

  pub cells-all : (depth : ℕ) {s : Step} {e : Desk} → (depth ≡ 0 → ⊥) → s ≡ first_child t k → e ≡ emit_all d (cells_along (inside t (depth - 1)) t level (walk_from t s))
      → e ≡ emit_all d (cells t depth level k)
  unfolding cells children
  cells-all zero h es ee = absurd (h refl)
  cells-all (suc n) {s} h es ee =
      let one_less : suc n - 1 ≡ n = omega arith in
      ee ∙ ap (λ (m : ℕ). emit_all d (cells_along (inside t m) t level (walk_from t s))) one_less
      ∙ ap (λ (u : Step). emit_all d (cells_along (inside t n) t level (walk_from t u))) es

-- ---- rows

-- a row from its tags and its cells
pub row_whole : (t : Tape) (k level : ℕ) {deep depth : ℕ} → deep ≡ depth → (at a z r : ℕ) (d d₁ d₂ d₃ : Held) (out mid now last : Bytes)
    → ((source : Bytes) → desk_of source d₁ mid ≡ emit_all (desk_of source d out) (row_opens (level + 1)))
    → desk_of t.source d₂ now ≡ emit_all (desk_of t.source d₁ mid) (cells t deep (level + 2) k)
    → ((source : Bytes) → desk_of source d₃ last ≡ emit_all (desk_of source d₂ now) (row_closes (level + 1)))
    → desk_of t.source d₃ last ≡ emit_all (desk_of t.source d out) (row_e t depth level k)
unfolding row_e row_opens row_closes
row_whole t k level {deep} ed at a z r d d₁ d₂ d₃ out mid now last ea ez er =
    between (desk_of t.source d out) (row_opens (level + 1)) (cells t deep (level + 2) k) (row_closes (level + 1)) (ea t.source) ez (er t.source)
    ∙ ap (λ (j : ℕ). emit_all (desk_of t.source d out) (row_e t j level k)) ed

-- what the rows from a step on still give
module _ (t : Tape) (span : Span) (depth level : ℕ) (d : Desk) where
  unfoldable pub rows_on : Step → Desk
  rows_on s = emit_all d (rows_e t depth level (up_to (is_no_row t) (nodes_in t span s)))

module _ (t : Tape) (span : Span) (depth level : ℕ) (d₀ d : Desk) (s₀ s : Step) (inv : rows_on t span depth level d s ≡ rows_on t span depth level d₀ s₀) where
  over : up_to (is_no_row t) (nodes_in t span s) ≡ [] → d ≡ emit_all d₀ (rows_e t depth level (up_to (is_no_row t) (nodes_in t span s₀)))
  unfolding rows_on rows_e emit_all
  over e = sym (ap (λ (ks : List ℕ). emit_all d (rows_e t depth level ks)) e) ∙ inv

  pub rows_end : s ≡ None → d ≡ emit_all d₀ (rows_e t depth level (up_to (is_no_row t) (nodes_in t span s₀)))
  rows_end e = over (up_none t (nodes_done t span e))

  module _ {c : Cursor} (es : s ≡ Some c) {m : Member} (em : m ≡ member_of_of t span c.at) where
    pub rows_cut : m ≡ End → d ≡ emit_all d₀ (rows_e t depth level (up_to (is_no_row t) (nodes_in t span s₀)))
    rows_cut h = over (up_none t (nodes-cut t span es em h))

    pub rows_skip : {n : Step} → m ≡ Skipped → n ≡ next_sibling t c.at → rows_on t span depth level d n ≡ rows_on t span depth level d₀ s₀
    unfolding rows_on
    rows_skip h en = sym (ap (λ (ks : List ℕ). emit_all d (rows_e t depth level (up_to (is_no_row t) ks))) (nodes_skip t span es em h en)) ∙ inv

    module _ (h : m ≡ Listed) {x : Bool} (ex : x ≡ is_row t c.at) where
      pub rows_stop : x ≡ false → d ≡ emit_all d₀ (rows_e t depth level (up_to (is_no_row t) (nodes_in t span s₀)))
      rows_stop hx =
          over (ap (up_to (is_no_row t)) (nodes_go t span es em h refl) ∙ up-other t c.at (nodes_in t span (next_sibling t c.at)) (sym ex ∙ hx))

      pub rows-turn : {n : Step} {e : Desk} → x ≡ true → e ≡ emit_all d (row_e t depth level c.at) → n ≡ next_sibling t c.at
          → rows_on t span depth level e n ≡ rows_on t span depth level d₀ s₀
      unfolding rows_on rows_e
      rows-turn {n} hx ee en =
          ap (λ (u : Desk). emit_all u (rows_e t depth level (up_to (is_no_row t) (nodes_in t span n)))) ee
          ∙ sym (emit-append d (row_e t depth level c.at) (rows_e t depth level (up_to (is_no_row t) (nodes_in t span n))))
          ∙ sym (ap (λ (ks : List ℕ). emit_all d (rows_e t depth level ks))
          (ap (up_to (is_no_row t)) (nodes_go t span es em h en) ∙ up-row t c.at (nodes_in t span n) (sym ex ∙ hx)))
          ∙ inv

-- ---- a table

-- a table from its tags and its rows
pub table_whole : (t : Tape) (depth level : ℕ) (ks : List ℕ) (at a z r : ℕ) (d d₁ d₂ d₃ : Held) (out mid now last : Bytes)
    → ((source : Bytes) → desk_of source d₁ mid ≡ emit_all (desk_of source d out) (table_opens level))
    → desk_of t.source d₂ now ≡ emit_all (desk_of t.source d₁ mid) (rows_e t depth level ks)
    → ((source : Bytes) → desk_of source d₃ last ≡ emit_all (desk_of source d₂ now) (table_closes level))
    → desk_of t.source d₃ last ≡ emit_all (desk_of t.source d out) (table_e t depth level ks)
unfolding table_e table_opens table_closes
table_whole t depth level ks at a z r d d₁ d₂ d₃ out mid now last ea ez er =
    between (desk_of t.source d out) (table_opens level) (rows_e t depth level ks) (table_closes level) (ea t.source) ez (er t.source)
