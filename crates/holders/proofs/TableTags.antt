-- Tags of cells, rows and tables.
use mathlib.Core.Path.{◌≡◌, refl, ap, ◌∙◌}
use mathlib.Core.Bool.{Bool, true, false}
use mathlib.Core.List.{[], ◌∷◌}
use Prim.Native.Nat.{ℕ}
use Rattle.parts.specs.Bytes.{Bytes, b}
use Rattle.tape.specs.File.{Tape, kind_at, info_at}
use Rattle.tape.specs.Name.{marker_name}
use Rattle.tape.specs.declared.kinds.Kind.{Kind}
use Rattle.tape.specs.Found.{Info}
use Rattle.std.specs.Prelude.{None, Some, is_some}
use Rattle.render.specs.Note.{cell_align_of, align_word}
use Rattle.render.specs.declared.note.Align.{Align}
use Rattle.render.specs.declared.note.Align.TheVariants.{Start, Center, End}
use Rattle.render.proofs.Shapes.{kind_is, kind_not}
use Rattle.tags.specs.Items.{start, empty, close, line}
use Rattle.events.specs.Event.{item, rawly, escaped}
use Rattle.events.specs.Walk.{is_known, is_cell_of, style, styled}
use Rattle.events.specs.Emit.{Desk, emit, emit_all}
use Rattle.desk.specs.Desk.{desk_of}
use Rattle.desk.specs.Stroke.{opens, key, piece, end_value_of, ends, shuts, closes, strokes_of_attr, strokes_of_attrs, strokes_of, Drew}
use Rattle.desk.proofs.Strokes.{drew_two}
use Rattle.holders.specs.Rows.{cell_attrs, row_opens, row_closes, table_opens, table_closes}
use Rattle.holders.proofs.Tags.{tag_started, tag_emptied, on_line}
use Rattle.desk.specs.declared.Desk.{Desk as Held}

-- ---- which children are cells

known_is : (i : Info) → is_some i ≡ is_known i
unfolding is_known
known_is None = refl
known_is (Some e) = refl

module _ (t : Tape) (k : ℕ) {z : Kind} (ek : z.code ≡ kind_at t k) where
  pub cell_known : {i : Info} {r : Bool} → z.code ≡ 3 → i ≡ info_at t k → r ≡ is_some i → r ≡ is_cell_of t k
  unfolding is_cell_of
  cell_known {i} h ei er = rw (kind_is t k ek 3 h) (er ∙ known_is i ∙ ap is_known ei)

  pub cell-none : (z.code ≡ 3 → ⊥) → false ≡ is_cell_of t k
  unfolding is_cell_of
  cell-none h = rw (kind_not t k ek 3 h)

-- ---- the tag of a cell

module _ (d last-d : Held) {out last : Bytes} {a : Align} where
  pub align_start : a ≡ Start → Drew d out (key (b "align") ∷ piece false (b "start") ∷ end_value_of ∷ []) last-d last → Drew d out (strokes_of_attr (escaped (b "align") (align_word a))) last-d last
  unfolding align_word strokes_of_attr escaped
  align_start h e = rw h e

  pub align_center : a ≡ Center → Drew d out (key (b "align") ∷ piece false (b "center") ∷ end_value_of ∷ []) last-d last → Drew d out (strokes_of_attr (escaped (b "align") (align_word a))) last-d last
  unfolding align_word strokes_of_attr escaped
  align_center h e = rw h e

  pub align_end : a ≡ End → Drew d out (key (b "align") ∷ piece false (b "end") ∷ end_value_of ∷ []) last-d last → Drew d out (strokes_of_attr (escaped (b "align") (align_word a))) last-d last
  unfolding align_word strokes_of_attr escaped
  align_end h e = rw h e

module _ (d d₁ d₂ : Held) {out mid last : Bytes} where
  pub cell_front : (name : Bytes) {x : Align} → Drew d out (opens 12 ∷ key (b "style") ∷ piece true name ∷ end_value_of ∷ []) d₁ mid → x ≡ cell_align_of name
      → Drew d₁ mid (strokes_of_attr (escaped (b "align") (align_word x))) d₂ last
      → Drew d out (opens 12 ∷ strokes_of_attrs (rawly (b "style") name ∷ escaped (b "align") (align_word (cell_align_of name)) ∷ [])) d₂ last
  unfolding strokes_of_attrs strokes_of_attr rawly
  cell_front name e ex f = drew_two d d₁ d₂ e (rw ex at f)

  module _ (t : Tape) (k : ℕ) {name : Bytes} (en : name ≡ marker_name t k)
      (e : Drew d out (opens 12 ∷ strokes_of_attrs (rawly (b "style") name ∷ escaped (b "align") (align_word (cell_align_of name)) ∷ [])) d₁ mid) where
    pub cell_opened : Drew d₁ mid (ends ∷ []) d₂ last
        → desk_of t.source d₂ last ≡ emit (desk_of t.source d out) (item (start 12 (cell_attrs t k)))
    unfolding style
    cell_opened f = tag_started t.source 12 _ d d₁ d₂ (rw en at e) f

    pub cell_emptied : Drew d₁ mid (shuts ∷ []) d₂ last
        → desk_of t.source d₂ last ≡ emit (desk_of t.source d out) (item (empty 12 (cell_attrs t k)))
    unfolding style
    cell_emptied f = tag_emptied t.source 12 _ d d₁ d₂ (rw en at e) f

-- ---- tags on lines of their own

module _ (source : Bytes) (level : ℕ) (w : Desk) (d₁ d₂ : Held) {mid last : Bytes} (ea : desk_of source d₁ mid ≡ emit w (item (line level))) where
  pub row_closed : Drew d₁ mid (closes 11 ∷ []) d₂ last → desk_of source d₂ last ≡ emit_all w (row_closes level)
  unfolding row_closes strokes_of
  row_closed e = on_line level w ea (close 11) (e.on source)

  pub table_closed : Drew d₁ mid (closes 10 ∷ []) d₂ last → desk_of source d₂ last ≡ emit_all w (table_closes level)
  unfolding table_closes strokes_of
  table_closed e = on_line level w ea (close 10) (e.on source)

  module _ (d₃ : Held) {now : Bytes} where
    pub row_opened : Drew d₁ mid (opens 11 ∷ key (b "style") ∷ piece true (b "tr") ∷ end_value_of ∷ []) d₃ now → Drew d₃ now (ends ∷ []) d₂ last
        → desk_of source d₂ last ≡ emit_all w (row_opens level)
    unfolding row_opens styled rawly strokes_of strokes_of_attrs strokes_of_attr
    row_opened e f = on_line level w ea (start 11 (styled (b "tr"))) ((drew_two d₁ d₃ d₂ e f).on source)

    pub table_opened : Drew d₁ mid (opens 10 ∷ []) d₃ now → Drew d₃ now (ends ∷ []) d₂ last → desk_of source d₂ last ≡ emit_all w (table_opens level)
    unfolding table_opens strokes_of strokes_of_attrs
    table_opened e f = on_line level w ea (start 10 []) ((drew_two d₁ d₃ d₂ e f).on source)
