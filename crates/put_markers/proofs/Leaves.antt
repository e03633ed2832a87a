-- Markers with nothing written inside.
use mathlib.Core.Path.{◌≡◌, ◌∙◌}
use mathlib.Core.Bool.{true}
use mathlib.Core.List.{List, [], ◌∷◌, ◌++◌}
use Prim.Native.Nat.{ℕ}
use Rattle.parts.specs.Bytes.{Bytes, b}
use Rattle.tape.specs.File.{Tape}
use Rattle.tape.specs.Name.{marker_name}
use Rattle.tape.specs.declared.Cursor.{Cursor}
use Rattle.tape.specs.Found.{Step}
use Rattle.std.specs.Prelude.{None, Some}
use Rattle.render.specs.Note.{book_code_of, book_rest_of}
use Rattle.attrs.specs.Attr.{attributes_of}
use Rattle.figure.specs.Figure.{legacy_at, legacy_pairs, field_at, caption_of}
use Rattle.tags.specs.Items.{Item, start, empty, close, text}
use Rattle.events.specs.Event.{rawly, collected, element, asided, book}
use Rattle.events.specs.Walk.{style, styled, figure}
use Rattle.events.specs.Emit.{Desk, emit, emit_all}
use Rattle.events.proofs.Emits.{aside_on, back_on}
use Rattle.desk.specs.Desk.{desk_of}
use Rattle.desk.specs.Stroke.{opens, key, piece, end_value_of, ends, shuts, closes, words, strokes_of_attr, strokes_of_attrs, strokes_of, strokes_of_all, Drew}
use Rattle.desk.proofs.Strokes.{drew_two}
use Rattle.roles.specs.declared.Role.{Role}
use Rattle.roles.specs.declared.Role.TheVariants.{UnknownBlock, UnknownInline, Unwritten, Figure, Ref, Id, Note, Ms, Char, Para}
use Rattle.roles.specs.Roles.{role_in}
use Rattle.put_markers.specs.Marker.{old_figure_of, leaf_of}
use Rattle.put_markers.proofs.Written.{drew_all, drew_event, drew_more, drew_start, drew_empty}
use Rattle.desk.specs.declared.Desk.{Desk as Held}

-- ---- tags

module _ (t : Tape) (k : ℕ) (d d₁ d₂ d₃ : Held) {out o₁ o₂ last : Bytes} where
  pub ms_drawn : {name : Bytes} → Drew d out (opens 8 ∷ strokes_of_attrs (style t k ∷ [])) d₁ o₁ → name ≡ marker_name t k
      → Drew d₁ o₁ (strokes_of_attrs (collected (attributes_of t k name))) d₂ o₂ → Drew d₂ o₂ (shuts ∷ []) d₃ last
      → Drew d out (strokes_of (empty 8 (style t k ∷ collected (attributes_of t k (marker_name t k))))) d₃ last
  ms_drawn e₁ en e₂ e₃ = drew_empty d d₂ d₃ _ (drew_more d d₁ d₂ (style t k ∷ []) _ e₁ (rw en at e₂)) e₃

  pub fields_drawn : (f : ℕ) → Drew d out (opens 9 ∷ key (b "style") ∷ piece true (b "fig") ∷ end_value_of ∷ []) d₁ o₁
      → Drew d₁ o₁ (strokes_of_attrs (collected (legacy_pairs t k f))) d₂ o₂ → Drew d₂ o₂ (ends ∷ []) d₃ last
      → Drew d out (strokes_of (start 9 (styled (b "fig") ++ collected (legacy_pairs t k f)))) d₃ last
  unfolding strokes_of_attrs strokes_of_attr styled rawly
  fields_drawn f e₁ e₂ e₃ = drew_start d d₂ d₃ (styled (b "fig") ++ collected (legacy_pairs t k f)) (drew_two d d₁ d₂ e₁ e₂) e₃

pub caption_drawn : (t : Tape) (k : ℕ) (d d₁ last-d : Held) {out mid last s : Bytes} → s ≡ field_at t k 4
    → Drew d out (words s ∷ []) d₁ mid → Drew d₁ mid (closes 9 ∷ []) last-d last
    → Drew d out (strokes_of_all (text (caption_of t k) ∷ close 9 ∷ [])) last-d last
unfolding caption_of strokes_of_all strokes_of
caption_drawn t k d d₁ last-d es e f = drew_two d d₁ last-d (rw es at e) f

-- an item and those behind it
pub items_drawn : (d d₁ d₂ : Held) {out mid last : Bytes} (i : Item) (is : List Item) → Drew d out (strokes_of i) d₁ mid → Drew d₁ mid (strokes_of_all is) d₂ last
    → Drew d out (strokes_of_all (i ∷ is)) d₂ last
unfolding strokes_of_all
items_drawn d d₁ d₂ i is e f = drew_two d d₁ d₂ e f

-- ---- figures of old

module _ (t : Tape) (k : ℕ) {s : Step} (es : s ≡ legacy_at t k) where
  pub old_none : (d : Desk) → s ≡ None → d ≡ emit_all d (leaf_of t k figure)
  unfolding leaf_of old_figure_of emit_all
  old_none d e = rw (← es, e)

  pub old_written : {a : Cursor} → s ≡ Some a → (d last-d : Held) {out last : Bytes}
      → Drew d out (strokes_of_all (start 9 (styled (b "fig") ++ collected (legacy_pairs t k a.at)) ∷ text (caption_of t a.at) ∷ close 9 ∷ [])) last-d last
      → desk_of t.source last-d last ≡ emit_all (desk_of t.source d out) (leaf_of t k figure)
  unfolding leaf_of old_figure_of asided element
  old_written {a} h d last-d {out} e =
      rw (← es, h)
      (drew_all d last-d (start 9 (styled (b "fig") ++ collected (legacy_pairs t k a.at)) ∷ text (caption_of t a.at) ∷ close 9 ∷ []) e t.source
      ∙ back_on (desk_of t.source d out) _ ∙ aside_on (desk_of t.source d out) _)

-- ---- by role

module _ (t : Tape) (k : ℕ) {role : Role} where
  module _ (d last-d : Held) {out last : Bytes} where
    pub para-leaf : role ≡ Para → Drew d out (strokes_of (empty 5 (style t k ∷ []))) last-d last
        → desk_of t.source last-d last ≡ emit_all (desk_of t.source d out) (leaf_of t k (role_in role))
    unfolding role_in leaf_of
    para-leaf h e = rw h (drew_event d last-d _ e t.source)

    pub ms-leaf : role ≡ Ms → Drew d out (strokes_of (empty 8 (style t k ∷ collected (attributes_of t k (marker_name t k))))) last-d last
        → desk_of t.source last-d last ≡ emit_all (desk_of t.source d out) (leaf_of t k (role_in role))
    unfolding role_in leaf_of
    ms-leaf h e = rw h (drew_event d last-d _ e t.source)

  module _ (d : Desk) {e : Desk} where
    pub figure-leaf : role ≡ Figure → e ≡ emit_all d (leaf_of t k figure) → e ≡ emit_all d (leaf_of t k (role_in role))
    unfolding role_in
    figure-leaf h er = rw h er

    pub id-leaf : role ≡ Id → e ≡ emit d (book (book_code_of t k) (book_rest_of t k)) → e ≡ emit_all d (leaf_of t k (role_in role))
    unfolding role_in leaf_of emit_all
    id-leaf h er = rw h er

  module _ (d : Desk) where
    pub block-leaf : role ≡ UnknownBlock → d ≡ emit_all d (leaf_of t k (role_in role))
    unfolding role_in leaf_of emit_all
    block-leaf h = rw h

    pub inline-leaf : role ≡ UnknownInline → d ≡ emit_all d (leaf_of t k (role_in role))
    unfolding role_in leaf_of emit_all
    inline-leaf h = rw h

    pub unwritten_leaf : role ≡ Unwritten → d ≡ emit_all d (leaf_of t k (role_in role))
    unfolding role_in leaf_of emit_all
    unwritten_leaf h = rw h

    pub ref-leaf : role ≡ Ref → d ≡ emit_all d (leaf_of t k (role_in role))
    unfolding role_in leaf_of emit_all
    ref-leaf h = rw h

    pub note-leaf : role ≡ Note → d ≡ emit_all d (leaf_of t k (role_in role))
    unfolding role_in leaf_of emit_all
    note-leaf h = rw h

    pub char-leaf : role ≡ Char → d ≡ emit_all d (leaf_of t k (role_in role))
    unfolding role_in leaf_of emit_all
    char-leaf h = rw h
