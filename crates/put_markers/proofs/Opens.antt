-- What opens a marker.
use mathlib.Core.Path.{◌≡◌, refl, sym, ap, ◌∙◌}
use mathlib.Core.Bool.{Bool, true, false, not, cond}
use mathlib.Core.List.{[], ◌∷◌, ◌++◌}
use mathlib.Core.Option.{Option, none}
use Prim.Native.Nat.{ℕ}
use borrow.Author.Tests.{not-true}
use Rattle.parts.specs.Bytes.{Bytes, b}
use Rattle.window.specs.Page.{paint}
use Rattle.tape.specs.File.{Tape, node_at, is_synthetic, is_nested}
use Rattle.tape.specs.Name.{marker_name}
use Rattle.tape.specs.declared.Cursor.{Cursor}
use Rattle.render.specs.Note.{caller_or, note_caller_of, written_category}
use Rattle.attrs.specs.Attr.{attributes_of}
use Rattle.attrs.specs.Walk.{first_of, sought_of}
use Rattle.attrs.specs.declared.Value.{Value}
use Rattle.attrs.specs.Found.{Sought}
use Rattle.std.specs.Prelude.{None, Some}
use Rattle.tags.specs.Items.{start}
use Rattle.events.specs.Event.{rawly, escaped, perhaps, collected}
use Rattle.events.specs.Walk.{style, styled, unclosed, link_of, char}
use Rattle.events.specs.Emit.{Desk, emit_all}
use Rattle.events.proofs.Emits.{aside_on}
use Rattle.desk.specs.Desk.{desk_of, put_on}
use Rattle.desk.specs.Stroke.{opens, key, piece, end_value_of, ends, strokes_of_attr, strokes_of_attrs, strokes_of, ink_all, strokes, Drew}
use Rattle.desk.proofs.Strokes.{drew_two, drew_item}
use Rattle.roles.specs.declared.Role.{Role}
use Rattle.roles.specs.declared.Role.TheVariants.{UnknownBlock, UnknownInline, Unwritten, Figure, Ref, Id, Note, Ms, Char, Para}
use Rattle.roles.specs.Roles.{role_in}
use Rattle.roles.proofs.Roles.{link_flat}
use Rattle.put_markers.specs.Marker.{marker_opens, link_opens}
use Rattle.put_markers.proofs.Written.{drew_event, drew_more, drew_start}
use Rattle.desk.specs.declared.Desk.{Desk as Held}

-- ---- attributes

pub ends-synthetic : (t : Tape) (k : ℕ) {l : ℕ} (z : Cursor) {x : Bool} → l ≡ (node_at t k).link → z.at ≡ l → x ≡ is_synthetic t z.at → x ≡ is_synthetic t (node_at t k).link
ends-synthetic t k z el ez ex = ex ∙ ap (is_synthetic t) (ez ∙ el)

module _ (t : Tape) (k : ℕ) {x : Bool} (ex : x ≡ is_synthetic t (node_at t k).link) (d : Held) {out : Bytes} where
  pub unclosed-some : (last-d : Held) {last : Bytes} → x ≡ true → Drew d out (key (b "closed") ∷ piece false (b "false") ∷ end_value_of ∷ []) last-d last
      → Drew d out (strokes_of_attrs (unclosed t k)) last-d last
  unfolding unclosed strokes_of_attrs strokes_of_attr escaped
  unclosed-some last-d hx e = rw (← ex, hx) e

  pub unclosed-none : x ≡ false → Drew d out (strokes_of_attrs (unclosed t k)) d out
  unfolding unclosed strokes_of_attrs strokes put_on ink_all paint
  unclosed-none hx = rw (← ex, hx) (record { on = λ source. refl })

-- a marker that is closed in the source and links nothing
module _ (t : Tape) (k : ℕ) where
  pub flat_closed : {x : Bool} → x ≡ is_synthetic t (node_at t k).link → not x ≡ true → unclosed t k ≡ []
  unfolding unclosed
  flat_closed {x} ex hx = rw (← ex, not-true x hx)

  pub links_none : {y : Bool} → y ≡ is_nested t k → not y ≡ true → link_of t k ≡ none
  unfolding sought_of
  links_none ey hy = sym (link_flat t k ey hy)

  pub flat_link : {y : Bool} → y ≡ is_nested t k → y ≡ false → link_of t k ≡ none
  flat_link ey hy = links_none ey (rw hy)

  pub flat_not : false ≡ true → unclosed t k ≡ []
  flat_not e = ap (λ (x : Bool). cond x [] (unclosed t k)) e

-- ---- tags

-- the front of a tag whose style is a marker's name
pub named_front : (t : Tape) (k : ℕ) {n : ℕ} (d last-d : Held) {out last name : Bytes} → name ≡ marker_name t k
    → Drew d out (opens n ∷ key (b "style") ∷ piece true name ∷ end_value_of ∷ []) last-d last → Drew d out (opens n ∷ strokes_of_attrs (style t k ∷ [])) last-d last
unfolding strokes_of_attrs strokes_of_attr style rawly
named_front t k d last-d en e = rw en at e

pub unknown_drawn : (t : Tape) (k : ℕ) {n : ℕ} (d d₁ d₂ d₃ : Held) {out o₁ o₂ last : Bytes}
    → Drew d out (opens n ∷ strokes_of_attrs (style t k ∷ [])) d₁ o₁ → Drew d₁ o₁ (key (b "status") ∷ piece false (b "unknown") ∷ end_value_of ∷ []) d₂ o₂ → Drew d₂ o₂ (ends ∷ []) d₃ last
    → Drew d out (strokes_of (start n (style t k ∷ escaped (b "status") (b "unknown") ∷ []))) d₃ last
unfolding strokes_of_attrs strokes_of_attr escaped
unknown_drawn t k d d₁ d₂ d₃ e₁ e₂ e₃ = drew_start d d₂ d₃ (style t k ∷ escaped (b "status") (b "unknown") ∷ []) (drew_two d d₁ d₂ e₁ e₂) e₃

pub para_drawn : (t : Tape) (k : ℕ) (d d₁ d₂ : Held) {out o₁ last name : Bytes} → name ≡ marker_name t k
    → Drew d out (opens 5 ∷ key (b "style") ∷ piece true name ∷ end_value_of ∷ []) d₁ o₁ → Drew d₁ o₁ (ends ∷ []) d₂ last → Drew d out (strokes_of (start 5 (style t k ∷ []))) d₂ last
para_drawn t k d d₁ d₂ en e₁ e₂ = drew_start d d₁ d₂ (style t k ∷ []) (named_front t k d d₁ en e₁) e₂

pub char_drawn : (t : Tape) (k : ℕ) (d d₁ d₂ d₃ d₄ : Held) {out o₁ o₂ o₃ last name : Bytes} → name ≡ marker_name t k
    → Drew d out (opens 6 ∷ key (b "style") ∷ piece true name ∷ end_value_of ∷ []) d₁ o₁ → Drew d₁ o₁ (strokes_of_attrs (unclosed t k)) d₂ o₂
    → Drew d₂ o₂ (strokes_of_attrs (collected (attributes_of t k name))) d₃ o₃ → Drew d₃ o₃ (ends ∷ []) d₄ last
    → Drew d out (strokes_of (start 6 (style t k ∷ (unclosed t k ++ collected (attributes_of t k (marker_name t k)))))) d₄ last
char_drawn t k d d₁ d₂ d₃ d₄ en e₁ e₂ e₃ e₄ =
    drew_start d d₃ d₄ _ (drew_more d d₂ d₃ (style t k ∷ unclosed t k) _ (drew_more d d₁ d₂ (style t k ∷ []) _ (named_front t k d d₁ en e₁) e₂) (rw en at e₃)) e₄

module _ (d d₁ d₂ d₃ : Held) {out o₁ o₂ last : Bytes} where
  pub ref_drawn : (source : Bytes) (loc : Sought) → Drew d out (opens 16 ∷ []) d₁ o₁ → Drew d₁ o₁ (strokes_of_attrs (perhaps (b "loc") (sought_of source loc))) d₂ o₂ → Drew d₂ o₂ (ends ∷ []) d₃ last
      → Drew d out (strokes_of (start 16 (perhaps (b "loc") (sought_of source loc)))) d₃ last
  ref_drawn source loc e₁ e₂ e₃ = drew_start d d₂ d₃ _ (drew_two d d₁ d₂ e₁ e₂) e₃

  pub figure_drawn : (t : Tape) (k : ℕ) → Drew d out (opens 9 ∷ key (b "style") ∷ piece true (b "fig") ∷ end_value_of ∷ []) d₁ o₁
      → Drew d₁ o₁ (strokes_of_attrs (collected (attributes_of t k (b "fig")))) d₂ o₂ → Drew d₂ o₂ (ends ∷ []) d₃ last
      → Drew d out (strokes_of (start 9 (styled (b "fig") ++ collected (attributes_of t k (b "fig"))))) d₃ last
  unfolding strokes_of_attrs strokes_of_attr styled rawly
  figure_drawn t k e₁ e₂ e₃ = drew_start d d₂ d₃ (styled (b "fig") ++ collected (attributes_of t k (b "fig"))) (drew_two d d₁ d₂ e₁ e₂) e₃

  pub note_front : (caller name : Bytes) → Drew d out (opens 7 ∷ []) d₁ o₁ → Drew d₁ o₁ (key (b "caller") ∷ piece false caller ∷ end_value_of ∷ []) d₂ o₂
      → Drew d₂ o₂ (key (b "style") ∷ piece true name ∷ end_value_of ∷ []) d₃ last → Drew d out (opens 7 ∷ strokes_of_attrs (escaped (b "caller") caller ∷ rawly (b "style") name ∷ [])) d₃ last
  unfolding strokes_of_attrs strokes_of_attr escaped rawly
  note_front caller name e₁ e₂ e₃ = drew_two d d₁ d₃ e₁ (drew_two d₁ d₂ d₃ e₂ e₃)

  pub note_drawn : (t : Tape) (k : ℕ) {caller name : Bytes} → caller ≡ caller_or (b "+") t k → name ≡ marker_name t k
      → Drew d out (opens 7 ∷ strokes_of_attrs (escaped (b "caller") caller ∷ rawly (b "style") name ∷ [])) d₁ o₁
      → Drew d₁ o₁ (strokes_of_attrs (perhaps (b "category") (written_category t k))) d₂ o₂ → Drew d₂ o₂ (ends ∷ []) d₃ last
      → Drew d out (strokes_of (start 7 (escaped (b "caller") (note_caller_of t k) ∷ style t k ∷ perhaps (b "category") (written_category t k)))) d₃ last
  unfolding note_caller_of style
  note_drawn t k ec en e₁ e₂ e₃ = drew_start d d₂ d₃ _ (drew_more d d₁ d₂ (escaped (b "caller") (note_caller_of t k) ∷ style t k ∷ []) _ (rw (ec, en) at e₁) e₂) e₃

-- ---- the `ref` around what is linked

pub link_shut : (source : Bytes) (d : Desk) {link : Sought} → link ≡ None → d ≡ emit_all d (link_opens (sought_of source link))
unfolding sought_of link_opens emit_all
link_shut source d e = rw e

pub link_opened : (source : Bytes) {link : Sought} {x : Value} → link ≡ Some x → (d last-d : Held) {out last : Bytes}
    → Drew d out (strokes_of (start 16 (perhaps (b "loc") (sought_of source link)))) last-d last
    → desk_of source last-d last ≡ emit_all (desk_of source d out) (link_opens (sought_of source link))
unfolding sought_of link_opens perhaps
link_opened source e d last-d er = rw e (drew_event d last-d _ (rw e at er) source)

pub char-linked : (t : Tape) (k : ℕ) (d d₁ : Held) {out mid : Bytes} {f : Desk} {o : Option Bytes}
    → Drew d out (strokes_of (start 6 (style t k ∷ (unclosed t k ++ collected (attributes_of t k (marker_name t k)))))) d₁ mid → o ≡ link_of t k
    → f ≡ emit_all (desk_of t.source d₁ mid) (link_opens o) → f ≡ emit_all (desk_of t.source d out) (marker_opens t k char)
unfolding marker_opens emit_all
char-linked t k d d₁ e eo ef = ef ∙ rw (drew_item d d₁ _ e t.source, eo)

-- a char that is not nested links nothing
pub char_flat : (t : Tape) (k : ℕ) (d d₁ : Held) {out mid : Bytes} {x : Bool}
    → Drew d out (strokes_of (start 6 (style t k ∷ (unclosed t k ++ collected (attributes_of t k (marker_name t k)))))) d₁ mid → x ≡ is_nested t k → x ≡ false
    → desk_of t.source d₁ mid ≡ emit_all (desk_of t.source d out) (marker_opens t k char)
char_flat t k d d₁ e ex hx = char-linked t k d d₁ e (link_flat t k ex (rw hx)) (link_shut t.source _ refl)

-- ---- by role

module _ (t : Tape) (k : ℕ) {role : Role} where
  module _ (d last-d : Held) {out last : Bytes} where
    pub block-marker : role ≡ UnknownBlock → Drew d out (strokes_of (start 5 (style t k ∷ escaped (b "status") (b "unknown") ∷ []))) last-d last
        → desk_of t.source last-d last ≡ emit_all (desk_of t.source d out) (marker_opens t k (role_in role))
    unfolding role_in marker_opens
    block-marker h e = rw h (drew_event d last-d _ e t.source)

    pub inline-marker : role ≡ UnknownInline → Drew d out (strokes_of (start 6 (style t k ∷ escaped (b "status") (b "unknown") ∷ []))) last-d last
        → desk_of t.source last-d last ≡ emit_all (desk_of t.source d out) (marker_opens t k (role_in role))
    unfolding role_in marker_opens
    inline-marker h e = rw h (drew_event d last-d _ e t.source)

    pub para-marker : role ≡ Para → Drew d out (strokes_of (start 5 (style t k ∷ []))) last-d last
        → desk_of t.source last-d last ≡ emit_all (desk_of t.source d out) (marker_opens t k (role_in role))
    unfolding role_in marker_opens
    para-marker h e = rw h (drew_event d last-d _ e t.source)

    pub figure-marker : role ≡ Figure → Drew d out (strokes_of (start 9 (styled (b "fig") ++ collected (attributes_of t k (b "fig"))))) last-d last
        → desk_of t.source last-d last ≡ emit_all (desk_of t.source d out) (marker_opens t k (role_in role))
    unfolding role_in marker_opens
    figure-marker h e = rw h (drew_event d last-d _ e t.source ∙ aside_on (desk_of t.source d out) _)

    pub ref-marker : role ≡ Ref → {o : Option Bytes} → o ≡ first_of (b "loc") (attributes_of t k (b "ref")) → Drew d out (strokes_of (start 16 (perhaps (b "loc") o))) last-d last
        → desk_of t.source last-d last ≡ emit_all (desk_of t.source d out) (marker_opens t k (role_in role))
    unfolding role_in marker_opens
    ref-marker h eo e = rw (h, ← eo) (drew_event d last-d _ e t.source)

    pub note-marker : role ≡ Note → Drew d out (strokes_of (start 7 (escaped (b "caller") (note_caller_of t k) ∷ style t k ∷ perhaps (b "category") (written_category t k)))) last-d last
        → desk_of t.source last-d last ≡ emit_all (desk_of t.source d out) (marker_opens t k (role_in role))
    unfolding role_in marker_opens
    note-marker h e = rw h (drew_event d last-d _ e t.source ∙ aside_on (desk_of t.source d out) _)

  pub char-marker : (d : Desk) {e : Desk} → role ≡ Char → e ≡ emit_all d (marker_opens t k char) → e ≡ emit_all d (marker_opens t k (role_in role))
  unfolding role_in
  char-marker d h er = rw h er

  module _ (d : Desk) where
    pub unwritten_marker : role ≡ Unwritten → d ≡ emit_all d (marker_opens t k (role_in role))
    unfolding role_in marker_opens emit_all
    unwritten_marker h = rw h

    pub id-marker : role ≡ Id → d ≡ emit_all d (marker_opens t k (role_in role))
    unfolding role_in marker_opens emit_all
    id-marker h = rw h

    pub ms-marker : role ≡ Ms → d ≡ emit_all d (marker_opens t k (role_in role))
    unfolding role_in marker_opens emit_all
    ms-marker h = rw h
