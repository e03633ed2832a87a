-- What closes a marker.
use mathlib.Core.Path.{◌≡◌, refl, ◌∙◌}
use mathlib.Core.Bool.{Bool, true, not}
use mathlib.Core.List.{[], ◌∷◌}
use Prim.Native.Nat.{ℕ}
use Rattle.parts.specs.Bytes.{Bytes}
use Rattle.tape.specs.File.{Tape, is_nested}
use Rattle.attrs.specs.Walk.{sought_of}
use Rattle.attrs.specs.declared.Value.{Value}
use Rattle.attrs.specs.Found.{Sought}
use Rattle.std.specs.Prelude.{None, Some}
use Rattle.tags.specs.Items.{close}
use Rattle.events.specs.Event.{item}
use Rattle.events.specs.Walk.{link_of, char}
use Rattle.events.specs.Emit.{Desk, emit_all}
use Rattle.events.proofs.Emits.{back_on}
use Rattle.desk.specs.Desk.{desk_of}
use Rattle.desk.specs.Stroke.{closes, strokes_of, strokes_of_all, Drew}
use Rattle.desk.proofs.Strokes.{drew_two}
use Rattle.roles.specs.declared.Role.{Role}
use Rattle.roles.specs.declared.Role.TheVariants.{UnknownBlock, UnknownInline, Unwritten, Figure, Ref, Id, Note, Ms, Char, Para}
use Rattle.roles.specs.Roles.{role_in}
use Rattle.roles.proofs.Roles.{link_flat}
use Rattle.put_markers.specs.Marker.{marker_closes, link_closes}
use Rattle.put_markers.proofs.Written.{drew_all}
use Rattle.desk.specs.declared.Desk.{Desk as Held}

-- a closing tag as an event
closed : (d last-d : Held) {out last : Bytes} (n : ℕ) → Drew d out (closes n ∷ []) last-d last
    → (source : Bytes) → desk_of source last-d last ≡ emit_all (desk_of source d out) (item (close n) ∷ [])
unfolding strokes_of_all strokes_of
closed d last-d n e source = drew_all d last-d (close n ∷ []) e source

-- ---- a char

module _ (t : Tape) (k : ℕ) {link : Sought} (el : sought_of t.source link ≡ link_of t k) (d last-d : Held) {out last : Bytes} where
  pub char_closed : link ≡ None → Drew d out (closes 6 ∷ []) last-d last → desk_of t.source last-d last ≡ emit_all (desk_of t.source d out) (marker_closes t k char)
  unfolding marker_closes link_closes sought_of
  char_closed h e = rw (← el, h) (closed d last-d 6 e t.source)

  pub link_closed : {x : Value} → link ≡ Some x → (d₁ : Held) {mid : Bytes} → Drew d out (closes 16 ∷ []) d₁ mid → Drew d₁ mid (closes 6 ∷ []) last-d last
      → desk_of t.source last-d last ≡ emit_all (desk_of t.source d out) (marker_closes t k char)
  unfolding marker_closes link_closes sought_of strokes_of_all strokes_of
  link_closed h d₁ e₁ e₂ = rw (← el, h) (drew_all d last-d (close 16 ∷ close 6 ∷ []) (drew_two d d₁ last-d e₁ e₂) t.source)

-- one that is not nested links nothing
pub flat_closed : (t : Tape) (k : ℕ) {x : Bool} → x ≡ is_nested t k → not x ≡ true → (d last-d : Held) {out last : Bytes} → Drew d out (closes 6 ∷ []) last-d last
    → desk_of t.source last-d last ≡ emit_all (desk_of t.source d out) (marker_closes t k char)
flat_closed t k ex hx d last-d e = char_closed t k (link_flat t k ex hx) d last-d refl e

-- ---- by role

module _ (t : Tape) (k : ℕ) {role : Role} where
  module _ (d last-d : Held) {out last : Bytes} where
    pub block_end : role ≡ UnknownBlock → Drew d out (closes 5 ∷ []) last-d last → desk_of t.source last-d last ≡ emit_all (desk_of t.source d out) (marker_closes t k (role_in role))
    unfolding role_in marker_closes
    block_end h e = rw h (closed d last-d 5 e t.source)

    pub inline_end : role ≡ UnknownInline → Drew d out (closes 6 ∷ []) last-d last → desk_of t.source last-d last ≡ emit_all (desk_of t.source d out) (marker_closes t k (role_in role))
    unfolding role_in marker_closes
    inline_end h e = rw h (closed d last-d 6 e t.source)

    pub figure_end : role ≡ Figure → Drew d out (closes 9 ∷ []) last-d last → desk_of t.source last-d last ≡ emit_all (desk_of t.source d out) (marker_closes t k (role_in role))
    unfolding role_in marker_closes
    figure_end h e = rw h (closed d last-d 9 e t.source ∙ back_on (desk_of t.source d out) (item (close 9) ∷ []))

    pub ref_end : role ≡ Ref → Drew d out (closes 16 ∷ []) last-d last → desk_of t.source last-d last ≡ emit_all (desk_of t.source d out) (marker_closes t k (role_in role))
    unfolding role_in marker_closes
    ref_end h e = rw h (closed d last-d 16 e t.source)

    pub note_end : role ≡ Note → Drew d out (closes 7 ∷ []) last-d last → desk_of t.source last-d last ≡ emit_all (desk_of t.source d out) (marker_closes t k (role_in role))
    unfolding role_in marker_closes
    note_end h e = rw h (closed d last-d 7 e t.source ∙ back_on (desk_of t.source d out) (item (close 7) ∷ []))

    pub para_end : role ≡ Para → Drew d out (closes 5 ∷ []) last-d last → desk_of t.source last-d last ≡ emit_all (desk_of t.source d out) (marker_closes t k (role_in role))
    unfolding role_in marker_closes
    para_end h e = rw h (closed d last-d 5 e t.source)

  pub char_end : (d : Desk) {e : Desk} → role ≡ Char → e ≡ emit_all d (marker_closes t k char) → e ≡ emit_all d (marker_closes t k (role_in role))
  unfolding role_in
  char_end d h er = rw h er

  module _ (d : Desk) where
    pub unwritten_end : role ≡ Unwritten → d ≡ emit_all d (marker_closes t k (role_in role))
    unfolding role_in marker_closes emit_all
    unwritten_end h = rw h

    pub id_end : role ≡ Id → d ≡ emit_all d (marker_closes t k (role_in role))
    unfolding role_in marker_closes emit_all
    id_end h = rw h

    pub ms_end : role ≡ Ms → d ≡ emit_all d (marker_closes t k (role_in role))
    unfolding role_in marker_closes emit_all
    ms_end h = rw h
