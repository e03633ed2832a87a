-- Tags from their strokes, and the events that strokes are.
use mathlib.Core.Path.{◌≡◌, refl, ap, ◌∙◌}
use mathlib.Core.List.{List, [], ◌∷◌, ◌++◌, map}
use Prim.Native.Nat.{ℕ}
use Rattle.parts.specs.Bytes.{Bytes}
use Rattle.window.specs.Page.{paint}
use Rattle.tags.specs.Items.{Attr, Item, start, empty}
use Rattle.events.specs.Event.{item}
use Rattle.events.specs.Emit.{Desk, emit, emit_all}
use Rattle.desk.specs.Desk.{desk_of, put_on}
use Rattle.desk.specs.Stroke.{Stroke, opens, ends, shuts, strokes_of_attrs, strokes_of, strokes_of_all, ink_all, strokes, Drew}
use Rattle.desk.proofs.Strokes.{strokes-append, strokes_item, drew_two, drew_item, attrs_append}
use Rattle.desk.specs.declared.Desk.{Desk as Held}

-- ---- events

-- the strokes of items are the items as events
strokes-all : (w : Desk) (is : List Item) → strokes w (strokes_of_all is) ≡ emit_all w (map item is)
unfolding emit_all strokes_of_all strokes put_on ink_all paint
strokes-all w [] = refl
strokes-all w (i ∷ is) =
    strokes-append w (strokes_of i) (strokes_of_all is) ∙ ap (λ (v : Desk). strokes v (strokes_of_all is)) (strokes_item w i) ∙ strokes-all (emit w (item i)) is

module _ (d last-d : Held) {out last : Bytes} where
  pub drew_all : (is : List Item) → Drew d out (strokes_of_all is) last-d last → (source : Bytes) → desk_of source last-d last ≡ emit_all (desk_of source d out) (map item is)
  drew_all is e source = e.on source ∙ strokes-all (desk_of source d out) is

  pub drew_event : (i : Item) → Drew d out (strokes_of i) last-d last → (source : Bytes) → desk_of source last-d last ≡ emit_all (desk_of source d out) (item i ∷ [])
  unfolding emit_all
  drew_event i e source = drew_item d last-d i e source

-- ---- ways that meet

-- what one of them drew, by the names that both go on under
pub drew_met : (d x y : Held) {out mid last : Bytes} {ss : List Stroke} → Drew d out ss x mid → y ≡ x → last ≡ mid → Drew d out ss y last
drew_met d x y e ey el = rw (ey, el) e

-- ---- tags

module _ {n : ℕ} (d d₁ d₂ : Held) {out mid last : Bytes} where
  -- the front of a tag, and attributes more
  pub drew_more : (x y : List Attr) → Drew d out (opens n ∷ strokes_of_attrs x) d₁ mid → Drew d₁ mid (strokes_of_attrs y) d₂ last → Drew d out (opens n ∷ strokes_of_attrs (x ++ y)) d₂ last
  drew_more x y e f = rw (attrs_append x y) (drew_two d d₁ d₂ e f)

  pub drew_start : (qs : List Attr) → Drew d out (opens n ∷ strokes_of_attrs qs) d₁ mid → Drew d₁ mid (ends ∷ []) d₂ last → Drew d out (strokes_of (start n qs)) d₂ last
  unfolding strokes_of
  drew_start qs e f = drew_two d d₁ d₂ e f

  pub drew_empty : (qs : List Attr) → Drew d out (opens n ∷ strokes_of_attrs qs) d₁ mid → Drew d₁ mid (shuts ∷ []) d₂ last → Drew d out (strokes_of (empty n qs)) d₂ last
  unfolding strokes_of
  drew_empty qs e f = drew_two d d₁ d₂ e f
