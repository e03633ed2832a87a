-- Strokes on a desk: from the runs that make one, in a row, and as items.
use mathlib.Core.Path.{◌≡◌, refl, sym, ap, ◌∙◌}
use mathlib.Core.Bool.{Bool, true, false}
use mathlib.Core.List.{List, [], ◌∷◌, ◌++◌, append_assoc, append-nil}
use Rattle.parts.specs.Bytes.{Bytes, b}
use Rattle.chars.specs.Escape.{escape}
use Rattle.chars.proofs.Escapes.{escape-append}
use Rattle.window.specs.Page.{Page, page_of, paint}
use Rattle.window.specs.declared.Window.{Window}
use Rattle.window.proofs.Paint.{paint-append}
use Rattle.tags.specs.Names.{name_of}
use Rattle.tags.specs.Items.{Attr, Item, start, empty, close, text, line, value_of, attr_bytes, attrs_bytes, bytes_of, render}
use Rattle.events.specs.Event.{item}
use Rattle.events.specs.Profile.{Profile, rust, render_as}
use Rattle.events.specs.Emit.{Desk, emit}
use Rattle.events.proofs.Emits.{one_profile}
use Rattle.desk.specs.declared.Desk.{Desk as Held}
use Rattle.desk.specs.Desk.{profile_of, desk_of, put_on}
use Rattle.desk.specs.Stroke.{Stroke, key, piece, end_value_of, ends, shuts, strokes_of_attr, strokes_of_attrs, strokes_of, strokes_of_all, ink, ink_all, strokes, Drew}
use Rattle.desk.proofs.Chains.{desk_on, item_on}

-- ---- strokes in a row

pub ink-append : (p : Profile) (x y : List Stroke) → ink_all p (x ++ y) ≡ ink_all p x ++ ink_all p y
unfolding ink_all
ink-append p [] y = refl
ink-append p (s ∷ x) y = ap (λ (z : Bytes). ink p s ++ z) (ink-append p x y) ∙ sym (append_assoc (ink p s) (ink_all p x) (ink_all p y))

pub strokes-append : (w : Desk) (x y : List Stroke) → strokes w (x ++ y) ≡ strokes (strokes w x) y
unfolding strokes put_on
strokes-append w x y =
    ap (λ (z : Bytes). record { page = paint w.page z; state = w.state; profile = w.profile }) (ink-append w.profile x y)
    ∙ ap (λ (p : Page). record { page = p; state = w.state; profile = w.profile }) (sym (paint-append w.page (ink_all w.profile x) (ink_all w.profile y)))

module _ (d d₁ d₂ : Held) {out out₁ out₂ : Bytes} where
  pub drew_two : {x y : List Stroke} → Drew d out x d₁ out₁ → Drew d₁ out₁ y d₂ out₂ → Drew d out (x ++ y) d₂ out₂
  drew_two {x} {y} e f = record { on = λ source. f.on source ∙ ap (λ (w : Desk). strokes w y) (e.on source) ∙ sym (strokes-append (desk_of source d out) x y) }

pub drew_none : (d : Held) {out : Bytes} → Drew d out [] d out
unfolding strokes put_on ink_all paint
drew_none d = record { on = λ source. refl }

-- ---- from bytes

-- bytes through the window of a desk are a row of strokes: those of the one profile
pub drew_run : (d : Held) {v : Window} (out : Bytes) {last : Bytes} (ss : List Stroke) {x : Bytes} → x ≡ ink_all rust ss
    → page_of v last ≡ paint (page_of d.window out) x → Drew d out ss (record d { window = v }) last
unfolding strokes
drew_run d out ss {x} ex ev = record { on = λ source. desk_on d out x ev source ∙ ap (put_on (desk_of source d out)) (ex ∙ ap (λ (p : Profile). ink_all p ss) (sym (one_profile (profile_of d.profile)))) }

pub drew_one : (d : Held) {v : Window} (out : Bytes) {last : Bytes} (s : Stroke)
    → page_of v last ≡ paint (page_of d.window out) (ink rust s) → Drew d out (s ∷ []) (record d { window = v }) last
unfolding ink_all
drew_one d out s ev = drew_run d out (s ∷ []) (sym (append-nil (ink rust s))) ev

-- a piece that its escapes leave as it is, raw or escaped
pub plain_drawn : (d : Held) {v : Window} (out : Bytes) {last : Bytes} (s : Bytes) → page_of v last ≡ paint (page_of d.window out) s
    → escape true s ≡ s → (raw : Bool) → Drew d out (piece raw s ∷ []) (record d { window = v }) last
unfolding ink
plain_drawn d out s ev h true = drew_one d out (piece true s) ev
plain_drawn d out s ev h false = drew_one d out (piece false s) (ev ∙ ap (paint (page_of d.window out)) (sym h))

-- an attribute from its strokes
pub drew_attr : (d d₁ d₂ d₃ : Held) {out o₁ o₂ last : Bytes} (k : Bytes) (raw : Bool) (v : Bytes)
    → Drew d out (key k ∷ []) d₁ o₁ → Drew d₁ o₁ (piece raw v ∷ []) d₂ o₂ → Drew d₂ o₂ (end_value_of ∷ []) d₃ last → Drew d out (key k ∷ piece raw v ∷ end_value_of ∷ []) d₃ last
drew_attr d d₁ d₂ d₃ k raw v e₁ e₂ e₃ = drew_two d d₁ d₃ e₁ (drew_two d₁ d₂ d₃ e₂ e₃)

-- ---- items

ink_attr : (a : Attr) → ink_all rust (strokes_of_attr a) ≡ attr_bytes a
unfolding ink_all ink strokes_of_attr attr_bytes value_of
ink_attr a = ap (λ (z : Bytes). 32 ∷ z) (append_assoc a.key (b "=\"") (value_of a ++ b "\""))

pub ink_attrs : (qs : List Attr) → ink_all rust (strokes_of_attrs qs) ≡ attrs_bytes qs
unfolding ink_all strokes_of_attrs attrs_bytes
ink_attrs [] = refl
ink_attrs (a ∷ qs) =
    ink-append rust (strokes_of_attr a) (strokes_of_attrs qs)
    ∙ ap (λ (z : Bytes). ink_all rust (strokes_of_attr a) ++ z) (ink_attrs qs)
    ∙ ap (λ (z : Bytes). z ++ attrs_bytes qs) (ink_attr a)

-- the bytes of an item are those of its strokes
ink_item : (i : Item) → ink_all rust (strokes_of i) ≡ bytes_of i
unfolding ink_all ink strokes_of bytes_of
ink_item (start n qs) = ap (λ (z : Bytes). 60 ∷ (name_of n ++ z)) (ink-append rust (strokes_of_attrs qs) (ends ∷ []) ∙ ap (λ (z : Bytes). z ++ b ">") (ink_attrs qs))
ink_item (empty n qs) = ap (λ (z : Bytes). 60 ∷ (name_of n ++ z)) (ink-append rust (strokes_of_attrs qs) (shuts ∷ []) ∙ ap (λ (z : Bytes). z ++ b " />") (ink_attrs qs))
ink_item (close n) = append-nil _
ink_item (text t) = append-nil _
ink_item (line d) = append-nil _

-- items in a row, in any profile
pub ink_items : (p : Profile) (is : List Item) → ink_all p (strokes_of_all is) ≡ render_as p is
unfolding ink_all strokes_of_all render_as render
ink_items rust [] = refl
ink_items rust (i ∷ is) =
    ink-append rust (strokes_of i) (strokes_of_all is) ∙ ap (λ (z : Bytes). ink_all rust (strokes_of i) ++ z) (ink_items rust is) ∙ ap (λ (z : Bytes). z ++ render is) (ink_item i)

-- an item alone, in any profile
ink-alone : (p : Profile) (i : Item) → ink_all p (strokes_of i) ≡ render_as p (i ∷ [])
unfolding strokes_of_all
ink-alone p i = ap (ink_all p) (sym (append-nil (strokes_of i))) ∙ ink_items p (i ∷ [])

pub strokes_item : (w : Desk) (i : Item) → strokes w (strokes_of i) ≡ emit w (item i)
unfolding strokes
strokes_item w i = ap (put_on w) (ink-alone w.profile i) ∙ item_on w i

-- strokes that are an item's
pub drew_item : (d last-d : Held) {out last : Bytes} (i : Item) → Drew d out (strokes_of i) last-d last
    → (source : Bytes) → desk_of source last-d last ≡ emit (desk_of source d out) (item i)
drew_item d last-d {out} i e source = e.on source ∙ strokes_item (desk_of source d out) i

-- ---- attributes

pub attrs_append : (x y : List Attr) → strokes_of_attrs (x ++ y) ≡ strokes_of_attrs x ++ strokes_of_attrs y
unfolding strokes_of_attrs
attrs_append [] y = refl
attrs_append (a ∷ x) y = ap (λ (z : List Stroke). strokes_of_attr a ++ z) (attrs_append x y) ∙ sym (append_assoc (strokes_of_attr a) (strokes_of_attrs x) (strokes_of_attrs y))

-- ---- pieces of one value

pub ink-pieces : (p : Profile) (raw : Bool) (s t : Bytes) → ink p (piece raw s) ++ ink p (piece raw t) ≡ ink p (piece raw (s ++ t))
unfolding ink
ink-pieces rust true s t = refl
ink-pieces rust false s t = sym (escape-append true s t)

pub drew_pieces : (d d₁ d₂ : Held) {out o₁ last : Bytes} (raw : Bool) (s t : Bytes) → Drew d out (piece raw s ∷ []) d₁ o₁ → Drew d₁ o₁ (piece raw t ∷ []) d₂ last
    → Drew d out (piece raw (s ++ t) ∷ []) d₂ last
unfolding strokes ink_all
drew_pieces d d₁ d₂ {out} raw s t e f =
    record {
      on = λ source.
          let p : Profile = profile_of d.profile in
          (drew_two d d₁ d₂ e f).on source
          ∙ ap (put_on (desk_of source d out)) (sym (append_assoc (ink p (piece raw s)) (ink p (piece raw t)) []) ∙ ap (λ (z : Bytes). z ++ []) (ink-pieces p raw s t));
    }
