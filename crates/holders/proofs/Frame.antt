-- The tag around the whole text.
use mathlib.Core.Path.{◌≡◌, sym, ap, ◌∙◌}
use mathlib.Core.Bool.{false}
use mathlib.Core.List.{[], ◌∷◌}
use Rattle.parts.specs.Bytes.{Bytes, b}
use Rattle.window.specs.Page.{Page, paint}
use Rattle.window.proofs.Paint.{paint-append}
use Rattle.tags.specs.Items.{start, close, line}
use Rattle.events.specs.Event.{item, escaped}
use Rattle.events.specs.Pairing.{items_of, after}
use Rattle.events.specs.Profile.{render_as}
use Rattle.events.specs.Emit.{Desk, lay, emit}
use Rattle.events.proofs.Emits.{as_append}
use Rattle.desk.specs.Stroke.{opens as open_stroke, key, piece, end_value_of, ends as end_stroke, closes as close_stroke, strokes_of, strokes_of_attrs, strokes_of_attr, strokes, Drew}
use Rattle.desk.proofs.Strokes.{drew_two, strokes_item}
use Rattle.desk.specs.declared.Desk.{Desk as Held}

-- the tag around the whole text
pub usx_opened : (n n₁ n₂ n₃ : Held) {out o₁ o₂ last : Bytes} → Drew n out (open_stroke 1 ∷ []) n₁ o₁ → Drew n₁ o₁ (key (b "version") ∷ piece false (b "3.0") ∷ end_value_of ∷ []) n₂ o₂
    → Drew n₂ o₂ (end_stroke ∷ []) n₃ last → Drew n out (strokes_of (start 1 (escaped (b "version") (b "3.0") ∷ []))) n₃ last
unfolding strokes_of strokes_of_attrs strokes_of_attr escaped
usx_opened n n₁ n₂ n₃ e₁ e₂ e₃ = drew_two n n₁ n₃ e₁ (drew_two n₁ n₂ n₃ e₂ e₃)

-- the last new line, and its end
pub usx_closed : (w : Desk) {a r : Desk} → a ≡ emit w (item (line 0)) → r ≡ strokes a (close_stroke 1 ∷ []) → r ≡ lay w (line 0 ∷ close 1 ∷ [])
unfolding strokes_of emit lay items_of after
usx_closed w {a} ea er =
    let x : Bytes = render_as w.profile (line 0 ∷ []) in
    let y : Bytes = render_as w.profile (close 1 ∷ []) in
    er ∙ strokes_item a (close 1) ∙ ap (λ (z : Desk). emit z (item (close 1))) ea
    ∙ ap (λ (p : Page). record { page = p; state = w.state; profile = w.profile }) (paint-append w.page x y ∙ ap (paint w.page) (sym (as_append w.profile (line 0 ∷ []) (close 1 ∷ []))))
