-- Emission and pairing along a list of events.
use mathlib.Core.Path.{◌≡◌, refl, sym, ap, ◌∙◌}
use mathlib.Core.Bool.{Bool, true, false}
use mathlib.Core.List.{List, [], ◌∷◌, ◌++◌, append_assoc}
use mathlib.Core.Option.{Option}
use Prim.Native.Nat.{ℕ}
use Rattle.parts.specs.Bytes.{Bytes}
use Rattle.window.specs.Page.{Page, paint}
use Rattle.window.proofs.Paint.{paint-append}
use Rattle.tags.specs.Items.{Item, empty, render}
use Rattle.tags.proofs.Rendered.{render-append}
use Rattle.events.specs.Event.{Event, chapter, verse, aside, back, asided, besides}
use Rattle.events.specs.Pairing.{State, end_of, chapter_attrs_of, verse_attrs_of, items_of, after, paired, last_ends}
use Rattle.events.specs.Profile.{Profile, rust, render_as}
use Rattle.events.specs.Emit.{Desk, emit, emit_all, emitted, after_all}

-- there is one profile
pub one_profile : (p : Profile) → p ≡ rust
one_profile rust = refl

-- no items have no bytes, in any profile
pub as_none : (p : Profile) → [] ≡ render_as p []
unfolding render_as render
as_none rust = refl

-- the bytes of items and of others behind them, in any profile
pub as_append : (p : Profile) (x y : List Item) → render_as p (x ++ y) ≡ render_as p x ++ render_as p y
unfolding render_as
as_append rust x y = render-append x y

-- what a list and another behind it emit
pub emit-append : (w : Desk) (a z : List Event) → emit_all w (a ++ z) ≡ emit_all (emit_all w a) z
unfolding emit_all
emit-append w [] z = refl
emit-append w (e ∷ a) z = emit-append (emit w e) a z

-- what is emitted, and then another list
pub then : (d : Desk) {e : Desk} (xs ys : List Event) → e ≡ emit_all d xs → emit_all e ys ≡ emit_all d (xs ++ ys)
then d xs ys ee = ap (λ (u : Desk). emit_all u ys) ee ∙ sym (emit-append d xs ys)

-- events, others behind them, and others behind those
pub between : (d : Desk) {e f g : Desk} (xs ys zs : List Event) → e ≡ emit_all d xs → f ≡ emit_all e ys → g ≡ emit_all f zs → g ≡ emit_all d (xs ++ (ys ++ zs))
between d xs ys zs ee ef eg =
    eg ∙ ap (λ (u : Desk). emit_all u zs) (ef ∙ ap (λ (u : Desk). emit_all u ys) ee)
    ∙ ap (λ (u : Desk). emit_all u zs) (sym (emit-append d xs ys)) ∙ sym (emit-append d (xs ++ ys) zs)
    ∙ ap (emit_all d) (append_assoc xs ys zs)

-- no items leave the page as it is
paint-none : (w : Desk) → w.page ≡ paint w.page (render_as w.profile [])
unfolding paint
paint-none w = ap (paint w.page) (as_none w.profile)

-- an event without items that changes no state
silent_on : (d : Desk) → d ≡ record { page = paint d.page (render_as d.profile []); state = d.state; profile = d.profile }
silent_on d = ap (λ (p : Page). record { page = p; state = d.state; profile = d.profile }) (paint-none d)

-- `aside` before events writes nothing and changes no state
pub aside_on : (d : Desk) (es : List Event) → emit_all d es ≡ emit_all d (aside ∷ es)
unfolding emit_all emit items_of after
aside_on d es = ap (λ (u : Desk). emit_all u es) (silent_on d)

-- nor does `back` behind them
pub back_on : (d : Desk) (es : List Event) → emit_all d es ≡ emit_all d (es ++ (back ∷ []))
unfolding emit_all emit items_of after
back_on d es = silent_on (emit_all d es) ∙ sym (emit-append d es (back ∷ []))

-- what may be a note or a figure, and others behind it
pub besides_on : (d : Desk) (one : Bool) (es fs : List Event) → emit_all d (es ++ fs) ≡ emit_all d (besides one es ++ fs)
unfolding besides asided
besides_on d true es fs =
    emit-append d es fs ∙ ap (λ (u : Desk). emit_all u fs) (back_on d es ∙ aside_on d (es ++ (back ∷ []))) ∙ sym (emit-append d (asided es) fs)
besides_on d false es fs = refl

-- the items of a chapter, and others behind them
pub chapter_items : (s : State) (n : ℕ) (alt published : Option Bytes) (is : List Item)
    → items_of s (chapter n alt published) ++ is ≡ end_of 4 s.verse ++ (end_of 3 s.chapter ++ empty 3 (chapter_attrs_of s.book n alt published) ∷ is)
unfolding items_of
chapter_items s n alt published is = simp append_assoc

-- those of a verse
pub verse_items : (s : State) (label : Bytes) (alt published : Option Bytes) (is : List Item)
    → items_of s (verse label alt published) ++ is ≡ end_of 4 s.verse ++ empty 4 (verse_attrs_of s.book s.number label alt published) ∷ is
unfolding items_of
verse_items s label alt published is = simp append_assoc

-- the items of a list and of another behind it
pub emitted-append : (s : State) (a z : List Event) → emitted s (a ++ z) ≡ emitted s a ++ emitted (after_all s a) z
unfolding emitted after_all
emitted-append s [] z = refl
emitted-append s (e ∷ a) z =
    ap (λ (is : List Item). items_of s e ++ is) (emitted-append (after s e) a z)
    ∙ sym (append_assoc (items_of s e) (emitted (after s e) a) (emitted (after_all (after s e) a) z))

-- pairing is the items of the events, then the last ends
pub paired-emitted : (s : State) (es : List Event) → paired s es ≡ emitted s es ++ last_ends (after_all s es)
unfolding paired emitted after_all
paired-emitted s [] = refl
paired-emitted s (e ∷ es) =
    ap (λ (is : List Item). items_of s e ++ is) (paired-emitted (after s e) es)
    ∙ sym (append_assoc (items_of s e) (emitted (after s e) es) (last_ends (after_all (after s e) es)))

-- emission paints what pairing gives
pub emit_page : (w : Desk) (es : List Event) → (emit_all w es).page ≡ paint w.page (render_as w.profile (emitted w.state es))
unfolding emit_all emit emitted
emit_page w [] = paint-none w
emit_page w (e ∷ es) =
    emit_page (emit w e) es
    ∙ paint-append w.page (render_as w.profile (items_of w.state e)) (render_as w.profile (emitted (after w.state e) es))
    ∙ ap (paint w.page) (sym (as_append w.profile (items_of w.state e) (emitted (after w.state e) es)))

pub emit_state : (w : Desk) (es : List Event) → (emit_all w es).state ≡ after_all w.state es
unfolding emit_all emit after_all
emit_state w [] = refl
emit_state w (e ∷ es) = emit_state (emit w e) es

-- emission changes no profile
pub emit_profile : (w : Desk) (es : List Event) → (emit_all w es).profile ≡ w.profile
unfolding emit_all emit
emit_profile w [] = refl
emit_profile w (e ∷ es) = emit_profile (emit w e) es
