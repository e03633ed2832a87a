-- Runs painted one behind the other, and the desk that they make.
use mathlib.Core.Path.{◌≡◌, refl, sym, ap, ◌∙◌}
use mathlib.Core.List.{[], ◌∷◌, ◌++◌, append-nil}
use Rattle.parts.specs.Bytes.{Bytes}
use Rattle.window.specs.Page.{Page, page_of, paint}
use Rattle.window.specs.declared.Window.{Window}
use Rattle.window.proofs.Paint.{paint-two}
use Rattle.tags.specs.Items.{Item, render, bytes_of}
use Rattle.events.specs.Event.{item}
use Rattle.events.specs.Pairing.{items_of, after}
use Rattle.events.specs.Profile.{Profile, rust, render_as}
use Rattle.events.specs.Emit.{Desk, emit}
use Rattle.desk.specs.declared.Desk.{Desk as Held}
use Rattle.desk.specs.Desk.{state_in, profile_of, desk_of, put_on}

module _ (p : Page) {a c d : Page} (x y z : Bytes) where
  pub paint_three : a ≡ paint p x → c ≡ paint a y → d ≡ paint c z → d ≡ paint p (x ++ (y ++ z))
  paint_three ea ec ed = paint-two p x (y ++ z) ea (paint-two a y z ec ed)

pub paint-four : (p : Page) {a c d e : Page} (x y z w : Bytes) → a ≡ paint p x → c ≡ paint a y → d ≡ paint c z → e ≡ paint d w → e ≡ paint p (x ++ (y ++ (z ++ w)))
paint-four p {a} x y z w ea ec ed ee = paint-two p x (y ++ (z ++ w)) ea (paint_three a y z w ec ed ee)

-- an item is its bytes in the desk's profile
pub item_on : (d : Desk) (i : Item) → put_on d (render_as d.profile (i ∷ [])) ≡ emit d (item i)
unfolding put_on emit items_of after
item_on d i = refl

-- the bytes of an item in any profile
one_item : (p : Profile) (i : Item) → bytes_of i ≡ render_as p (i ∷ [])
unfolding render_as render
one_item rust i = sym (append-nil (bytes_of i))

-- what is painted through the window of a desk
pub desk_on : (d : Held) {v : Window} (out : Bytes) {last : Bytes} (x : Bytes) → page_of v last ≡ paint (page_of d.window out) x
    → (source : Bytes) → desk_of source (record d { window = v }) last ≡ put_on (desk_of source d out) x
unfolding put_on
desk_on d out x ev source = ap (λ (p : Page). record { page = p; state = state_in source d.marks; profile = profile_of d.profile }) ev

-- the same for the bytes of an item
pub desk_item : (d : Held) {v : Window} (out : Bytes) {last : Bytes} (i : Item) → page_of v last ≡ paint (page_of d.window out) (bytes_of i)
    → (source : Bytes) → desk_of source (record d { window = v }) last ≡ emit (desk_of source d out) (item i)
desk_item d out i ev source =
    desk_on d out (bytes_of i) ev source ∙ ap (put_on (desk_of source d out)) (one_item (profile_of d.profile) i) ∙ item_on (desk_of source d out) i
