-- Events written through a window: the page and the pairing's state go on together.
use Rattle.std.specs.Prelude.{List, [], ◌∷◌, ◌++◌}
use Rattle.window.specs.Page.{Page, paint}
use Rattle.tags.specs.Items.{Item}
use Rattle.events.specs.Event.{Event}
use Rattle.events.specs.Pairing.{State, items_of, after}
use Rattle.events.specs.Profile.{Profile, render_as}

-- what is written so far, what is open, and which text it is
pub record Desk : Type 0 where
  pub page : Page
  pub state : State
  pub profile : Profile

-- items more, which open and end nothing
unfoldable pub lay : Desk → List Item → Desk
lay w is = record { page = paint w.page (render_as w.profile is); state = w.state; profile = w.profile }

-- an event more
unfoldable pub emit : Desk → Event → Desk
emit w e = record { page = paint w.page (render_as w.profile (items_of w.state e)); state = after w.state e; profile = w.profile }

-- a list of events more
unfoldable pub emit_all : Desk → List Event → Desk
emit_all w [] = w
emit_all w (e ∷ es) = emit_all (emit w e) es

-- the items of a list of events, without the last ends
unfoldable pub emitted : State → List Event → List Item
emitted s [] = []
emitted s (e ∷ es) = items_of s e ++ emitted (after s e) es

-- the state behind a list of events
unfoldable pub after_all : State → List Event → State
after_all s [] = s
after_all s (e ∷ es) = after_all (after s e) es
