-- A marker is what opens it, what stands inside and what closes it; or a leaf.
use mathlib.Core.Path.{◌≡◌, refl, ap}
use mathlib.Core.Bool.{Bool, not, cond}
use mathlib.Core.List.{List, [], ◌∷◌, ◌++◌, append_assoc}
use mathlib.Core.Option.{Option, none, some}
use Prim.Native.Nat.{ℕ}
use Rattle.parts.specs.Bytes.{Bytes, b}
use Rattle.tape.specs.File.{Tape}
use Rattle.tape.specs.Tree.{found}
use Rattle.tape.specs.Name.{marker_name}
use Rattle.tape.specs.Found.{Step}
use Rattle.std.specs.Prelude.{None, Some}
use Rattle.render.specs.Note.{note_caller_of, written_category}
use Rattle.attrs.specs.Attr.{attributes_of}
use Rattle.figure.specs.Figure.{legacy_at}
use Rattle.tags.specs.Items.{Attr, start, close}
use Rattle.events.specs.Event.{Event, item, aside, back, escaped, perhaps, collected, element, asided}
use Rattle.events.specs.Walk.{style, styled, unclosed, link_of, linked, figure_as, marker_as, Manner, as_inline, as_note, Role, unknown_block, unknown_inline, unwritten, figure, ref, id, note, ms, char, para}
use Rattle.roles.specs.Roles.{is_whole, manner_of}
use Rattle.put_markers.specs.Marker.{link_opens, link_closes, marker_opens, marker_closes, old_figure_of, leaf_of}

-- a link around events, and more behind it
link-split : (o : Option Bytes) (es rest : List Event) → linked o es ++ rest ≡ link_opens o ++ (es ++ (link_closes o ++ rest))
unfolding linked link_opens link_closes element
link-split none es rest = refl
link-split (some loc) es rest = ap (λ (fs : List Event). link_opens (some loc) ++ fs) (append_assoc es (item (close 16) ∷ []) rest)

-- an element that stands aside, as what opens it, what stands inside and what closes it
aside_split : (n : ℕ) (qs : List Attr) (es : List Event) → asided (element n qs es) ≡ aside ∷ item (start n qs) ∷ (es ++ (item (close n) ∷ back ∷ []))
unfolding asided element
aside_split n qs es = ap (λ (fs : List Event). aside ∷ item (start n qs) ∷ fs) (append_assoc es (item (close n) ∷ []) (back ∷ []))

module _ (inside : Manner → ℕ → Bool → List Event) (t : Tape) (k : ℕ) (outer : Bool) where
  figure-split : (s : Step) → figure_as inside t k outer s
      ≡ cond (not (found s)) (aside ∷ item (start 9 (styled (b "fig") ++ collected (attributes_of t k (b "fig")))) ∷ (inside as_inline k outer ++ (item (close 9) ∷ back ∷ []))) (old_figure_of t k s)
  unfolding figure_as old_figure_of
  figure-split (Some a) = refl
  figure-split None = aside_split 9 (styled (b "fig") ++ collected (attributes_of t k (b "fig"))) (inside as_inline k outer)

  -- what the definition writes for a marker, in the parts that the code writes
  pub marker-split : (role : Role) → marker_as inside t k outer role
      ≡ cond (is_whole t k role) (marker_opens t k role ++ (inside (manner_of role) k outer ++ marker_closes t k role)) (leaf_of t k role)
  unfolding marker_as is_whole marker_opens marker_closes leaf_of manner_of element
  marker-split unknown_block = refl
  marker-split unknown_inline = refl
  marker-split unwritten = refl
  marker-split figure = figure-split (legacy_at t k)
  marker-split ref = refl
  marker-split id = refl
  marker-split note = aside_split 7 (escaped (b "caller") (note_caller_of t k) ∷ style t k ∷ perhaps (b "category") (written_category t k)) (inside as_note k outer)
  marker-split ms = refl
  marker-split char =
      ap (λ (es : List Event). item (start 6 (style t k ∷ (unclosed t k ++ collected (attributes_of t k (marker_name t k))))) ∷ es) (link-split (link_of t k) (inside as_inline k outer) (item (close 6) ∷ []))
  marker-split para = refl
