-- Inline content is the same where what stands inside its nodes is.
use mathlib.Core.Path.{◌≡◌, refl, ap, ◌∙◌}
use mathlib.Core.Bool.{Bool}
use mathlib.Core.List.{List, [], ◌∷◌, ◌++◌}
use mathlib.Core.Logic.{inl, inr}
use Prim.Native.Nat.{ℕ, zero, suc}
use lib.ListN.{length}
use Rattle.tape.specs.File.{Tape, kind_at}
use Rattle.tape.specs.Found.{Step}
use Rattle.std.specs.Prelude.{None, Some}
use Rattle.tape.specs.Kind as kinds
use Rattle.nest.specs.Walk.{In}
use Rattle.figure.specs.Figure.{legacy_at}
use Rattle.tags.specs.Element as el
use Rattle.events.specs.Event.{Event, verse}
use Rattle.events.specs.Walk.{Manner, as_inline, as_note, Role, unknown_block, unknown_inline, unwritten, figure, ref, id, note, ms, char, para, role_of, figure_as, marker_as, node_in_of, Child, anchor, words, passed, marker, child_of, Turn, inline_turn, inline_from, inline_all, NoteChild, direct, left_out, entered, note_child_of, Noted, note_turn_of, note_all}
use Rattle.depth.proofs.Members.{Within, all-within, fold_within}

-- ---- one node

module _ (t : Tape) (f g : Manner → ℕ → Bool → List Event) (k : ℕ) (outer : Bool) (same : (m : Manner) → f m k outer ≡ g m k outer) where
  figure-same : (s : Step) → figure_as f t k outer s ≡ figure_as g t k outer s
  unfolding figure_as
  figure-same (Some a) = refl
  figure-same None = rw (same as_inline)

  marker-same : (r : Role) → marker_as f t k outer r ≡ marker_as g t k outer r
  unfolding marker_as
  marker-same unknown_block = rw (same as_inline)
  marker-same unknown_inline = rw (same as_inline)
  marker-same unwritten = refl
  marker-same figure = figure-same (legacy_at t k)
  marker-same ref = rw (same as_inline)
  marker-same id = refl
  marker-same note = rw (same as_note)
  marker-same ms = refl
  marker-same char = rw (same as_inline)
  marker-same para = rw (same as_inline)

  -- a node is the same where what stands inside it is
  pub node-same : node_in_of f t k outer ≡ node_in_of g t k outer
  unfolding node_in_of
  node-same = rw (marker-same (role_of t k))

-- ---- lists

module _ (t : Tape) (f g : ℕ → Bool → List Event) (behind : Bool) where
  -- both write the same for each node of a list
  abbrev pub Same : List ℕ → Type 0
  Same ks = (c : ℕ) → In c ks → f c behind ≡ g c behind

  turn-same : (trim : Bool) (k : ℕ) (ks : List ℕ) (c : Child) → f k behind ≡ g k behind → inline_turn f t behind trim k ks c ≡ inline_turn g t behind trim k ks c
  unfolding inline_turn
  turn-same trim k ks anchor e = refl
  turn-same trim k ks words e = refl
  turn-same trim k ks passed e = refl
  turn-same trim k ks marker e = rw e

  turn-within : (trim : Bool) (k : ℕ) (ks : List ℕ) (c : Child) → Within (inline_turn g t behind trim k ks c).rest ks
  unfolding inline_turn
  turn-within trim k ks anchor = fold_within t kinds.verse ks
  turn-within trim k ks words = all-within ks
  turn-within trim k ks passed = all-within ks
  turn-within trim k ks marker = all-within ks

  from_same : (n : ℕ) (trim : Bool) (ks : List ℕ) → Same ks → inline_from f t behind n trim ks ≡ inline_from g t behind n trim ks
  unfolding inline_from
  from_same zero trim ks same = refl
  from_same (suc n) trim [] same = refl
  from_same (suc n) trim (k ∷ ks) same =
      let c = child_of (kind_at t k) in
      let r : Turn = inline_turn g t behind trim k ks c in
      ap (λ (q : Turn). q.written ++ inline_from f t behind n q.trim q.rest) (turn-same trim k ks c (same k (inl refl)))
      ∙ ap (λ (es : List Event). r.written ++ es) (from_same n r.trim r.rest (λ i h. same i (inr ((turn-within trim k ks c).each i h))))

  pub inline-same : (trim : Bool) (ks : List ℕ) → Same ks → inline_all f t behind trim ks ≡ inline_all g t behind trim ks
  unfolding inline_all
  inline-same trim ks same = from_same (length ks) trim ks same

  note_turn_same : (first : ℕ) (trim : Bool) (k : ℕ) (c : NoteChild) → f k behind ≡ g k behind → note_turn_of f t first behind trim k c ≡ note_turn_of g t first behind trim k c
  unfolding note_turn_of
  note_turn_same first trim k direct e = refl
  note_turn_same first trim k left_out e = refl
  note_turn_same first trim k entered e = rw e

  pub note-same : (first : ℕ) (trim : Bool) (ks : List ℕ) → Same ks → note_all f t first behind trim ks ≡ note_all g t first behind trim ks
  unfolding note_all
  note-same first trim [] same = refl
  note-same first trim (k ∷ ks) same =
      let c = note_child_of t k in
      let r : Noted = note_turn_of g t first behind trim k c in
      ap (λ (q : Noted). q.written ++ note_all f t first behind q.trim ks) (note_turn_same first trim k c (same k (inl refl)))
      ∙ ap (λ (es : List Event). r.written ++ es) (note-same first r.trim ks (λ i h. same i (inr h)))
