-- The proviso of demand 3 makes what is written sound.
use mathlib.Core.Path.{◌≡◌, refl}
use mathlib.Core.Bool.{Bool, true, false}
use mathlib.Core.List.{List, [], ◌∷◌, ◌++◌}
use Prim.Native.Nat.{ℕ}
use native.Mathlib.Omega.{arith}
use Rattle.parts.specs.Bytes.{Bytes}
use Rattle.tape.specs.File.{Tape, kind_at, bears_marker}
use Rattle.tape.specs.Name.{marker_name}
use Rattle.render.specs.Shape.{is_open, is_verse_of}
use Rattle.render.specs.Label.{label_of}
use Rattle.render.specs.Note.{book_code_of}
use Rattle.attrs.specs.Attr.{attributes_of}
use Rattle.tags.specs.Write.{Clean}
use Rattle.tags.specs.declared.Class.TheVariants.{Value}
use Rattle.tags.specs.Items.{Attr, LegalAttrs}
use Rattle.events.specs.Event.{Event}
use Rattle.events.specs.Pairing.{State, after}
use Rattle.events.specs.Text.{first_state_of}
use Rattle.events.specs.Walk.{id, role_of, events_of}
use Rattle.grammar.specs.Grammar.{Given, a_text, a_line, an_empty, a_chapter, a_verse, an_aside, a_back, Written, by_itself, of_book, opening, closing, AllWritten}
use Rattle.grammar.proofs.Written.{walk_written}
use Rattle.grammar.proofs.Attrs.{Keys, given_attrs}
use Rattle.accepts.specs.Proviso.{has_special, Free, What, code, label, marker, Name, name_where, is_id, has_code, collects_as, keys_of, names_of, AllFree, Proviso}
use Rattle.accepts.specs.Sound.{SoundEvent, SoundEvents, Sound}
use Rattle.accepts.proofs.Free.{free-chapter, free-verse}
use Rattle.accepts.proofs.Legal.{LegalKey, free_clean, attrs_legal, styles_clean, keys_known}
use Rattle.accepts.proofs.Keys.{attributes_own, keys_legal}
use Rattle.accepts.proofs.FreeKeys.{attributes_free}

-- ---- each name of a node

free-split : (ns ms : List Name) → AllFree (ns ++ ms) → AllFree ns × AllFree ms
free-split [] ms h = (tt, h)
free-split (n ∷ ns) ms h = let i = free-split ns ms h.1 in ((h.0, i.0), i.1)

where_free : (has : Bool) (w : What) (s : Bytes) → has ≡ true → AllFree (name_where has w s) → Free s
unfolding name_where
where_free true w s e h = h.0
where_free false w s e h = absurd (let no_way : ◌≡◌ {A = ℕ} 0 1 = cc in omega arith)

module _ (t : Tape) (p : Proviso t) where
  split : (k : ℕ)
      → AllFree (name_where (has_code t k) code (book_code_of t k)) × AllFree (name_where (is_verse_of t k) label (label_of t k))
      × AllFree (name_where (bears_marker (kind_at t k)) marker (marker_name t k)) × AllFree (keys_of (attributes_of t k (collects_as t k)))
  unfolding names_of
  split k =
      let h = free-split (name_where (has_code t k) code (book_code_of t k)) _ (p.free k) in
      let i = free-split (name_where (is_verse_of t k) label (label_of t k)) _ h.1 in
      let j = free-split (name_where (bears_marker (kind_at t k)) marker (marker_name t k)) _ i.1 in
      (h.0, i.0, j.0, j.1)

  pub kept_code : (k : ℕ) → is_open t k ≡ true → role_of t k ≡ id → Free (book_code_of t k)
  unfolding has_code is_id
  kept_code k o r = where_free (has_code t k) code (book_code_of t k) (rw (o, r)) (split k).0

  pub kept_label : (k : ℕ) → is_verse_of t k ≡ true → Free (label_of t k)
  kept_label k v = where_free (is_verse_of t k) label (label_of t k) v (split k).1

  pub kept_marker : (k : ℕ) → bears_marker (kind_at t k) ≡ true → Free (marker_name t k)
  kept_marker k m = where_free (bears_marker (kind_at t k)) marker (marker_name t k) m (split k).2

  kept_keys : (k : ℕ) (name : Bytes) → Keys LegalKey (attributes_of t k name)
  kept_keys k name =
      keys_legal (attributes_of t k name) (attributes_own t k name)
      (attributes_free t k (collects_as t k) name (split k).3)

-- ---- what is written

module _ (t : Tape) (p : Proviso t) where
  -- the attributes of an element
  given_legal : {n : ℕ} {qs : List Attr} → Given t n qs → LegalAttrs qs
  given_legal a =
      attrs_legal
      (given_attrs (Clean Value) LegalKey styles_clean keys_known t (λ k m. free_clean (marker_name t k) (kept_marker t p k m)) (kept_keys t p) a)

  -- an event in a state whose book code is free is sound, and leaves such a state
  kept_event : {e : Event} (s : State) → Written t e → Free s.book → SoundEvent s e × Free (after s e).book
  unfolding after
  kept_event s (by_itself a_text) h = (tt, h)
  kept_event s (by_itself a_line) h = (tt, h)
  kept_event s (by_itself (an_empty a)) h = (given_legal a, h)
  kept_event s (by_itself (a_chapter {n})) h = ((free-chapter s.book n).0 h, h)
  kept_event s (by_itself (a_verse k v)) h = ((free-verse s.book s.number (label_of t k)).0 (h, kept_label t p k v), h)
  kept_event s (by_itself an_aside) h = (tt, h)
  kept_event s (by_itself a_back) h = (tt, h)
  kept_event s (of_book k o r) h = (free_clean (book_code_of t k) (kept_code t p k o r), kept_code t p k o r)
  kept_event s (opening a) h = (given_legal a, h)
  kept_event s (closing a) h = (tt, h)

  kept_events : (s : State) (es : List Event) → AllWritten t es → Free s.book → SoundEvents s es
  kept_events s [] w h = tt
  kept_events s (e ∷ es) w h = let i = kept_event s w.0 h in (i.0, kept_events (after s e) es w.1 i.1)

  -- the proviso implies that what is written is sound
  pub proviso_sound : Sound t
  unfolding first_state_of has_special
  proviso_sound = record { events = kept_events (first_state_of t) (events_of t) (walk_written t) refl }
