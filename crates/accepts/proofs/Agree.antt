-- Where what is written is sound, the milestones of a tape's items are the same before and behind the escapes.
use mathlib.Core.Path.{◌≡◌, refl, sym, ap, ◌∙◌, subst}
use mathlib.Core.List.{List, [], ◌∷◌, ◌++◌, append_assoc, append-nil}
use mathlib.Core.Option.{Option, none as nothing, some}
use Prim.Native.Nat.{ℕ}
use native.Mathlib.Omega.{arith}
use borrow.Author.Tests.{ne_eqb}
use Rattle.parts.specs.Bytes.{Bytes, b}
use Rattle.tape.specs.File.{Tape}
use Rattle.tags.specs.Items.{Attr, Item, start, empty, close, text, line, value_of, pairs_of_of, apart}
use Rattle.checker.specs.View.{Mark, start as starts, bare, single, mark_on, view, views}
use Rattle.checker.specs.Steps.{Pairs, pair_up}
use Rattle.checker.proofs.Decides.{pair_fold}
use Rattle.events.specs.Event.{Event, rawly}
use Rattle.events.specs.Pairing.{State, chapter_id_of, verse_id_of, after, end_of, chapter_attrs_of, verse_attrs_of, book_items, items_of, last_ends, paired}
use Rattle.events.specs.Text.{first_state_of}
use Rattle.events.specs.Walk.{events_of}
use Rattle.grammar.specs.Grammar.{a_text, a_line, an_empty, a_chapter, a_verse, an_aside, a_back, Written, by_itself, of_book, opening, closing, AllWritten}
use Rattle.grammar.proofs.Written.{walk_written, given_range}
use Rattle.pairing.specs.Seen.{pairs, token_of, seen}
use Rattle.accepts.specs.Proviso.{Free}
use Rattle.accepts.specs.Sound.{SoundEvent, SoundEvents, Sound}
use Rattle.pairing.proofs.Paired.{chapter-seen, verse-seen}
use Rattle.accepts.proofs.Free.{free-escape}
use Rattle.accepts.proofs.Sids.{chapter_sid, verse_sid}
use Rattle.accepts.proofs.Starts.{single_mark}

-- the rules of milestones make the same of the items behind the escapes as before them
abbrev Agree : List Item → Type 0
Agree is = (p : Pairs) → pair_fold p (views (apart is)) ≡ pair_fold p (seen is)

agree_nil : Agree []
unfolding apart seen
agree_nil p = refl

module _ (is : List Item) (g : Agree is) where
  agree_start : (n : ℕ) (qs : List Attr) → Agree (start n qs ∷ is)
  unfolding apart seen token_of view pair_fold
  agree_start n qs p = g (pair_up p _)

  agree_close : (n : ℕ) → Agree (close n ∷ is)
  unfolding apart seen token_of view pair_fold
  agree_close n p = g (pair_up p _)

  agree_text : (s : Bytes) → Agree (text s ∷ is)
  unfolding apart seen token_of view pair_fold
  agree_text s p = g (pair_up p _)

  agree_line : (d : ℕ) → Agree (line d ∷ is)
  unfolding apart seen token_of view pair_fold
  agree_line d p = g (pair_up p _)

  agree_empty : (n : ℕ) (qs : List Attr) → mark_on bare (pairs_of_of qs) ≡ mark_on bare (pairs qs) → Agree (empty n qs ∷ is)
  unfolding apart seen token_of view pair_fold
  agree_empty n qs e p = g (pair_up p _) ∙ ap (λ (m : Mark). pair_fold (pair_up p (single n m)) (seen is)) e

  -- neither a chapter nor a verse: what it says is nothing to the rules
  agree_other : (n : ℕ) (qs : List Attr) → (n ≡ 3 → ⊥) → (n ≡ 4 → ⊥) → Agree (empty n qs ∷ is)
  unfolding apart seen token_of view pair_fold
  agree_other n qs h k p =
      ap (λ (q : Pairs). pair_fold q (views (apart is))) (passes p (mark_on bare (pairs_of_of qs))) ∙ g p
      ∙ sym (ap (λ (q : Pairs). pair_fold q (seen is)) (passes p (mark_on bare (pairs qs))))
    where
      passes : (p : Pairs) (m : Mark) → pair_up p (single n m) ≡ p
      passes p m = unfold pair_up in rw (ne_eqb n 3 h, ne_eqb n 4 k)

  agree_end : (k : ℕ) (o : Option Bytes) → Agree (end_of k o ++ is)
  unfolding end_of pairs_of_of pairs value_of rawly
  agree_end k nothing = g
  agree_end k (some i) = agree_empty k (rawly (b "eid") i ∷ []) refl

-- ---- chapters and verses

chapter_mark : (code : Bytes) (n : ℕ) (alt published : Option Bytes) → Free (chapter_id_of code n)
    → mark_on bare (pairs_of_of (chapter_attrs_of code n alt published)) ≡ mark_on bare (pairs (chapter_attrs_of code n alt published))
unfolding view token_of
chapter_mark code n alt published h =
    chapter_sid code n alt published ∙ ap starts ((free-escape (chapter_id_of code n)).0 h) ∙ sym (single_mark 3 _ _ (chapter-seen code n alt published))

verse_mark : (code : Bytes) (n : ℕ) (label : Bytes) (alt published : Option Bytes) → Free (verse_id_of code n label)
    → mark_on bare (pairs_of_of (verse_attrs_of code n label alt published)) ≡ mark_on bare (pairs (verse_attrs_of code n label alt published))
unfolding view token_of
verse_mark code n label alt published h =
    verse_sid code n label alt published ∙ ap starts ((free-escape (verse_id_of code n label)).0 h) ∙ sym (single_mark 4 _ _ (verse-seen code n label alt published))

-- ---- events

agree_book : (code rest : Bytes) (js : List Item) → Agree js → Agree (book_items code rest ++ js)
unfolding book_items
agree_book code [] js g = agree_other js g 2 _ (λ e. omega arith) (λ e. omega arith)
agree_book code (x ∷ rest) js g = agree_start (text (x ∷ rest) ∷ close 2 ∷ js) (agree_text (close 2 ∷ js) (agree_close js g 2) (x ∷ rest)) 2 _

agree_event : {t : Tape} {e : Event} (s : State) (js : List Item) → Written t e → SoundEvent s e → Agree js → Agree (items_of s e ++ js)
unfolding items_of
agree_event s js (by_itself (a_text {s = x})) i g = agree_text js g x
agree_event s js (by_itself (a_line {d})) i g = agree_line js g d
agree_event s js (by_itself (an_empty {n} {qs} a)) i g = let r = given_range a in agree_other js g n qs (λ e. omega arith) (λ e. omega arith)
agree_event s js (by_itself (a_chapter {n} {alt} {published})) i g =
    rw (append_assoc, append_assoc)
    (agree_end _ (agree_end _ (agree_empty js g 3 _ (chapter_mark s.book n alt published i)) 3 s.chapter) 4 s.verse)
agree_event s js (by_itself (a_verse k {alt} {published} v)) i g =
    rw append_assoc (agree_end _ (agree_empty js g 4 _ (verse_mark s.book s.number _ alt published i)) 4 s.verse)
agree_event s js (by_itself an_aside) i g = g
agree_event s js (by_itself a_back) i g = g
agree_event s js (of_book k o r) i g = agree_book _ _ js g
agree_event s js (opening {n} {qs} a) i g = agree_start js g n qs
agree_event s js (closing {n} a) i g = agree_close js g n

agree_paired : (t : Tape) (s : State) (es : List Event) → AllWritten t es → SoundEvents s es → Agree (paired s es)
unfolding paired last_ends
agree_paired t s [] w i =
    agree_end (end_of 3 s.chapter) (subst Agree (append-nil (end_of 3 s.chapter)) (agree_end [] agree_nil 3 s.chapter)) 4 s.verse
agree_paired t s (e ∷ es) w i = agree_event s (paired (after s e) es) w.0 i.0 (agree_paired t (after s e) es w.1 i.1)

pub sound_agrees : (t : Tape) → Sound t → (q : Pairs) → pair_fold q (views (apart (paired (first_state_of t) (events_of t)))) ≡ pair_fold q (seen (paired (first_state_of t) (events_of t)))
sound_agrees t i = agree_paired t (first_state_of t) (events_of t) (walk_written t) i.events
