-- Events whose text is read are sound.
use mathlib.Core.Path.{◌≡◌, refl, sym, ap, ◌∙◌, subst}
use mathlib.Core.Bool.{true}
use mathlib.Core.List.{List, [], ◌∷◌, ◌++◌, append_assoc, append-nil}
use mathlib.Core.Logic.{inl, inr}
use mathlib.Core.Option.{Option, none, some}
use Prim.Native.Nat.{ℕ, ◌≤◌}
use native.Mathlib.Omega.{arith}
use Rattle.parts.specs.Bytes.{Bytes, b}
use Rattle.chars.specs.Escape.{escape}
use Rattle.tags.specs.Write.{Clean}
use Rattle.tags.specs.Items.{Item, start, empty, close, text, value_of, bytes_of, render, pairs_of_of, LegalAttrs, more}
use Rattle.tags.specs.declared.Class.TheVariants.{Value}
use Rattle.checker.specs.View.{start as starts, View, single, view}
use Rattle.checker.specs.Steps.{Held, shut, held}
use Rattle.checker.specs.Meaning.{since}
use Rattle.events.specs.Event.{Event, item, chapter, verse, book, aside, back, rawly}
use Rattle.events.specs.Pairing.{State, chapter_id_of, verse_id_of, after, end_of, chapter_attrs_of, verse_attrs_of, book_attrs, book_items, items_of, last_ends, paired}
use Rattle.events.proofs.Emits.{chapter_items, verse_items}
use Rattle.accepts.specs.Sound.{SoundEvents}
use Rattle.accepts.proofs.Ends.{eid}
use Rattle.accepts.proofs.Legal.{FreeId, is_book, is_chapter, is_verse}
use Rattle.accepts.proofs.Sids.{chapter_sid, verse_sid}
use Rattle.exact.proofs.Reading.{tag_of, tag_in, Reads}
use Rattle.exact.proofs.Items.{reads_tag, tag_written, reads_item}
use Rattle.exact.proofs.Ends.{end_read, verse_held, chapter_held, held_end}
use Rattle.exact.proofs.Wordy.{wordy_chapter, wordy_verse, wordy_book, WordyEvent, WordyEvents}

-- ---- what is open

-- an open chapter or verse as the checker holds it
abbrev pub held_of : Option Bytes → Held
held_of none = shut
held_of (some i) = held (escape true i)

-- ---- ends

-- an item at the front of a list
front : (i : Item) (is : List Item) (r : Bytes) → render (i ∷ is) ++ r ≡ bytes_of i ++ (render is ++ r)
unfolding render
front i is r = append_assoc (bytes_of i) (render is) r

end_written : (k : ℕ) (i : Bytes) (is : List Item) (r : Bytes) → render (empty k (rawly (b "eid") i ∷ []) ∷ is) ++ r ≡ tag_in true k (eid i ∷ []) (render is ++ r)
unfolding pairs_of_of value_of rawly
end_written k i is r = front (empty k (rawly (b "eid") i ∷ [])) is r ∙ tag_written true k (rawly (b "eid") i ∷ []) (render is ++ r)

-- an open verse is ended
ended-verse : {c : Held} (o : Option Bytes) (is : List Item) (r : Bytes) → Reads c (held_of o) (render (end_of 4 o ++ is) ++ r) → FreeId o × Reads c shut (render is ++ r)
unfolding end_of since
ended-verse none is r z = (tt, z)
ended-verse (some i) is r z = held_end (λ a f. verse_held f) (end_read 4 (inr refl) i (render is ++ r) is_verse (end_written 4 i is r) z)

-- an open chapter is ended
ended-chapter : {v : Held} (o : Option Bytes) (is : List Item) (r : Bytes) → Reads (held_of o) v (render (end_of 3 o ++ is) ++ r) → FreeId o × Reads shut v (render is ++ r)
unfolding end_of since
ended-chapter none is r z = (tt, z)
ended-chapter (some i) is r z = held_end (λ a f. chapter_held f) (end_read 3 (inl refl) i (render is ++ r) is_chapter (end_written 3 i is r) z)

-- ---- starts

chapter-seen : (code : Bytes) (n : ℕ) (alt published : Option Bytes)
    → view (tag_of true 3 (pairs_of_of (chapter_attrs_of code n alt published))) ≡ single 3 (starts (escape true (chapter_id_of code n)))
unfolding view
chapter-seen code n alt published = ap (single 3) (chapter_sid code n alt published)

verse-seen : (code : Bytes) (n : ℕ) (label : Bytes) (alt published : Option Bytes)
    → view (tag_of true 4 (pairs_of_of (verse_attrs_of code n label alt published))) ≡ single 4 (starts (escape true (verse_id_of code n label)))
unfolding view
verse-seen code n label alt published = ap (single 4) (verse_sid code n label alt published)

-- a tag that the rules see so opens what they say
module _ {c v : Held} (r : Bytes) where
  reads_chapter : (code : Bytes) (n : ℕ) (alt published : Option Bytes) → Reads c v (bytes_of (empty 3 (chapter_attrs_of code n alt published)) ++ r)
      → Reads (held (escape true (chapter_id_of code n))) v r
  unfolding since
  reads_chapter code n alt published z =
      let qs = chapter_attrs_of code n alt published in
      subst (λ (w : View). Reads (since 3 c w) (since 4 v w) r) (chapter-seen code n alt published)
      (reads_tag true 3 qs r is_chapter (wordy_chapter code n alt published) (tag_written true 3 qs r) z).1

  reads_verse : (code : Bytes) (n : ℕ) (label : Bytes) (alt published : Option Bytes) → Reads c v (bytes_of (empty 4 (verse_attrs_of code n label alt published)) ++ r)
      → Reads c (held (escape true (verse_id_of code n label))) r
  unfolding since
  reads_verse code n label alt published z =
      let qs = verse_attrs_of code n label alt published in
      subst (λ (w : View). Reads (since 3 c w) (since 4 v w) r) (verse-seen code n label alt published)
      (reads_tag true 4 qs r is_verse (wordy_verse code n label alt published) (tag_written true 4 qs r) z).1

-- ---- events

-- a legal book's code may stand in a value
legal_code : (code : Bytes) → LegalAttrs (book_attrs code) → Clean Value code
unfolding book_attrs rawly
legal_code code (more h hs) = h.value refl

not-two : (k : ℕ) → 3 ≤ k → 2 ≡ k → ⊥
not-two k h e = omega arith

reads_book : {c v : Held} (code rest : Bytes) (is : List Item) (r : Bytes) → WordyEvent (book code rest) → Reads c v (render (book_items code rest ++ is) ++ r)
    → Clean Value code × Reads c v (render is ++ r)
unfolding book_items
reads_book {c} {v} code [] is r h z =
    let i = reads_item (empty 2 (book_attrs code)) (render is ++ r) (is_book, not-two 3 (omega arith), not-two 4 (omega arith), wordy_book code h)
    (subst (Reads c v) (front (empty 2 (book_attrs code)) is r) z) in
    (legal_code code i.0, i.1)
reads_book {c} {v} code (x ∷ rest) is r h z =
    let t : List Item = text (x ∷ rest) ∷ close 2 ∷ is in
    let i = reads_item (start 2 (book_attrs code)) (render t ++ r) (is_book, not-two 3 (omega arith), not-two 4 (omega arith), wordy_book code h)
    (subst (Reads c v) (front (start 2 (book_attrs code)) t r) z) in
    let j = reads_item (text (x ∷ rest)) (render (close 2 ∷ is) ++ r) tt (subst (Reads c v) (front (text (x ∷ rest)) (close 2 ∷ is) r) i.1) in
    let k = reads_item (close 2) (render is ++ r) is_book (subst (Reads c v) (front (close 2) is r) j.1) in
    (legal_code code i.0, k.1)

-- what is read of events in a state: they are sound, and what is open is free
pub record ReadOf (s : State) (es : List Event) : Type 0 where
  pub sound : SoundEvents s es
  pub chapter : FreeId s.chapter
  pub verse : FreeId s.verse

pub read_sound : (s : State) (es : List Event) (r : Bytes) → WordyEvents es → Reads (held_of s.chapter) (held_of s.verse) (render (paired s es) ++ r) → ReadOf s es
unfolding paired items_of after last_ends
read_sound s [] r h z =
    let v = ended-verse s.verse (end_of 3 s.chapter) r z in
    let c = ended-chapter s.chapter [] r (subst (λ (is : List Item). Reads (held_of s.chapter) shut (render is ++ r)) (sym (append-nil (end_of 3 s.chapter))) v.1) in
    record { sound = tt; chapter = c.0; verse = v.0 }
read_sound s (item i ∷ es) r h z =
    let k = reads_item i (render (paired s es) ++ r) h.0 (subst (Reads (held_of s.chapter) (held_of s.verse)) (front i (paired s es) r) z) in
    let on = read_sound s es r h.1 k.1 in
    record { sound = (k.0, on.sound); chapter = on.chapter; verse = on.verse }
read_sound s (chapter n alt published ∷ es) r h z =
    let x : Item = empty 3 (chapter_attrs_of s.book n alt published) in
    let rest = paired (after s (chapter n alt published)) es in
    let v = ended-verse s.verse (end_of 3 s.chapter ++ x ∷ rest) r (subst (λ (is : List Item). Reads (held_of s.chapter) (held_of s.verse) (render is ++ r)) (chapter_items s n alt published rest) z) in
    let c = ended-chapter s.chapter (x ∷ rest) r v.1 in
    let on = read_sound (after s (chapter n alt published)) es r h.1 (reads_chapter (render rest ++ r) s.book n alt published (subst (Reads shut shut) (front x rest r) c.1)) in
    record { sound = (on.chapter, on.sound); chapter = c.0; verse = v.0 }
read_sound s (verse label alt published ∷ es) r h z =
    let x : Item = empty 4 (verse_attrs_of s.book s.number label alt published) in
    let rest = paired (after s (verse label alt published)) es in
    let v = ended-verse s.verse (x ∷ rest) r (subst (λ (is : List Item). Reads (held_of s.chapter) (held_of s.verse) (render is ++ r)) (verse_items s label alt published rest) z) in
    let on = read_sound (after s (verse label alt published)) es r h.1
    (reads_verse (render rest ++ r) s.book s.number label alt published (subst (Reads (held_of s.chapter) shut) (front x rest r) v.1)) in
    record { sound = (on.verse, on.sound); chapter = on.chapter; verse = v.0 }
read_sound s (book code words ∷ es) r h z =
    let k = reads_book code words (paired (after s (book code words)) es) r h.0 z in
    let on = read_sound (after s (book code words)) es r h.1 k.1 in
    record { sound = (k.0, on.sound); chapter = on.chapter; verse = on.verse }
read_sound s (aside ∷ es) r h z =
    let on = read_sound s es r h.1 z in record { sound = (tt, on.sound); chapter = on.chapter; verse = on.verse }
read_sound s (back ∷ es) r h z =
    let on = read_sound s es r h.1 z in record { sound = (tt, on.sound); chapter = on.chapter; verse = on.verse }
