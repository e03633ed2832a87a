-- What is said of each chapter and verse start among items, by places and by events.
use mathlib.Core.Path.{◌≡◌, refl, sym, ap, ◌∙◌, subst}
use mathlib.Core.List.{List, [], ◌∷◌, ◌++◌, append_assoc}
use mathlib.Core.Logic.{inl, inr}
use mathlib.Core.Option.{Option, none as nothing, some}
use Prim.Native.Nat.{ℕ}
use native.Mathlib.Omega.{arith}
use Rattle.parts.specs.Bytes.{Bytes, b}
use Rattle.tags.specs.Items.{Attr, Item, start, empty, close, text, line}
use Rattle.checker.specs.View.{Mark, start as starts, ends, View, single, view}
use Rattle.checker.specs.Words.{Kind, IsStart}
use Rattle.checker.proofs.Tags.{start_exact}
use Rattle.events.specs.Event.{Event, item, chapter, verse, book, aside, back, rawly}
use Rattle.events.specs.Pairing.{State, chapter_id_of, verse_id_of, after, end_of, chapter_attrs_of, verse_attrs_of, book_items, items_of, last_ends, paired}
use Rattle.events.proofs.Emits.{chapter_items, verse_items}
use Rattle.pairing.specs.Seen.{pairs, token_of, PlainItem, PlainEvents}
use Rattle.pairing.proofs.Paired.{chapter-seen, verse-seen, end_seen}

-- ---- what a tag is

pub single_mark : (k : ℕ) (m w : Mark) → ◌≡◌ {A = View} (single k m) (single k w) → m ≡ w
single_mark k m w e = cc

pub start_id : (i j : Bytes) → ◌≡◌ {A = Mark} (starts i) (starts j) → i ≡ j
start_id i j e = cc

-- the identifier of a tag that the rules see as a start of this one
only : (k : ℕ) (qs : List Attr) (i j : Bytes) → view (token_of (empty k qs)) ≡ single k (starts i) → IsStart (pairs qs) j → i ≡ j
unfolding view token_of
only k qs i j e h = start_id i j (sym (single_mark k _ _ e) ∙ (start_exact (pairs qs) j).1 h)

seen_start : (k : ℕ) (qs : List Attr) (i : Bytes) → view (token_of (empty k qs)) ≡ single k (starts i) → IsStart (pairs qs) i
unfolding view token_of
seen_start k qs i e = (start_exact (pairs qs) i).0 (single_mark k _ _ e)

end_no_start : (k : ℕ) (i j : Bytes) → IsStart (pairs (rawly (b "eid") i ∷ [])) j → ⊥
unfolding view token_of
end_no_start k i j h =
    let e : ends i ≡ starts j = sym (single_mark k _ _ (end_seen k i)) ∙ (start_exact _ j).1 h in
    (let no_way : ◌≡◌ {A = ℕ} 0 1 = cc in omega arith)

-- no book is a chapter or a verse
book-plain : Kind 2 → ⊥
book-plain (inl e) = omega arith
book-plain (inr e) = omega arith

-- ---- what pairing makes of one event, and what follows

-- what a chapter writes
pub chapter-paired : (s : State) (n : ℕ) (alt published : Option Bytes) (es : List Event) (js : List Item)
    → paired s (chapter n alt published ∷ es) ++ js
    ≡ end_of 4 s.verse ++ (end_of 3 s.chapter ++ empty 3 (chapter_attrs_of s.book n alt published) ∷ (paired (after s (chapter n alt published)) es ++ js))
unfolding paired
chapter-paired s n alt published es js =
    append_assoc (items_of s (chapter n alt published)) (paired (after s (chapter n alt published)) es) js ∙ chapter_items s n alt published (paired (after s (chapter n alt published)) es ++ js)

-- what a verse writes
pub verse-paired : (s : State) (label : Bytes) (alt published : Option Bytes) (es : List Event) (js : List Item)
    → paired s (verse label alt published ∷ es) ++ js
    ≡ end_of 4 s.verse ++ empty 4 (verse_attrs_of s.book s.number label alt published) ∷ (paired (after s (verse label alt published)) es ++ js)
unfolding paired
verse-paired s label alt published es js =
    append_assoc (items_of s (verse label alt published)) (paired (after s (verse label alt published)) es) js ∙ verse_items s label alt published (paired (after s (verse label alt published)) es ++ js)

-- ---- each start

module _ (P : ℕ → List Attr → Bytes → List Item → Type 0) where
  -- of each start among the items: its kind, attributes, identifier, and the items behind it
  abbrev pub Each : List Item → Type 0
  Each [] = Unit {0}
  Each (start n qs ∷ is) = Each is
  Each (empty n qs ∷ is) = (Kind n → (i : Bytes) → IsStart (pairs qs) i → P n qs i is) × Each is
  Each (close n ∷ is) = Each is
  Each (text s ∷ is) = Each is
  Each (line d ∷ is) = Each is

  -- of each chapter and verse among events, with the items that follow them
  abbrev pub EachId : State → List Event → List Item → Type 0
  EachId s [] js = Unit {0}
  EachId s (item i ∷ es) js = EachId s es js
  EachId s (chapter n alt published ∷ es) js =
      P 3 (chapter_attrs_of s.book n alt published) (chapter_id_of s.book n) (paired (after s (chapter n alt published)) es ++ js)
      × EachId (after s (chapter n alt published)) es js
  EachId s (verse label alt published ∷ es) js =
      P 4 (verse_attrs_of s.book s.number label alt published) (verse_id_of s.book s.number label) (paired (after s (verse label alt published)) es ++ js)
      × EachId (after s (verse label alt published)) es js
  EachId s (book code rest ∷ es) js = EachId (after s (book code rest)) es js
  EachId s (aside ∷ es) js = EachId s es js
  EachId s (back ∷ es) js = EachId s es js

  -- ---- by places

  pub each_place : (a : List Item) (k : ℕ) (qs : List Attr) (z : List Item) → Each (a ++ empty k qs ∷ z) → Kind k → (i : Bytes) → IsStart (pairs qs) i → P k qs i z
  each_place [] k qs z h = h.0
  each_place (start n ps ∷ a) k qs z h = each_place a k qs z h
  each_place (empty n ps ∷ a) k qs z h = each_place a k qs z h.1
  each_place (close n ∷ a) k qs z h = each_place a k qs z h
  each_place (text s ∷ a) k qs z h = each_place a k qs z h
  each_place (line d ∷ a) k qs z h = each_place a k qs z h

  pub each_from : (is : List Item) → ((k : ℕ) → Kind k → (a : List Item) (qs : List Attr) (z : List Item) (i : Bytes) → is ≡ a ++ empty k qs ∷ z → IsStart (pairs qs) i → P k qs i z) → Each is
  each_from [] f = tt
  each_from (start n ps ∷ is) f = each_from is (λ k d a qs z i e. f k d (start n ps ∷ a) qs z i (ap (λ (js : List Item). start n ps ∷ js) e))
  each_from (empty n ps ∷ is) f =
      (λ d i h. f n d [] ps is i refl h, each_from is (λ k d a qs z i e. f k d (empty n ps ∷ a) qs z i (ap (λ (js : List Item). empty n ps ∷ js) e)))
  each_from (close n ∷ is) f = each_from is (λ k d a qs z i e. f k d (close n ∷ a) qs z i (ap (λ (js : List Item). close n ∷ js) e))
  each_from (text s ∷ is) f = each_from is (λ k d a qs z i e. f k d (text s ∷ a) qs z i (ap (λ (js : List Item). text s ∷ js) e))
  each_from (line l ∷ is) f = each_from is (λ k d a qs z i e. f k d (line l ∷ a) qs z i (ap (λ (js : List Item). line l ∷ js) e))

  -- ---- by events

  each_end : (k : ℕ) (o : Option Bytes) (js : List Item) → Each js → Each (end_of k o ++ js)
  unfolding end_of
  each_end k nothing js h = h
  each_end k (some i) js h = (λ d j g. absurd (end_no_start k i j g), h)

  each_plain : (x : Item) (js : List Item) → PlainItem x → Each js → Each (x ∷ js)
  each_plain (start n qs) js p h = h
  each_plain (empty n qs) js p h = (λ d i g. absurd (p d), h)
  each_plain (close n) js p h = h
  each_plain (text s) js p h = h
  each_plain (line d) js p h = h

  each_book : (code rest : Bytes) (js : List Item) → Each js → Each (book_items code rest ++ js)
  unfolding book_items
  each_book code [] js h = (λ d i g. absurd (book-plain d), h)
  each_book code (x ∷ rest) js h = h

  each_tag : (k : ℕ) (qs : List Attr) (i : Bytes) (js : List Item) → view (token_of (empty k qs)) ≡ single k (starts i) → P k qs i js → Each js → Each (empty k qs ∷ js)
  each_tag k qs i js e p h = (λ d j g. subst (λ (x : Bytes). P k qs x js) (only k qs i j e g) p, h)

  pub each_paired : (s : State) (es : List Event) (js : List Item) → PlainEvents es → EachId s es js → Each js → Each (paired s es ++ js)
  unfolding paired items_of last_ends after
  each_paired s [] js p f h = rw append_assoc (each_end 4 s.verse _ (each_end 3 s.chapter js h))
  each_paired s (item i ∷ es) js p f h = each_plain i (paired s es ++ js) p.0 (each_paired s es js p.1 f h)
  each_paired s (chapter n alt published ∷ es) js p f h =
      subst Each (sym (chapter-paired s n alt published es js))
      (each_end 4 s.verse _
      (each_end 3 s.chapter _
      (each_tag 3 _ _ _ (chapter-seen s.book n alt published) f.0 (each_paired (after s (chapter n alt published)) es js p f.1 h))))
  each_paired s (verse label alt published ∷ es) js p f h =
      subst Each (sym (verse-paired s label alt published es js))
      (each_end 4 s.verse _
      (each_tag 4 _ _ _ (verse-seen s.book s.number label alt published) f.0 (each_paired (after s (verse label alt published)) es js p f.1 h)))
  each_paired s (book code rest ∷ es) js p f h =
      rw append_assoc (each_book code rest _ (each_paired (after s (book code rest)) es js p f h))
  each_paired s (aside ∷ es) js p f h = each_paired s es js p f h
  each_paired s (back ∷ es) js p f h = each_paired s es js p f h

  -- ---- and back

  past_end : (k : ℕ) (o : Option Bytes) (js : List Item) → Each (end_of k o ++ js) → Each js
  unfolding end_of
  past_end k nothing js h = h
  past_end k (some i) js h = h.1

  past-plain : (x : Item) (js : List Item) → Each (x ∷ js) → Each js
  past-plain (start n qs) js h = h
  past-plain (empty n qs) js h = h.1
  past-plain (close n) js h = h
  past-plain (text s) js h = h
  past-plain (line d) js h = h

  past-book : (code rest : Bytes) (js : List Item) → Each (book_items code rest ++ js) → Each js
  unfolding book_items
  past-book code [] js h = h.1
  past-book code (x ∷ rest) js h = h

  pub each_id : (s : State) (es : List Event) (js : List Item) → Each (paired s es ++ js) → EachId s es js
  unfolding paired items_of after
  each_id s [] js h = tt
  each_id s (item i ∷ es) js h = each_id s es js (past-plain i (paired s es ++ js) h)
  each_id s (chapter n alt published ∷ es) js h =
      let g = past_end 3 s.chapter _ (past_end 4 s.verse _ (subst Each (chapter-paired s n alt published es js) h)) in
      (g.0 (inl refl) _ (seen_start 3 _ _ (chapter-seen s.book n alt published)), each_id (after s (chapter n alt published)) es js g.1)
  each_id s (verse label alt published ∷ es) js h =
      let g = past_end 4 s.verse _ (subst Each (verse-paired s label alt published es js) h) in
      (g.0 (inr refl) _ (seen_start 4 _ _ (verse-seen s.book s.number label alt published)), each_id (after s (verse label alt published)) es js g.1)
  each_id s (book code rest ∷ es) js h =
      each_id (after s (book code rest)) es js
      (past-book code rest _ (subst Each (append_assoc (book_items code rest) (paired (after s (book code rest)) es) js) h))
  each_id s (aside ∷ es) js h = each_id s es js h
  each_id s (back ∷ es) js h = each_id s es js h
