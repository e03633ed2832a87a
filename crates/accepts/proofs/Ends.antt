-- The auditor's answer: `sid` and `eid` of a start and its end are equal bytes exactly where the identifier holds none of the four bytes.
use mathlib.Core.Path.{◌≡◌, refl, sym, ap, ◌∙◌, subst}
use mathlib.Core.Bool.{true, false}
use mathlib.Core.List.{List, [], ◌∷◌, ◌++◌, append_assoc}
use mathlib.Core.Logic.{◌↔◌, inl, inr}
use mathlib.Core.Option.{Option, none as nothing, some}
use Prim.Native.Nat.{ℕ}
use native.Mathlib.Omega.{arith}
use Rattle.parts.specs.Bytes.{Bytes, b}
use Rattle.chars.specs.Escape.{escape}
use Rattle.tape.specs.File.{Tape}
use Rattle.tags.specs.Form.{Pair}
use Rattle.tags.specs.Items.{Attr, Item, start, empty, close, text, line, value_of, pairs_of_of}
use Rattle.checker.specs.View.{start as starts, bare, mark_on}
use Rattle.checker.specs.Words.{Kind, IsStart}
use Rattle.checker.proofs.Tags.{start_exact}
use Rattle.events.specs.Event.{Event, item, chapter, verse, book, aside, back, rawly}
use Rattle.events.specs.Pairing.{State, after, end_of, verse_attrs_of, book_items, items_of, last_ends, paired}
use Rattle.events.specs.Text.{first_state_of, items_of_tape}
use Rattle.events.specs.Walk.{events_of}
use Rattle.pairing.specs.Seen.{pairs, PlainItem, PlainEvents}
use Rattle.pairing.proofs.Plain.{walk_plain}
use Rattle.accepts.specs.Proviso.{Free}
use Rattle.accepts.specs.Ends.{NoTag, Ended, Agrees, AllAgree, FreeNames, WrittenFree}
use Rattle.accepts.proofs.Free.{free-chapter, free-verse, free-escape}
use Rattle.accepts.proofs.Sids.{chapter_sid, verse_sid}
use Rattle.accepts.proofs.Starts.{start_id, Each, EachId, each_place, each_from, each_paired, each_id, chapter-paired, verse-paired}

-- ---- the end ahead

-- the next tag of a kind is the end with this identifier
record Ahead (k : ℕ) (i : Bytes) (z : List Item) : Type 0 where
  pub between : List Item
  pub after : List Item
  pub here : z ≡ between ++ empty k (rawly (b "eid") i ∷ []) ∷ after
  pub next : NoTag k between

no_append : (k : ℕ) (is js : List Item) → NoTag k is → NoTag k js → NoTag k (is ++ js)
no_append k [] js h g = g
no_append k (start n qs ∷ is) js h g = (h.0, no_append k is js h.1 g)
no_append k (empty n qs ∷ is) js h g = (h.0, no_append k is js h.1 g)
no_append k (close n ∷ is) js h g = (h.0, no_append k is js h.1 g)
no_append k (text s ∷ is) js h g = no_append k is js h g
no_append k (line d ∷ is) js h g = no_append k is js h g

module _ (k : ℕ) (i : Bytes) where
  ahead_now : (js : List Item) → Ahead k i (end_of k (some i) ++ js)
  unfolding end_of
  ahead_now js = record { between = []; after = js; here = refl; next = tt }

  ahead_past : (is js : List Item) → NoTag k is → Ahead k i js → Ahead k i (is ++ js)
  ahead_past is js h a =
      record {
        between = is ++ a.between;
        after = a.after;
        here = ap (λ (z : List Item). is ++ z) a.here ∙ sym (append_assoc is a.between _);
        next = no_append k is a.between h a.next;
      }

  no_end : (n : ℕ) (o : Option Bytes) → (n ≡ k → ⊥) → NoTag k (end_of n o)
  unfolding end_of
  no_end n nothing h = tt
  no_end n (some j) h = (h, tt)

  no_plain : Kind k → (x : Item) → PlainItem x → NoTag k (x ∷ [])
  no_plain d (start n qs) p = (λ e. p (subst Kind (sym e) d), tt)
  no_plain d (empty n qs) p = (λ e. p (subst Kind (sym e) d), tt)
  no_plain d (close n) p = (λ e. p (subst Kind (sym e) d), tt)
  no_plain d (text s) p = tt
  no_plain d (line l) p = tt

  no_book : (2 ≡ k → ⊥) → (code rest : Bytes) → NoTag k (book_items code rest)
  unfolding book_items
  no_book h code [] = (h, tt)
  no_book h code (x ∷ rest) = (h, (h, tt))

-- what is open in a state is ended by what follows it: a verse
ahead_verse : (s : State) (i : Bytes) → s.verse ≡ some i → (es : List Event) (js : List Item) → PlainEvents es → Ahead 4 i (paired s es ++ js)
unfolding paired items_of last_ends after
ahead_verse s i e [] js p = rw (e, append_assoc) (ahead_now 4 i _)
ahead_verse s i e (item x ∷ es) js p = ahead_past 4 i (x ∷ []) _ (no_plain 4 i (inr refl) x p.0) (ahead_verse s i e es js p.1)
ahead_verse s i e (chapter n alt published ∷ es) js p = subst (Ahead 4 i) (sym (chapter-paired s n alt published es js)) (rw e (ahead_now 4 i _))
ahead_verse s i e (verse label alt published ∷ es) js p = subst (Ahead 4 i) (sym (verse-paired s label alt published es js)) (rw e (ahead_now 4 i _))
ahead_verse s i e (book code rest ∷ es) js p =
    rw append_assoc (ahead_past 4 i (book_items code rest) _ (no_book 4 i (λ x. omega arith) code rest) (ahead_verse (after s (book code rest)) i e es js p))
ahead_verse s i e (aside ∷ es) js p = ahead_verse s i e es js p
ahead_verse s i e (back ∷ es) js p = ahead_verse s i e es js p

-- a chapter
ahead_chapter : (s : State) (i : Bytes) → s.chapter ≡ some i → (es : List Event) (js : List Item) → PlainEvents es → Ahead 3 i (paired s es ++ js)
unfolding paired items_of last_ends after
ahead_chapter s i e [] js p = rw (e, append_assoc) (ahead_past 3 i (end_of 4 s.verse) _ (no_end 3 i 4 s.verse (λ x. omega arith)) (ahead_now 3 i js))
ahead_chapter s i e (item x ∷ es) js p = ahead_past 3 i (x ∷ []) _ (no_plain 3 i (inl refl) x p.0) (ahead_chapter s i e es js p.1)
ahead_chapter s i e (chapter n alt published ∷ es) js p =
    subst (Ahead 3 i) (sym (chapter-paired s n alt published es js))
    (rw e (ahead_past 3 i (end_of 4 s.verse) _ (no_end 3 i 4 s.verse (λ x. omega arith)) (ahead_now 3 i _)))
ahead_chapter s i e (verse label alt published ∷ es) js p =
    subst (Ahead 3 i) (sym (verse-paired s label alt published es js))
    (ahead_past 3 i (end_of 4 s.verse) _ (no_end 3 i 4 s.verse (λ x. omega arith))
    (ahead_past 3 i (empty 4 (verse_attrs_of s.book s.number label alt published) ∷ []) _ (λ x. omega arith, tt) (ahead_chapter (after s (verse label alt published)) i e es js p)))
ahead_chapter s i e (book code rest ∷ es) js p =
    rw append_assoc (ahead_past 3 i (book_items code rest) _ (no_book 3 i (λ x. omega arith) code rest) (ahead_chapter (after s (book code rest)) i e es js p))
ahead_chapter s i e (aside ∷ es) js p = ahead_chapter s i e es js p
ahead_chapter s i e (back ∷ es) js p = ahead_chapter s i e es js p

-- ---- the bytes of both

-- one end belongs to a start: the next tag of a kind is one
no_tail : (k : ℕ) (x : Item) (is : List Item) → NoTag k (x ∷ is) → NoTag k is
no_tail k (start n qs) is h = h.1
no_tail k (empty n qs) is h = h.1
no_tail k (close n) is h = h.1
no_tail k (text s) is h = h
no_tail k (line d) is h = h

no_head : (k : ℕ) (x : Item) (is : List Item) (p : List Attr) → NoTag k (x ∷ is) → x ≡ empty k p → ⊥
no_head k x is p h e = let g : NoTag k (empty k p ∷ is) = subst (λ (y : Item). NoTag k (y ∷ is)) e h in g.0 refl

next_one : (k : ℕ) (xs ys : List Item) (p q : List Attr) (a c : List Item) → NoTag k xs → NoTag k ys → xs ++ empty k p ∷ a ≡ ys ++ empty k q ∷ c → p ≡ q
next_one k [] [] p q a c h g e = cc
next_one k [] (y ∷ ys) p q a c h g e = absurd (no_head k y ys p g (let i : y ≡ empty k p = cc in i))
next_one k (x ∷ xs) [] p q a c h g e = absurd (no_head k x xs q h (let i : x ≡ empty k q = cc in i))
next_one k (x ∷ xs) (y ∷ ys) p q a c h g e = next_one k xs ys p q a c (no_tail k x xs h) (no_tail k y ys g) cc

-- the attribute of an end
abbrev pub eid : Bytes → Pair
eid i = record { key = b "eid"; value = i }

eid_one : (i j : Bytes) → eid i ∷ [] ≡ eid j ∷ [] → i ≡ j
eid_one i j e = let h : eid i ≡ eid j = cc in ap (λ (p : Pair). p.value) h

-- a start has its end, and every such end agrees with it
EndsAt : ℕ → List Attr → Bytes → List Item → Type 0
EndsAt k qs i z = Ended k qs z × ((e : Ended k qs z) → Agrees k i qs z e)

module _ (k : ℕ) (qs : List Attr) (i : Bytes) (z : List Item) (m : mark_on bare (pairs_of_of qs) ≡ starts (escape true i)) (a : Ahead k i z) where
  the_end : Ended k qs z
  unfolding pairs pairs_of_of value_of rawly
  the_end =
      record {
        between = a.between;
        ends = rawly (b "eid") i ∷ [];
        after = a.after;
        here = a.here;
        next = a.next;
        identifier = i;
        identifier_is = refl;
        sid = escape true i;
        eid = i;
        sid_is = (start_exact (pairs_of_of qs) (escape true i)).0 m;
        eid_is = refl;
      }

  each_agrees : (e : Ended k qs z) → Agrees k i qs z e
  unfolding pairs pairs_of_of value_of rawly
  each_agrees e =
      let only : e.ends ≡ rawly (b "eid") i ∷ [] = next_one k e.between a.between e.ends _ e.after a.after e.next a.next (sym e.here ∙ a.here) in
      let is_eid : i ≡ e.eid = eid_one i e.eid (sym (ap pairs_of_of only) ∙ e.eid_is) in
      let is_sid : e.sid ≡ escape true i = start_id e.sid (escape true i) (sym ((start_exact (pairs_of_of qs) e.sid).1 e.sid_is) ∙ m) in
      record {
        before = eid_one e.identifier i (sym e.identifier_is ∙ ap pairs only);
        text = (λ s. (free-escape i).1 (sym is_sid ∙ s ∙ sym is_eid), λ f. is_sid ∙ (free-escape i).0 f ∙ is_eid);
      }

  ended : EndsAt k qs i z
  unfolding EndsAt
  ended = (the_end, each_agrees)

each_ended : (s : State) (es : List Event) (js : List Item) → PlainEvents es → EachId EndsAt s es js
unfolding after
each_ended s [] js p = tt
each_ended s (item i ∷ es) js p = each_ended s es js p.1
each_ended s (chapter n alt published ∷ es) js p =
    (ended 3 _ _ _ (chapter_sid s.book n alt published) (ahead_chapter (after s (chapter n alt published)) _ refl es js p), each_ended (after s (chapter n alt published)) es js p)
each_ended s (verse label alt published ∷ es) js p =
    (ended 4 _ _ _ (verse_sid s.book s.number label alt published) (ahead_verse (after s (verse label alt published)) _ refl es js p), each_ended (after s (verse label alt published)) es js p)
each_ended s (book code rest ∷ es) js p = each_ended (after s (book code rest)) es js p
each_ended s (aside ∷ es) js p = each_ended s es js p
each_ended s (back ∷ es) js p = each_ended s es js p

-- ---- every tape

-- what stands behind the events
abbrev last : List Item
last = line 0 ∷ close 1 ∷ []

items_parts : (t : Tape) → items_of_tape t ≡ start 1 (record { key = b "version"; value = b "3.0"; raw = false } ∷ []) ∷ (paired (first_state_of t) (events_of t) ++ last)
unfolding items_of_tape
items_parts t = ap (λ (is : List Item). start 1 (record { key = b "version"; value = b "3.0"; raw = false } ∷ []) ∷ is) (append_assoc (paired (first_state_of t) (events_of t)) (line 0 ∷ []) (close 1 ∷ []))

module _ (P : ℕ → List Attr → Bytes → List Item → Type 0) (t : Tape) where
  each_tape : EachId P (first_state_of t) (events_of t) last → Each P (items_of_tape t)
  each_tape f = subst (Each P) (sym (items_parts t)) (each_paired P (first_state_of t) (events_of t) last (walk_plain t) f tt)

  tape_each : Each P (items_of_tape t) → EachId P (first_state_of t) (events_of t) last
  tape_each h = each_id P (first_state_of t) (events_of t) last (subst (Each P) (items_parts t) h)

-- of every tape, proviso or not: each chapter and verse start has its end, which agrees with it before the escapes, and in the text exactly where the
-- identifier holds none of & < > and the double quote
pub ends_agree : (t : Tape) (k : ℕ) → Kind k → (a : List Item) (qs : List Attr) (z : List Item) (i : Bytes) → items_of_tape t ≡ a ++ empty k qs ∷ z → IsStart (pairs qs) i
    → Ended k qs z × ((e : Ended k qs z) → Agrees k i qs z e)
unfolding EndsAt
ends_agree t k d a qs z i e h =
    each_place EndsAt a k qs z (subst (Each EndsAt) e (each_tape EndsAt t (each_ended (first_state_of t) (events_of t) last (walk_plain t)))) d i h

-- ---- which projects

abbrev FreeAt : ℕ → List Attr → Bytes → List Item → Type 0
FreeAt k qs i z = Free i

names_ids : (s : State) (es : List Event) (js : List Item) → FreeNames s es ↔ EachId FreeAt s es js
unfolding after
names_ids s [] js = (λ h. tt, λ h. tt)
names_ids s (item i ∷ es) js = names_ids s es js
names_ids s (chapter n alt published ∷ es) js =
    let f = free-chapter s.book n in
    let r = names_ids (after s (chapter n alt published)) es js in
    (λ h. (f.0 h.0, r.0 h.1), λ h. (f.1 h.0, r.1 h.1))
names_ids s (verse label alt published ∷ es) js =
    let f = free-verse s.book s.number label in
    let r = names_ids (after s (verse label alt published)) es js in
    (λ h. (f.0 h.0, r.0 h.1), λ h. (f.1 h.0, r.1 h.1))
names_ids s (book code rest ∷ es) js = names_ids (after s (book code rest)) es js
names_ids s (aside ∷ es) js = names_ids s es js
names_ids s (back ∷ es) js = names_ids s es js

-- no start of the text differs from its end exactly where no written chapter and verse has one of the four bytes in its book code or its label
pub names_agree : (t : Tape) → AllAgree t ↔ WrittenFree t
names_agree t = (to, from)
  where
    to : AllAgree t → WrittenFree t
    to h =
        (names_ids (first_state_of t) (events_of t) last).1
        (tape_each FreeAt t
        (each_from FreeAt (items_of_tape t) (λ k d a qs z i e g. let x = ends_agree t k d a qs z i e g in (x.1 x.0).text.0 (h.same k d a qs z i e g x.0))))

    from : WrittenFree t → AllAgree t
    from h =
        record {
          same = λ k d a qs z i e g x.
              ((ends_agree t k d a qs z i e g).1 x).text.1 (each_place FreeAt a k qs z (subst (Each FreeAt) e (each_tape FreeAt t ((names_ids (first_state_of t) (events_of t) last).0 h))) d i g);
        }
