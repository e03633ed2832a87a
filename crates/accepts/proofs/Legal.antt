-- Sound events give legal items, so that their text is in tag form.
use mathlib.Core.Path.{◌≡◌, refl, ap}
use mathlib.Core.Bool.{true, ◌&&◌}
use mathlib.Core.List.{List, [], ◌∷◌, ◌++◌, append_assoc}
use mathlib.Core.Option.{Option, none as nothing, some}
use Prim.Native.Nat.{ℕ, suc, ◌<◌}
use native.Mathlib.Omega.{arith}
use lib.ListN.{length}
use lib.Dec.{ltb}
use borrow.Author.Tests.{ltb-true}
use Rattle.parts.specs.Bytes.{Bytes, b}
use Rattle.parts.proofs.Laws.{and-true}
use Rattle.chars.specs.Escape.{special}
use Rattle.chars.proofs.Lists.{all}
use Rattle.tape.specs.File.{Tape}
use Rattle.tags.specs.Names.{IsName}
use Rattle.tags.specs.Form.{plain, key_byte_of, ok, run}
use Rattle.tags.specs.Write.{Clean, TagForm}
use Rattle.tags.specs.declared.Class.TheVariants.{Value, Key}
use Rattle.tags.specs.Items.{Attr, Item, line, tokens_of, LegalAttr, LegalAttrs, none, more, LegalItems, nil, a_start, an_empty as legal_empty, a_close, a_text as legal_text, a_line as legal_line}
use Rattle.tags.proofs.Rendered.{plain_clean, framed_form}
use Rattle.events.specs.Event.{Event, rawly, escaped}
use Rattle.events.specs.Pairing.{State, after, end_of, chapter_attrs_of, verse_attrs_of, book_attrs, book_items, items_of, last_ends, paired}
use Rattle.events.specs.Text.{first_state_of, items_of_tape, text_of}
use Rattle.events.specs.Walk.{events_of}
use Rattle.grammar.specs.Grammar.{a_text, a_line, an_empty, a_chapter, a_verse, an_aside, a_back, Written, by_itself, of_book, opening, closing, AllWritten}
use Rattle.grammar.proofs.Written.{walk_written, given-name}
use Rattle.grammar.proofs.Attrs.{fixed_styles, fixed_keys, OfEach, AttrsOf, no_attr, a_style, a_value, chapter_attrs, verse_attrs}
use Rattle.accepts.specs.Proviso.{has_special, Free}
use Rattle.accepts.specs.Sound.{SoundEvent, SoundEvents, Sound}
use Rattle.accepts.proofs.Free.{free_at}

-- ---- keys and values that are known

-- a key that may stand in a tag
pub record LegalKey (key : Bytes) : Type 0 where
  pub some : 0 < length key
  pub clean : Clean Key key

pub key_clean : (s : Bytes) → all (λ x. plain x && key_byte_of x) s ≡ true → Clean Key s
unfolding all run ok
key_clean [] e = refl
key_clean (x ∷ s) e = let h = and-true (plain x && key_byte_of x) (all (λ x. plain x && key_byte_of x) s) e in rw (h.0, run) (ap suc (key_clean s h.1))

pub known : (key : Bytes) → ltb 0 (length key) && all (λ x. plain x && key_byte_of x) key ≡ true → LegalKey key
known key e =
    let h = and-true (ltb 0 (length key)) _ e in
    record { some = ltb-true 0 (length key) h.0; clean = key_clean key h.1 }

pub free_clean : (s : Bytes) → Free s → Clean Value s
free_clean s h = plain_clean s (free_at s h)

-- ---- attributes

legal_raw : (key value : Bytes) → LegalKey key → Clean Value value → LegalAttr (rawly key value)
unfolding rawly
legal_raw key value k h = record { some = k.some; key = k.clean; value = λ _. h }

legal_escaped : (key value : Bytes) → LegalKey key → LegalAttr (escaped key value)
unfolding escaped
legal_escaped key value k = record { some = k.some; key = k.clean; value = λ e. absurd (let no_way : ◌≡◌ {A = ℕ} 0 1 = cc in omega arith) }

-- styles that may stand raw in a value, and legal keys
pub attrs_legal : {qs : List Attr} → AttrsOf (Clean Value) LegalKey qs → LegalAttrs qs
unfolding all plain key_byte_of
attrs_legal no_attr = none
attrs_legal (a_style name h g) = more (legal_raw (b "style") name (known (b "style") refl) h) (attrs_legal g)
attrs_legal (a_value key value h g) = more (legal_escaped key value h) (attrs_legal g)

pub styles_clean : OfEach (Clean Value) fixed_styles
unfolding has_special special
styles_clean = (free_clean _ refl, (free_clean _ refl, (free_clean _ refl, (free_clean _ refl, (free_clean _ refl, tt)))))

pub keys_known : OfEach LegalKey fixed_keys
unfolding all plain key_byte_of
keys_known =
    (known _ refl, (known _ refl, (known _ refl, (known _ refl, (known _ refl, (known _ refl, (known _ refl, (known _ refl, (known _ refl, (known _ refl, (known _ refl, (known _ refl, (known _ refl, (known _ refl, (known _ refl, tt)))))))))))))))

-- ---- what pairing writes

-- the identifier of what is open is free
abbrev pub FreeId : Option Bytes → Type 0
FreeId nothing = Unit {0}
FreeId (some i) = Free i

-- those of the chapter and the verse
pub record FreeOpen (s : State) : Type 0 where
  pub chapter : FreeId s.chapter
  pub verse : FreeId s.verse

pub open_first : (t : Tape) → FreeOpen (first_state_of t)
unfolding first_state_of
open_first t = record { chapter = tt; verse = tt }

-- a sound event leaves such a state
pub open_after : {t : Tape} {e : Event} (s : State) → Written t e → SoundEvent s e → FreeOpen s → FreeOpen (after s e)
unfolding after
open_after s (by_itself a_text) g h = h
open_after s (by_itself a_line) g h = h
open_after s (by_itself (an_empty a)) g h = h
open_after s (by_itself a_chapter) g h = record { chapter = g; verse = tt }
open_after s (by_itself (a_verse k v)) g h = record { chapter = h.chapter; verse = g }
open_after s (by_itself an_aside) g h = h
open_after s (by_itself a_back) g h = h
open_after s (of_book k o r) g h = record { chapter = h.chapter; verse = h.verse }
open_after s (opening a) g h = h
open_after s (closing a) g h = h

pub is_book : IsName 2
is_book = record { one = omega arith; sixteen = omega arith }

pub is_chapter : IsName 3
is_chapter = record { one = omega arith; sixteen = omega arith }

pub is_verse : IsName 4
is_verse = record { one = omega arith; sixteen = omega arith }

legal_end : (k : ℕ) (o : Option Bytes) (js : List Item) → IsName k → FreeId o → LegalItems js → LegalItems (end_of k o ++ js)
unfolding end_of all plain key_byte_of
legal_end k nothing js n h g = g
legal_end k (some i) js n h g = legal_empty n (more (legal_raw (b "eid") i (known (b "eid") refl) (free_clean i h)) none) g

chapter_legal : (code : Bytes) (n : ℕ) (alt published : Option Bytes) → LegalAttrs (chapter_attrs_of code n alt published)
chapter_legal code n alt published = attrs_legal (chapter_attrs (Clean Value) LegalKey styles_clean keys_known code n alt published)

verse_legal : (code : Bytes) (n : ℕ) (label : Bytes) (alt published : Option Bytes) → LegalAttrs (verse_attrs_of code n label alt published)
verse_legal code n label alt published = attrs_legal (verse_attrs (Clean Value) LegalKey styles_clean keys_known code n label alt published)

book_legal : (code rest : Bytes) (js : List Item) → Clean Value code → LegalItems js → LegalItems (book_items code rest ++ js)
unfolding book_items book_attrs all plain key_byte_of has_special special
book_legal code rest js h g = go rest
  where
    qs : LegalAttrs (rawly (b "code") code ∷ rawly (b "style") (b "id") ∷ [])
    qs = more (legal_raw (b "code") code (known (b "code") refl) h) (more (legal_raw (b "style") (b "id") (known (b "style") refl) (free_clean (b "id") refl)) none)

    go : (rest : Bytes) → LegalItems (book_items code rest ++ js)
    go [] = legal_empty is_book qs g
    go (x ∷ rest) = a_start is_book qs (legal_text (a_close is_book g))

-- ---- events

event_legal : {t : Tape} {e : Event} (s : State) (js : List Item) → Written t e → SoundEvent s e → FreeOpen s → LegalItems js → LegalItems (items_of s e ++ js)
unfolding items_of
event_legal s js (by_itself a_text) i h g = legal_text g
event_legal s js (by_itself a_line) i h g = legal_line g
event_legal s js (by_itself (an_empty a)) i h g = legal_empty (given-name a) i g
event_legal s js (by_itself (a_chapter {n} {alt} {published})) i h g =
    rw (append_assoc, append_assoc)
    (legal_end 4 s.verse _ is_verse h.verse (legal_end 3 s.chapter _ is_chapter h.chapter (legal_empty is_chapter (chapter_legal s.book n alt published) g)))
event_legal s js (by_itself (a_verse k {alt} {published} v)) i h g =
    rw append_assoc (legal_end 4 s.verse _ is_verse h.verse (legal_empty is_verse (verse_legal s.book s.number _ alt published) g))
event_legal s js (by_itself an_aside) i h g = g
event_legal s js (by_itself a_back) i h g = g
event_legal s js (of_book k o r) i h g = book_legal _ _ js i g
event_legal s js (opening a) i h g = a_start (given-name a) i g
event_legal s js (closing a) i h g = a_close (given-name a) g

-- events in front of legal items
paired_legal : (t : Tape) (s : State) (es : List Event) (js : List Item) → AllWritten t es → SoundEvents s es → FreeOpen s → LegalItems js → LegalItems (paired s es ++ js)
unfolding paired last_ends
paired_legal t s [] js w i h g = rw append_assoc (legal_end 4 s.verse _ is_verse h.verse (legal_end 3 s.chapter js is_chapter h.chapter g))
paired_legal t s (e ∷ es) js w i h g =
    rw append_assoc
    (event_legal s (paired (after s e) es ++ js) w.0 i.0 h (paired_legal t (after s e) es js w.1 i.1 (open_after s w.0 i.0 h) g))

-- the items inside usx are legal
pub sound_legal : (t : Tape) → Sound t → LegalItems (paired (first_state_of t) (events_of t) ++ line 0 ∷ [])
sound_legal t i = paired_legal t (first_state_of t) (events_of t) (line 0 ∷ []) (walk_written t) i.events (open_first t) (legal_line nil)

-- the text of a tape is in tag form
pub sound_form : (t : Tape) → Sound t → TagForm (text_of t) (tokens_of (items_of_tape t))
unfolding text_of items_of_tape
sound_form t i = framed_form (paired (first_state_of t) (events_of t) ++ line 0 ∷ []) (sound_legal t i)
