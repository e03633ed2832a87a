-- Attributes whose keys are words and whose raw values hold no space.
use mathlib.Core.Path.{◌≡◌, refl}
use mathlib.Core.Bool.{true}
use mathlib.Core.List.{List, [], ◌∷◌}
use mathlib.Core.Option.{Option}
use Prim.Native.Nat.{ℕ}
use Rattle.parts.specs.Bytes.{Bytes, b}
use Rattle.chars.proofs.Lists.{all}
use Rattle.tags.specs.Items.{Attr}
use Rattle.events.specs.Event.{Event, item, chapter, verse, book, aside, back, rawly, escaped}
use Rattle.events.specs.Pairing.{chapter_attrs_of, verse_attrs_of, book_attrs}
use Rattle.grammar.proofs.Attrs.{fixed_styles, fixed_keys, OfEach, AttrsOf, no_attr, a_style, a_value, chapter_attrs, verse_attrs}
use Rattle.checker.proofs.Decides.{never}
use Rattle.accepts.proofs.Spaces.{but}
use Rattle.accepts.proofs.Keys.{Own, own_known as known}
use Rattle.exact.proofs.Attrs.{WordyAttr, WordyAttrs, none, more}
use Rattle.exact.proofs.Items.{WordyItem}

wordy_raw : (key value : Bytes) → Own key → all (but 32) value ≡ true → WordyAttr (rawly key value)
unfolding rawly
wordy_raw key value k h = record { key = k; value = λ e. h }

pub wordy_escaped : (key value : Bytes) → Own key → WordyAttr (escaped key value)
unfolding escaped
wordy_escaped key value k = record { key = k; value = λ e. never e }

-- a style that holds no space
pub record Spaceless (name : Bytes) : Type 0 where
  pub none_in : all (but 32) name ≡ true

pub attrs_wordy : {qs : List Attr} → AttrsOf Spaceless Own qs → WordyAttrs qs
unfolding all but
attrs_wordy no_attr = none
attrs_wordy (a_style name h g) = more (wordy_raw (b "style") name (known (b "style") refl) h.none_in) (attrs_wordy g)
attrs_wordy (a_value key value h g) = more (wordy_escaped key value h) (attrs_wordy g)

pub styles_spaceless : OfEach Spaceless fixed_styles
unfolding all but
styles_spaceless =
    (record { none_in = refl }, (record { none_in = refl }, (record { none_in = refl }, (record { none_in = refl }, (record { none_in = refl }, tt)))))

pub keys_own : OfEach Own fixed_keys
unfolding all but
keys_own =
    (known _ refl, (known _ refl, (known _ refl, (known _ refl, (known _ refl, (known _ refl, (known _ refl, (known _ refl, (known _ refl, (known _ refl, (known _ refl, (known _ refl, (known _ refl, (known _ refl, (known _ refl, tt)))))))))))))))

-- ---- what pairing writes

pub wordy_chapter : (code : Bytes) (n : ℕ) (alt published : Option Bytes) → WordyAttrs (chapter_attrs_of code n alt published)
wordy_chapter code n alt published = attrs_wordy (chapter_attrs Spaceless Own styles_spaceless keys_own code n alt published)

pub wordy_verse : (code : Bytes) (n : ℕ) (label : Bytes) (alt published : Option Bytes) → WordyAttrs (verse_attrs_of code n label alt published)
wordy_verse code n label alt published = attrs_wordy (verse_attrs Spaceless Own styles_spaceless keys_own code n label alt published)

pub wordy_book : (code : Bytes) → all (but 32) code ≡ true → WordyAttrs (book_attrs code)
unfolding book_attrs all but
wordy_book code h =
    more (wordy_raw (b "code") code (known (b "code") refl) h) (more (wordy_raw (b "style") (b "id") (known (b "style") refl) refl) none)

-- ---- events

-- an event: wordy items, and a book whose code holds no space
abbrev pub WordyEvent : Event → Type 0
WordyEvent (item i) = WordyItem i
WordyEvent (chapter n alt published) = Unit {0}
WordyEvent (verse label alt published) = Unit {0}
WordyEvent (book code rest) = all (but 32) code ≡ true
WordyEvent aside = Unit {0}
WordyEvent back = Unit {0}

-- each of a list
abbrev pub WordyEvents : List Event → Type 0
WordyEvents [] = Unit {0}
WordyEvents (e ∷ es) = WordyEvent e × WordyEvents es
