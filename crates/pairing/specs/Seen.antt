-- How the checker's rules would see the items of the text before any escape: each tag with its keys and values as they are.
use Rattle.std.specs.Prelude.{ℕ, suc, List, [], ◌∷◌, ◌++◌}
use Rattle.std.proofs.Math.Option.{Option, none, some}
use Rattle.parts.specs.Bytes.{Bytes}
use Rattle.tags.specs.Form.{Pair, Token, text as text_token, opens, closes, empty as empty_token}
use Rattle.tags.specs.Items.{Attr, Item, start, empty, close, text, line, new_line}
use Rattle.checker.specs.View.{start as starts, View, single, view}
use Rattle.checker.specs.Words.{Kind}
use Rattle.events.specs.Event.{Event, item, chapter, verse, book, aside, back}
use Rattle.events.specs.Pairing.{State}
use Rattle.tags.specs.Element as el

-- attributes before the escapes: "identifiers are compared as bytes", here those that the walk gives
unfoldable pub pairs : List Attr → List Pair
pairs [] = []
pairs (a ∷ qs) = record { key = a.key; value = a.value } ∷ pairs qs

-- an item as a token, before the escapes
unfoldable pub token_of : Item → Token
token_of (start n qs) = opens n (pairs qs)
token_of (empty n qs) = empty_token n (pairs qs)
token_of (close n) = closes n
token_of (text t) = text_token t
token_of (line d) = text_token (new_line d)

-- items as the rules see them, before the escapes
unfoldable pub seen : List Item → List View
seen [] = []
seen (i ∷ is) = view (token_of i) ∷ seen is

-- the start of what is open, as the rules see it
unfoldable pub start_of : ℕ → Option Bytes → List View
start_of k none = []
start_of k (some i) = single k (starts i) ∷ []

-- the starts of what is open in a state: none where nothing is
unfoldable pub open_starts : State → List View
open_starts s = start_of el.chapter s.chapter ++ start_of el.verse s.verse

-- ---- events

-- neither a chapter element nor a verse element
abbrev pub PlainItem : Item → Type 0
PlainItem (start n qs) = Kind n → ⊥
PlainItem (empty n qs) = Kind n → ⊥
PlainItem (close n) = Kind n → ⊥
PlainItem (text t) = Unit {0}
PlainItem (line d) = Unit {0}

-- chapters and verses stand as events and never as items
abbrev pub PlainEvents : List Event → Type 0
PlainEvents [] = Unit {0}
PlainEvents (item i ∷ es) = PlainItem i × PlainEvents es
PlainEvents (chapter n alt published ∷ es) = PlainEvents es
PlainEvents (verse label alt published ∷ es) = PlainEvents es
PlainEvents (book code rest ∷ es) = PlainEvents es
PlainEvents (aside ∷ es) = PlainEvents es
PlainEvents (back ∷ es) = PlainEvents es

-- how many chapters stand among the events
unfoldable pub chapters_in : List Event → ℕ
chapters_in [] = 0
chapters_in (item i ∷ es) = chapters_in es
chapters_in (chapter n alt published ∷ es) = suc (chapters_in es)
chapters_in (verse label alt published ∷ es) = chapters_in es
chapters_in (book code rest ∷ es) = chapters_in es
chapters_in (aside ∷ es) = chapters_in es
chapters_in (back ∷ es) = chapters_in es

-- how many verses stand among the events
unfoldable pub verses_in : List Event → ℕ
verses_in [] = 0
verses_in (item i ∷ es) = verses_in es
verses_in (chapter n alt published ∷ es) = verses_in es
verses_in (verse label alt published ∷ es) = suc (verses_in es)
verses_in (book code rest ∷ es) = verses_in es
verses_in (aside ∷ es) = verses_in es
verses_in (back ∷ es) = verses_in es
