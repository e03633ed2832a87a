-- Pairing: the one place that makes ends and identifiers.
use Rattle.std.specs.Prelude.{ℕ, List, [], ◌∷◌, ◌++◌}
use Rattle.std.proofs.Math.Option.{Option, none, some}
use Rattle.parts.specs.Bytes.{Bytes, b}
use Rattle.chars.specs.Decimal.{decimal}
use Rattle.tags.specs.Items.{Attr, Item, start, empty, close, text}
use Rattle.events.specs.Event.{Event, item, chapter, verse, book, aside, back, rawly, escaped, perhaps}
use Rattle.tags.specs.Element as el

-- the book's code, the chapter's number, and the identifiers of the chapter and verse that are open
pub record State : Type 0 where
  pub book : Bytes
  pub number : ℕ
  pub chapter : Option Bytes
  pub verse : Option Bytes

-- ---- identifiers

-- a chapter's: book, space, number
unfoldable pub chapter_id_of : Bytes → ℕ → Bytes
chapter_id_of code n = code ++ (b " " ++ decimal n)

-- a verse's: book, space, number, colon, label
unfoldable pub verse_id_of : Bytes → ℕ → Bytes → Bytes
verse_id_of code n label = code ++ (b " " ++ (decimal n ++ (b ":" ++ label)))

-- ---- the state behind an event

-- "an identifier is fixed at its start; a later `\id` changes later ones only"
unfoldable pub after : State → Event → State
after s (item i) = s
after s (chapter n alt published) =
    record { book = s.book; number = n; chapter = some (chapter_id_of s.book n); verse = none }
after s (verse label alt published) =
    record { book = s.book; number = s.number; chapter = s.chapter; verse = some (verse_id_of s.book s.number label) }
after s (book code rest) =
    record { book = code; number = s.number; chapter = s.chapter; verse = s.verse }
after s aside = s
after s back = s

-- ---- what an event writes

-- the end of what is open: its `eid` is raw
unfoldable pub end_of : ℕ → Option Bytes → List Item
end_of k none = []
end_of k (some i) = empty k (rawly (b "eid") i ∷ []) ∷ []

-- "chapter attributes run number, style, altnumber, pubnumber, sid"
unfoldable pub chapter_attrs_of : Bytes → ℕ → Option Bytes → Option Bytes → List Attr
chapter_attrs_of code n alt published =
    escaped (b "number") (decimal n) ∷ rawly (b "style") (b "c")
    ∷ (perhaps (b "altnumber") alt ++ (perhaps (b "pubnumber") published ++ (escaped (b "sid") (chapter_id_of code n) ∷ [])))

-- "verse attributes run number, style, altnumber, sid, pubnumber"
unfoldable pub verse_attrs_of : Bytes → ℕ → Bytes → Option Bytes → Option Bytes → List Attr
verse_attrs_of code n label alt published =
    escaped (b "number") label ∷ rawly (b "style") (b "v")
    ∷ (perhaps (b "altnumber") alt ++ (escaped (b "sid") (verse_id_of code n label) ∷ perhaps (b "pubnumber") published))

-- the book's code is raw
unfoldable pub book_attrs : Bytes → List Attr
book_attrs code = rawly (b "code") code ∷ rawly (b "style") (b "id") ∷ []

-- a book: its rest as text, or an empty tag where there is none
unfoldable pub book_items : Bytes → Bytes → List Item
book_items code [] = empty el.book (book_attrs code) ∷ []
book_items code (x ∷ rest) = start el.book (book_attrs code) ∷ text (x ∷ rest) ∷ close el.book ∷ []

-- "ends are written before the next start (a chapter closes an open verse first)"
unfoldable pub items_of : State → Event → List Item
items_of s (item i) = i ∷ []
items_of s (chapter n alt published) =
    end_of el.verse s.verse ++ (end_of el.chapter s.chapter ++ (empty el.chapter (chapter_attrs_of s.book n alt published) ∷ []))
items_of s (verse label alt published) =
    end_of el.verse s.verse ++ (empty el.verse (verse_attrs_of s.book s.number label alt published) ∷ [])
items_of s (book code rest) = book_items code rest
items_of s aside = []
items_of s back = []

-- what is still open at the end
unfoldable pub last_ends : State → List Item
last_ends s = end_of el.verse s.verse ++ end_of el.chapter s.chapter

-- the items of a list of events, with the ends of what it leaves open
unfoldable pub paired : State → List Event → List Item
paired s [] = last_ends s
paired s (e ∷ es) = items_of s e ++ paired (after s e) es
