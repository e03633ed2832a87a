-- What each step makes of the record of the open chapter and verse.
use Rattle.std.specs.Prelude.{ℕ, Some, None}
use Rattle.words.specs.declared.Part.{Part}
use Rattle.usx_state.specs.declared.Marks.{Marks}

-- nothing is open, and no book is named
abbrev pub new_marks : ℕ → Marks
new_marks n = record { book = record { start = 0; len = 0 }; number = n; chapter = None; verse = None }

-- a book is named for what opens from here on
abbrev pub named_book : Marks → Part → Marks
named_book m book = record m { book = book }

-- a chapter opens: it has the number n in the book of the moment
abbrev pub opened_chapter : Marks → ℕ → Marks
opened_chapter m n = record m { number = n; chapter = Some (record { book = m.book; number = n }) }

-- the open chapter ends
abbrev pub closed_chapter : Marks → Marks
closed_chapter m = record m { chapter = None }

-- a verse opens: it has the label in the book and chapter of the moment
abbrev pub opened_verse : Marks → Part → Marks
opened_verse m label = record m { verse = Some (record { book = m.book; number = m.number; label = label }) }

-- the open verse ends
abbrev pub closed_verse : Marks → Marks
closed_verse m = record m { verse = None }

-- a verse starts: the open one ends first
unfoldable pub next_verse : Marks → Part → Marks
next_verse m label = opened_verse (closed_verse m) label

-- a chapter starts: the open verse and chapter end first
unfoldable pub next_chapter : Marks → ℕ → Marks
next_chapter m n = opened_chapter (closed_chapter (closed_verse m)) n

-- the text ends, and the open verse and chapter with it
unfoldable pub all_closed : Marks → Marks
all_closed m = closed_chapter (closed_verse m)
