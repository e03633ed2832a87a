-- The categories of entries, by their numbers, 0 to 7 in `Category` order.
use Rattle.std.specs.Prelude.{ℕ}

-- `id` and the like
abbrev pub identification : ℕ
identification = 0

-- chapters
abbrev pub chapter : ℕ
chapter = 1

-- verses
abbrev pub verse : ℕ
verse = 2

-- paragraphs
abbrev pub paragraph : ℕ
paragraph = 3

-- markers inside text
abbrev pub character : ℕ
character = 4

-- notes
abbrev pub note : ℕ
note = 5

-- milestones
abbrev pub milestone : ℕ
milestone = 6

-- any other, and what is unknown
abbrev pub other : ℕ
other = 7
