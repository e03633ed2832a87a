-- What the checker's state does at each token, as a fold over any row of tags; the rules themselves are those of Words.
use Rattle.std.specs.Prelude.{ℕ, ◌+◌, List, [], ◌∷◌, Bool, true, false, cond, ◌||◌, eqb, ℤ, pos, ◌+ℤ◌, ◌-ℤ◌}
use Rattle.parts.specs.Bytes.{Bytes, same}
use Rattle.tags.specs.Element as el
use Rattle.checker.specs.View.{Mark, bare, plain, other, start, ends, View, words, opened, closed, single}

-- ---- heights

-- the height behind one tag more
unfoldable pub rise : ℤ → View → ℤ
rise h words = h
rise h (opened n) = h +ℤ pos 1
rise h (closed n) = h -ℤ pos 1
rise h (single n m) = h

-- ---- one tree

-- the elements still open, innermost first; whether usx was opened, and closed; whether the tree is none
pub record Trunk : Type 0 where
  pub stack : List ℕ
  pub seen : Bool
  pub done : Bool
  pub broken : Bool

-- the tree is none
unfoldable pub broke : Trunk → Trunk
broke t = record { stack = t.stack; seen = t.seen; done = t.done; broken = true }

-- one element more is open
unfoldable pub push : Trunk → ℕ → Bool → Trunk
push t n u = record { stack = n ∷ t.stack; seen = u; done = t.done; broken = t.broken }

-- the innermost element is closed, where it is the one that the tag names
unfoldable pub pop : Trunk → ℕ → List ℕ → Trunk
pop t n [] = broke t
pop t n (m ∷ ms) = cond (eqb m n) (record { stack = ms; seen = t.seen; done = eqb n el.usx; broken = t.broken }) (broke t)

-- one tag more while usx is not closed
unfoldable pub grow_in : Trunk → View → Trunk
grow_in t words = t
grow_in t (opened n) = cond (eqb n el.usx) (cond t.seen (broke t) (push t n true)) (push t n t.seen)
grow_in t (closed n) = pop t n t.stack
grow_in t (single n m) = cond (eqb n el.usx) (broke t) t

-- one tag more: what is broken stays so, and nothing follows the close of usx
unfoldable pub grow : Trunk → View → Trunk
grow t v = cond t.broken t (cond t.done (broke t) (grow_in t v))

-- ---- milestones

-- the chapter or verse that is open, by its identifier
pub data Held : Type 0 where
  shut : Held
  held : Bytes → Held

-- what a chapter or verse tag does: it begins one, ends the open one, or is wrong
pub data Turned : Type 0 where
  begun : Bytes → Turned
  ended wrong : Turned

-- what a tag does where this is open of its kind
unfoldable pub turn : Held → Mark → Turned
turn h bare = wrong
turn h plain = wrong
turn h other = wrong
turn shut (start i) = begun i
turn (held j) (start i) = wrong
turn shut (ends i) = wrong
turn (held j) (ends i) = cond (same j i) ended wrong

-- the open chapter and verse, how many began, and whether something went amiss
pub record Pairs : Type 0 where
  pub chapter : Held
  pub verse : Held
  pub chapters : ℕ
  pub verses : ℕ
  pub amiss : Bool

-- something went amiss
unfoldable pub missed : Pairs → Pairs
missed p = record { chapter = p.chapter; verse = p.verse; chapters = p.chapters; verses = p.verses; amiss = true }

-- a chapter tag did this
unfoldable pub chapter_to_of : Pairs → Turned → Pairs
chapter_to_of p (begun i) = record { chapter = held i; verse = p.verse; chapters = p.chapters + 1; verses = p.verses; amiss = p.amiss }
chapter_to_of p ended = record { chapter = shut; verse = p.verse; chapters = p.chapters; verses = p.verses; amiss = p.amiss }
chapter_to_of p wrong = missed p

-- a verse tag did this
unfoldable pub verse_to : Pairs → Turned → Pairs
verse_to p (begun i) = record { chapter = p.chapter; verse = held i; chapters = p.chapters; verses = p.verses + 1; amiss = p.amiss }
verse_to p ended = record { chapter = p.chapter; verse = shut; chapters = p.chapters; verses = p.verses; amiss = p.amiss }
verse_to p wrong = missed p

-- whether none is open
unfoldable pub is_shut : Held → Bool
is_shut shut = true
is_shut (held i) = false

-- whether an end of that identifier belongs to what is open
unfoldable pub is_held : Held → Bytes → Bool
is_held shut i = false
is_held (held j) i = same j i

-- whether an element is chapter or verse
unfoldable pub is_milestone : ℕ → Bool
is_milestone n = eqb n el.chapter || eqb n el.verse

-- one tag more: a chapter or verse tag ends in ` />`, and a chapter's finds no verse open
unfoldable pub pair_up : Pairs → View → Pairs
pair_up p words = p
pair_up p (opened n) = cond (is_milestone n) (missed p) p
pair_up p (closed n) = cond (is_milestone n) (missed p) p
pair_up p (single n m) =
    cond (eqb n el.chapter) (cond (is_shut p.verse) (chapter_to_of p (turn p.chapter m)) (missed p))
    (cond (eqb n el.verse) (verse_to p (turn p.verse m)) p)
