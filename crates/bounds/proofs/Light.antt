-- What events may cost, and that the text of events costs no more.
use mathlib.Core.Bool.{Bool, true, false}
use mathlib.Core.List.{List, [], ◌∷◌, ◌++◌}
use mathlib.Core.Option.{Option, none, some}
use Prim.Native.Nat.{ℕ, ◌+◌, ◌*◌, ◌≤◌}
use native.Mathlib.Omega.{arith}
use lib.ListN.{length, length-append}
use Rattle.parts.specs.Bytes.{Bytes, b}
use Rattle.chars.specs.Decimal.{decimal}
use Rattle.chars.proofs.Digits.{decimal-length}
use Rattle.tags.specs.Items.{Attr, Item, empty, close, bytes_of}
use Rattle.events.specs.Event.{Event, item, chapter, verse, book, aside, back, rawly, escaped, perhaps, element, asided, besides}
use Rattle.events.specs.Pairing.{State, chapter_id_of, verse_id_of, after, end_of, chapter_attrs_of, verse_attrs_of, book_attrs, book_items, items_of, last_ends, paired}
use Rattle.bounds.proofs.Items.{attr_cost, attrs_cost, attrs_append, start_most, empty_most, close_most, text_most, items_cost, items_append}

-- the length of what may be missing
unfoldable pub size_or : Option Bytes → ℕ
size_or none = 0
size_or (some s) = length s

-- an event costs at most so much; identifiers and ends are in the constant
abbrev pub Fits : ℕ → Event → Type 0
Fits n (item i) = length (bytes_of i) ≤ n
Fits n (chapter c alt published) = 400000000 + 6 * (size_or alt + size_or published) ≤ n
Fits n (verse label alt published) = (length label ≤ 9000000) × (400000000 + 6 * (size_or alt + size_or published) ≤ n)
Fits n (book code rest) = (length code ≤ 9000000) × (400000000 + 6 * length rest ≤ n)
Fits n aside = Unit {0}
Fits n back = Unit {0}

-- events cost at most so much
pub data Light : ℕ → List Event → Type 0 where
  nil : {n : ℕ} → Light n []
  more : (a z n : ℕ) {e : Event} {es : List Event} → Fits a e → Light z es → a + z ≤ n → Light n (e ∷ es)

pub light_most : {m n : ℕ} {es : List Event} → Light m es → m ≤ n → Light n es
light_most nil h = nil
light_most {n = m} (more a z n f l s) h = more a z m f l (omega arith)

pub light_append : {a z n : ℕ} {es fs : List Event} → Light a es → Light z fs → a + z ≤ n → Light n (es ++ fs)
light_append nil k h = light_most k (omega arith)
light_append {z = y} {n = m} (more a z n f l s) k h = more a (z + y) m f (light_append l k (omega arith)) (omega arith)

pub light_item : {n : ℕ} (i : Item) → length (bytes_of i) ≤ n → Light n (item i ∷ [])
light_item {n} i h = more n 0 n h nil (omega arith)

pub light_one : {n : ℕ} {e : Event} → Fits n e → Light n (e ∷ [])
light_one {n} f = more n 0 n f nil (omega arith)

-- an element around events
pub light_element : {m n : ℕ} (i : ℕ) (qs : List Attr) {es : List Event} → Light m es → 400 + attrs_cost qs + m ≤ n → Light n (element i qs es)
unfolding element
light_element {m} {n} i qs l h =
    more (200 + attrs_cost qs) (m + 200) n (start_most i qs) (light_append l (light_item (close i) (close_most i)) (omega arith)) (omega arith)

-- what stands aside costs nothing more
pub light_asided : {n : ℕ} {es : List Event} → Light n es → Light n (asided es)
unfolding asided
light_asided {n} l = more 0 n n tt (light_append l (light_one {n = 0} tt) (omega arith)) (omega arith)

pub light_besides : {n : ℕ} (one : Bool) {es : List Event} → Light n es → Light n (besides one es)
unfolding besides
light_besides true l = light_asided l
light_besides false l = l

-- ---- pairing

-- an open identifier is no longer than a book's code and a label
pub record Small (s : State) : Type 0 where
  pub book : length s.book ≤ 9000000
  pub chapter : size_or s.chapter ≤ 20000000
  pub verse : size_or s.verse ≤ 20000000

chapter-id : (code : Bytes) (n : ℕ) → length (chapter_id_of code n) ≤ length code + 11
unfolding chapter_id_of
chapter-id code n = omega (arith, length-append code (b " " ++ decimal n), decimal-length n)

verse-id : (code : Bytes) (n : ℕ) (label : Bytes) → length (verse_id_of code n label) ≤ length code + length label + 12
unfolding verse_id_of
verse-id code n label =
    omega (arith, length-append code (b " " ++ (decimal n ++ (b ":" ++ label))), length-append (decimal n) (b ":" ++ label), decimal-length n)

small-after : (s : State) → Small s → (n : ℕ) (e : Event) → Fits n e → Small (after s e)
unfolding after size_or
small-after s z n (item i) f = z
small-after s z n (chapter c alt published) f =
    record { book = z.book; chapter = omega (arith, chapter-id s.book c, z.book); verse = omega arith }
small-after s z n (verse label alt published) f =
    record { book = z.book; chapter = z.chapter; verse = omega (arith, verse-id s.book s.number label, z.book, f.0) }
small-after s z n (book code rest) f = record { book = f.0; chapter = z.chapter; verse = z.verse }
small-after s z n aside f = z
small-after s z n back f = z

pub perhaps_most : (key : Bytes) (v : Option Bytes) → attrs_cost (perhaps key v) ≤ 4 + length key + 6 * size_or v
unfolding perhaps size_or attrs_cost attr_cost escaped
perhaps_most key none = omega arith
perhaps_most key (some s) = omega arith

eid_most : (i : Bytes) → attrs_cost (rawly (b "eid") i ∷ []) ≤ 7 + 6 * length i
unfolding attrs_cost attr_cost rawly
eid_most i = omega arith

end_most : (k : ℕ) (v : Option Bytes) → size_or v ≤ 20000000 → items_cost (end_of k v) ≤ 120000300
unfolding end_of size_or items_cost
end_most k none h = omega arith
end_most k (some i) h = omega (arith, empty_most k (rawly (b "eid") i ∷ []), eid_most i)

chapter_most : (code : Bytes) (n : ℕ) (alt published : Option Bytes) → length code ≤ 9000000
    → attrs_cost (chapter_attrs_of code n alt published) ≤ 60000000 + 6 * (size_or alt + size_or published)
unfolding chapter_attrs_of attrs_cost attr_cost escaped rawly
chapter_most code n alt published h =
    omega (
      arith,
      decimal-length n,
      chapter-id code n,
      perhaps_most (b "altnumber") alt,
      perhaps_most (b "pubnumber") published,
      attrs_append (perhaps (b "altnumber") alt) (perhaps (b "pubnumber") published ++ (escaped (b "sid") (chapter_id_of code n) ∷ [])),
      attrs_append (perhaps (b "pubnumber") published) (escaped (b "sid") (chapter_id_of code n) ∷ []),
    )

verse_most : (code : Bytes) (n : ℕ) (label : Bytes) (alt published : Option Bytes) → length code ≤ 9000000 → length label ≤ 9000000
    → attrs_cost (verse_attrs_of code n label alt published) ≤ 170000000 + 6 * (size_or alt + size_or published)
unfolding verse_attrs_of attrs_cost attr_cost escaped rawly
verse_most code n label alt published h l =
    omega (
      arith,
      verse-id code n label,
      perhaps_most (b "altnumber") alt,
      perhaps_most (b "pubnumber") published,
      attrs_append (perhaps (b "altnumber") alt) (escaped (b "sid") (verse_id_of code n label) ∷ perhaps (b "pubnumber") published),
    )

code_most : (code : Bytes) → length code ≤ 9000000 → attrs_cost (book_attrs code) ≤ 60000000
unfolding book_attrs attrs_cost attr_cost rawly
code_most code h = omega arith

book_most : (code rest : Bytes) → length code ≤ 9000000 → items_cost (book_items code rest) ≤ 400000000 + 6 * length rest
unfolding book_items items_cost
book_most code [] h = omega (arith, empty_most 2 (book_attrs code), code_most code h)
book_most code (x ∷ rest) h = omega (arith, start_most 2 (book_attrs code), code_most code h, text_most (x ∷ rest), close_most 2)

-- an event's items cost no more than the event
items_most : (s : State) → Small s → (n : ℕ) (e : Event) → Fits n e → items_cost (items_of s e) ≤ n
unfolding items_of items_cost
items_most s z n (item i) f = omega arith
items_most s z n (chapter c alt published) f =
    let q = chapter_attrs_of s.book c alt published in
    omega (
      arith,
      end_most 4 s.verse z.verse,
      end_most 3 s.chapter z.chapter,
      empty_most 3 q,
      chapter_most s.book c alt published z.book,
      items_append (end_of 4 s.verse) (end_of 3 s.chapter ++ (empty 3 q ∷ [])),
      items_append (end_of 3 s.chapter) (empty 3 q ∷ []),
    )
items_most s z n (verse label alt published) f =
    let q = verse_attrs_of s.book s.number label alt published in
    omega (
      arith,
      f.1,
      end_most 4 s.verse z.verse,
      empty_most 4 q,
      verse_most s.book s.number label alt published z.book f.0,
      items_append (end_of 4 s.verse) (empty 4 q ∷ []),
    )
items_most s z n (book code rest) f = omega (arith, f.1, book_most code rest f.0)
items_most s z n aside f = omega arith
items_most s z n back f = omega arith

-- the items of events cost no more than the events, and two ends
pub paired_most : {n : ℕ} (s : State) → Small s → (es : List Event) → Light n es → items_cost (paired s es) ≤ n + 400000000
unfolding paired last_ends
paired_most s z [] nil =
    omega (arith, end_most 4 s.verse z.verse, end_most 3 s.chapter z.chapter, items_append (end_of 4 s.verse) (end_of 3 s.chapter))
paired_most s z (e ∷ es) (more a y n f l h) =
    omega (arith, items_most s z a e f, paired_most (after s e) (small-after s z a e f) es l, items_append (items_of s e) (paired (after s e) es))
