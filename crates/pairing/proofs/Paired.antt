-- The pairing theorem: what pairing makes of any events has its milestones right, and as many starts as there are chapters and verses.
use mathlib.Core.Path.{◌≡◌, refl, sym, ap, ◌∙◌, subst}
use mathlib.Core.Bool.{cond}
use mathlib.Core.List.{List, [], ◌∷◌, ◌++◌, append-nil}
use mathlib.Core.Logic.{inl, inr}
use mathlib.Core.Option.{Option, none, some}
use Prim.Native.Nat.{ℕ, suc}
use native.Mathlib.Omega.{arith}
use lib.Dec.{eqb}
use Rattle.parts.specs.Bytes.{Bytes, b, same}
use Rattle.tags.specs.Items.{Item, start, empty, close, text, line}
use Rattle.checker.specs.View.{Mark, start as starts, ends, bare, View, single, id_key_of, noted_by, noted, mark_on, view}
use Rattle.checker.specs.Words.{Kind, Demand, starts_in}
use Rattle.checker.specs.Steps.{Held, shut, held}
use Rattle.checker.specs.Meaning.{since, Fits, of_words, of_open, of_close, of_single, chapter_start, chapter_end, verse_start, verse_end}
use Rattle.checker.proofs.Decides.{since-other, starts_other, starts_more}
use Rattle.events.specs.Event.{Event, item, chapter, verse, book, aside, back, rawly, escaped, perhaps}
use Rattle.events.specs.Pairing.{State, chapter_id_of, verse_id_of, after, end_of, chapter_attrs_of, verse_attrs_of, book_attrs, book_items, items_of, last_ends, paired}
use Rattle.events.proofs.Emits.{chapter_items, verse_items}
use Rattle.pairing.specs.Seen.{pairs, token_of, seen, start_of, open_starts, PlainItem, PlainEvents, chapters_in, verses_in}
use Rattle.pairing.proofs.Rows.{Row, row_demand}

-- ---- what the rules see of pairing's items

abbrev held_of : Option Bytes → Held
held_of none = shut
held_of (some i) = held i

-- a chapter's start, by its attributes
pub chapter-seen : (code : Bytes) (n : ℕ) (alt published : Option Bytes)
    → view (token_of (empty 3 (chapter_attrs_of code n alt published))) ≡ single 3 (starts (chapter_id_of code n))
unfolding view token_of pairs chapter_attrs_of perhaps rawly escaped mark_on noted noted_by id_key_of same
chapter-seen code n none none = refl
chapter-seen code n none (some p) = refl
chapter-seen code n (some a) none = refl
chapter-seen code n (some a) (some p) = refl

pub verse-seen : (code : Bytes) (n : ℕ) (label : Bytes) (alt published : Option Bytes)
    → view (token_of (empty 4 (verse_attrs_of code n label alt published))) ≡ single 4 (starts (verse_id_of code n label))
unfolding view token_of pairs verse_attrs_of perhaps rawly escaped mark_on noted noted_by id_key_of same
verse-seen code n label none none = refl
verse-seen code n label none (some p) = refl
verse-seen code n label (some a) none = refl
verse-seen code n label (some a) (some p) = refl

pub end_seen : (k : ℕ) (i : Bytes) → view (token_of (empty k (rawly (b "eid") i ∷ []))) ≡ single k (ends i)
unfolding view token_of pairs rawly mark_on noted noted_by id_key_of same
end_seen k i = refl

-- ---- rows of tags

row_on : (c v : Held) (i : Item) (w : View) (vs : List View) → view (token_of i) ≡ w → Fits c v w → Row (since 3 c w) (since 4 v w) vs
    → Row c v (view (token_of i) ∷ vs)
row_on c v i w vs e f r = subst (λ (u : View). Row c v (u ∷ vs)) (sym e) (f, r)

-- an item that is neither a chapter nor a verse leaves things as they are
row_plain : (c v : Held) (i : Item) (vs : List View) → PlainItem i → Row c v vs → Row c v (view (token_of i) ∷ vs)
unfolding view token_of since
row_plain c v (start n qs) vs h r = (of_open (λ e. h (inl e)) (λ e. h (inr e)), r)
row_plain c v (empty n qs) vs h r =
    let m : Mark = mark_on bare (pairs qs) in
    let e : since 4 v (single n m) ≡ v = since-other 4 v n m (λ e. h (inr e)) in
    let k : Row c (since 4 v (single n m)) vs = subst (λ (x : Held). Row c x vs) (sym e) r in (
      of_single (λ e. h (inl e)) (λ e. h (inr e)),
      subst (λ (x : Held). Row x (since 4 v (single n m)) vs) (sym (since-other 3 c n m (λ e. h (inl e)))) k,
    )
row_plain c v (close n) vs h r = (of_close (λ e. h (inl e)) (λ e. h (inr e)), r)
row_plain c v (text t) vs h r = (of_words, r)
row_plain c v (line d) vs h r = (of_words, r)

-- an open verse is ended
row-verse : (c : Held) (v : Option Bytes) (is : List Item) → Row c shut (seen is) → Row c (held_of v) (seen (end_of 4 v ++ is))
unfolding end_of seen since
row-verse c none is r = r
row-verse c (some i) is r = row_on c (held i) _ (single 4 (ends i)) (seen is) (end_seen 4 i) (verse_end refl) r

-- an open chapter is ended where no verse is open
row-chapter : (c : Option Bytes) (is : List Item) → Row shut shut (seen is) → Row (held_of c) shut (seen (end_of 3 c ++ is))
unfolding end_of seen since
row-chapter none is r = r
row-chapter (some i) is r = row_on (held i) shut _ (single 3 (ends i)) (seen is) (end_seen 3 i) (chapter_end refl refl) r

not_kind : (n : ℕ) → (n ≡ 3 → ⊥) → (n ≡ 4 → ⊥) → Kind n → ⊥
not_kind n x y (inl e) = x e
not_kind n x y (inr e) = y e

-- a book is neither
a_book : Kind 2 → ⊥
a_book = not_kind 2 (λ e. omega arith) (λ e. omega arith)

row-book : (c v : Held) (code rest : Bytes) (is : List Item) → Row c v (seen is) → Row c v (seen (book_items code rest ++ is))
unfolding book_items seen
row-book c v code [] is r = row_plain c v (empty 2 (book_attrs code)) (seen is) a_book r
row-book c v code (x ∷ rest) is r =
    row_plain c v (start 2 (book_attrs code)) (seen (text (x ∷ rest) ∷ close 2 ∷ is)) a_book
    (row_plain c v (text (x ∷ rest)) (seen (close 2 ∷ is)) tt
    (row_plain c v (close 2) (seen is) a_book r))

-- what pairing makes of any events, from what is open in any state
paired-row : (s : State) (es : List Event) → PlainEvents es → Row (held_of s.chapter) (held_of s.verse) (seen (paired s es))
unfolding paired items_of after last_ends seen since
paired-row s [] h =
    row-verse (held_of s.chapter) s.verse (end_of 3 s.chapter)
    (subst (λ (is : List Item). Row (held_of s.chapter) shut (seen is)) (append-nil (end_of 3 s.chapter)) (row-chapter s.chapter [] (refl, refl)))
paired-row s (item i ∷ es) h = row_plain (held_of s.chapter) (held_of s.verse) i (seen (paired s es)) h.0 (paired-row s es h.1)
paired-row s (chapter n alt published ∷ es) h =
    let x : Item = empty 3 (chapter_attrs_of s.book n alt published) in
    let rest = paired (after s (chapter n alt published)) es in
    subst (λ (is : List Item). Row (held_of s.chapter) (held_of s.verse) (seen is)) (sym (chapter_items s n alt published rest))
    (row-verse (held_of s.chapter) s.verse (end_of 3 s.chapter ++ x ∷ rest)
    (row-chapter s.chapter (x ∷ rest)
    (row_on shut shut x _ (seen rest) (chapter-seen s.book n alt published) (chapter_start refl refl) (paired-row (after s (chapter n alt published)) es h))))
paired-row s (verse label alt published ∷ es) h =
    let x : Item = empty 4 (verse_attrs_of s.book s.number label alt published) in
    let rest = paired (after s (verse label alt published)) es in
    subst (λ (is : List Item). Row (held_of s.chapter) (held_of s.verse) (seen is)) (sym (verse_items s label alt published rest))
    (row-verse (held_of s.chapter) s.verse (x ∷ rest)
    (row_on (held_of s.chapter) shut x _ (seen rest) (verse-seen s.book s.number label alt published) (verse_start refl) (paired-row (after s (verse label alt published)) es h)))
paired-row s (book code rest ∷ es) h =
    row-book (held_of s.chapter) (held_of s.verse) code rest (paired (after s (book code rest)) es) (paired-row (after s (book code rest)) es h)
paired-row s (aside ∷ es) h = paired-row s es h
paired-row s (back ∷ es) h = paired-row s es h

row_open : (c v : Option Bytes) (vs : List View) → Row (held_of c) (held_of v) vs → Row shut shut ((start_of 3 c ++ start_of 4 v) ++ vs)
unfolding start_of since
row_open none none vs r = r
row_open none (some j) vs r = (verse_start refl, r)
row_open (some i) none vs r = (chapter_start refl refl, r)
row_open (some i) (some j) vs r = (chapter_start refl refl, (verse_start refl, r))

-- for any events and any state: with the starts of what is open in front, the milestones are right in the words of demand 3
pub paired_demand : (s : State) (es : List Event) → PlainEvents es → Demand (open_starts s ++ seen (paired s es))
unfolding open_starts
paired_demand s es h = row_demand (open_starts s ++ seen (paired s es)) (row_open s.chapter s.verse (seen (paired s es)) (paired-row s es h))

-- ---- as many starts as chapters and verses

starts_plain : (k : ℕ) → Kind k → (i : Item) (vs : List View) → PlainItem i → starts_in k (view (token_of i) ∷ vs) ≡ starts_in k vs
unfolding view token_of starts_in
starts_plain k kind (start n qs) vs h = refl
starts_plain k kind (empty n qs) vs h =
    omega (arith, starts_more k (single n (mark_on bare (pairs qs))) vs, starts_other k n (mark_on bare (pairs qs)) (λ e. h (kind_of e kind)))
  where
    kind_of : n ≡ k → Kind k → Kind n
    kind_of e (inl i) = inl (e ∙ i)
    kind_of e (inr i) = inr (e ∙ i)
starts_plain k kind (close n) vs h = refl
starts_plain k kind (text t) vs h = refl
starts_plain k kind (line d) vs h = refl

starts_end : (k n : ℕ) (o : Option Bytes) (is : List Item) → starts_in k (seen (end_of n o ++ is)) ≡ starts_in k (seen is)
unfolding end_of seen starts_in
starts_end k n none is = refl
starts_end k n (some i) is = ap (λ (v : View). starts_in k (v ∷ seen is)) (end_seen n i)

starts_book : (k : ℕ) → Kind k → (code rest : Bytes) (is : List Item) → starts_in k (seen (book_items code rest ++ is)) ≡ starts_in k (seen is)
unfolding book_items seen
starts_book k kind code [] is = starts_plain k kind (empty 2 (book_attrs code)) (seen is) a_book
starts_book k kind code (x ∷ rest) is =
    starts_plain k kind (start 2 (book_attrs code)) _ a_book ∙ starts_plain k kind (text (x ∷ rest)) _ tt ∙ starts_plain k kind (close 2) (seen is) a_book

-- of a chapter: none but its own start
starts_chapter : (k : ℕ) (s : State) (n : ℕ) (alt published : Option Bytes) (is : List Item)
    → starts_in k (seen (items_of s (chapter n alt published) ++ is)) ≡ cond (eqb 3 k) (suc (starts_in k (seen is))) (starts_in k (seen is))
unfolding items_of seen starts_in
starts_chapter k s n alt published is =
    ap (λ (js : List Item). starts_in k (seen js)) (chapter_items s n alt published is)
    ∙ starts_end k 4 s.verse (end_of 3 s.chapter ++ empty 3 (chapter_attrs_of s.book n alt published) ∷ is)
    ∙ starts_end k 3 s.chapter (empty 3 (chapter_attrs_of s.book n alt published) ∷ is)
    ∙ ap (λ (v : View). starts_in k (v ∷ seen is)) (chapter-seen s.book n alt published)

-- of a verse: none but its own start
starts_verse : (k : ℕ) (s : State) (label : Bytes) (alt published : Option Bytes) (is : List Item)
    → starts_in k (seen (items_of s (verse label alt published) ++ is)) ≡ cond (eqb 4 k) (suc (starts_in k (seen is))) (starts_in k (seen is))
unfolding items_of seen starts_in
starts_verse k s label alt published is =
    ap (λ (js : List Item). starts_in k (seen js)) (verse_items s label alt published is)
    ∙ starts_end k 4 s.verse (empty 4 (verse_attrs_of s.book s.number label alt published) ∷ is)
    ∙ ap (λ (v : View). starts_in k (v ∷ seen is)) (verse-seen s.book s.number label alt published)

starts_last : (k : ℕ) (s : State) → starts_in k (seen (last_ends s)) ≡ 0
unfolding last_ends seen starts_in
starts_last k s =
    starts_end k 4 s.verse (end_of 3 s.chapter)
    ∙ ap (λ (js : List Item). starts_in k (seen js)) (sym (append-nil (end_of 3 s.chapter))) ∙ starts_end k 3 s.chapter []

chapters_paired : (s : State) (es : List Event) → PlainEvents es → starts_in 3 (seen (paired s es)) ≡ chapters_in es
unfolding paired after items_of seen chapters_in
chapters_paired s [] h = starts_last 3 s
chapters_paired s (item i ∷ es) h = starts_plain 3 (inl refl) i (seen (paired s es)) h.0 ∙ chapters_paired s es h.1
chapters_paired s (chapter n alt published ∷ es) h =
    starts_chapter 3 s n alt published (paired (after s (chapter n alt published)) es) ∙ ap suc (chapters_paired (after s (chapter n alt published)) es h)
chapters_paired s (verse label alt published ∷ es) h =
    starts_verse 3 s label alt published (paired (after s (verse label alt published)) es) ∙ chapters_paired (after s (verse label alt published)) es h
chapters_paired s (book code rest ∷ es) h =
    starts_book 3 (inl refl) code rest (paired (after s (book code rest)) es) ∙ chapters_paired (after s (book code rest)) es h
chapters_paired s (aside ∷ es) h = chapters_paired s es h
chapters_paired s (back ∷ es) h = chapters_paired s es h

verses_paired : (s : State) (es : List Event) → PlainEvents es → starts_in 4 (seen (paired s es)) ≡ verses_in es
unfolding paired after items_of seen verses_in
verses_paired s [] h = starts_last 4 s
verses_paired s (item i ∷ es) h = starts_plain 4 (inr refl) i (seen (paired s es)) h.0 ∙ verses_paired s es h.1
verses_paired s (chapter n alt published ∷ es) h =
    starts_chapter 4 s n alt published (paired (after s (chapter n alt published)) es) ∙ verses_paired (after s (chapter n alt published)) es h
verses_paired s (verse label alt published ∷ es) h =
    starts_verse 4 s label alt published (paired (after s (verse label alt published)) es) ∙ ap suc (verses_paired (after s (verse label alt published)) es h)
verses_paired s (book code rest ∷ es) h =
    starts_book 4 (inr refl) code rest (paired (after s (book code rest)) es) ∙ verses_paired (after s (book code rest)) es h
verses_paired s (aside ∷ es) h = verses_paired s es h
verses_paired s (back ∷ es) h = verses_paired s es h

-- the starts are as many as the chapter and verse events
pub paired_counts : (s : State) (es : List Event) → PlainEvents es
    → (starts_in 3 (seen (paired s es)) ≡ chapters_in es) × (starts_in 4 (seen (paired s es)) ≡ verses_in es)
paired_counts s es h = (chapters_paired s es h, verses_paired s es h)
