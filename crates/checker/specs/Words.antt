-- The rules in document 01's own words, over the tokens as the rules see them, and what each answer says of a text.
use Rattle.std.specs.Prelude.{◌≡◌, true, cond, List, [], ◌∷◌, ◌++◌, ◌⊎◌, ℕ, suc, eqb, ℤ, pos, ◌-ℤ◌}
use Rattle.std.specs.Int.Signed.{lt_z}
use Rattle.parts.specs.Bytes.{Bytes, b}
use Rattle.tags.specs.Form.{Pair, Token}
use Rattle.tags.specs.Write.{TagForm}
use Rattle.tags.specs.Element as el
use Rattle.checker.specs.View.{Mark, start, ends, bare, plain, other, View, words, opened, closed, single, views}
use Rattle.checker.specs.Answer.{Answer, accepted, refused}

-- ---- heights

-- the number of opening tags
unfoldable pub openings : List View → ℕ
openings [] = 0
openings (words ∷ vs) = openings vs
openings (opened n ∷ vs) = suc (openings vs)
openings (closed n ∷ vs) = openings vs
openings (single n m ∷ vs) = openings vs

-- the number of closing tags
unfoldable pub closings : List View → ℕ
closings [] = 0
closings (words ∷ vs) = closings vs
closings (opened n ∷ vs) = closings vs
closings (closed n ∷ vs) = suc (closings vs)
closings (single n m ∷ vs) = closings vs

-- "the height at a place is opening tags less closing tags before it, and may fall below zero"
abbrev pub height_of : List View → ℤ
height_of vs = pos (openings vs) -ℤ pos (closings vs)

-- the greatest height that a text may have
abbrev pub highest : ℕ
highest = 160

-- some height is over 160
abbrev pub SomeHigh : List View → Type 0
SomeHigh vs = (a : List View) × (z : List View) × (vs ≡ a ++ z) × (lt_z (pos highest) (height_of a) ≡ true)

-- ---- one usx tree

-- the elements still open behind one tag more, innermost first
unfoldable pub still : List ℕ → View → List ℕ
still st words = st
still st (opened n) = n ∷ st
still [] (closed n) = []
still (m ∷ st) (closed n) = st
still st (single n m) = st

-- the elements still open behind a row of tags
unfoldable pub still_open : List ℕ → List View → List ℕ
still_open st [] = st
still_open st (v ∷ vs) = still_open (still st v) vs

-- the number of opening tags of usx
unfoldable pub usx_tags : List View → ℕ
usx_tags [] = 0
usx_tags (words ∷ vs) = usx_tags vs
usx_tags (opened n ∷ vs) = cond (eqb n el.usx) (suc (usx_tags vs)) (usx_tags vs)
usx_tags (closed n ∷ vs) = usx_tags vs
usx_tags (single n m ∷ vs) = usx_tags vs

-- one usx tree, of any height
pub record UsxTree (vs : List View) : Type 0 where
  -- "every closing tag names the innermost element still open"
  pub closing : (a : List View) (n : ℕ) (z : List View) → vs ≡ a ++ closed n ∷ z → (st : List ℕ) × (still_open [] a ≡ n ∷ st)
  -- "nothing is open at the end"
  pub none : still_open [] vs ≡ []
  -- "usx has one opening tag and no tag ending in ` />`"
  pub one : usx_tags vs ≡ 1
  pub no_empty : (a : List View) (m : Mark) (z : List View) → vs ≡ a ++ single el.usx m ∷ z → ⊥
  -- "and nothing follows its close"
  pub last : (a z : List View) → vs ≡ a ++ closed el.usx ∷ z → z ≡ []

-- ---- what a chapter or verse tag is, by its attributes

-- no attribute has the key
pub data No (k : Bytes) : List Pair → Type 0 where
  none : No k []
  more : {a : Pair} {ps : List Pair} → (a.key ≡ k → ⊥) → No k ps → No k (a ∷ ps)

-- "it is an end if `eid` is its one attribute"
abbrev pub IsEnd : List Pair → Bytes → Type 0
IsEnd ps i = ps ≡ record { key = b "eid"; value = i } ∷ []

-- "a start if it has one `sid` and no `eid`"
pub record IsStart (ps : List Pair) (i : Bytes) : Type 0 where
  pub before : List Pair
  pub after : List Pair
  pub here : ps ≡ before ++ (record { key = b "sid"; value = i } ∷ after)
  pub one : No (b "sid") before × No (b "sid") after
  pub no_end : No (b "eid") before × No (b "eid") after

-- ---- milestones

-- chapter or verse
abbrev pub Kind : ℕ → Type 0
Kind k = (k ≡ el.chapter) ⊎ (k ≡ el.verse)

-- a start of that kind
abbrev pub Starts : ℕ → View → Type 0
Starts k v = (i : Bytes) × (v ≡ single k (start i))

-- an end of that kind
abbrev pub Ends : ℕ → View → Type 0
Ends k v = (i : Bytes) × (v ≡ single k (ends i))

-- none of a row
abbrev pub None : (View → Type 0) → List View → Type 0
None P vs = (a : List View) (v : View) (z : List View) → vs ≡ a ++ v ∷ z → P v → ⊥

-- "a chapter or verse tag ends in ` />`" and is a start or an end
pub data Proper : View → Type 0 where
  p-words : Proper words
  p_open : {n : ℕ} → (Kind n → ⊥) → Proper (opened n)
  p-close : {n : ℕ} → (Kind n → ⊥) → Proper (closed n)
  p-other : {n : ℕ} {m : Mark} → (Kind n → ⊥) → Proper (single n m)
  p_start : {k : ℕ} {i : Bytes} → Kind k → Proper (single k (start i))
  p_end : {k : ℕ} {i : Bytes} → Kind k → Proper (single k (ends i))

-- behind a start there is one end of its kind before the next start of its kind, and it has the start's identifier
pub record HasEnd (k : ℕ) (i : Bytes) (z : List View) : Type 0 where
  pub between : List View
  pub after : List View
  pub here : z ≡ between ++ single k (ends i) ∷ after
  pub before_next : None (Starts k) between
  -- no other end of its kind stands before it, and none behind it before the next start
  pub no_earlier : None (Ends k) between
  pub no_later : (m : List View) (v : View) (n : List View) → after ≡ m ++ v ∷ n → Ends k v → None (Starts k) m → ⊥

-- an end of that identifier belongs to the last start of its kind before it, and no other end of its kind stands between
pub record HasStart (k : ℕ) (i : Bytes) (a : List View) : Type 0 where
  pub before : List View
  pub between : List View
  pub here : a ≡ before ++ single k (start i) ∷ between
  pub last : None (Starts k) between
  pub no_end : None (Ends k) between

-- "open from its start to the end that belongs to it"
abbrev pub IsOpen : ℕ → List View → Type 0
IsOpen k a = (i : Bytes) × HasStart k i a

-- demand 3: every start has one later end of equal identifier before the next start of its kind, no end lacks a start, no verse is open where a chapter starts or ends
pub record Demand (vs : List View) : Type 0 where
  pub form : (a : List View) (v : View) (z : List View) → vs ≡ a ++ v ∷ z → Proper v
  pub starts : (k : ℕ) → Kind k → (a : List View) (i : Bytes) (z : List View) → vs ≡ a ++ single k (start i) ∷ z → HasEnd k i z
  pub ends : (k : ℕ) → Kind k → (a : List View) (i : Bytes) (z : List View) → vs ≡ a ++ single k (ends i) ∷ z → HasStart k i a
  pub apart : (a : List View) (v : View) (z : List View) → vs ≡ a ++ v ∷ z → Starts el.chapter v ⊎ Ends el.chapter v → IsOpen el.verse a → ⊥

-- the number of starts of a kind
unfoldable pub starts_in : ℕ → List View → ℕ
starts_in k [] = 0
starts_in k (words ∷ vs) = starts_in k vs
starts_in k (opened n ∷ vs) = starts_in k vs
starts_in k (closed n ∷ vs) = starts_in k vs
starts_in k (single n bare ∷ vs) = starts_in k vs
starts_in k (single n plain ∷ vs) = starts_in k vs
starts_in k (single n other ∷ vs) = starts_in k vs
starts_in k (single n (start i) ∷ vs) = cond (eqb n k) (suc (starts_in k vs)) (starts_in k vs)
starts_in k (single n (ends i) ∷ vs) = starts_in k vs

-- ---- the answers

-- "0 with the numbers of chapter and verse starts; 11 not tag form; 12 some height over 160; 13 not one usx tree; 14 milestones against demand 3. The lowest that applies"
pub data Judged (s : Bytes) : Answer → Type 0 where
  is_11 : ((ts : List Token) → TagForm s ts → ⊥) → Judged s (refused 11)
  is_12 : (ts : List Token) → TagForm s ts → SomeHigh (views ts) → Judged s (refused 12)
  is_13 : (ts : List Token) → TagForm s ts → (SomeHigh (views ts) → ⊥) → (UsxTree (views ts) → ⊥) → Judged s (refused 13)
  is_14 : (ts : List Token) → TagForm s ts → (SomeHigh (views ts) → ⊥) → UsxTree (views ts) → (Demand (views ts) → ⊥) → Judged s (refused 14)
  is_0 : (ts : List Token) → TagForm s ts → (SomeHigh (views ts) → ⊥) → UsxTree (views ts) → Demand (views ts)
      → Judged s (accepted (starts_in el.chapter (views ts)) (starts_in el.verse (views ts)))
