-- The rules of milestones and of the tree once more, by what stands open before each tag: between the folds and the rules of Words.
use Rattle.std.specs.Prelude.{◌≡◌, Bool, true, false, cond, List, [], ◌∷◌, ◌++◌, ℕ, eqb}
use Rattle.checker.specs.View.{Mark, start, ends, bare, plain, other, View, words, opened, closed, single}
use Rattle.checker.specs.Words.{still_open}
use Rattle.checker.specs.Steps.{Held, shut, held}
use Rattle.tags.specs.Element as el

-- ---- milestones

-- what a tag makes of an open milestone of kind `k`
unfoldable pub since : ℕ → Held → View → Held
since k h words = h
since k h (opened n) = h
since k h (closed n) = h
since k h (single n bare) = h
since k h (single n plain) = h
since k h (single n other) = h
since k h (single n (start i)) = cond (eqb n k) (held i) h
since k h (single n (ends i)) = cond (eqb n k) shut h

-- the milestone of kind `k` that is open behind a row
unfoldable pub open_behind : ℕ → Held → List View → Held
open_behind k h [] = h
open_behind k h (v ∷ vs) = open_behind k (since k h v) vs

-- a chapter or verse tag is a start or an end; a start finds none of its kind open, an end its own; a chapter's finds no verse open
pub data Fits (chapter verse : Held) : View → Type 0 where
  of_words : Fits chapter verse words
  of_open : {n : ℕ} → (n ≡ el.chapter → ⊥) → (n ≡ el.verse → ⊥) → Fits chapter verse (opened n)
  of_close : {n : ℕ} → (n ≡ el.chapter → ⊥) → (n ≡ el.verse → ⊥) → Fits chapter verse (closed n)
  of_single : {n : ℕ} {m : Mark} → (n ≡ el.chapter → ⊥) → (n ≡ el.verse → ⊥) → Fits chapter verse (single n m)
  chapter_start : {i : List ℕ} → chapter ≡ shut → verse ≡ shut → Fits chapter verse (single el.chapter (start i))
  chapter_end : {i : List ℕ} → chapter ≡ held i → verse ≡ shut → Fits chapter verse (single el.chapter (ends i))
  verse_start : {i : List ℕ} → verse ≡ shut → Fits chapter verse (single el.verse (start i))
  verse_end : {i : List ℕ} → verse ≡ held i → Fits chapter verse (single el.verse (ends i))

-- every tag fits behind those before it, and nothing is open at the end: exactly `Demand`
pub record Milestones (vs : List View) : Type 0 where
  pub places : (a : List View) (v : View) (z : List View) → vs ≡ a ++ v ∷ z → Fits (open_behind el.chapter shut a) (open_behind el.verse shut a) v
  pub chapter : open_behind el.chapter shut vs ≡ shut
  pub verse : open_behind el.verse shut vs ≡ shut

-- ---- one tree

-- whether usx was opened before or is now
unfoldable pub opens_usx : Bool → View → Bool
opens_usx u words = u
opens_usx u (opened n) = cond (eqb n el.usx) true u
opens_usx u (closed n) = u
opens_usx u (single n m) = u

-- whether usx was closed before or is now
unfoldable pub closes_usx : Bool → View → Bool
closes_usx d words = d
closes_usx d (opened n) = d
closes_usx d (closed n) = cond (eqb n el.usx) true d
closes_usx d (single n m) = d

-- whether usx was opened before a row or in it
unfoldable pub usx_opened_of : Bool → List View → Bool
usx_opened_of u [] = u
usx_opened_of u (v ∷ vs) = usx_opened_of (opens_usx u v) vs

-- whether usx was closed before a row or in it
unfoldable pub usx_closed_of : Bool → List View → Bool
usx_closed_of d [] = d
usx_closed_of d (v ∷ vs) = usx_closed_of (closes_usx d v) vs

-- usx opens once and is never empty; a closing tag names the innermost element still open
pub data Grows (st : List ℕ) (seen : Bool) : View → Type 0 where
  g_words : Grows st seen words
  g_open : {n : ℕ} → (n ≡ el.usx → seen ≡ false) → Grows st seen (opened n)
  g_close : {n : ℕ} {ms : List ℕ} → st ≡ n ∷ ms → Grows st seen (closed n)
  g_single : {n : ℕ} {m : Mark} → (n ≡ el.usx → ⊥) → Grows st seen (single n m)

-- every tag grows the tree, none stands behind the close of usx, usx was opened, and nothing is open at the end: exactly `UsxTree`
pub record OneTree (vs : List View) : Type 0 where
  pub places : (a : List View) (v : View) (z : List View) → vs ≡ a ++ v ∷ z → (usx_closed_of false a ≡ false) × Grows (still_open [] a) (usx_opened_of false a) v
  pub opened : usx_opened_of false vs ≡ true
  pub none : still_open [] vs ≡ []
