-- What elements say in attributes, from what was read.
use mathlib.Core.Path.{◌≡◌, refl, sym, ap, ◌∙◌}
use mathlib.Core.Bool.{Bool, true, false}
use mathlib.Core.List.{List, [], ◌∷◌}
use mathlib.Core.Option.{none, some}
use Prim.Native.Nat.{ℕ, zero, suc, ◌<◌}
use native.Mathlib.Omega.{arith}
use lib.ListN.{length, get_or, drop, drop_of_length-le}
use Rattle.parts.specs.Bytes.{Bytes, part}
use Rattle.words.specs.Words.{words, joined, trim, is_blank_of, after_word, next_word}
use Rattle.words.specs.declared.Set.{Set}
use Rattle.words.specs.declared.Set.TheVariants.{Unicode}
use Rattle.words.specs.declared.Part.{Part}
use Rattle.words.proofs.Places.{end_of, words-nil, next-none, words-none, words-next}
use Rattle.words.proofs.Joins.{IsWord, Each, words_are}
use Rattle.words.proofs.Answers.{after-found}
use Rattle.texts.proofs.Texts.{joined_blank, joined-some}
use Rattle.tape.specs.File.{Tape, kind_at, text_at_of}
use Rattle.tape.specs.Tree.{first_child, walk_from, children}
use Rattle.tape.specs.declared.kinds.Kind.{Kind}
use Rattle.tape.specs.declared.Cursor.{Cursor}
use Rattle.tape.specs.Found.{Step}
use Rattle.std.specs.Prelude.{None, Some}
use Rattle.tape.proofs.Walk.{children_walk}
use Rattle.render.specs.Shape.{is_category_marker_of}
use Rattle.render.specs.First.{first_with}
use Rattle.render.specs.Children.{first_text_of}
use Rattle.render.specs.Label.{word_part_of}
use Rattle.render.specs.Note.{first_or, lead_text, caller_or, remainder, text_under, category_text_of, step_text, first_words, book_code_of, word_at, code_part, IsCode, book_rest_of, unless_empty, periph_alt}
use Rattle.render.proofs.Shapes.{kind_is, kind_not}
use Rattle.render.proofs.Labels.{word_bytes}

-- ---- words

first-or : (other : Bytes) (ws : List Bytes) → (length ws ≡ 0 → ⊥) → first_or other ws ≡ get_or ws 0 []
unfolding first_or
first-or other [] h = absurd (h refl)
first-or other (w ∷ ws) h = refl

first_or_nil : (ws : List Bytes) → first_or [] ws ≡ get_or ws 0 []
unfolding first_or
first_or_nil [] = refl
first_or_nil (w ∷ ws) = refl

-- a first word of no bytes: there is none
no_word : (set : Set) (s : Bytes) → length (get_or (words set s) 0 []) ≡ 0 → words set s ≡ []
no_word set s e = go (words set s) (words_are set s) e
  where
    go : (ws : List Bytes) → Each (IsWord set) ws → length (get_or ws 0 []) ≡ 0 → ws ≡ []
    go [] is e = refl
    go (w ∷ ws) is e = absurd (omega (arith, is.0.some))

-- the words behind the first
pub words-behind : (set : Set) (s : Bytes) → words set (after_word set s) ≡ drop 1 (words set s)
words-behind set s = go (next_word set s 0).len refl
  where
    after : after_word set s ≡ drop (end_of (next_word set s 0)) s
    after = sym (after-found set s refl refl)

    go : (k : ℕ) → (next_word set s 0).len ≡ k → words set (after_word set s) ≡ drop 1 (words set s)
    go zero e =
        let i : ℕ = (next_word set s 0).start in
        let end : end_of (next_word set s 0) ≡ i = omega (arith, e) in
        rw (after, end, drop_of_length-le s (next-none set s 0 e), words-none set s 0 e) (words-nil set)
    go (suc k) e = rw (after, words-next set s 0 (omega (arith, e)))

-- ---- notes

pub nothing_of : (s : Bytes) {r : Bytes} → r ≡ part s 0 0 → r ≡ []
nothing_of s e = e

module _ (t : Tape) {s : Step} where
  pub lead-none : {r : Bytes} → s ≡ None → r ≡ [] → r ≡ lead_text t s
  unfolding lead_text
  lead-none es er = rw es er

  pub lead-other : (c : Cursor) {z : Kind} {r : Bytes} → s ≡ Some c → z.code ≡ kind_at t c.at → (z.code ≡ 1 → ⊥) → r ≡ [] → r ≡ lead_text t s
  unfolding lead_text
  lead-other c es ek h er = rw (es, kind_not t c.at ek 1 h) er

  pub lead-text : (c : Cursor) {z : Kind} {r : Bytes} → s ≡ Some c → z.code ≡ kind_at t c.at → z.code ≡ 1 → r ≡ text_at_of t c.at → r ≡ lead_text t s
  unfolding lead_text
  lead-text c es ek h er = rw (es, kind_is t c.at ek 1 h) er

  pub text-none : {r : Bytes} → s ≡ None → r ≡ [] → r ≡ step_text t s
  unfolding step_text
  text-none es er = rw es er

  pub text-some : (c : Cursor) {r : Bytes} → s ≡ Some c → r ≡ text_at_of t c.at → r ≡ step_text t s
  unfolding step_text
  text-some c es er = rw es er

module _ (plus : Bytes) (t : Tape) (k : ℕ) {s : Step} {u w : Bytes} (es : s ≡ first_child t k) (eu : u ≡ lead_text t s) (ew : w ≡ get_or (words Unicode u) 0 []) where
  lead_here : u ≡ lead_text t (first_child t k)
  lead_here = eu ∙ ap (lead_text t) es

  pub caller_plus : length w ≡ 0 → plus ≡ caller_or plus t k
  unfolding caller_or first_or
  caller_plus h = rw (← lead_here, no_word Unicode u (sym (ap length ew) ∙ h))

  pub caller_word : (length w ≡ 0 → ⊥) → w ≡ caller_or plus t k
  unfolding caller_or
  caller_word h = rw (← lead_here) (ew ∙ sym (first-or plus (words Unicode u) (λ e. h (ap length ew ∙ none_first (words Unicode u) e))))
    where
      none_first : (ws : List Bytes) → length ws ≡ 0 → length (get_or ws 0 []) ≡ 0
      none_first [] e = refl
      none_first (v ∷ ws) e = absurd (omega arith)

pub remainder_of : (s : Bytes) {r : Bytes} → r ≡ after_word Unicode s → r ≡ remainder s
unfolding remainder
remainder_of s e = e

-- ---- category

module _ (t : Tape) (k : ℕ) {s f : Step} (es : s ≡ first_child t k) (ef : f ≡ first_with (is_category_marker_of t) (walk_from t s)) where
  cat_here : f ≡ first_with (is_category_marker_of t) (children t k)
  cat_here = ef ∙ ap (first_with (is_category_marker_of t)) (children_walk t k es)

  pub category-some : (c : Cursor) {r : Step} → f ≡ Some c → r ≡ first_text_of t c.at → r ≡ category_text_of t k
  unfolding category_text_of text_under
  category-some c ec er = rw (← cat_here, ec) er

  pub category-none : f ≡ None → None ≡ category_text_of t k
  unfolding category_text_of text_under
  category-none ec = rw (← cat_here, ec)

pub trimmed_of : (t : Tape) (k : ℕ) {s r : Bytes} → s ≡ text_at_of t k → r ≡ trim Unicode s → r ≡ trim Unicode (text_at_of t k)
trimmed_of t k es er = er ∙ ap (trim Unicode) es

-- ---- book and periph

pub leading_of : (t : Tape) (k : ℕ) {s : Step} {r : Bytes} → s ≡ first_text_of t k → r ≡ step_text t s → r ≡ step_text t (first_text_of t k)
leading_of t k es er = er ∙ ap (step_text t) es

module _ (t : Tape) (k : ℕ) {s : Step} (es : s ≡ first_text_of t k) where
  pub code_some : (c : Cursor) {p : Part} → s ≡ Some c → p ≡ word_part_of t c.at 0 → IsCode t k p
  unfolding code_part word_at book_code_of first_words step_text
  code_some c ec ep = record {
    place = rw (← es, ec) ep;
    bytes = rw (← es, ec, ep) (word_bytes t c.at 0 ∙ sym (first_or_nil (words Unicode (text_at_of t c.at))));
  }

  pub code_none : s ≡ None → IsCode t k (record { start = 0; len = 0 })
  unfolding code_part word_at book_code_of first_words step_text first_or
  code_none ec = record { place = rw (← es, ec); bytes = rw (← es, ec, words-nil Unicode) }

pub rest_of : (t : Tape) (k : ℕ) {s r : Bytes} → s ≡ step_text t (first_text_of t k) → r ≡ remainder s → r ≡ remainder (step_text t (first_text_of t k))
rest_of t k es er = er ∙ ap remainder es

-- the words that are written behind the book's code
pub rest-words : (t : Tape) (k : ℕ) {r : Bytes} → r ≡ remainder (step_text t (first_text_of t k)) → joined (words Unicode r) ≡ book_rest_of t k
unfolding remainder book_rest_of first_words
rest-words t k er = rw er (ap joined (words-behind Unicode (step_text t (first_text_of t k))))

some-text : (s : Bytes) → 0 < length s → unless_empty s ≡ some s
unfolding unless_empty
some-text [] l = absurd (omega arith)
some-text (x ∷ s) l = refl

module _ (t : Tape) (k : ℕ) {r : Bytes} {y : Bool} (er : r ≡ step_text t (first_text_of t k)) (ey : y ≡ is_blank_of Unicode r) where
  -- there is no alt where the text is blank
  pub alt_none : y ≡ true → periph_alt t k ≡ none
  unfolding periph_alt first_words unless_empty
  alt_none h = rw (← er, joined_blank Unicode r (sym ey ∙ h))

  -- else it is the words of the text
  pub alt_some : y ≡ false → periph_alt t k ≡ some (joined (words Unicode r))
  unfolding periph_alt first_words
  alt_some h = rw (← er) (some-text (joined (words Unicode r)) (joined-some Unicode r (sym ey ∙ h)))
