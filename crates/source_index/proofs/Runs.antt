-- Names and words by places: the first that ends a name, and the first gap before a word.
use mathlib.Core.Path.{◌≡◌, refl, sym, ap, ◌∙◌}
use mathlib.Core.Bool.{Bool, true, false, not, ◌&&◌}
use mathlib.Core.List.{List, [], ◌∷◌, flatten}
use Prim.Native.Nat.{ℕ, zero, suc, ◌+◌, ◌-◌, ◌≤◌, ◌<◌}
use native.Mathlib.Omega.{arith}
use lib.ListN.{length, get_or, take, drop, length-drop, length-append}
use lib.Seq.{drop-drop, length-take-le, get_or-drop}
use lib.Dec.{ltb}
use borrow.Author.Tests.{lt-ltb, le-ltb, ltb-true, leb-true, not-false}
use Rattle.parts.specs.Bytes.{Bytes, first_at}
use Rattle.parts.proofs.Laws.{and-true as both_true, first-le}
use Rattle.chars.specs.Range.{within}
use Rattle.chars.specs.Utf8.{tail, seq_len, step, cut_at, characters, code_of}
use Rattle.chars.proofs.Characters.{seq_inner, step_seq, step_byte, step-some, step-le, cut-first, cut_induct}
use Rattle.words.specs.Words.{take_while, white}
use Rattle.words.specs.declared.Set.TheVariants.{Unicode}
use Rattle.tape.specs.Name.{ends_name_of, in_name_of, name_len}
use Rattle.source_index.specs.Seek.{ends_at, white_at, solid_at, gap_at, passes_at, next_from, Right, to_word, Dull}
use Rattle.source_index.specs.declared.Test.{Test}
use Rattle.source_index.specs.declared.Test.TheVariants.{Ender, Gap}
use Rattle.source_index.proofs.Firsts.{OfChars, ender_chars, gap_chars, first_hit, first_skip}
use Rattle.source_index.proofs.Dulls.{ends_white_not}

-- ---- places inside a character

dull_tail : (x : ℕ) → within tail x ≡ true → Dull x
unfolding within
dull_tail x e =
    let b = both_true _ _ e in
    let l = leb-true 128 x b.0 in
    let h = leb-true x 191 b.1 in
    record {
      low = omega arith;
      star = λ q. omega arith;
      slash = λ q. omega arith;
      bar = λ q. omega arith;
      two = λ q. omega arith;
      three = λ q. absurd (omega arith);
    }

module _ (test : Test) (dull : OfChars test) (u : Bytes) (h : 0 < length u) where
  -- none of them passes
  inner-not : (j : ℕ) → 0 < j → j < step u → passes_at test (drop j u) ≡ false
  inner-not j l k = go (seq_len u) refl
    where
      go : (n : ℕ) → seq_len u ≡ n → passes_at test (drop j u) ≡ false
      go zero e = absurd (omega (arith, step_byte u h e))
      go (suc n) e =
          let q : step u ≡ seq_len u = step_seq u (omega arith) in
          let at : get_or (drop j u) 0 0 ≡ get_or u j 0 = get_or-drop j u 0 0 ∙ ap (λ (i : ℕ). get_or u i 0) (omega arith) in
          dull (drop j u) (omega (arith, length-drop j u, step-le u))
          (rw at (dull_tail (get_or u j 0) (seq_inner u j l (omega arith))))

  -- where a character does not pass, the first that does stands behind it
  char_skip : passes_at test u ≡ false → first_at (passes_at test) u ≡ step u + first_at (passes_at test) (drop (step u) u)
  char_skip e = first_skip (passes_at test) (step u) u (step-le u) (λ j k. go j k)
    where
      go : (j : ℕ) → j < step u → passes_at test (drop j u) ≡ false
      go zero k = e
      go (suc j) k = inner-not (suc j) (omega arith) k

ender_is : (u : Bytes) → passes_at Ender u ≡ ends_at u
unfolding passes_at
ender_is u = refl

gap_test : (u : Bytes) → passes_at Gap u ≡ gap_at u
unfolding passes_at
gap_test u = refl

ends_code : (u : Bytes) → ends_name_of (code_of (take (step u) u)) ≡ ends_at u
unfolding ends_at
ends_code u = refl

-- ---- names

name-nil : first_at (passes_at Ender) [] ≡ name_len []
unfolding first_at name_len characters cut_at take_while flatten
name-nil = refl

name-none : (u : Bytes) → 0 < length u → ends_at u ≡ true → name_len u ≡ 0
unfolding name_len characters take_while flatten in_name_of ends_at
name-none u h e = rw (cut-first step-some u h, e)

name-step : (u : Bytes) → 0 < length u → ends_at u ≡ false → name_len u ≡ step u + name_len (drop (step u) u)
unfolding name_len characters take_while flatten in_name_of ends_at
name-step u h e =
    rw (cut-first step-some u h, e)
    (length-append (take (step u) u) _ ∙ rw (length-take-le (step u) u (step-le u)))

name-first : (u : Bytes) → first_at (passes_at Ender) u ≡ name_len u
name-first u = cut_induct step-some (λ v. first_at (passes_at Ender) v ≡ name_len v) none more u
  where
    none : first_at (passes_at Ender) [] ≡ name_len []
    none = name-nil

    more : (v : Bytes) → 0 < length v → first_at (passes_at Ender) (drop (step v) v) ≡ name_len (drop (step v) v) → first_at (passes_at Ender) v ≡ name_len v
    more v h q = go (ends_at v) refl
      where
        go : (t : Bool) → ends_at v ≡ t → first_at (passes_at Ender) v ≡ name_len v
        go true e = first_hit (passes_at Ender) v (ender_is v ∙ e) ∙ sym (name-none v h e)
        go false e =
            char_skip Ender ender_chars v h (ender_is v ∙ e) ∙ ap (λ (n : ℕ). step v + n) q ∙ sym (name-step v h e)

pub name-le : (u : Bytes) → name_len u ≤ length u
name-le u = omega (arith, name-first u, first-le (passes_at Ender) u)

-- a name begins with no white space
pub name-solid : (u : Bytes) → 0 < length u → 0 < name_len u → white_at u ≡ false
unfolding white_at white
name-solid u h l = ends_white_not (code_of (take (step u) u)) (go (ends_at u) refl)
  where
    go : (t : Bool) → ends_at u ≡ t → ends_name_of (code_of (take (step u) u)) ≡ false
    go true e = absurd (omega (arith, name-none u h e))
    go false e = ends_code u ∙ e

-- ---- words

gap_is : (u : Bytes) → white_at u && solid_at (drop (step u) u) ≡ gap_at u
unfolding gap_at
gap_is u = refl

word_nil : first_at (passes_at Gap) [] + step (drop (first_at (passes_at Gap) []) []) ≡ to_word false (characters [])
unfolding first_at step to_word characters cut_at
word_nil = refl

pub characters-first : (u : Bytes) → 0 < length u → characters u ≡ take (step u) u ∷ characters (drop (step u) u)
unfolding characters
characters-first u h = cut-first step-some u h

characters-none : (u : Bytes) → length u ≤ 0 → characters u ≡ []
unfolding characters cut_at
characters-none [] h = refl
characters-none (x ∷ u) h = absurd (omega arith)

to_nil : (w : Bool) → to_word w [] ≡ to_word false []
unfolding to_word
to_nil w = refl

-- the first character is passed by
to_first : (u : Bytes) → 0 < length u → to_word false (characters u) ≡ step u + to_word (white_at u) (characters (drop (step u) u))
unfolding characters to_word white_at
to_first u h = rw (cut-first step-some u h, length-take-le (step u) u (step-le u))

-- a word is there at once
to_solid : (u : Bytes) → solid_at u ≡ true → to_word true (characters u) ≡ 0
unfolding characters to_word solid_at white_at
to_solid u e =
    let b = both_true (ltb 0 (length u)) (not (white Unicode (take (step u) u))) e in
    rw (cut-first step-some u (ltb-true 0 (length u) b.0), b.1)

solid-not : (u : Bytes) → 0 < length u → solid_at u ≡ false → white_at u ≡ true
unfolding solid_at
solid-not u h e = not-false (white_at u) (rw (lt-ltb 0 (length u) h) at e)

to_same : (c : Bytes) (cs : List Bytes) → white Unicode c ≡ true → to_word true (c ∷ cs) ≡ to_word false (c ∷ cs)
unfolding to_word
to_same c cs e = rw e

-- before what is no word it does not matter what precedes
to_white : (u : Bytes) → solid_at u ≡ false → to_word true (characters u) ≡ to_word false (characters u)
unfolding white_at
to_white u e = go (length u) refl
  where
    go : (n : ℕ) → length u ≡ n → to_word true (characters u) ≡ to_word false (characters u)
    go zero q = rw (characters-none u (omega arith)) (to_nil true)
    go (suc n) q =
        rw (characters-first u (omega arith))
        (to_same (take (step u) u) (characters (drop (step u) u)) (solid-not u (omega arith) e))

gap_word : (u : Bytes) → 0 < length u → gap_at u ≡ true → to_word false (characters u) ≡ step u
gap_word u h e =
    let b = both_true (white_at u) (solid_at (drop (step u) u)) (gap_is u ∙ e) in
    to_first u h ∙ ap (λ (w : Bool). step u + to_word w (characters (drop (step u) u))) b.0
    ∙ omega (arith, to_solid (drop (step u) u) b.1)

gap_none : (u : Bytes) → 0 < length u → gap_at u ≡ false → to_word false (characters u) ≡ step u + to_word false (characters (drop (step u) u))
gap_none u h e = to_first u h ∙ ap (λ (n : ℕ). step u + n) (go (white_at u) refl)
  where
    go : (w : Bool) → white_at u ≡ w → to_word w (characters (drop (step u) u)) ≡ to_word false (characters (drop (step u) u))
    go false q = refl
    go true q = to_white (drop (step u) u) (ap (λ (w : Bool). w && solid_at (drop (step u) u)) (sym q) ∙ gap_is u ∙ e)

word_first : (u : Bytes) → first_at (passes_at Gap) u + step (drop (first_at (passes_at Gap) u) u) ≡ to_word false (characters u)
word_first u = cut_induct step-some Goal none more u
  where
    Goal : Bytes → Type 0
    Goal v = first_at (passes_at Gap) v + step (drop (first_at (passes_at Gap) v) v) ≡ to_word false (characters v)

    none : Goal []
    none = word_nil

    more : (v : Bytes) → 0 < length v → Goal (drop (step v) v) → Goal v
    more v h q = go (gap_at v) refl
      where
        go : (t : Bool) → gap_at v ≡ t → Goal v
        go true e =
            let z : first_at (passes_at Gap) v ≡ 0 = first_hit (passes_at Gap) v (gap_test v ∙ e) in
            omega (arith, z, ap (λ (n : ℕ). step (drop n v)) z, gap_word v h e)
        go false e =
            let z = char_skip Gap gap_chars v h (gap_test v ∙ e) in
            let w = first_at (passes_at Gap) (drop (step v) v) in
            omega (
              arith,
              z,
              q,
              gap_none v h e,
              ap (λ (n : ℕ). step (drop n v)) z ∙ sym (ap step (drop-drop w (step v) v)),
            )

-- ---- at a place

module _ (s : Bytes) (at : ℕ) where
  name_place : next_from Ender s at ≡ at + name_len (drop at s)
  unfolding next_from
  name_place = ap (λ (n : ℕ). at + n) (name-first (drop at s))

  word_place : next_from Gap s at + step (drop (next_from Gap s at) s) ≡ at + to_word false (characters (drop at s))
  unfolding next_from
  word_place = omega (arith, word_first (drop at s), ap step (drop-drop (first_at (passes_at Gap) (drop at s)) at s))

  module _ {table : List ℕ} {p : ℕ} where
    pub name-more : (base : ℕ) → (Right Ender s table → at ≤ length s → p ≡ next_from Ender s at) → at < p → Right Ender s table → at ≤ length s
        → ltb base (p - at) ≡ ltb base (name_len (drop at s))
    name-more base f l t h = ap (ltb base) (omega (arith, f t h, name_place))

    pub name-empty : (base : ℕ) → (Right Ender s table → at ≤ length s → p ≡ next_from Ender s at) → p ≤ at → Right Ender s table → at ≤ length s
        → false ≡ ltb base (name_len (drop at s))
    name-empty base f l t h = sym (le-ltb base (name_len (drop at s)) (omega (arith, f t h, name_place)))

    pub word_before : (end : ℕ) {w : ℕ} → (Right Gap s table → at ≤ length s → p ≡ next_from Gap s at) → w ≡ step (drop p s) → Right Gap s table → at ≤ length s
        → ltb (p + w) end ≡ ltb (at + to_word false (characters (drop at s))) end
    word_before end {w} f ew t h =
        ap (λ (n : ℕ). ltb n end) (omega (arith, f t h, ew ∙ ap (λ (n : ℕ). step (drop n s)) (f t h), word_place))
