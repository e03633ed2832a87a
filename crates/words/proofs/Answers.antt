-- What each function answers, from what it called; the loops over words.
use mathlib.Core.Path.{◌≡◌, refl, sym, ap, ◌∙◌}
use mathlib.Core.List.{List, [], ◌∷◌}
use Prim.Native.Nat.{ℕ, zero, suc, ◌+◌, ◌-◌, ◌≤◌, ◌<◌, max}
use native.Mathlib.Omega.{arith}
use lib.ListN.{length, get_or, take, drop, length-drop}
use lib.Seq.{drop-drop}
use Rattle.parts.specs.Bytes.{Bytes}
use Rattle.words.specs.Words.{words, trim_start, trim_end, trim, white_len, word_len, word_from, after_word, last_of, next_word, nth_word, bytes_of}
use Rattle.words.specs.declared.Set.{Set}
use Rattle.words.specs.declared.Part.{Part}
use Rattle.words.proofs.Texts.{white-le, trim_start_drop, trim_end_take}
use Rattle.words.proofs.Places.{end_of, next_from_lem, next_start, next_in, words-none, words-next, nth_none, nth_bytes}

module _ (set : Set) (s : Bytes) where
  -- ---- trims

  pub start_trimmed : {n : ℕ} {r : Bytes} → n ≡ white_len set s → r ≡ drop n s → r ≡ trim_start set s
  start_trimmed en er = er ∙ rw en (sym (trim_start_drop set s))

  pub end_trimmed : {n : ℕ} {r : Bytes} → n ≡ length (trim_end set s) → r ≡ take n s → r ≡ trim_end set s
  end_trimmed en er = er ∙ rw en (sym (trim_end_take set s))

  pub trimmed : {t r : Bytes} → t ≡ trim_start set s → r ≡ trim_end set t → r ≡ trim set s
  unfolding trim
  trimmed et er = er ∙ rw et

  -- ---- the next word

  module _ (at : ℕ) {r : Bytes} {n : ℕ} (er : r ≡ drop at s) (en : n ≡ white_len set r) where
    pub start_fits : at + n ≤ max at (length s)
    start_fits = omega (arith, ap length er, length-drop at s, white-le set r)

    pub next-found : {u : Bytes} {l : ℕ} → u ≡ drop (at + n) s → l ≡ word_len set u → record { start = at + n; len = l } ≡ next_word set s at
    unfolding next_word word_from
    next-found eu el = rw (el, eu, en, er)

  pub next-ends : (at : ℕ) {p : Part} → p ≡ next_word set s at → at ≤ length s → p.start + p.len ≤ length s
  next-ends at e h = rw e (next_in set s at h)

  module _ {p : Part} (ep : p ≡ next_word set s 0) where
    pub first_found : {r : Bytes} → r ≡ bytes_of s p → r ≡ get_or (words set s) 0 []
    unfolding nth_word
    first_found er = er ∙ rw ep (nth_bytes set s 0 0)

    pub after-found : {r : Bytes} → r ≡ drop (p.start + p.len) s → r ≡ after_word set s
    unfolding after_word next_word
    after-found er =
        let n : Part = next_word set s 0 in
        er ∙ rw ep (sym (drop-drop n.len n.start s) ∙ rw (next_from_lem set s 0))

  -- ---- the word that n others precede

  -- a word in hand, and how many are still to be passed
  pub record Passing (n : ℕ) (word : Part) (left : ℕ) : Type 0 where
    pub at : ℕ
    pub here : word ≡ next_word set s at
    pub inside : at ≤ length s
    pub same : nth_word set s at left ≡ nth_word set s 0 n

  nth_step : (at k : ℕ) → 0 < k → nth_word set s at k ≡ nth_word set s (end_of (next_word set s at)) (k - 1)
  unfolding nth_word
  nth_step at zero h = absurd (omega arith)
  nth_step at (suc k) h = let e : suc k - 1 ≡ k = omega arith in rw e

  nth_zero : (at k : ℕ) → k ≤ 0 → nth_word set s at k ≡ next_word set s at
  unfolding nth_word
  nth_zero at zero h = refl
  nth_zero at (suc k) h = absurd (omega arith)

  module _ {n left : ℕ} {p : Part} (h : Passing n p left) where
    pub nth_missing : p.len ≡ 0 → p ≡ nth_word set s 0 n
    nth_missing e = h.here ∙ sym (nth_none set s left h.at (ap (λ (p : Part). p.len) (sym h.here) ∙ e)) ∙ h.same

    pub nth_turn : 0 < left → {q : Part} → q ≡ next_word set s (p.start + p.len) → Passing n q (left - 1)
    nth_turn l e = record { at = p.start + p.len; here = e; inside = next-ends h.at h.here h.inside; same = rw h.here (sym (nth_step h.at left l) ∙ h.same) }

    pub nth_found : left ≤ 0 → p ≡ nth_word set s 0 n
    nth_found l = h.here ∙ sym (nth_zero h.at left l) ∙ h.same

  -- ---- the last word

  pub record Passed (last next : Part) : Type 0 where
    pub at : ℕ
    pub here : next ≡ next_word set s at
    pub inside : at ≤ length s
    pub same : last_of (bytes_of s last ∷ words set (drop at s)) ≡ last_of (words set s)

  last_none : (ws : List Bytes) → last_of (get_or ws 0 [] ∷ ws) ≡ last_of ws
  unfolding last_of
  last_none [] = refl
  last_none (w ∷ ws) = refl

  pub last_starts : {p : Part} → p ≡ next_word set s 0 → Passed p p
  last_starts e = record { at = 0; here = e; inside = omega arith; same = rw (first_found e refl) (last_none (words set s)) }

  module _ {last p : Part} (h : Passed last p) where
    pub last_turn : 0 < p.len → {q : Part} → q ≡ next_word set s (p.start + p.len) → Passed p q
    unfolding last_of
    last_turn l {q} e = record { at = p.start + p.len; here = e; inside = next-ends h.at h.here h.inside; same = passed }
      where
        ws : List Bytes
        ws = words set (drop (p.start + p.len) s)

        words_here : words set (drop h.at s) ≡ bytes_of s p ∷ ws
        words_here = rw h.here (words-next set s h.at (rw h.here at l))

        passed : last_of (bytes_of s p ∷ ws) ≡ last_of (words set s)
        passed = sym (ap (λ (z : List Bytes). last_of (bytes_of s last ∷ z)) words_here) ∙ h.same

    pub last_less : 0 < p.len → {q : Part} → q ≡ next_word set s (p.start + p.len) → length s - q.start < length s - p.start
    last_less l e = omega (arith, next-ends h.at h.here h.inside, ap (λ (p : Part). p.start) e, (next_start set s (p.start + p.len)).1)

    pub last_found : p.len ≤ 0 → {r : Bytes} → r ≡ bytes_of s last → r ≡ last_of (words set s)
    unfolding last_of
    last_found l er =
        let e : (next_word set s h.at).len ≡ 0 = omega (arith, ap (λ (p : Part). p.len) h.here) in
        er ∙ sym (ap (λ (z : List Bytes). last_of (bytes_of s last ∷ z)) (words-none set s h.at e)) ∙ h.same
