-- Words as parts of a text: where they stand, and that none is passed over.
use mathlib.Core.Path.{◌≡◌, refl, sym, ap, ◌∙◌}
use mathlib.Core.Logic.{◌↔◌}
use mathlib.Core.List.{List, [], ◌∷◌}
use Prim.Native.Nat.{ℕ, zero, suc, ◌+◌, ◌-◌, ◌≤◌, ◌<◌}
use native.Mathlib.Omega.{arith}
use lib.ListN.{length, get_or, drop, length-drop, drop_of_length-le}
use lib.Seq.{drop-drop, length-take-le}
use Rattle.parts.specs.Bytes.{Bytes}
use Rattle.chars.specs.Utf8.{cut_at}
use Rattle.words.specs.Words.{chars_of, words, trim_start, white_len, word_len, word_from, next_word, nth_word, pieces, nonempty, bytes_of}
use Rattle.words.specs.declared.Set.{Set}
use Rattle.words.specs.declared.Part.{Part}
use Rattle.words.proofs.Runs.{word_in}
use Rattle.words.proofs.Texts.{white-le, word_le, trim_start_drop, words_trim_start, words-split, word_none}

-- where a part ends
abbrev pub end_of : Part → ℕ
end_of p = p.start + p.len

pub word_in_lem : (w : Bytes) (ws : List Bytes) → 0 < length w → word_in w ws ≡ w ∷ ws
word_in_lem [] ws h = absurd (omega arith)
word_in_lem (x ∷ w) ws h = refl

module _ (set : Set) where
  white-nil : white_len set [] ≡ 0
  white-nil = omega (arith, white-le set [])

  word_nil : word_len set [] ≡ 0
  word_nil = omega (arith, word_le set [])

  pub words-nil : words set [] ≡ []
  unfolding words chars_of cut_at pieces nonempty
  words-nil = refl

  module _ (s : Bytes) (at : ℕ) where
    -- from the start of the next word on
    pub next_from_lem : drop (next_word set s at).start s ≡ trim_start set (drop at s)
    unfolding next_word word_from
    next_from_lem = sym (drop-drop (white_len set (drop at s)) at s) ∙ sym (trim_start_drop set (drop at s))

    pub next-len : (next_word set s at).len ≡ word_len set (trim_start set (drop at s))
    unfolding next_word
    next-len = ap (word_len set) next_from_lem

    pub next_start : (at ≤ length s → (next_word set s at).start ≤ length s) × (at ≤ (next_word set s at).start)
    unfolding next_word word_from
    next_start = (λ h. omega (arith, white-le set (drop at s), length-drop at s), omega arith)

    pub next_fits : (next_word set s at).len ≤ length s - (next_word set s at).start
    unfolding next_word word_from
    next_fits = let i : ℕ = (next_word set s at).start in omega (arith, word_le set (drop i s), length-drop i s)

    pub next_in : at ≤ length s → end_of (next_word set s at) ≤ length s
    next_in h = omega (arith, next_start.0 h, next_fits)

    -- past the end there is none
    pub next_past : length s ≤ at → next_word set s at ≡ record { start = at; len = 0 }
    unfolding next_word word_from
    next_past h =
        let e : drop at s ≡ [] = drop_of_length-le s h in
        let w : at + white_len set (drop at s) ≡ at = rw e (omega (arith, white-nil)) in
        rw (w, e, word_nil)

    -- where there is none, the text ends
    pub next-none : (next_word set s at).len ≡ 0 → length s ≤ (next_word set s at).start
    next-none e =
        let i : ℕ = (next_word set s at).start in
        omega (arith, length-drop i s, ap length (next_from_lem ∙ word_none set (drop at s) (sym next-len ∙ e)))

    words_at : words set (drop at s) ≡ word_in (bytes_of s (next_word set s at)) (words set (drop (end_of (next_word set s at)) s))
    words_at =
        let n : Part = next_word set s at in
        rw (← drop-drop n.len n.start s, next_from_lem, next-len)
        (sym (words_trim_start set (drop at s)) ∙ words-split set (trim_start set (drop at s)))

    pub words-none : (next_word set s at).len ≡ 0 → words set (drop at s) ≡ []
    words-none e =
        sym (words_trim_start set (drop at s)) ∙ ap (words set) (word_none set (drop at s) (sym next-len ∙ e)) ∙ words-nil

    pub words-next : 0 < (next_word set s at).len
        → words set (drop at s) ≡ bytes_of s (next_word set s at) ∷ words set (drop (end_of (next_word set s at)) s)
    words-next h =
        let n : Part = next_word set s at in
        words_at
        ∙ word_in_lem (bytes_of s n) (words set (drop (end_of n) s))
        (omega (arith, length-take-le n.len (drop n.start s) (omega (arith, next_fits, length-drop n.start s))))

  module _ (s : Bytes) where
    -- behind the last word there is none, however many are asked for
    pub nth_none : (n at : ℕ) → (next_word set s at).len ≡ 0 → nth_word set s at n ≡ next_word set s at
    unfolding nth_word
    nth_none zero at e = refl
    nth_none (suc n) at e =
        let i : ℕ = (next_word set s at).start in
        let past : next_word set s i ≡ record { start = i; len = 0 } = next_past s i (next-none s at e) in
        let end : end_of (next_word set s at) ≡ i = omega (arith, e) in
        let none : (next_word set s i).len ≡ 0 = ap (λ (p : Part). p.len) past in
        rw end (nth_none n i none ∙ past ∙ ap (λ (k : ℕ). record { start = i; len = k }) (sym e))

    pub nth_bytes : (n at : ℕ) → bytes_of s (nth_word set s at n) ≡ get_or (words set (drop at s)) n []
    unfolding nth_word
    nth_bytes zero at = go (next_word set s at).len refl
      where
        go : (k : ℕ) → (next_word set s at).len ≡ k → bytes_of s (next_word set s at) ≡ get_or (words set (drop at s)) 0 []
        go zero e = rw (e, words-none s at e)
        go (suc k) e = rw (words-next s at (omega (arith, e)))
    nth_bytes (suc n) at = go (next_word set s at).len refl (nth_bytes n (end_of (next_word set s at)))
      where
        go : (k : ℕ) → (next_word set s at).len ≡ k
            → bytes_of s (nth_word set s (end_of (next_word set s at)) n) ≡ get_or (words set (drop (end_of (next_word set s at)) s)) n []
            → bytes_of s (nth_word set s (end_of (next_word set s at)) n) ≡ get_or (words set (drop at s)) (suc n) []
        go zero e h = rw (words-none s at e, nth_none (suc n) at e, e)
        go (suc k) e h = rw (words-next s at (omega (arith, e))) h

    -- its length is 0 exactly where there are no more than so many
    pub nth_len : (n at : ℕ) → (nth_word set s at n).len ≡ 0 ↔ length (words set (drop at s)) ≤ n
    unfolding nth_word
    nth_len zero at = go (next_word set s at).len refl
      where
        go : (k : ℕ) → (next_word set s at).len ≡ k → (next_word set s at).len ≡ 0 ↔ length (words set (drop at s)) ≤ 0
        go zero e = (λ h. omega (arith, ap length (words-none s at e)), λ h. e)
        go (suc k) e = (λ h. absurd (omega (arith, e)), λ h. absurd (omega (arith, ap length (words-next s at (omega (arith, e))))))
    nth_len (suc n) at = go (next_word set s at).len refl (nth_len n (end_of (next_word set s at)))
      where
        go : (k : ℕ) → (next_word set s at).len ≡ k
            → ((nth_word set s (end_of (next_word set s at)) n).len ≡ 0 ↔ length (words set (drop (end_of (next_word set s at)) s)) ≤ n)
            → (nth_word set s (end_of (next_word set s at)) n).len ≡ 0 ↔ length (words set (drop at s)) ≤ suc n
        go zero e (f, g) = (λ h. omega (arith, ap length (words-none s at e)), λ h. ap (λ (p : Part). p.len) (nth_none (suc n) at e) ∙ e)
        go (suc k) e (f, g) =
            let l = ap length (words-next s at (omega (arith, e))) in
            (λ h. omega (arith, l, f h), λ h. g (omega (arith, l)))
