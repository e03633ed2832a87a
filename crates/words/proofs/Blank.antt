-- A blank text: no word in it, and nothing left of it by a trim.
use mathlib.Core.Path.{◌≡◌, refl, sym, ap, ◌∙◌}
use mathlib.Core.Logic.{◌↔◌}
use mathlib.Core.Bool.{Bool, true, false}
use mathlib.Core.List.{List, [], ◌∷◌, flatten}
use Prim.Native.Nat.{ℕ, zero, suc}
use native.Mathlib.Omega.{arith}
use lib.ListN.{length}
use lib.Dec.{eqb}
use borrow.Author.Tests.{ne_eqb}
use Rattle.parts.specs.Bytes.{Bytes}
use Rattle.words.specs.Words.{step_of, chars_of, white, take_while, drop_while, words, trim_start, trim, is_blank_of, next_word}
use Rattle.words.specs.declared.Set.{Set}
use Rattle.words.proofs.Rows.{row-behind, row-empty}
use Rattle.words.proofs.Runs.{take_drop_while, drop_while_all, all_drop_while}
use Rattle.words.proofs.Texts.{chars_row, trim_end_le, word_none, words_trim_start, words-trim}
use Rattle.words.proofs.Places.{words-nil, next-len, words-next}

nothing : (s : Bytes) → length s ≡ 0 → s ≡ []
nothing [] e = refl
nothing (x ∷ s) e = absurd (omega arith)

module _ (set : Set) (s : Bytes) where
  blank_start : is_blank_of set s ≡ true → trim_start set s ≡ []
  unfolding is_blank_of trim_start flatten
  blank_start e = rw (drop_while_all (white set) (chars_of set s) e)

  start_blank : length (trim_start set s) ≡ 0 → is_blank_of set s ≡ true
  unfolding is_blank_of trim_start
  start_blank e =
      let cs : List Bytes = chars_of set s in
      all_drop_while (white set) cs
      (row-empty (step_of set)
      (row-behind (step_of set) (take_while (white set) cs) (drop_while (white set) cs) (rw (take_drop_while (white set) cs) (chars_row set s))) e)

  -- what the code tests: that nothing is left behind the white space
  pub blank_found : {r : Bytes} → r ≡ trim_start set s → eqb (length r) 0 ≡ is_blank_of set s
  blank_found er = rw er (go (is_blank_of set s) refl)
    where
      go : (t : Bool) → is_blank_of set s ≡ t → eqb (length (trim_start set s)) 0 ≡ t
      go true e = rw (blank_start e)
      go false e = ne_eqb (length (trim_start set s)) 0 (λ h. let no_way : ◌≡◌ {A = ℕ} 0 1 = cc (start_blank h) in omega arith)

  pub blank_words : is_blank_of set s ≡ true ↔ words set s ≡ []
  blank_words = (λ e. sym (words_trim_start set s) ∙ ap (words set) (blank_start e) ∙ words-nil set, λ e. go (next_word set s 0).len refl e)
    where
      go : (k : ℕ) → (next_word set s 0).len ≡ k → words set s ≡ [] → is_blank_of set s ≡ true
      go zero n e = start_blank (ap length (word_none set s (sym (next-len set s 0) ∙ n)))
      go (suc k) n e = absurd (omega (arith, ap length (words-next set s 0 (omega (arith, n))), ap length e))

  pub blank_trim : is_blank_of set s ≡ true ↔ trim set s ≡ []
  unfolding trim
  blank_trim = (
    λ e. nothing (trim set s) (omega (arith, trim_end_le set (trim_start set s), ap length (blank_start e))),
    λ e. blank_words.1 (sym (words-trim set s) ∙ ap (words set) e ∙ words-nil set),
  )
