-- Words and trims of a text, by the characters that it is cut into.
use mathlib.Core.Path.{◌≡◌, sym, ap, ◌∙◌}
use mathlib.Core.Bool.{Bool}
use mathlib.Core.List.{List, [], ◌++◌, flatten}
use Prim.Native.Nat.{ℕ, ◌≤◌, ◌<◌}
use native.Mathlib.Omega.{arith}
use lib.ListN.{length, take, drop, length-append}
use lib.Seq.{take-append_seam, drop-append_seam}
use Rattle.parts.specs.Bytes.{Bytes}
use Rattle.chars.proofs.Characters.{cut_whole}
use Rattle.words.specs.Words.{step_of, chars_of, white, solid, take_while, drop_while, drop_end, pieces, nonempty, words, trim_start, trim_end, trim, white_len, word_len}
use Rattle.words.specs.declared.Set.{Set}
use Rattle.words.proofs.Rows.{Row, flatten_append, row_cut, row_whole, row-behind, row_before, row-empty, row-join}
use Rattle.words.proofs.Runs.{word_in, take_drop_while, every_take_while, drop_while_stops, end_split, words-behind, words_before, words-run, none_left}
use Rattle.words.proofs.Steps.{Apart, size_some, size_le, size_steady, step-apart}

module _ (set : Set) where
  -- ---- characters

  pub chars_flatten : (s : Bytes) → flatten (chars_of set s) ≡ s
  unfolding chars_of
  chars_flatten s = cut_whole (size_some set) s

  pub chars_row : (s : Bytes) → Row (step_of set) (chars_of set s)
  unfolding chars_of
  chars_row s = row_cut (step_of set) (size_some set) (size_le set) s

  pub row_chars : {cs : List Bytes} → Row (step_of set) cs → chars_of set (flatten cs) ≡ cs
  unfolding chars_of
  row_chars r = row_whole (step_of set) (size_some set) r

  -- the characters of a text before one that none of them reaches into, and of that
  pub chars_apart : (w t : Bytes) → Apart t → chars_of set (w ++ t) ≡ chars_of set w ++ chars_of set t
  chars_apart w t a =
      ap (chars_of set) (sym whole) ∙ row_chars (row-join (step_of set) (chars_of set w) (chars_of set t) reach (chars_row w) (chars_row t))
    where
      whole : flatten (chars_of set w ++ chars_of set t) ≡ w ++ t
      whole = flatten_append (chars_of set w) (chars_of set t) ∙ rw (chars_flatten w, chars_flatten t)

      reach : (x : Bytes) → 0 < length x → step_of set (x ++ flatten (chars_of set t)) ≡ step_of set x
      reach x h = rw (chars_flatten t) (step-apart set t x a h)

  -- characters in two halves: each half's text is cut into just those
  module _ (s : Bytes) (cs ds : List Bytes) (e : cs ++ ds ≡ chars_of set s) where
    both : Row (step_of set) (cs ++ ds)
    both = rw e (chars_row s)

    halves : s ≡ flatten cs ++ flatten ds
    halves = sym (chars_flatten s) ∙ rw (← e) (flatten_append cs ds)

    pub half_before : chars_of set (flatten cs) ≡ cs
    half_before = row_chars (row_before (step_of set) (size_steady set) cs ds both)

    pub half_behind : chars_of set (flatten ds) ≡ ds
    half_behind = row_chars (row-behind (step_of set) cs ds both)

    pub half_take : take (length (flatten cs)) s ≡ flatten cs
    half_take = rw halves (take-append_seam (flatten cs) (flatten ds))

    pub half_drop : drop (length (flatten cs)) s ≡ flatten ds
    half_drop = rw halves (drop-append_seam (flatten cs) (flatten ds))

    pub half_le : length (flatten cs) ≤ length s
    half_le = omega (arith, ap length halves, length-append (flatten cs) (flatten ds))

  -- ---- runs

  module _ (q : Bytes → Bool) (s : Bytes) where
    -- the bytes of the characters that pass a test, at the front
    abbrev pub run_len : ℕ
    run_len = length (flatten (take_while q (chars_of set s)))

    halved : take_while q (chars_of set s) ++ drop_while q (chars_of set s) ≡ chars_of set s
    halved = take_drop_while q (chars_of set s)

    pub run-le : run_len ≤ length s
    run-le = half_le s (take_while q (chars_of set s)) (drop_while q (chars_of set s)) halved

    pub run_take : take run_len s ≡ flatten (take_while q (chars_of set s))
    run_take = half_take s (take_while q (chars_of set s)) (drop_while q (chars_of set s)) halved

    pub run_drop : drop run_len s ≡ flatten (drop_while q (chars_of set s))
    run_drop = half_drop s (take_while q (chars_of set s)) (drop_while q (chars_of set s)) halved

    pub run_chars : chars_of set (take run_len s) ≡ take_while q (chars_of set s)
    run_chars = rw run_take (half_before s (take_while q (chars_of set s)) (drop_while q (chars_of set s)) halved)

    pub rest_chars : chars_of set (drop run_len s) ≡ drop_while q (chars_of set s)
    rest_chars = rw run_drop (half_behind s (take_while q (chars_of set s)) (drop_while q (chars_of set s)) halved)

    pub run_none : run_len ≡ 0 → take_while q (chars_of set s) ≡ []
    run_none e =
        row-empty (step_of set)
        (row_before (step_of set) (size_steady set) (take_while q (chars_of set s)) (drop_while q (chars_of set s)) (rw halved (chars_row s))) e

  pub white-le : (s : Bytes) → white_len set s ≤ length s
  unfolding white_len
  white-le s = run-le (white set) s

  pub word_le : (s : Bytes) → word_len set s ≤ length s
  unfolding word_len
  word_le s = run-le (solid set) s

  -- ---- trims

  pub trim_start_drop : (s : Bytes) → trim_start set s ≡ drop (white_len set s) s
  unfolding trim_start white_len
  trim_start_drop s = sym (run_drop (white set) s)

  pub trim_start_chars : (s : Bytes) → chars_of set (trim_start set s) ≡ drop_while (white set) (chars_of set s)
  unfolding white_len
  trim_start_chars s = rw (trim_start_drop s) (rest_chars (white set) s)

  pub trim_end_take : (s : Bytes) → trim_end set s ≡ take (length (trim_end set s)) s
  unfolding trim_end
  trim_end_take s = let (es, e, w) = end_split (white set) (chars_of set s) in sym (half_take s (drop_end (white set) (chars_of set s)) es e)

  pub trim_end_chars : (s : Bytes) → chars_of set (trim_end set s) ≡ drop_end (white set) (chars_of set s)
  unfolding trim_end
  trim_end_chars s = let (es, e, w) = end_split (white set) (chars_of set s) in half_before s (drop_end (white set) (chars_of set s)) es e

  pub trim_end_le : (s : Bytes) → length (trim_end set s) ≤ length s
  unfolding trim_end
  trim_end_le s = let (es, e, w) = end_split (white set) (chars_of set s) in half_le s (drop_end (white set) (chars_of set s)) es e

  -- ---- words

  pub words_trim_start : (s : Bytes) → words set (trim_start set s) ≡ words set s
  unfolding words
  words_trim_start s =
      rw (trim_start_chars s)
      (sym (words-behind (white set) (take_while (white set) (chars_of set s)) (drop_while (white set) (chars_of set s)) (every_take_while (white set) (chars_of set s)))
      ∙ rw (take_drop_while (white set) (chars_of set s)))

  pub words_trim_end : (s : Bytes) → words set (trim_end set s) ≡ words set s
  unfolding words
  words_trim_end s =
      let (es, e, w) = end_split (white set) (chars_of set s) in
      rw (trim_end_chars s) (sym (words_before (white set) (drop_end (white set) (chars_of set s)) es w) ∙ rw e)

  pub words-trim : (s : Bytes) → words set (trim set s) ≡ words set s
  unfolding trim
  words-trim s = words_trim_end (trim_start set s) ∙ words_trim_start s

  -- the words of a text, where its first run of other characters ends
  pub words-split : (s : Bytes) → words set s ≡ word_in (take (word_len set s) s) (words set (drop (word_len set s) s))
  unfolding words word_len solid
  words-split s =
      let cs : List Bytes = chars_of set s in
      rw (run_take (solid set) s, rest_chars (solid set) s)
      (sym (ap (λ (z : List Bytes). nonempty (pieces (white set) z)) (take_drop_while (solid set) cs))
      ∙ words-run (white set) (take_while (solid set) cs) (drop_while (solid set) cs) (every_take_while (solid set) cs) (drop_while_stops (solid set) cs))

  -- behind the white space at the front stands a word, or nothing
  pub word_none : (s : Bytes) → word_len set (trim_start set s) ≡ 0 → trim_start set s ≡ []
  unfolding word_len solid flatten
  word_none s e =
      let t : Bytes = trim_start set s in
      let cs : List Bytes = chars_of set t in
      let w : take_while (white set) cs ≡ [] = rw (trim_start_chars s) (drop_while_stops (white set) (chars_of set s)) in
      let n : cs ≡ [] = none_left (white set) cs w (run_none (solid set) t e) in
      sym (chars_flatten t) ∙ ap flatten n
