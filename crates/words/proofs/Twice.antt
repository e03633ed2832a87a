-- A trim leaves nothing for another.
use mathlib.Core.Path.{◌≡◌, refl, sym, ◌∙◌}
use mathlib.Core.List.{[], flatten}
use Rattle.parts.specs.Bytes.{Bytes}
use Rattle.words.specs.Words.{chars_of, white, take_while, drop_while, drop_end, trim_start, trim_end, trim}
use Rattle.words.specs.declared.Set.{Set}
use Rattle.words.proofs.Runs.{drop_while_none, drop_while_stops, end_twice, end_starts}
use Rattle.words.proofs.Texts.{chars_flatten, trim_start_chars, trim_end_chars}

module _ (set : Set) where
  start_kept : (s : Bytes) → take_while (white set) (chars_of set s) ≡ [] → trim_start set s ≡ s
  unfolding trim_start
  start_kept s e = rw (drop_while_none (white set) (chars_of set s) e) (chars_flatten set s)

  pub trim_start_twice : (s : Bytes) → trim_start set (trim_start set s) ≡ trim_start set s
  trim_start_twice s = start_kept (trim_start set s) (rw (trim_start_chars set s) (drop_while_stops (white set) (chars_of set s)))

  pub trim_end_twice : (s : Bytes) → trim_end set (trim_end set s) ≡ trim_end set s
  unfolding trim_end
  trim_end_twice s = opened (trim_end set s) ∙ rw (trim_end_chars set s, end_twice (white set) (chars_of set s)) (sym (opened s))
    where
      opened : (s : Bytes) → trim_end set s ≡ flatten (drop_end (white set) (chars_of set s))
      opened s = refl

  pub trim-twice : (s : Bytes) → trim set (trim set s) ≡ trim set s
  unfolding trim
  trim-twice s =
      let t : Bytes = trim_start set s in
      let stays : take_while (white set) (chars_of set (trim_end set t)) ≡ [] = rw (trim_end_chars set t, trim_start_chars set s) (end_starts (white set) (drop_while (white set) (chars_of set s)) (drop_while_stops (white set) (chars_of set s))) in
      rw (start_kept (trim_end set t) stays) (trim_end_twice t)
