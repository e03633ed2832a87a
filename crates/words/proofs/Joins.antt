-- Words joined by spaces are read back as they were.
use mathlib.Core.Path.{◌≡◌, refl, sym, ap, ◌∙◌}
use mathlib.Core.Bool.{true}
use mathlib.Core.List.{List, [], ◌∷◌, ◌++◌, flatten, append-nil}
use Prim.Native.Nat.{ℕ, zero, suc, ◌-◌, ◌≤◌, ◌<◌}
use native.Mathlib.Omega.{arith}
use lib.ListN.{length, drop, length-drop}
use lib.Seq.{length-take-le}
use Rattle.parts.specs.Bytes.{Bytes}
use Rattle.chars.specs.Utf8.{every}
use Rattle.chars.proofs.Characters.{cut-first}
use Rattle.words.specs.Words.{step_of, chars_of, white, solid, take_while, pieces, nonempty, words, trim_start, word_len, next_word, joined, bytes_of}
use Rattle.words.specs.declared.Set.{Set}
use Rattle.words.specs.declared.Part.{Part}
use Rattle.words.proofs.Rows.{flatten_append, row-join}
use Rattle.words.proofs.Runs.{every_take_while, words-apart, words-run}
use Rattle.words.proofs.Steps.{size_some, space_apart, space_size, space_white}
use Rattle.words.proofs.Texts.{chars_flatten, chars_row, row_chars, run_chars}
use Rattle.words.proofs.Places.{words-nil, end_of, word_in_lem, next_from_lem, next-len, next_start, next_fits, words-none, words-next}

-- a word: some characters, none of them white space
pub record IsWord (set : Set) (w : Bytes) : Type 0 where
  pub some : 0 < length w
  pub all_solid : every (solid set) (chars_of set w) ≡ true

abbrev pub Each : (Bytes → Type 0) → List Bytes → Type 0
Each P [] = Unit {0}
Each P (w ∷ ws) = P w × Each P ws

module _ (set : Set) where
  -- a space begins a character of its own, and is one
  pub chars_space : (w t : Bytes) → chars_of set (w ++ 32 ∷ t) ≡ chars_of set w ++ chars_of set (32 ∷ t)
  chars_space w t =
      let cs : List Bytes = chars_of set w in
      let ds : List Bytes = chars_of set (32 ∷ t) in
      let e : flatten (cs ++ ds) ≡ w ++ 32 ∷ t = flatten_append cs ds ∙ rw (chars_flatten set w, chars_flatten set (32 ∷ t)) in
      let apart : (x : Bytes) → 0 < length x → step_of set (x ++ flatten ds) ≡ step_of set x = λ x h. rw (chars_flatten set (32 ∷ t)) (space_apart set t x h) in
      sym (ap (chars_of set) e) ∙ row_chars set (row-join (step_of set) cs ds apart (chars_row set w) (chars_row set (32 ∷ t)))

  pub space_chars : (t : Bytes) → chars_of set (32 ∷ t) ≡ (32 ∷ []) ∷ chars_of set t
  unfolding chars_of
  space_chars t = cut-first (size_some set) (32 ∷ t) (omega arith) ∙ rw (space_size set t)

  -- the words of two texts with a space between them
  pub words-spaced : (s t : Bytes) → words set (s ++ 32 ∷ t) ≡ words set s ++ words set t
  unfolding words
  words-spaced s t = rw (chars_space s t, space_chars t) (words-apart (white set) (chars_of set s) (chars_of set t) (32 ∷ []) (space_white set))

  module _ {w : Bytes} (is : IsWord set w) where
    pub word_alone : words set w ≡ w ∷ []
    unfolding words solid take_while pieces nonempty
    word_alone =
        sym (ap (λ (z : List Bytes). nonempty (pieces (white set) z)) (append-nil (chars_of set w)))
        ∙ words-run (white set) (chars_of set w) [] is.all_solid refl
        ∙ rw (chars_flatten set w) (word_in_lem w [] is.some)

    pub word_first : (t : Bytes) → words set (w ++ 32 ∷ t) ≡ w ∷ words set t
    word_first t = words-spaced w t ∙ rw word_alone

  pub words-joined : (ws : List Bytes) → Each (IsWord set) ws → words set (joined ws) ≡ ws
  unfolding joined
  words-joined [] is = words-nil set
  words-joined (w ∷ []) is = word_alone is.0
  words-joined (w ∷ v ∷ ws) is = word_first is.0 (joined (v ∷ ws)) ∙ rw (words-joined (v ∷ ws) is.1)

  next-solid : (s : Bytes) (at : ℕ) → every (solid set) (chars_of set (bytes_of s (next_word set s at))) ≡ true
  unfolding word_len
  next-solid s at =
      let u : Bytes = trim_start set (drop at s) in
      rw (next_from_lem set s at, next-len set s at, run_chars set (solid set) u) (every_take_while (solid set) (chars_of set u))

  next_is : (s : Bytes) (at : ℕ) → 0 < (next_word set s at).len → IsWord set (bytes_of s (next_word set s at))
  next_is s at h =
      let n : Part = next_word set s at in
      let fits : n.len ≤ length (drop n.start s) = omega (arith, next_fits set s at, length-drop n.start s) in
      record { some = omega (arith, length-take-le n.len (drop n.start s) fits); all_solid = next-solid s at }

  -- every word of a text is one
  pub words_are : (s : Bytes) → Each (IsWord set) (words set s)
  words_are s = go (suc (length s)) 0 (omega arith)
    where
      go : (k at : ℕ) → length s - at < k → Each (IsWord set) (words set (drop at s))
      go zero at l = absurd (omega arith)
      go (suc k) at l = by (next_word set s at).len refl (go k (end_of (next_word set s at)))
        where
          by : (n : ℕ) → (next_word set s at).len ≡ n
              → (length s - end_of (next_word set s at) < k → Each (IsWord set) (words set (drop (end_of (next_word set s at)) s)))
              → Each (IsWord set) (words set (drop at s))
          by zero e more = rw (words-none set s at e) tt
          by (suc n) e more =
              let h : 0 < (next_word set s at).len = omega (arith, e) in
              rw (words-next set s at h) (next_is s at h, more (omega (arith, (next_start set s at).1, next_fits set s at)))

  pub words_again : (s : Bytes) → words set (joined (words set s)) ≡ words set s
  words_again s = words-joined (words set s) (words_are s)
