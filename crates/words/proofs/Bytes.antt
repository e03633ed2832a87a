-- By ASCII each byte of a text is a character: white space at the front and at the end, byte by byte.
use mathlib.Core.Path.{◌≡◌, refl, sym, ap, ◌∙◌}
use mathlib.Core.Bool.{Bool, true, false}
use mathlib.Core.List.{[], ◌∷◌, ◌++◌, flatten, reverse}
use Rattle.std.proofs.lemmas.List.{reverse-append}
use Prim.Native.Nat.{ℕ, zero, suc, ◌+◌, ◌≤◌}
use native.Mathlib.Omega.{arith}
use lib.ListN.{length, get_or, take, length-append}
use lib.Seq.{take_all, take-suc, length-take-le}
use Rattle.parts.specs.Bytes.{Bytes}
use Rattle.chars.specs.Utf8.{cut_at}
use Rattle.chars.specs.Space.{is_ascii_white}
use Rattle.chars.proofs.Characters.{cut-first}
use Rattle.words.specs.Words.{step_of, chars_of, white, take_while, drop_end, trim_end, white_len}
use Rattle.words.specs.First.{run_of}
use Rattle.words.specs.declared.Set.{Set}
use Rattle.words.specs.declared.Set.TheVariants.{Ascii, Unicode}
use Rattle.words.proofs.Runs.{end_solid, end_passes}
use Rattle.words.proofs.Steps.{size_some}
use Rattle.words.proofs.Texts.{chars_flatten}

-- ---- characters

step_one : (x : ℕ) (s : Bytes) → step_of Ascii (x ∷ s) ≡ 1
unfolding step_of
step_one x s = omega arith

pub ascii_chars : (x : ℕ) (s : Bytes) → chars_of Ascii (x ∷ s) ≡ (x ∷ []) ∷ chars_of Ascii s
unfolding chars_of
ascii_chars x s = let one : step_of Ascii (x ∷ s) ≡ 1 = step_one x s in cut-first (size_some Ascii) (x ∷ s) (omega arith) ∙ rw one

ascii_none : chars_of Ascii [] ≡ []
unfolding chars_of cut_at
ascii_none = refl

ascii_last : (w : Bytes) (x : ℕ) → chars_of Ascii (w ++ (x ∷ [])) ≡ chars_of Ascii w ++ ((x ∷ []) ∷ [])
ascii_last [] x = ascii_chars x [] ∙ rw ascii_none
ascii_last (y ∷ w) x = ascii_chars y (w ++ (x ∷ [])) ∙ rw (ascii_last w x, ascii_chars y w)

-- ---- the front

pub white-more : (x : ℕ) (s : Bytes) → is_ascii_white x ≡ true → white_len Ascii (x ∷ s) ≡ suc (white_len Ascii s)
unfolding white_len take_while white flatten
white-more x s e = rw (ascii_chars x s, e)

pub white-ends : (x : ℕ) (s : Bytes) → is_ascii_white x ≡ false → white_len Ascii (x ∷ s) ≡ 0
unfolding white_len take_while white flatten
white-ends x s e = rw (ascii_chars x s, e)

pub white-none : white_len Ascii [] ≡ 0
unfolding white_len take_while flatten
white-none = rw ascii_none

-- ---- the end

module _ (w : Bytes) (x : ℕ) where
  end_white : is_ascii_white x ≡ true → trim_end Ascii (w ++ (x ∷ [])) ≡ trim_end Ascii w
  unfolding trim_end white
  end_white e = rw (ascii_last w x, end_passes (white Ascii) (chars_of Ascii w) (x ∷ []) e)

  end_whole : is_ascii_white x ≡ false → trim_end Ascii (w ++ (x ∷ [])) ≡ w ++ (x ∷ [])
  unfolding trim_end white
  end_whole e =
      rw (ascii_last w x, end_solid (white Ascii) (chars_of Ascii w) (x ∷ []) e)
      (ap flatten (sym (ascii_last w x)) ∙ chars_flatten Ascii (w ++ (x ∷ [])))

end_nil : length (trim_end Ascii []) ≡ 0
unfolding trim_end drop_end chars_of cut_at flatten
end_nil = refl

-- what is trimmed at the end is the white space that the bytes begin with the other way round
back_step : (w : Bytes) (x n : ℕ) → length w ≡ n → length (trim_end Ascii w) + white_len Ascii (reverse w) ≡ n
    → length (trim_end Ascii (w ++ (x ∷ []))) + white_len Ascii (reverse (w ++ (x ∷ []))) ≡ suc n
back_step w x n l h = rw (reverse-append w (x ∷ [])) (go (is_ascii_white x) refl)
  where
    go : (t : Bool) → is_ascii_white x ≡ t → length (trim_end Ascii (w ++ (x ∷ []))) + white_len Ascii (x ∷ reverse w) ≡ suc n
    go true e = omega (arith, ap length (end_white w x e), white-more x (reverse w) e)
    go false e = omega (arith, ap length (end_whole w x e), white-ends x (reverse w) e, length-append w (x ∷ []))

pub trimmed-back : (s : Bytes) → length (trim_end Ascii s) + white_len Ascii (reverse s) ≡ length s
trimmed-back s = rw (take_all (length s) s (omega arith)) at (go (length s) (omega arith))
  where
    go : (n : ℕ) → n ≤ length s → length (trim_end Ascii (take n s)) + white_len Ascii (reverse (take n s)) ≡ n
    go zero h = omega (arith, end_nil, white-none)
    go (suc n) h =
        rw (take-suc s n 0 (omega arith)) (back_step (take n s) (get_or s n 0) n (length-take-le n s (omega arith)) (go n (omega arith)))

module _ (s : Bytes) where
  -- ---- by either set

  pub white-by : {set v : Set} {r : ℕ} → set ≡ v → r ≡ white_len v s → r ≡ white_len set s
  white-by e er = rw e er

  pub white-run : {set : Set} {r : ℕ} → set ≡ Unicode → r ≡ run_of Unicode true s → r ≡ white_len set s
  unfolding run_of
  white-run e er = rw e er

  pub solid-by : {set v : Set} {r : ℕ} → set ≡ v → r ≡ length (trim_end v s) → r ≡ length (trim_end set s)
  solid-by e er = rw e er
