-- The size of a first character: within its text, and settled by its own bytes.
use mathlib.Core.Path.{◌≡◌, refl, sym, ap, ◌∙◌}
use mathlib.Core.Bool.{true, false}
use mathlib.Core.List.{[], ◌∷◌, ◌++◌}
use Prim.Native.Nat.{ℕ, ◌≤◌, ◌<◌, max}
use native.Mathlib.Nat.{lt_of_not-le}
use native.Mathlib.Omega.{arith}
use lib.ListN.{length, get_or, take, length-append}
use lib.Seq.{take-append_seam, get_or-append-add}
use Rattle.parts.specs.Bytes.{Bytes}
use Rattle.chars.specs.Range.{within, in_any}
use Rattle.chars.specs.Utf8.{tail, fits, row_len, table37, seq_len, step, code_of, is_sequence, point}
use Rattle.chars.specs.Space.{is_white, is_ascii_white, white_space}
use Rattle.chars.proofs.Characters.{step-some, step-le, seq_take, seq_inner}
use Rattle.words.specs.Words.{step_of, white}
use Rattle.words.specs.declared.Set.{Set}
use Rattle.words.specs.declared.Set.TheVariants.{Ascii, Unicode}
use Rattle.words.proofs.Rows.{Some, Inside, Steady}

pub size_some : (set : Set) → Some (step_of set)
unfolding step_of
size_some Ascii s h = omega arith
size_some Unicode s h = step-some s h

pub size_le : (set : Set) → Inside (step_of set)
unfolding step_of
size_le Ascii s = omega arith
size_le Unicode s = step-le s

step_steady : Steady step
unfolding step
step_steady [] t h l = absurd (omega arith)
step_steady (x ∷ s) t h l =
    let e : take (length (x ∷ s)) (x ∷ (s ++ t)) ≡ x ∷ s = take-append_seam (x ∷ s) t in
    ap (max 1) (sym (ap seq_len e) ∙ seq_take (length (x ∷ s)) (x ∷ (s ++ t)) (omega arith))

pub size_steady : (set : Set) → Steady (step_of set)
unfolding step_of
size_steady Ascii s t h l = omega (arith, length-append s t)
size_steady Unicode s t h l = step_steady s t h l

-- ---- a text that no character before it reaches into

-- it begins with none of 80..BF
abbrev pub Apart : Bytes → Type 0
Apart t = within tail (get_or t 0 0) ≡ false

seq_apart : (w t : Bytes) → Apart t → 0 < length w → seq_len (w ++ t) ≤ length w
seq_apart w t a h = omega (arith, lt_of_not-le longer)
  where
    longer : length w < seq_len (w ++ t) → ⊥
    longer l =
        let at : get_or (w ++ t) (length w) 0 ≡ get_or t 0 0 = ap (λ (n : ℕ). get_or (w ++ t) n 0) (omega arith) ∙ get_or-append-add w t 0 0 in
        let no_way : ◌≡◌ {A = ℕ} 0 1 = cc (seq_inner (w ++ t) (length w) h l, at, a) in
        omega arith

step-within : (w t : Bytes) → Apart t → 0 < length w → step (w ++ t) ≤ length w
unfolding step
step-within [] t a h = absurd (omega arith)
step-within (x ∷ w) t a h = omega (arith, seq_apart (x ∷ w) t a h)

pub step-apart : (set : Set) (t w : Bytes) → Apart t → 0 < length w → step_of set (w ++ t) ≡ step_of set w
unfolding step_of
step-apart set t w a h = sym (size_steady set w t h (go set))
  where
    go : (set : Set) → step_of set (w ++ t) ≤ length w
    go Ascii = omega arith
    go Unicode = step-within w t a h

-- ---- a space

-- no character before a space reaches into it, however broken
pub space_apart : (set : Set) (t w : Bytes) → 0 < length w → step_of set (w ++ 32 ∷ t) ≡ step_of set w
unfolding within
space_apart set t w h = step-apart set (32 ∷ t) w refl h

pub space_size : (set : Set) (t : Bytes) → step_of set (32 ∷ t) ≡ 1
unfolding step_of step seq_len table37 row_len fits within
space_size Ascii t = omega arith
space_size Unicode t = refl

pub space_white : (set : Set) → white set (32 ∷ []) ≡ true
unfolding white is_ascii_white is_white white_space in_any within code_of is_sequence seq_len table37 row_len fits point
space_white Ascii = refl
space_white Unicode = refl
