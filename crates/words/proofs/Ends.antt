-- A text that ends with a visible byte of ASCII: nothing is trimmed at its end.
use mathlib.Core.Path.{◌≡◌, sym, ap, ◌∙◌}
use mathlib.Core.Bool.{Bool, true, false}
use mathlib.Core.List.{[], ◌∷◌, ◌++◌, flatten}
use Prim.Native.Nat.{ℕ, ◌+◌, ◌-◌, ◌≤◌, ◌<◌}
use native.Mathlib.Nat.{lt_of_not-le}
use native.Mathlib.Omega.{arith}
use lib.ListN.{length, get_or, take, drop, take-append-drop, drop_of_length-le, get_or-eq_default}
use Rattle.parts.specs.Bytes.{Bytes}
use Rattle.parts.proofs.Laws.{drop_at}
use Rattle.chars.specs.Range.{in_any}
use Rattle.chars.specs.Utf8.{cut_at, is_sequence, code_of, point}
use Rattle.chars.specs.Space.{is_ascii_white}
use Rattle.chars.proofs.Laws.{below, beyond, len_one}
use Rattle.chars.proofs.White.{between_white}
use Rattle.words.specs.Words.{step_of, chars_of, white, trim_end}
use Rattle.words.specs.First.{visible, ends_visible}
use Rattle.words.specs.declared.Set.{Set}
use Rattle.words.specs.declared.Set.TheVariants.{Ascii, Unicode}
use Rattle.words.proofs.Runs.{end_solid}
use Rattle.words.proofs.Steps.{size_some, size_le}
use Rattle.words.proofs.Texts.{chars_flatten, chars_apart}
use Rattle.words.proofs.Turns.{visible_low, visible-ends}

-- ---- the test

module _ (s : Bytes) where
  pub ends-none : length s ≡ 0 → false ≡ ends_visible s
  unfolding ends_visible
  ends-none e = rw (get_or-eq_default s 0 {n = length s - 1} (omega arith)) (visible_low 0 (omega arith))

  pub ends_last : {t : Bool} → t ≡ visible (get_or s (length s - 1) 0) → t ≡ ends_visible s
  unfolding ends_visible
  ends_last et = et

-- ---- a visible byte

byte_chars : (set : Set) (x : ℕ) → chars_of set (x ∷ []) ≡ (x ∷ []) ∷ []
unfolding chars_of cut_at
byte_chars set x =
    let one : step_of set (x ∷ []) ≡ 1 = omega (arith, size_some set (x ∷ []) (omega arith), size_le set (x ∷ [])) in
    rw one

visible-solid : (set : Set) (x : ℕ) → 32 < x → x < 127 → white set (x ∷ []) ≡ false
unfolding white is_ascii_white in_any code_of is_sequence point
visible-solid Ascii x l h =
    simp (beyond 9 10 x (omega arith), beyond 12 13 x (omega arith), beyond 32 32 x (omega arith))
visible-solid Unicode x l h =
    rw (← len_one (x ∷ []) (λ e. omega arith) (omega arith)) (sym (between_white x l (omega arith)))

-- ---- the last byte

last-split : (s : Bytes) → 0 < length s → s ≡ take (length s - 1) s ++ (get_or s (length s - 1) 0 ∷ [])
last-split s h =
    let none : drop (length s - 1 + 1) s ≡ [] = drop_of_length-le s {i = length s - 1 + 1} (omega arith) in
    let one : drop (length s - 1) s ≡ get_or s (length s - 1) 0 ∷ [] = drop_at s (length s - 1) (omega arith) ∙ rw none in
    sym (take-append-drop (length s - 1) s) ∙ rw one

module _ (set : Set) where
  behind-visible : (w : Bytes) (x : ℕ) → 32 < x → x < 127 → trim_end set (w ++ (x ∷ [])) ≡ w ++ (x ∷ [])
  unfolding trim_end
  behind-visible w x l h =
      let e : chars_of set (w ++ (x ∷ [])) ≡ chars_of set w ++ ((x ∷ []) ∷ []) =
      chars_apart set w (x ∷ []) (below 128 191 x (omega arith)) ∙ rw (byte_chars set x) in
      rw (e, end_solid (white set) (chars_of set w) (x ∷ []) (visible-solid set x l h)) (ap flatten (sym e) ∙ chars_flatten set (w ++ (x ∷ [])))

  module _ (s : Bytes) {t : Bool} (et : t ≡ ends_visible s) (h : t ≡ true) where
    abbrev x : ℕ
    x = get_or s (length s - 1) 0

    seen : (32 < x) × (x < 127)
    unfolding ends_visible
    seen = visible-ends x (sym et ∙ h)

    some : 0 < length s
    some = lt_of_not-le (λ (n : length s ≤ 0). omega (arith, seen.0, get_or-eq_default s 0 {n = length s - 1} (omega arith)))

    pub visible_whole : length s ≡ length (trim_end set s)
    visible_whole =
        let e : trim_end set s ≡ s = rw (last-split s some) (behind-visible (take (length s - 1) s) x seen.0 seen.1) in
        ap length (sym e)
