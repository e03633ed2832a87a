-- Texts by their first byte, and a text that does not end with white space: it is the same whatever stands behind it.
use mathlib.Core.Path.{◌≡◌, refl, sym, ◌∙◌}
use mathlib.Core.Bool.{Bool, true, false, ◌&&◌, ◌||◌, and-false}
use mathlib.Core.List.{[], ◌∷◌}
use Prim.Native.Nat.{ℕ, suc, ◌-◌, ◌<◌}
use native.Mathlib.Omega.{arith}
use lib.ListN.{length, get_or}
use lib.Dec.{leb, ltb}
use borrow.Author.Tests.{ltb-true, lt-leb}
use Rattle.parts.specs.Bytes.{Bytes}
use Rattle.parts.proofs.Laws.{and-true as both_hold}
use Rattle.chars.specs.Range.{in_any, within}
use Rattle.chars.specs.Space.{is_ascii_white}
use Rattle.chars.specs.Utf8.{every, cut_at}
use Rattle.words.specs.Words.{chars_of, white, is_blank_of as blank}
use Rattle.words.specs.declared.Set.TheVariants.{Ascii}
use Rattle.words.proofs.Bytes.{ascii_chars}
use Rattle.texts.specs.Text.{ends_white, blank_lead, normalize_text}

pub blank_step : (x : ℕ) (s : Bytes) → blank Ascii (x ∷ s) ≡ is_ascii_white x && blank Ascii s
unfolding blank every white
blank_step x s = rw (ascii_chars x s)

pub blank_nil : blank Ascii [] ≡ true
unfolding blank every chars_of cut_at
blank_nil = refl

pub blank_space : blank Ascii (32 ∷ []) ≡ true
unfolding is_ascii_white in_any within
blank_space = blank_step 32 [] ∙ blank_nil

-- no byte above the space is white space
pub solid_above : (x : ℕ) → 32 < x → is_ascii_white x ≡ false
unfolding is_ascii_white in_any within
solid_above x h = rw (lt-leb x 10 (omega arith), lt-leb x 13 (omega arith), lt-leb x 32 (omega arith), and-false (leb 9 x), and-false (leb 12 x), and-false (leb 32 x))

first_shows : (s : Bytes) → ltb 32 (get_or s 0 0) ≡ true → blank Ascii s ≡ false
first_shows [] h = absurd (omega (arith, ltb-true 32 0 h))
first_shows (x ∷ s) h = blank_step x s ∙ rw (solid_above x (ltb-true 32 x h))

-- a text with such a byte among its first two is not blank
pub soon_shows : (s : Bytes) → ltb 32 (get_or s 0 0) || ltb 32 (get_or s 1 0) ≡ true → blank Ascii s ≡ false
soon_shows [] h = absurd (omega (arith, ltb-true 32 0 h))
soon_shows (x ∷ s) h = go (ltb 32 x) refl h
  where
    go : (y : Bool) → ltb 32 x ≡ y → y || ltb 32 (get_or s 0 0) ≡ true → blank Ascii (x ∷ s) ≡ false
    go true e h = first_shows (x ∷ s) e
    go false e h = blank_step x s ∙ rw (first_shows s h) (and-false (is_ascii_white x))

-- a blank text that has a byte ends with white space
blank_ends : (x : ℕ) (s : Bytes) → blank Ascii (x ∷ s) ≡ true → is_ascii_white (get_or (x ∷ s) (length (x ∷ s) - 1) 0) ≡ true
blank_ends x [] e = (both_hold (is_ascii_white x) (blank Ascii []) (sym (blank_step x []) ∙ e)).0
blank_ends x (y ∷ s) e =
    let n : length (x ∷ y ∷ s) - 1 ≡ suc (length (y ∷ s) - 1) = omega arith in
    rw n (blank_ends y s (both_hold (is_ascii_white x) (blank Ascii (y ∷ s)) (sym (blank_step x (y ∷ s)) ∙ e)).1)

pub trail_unasked : (s : Bytes) (keepLead a z : Bool) → ends_white s ≡ false → normalize_text s keepLead a ≡ normalize_text s keepLead z
unfolding normalize_text ends_white blank_lead
trail_unasked [] keepLead a z h = rw blank_nil
trail_unasked (x ∷ s) keepLead a z h = go (blank Ascii (x ∷ s)) refl
  where
    go : (y : Bool) → blank Ascii (x ∷ s) ≡ y → normalize_text (x ∷ s) keepLead a ≡ normalize_text (x ∷ s) keepLead z
    go true e = absurd (let no_way : ◌≡◌ {A = ℕ} 0 1 = cc (blank_ends x s e) in omega arith)
    go false e = rw (e, h)
