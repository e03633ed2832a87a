-- A body byte by byte: its words joined, and what they add behind a solid byte.
use mathlib.Core.Path.{◌≡◌, refl, sym, ap, ◌∙◌}
use mathlib.Core.Bool.{true, false}
use mathlib.Core.List.{List, [], ◌∷◌, ◌++◌}
use Prim.Native.Nat.{ℕ}
use native.Mathlib.Omega.{arith}
use Rattle.parts.specs.Bytes.{Bytes}
use Rattle.chars.specs.Space.{is_ascii_white}
use Rattle.chars.specs.Utf8.{cut_at}
use Rattle.words.specs.Words.{chars_of, white, onto, pieces, nonempty, words, joined}
use Rattle.words.specs.declared.Set.TheVariants.{Ascii}
use Rattle.words.proofs.Runs.{pieces-some}
use Rattle.words.proofs.Places.{words-nil}
use Rattle.words.proofs.Joins.{IsWord, Each, words_are}
use Rattle.texts.specs.Text.{spaced}
use Rattle.texts.proofs.Texts.{joined-tail}
use Rattle.texts.proofs.Breaks.{onto-first, pieces_step}

-- the body's words, joined; and what they add behind a solid byte
unfoldable pub told : Bytes → Bytes
told s = joined (words Ascii s)

unfoldable pub behind_solid : List Bytes → Bytes
behind_solid [] = []
behind_solid (p ∷ ps) = p ++ spaced (nonempty ps)

unfoldable pub more : Bytes → Bytes
more s = behind_solid (pieces (white Ascii) (chars_of Ascii s))

pub told-nil : told [] ≡ []
unfolding told joined
told-nil = rw (words-nil Ascii)

pub more-nil : more [] ≡ []
unfolding more behind_solid chars_of cut_at pieces nonempty spaced
more-nil = refl

pub told-words : (s : Bytes) → told s ≡ joined (words Ascii s)
unfolding told
told-words s = refl

first-behind : (x : ℕ) (p : Bytes) (ps : List Bytes) → behind_solid ((x ∷ p) ∷ ps) ≡ x ∷ behind_solid (p ∷ ps)
unfolding behind_solid
first-behind x p ps = refl

first_piece : (x : ℕ) (p : Bytes) (ps : List Bytes) → joined (nonempty ((x ∷ p) ∷ ps)) ≡ x ∷ behind_solid (p ∷ ps)
unfolding behind_solid nonempty
first_piece x p ps = joined-tail (x ∷ p) (nonempty ps)

pub told-white : (x : ℕ) (s : Bytes) → is_ascii_white x ≡ true → told (x ∷ s) ≡ told s
unfolding told words nonempty
told-white x s h = rw (pieces_step x s, h)

pub told-solid : (x : ℕ) (s : Bytes) → is_ascii_white x ≡ false → told (x ∷ s) ≡ x ∷ more s
unfolding told words more
told-solid x s h = rw (pieces_step x s, h) (go (pieces (white Ascii) (chars_of Ascii s)) refl)
  where
    go : (q : List Bytes) → pieces (white Ascii) (chars_of Ascii s) ≡ q → joined (nonempty (onto (x ∷ []) q)) ≡ x ∷ behind_solid q
    go [] e = absurd (pieces-some (white Ascii) (chars_of Ascii s) e)
    go (p ∷ ps) e = rw (onto-first x p ps) (first_piece x p ps)

pub more-white : (x : ℕ) (s : Bytes) → is_ascii_white x ≡ true → more (x ∷ s) ≡ spaced (words Ascii s)
unfolding more behind_solid words
more-white x s h = rw (pieces_step x s, h)

pub more-solid : (x : ℕ) (s : Bytes) → is_ascii_white x ≡ false → more (x ∷ s) ≡ x ∷ more s
unfolding more
more-solid x s h = rw (pieces_step x s, h) (go (pieces (white Ascii) (chars_of Ascii s)) refl)
  where
    go : (q : List Bytes) → pieces (white Ascii) (chars_of Ascii s) ≡ q → behind_solid (onto (x ∷ []) q) ≡ x ∷ behind_solid q
    go [] e = absurd (pieces-some (white Ascii) (chars_of Ascii s) e)
    go (p ∷ ps) e = rw (onto-first x p ps) (first-behind x p ps)

pub joined-nil : joined [] ≡ []
unfolding joined
joined-nil = refl

pub spaced-nil : spaced [] ≡ []
unfolding spaced
spaced-nil = refl

pub spaced-joined : (w : Bytes) (ws : List Bytes) → spaced (w ∷ ws) ≡ 32 ∷ joined (w ∷ ws)
unfolding spaced
spaced-joined w ws = rw (joined-tail w ws)

-- a space in front of what there is
abbrev pub lead : Bytes → Bytes
lead [] = []
lead (x ∷ s) = 32 ∷ x ∷ s

pub more-lead : (x : ℕ) (s : Bytes) → is_ascii_white x ≡ true → more (x ∷ s) ≡ lead (told s)
unfolding told
more-lead x s h = more-white x s h ∙ go (words Ascii s) (words_are Ascii s)
  where
    go : (ws : List Bytes) → Each (IsWord Ascii) ws → spaced ws ≡ lead (joined ws)
    go [] is = spaced-nil ∙ sym (ap lead joined-nil)
    go ([] ∷ ws) is = absurd (omega (arith, is.0.some))
    go ((y ∷ w) ∷ ws) is = spaced-joined (y ∷ w) ws ∙ rw (joined-tail (y ∷ w) ws)
