-- The words of a body, whether there are any, and its edges: a body neither begins nor ends with white space.
use mathlib.Core.Path.{◌≡◌, refl, sym, ap, ◌∙◌}
use mathlib.Core.Bool.{Bool, true, false, not, ◌&&◌}
use mathlib.Core.List.{List, [], ◌∷◌, ◌++◌, map, append_assoc}
use Prim.Native.Nat.{ℕ, suc, ◌-◌, ◌<◌}
use native.Mathlib.Omega.{arith}
use lib.ListN.{length, length-append}
use borrow.Author.Tests.{not-true}
use Rattle.parts.specs.Bytes.{Bytes}
use Rattle.parts.proofs.Laws.{and-true as both_hold}
use Rattle.chars.specs.Range.{in_any, within}
use Rattle.chars.specs.Space.{is_ascii_white}
use Rattle.chars.specs.Utf8.{every}
use Rattle.words.specs.Words.{chars_of, white, solid, words, joined, is_blank_of as blank}
use Rattle.words.specs.declared.Set.TheVariants.{Ascii}
use Rattle.words.proofs.Bytes.{ascii_chars}
use Rattle.words.proofs.Blank.{blank_words}
use Rattle.words.proofs.Joins.{IsWord, Each, words_are, words-joined}
use Rattle.texts.specs.Text.{hard_spaces, body_of, starts_white, ends_white}
use Rattle.texts.proofs.Texts.{hard_tilde, hard-other, by_tilde, hard-append, hard_space, hard_long, body_blank, body-some}

-- ---- words whose `~` have become U+00A0

pub hard-twice : (s : Bytes) → hard_spaces (hard_spaces s) ≡ hard_spaces s
unfolding hard_spaces
hard-twice [] = refl
hard-twice (x ∷ s) =
    by_tilde x
    (λ h. rw (hard_tilde x s h) (hard-other 194 (160 ∷ hard_spaces s) (λ z. omega arith) ∙ ap (λ (a : Bytes). 194 ∷ a) (hard-other 160 (hard_spaces s) (λ z. omega arith) ∙ ap (λ (a : Bytes). 160 ∷ a) (hard-twice s))))
    (λ h. rw (hard-other x s h) (hard-other x (hard_spaces s) h ∙ ap (λ (a : Bytes). x ∷ a) (hard-twice s)))

hard-joined : (ws : List Bytes) → hard_spaces (joined ws) ≡ joined (map hard_spaces ws)
unfolding joined hard_spaces
hard-joined [] = refl
hard-joined (w ∷ []) = refl
hard-joined (w ∷ v ∷ ws) = hard-append w (32 ∷ joined (v ∷ ws)) ∙ rw (hard_space (joined (v ∷ ws)), hard-joined (v ∷ ws))

every-step : (x : ℕ) (s : Bytes) → every (solid Ascii) (chars_of Ascii (x ∷ s)) ≡ not (is_ascii_white x) && every (solid Ascii) (chars_of Ascii s)
unfolding every solid white
every-step x s = rw (ascii_chars x s)

hard-solid : (w : Bytes) → every (solid Ascii) (chars_of Ascii w) ≡ true → every (solid Ascii) (chars_of Ascii (hard_spaces w)) ≡ true
unfolding hard_spaces is_ascii_white in_any within
hard-solid [] e = e
hard-solid (x ∷ w) e =
    let h = both_hold (not (is_ascii_white x)) (every (solid Ascii) (chars_of Ascii w)) (sym (every-step x w) ∙ e) in
    by_tilde x
    (λ z. rw (hard_tilde x w z, every-step 194 (160 ∷ hard_spaces w), every-step 160 (hard_spaces w)) (hard-solid w h.1))
    (λ z. rw (hard-other x w z) (every-step x (hard_spaces w) ∙ rw h.0 (hard-solid w h.1)))

hard-words : (ws : List Bytes) → Each (IsWord Ascii) ws → Each (IsWord Ascii) (map hard_spaces ws)
hard-words [] is = tt
hard-words (w ∷ ws) is = (record { some = omega (arith, is.0.some, hard_long w); all_solid = hard-solid w is.0.all_solid }, hard-words ws is.1)

pub body-words : (s : Bytes) → body_of s ≡ joined (map hard_spaces (words Ascii s))
unfolding body_of
body-words s = hard-joined (words Ascii s)

-- a body has the words of its text, their `~` become U+00A0
pub words_of_body : (s : Bytes) → words Ascii (body_of s) ≡ map hard_spaces (words Ascii s)
words_of_body s = rw (body-words s) (words-joined Ascii (map hard_spaces (words Ascii s)) (hard-words (words Ascii s) (words_are Ascii s)))

-- ---- where there are words

pub two-joined : (v w : Bytes) (vs ws : List Bytes) → joined ((v ∷ vs) ++ (w ∷ ws)) ≡ joined (v ∷ vs) ++ 32 ∷ joined (w ∷ ws)
unfolding joined
two-joined v w [] ws = refl
two-joined v w (u ∷ vs) ws = rw (two-joined u w vs ws) (sym (append_assoc v (32 ∷ joined (u ∷ vs)) (32 ∷ joined (w ∷ ws))))

-- a body is empty where its text is blank, and so without a word, and only there
pub body_shows : (s : Bytes) → 0 < length (body_of s) → blank Ascii s ≡ false
body_shows s h = go (blank Ascii s) refl
  where
    go : (y : Bool) → blank Ascii s ≡ y → y ≡ false
    go true e = absurd (omega (arith, h, ap length (body_blank s e)))
    go false e = refl

pub no_word : (s : Bytes) → words Ascii s ≡ [] → body_of s ≡ []
no_word s e = body_blank s ((blank_words Ascii s).1 e)

pub no_body : (s : Bytes) → body_of s ≡ [] → words Ascii s ≡ []
no_body s e = (blank_words Ascii s).0 (go (blank Ascii s) refl)
  where
    go : (y : Bool) → blank Ascii s ≡ y → y ≡ true
    go true h = refl
    go false h = absurd (omega (arith, body-some s h, ap length e))

-- ---- the edges of a body

-- a word neither begins nor ends with white space
first-solid : (x : ℕ) (w : Bytes) → every (solid Ascii) (chars_of Ascii (x ∷ w)) ≡ true → is_ascii_white x ≡ false
first-solid x w e = not-true (is_ascii_white x) (both_hold (not (is_ascii_white x)) (every (solid Ascii) (chars_of Ascii w)) (sym (every-step x w) ∙ e)).0

last-solid : (x : ℕ) (w : Bytes) → every (solid Ascii) (chars_of Ascii (x ∷ w)) ≡ true → ends_white (x ∷ w) ≡ false
unfolding ends_white
last-solid x [] e = first-solid x [] e
last-solid x (y ∷ w) e =
    let n : length (x ∷ y ∷ w) - 1 ≡ suc (length (y ∷ w) - 1) = omega arith in
    rw n (last-solid y w (both_hold (not (is_ascii_white x)) (every (solid Ascii) (chars_of Ascii (y ∷ w))) (sym (every-step x (y ∷ w)) ∙ e)).1)

-- what stands in front of a text is nothing to its end
pub ends-behind : (s t : Bytes) → 0 < length t → ends_white (s ++ t) ≡ ends_white t
unfolding ends_white
ends-behind [] t h = refl
ends-behind (x ∷ s) t h =
    let n : length (x ∷ (s ++ t)) - 1 ≡ suc (length (s ++ t) - 1) = omega (arith, length-append s t) in
    rw n (ends-behind s t h)

joined_starts : (w : Bytes) (ws : List Bytes) (z : Bytes) → IsWord Ascii w → starts_white (joined (w ∷ ws) ++ z) ≡ false
unfolding joined starts_white
joined_starts [] ws z is = absurd (omega (arith, is.some))
joined_starts (x ∷ w) [] z is = first-solid x w is.all_solid
joined_starts (x ∷ w) (v ∷ ws) z is = first-solid x w is.all_solid

joined_long : (w : Bytes) (ws : List Bytes) → 0 < length w → 0 < length (joined (w ∷ ws))
unfolding joined
joined_long w [] h = h
joined_long w (v ∷ ws) h = omega (arith, h, length-append w (32 ∷ joined (v ∷ ws)))

joined-ends : (w : Bytes) (ws : List Bytes) → Each (IsWord Ascii) (w ∷ ws) → ends_white (joined (w ∷ ws)) ≡ false
unfolding joined
joined-ends [] [] is = absurd (omega (arith, is.0.some))
joined-ends (x ∷ w) [] is = last-solid x w is.0.all_solid
joined-ends w (v ∷ ws) is =
    let t : Bytes = joined (v ∷ ws) in
    ends-behind w (32 ∷ t) (omega arith) ∙ ends-behind (32 ∷ []) t (joined_long v ws is.1.0.some) ∙ joined-ends v ws is.1

-- a body that shows neither begins nor ends with white space
pub body_edges : (s : Bytes) → blank Ascii s ≡ false → ((z : Bytes) → starts_white (body_of s ++ z) ≡ false) × (ends_white (body_of s) ≡ false)
body_edges s h = rw (body-words s) (go (words Ascii s) refl (words_are Ascii s))
  where
    go : (ws : List Bytes) → words Ascii s ≡ ws → Each (IsWord Ascii) ws
        → ((z : Bytes) → starts_white (joined (map hard_spaces ws) ++ z) ≡ false) × (ends_white (joined (map hard_spaces ws)) ≡ false)
    go [] e is = absurd (let no_way : ◌≡◌ {A = ℕ} 0 1 = cc ((blank_words Ascii s).1 e) in omega arith)
    go (w ∷ ws) e is =
        let vs = hard-words (w ∷ ws) is in
        (λ z. joined_starts (hard_spaces w) (map hard_spaces ws) z vs.0, joined-ends (hard_spaces w) (map hard_spaces ws) vs)
