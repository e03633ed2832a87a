-- What a body goes on with behind a solid byte: a run that it shares with its text, and the gap behind that.
use mathlib.Core.Path.{◌≡◌, refl, sym, ap, ◌∙◌}
use mathlib.Core.Bool.{Bool, true, false, cond, not, ◌&&◌, ◌||◌}
use mathlib.Core.List.{[], ◌∷◌, ◌++◌, flatten}
use Prim.Native.Nat.{ℕ, suc, ◌-◌, ◌≤◌, ◌<◌}
use native.Mathlib.Omega.{arith}
use lib.ListN.{length, take, drop, length-drop}
use lib.Dec.{eqb}
use borrow.Author.Tests.{eqb-true, eqb-false, not-true, not-false}
use Rattle.parts.specs.Bytes.{Bytes, first_at}
use Rattle.parts.proofs.Laws.{first-le}
use Rattle.chars.specs.Range.{in_any, within}
use Rattle.chars.specs.Space.{is_ascii_white}
use Rattle.chars.specs.Utf8.{cut_at}
use Rattle.words.specs.Words.{chars_of, white, take_while, drop_while, trim_start, white_len}
use Rattle.words.specs.declared.Set.TheVariants.{Ascii}
use Rattle.words.proofs.Texts.{chars_flatten, trim_start_drop, white-le}
use Rattle.texts.specs.Text.{hard_spaces, body_of}
use Rattle.texts.proofs.Texts.{hard_tilde, hard-other, hard_space}
use Rattle.words.proofs.Bytes.{ascii_chars}
use Rattle.texts.proofs.Told.{told, more, lead, told-nil, more-nil, told-words, told-solid, told-white, more-solid, more-lead}
use Rattle.put_body.specs.Body.{rest_of, plain, starts_solid, differs, shared_len, marked, gap_white_of, gap_of}
use Rattle.put_body.specs.declared.Gap.{Gap}
use Rattle.put_body.specs.declared.Mark.TheVariants.{Nothing, Space, Hard}

-- ---- byte by byte

letter : is_ascii_white 65 ≡ false
unfolding is_ascii_white in_any within
letter = refl

pub rest_more : (s : Bytes) → rest_of s ≡ hard_spaces (more s)
unfolding rest_of body_of
rest_more s =
    ap (drop 1) (ap hard_spaces (sym (told-words (65 ∷ s)) ∙ told-solid 65 s letter) ∙ hard-other 65 (more s) (λ h. omega arith))

pub rest-nil : rest_of [] ≡ []
unfolding hard_spaces
rest-nil = rest_more [] ∙ rw more-nil

pub plain_both : (x : ℕ) → plain x ≡ true → (is_ascii_white x ≡ false) × (x ≡ 126 → ⊥)
unfolding plain
plain_both x e = go (is_ascii_white x) (eqb x 126) refl refl e
  where
    go : (a z : Bool) → is_ascii_white x ≡ a → eqb x 126 ≡ z → not (a || z) ≡ true → (is_ascii_white x ≡ false) × (x ≡ 126 → ⊥)
    go true z ea ez e = absurd (let no_way : ◌≡◌ {A = ℕ} 0 1 = cc in omega arith)
    go false true ea ez e = absurd (let no_way : ◌≡◌ {A = ℕ} 0 1 = cc in omega arith)
    go false false ea ez e = (ea, eqb-false x 126 ez)

pub rest_plain : (x : ℕ) (s : Bytes) → plain x ≡ true → rest_of (x ∷ s) ≡ x ∷ rest_of s
rest_plain x s e =
    let h = plain_both x e in
    rest_more (x ∷ s) ∙ ap hard_spaces (more-solid x s h.0) ∙ hard-other x (more s) h.1 ∙ rw (rest_more s)

tilde_solid : is_ascii_white 126 ≡ false
unfolding is_ascii_white in_any within
tilde_solid = refl

pub rest_tilde : (s : Bytes) → rest_of (126 ∷ s) ≡ 194 ∷ 160 ∷ rest_of s
rest_tilde s = rest_more (126 ∷ s) ∙ ap hard_spaces (more-solid 126 s tilde_solid) ∙ hard_tilde 126 (more s) refl ∙ rw (rest_more s)

pub rest-white : (x : ℕ) (s : Bytes) → is_ascii_white x ≡ true → rest_of (x ∷ s) ≡ hard_spaces (lead (told s))
rest-white x s e = rest_more (x ∷ s) ∙ ap hard_spaces (more-lead x s e)

-- ---- without white space in front

pub trim-nil : trim_start Ascii [] ≡ []
unfolding trim_start chars_of cut_at drop_while flatten
trim-nil = refl

trim-white : (x : ℕ) (s : Bytes) → is_ascii_white x ≡ true → trim_start Ascii (x ∷ s) ≡ trim_start Ascii s
unfolding trim_start drop_while white
trim-white x s e = rw (ascii_chars x s, e)

pub trim-solid : (x : ℕ) (s : Bytes) → is_ascii_white x ≡ false → trim_start Ascii (x ∷ s) ≡ x ∷ s
unfolding trim_start drop_while white flatten
trim-solid x s e = rw (ascii_chars x s, e) (ap (λ (t : Bytes). x ∷ t) (chars_flatten Ascii s))

-- there the body starts, as it would go on behind a solid byte
told-trim : (s : Bytes) → told s ≡ more (trim_start Ascii s)
told-trim [] = told-nil ∙ sym (ap more trim-nil ∙ more-nil)
told-trim (x ∷ s) = go (is_ascii_white x) refl (told-trim s)
  where
    go : (y : Bool) → is_ascii_white x ≡ y → told s ≡ more (trim_start Ascii s) → told (x ∷ s) ≡ more (trim_start Ascii (x ∷ s))
    go true e h = told-white x s e ∙ h ∙ sym (ap more (trim-white x s e))
    go false e h = told-solid x s e ∙ sym (ap more (trim-solid x s e) ∙ more-solid x s e)

more-some : (s : Bytes) → 0 < length (trim_start Ascii s) → 0 < length (more (trim_start Ascii s))
more-some [] h = absurd (omega (arith, ap length trim-nil))
more-some (x ∷ s) h = go (is_ascii_white x) refl (more-some s)
  where
    go : (y : Bool) → is_ascii_white x ≡ y → (0 < length (trim_start Ascii s) → 0 < length (more (trim_start Ascii s)))
        → 0 < length (more (trim_start Ascii (x ∷ s)))
    go true e f = rw (trim-white x s e) (f (omega (arith, ap length (trim-white x s e))))
    go false e f = omega (arith, ap length (ap more (trim-solid x s e) ∙ more-solid x s e))

pub body-rest : (s : Bytes) → body_of s ≡ rest_of (trim_start Ascii s)
unfolding body_of
body-rest s = ap hard_spaces (sym (told-words s) ∙ told-trim s) ∙ sym (rest_more (trim_start Ascii s))

-- a body behind any plain byte goes on as behind the letter of `rest_of`
pub rest-any : (x : ℕ) (s : Bytes) → plain x ≡ true → body_of (x ∷ s) ≡ x ∷ rest_of s
rest-any x s e = body-rest (x ∷ s) ∙ ap rest_of (trim-solid x s (plain_both x e).0) ∙ rest_plain x s e

lead-some : (t : Bytes) → 0 < length t → lead t ≡ 32 ∷ t
lead-some [] h = absurd (omega arith)
lead-some (x ∷ t) h = refl

nothing : (t : Bytes) → length t ≡ 0 → t ≡ []
nothing [] h = refl
nothing (x ∷ t) h = absurd (omega arith)

-- ---- a gap

module _ (x : ℕ) (s : Bytes) (e : is_ascii_white x ≡ true) where
  -- what is left behind the white space
  abbrev left : Bytes
  left = trim_start Ascii (x ∷ s)

  left-drop : left ≡ drop (white_len Ascii (x ∷ s)) (x ∷ s)
  left-drop = trim_start_drop Ascii (x ∷ s)

  left-told : rest_of (x ∷ s) ≡ hard_spaces (lead (more left))
  left-told = rest-white x s e ∙ ap (λ (t : Bytes). hard_spaces (lead t)) (sym (told-white x s e) ∙ told-trim (x ∷ s))

  gap_ends : length left ≡ 0 → rest_of (x ∷ s) ≡ rest_of left
  unfolding hard_spaces
  gap_ends h =
      let n : left ≡ [] = nothing left h in
      left-told ∙ ap (λ (t : Bytes). hard_spaces (lead (more t))) n ∙ rw more-nil (sym (ap rest_of n ∙ rest-nil))

  gap_goes : 0 < length left → rest_of (x ∷ s) ≡ 32 ∷ rest_of left
  gap_goes h =
      left-told
      ∙ ap hard_spaces (lead-some (more left) (more-some (x ∷ s) h))
      ∙ hard_space (more left)
      ∙ ap (λ (t : Bytes). 32 ∷ t) (sym (rest_more left))

  pub white-rest : rest_of (x ∷ s) ≡ marked (gap_white_of (x ∷ s)).mark ++ rest_of (drop (gap_white_of (x ∷ s)).len (x ∷ s))
  unfolding gap_white_of marked
  white-rest = go (eqb (white_len Ascii (x ∷ s)) (length (x ∷ s))) refl
    where
      n : ℕ
      n = white_len Ascii (x ∷ s)

      left-length : length left ≡ length (x ∷ s) - n
      left-length = ap length left-drop ∙ length-drop n (x ∷ s)

      go : (y : Bool) → eqb n (length (x ∷ s)) ≡ y → rest_of (x ∷ s) ≡ marked (cond y Nothing Space) ++ rest_of (drop n (x ∷ s))
      go true h = gap_ends (omega (arith, left-length, eqb-true n (length (x ∷ s)) h)) ∙ ap rest_of left-drop
      go false h =
          gap_goes (omega (arith, left-length, eqb-false n (length (x ∷ s)) h, white-le Ascii (x ∷ s)))
          ∙ ap (λ (t : Bytes). 32 ∷ rest_of t) left-drop

  pub white-some : 0 < white_len Ascii (x ∷ s)
  unfolding white_len take_while white flatten
  white-some = rw (ascii_chars x s, e) (omega arith)

-- the gap in front, and what follows it
pub gap_rest : (t : Bytes) → rest_of t ≡ marked (gap_of t).mark ++ rest_of (drop (gap_of t).len t)
unfolding gap_of marked
gap_rest [] = refl
gap_rest (x ∷ s) = go (eqb x 126) refl (is_ascii_white x) refl
  where
    go : (y : Bool) → eqb x 126 ≡ y → (z : Bool) → is_ascii_white x ≡ z → rest_of (x ∷ s) ≡ marked (gap_of (x ∷ s)).mark ++ rest_of (drop (gap_of (x ∷ s)).len (x ∷ s))
    go true e z h = let q : x ≡ 126 = eqb-true x 126 e in rw (e) (rw q (rest_tilde s))
    go false e true h = rw (e, h) (white-rest x s h)
    go false e false h = rw (e, h)

pub gap_fits : (t : Bytes) → (gap_of t).len ≤ length t
unfolding gap_of gap_white_of
gap_fits [] = omega arith
gap_fits (x ∷ s) = go (eqb x 126) (is_ascii_white x)
  where
    go : (y z : Bool) → (cond {A = Gap} y (record { mark = Hard; len = 1 }) (cond z (gap_white_of (x ∷ s)) (record { mark = Nothing; len = 0 }))).len ≤ suc (length s)
    go true z = omega arith
    go false true = white-le Ascii (x ∷ s)
    go false false = omega arith

-- ---- a run

pub shared-le : (t : Bytes) → shared_len t ≤ length t
unfolding shared_len
shared-le t = first-le differs t

-- where no run stands in front, a gap does
pub gap_some : (t : Bytes) → 0 < length t → shared_len t ≡ 0 → 0 < (gap_of t).len
unfolding gap_of gap_white_of shared_len first_at differs plain
gap_some [] h e = absurd (omega arith)
gap_some (x ∷ s) h e = go (eqb x 126) (is_ascii_white x) refl e
  where
    go : (y z : Bool) → is_ascii_white x ≡ z
        → ◌≡◌ {A = ℕ} (elim (not (not (z || y) || (eqb x 32 && starts_solid s))) as (λ b. ℕ) [ true ↦ 0 | false ↦ suc (first_at differs s) ]) 0
        → 0 < (cond {A = Gap} y (record { mark = Hard; len = 1 }) (cond z (gap_white_of (x ∷ s)) (record { mark = Nothing; len = 0 }))).len
    go true z ez e = omega arith
    go false true ez e = white-some x s ez
    go false false ez e = absurd (omega arith)

space_white : is_ascii_white 32 ≡ true
unfolding is_ascii_white in_any within
space_white = refl

-- a space before a solid byte is the body's too
rest_space : (s : Bytes) → starts_solid s ≡ true → rest_of (32 ∷ s) ≡ 32 ∷ rest_of s
unfolding starts_solid
rest_space [] e = absurd (let no_way : ◌≡◌ {A = ℕ} 0 1 = cc in omega arith)
rest_space (y ∷ s) e =
    let h : is_ascii_white y ≡ false = not-true (is_ascii_white y) e in
    rest-white 32 (y ∷ s) space_white
    ∙ ap (λ (t : Bytes). hard_spaces (lead t)) (told-solid y s h)
    ∙ hard_space (y ∷ more s)
    ∙ ap (λ (t : Bytes). 32 ∷ t) (ap hard_spaces (sym (more-solid y s h)) ∙ sym (rest_more (y ∷ s)))

pub rest-same : (x : ℕ) (s : Bytes) → differs (x ∷ s) ≡ false → rest_of (x ∷ s) ≡ x ∷ rest_of s
unfolding differs
rest-same x s e = go (plain x) refl (eqb x 32) refl e
  where
    go : (y : Bool) → plain x ≡ y → (z : Bool) → eqb x 32 ≡ z → not (y || (z && starts_solid s)) ≡ false → rest_of (x ∷ s) ≡ x ∷ rest_of s
    go true ey z ez e = rest_plain x s ey
    go false ey true ez e = let q : x ≡ 32 = eqb-true x 32 ez in rw q (rest_space s (not-false (starts_solid s) e))
    go false ey false ez e = absurd (let no_way : ◌≡◌ {A = ℕ} 0 1 = cc in omega arith)

pub shared-rest : (t : Bytes) → rest_of t ≡ take (shared_len t) t ++ rest_of (drop (shared_len t) t)
unfolding shared_len first_at
shared-rest [] = refl
shared-rest (x ∷ s) = go (differs (x ∷ s)) refl (shared-rest s)
  where
    go : (y : Bool) → differs (x ∷ s) ≡ y → rest_of s ≡ take (first_at differs s) s ++ rest_of (drop (first_at differs s) s)
        → rest_of (x ∷ s)
        ≡ take (elim y as (λ b. ℕ) [ true ↦ 0 | false ↦ suc (first_at differs s) ]) (x ∷ s)
        ++ rest_of (drop (elim y as (λ b. ℕ) [ true ↦ 0 | false ↦ suc (first_at differs s) ]) (x ∷ s))
    go true e h = refl
    go false e h = rest-same x s e ∙ ap (λ (t : Bytes). x ∷ t) h
