-- Normalized text: edges, and the body written word by word.
use mathlib.Core.Path.{◌≡◌, refl, sym, ap, ◌∙◌}
use mathlib.Core.Bool.{Bool, true, false, cond, ◌&&◌}
use mathlib.Core.List.{List, [], ◌∷◌, ◌++◌, append-nil}
use Prim.Native.Nat.{ℕ, suc, ◌-◌, ◌≤◌, ◌<◌}
use native.Mathlib.Omega.{arith}
use lib.ListN.{length, get_or, take, drop, length-append}
use lib.Dec.{eqb, ltb}
use borrow.Author.Tests.{eq-eqb, ne_eqb, eqb-true, eqb-false, lt-ltb}
use Rattle.parts.specs.Bytes.{Bytes, begins, first_at, find}
use Rattle.chars.specs.Range.{in_any, within}
use Rattle.chars.specs.Space.{is_ascii_white}
use Rattle.words.specs.Words.{words, joined, is_blank_of as blank, next_word, bytes_of}
use Rattle.words.specs.declared.Set.{Set}
use Rattle.words.specs.declared.Set.TheVariants.{Ascii}
use Rattle.words.proofs.Places.{end_of, words-none, words-next}
use Rattle.texts.specs.declared.Normalized.{Normalized}
use Rattle.texts.specs.Text.{hard_spaces, body_of, spaced, body_tail, starts_white, ends_white, blank_lead, normalize_text, space_if, written}
use Rattle.words.proofs.Blank.{blank_words}
use Rattle.words.proofs.Joins.{IsWord, Each, words_are}

-- ---- edges

pub both_true : {a : Bool} (z : Bool) → a ≡ true → z ≡ a && z
both_true z h = rw h

pub both_false : {a : Bool} (z : Bool) → a ≡ false → false ≡ a && z
both_false z h = rw h

module _ (s : Bytes) where
  pub starts_none : length s ≡ 0 → false ≡ starts_white s
  unfolding starts_white is_ascii_white in_any within
  starts_none h = go s h
    where
      go : (s : Bytes) → length s ≡ 0 → false ≡ is_ascii_white (get_or s 0 0)
      go [] h = refl
      go (x ∷ s) h = absurd (omega arith)

  pub starts_some : {r : Bool} → r ≡ is_ascii_white (get_or s 0 0) → r ≡ starts_white s
  unfolding starts_white
  starts_some er = er

  pub ends-none : length s ≡ 0 → false ≡ ends_white s
  unfolding ends_white is_ascii_white in_any within
  ends-none h = go s h
    where
      go : (s : Bytes) → length s ≡ 0 → false ≡ is_ascii_white (get_or s (length s - 1) 0)
      go [] h = refl
      go (x ∷ s) h = absurd (omega arith)

  pub ends_some : {r : Bool} → r ≡ is_ascii_white (get_or s (length s - 1) 0) → r ≡ ends_white s
  unfolding ends_white
  ends_some er = er

module _ (s : Bytes) (keepLead keepTrail : Bool) {y : Bool} (ey : y ≡ blank Ascii s) where
  pub normalized_blank : {r : Bool} → y ≡ true → r ≡ blank_lead s keepLead keepTrail
      → ◌≡◌ {A = Normalized} (record { lead = r; trail = false; shows = r }) (normalize_text s keepLead keepTrail)
  unfolding normalize_text
  normalized_blank h er = rw (← ey, h, er)

  pub normalized-text : {a z l r : Bool} → y ≡ false → a ≡ starts_white s → l ≡ a && keepLead → z ≡ ends_white s → r ≡ z && keepTrail
      → ◌≡◌ {A = Normalized} (record { lead = l; trail = r; shows = true }) (normalize_text s keepLead keepTrail)
  unfolding normalize_text
  normalized-text h ea el ez er = rw (← ey, h, el, ea, er, ez)

-- ---- `~` becomes U+00A0

module _ (x : ℕ) (s : Bytes) where
  pub hard_tilde : x ≡ 126 → hard_spaces (x ∷ s) ≡ 194 ∷ 160 ∷ hard_spaces s
  unfolding hard_spaces
  hard_tilde h = rw (eq-eqb x 126 h, hard_spaces)

  pub hard-other : (x ≡ 126 → ⊥) → hard_spaces (x ∷ s) ≡ x ∷ hard_spaces s
  unfolding hard_spaces
  hard-other h = rw (ne_eqb x 126 h, hard_spaces)

-- a byte is `~` or not
pub by_tilde : {P : Type 0} (x : ℕ) → (x ≡ 126 → P) → ((x ≡ 126 → ⊥) → P) → P
by_tilde {P} x f g = go (eqb x 126) refl
  where
    go : (y : Bool) → eqb x 126 ≡ y → P
    go true e = f (eqb-true x 126 e)
    go false e = g (eqb-false x 126 e)

pub hard-append : (s z : Bytes) → hard_spaces (s ++ z) ≡ hard_spaces s ++ hard_spaces z
unfolding hard_spaces
hard-append [] z = refl
hard-append (x ∷ s) z =
    by_tilde x
    (λ h. hard_tilde x (s ++ z) h ∙ rw (hard-append s z) (sym (ap (λ (a : Bytes). a ++ hard_spaces z) (hard_tilde x s h))))
    (λ h. hard-other x (s ++ z) h ∙ rw (hard-append s z) (sym (ap (λ (a : Bytes). a ++ hard_spaces z) (hard-other x s h))))

pub hard_space : (s : Bytes) → hard_spaces (32 ∷ s) ≡ 32 ∷ hard_spaces s
hard_space s = hard-other 32 s (λ h. omega arith)

pub hard_long : (s : Bytes) → length s ≤ length (hard_spaces s)
unfolding hard_spaces
hard_long [] = omega arith
hard_long (x ∷ s) =
    by_tilde x
    (λ h. omega (arith, ap length (hard_tilde x s h), hard_long s))
    (λ h. omega (arith, ap length (hard-other x s h), hard_long s))

-- up to the first `~` a text is written as it is
pub hard-plain : (s : Bytes) → find (126 ∷ []) s ≡ length s → hard_spaces s ≡ s
unfolding hard_spaces first_at begins
hard-plain [] e = refl
hard-plain (x ∷ s) e = go (eqb 126 x) refl e (hard-plain s)
  where
    go : (y : Bool) → eqb 126 x ≡ y → elim (y && true) as (λ z. ℕ) [ true ↦ 0 | false ↦ suc (find (126 ∷ []) s) ] ≡ suc (length s)
        → (find (126 ∷ []) s ≡ length s → hard_spaces s ≡ s) → hard_spaces (x ∷ s) ≡ x ∷ s
    go true h e more = absurd (omega arith)
    go false h e more = hard-other x s (λ z. eqb-false 126 x h (sym z)) ∙ ap (λ (a : Bytes). x ∷ a) (more (omega arith))

pub hard_at : (s : Bytes) → find (126 ∷ []) s < length s
    → hard_spaces s ≡ take (find (126 ∷ []) s) s ++ (194 ∷ 160 ∷ hard_spaces (drop (suc (find (126 ∷ []) s)) s))
unfolding first_at begins
hard_at [] h = absurd (omega arith)
hard_at (x ∷ s) h = go (eqb 126 x) refl h (hard_at s)
  where
    go : (y : Bool) → eqb 126 x ≡ y → elim (y && true) as (λ z. ℕ) [ true ↦ 0 | false ↦ suc (find (126 ∷ []) s) ] < suc (length s)
        → (find (126 ∷ []) s < length s → hard_spaces s ≡ take (find (126 ∷ []) s) s ++ (194 ∷ 160 ∷ hard_spaces (drop (suc (find (126 ∷ []) s)) s)))
        → hard_spaces (x ∷ s)
        ≡ take (elim (y && true) as (λ z. ℕ) [ true ↦ 0 | false ↦ suc (find (126 ∷ []) s) ]) (x ∷ s)
        ++ (194 ∷ 160 ∷ hard_spaces (drop (suc (elim (y && true) as (λ z. ℕ) [ true ↦ 0 | false ↦ suc (find (126 ∷ []) s) ])) (x ∷ s)))
    go true e h more = hard_tilde x s (sym (eqb-true 126 x e))
    go false e h more = hard-other x s (λ z. eqb-false 126 x e (sym z)) ∙ ap (λ (a : Bytes). x ∷ a) (more (omega arith))

-- ---- words, one by one

pub joined-tail : (w : Bytes) (ws : List Bytes) → joined (w ∷ ws) ≡ w ++ spaced ws
unfolding joined spaced
joined-tail w [] = sym (append-nil w)
joined-tail w (v ∷ ws) = rw (joined-tail v ws)

module _ (set : Set) (s : Bytes) (at : ℕ) where
  -- joined words, from a place on: nothing, or the next word and a space before each other
  pub joined-none : (next_word set s at).len ≡ 0 → joined (words set (drop at s)) ≡ []
  unfolding joined
  joined-none e = rw (words-none set s at e)

  pub joined-next : 0 < (next_word set s at).len
      → joined (words set (drop at s)) ≡ bytes_of s (next_word set s at) ++ spaced (words set (drop (end_of (next_word set s at)) s))
  joined-next h = rw (words-next set s at h) (joined-tail (bytes_of s (next_word set s at)) (words set (drop (end_of (next_word set s at)) s)))

  pub spaced-none : (next_word set s at).len ≡ 0 → spaced (words set (drop at s)) ≡ []
  unfolding spaced
  spaced-none e = rw (words-none set s at e)

  pub spaced-next : 0 < (next_word set s at).len
      → spaced (words set (drop at s)) ≡ 32 ∷ (bytes_of s (next_word set s at) ++ spaced (words set (drop (end_of (next_word set s at)) s)))
  unfolding spaced
  spaced-next h = rw (words-next set s at h)

module _ (s : Bytes) (at : ℕ) where
  -- a body, from a place on: nothing, or the next word's bytes with `~` replaced and what follows it
  pub body-none : (next_word Ascii s at).len ≡ 0 → body_of (drop at s) ≡ []
  unfolding body_of hard_spaces
  body-none e = rw (joined-none Ascii s at e)

  pub body-next : 0 < (next_word Ascii s at).len → body_of (drop at s) ≡ hard_spaces (bytes_of s (next_word Ascii s at)) ++ body_tail (drop (end_of (next_word Ascii s at)) s)
  unfolding body_of body_tail
  body-next h = rw (joined-next Ascii s at h) (hard-append _ _)

  pub tail_none : (next_word Ascii s at).len ≡ 0 → body_tail (drop at s) ≡ []
  unfolding body_tail hard_spaces
  tail_none e = rw (spaced-none Ascii s at e)

  -- a space, the next word and what follows it
  pub tail-next : 0 < (next_word Ascii s at).len
      → body_tail (drop at s) ≡ 32 ∷ (hard_spaces (bytes_of s (next_word Ascii s at)) ++ body_tail (drop (end_of (next_word Ascii s at)) s))
  unfolding body_tail
  tail-next h =
      rw (spaced-next Ascii s at h)
      (hard_space (bytes_of s (next_word Ascii s at) ++ spaced (words Ascii (drop (end_of (next_word Ascii s at)) s)))
      ∙ ap (λ (a : Bytes). 32 ∷ a) (hard-append (bytes_of s (next_word Ascii s at)) (spaced (words Ascii (drop (end_of (next_word Ascii s at)) s)))))

-- ---- what shows

-- words are joined to nothing exactly where there are none
pub joined_blank : (set : Set) (s : Bytes) → blank set s ≡ true → joined (words set s) ≡ []
unfolding joined
joined_blank set s e = rw ((blank_words set s).0 e)

pub joined-some : (set : Set) (s : Bytes) → blank set s ≡ false → 0 < length (joined (words set s))
unfolding joined
joined-some set s e = go (words set s) refl (words_are set s)
  where
    go : (ws : List Bytes) → words set s ≡ ws → Each (IsWord set) ws → 0 < length (joined ws)
    go [] h is = absurd (let no_way : ◌≡◌ {A = ℕ} 0 1 = cc ((blank_words set s).1 h) in omega arith)
    go (w ∷ []) h is = is.0.some
    go (w ∷ v ∷ ws) h is = omega (arith, is.0.some, length-append w (32 ∷ joined (v ∷ ws)))

pub body_blank : (s : Bytes) → blank Ascii s ≡ true → body_of s ≡ []
unfolding body_of hard_spaces
body_blank s e = rw (joined_blank Ascii s e)

pub body-some : (s : Bytes) → blank Ascii s ≡ false → 0 < length (body_of s)
unfolding body_of
body-some s e = omega (arith, joined-some Ascii s e, hard_long (joined (words Ascii s)))

-- `shows` says whether anything is written
pub shows_written : (s : Bytes) (keepLead keepTrail : Bool)
    → (normalize_text s keepLead keepTrail).shows ≡ ltb 0 (length (written s (normalize_text s keepLead keepTrail)))
unfolding normalize_text written space_if
shows_written s keepLead keepTrail = go (blank Ascii s) refl
  where
    by : (l : Bool) → body_of s ≡ [] → l ≡ ltb 0 (length (space_if l ++ (body_of s ++ [])))
    by true e = sym (lt-ltb 0 (length (space_if true ++ (body_of s ++ []))) (omega arith))
    by false e = rw e

    go : (y : Bool) → blank Ascii s ≡ y
        → ◌≡◌ {A = Bool} (cond {A = Normalized} y (record { lead = blank_lead s keepLead keepTrail; trail = false; shows = blank_lead s keepLead keepTrail }) (record { lead = starts_white s && keepLead; trail = ends_white s && keepTrail; shows = true })).shows
        (ltb 0 (length (written s (cond {A = Normalized} y (record { lead = blank_lead s keepLead keepTrail; trail = false; shows = blank_lead s keepLead keepTrail }) (record { lead = starts_white s && keepLead; trail = ends_white s && keepTrail; shows = true })))))
    go true e = by (blank_lead s keepLead keepTrail) (body_blank s e)
    go false e =
        sym (lt-ltb 0 (length (space_if (starts_white s && keepLead) ++ (body_of s ++ space_if (ends_white s && keepTrail))))
        (omega (arith, body-some s e, length-append (space_if (starts_white s && keepLead)) (body_of s ++ space_if (ends_white s && keepTrail)), length-append (body_of s) (space_if (ends_white s && keepTrail)))))
