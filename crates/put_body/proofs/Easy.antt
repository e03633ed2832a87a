-- A text that is written as it stands.
use mathlib.Core.Path.{◌≡◌, refl, sym, ap, ◌∙◌}
use mathlib.Core.Bool.{Bool, true, false, not, ◌&&◌, ◌||◌, or-false, or_assoc, and-true}
use mathlib.Core.List.{List, [], ◌∷◌}
use Prim.Native.Nat.{ℕ, zero, suc, ◌+◌, ◌-◌, ◌≤◌, ◌<◌}
use native.Mathlib.Omega.{arith}
use lib.ListN.{length, get_or, take, drop, length-drop, drop_of_length-le}
use lib.Seq.{drop-drop}
use lib.Dec.{eqb, ltb}
use borrow.Author.Tests.{eq-eqb, ne_eqb, eqb-false, ltb-false, le-ltb, not-true}
use Rattle.parts.specs.Bytes.{Bytes}
use Rattle.parts.specs.Pair.{any_pair}
use Rattle.parts.proofs.Laws.{drop_at, drop-part, or_both}
use Rattle.chars.specs.Space.{is_ascii_white}
use Rattle.chars.specs.Escape.{escape, special}
use Rattle.chars.proofs.Escapes.{escaped-plain}
use Rattle.words.specs.Words.{joined, trim_start, trim}
use Rattle.words.specs.declared.Set.TheVariants.{Ascii}
use Rattle.words.proofs.Texts.{words-trim}
use Rattle.texts.specs.Text.{hard_spaces, body_of, has_break, written}
use Rattle.texts.specs.declared.Normalized.{Normalized}
use Rattle.texts.proofs.Breaks.{pair_in, break_pair}
use Rattle.texts.proofs.Edges.{solid_above}
use Rattle.put_body.specs.Body.{rest_of, plain, differs, odd}
use Rattle.put_body.specs.Easy.{hard, any_hard, easy, EasyTo, inner_of, edged}
use Rattle.put_body.proofs.Rest.{rest-nil, rest-same, body-rest, trim-nil, trim-solid}
use Rattle.put_body.proofs.Blocks.{odd-same}
use Rattle.put_body.proofs.Turns.{written-escaped}

-- ---- the scan

pub hard_of : (x y : ℕ) {t : Bool} → t ≡ odd x y → (((t || eqb x 47) || eqb x 60) || eqb x 62) || eqb x 38 ≡ hard x y
unfolding hard
hard_of x y {t} e =
    or_assoc ((t || eqb x 47) || eqb x 60) (eqb x 62) (eqb x 38)
    ∙ or_assoc (t || eqb x 47) (eqb x 60) (eqb x 62 || eqb x 38)
    ∙ or_assoc t (eqb x 47) (eqb x 60 || (eqb x 62 || eqb x 38))
    ∙ rw e

pub hard_here : {x y : ℕ} (v w : ℕ) {t : Bool} → x ≡ v → y ≡ w → t ≡ hard x y → t ≡ hard v w
hard_here v w ex ey et = rw (← ex, ← ey) et

pub hard_high : {x : ℕ} (v y : ℕ) → x ≡ v → 62 < x → eqb x 126 ≡ hard v y
unfolding hard odd
hard_high {x} v y e h =
    rw (← e, le-ltb x 32 (omega arith), ne_eqb x 32 (λ n. omega arith), ne_eqb x 47 (λ n. omega arith), ne_eqb x 60 (λ n. omega arith), ne_eqb x 62 (λ n. omega arith), ne_eqb x 38 (λ n. omega arith))
    (sym (or-false (eqb x 126 || false) ∙ or-false (eqb x 126)))

pub easy_start : (s : Bytes) → EasyTo s 0
easy_start s = record { within = omega arith; rest = refl }

skip : (n : ℕ) (t : Bytes) → suc n ≤ length t → any_pair hard (take (suc n) t) ≡ false → any_hard (drop n t) ≡ any_hard t
unfolding any_pair any_hard
skip zero t h e = refl
skip (suc n) [] h e = absurd (omega arith)
skip (suc n) (x ∷ []) h e = absurd (omega arith)
skip (suc n) (x ∷ y ∷ t) h e =
    let k = or_both (hard x y) (any_pair hard (y ∷ take n t)) e in
    skip n (y ∷ t) (omega arith) k.1 ∙ rw k.0

pub easy_block : (s : Bytes) (i : ℕ) → i + 17 ≤ length s → any_pair hard (take 17 (drop i s)) ≡ false → EasyTo s i → EasyTo s (i + 16)
easy_block s i h e z =
    let on = skip 16 (drop i s) (omega (arith, length-drop i s)) e in
    record { within = omega arith; rest = sym (ap any_hard (drop-drop 16 i s)) ∙ on ∙ z.rest }

module _ (s : Bytes) (i : ℕ) where
  here : i < length s → any_hard (drop i s) ≡ hard (get_or (drop i s) 0 0) (get_or (drop i s) 1 0) || any_hard (drop (i + 1) s)
  unfolding any_hard
  here h = rw (drop_at s i h)

  abbrev part : Bytes
  part = take (length s - i) (drop i s)

  pub each_turn : {t z : Bool} → i < length s → t ≡ hard (get_or part 0 0) (get_or part 1 0) → t ≡ false → any_hard (drop i s) ≡ z → any_hard (drop (i + 1) s) ≡ z
  each_turn h et e inv = sym (here h ∙ rw (← drop-part s i, ← et, e)) ∙ inv

  pub each_stop : {t z : Bool} → i < length s → t ≡ hard (get_or part 0 0) (get_or part 1 0) → t ≡ true → any_hard (drop i s) ≡ z → true ≡ z
  each_stop h et e inv = sym (here h ∙ rw (← drop-part s i, ← et, e)) ∙ inv

  pub each_end : {z : Bool} → length s ≤ i → any_hard (drop i s) ≡ z → false ≡ z
  unfolding any_hard
  each_end h inv = sym (ap any_hard (drop_of_length-le s h)) ∙ inv

module _ (s : Bytes) {x : ℕ} (ex : x ≡ get_or s 0 0) where
  pub easy_space : x ≡ 32 → not (eqb x 32) ≡ easy s
  unfolding easy
  easy_space e = rw (eq-eqb (get_or s 0 0) 32 (sym ex ∙ e), eq-eqb x 32 e)

  pub easy_scan : {i : ℕ} {t : Bool} → (x ≡ 32 → ⊥) → EasyTo s i → t ≡ any_hard (take (length s - i) (drop i s)) → not t ≡ easy s
  unfolding easy
  easy_scan {i} n z et = rw (ne_eqb (get_or s 0 0) 32 (λ e. n (ex ∙ e))) (ap not (et ∙ ap any_hard (drop-part s i) ∙ z.rest))

-- ---- the edges

pub inner_is : (s : Bytes) {r : Bytes} → r ≡ trim Ascii s → r ≡ inner_of s
unfolding inner_of
inner_is s er = er

-- white space there is no part of a body
body-inner : (s : Bytes) → body_of (inner_of s) ≡ body_of s
unfolding body_of inner_of
body-inner s = ap (λ (ws : List Bytes). hard_spaces (joined ws)) (words-trim Ascii s)

-- ---- an easy text is its own body, written as it stands

hard-none : (x y : ℕ) → hard x y ≡ false → (odd x y ≡ false) × (eqb x 47 ≡ false) × (special false x ≡ false)
unfolding hard special
hard-none x y e =
    let h = or_both (odd x y) (eqb x 47 || (eqb x 60 || (eqb x 62 || eqb x 38))) e in
    let k = or_both (eqb x 47) (eqb x 60 || (eqb x 62 || eqb x 38)) h.1 in
    (h.0, k.0, rw (or-false (eqb x 38)) k.1)

-- a byte that is not odd before what follows it, or before the end, stands in the body as it is
same_here : (x : ℕ) (s : Bytes) → odd x (get_or s 0 0) ≡ false → differs (x ∷ s) ≡ false
unfolding odd differs plain
same_here x (y ∷ s) e = odd-same x y s e
same_here x [] e = last e
  where
    last : odd x 0 ≡ false → differs (x ∷ []) ≡ false
    last e =
        let h = or_both (ltb x 32) (eqb x 126 || (eqb x 32 && ltb 0 33)) e in
        let k = or_both (eqb x 126) (eqb x 32 && ltb 0 33) h.1 in
        rw (solid_above x (omega (arith, ltb-false x 32 h.0, eqb-false x 32 (sym (and-true (eqb x 32)) ∙ k.1))), k.0)

module _ (x : ℕ) (s : Bytes) (e : any_hard (x ∷ s) ≡ false) where
  pub both : (hard x (get_or s 0 0) ≡ false) × (any_hard s ≡ false)
  unfolding any_hard
  both = or_both (hard x (get_or s 0 0)) (any_hard s) e

  pub first : (odd x (get_or s 0 0) ≡ false) × (eqb x 47 ≡ false) × (special false x ≡ false)
  first = hard-none x (get_or s 0 0) both.0

rest-easy : (s : Bytes) → any_hard s ≡ false → rest_of s ≡ s
rest-easy [] e = rest-nil
rest-easy (x ∷ s) e = rest-same x s (same_here x s (first x s e).0) ∙ ap (λ (t : Bytes). x ∷ t) (rest-easy s (both x s e).1)

pub escape-easy : (s : Bytes) → any_hard s ≡ false → escape false s ≡ s
unfolding escape
escape-easy [] e = refl
escape-easy (x ∷ s) e = rw (escaped-plain false x (first x s e).2, escape-easy s (both x s e).1)

pub pair-easy : (s : Bytes) → any_hard s ≡ false → pair_in s ≡ false
unfolding pair_in
pair-easy [] e = refl
pair-easy (x ∷ s) e = rw (first x s e).1 (pair-easy s (both x s e).1)

-- no white space stands in front of an easy text
trim-easy : (s : Bytes) → (get_or s 0 0 ≡ 32 → ⊥) → any_hard s ≡ false → trim_start Ascii s ≡ s
unfolding odd
trim-easy [] n e = trim-nil
trim-easy (x ∷ s) n e = trim-solid x s (above (first x s e).0)
  where
    above : odd x (get_or s 0 0) ≡ false → is_ascii_white x ≡ false
    above o = solid_above x (omega (arith, n, ltb-false x 32 (or_both (ltb x 32) (eqb x 126 || (eqb x 32 && ltb (get_or s 0 0) 33)) o).0))

module _ (s : Bytes) (e : easy s ≡ true) where
  pub easy_both : (eqb (get_or s 0 0) 32 ≡ false) × (any_hard s ≡ false)
  unfolding easy
  easy_both = or_both (eqb (get_or s 0 0) 32) (any_hard s) (not-true (eqb (get_or s 0 0) 32 || any_hard s) e)

  pub body-easy : body_of s ≡ s
  body-easy =
      body-rest s ∙ ap rest_of (trim-easy s (eqb-false (get_or s 0 0) 32 easy_both.0) easy_both.1) ∙ rest-easy s easy_both.1

-- ---- a text whose inner part is easy

module _ (s : Bytes) (e : easy (inner_of s) ≡ true) where
  pub easy-body : body_of s ≡ inner_of s
  easy-body = sym (body-inner s) ∙ body-easy (inner_of s) e

  pub easy_whole : has_break (body_of s) ≡ false
  easy_whole = ap has_break easy-body ∙ break_pair (inner_of s) ∙ pair-easy (inner_of s) (easy_both (inner_of s) e).1

  pub easy-written : (n : Normalized) → escape false (written s n) ≡ edged (inner_of s) n
  easy-written n = written-escaped s n ∙ rw (easy-body, escape-easy (inner_of s) (easy_both (inner_of s) e).1)
