-- What the functions that write leave on the page.
use mathlib.Core.Path.{◌≡◌, refl, sym, ap, ◌∙◌}
use mathlib.Core.Bool.{Bool, true, false}
use mathlib.Core.List.{[], ◌∷◌, ◌++◌, append_assoc}
use Prim.Native.Nat.{ℕ, zero, suc, ◌+◌, ◌-◌, ◌≤◌, ◌<◌}
use native.Mathlib.Omega.{arith}
use lib.ListN.{length, take, drop, length-drop, drop_of_length-le}
use Rattle.parts.specs.Bytes.{Bytes}
use Rattle.parts.proofs.Laws.{drop-part}
use Rattle.chars.specs.Escape.{escape, escaped_byte}
use Rattle.chars.proofs.Escapes.{escape-append}
use Rattle.words.specs.Words.{words, joined, trim_start, next_word, bytes_of}
use Rattle.words.specs.declared.Set.{Set}
use Rattle.words.specs.declared.Set.TheVariants.{Ascii}
use Rattle.words.specs.declared.Part.{Part}
use Rattle.words.proofs.Places.{end_of, next_start, next_in, next-none, words-nil}
use Rattle.texts.specs.Text.{body_of, spaced, space_if, written}
use Rattle.texts.specs.declared.Normalized.{Normalized}
use Rattle.texts.proofs.Texts.{joined-none, joined-next, spaced-none, spaced-next}
use Rattle.texts.proofs.Told.{spaced-nil}
use Rattle.window.specs.Page.{Page, paint}
use Rattle.window.proofs.Paint.{paint-two}
use Rattle.put_body.specs.Body.{rest_of, shared_len, marked, gap_of}
use Rattle.put_body.specs.Easy.{edged}
use Rattle.put_body.specs.declared.Mark.{Mark}
use Rattle.put_body.specs.declared.Mark.TheVariants.{Nothing, Space, Hard}
use Rattle.put_body.specs.declared.Gap.{Gap}
use Rattle.put_body.proofs.Rest.{rest-nil, body-rest, gap_rest, gap_fits, gap_some, shared-rest}

-- ---- marks

pub mark_nothing : (p : Page) {m : Mark} → m ≡ Nothing → p ≡ paint p (marked m)
unfolding marked paint
mark_nothing p e = rw e

pub mark_space : (p : Page) {q : Page} {m : Mark} → m ≡ Space → q ≡ paint p (32 ∷ []) → q ≡ paint p (marked m)
unfolding marked
mark_space p e eq = rw e eq

pub mark_hard : (p : Page) {q : Page} {m : Mark} → m ≡ Hard → q ≡ paint p (194 ∷ 160 ∷ []) → q ≡ paint p (marked m)
unfolding marked
mark_hard p e eq = rw e eq

-- a mark has no byte that is written by name
marked-plain : (m : Mark) → escape false (marked m) ≡ marked m
unfolding marked escape escaped_byte
marked-plain Nothing = refl
marked-plain Space = refl
marked-plain Hard = refl

-- ---- the rest of a body

pub gap_within : (t : Bytes) {g : Gap} → g ≡ gap_of t → g.len ≤ length t
gap_within t eg = rw eg (gap_fits t)

-- a run and the gap behind it
module _ (s : Bytes) {n : ℕ} {run behind rest : Bytes} {g : Gap} (en : n ≡ shared_len s) (er : run ≡ take n s) (eb : behind ≡ drop n s) (eg : g ≡ gap_of behind)
    (et : rest ≡ take (length behind - g.len) (drop g.len behind)) where
  rest-all : rest ≡ drop g.len behind
  rest-all = et ∙ drop-part behind g.len

  some : 0 < length s → (k : ℕ) → n ≡ k → 0 < n + g.len
  some h zero e =
      let here : behind ≡ s = eb ∙ ap (λ (i : ℕ). drop i s) e in
      omega (arith, ap (λ (f : Gap). f.len) eg, ap (λ (t : Bytes). (gap_of t).len) here, gap_some s h (sym en ∙ e))
  some h (suc k) e = omega arith

  pub rest_less : 0 < length s → length rest < length s
  rest_less h = omega (arith, some h n refl, ap length rest-all, length-drop g.len behind, ap length eb, length-drop n s)

  rest-split : rest_of s ≡ run ++ (marked g.mark ++ rest_of rest)
  rest-split =
      let gap : rest_of behind ≡ marked g.mark ++ rest_of (drop g.len behind) = rw eg (gap_rest behind) in
      shared-rest s ∙ rw (← en, ← er, ← eb) (ap (λ (z : Bytes). run ++ z) (gap ∙ rw (← rest-all)))

  pub rest-turn : (p q : Page) {u w : Page} → q ≡ paint p (escape false run) → u ≡ paint q (marked g.mark)
      → paint p (escape false (rest_of s)) ≡ w → paint u (escape false (rest_of rest)) ≡ w
  rest-turn p q eq eu inv =
      let m : Bytes = marked g.mark in
      let z : Bytes = rest_of rest in
      let whole : escape false (rest_of s) ≡ (escape false run ++ m) ++ escape false z =
      ap (escape false) rest-split ∙ escape-append false run (m ++ z)
      ∙ rw (escape-append false m z, marked-plain g.mark) (sym (append_assoc (escape false run) m (escape false z))) in
      paint-two p (escape false run ++ m) (escape false z) (paint-two p (escape false run) m eq eu) refl ∙ ap (paint p) (sym whole) ∙ inv

pub rest_end : (s : Bytes) {p w : Page} → length s ≡ 0 → paint p (escape false (rest_of s)) ≡ w → p ≡ w
unfolding escape paint
rest_end [] {p} h inv = sym (ap (λ (t : Bytes). paint p (escape false t)) rest-nil) ∙ inv
rest_end (x ∷ s) h inv = absurd (omega arith)

pub body_put : (s : Bytes) (p : Page) {q : Page} {t : Bytes} → t ≡ trim_start Ascii s → q ≡ paint p (escape false (rest_of t)) → q ≡ paint p (escape false (body_of s))
body_put s p et eq = eq ∙ rw (et, body-rest s)

-- ---- edges

pub space_put : (p : Page) {q : Page} {t : Bool} → t ≡ true → q ≡ paint p (32 ∷ []) → q ≡ paint p (space_if t)
unfolding space_if
space_put p e eq = rw e eq

pub space_left : (p : Page) {t : Bool} → t ≡ false → p ≡ paint p (space_if t)
unfolding space_if paint
space_left p e = rw e

space_plain : (t : Bool) → escape false (space_if t) ≡ space_if t
unfolding space_if escape escaped_byte
space_plain true = refl
space_plain false = refl

pub edged_put : (body : Bytes) (n : Normalized) (p q u : Page) {r : Page} → q ≡ paint p (space_if n.lead) → u ≡ paint q body → r ≡ paint u (space_if n.trail) → r ≡ paint p (edged body n)
unfolding edged
edged_put body n p q u eq eu er = paint-two p (space_if n.lead) (body ++ space_if n.trail) eq (paint-two q body (space_if n.trail) eu er)

-- the edges have no byte that is written by name
pub written-escaped : (s : Bytes) (n : Normalized) → escape false (written s n) ≡ edged (escape false (body_of s)) n
unfolding written edged
written-escaped s n =
    escape-append false (space_if n.lead) (body_of s ++ space_if n.trail)
    ∙ rw (escape-append false (body_of s) (space_if n.trail), space_plain n.lead, space_plain n.trail)

pub written_put : (s : Bytes) (n : Normalized) (p q u : Page) {r : Page} → q ≡ paint p (space_if n.lead) → u ≡ paint q (escape false (body_of s))
    → r ≡ paint u (space_if n.trail) → r ≡ paint p (escape false (written s n))
written_put s n p q u eq eu er = edged_put (escape false (body_of s)) n p q u eq eu er ∙ ap (paint p) (sym (written-escaped s n))

-- ---- words

escape_space : (attr : Bool) (s : Bytes) → escape attr (32 ∷ s) ≡ 32 ∷ escape attr s
unfolding escape escaped_byte
escape_space true s = refl
escape_space false s = refl

module _ (set : Set) (attr : Bool) (s : Bytes) where
  module _ (at : ℕ) {w : Part} (ew : w ≡ next_word set s at) where
    pub word_ends : at ≤ length s → w.start + w.len ≤ length s
    word_ends h = rw ew (next_in set s at h)

    pub words_less : at < length s → (w.len ≡ 0 → ⊥) → length s - (w.start + w.len) < length s - at
    words_less h n = let k = rw ew at n in omega (arith, ap (λ (p : Part). p.start) ew, ap (λ (p : Part). p.len) ew, (next_start set s at).1, next_in set s at (omega arith))

    pub words_none_left : {p z : Page} → w.len ≡ 0 → paint p (escape attr (spaced (words set (drop at s)))) ≡ z → p ≡ z
    unfolding escape paint
    words_none_left {p} e inv = sym (ap (λ (t : Bytes). paint p (escape attr t)) (spaced-none set s at (ap (λ (p : Part). p.len) (sym ew) ∙ e))) ∙ inv

    pub words-turn : (p q : Page) {u z : Page} {t : Bytes} → (w.len ≡ 0 → ⊥) → q ≡ paint p (32 ∷ []) → t ≡ take w.len (drop w.start s)
        → u ≡ paint q (escape attr t) → paint p (escape attr (spaced (words set (drop at s)))) ≡ z
        → paint u (escape attr (spaced (words set (drop (w.start + w.len) s)))) ≡ z
    words-turn p q {u} {z} {t} n eq et eu inv =
        let rest : Bytes = spaced (words set (drop (w.start + w.len) s)) in
        let some : 0 < (next_word set s at).len = omega (arith, ap (λ (p : Part). p.len) ew) in
        let next : spaced (words set (drop at s)) ≡ 32 ∷ (t ++ rest) = spaced-next set s at some ∙ rw (et, ew) in
        let whole : escape attr (spaced (words set (drop at s))) ≡ ((32 ∷ []) ++ escape attr t) ++ escape attr rest =
        ap (escape attr) next ∙ escape_space attr (t ++ rest) ∙ ap (λ (y : Bytes). 32 ∷ y) (escape-append attr t rest) in
        paint-two p ((32 ∷ []) ++ escape attr t) (escape attr rest) (paint-two p (32 ∷ []) (escape attr t) eq eu) refl ∙ ap (paint p) (sym whole) ∙ inv

  pub words_end : (at : ℕ) {p z : Page} → length s ≤ at → paint p (escape attr (spaced (words set (drop at s)))) ≡ z → p ≡ z
  unfolding escape paint
  words_end at {p} h inv =
      sym (ap (λ (t : Bytes). paint p (escape attr t)) (ap (λ (t : Bytes). spaced (words set t)) (drop_of_length-le s h) ∙ ap spaced (words-nil set) ∙ spaced-nil)) ∙ inv

  -- the first word, and a space before each other
  joined-first : joined (words set s) ≡ bytes_of s (next_word set s 0) ++ spaced (words set (drop (end_of (next_word set s 0)) s))
  joined-first = go (next_word set s 0).len refl
    where
      go : (k : ℕ) → (next_word set s 0).len ≡ k → joined (words set s) ≡ bytes_of s (next_word set s 0) ++ spaced (words set (drop (end_of (next_word set s 0)) s))
      go zero e =
          let past : drop (end_of (next_word set s 0)) s ≡ [] = drop_of_length-le s {i = end_of (next_word set s 0)} (omega (arith, next-none set s 0 e)) in
          joined-none set s 0 e ∙ sym (rw (past, e, words-nil set) spaced-nil)
      go (suc k) e = joined-next set s 0 (omega (arith, e))

  pub words_put : (p q : Page) {r : Page} {w : Part} {t : Bytes} → w ≡ next_word set s 0 → t ≡ take w.len (drop w.start s) → q ≡ paint p (escape attr t)
      → r ≡ paint q (escape attr (spaced (words set (drop (w.start + w.len) s)))) → r ≡ paint p (escape attr (joined (words set s)))
  words_put p q {r} {w} {t} ew et eq er =
      let rest : Bytes = spaced (words set (drop (w.start + w.len) s)) in
      let whole : escape attr (joined (words set s)) ≡ escape attr t ++ escape attr rest = ap (escape attr) (joined-first ∙ rw (et, ew)) ∙ escape-append attr t rest in
      rw whole (paint-two p (escape attr t) (escape attr rest) eq er)
