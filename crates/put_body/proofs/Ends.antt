-- One turn of each loop over the characters of a text.
use mathlib.Core.Path.{◌≡◌, refl, sym, ap, ◌∙◌}
use mathlib.Core.Bool.{Bool, true, false, not, cond}
use mathlib.Core.List.{List, [], ◌∷◌, flatten}
use Prim.Native.Nat.{ℕ, zero, suc, ◌+◌, ◌-◌, ◌≤◌, ◌<◌}
use native.Mathlib.Omega.{arith}
use lib.ListN.{length, get_or, take, drop, length-append, length-drop, drop_of_length-le}
use lib.Seq.{length-take-le}
use lib.Dec.{eqb}
use borrow.Author.Tests.{eq-eqb, ne_eqb, not-true, not-false}
use Rattle.parts.specs.Bytes.{Bytes}
use Rattle.chars.specs.Utf8.{cut_at, step, first_char}
use Rattle.chars.specs.Space.{is_white}
use Rattle.chars.specs.declared.Char.{Char}
use Rattle.chars.proofs.Characters.{cut_at_lem, step-some}
use Rattle.words.specs.Words.{step_of, chars_of, white, take_while, drop_while, keep, drop_end}
use Rattle.words.specs.declared.Set.TheVariants.{Unicode}
use Rattle.words.proofs.Runs.{end_split}
use Rattle.words.proofs.Steps.{size_some, size_le}
use Rattle.words.proofs.Texts.{run_drop, half_take}
use Rattle.texts.specs.Text.{body_of}
use Rattle.words.specs.Words.{trim}
use Rattle.chars.specs.Escape.{escape}
use Rattle.window.specs.Page.{Page, paint}
use Rattle.put_body.specs.Edge.{soft, soft_len, core_end_of, core_of, front_of_of}
use Rattle.put_body.specs.declared.Front.{Front}
use Rattle.put_body.proofs.Edges.{trim-body}

-- ---- the first character

first_byte : (s : Bytes) → get_or (take (step s) s) 0 0 ≡ get_or s 0 0
unfolding step
first_byte [] = refl
first_byte (x ∷ s) = go (step (x ∷ s)) (step-some (x ∷ s) (omega arith))
  where
    go : (n : ℕ) → 1 ≤ n → get_or (take n (x ∷ s)) 0 0 ≡ x
    go zero h = absurd (omega arith)
    go (suc n) h = refl

module _ (s : Bytes) {c : Char} (ec : c ≡ first_char s) {x : ℕ} (ex : x ≡ get_or s 0 0) where
  pub front_tilde : x ≡ 126 → ◌≡◌ {A = Front} (record { width = c.width; soft = eqb x 126 }) (front_of_of s)
  unfolding front_of_of first_char soft
  front_tilde e = rw (first_byte s, ← ex, eq-eqb x 126 e, ec)

  pub front_other : {t : Bool} → (x ≡ 126 → ⊥) → t ≡ is_white c.code → ◌≡◌ {A = Front} (record { width = c.width; soft = t }) (front_of_of s)
  unfolding front_of_of first_char soft white
  front_other n et = rw (et, ec, first_byte s, ← ex, ne_eqb x 126 n)

-- ---- loops

-- where the last of some characters ends that start at `at`; `end` where there are none
abbrev last_end : ℕ → ℕ → List Bytes → ℕ
last_end end at [] = end
last_end end at (c ∷ cs) = at + length (flatten (c ∷ cs))

-- where the core ends: `end` so far, and further on if some of it stands from `at` on
unfoldable pub end_from : Bytes → ℕ → ℕ → ℕ
end_from s at end = last_end end at (drop_end soft (chars_of Unicode (drop at s)))

module _ (s : Bytes) (at : ℕ) {r : Bytes} (er : r ≡ drop at s) {f : Front} (ef : f ≡ front_of_of r) (h : at < length s) where
  width : f.width ≡ step_of Unicode (drop at s)
  unfolding front_of_of step_of
  width = rw (ef, er)

  pub front_some : 0 < f.width
  front_some = omega (arith, width, size_some Unicode (drop at s) (omega (arith, length-drop at s)))

  pub front_fits : at + f.width ≤ length s
  front_fits = omega (arith, width, length-drop at s, size_le Unicode (drop at s))

  pub front_less : length s - (at + f.width) < length s - at
  front_less = omega (arith, front_some, front_fits)

  chars_front : chars_of Unicode (drop at s) ≡ take f.width (drop at s) ∷ chars_of Unicode (drop (at + f.width) s)
  unfolding chars_of
  chars_front = rw width (cut_at_lem (size_some Unicode) s at h)

  front_soft : f.soft ≡ soft (take f.width (drop at s))
  unfolding front_of_of
  front_soft = rw (ef, er)

  wide : length (take f.width (drop at s)) ≡ f.width
  wide = length-take-le f.width (drop at s) (omega (arith, front_fits, length-drop at s))

  soft-more : f.soft ≡ true → soft_len (drop at s) ≡ f.width + soft_len (drop (at + f.width) s)
  unfolding soft_len take_while flatten
  soft-more e =
      rw (chars_front, sym front_soft ∙ e)
      (length-append (take f.width (drop at s)) (flatten (take_while soft (chars_of Unicode (drop (at + f.width) s)))) ∙ rw wide)

  soft-over : f.soft ≡ false → soft_len (drop at s) ≡ 0
  unfolding soft_len take_while flatten
  soft-over e = rw (chars_front, sym front_soft ∙ e)

  pub soft-turn : {n : ℕ} → not f.soft ≡ false → at + soft_len (drop at s) ≡ n → at + f.width + soft_len (drop (at + f.width) s) ≡ n
  soft-turn e inv = omega (arith, soft-more (not-false f.soft e))

  pub soft_stop : {n : ℕ} → not f.soft ≡ true → at + soft_len (drop at s) ≡ n → at ≡ n
  soft_stop e inv = omega (arith, soft-over (not-true f.soft e))

  core_step : (end : ℕ) (t : Bool) → f.soft ≡ t → end_from s at end ≡ end_from s (at + f.width) (cond t end (at + f.width))
  unfolding end_from drop_end keep flatten
  core_step end t e = rw chars_front (go (drop_end soft (chars_of Unicode (drop (at + f.width) s))) t (sym front_soft ∙ e))
    where
      c : Bytes
      c = take f.width (drop at s)

      go : (ds : List Bytes) (t : Bool) → soft c ≡ t → last_end end at (keep soft c ds) ≡ last_end (cond t end (at + f.width)) (at + f.width) ds
      go [] true h = rw h
      go [] false h = rw h (omega (arith, length-append c [], wide))
      go (d ∷ ds) t h = omega (arith, length-append c (flatten (d ∷ ds)), wide)

  pub core_turn : (end : ℕ) {n : ℕ} → not f.soft ≡ true → end_from s at end ≡ n → end_from s (at + f.width) (at + f.width) ≡ n
  core_turn end e inv = sym (core_step end false (not-true f.soft e)) ∙ inv

  pub edge_turn : (end : ℕ) {n : ℕ} → not f.soft ≡ false → end_from s at end ≡ n → end_from s (at + f.width) end ≡ n
  edge_turn end e inv = sym (core_step end true (not-false f.soft e)) ∙ inv

module _ (s : Bytes) where
  chars_past : (at : ℕ) → length s ≤ at → chars_of Unicode (drop at s) ≡ []
  unfolding chars_of cut_at
  chars_past at h = rw (drop_of_length-le s h)

  pub soft_end : (at : ℕ) {n : ℕ} → length s ≤ at → at + soft_len (drop at s) ≡ n → at ≡ n
  unfolding soft_len take_while flatten
  soft_end at h inv = omega (arith, ap (λ (cs : List Bytes). length (flatten (take_while soft cs))) (chars_past at h))

  pub core_start : end_from s 0 0 ≡ length (core_end_of s)
  unfolding end_from core_end_of flatten
  core_start = go (drop_end soft (chars_of Unicode s))
    where
      go : (cs : List Bytes) → last_end 0 0 cs ≡ length (flatten cs)
      go [] = refl
      go (c ∷ cs) = omega arith

  pub core_end : (at end : ℕ) {n : ℕ} → length s ≤ at → end_from s at end ≡ n → end ≡ n
  unfolding end_from drop_end
  core_end at end h inv = sym (rw (chars_past at h)) ∙ inv

  -- ---- the part

  start_drop : drop (soft_len s) s ≡ flatten (drop_while soft (chars_of Unicode s))
  unfolding soft_len
  start_drop = run_drop Unicode soft s

  end_take : take (length (core_end_of s)) s ≡ core_end_of s
  unfolding core_end_of
  end_take = let (es, e, w) = end_split soft (chars_of Unicode s) in half_take Unicode s (drop_end soft (chars_of Unicode s)) es e

pub core_found : (s : Bytes) {t r : Bytes} {n k : ℕ} → n ≡ soft_len s → t ≡ drop n s → k ≡ length (core_end_of t) → r ≡ take k (drop 0 t) → r ≡ core_of s
unfolding core_of
core_found s {t} en et ek er = er ∙ rw ek (end_take t) ∙ ap core_end_of (et ∙ rw en (start_drop s))

pub segment_put : (s : Bytes) (p : Page) {q : Page} {t : Bytes} → t ≡ core_of s → q ≡ paint p (escape false (body_of t)) → q ≡ paint p (escape false (trim Unicode (body_of s)))
segment_put s p et eq = eq ∙ rw (et, trim-body s)
