-- One turn of each loop over the characters of a text.
use mathlib.Core.Path.{◌≡◌, refl, sym, ap, ◌∙◌}
use mathlib.Core.Bool.{Bool, true, false, not, cond, beq}
use mathlib.Core.List.{List, [], ◌∷◌, flatten}
use Prim.Native.Nat.{ℕ, suc, ◌+◌, ◌-◌, ◌≤◌, ◌<◌, min}
use native.Mathlib.Omega.{arith}
use lib.ListN.{length, get_or, take, drop, length-append, length-drop, drop_of_length-le}
use lib.Seq.{length-take-le, get_or-drop}
use lib.Dec.{leb}
use borrow.Author.Tests.{not-true, not-false, leb-true}
use Rattle.parts.specs.Bytes.{Bytes}
use Rattle.parts.proofs.Laws.{and-true as both_true}
use Rattle.chars.specs.Range.{within, in_any}
use Rattle.chars.specs.Utf8.{cut_at, seq_len, first_char}
use Rattle.chars.specs.Space.{is_white, is_ascii_white, white_space}
use Rattle.chars.specs.declared.Char.{Char}
use Rattle.chars.proofs.Characters.{cut_at_lem}
use Rattle.chars.proofs.Laws.{below, beyond, len_one, first_one}
use Rattle.chars.proofs.White.{between_white}
use Rattle.words.specs.Words.{step_of, chars_of, white, solid, take_while, keep, drop_end, trim_end, white_len, word_len}
use Rattle.words.specs.First.{front_of_of, run_of, visible}
use Rattle.words.specs.declared.Set.{Set}
use Rattle.words.specs.declared.Set.TheVariants.{Ascii, Unicode}
use Rattle.words.specs.declared.FirstChar.{FirstChar}
use Rattle.words.proofs.Steps.{size_some, size_le}

-- ---- the first character

pub front_none : (s : Bytes) → length s ≡ 0 → ◌≡◌ {A = FirstChar} (record { width = 0; white = false }) (front_of_of Ascii s)
unfolding front_of_of step_of white is_ascii_white in_any within
front_none [] h = refl
front_none (x ∷ s) h = absurd (omega arith)

-- no byte beyond the space is ASCII white space
beyond_white : (x : ℕ) → 32 < x → false ≡ is_ascii_white x
unfolding is_ascii_white in_any
beyond_white x h = sym (simp (beyond 9 10 x (omega arith), beyond 12 13 x (omega arith), beyond 32 32 x (omega arith)))

pub front_one : (s : Bytes) {t : Bool} → (length s ≡ 0 → ⊥) → t ≡ is_ascii_white (get_or s 0 0)
    → ◌≡◌ {A = FirstChar} (record { width = 1; white = t }) (front_of_of Ascii s)
unfolding front_of_of step_of white
front_one [] h e = absurd (h refl)
front_one (x ∷ s) h e = let one : min 1 (suc (length s)) ≡ 1 = omega arith in rw (e, one)

pub front_wide : (s : Bytes) {c : Char} {t : Bool} → c ≡ first_char s → t ≡ is_white c.code
    → ◌≡◌ {A = FirstChar} (record { width = c.width; white = t }) (front_of_of Unicode s)
unfolding front_of_of step_of white first_char
front_wide s ec et = rw (et, ec)

-- a byte of ASCII is a character
front_ascii : (s : Bytes) {t : Bool} → 0 < length s → get_or s 0 0 < 128 → t ≡ is_white (get_or s 0 0) → ◌≡◌ {A = FirstChar} (record { width = 1; white = t }) (front_of_of Unicode s)
front_ascii s some h e =
    let one : ◌≡◌ {A = Char} (record { code = get_or s 0 0; width = 1 }) (first_char s) =
    first_one s (seq_len s) refl refl (sym (len_one s (λ e. omega arith) h)) refl in
    front_wide s one e

pub front_visible : (s : Bytes) → 0 < length s → 32 < get_or s 0 0 → get_or s 0 0 < 128 → ◌≡◌ {A = FirstChar} (record { width = 1; white = false }) (front_of_of Unicode s)
front_visible s some l h = front_ascii s some h (between_white (get_or s 0 0) l (omega arith))

-- ---- a visible byte

module _ (x : ℕ) where
  pub visible_low : x < 33 → false ≡ visible x
  unfolding visible
  visible_low h = sym (below 33 126 x h)

  pub visible-ends : visible x ≡ true → (32 < x) × (x < 127)
  unfolding visible within
  visible-ends h =
      let b = both_true (leb 33 x) (leb x 126) h in
      (omega (arith, leb-true 33 x b.0), omega (arith, leb-true x 126 b.1))

pub front_seen : (set : Set) (s : Bytes) (at : ℕ) → at < length s → {t : Bool} → t ≡ visible (get_or s at 0) → t ≡ true
    → ◌≡◌ {A = FirstChar} (record { width = 1; white = false }) (front_of_of set (drop at s))
front_seen set s at h et e = go set
  where
    l : 32 < get_or s at 0
    l = (visible-ends (get_or s at 0) (sym et ∙ e)).0

    k : get_or s at 0 < 127
    k = (visible-ends (get_or s at 0) (sym et ∙ e)).1

    here : get_or (drop at s) 0 0 ≡ get_or s at 0
    here = get_or-drop at s 0 0 ∙ ap (λ (i : ℕ). get_or s i 0) (omega arith)

    go : (set : Set) → ◌≡◌ {A = FirstChar} (record { width = 1; white = false }) (front_of_of set (drop at s))
    go Ascii = front_one (drop at s) (λ e. omega (arith, length-drop at s)) (rw here (beyond_white (get_or s at 0) l))
    go Unicode = front_visible (drop at s) (omega (arith, length-drop at s)) (rw here l) (omega (arith, here, k))

-- a space is white space in each set
pub front_space : (set : Set) (s : Bytes) (at : ℕ) → at < length s → get_or s at 0 ≡ 32 → ◌≡◌ {A = FirstChar} (record { width = 1; white = true }) (front_of_of set (drop at s))
unfolding is_white is_ascii_white white_space in_any within
front_space set s at h e = go set
  where
    here : get_or (drop at s) 0 0 ≡ 32
    here = get_or-drop at s 0 0 ∙ ap (λ (i : ℕ). get_or s i 0) (omega arith) ∙ e

    go : (set : Set) → ◌≡◌ {A = FirstChar} (record { width = 1; white = true }) (front_of_of set (drop at s))
    go Ascii = front_one (drop at s) (λ e. omega (arith, length-drop at s)) (ap is_ascii_white (sym here))
    go Unicode = front_ascii (drop at s) (omega (arith, length-drop at s)) (omega (arith, here)) (ap is_white (sym here))

pub front_far : (set : Set) (s : Bytes) (at : ℕ) {r : Bytes} {f : FirstChar} → r ≡ drop at s → f ≡ front_of_of set r → f ≡ front_of_of set (drop at s)
front_far set s at er ef = ef ∙ ap (front_of_of set) er

pub front_by : (s : Bytes) {set v : Set} {r : FirstChar} → set ≡ v → r ≡ front_of_of v s → r ≡ front_of_of set s
front_by s e er = rw e er

-- ---- loops over characters

-- where the last of some characters ends that start at `at`; `end` where there are none
abbrev last_end : ℕ → ℕ → List Bytes → ℕ
last_end end at [] = end
last_end end at (c ∷ cs) = at + length (flatten (c ∷ cs))

-- where solid text ends: `end` so far, and further on if some of it stands from `at` on
unfoldable pub solid_end_of : Set → Bytes → ℕ → ℕ → ℕ
solid_end_of set s at end = last_end end at (drop_end (white set) (chars_of set (drop at s)))

module _ (set : Set) (s : Bytes) (at : ℕ) {r : Bytes} (er : r ≡ drop at s) {f : FirstChar} (ef : f ≡ front_of_of set r) (h : at < length s) where
  some : 0 < length (drop at s)
  some = omega (arith, length-drop at s)

  width : f.width ≡ step_of set (drop at s)
  unfolding front_of_of
  width = rw (ef, er)

  pub front_some : 0 < f.width
  front_some = omega (arith, width, size_some set (drop at s) some)

  pub front_fits : at + f.width ≤ length s
  front_fits = omega (arith, width, length-drop at s, size_le set (drop at s))

  pub front_less : length s - (at + f.width) < length s - at
  front_less = omega (arith, front_some, front_fits)

  chars_front : chars_of set (drop at s) ≡ take f.width (drop at s) ∷ chars_of set (drop (at + f.width) s)
  unfolding chars_of
  chars_front = rw width (cut_at_lem (size_some set) s at h)

  front_white : f.white ≡ white set (take f.width (drop at s))
  unfolding front_of_of
  front_white = rw (ef, er)

  -- ---- a run of one kind

  run_more : (q : Bytes → Bool) → q (take f.width (drop at s)) ≡ true
      → length (flatten (take_while q (chars_of set (drop at s)))) ≡ f.width + length (flatten (take_while q (chars_of set (drop (at + f.width) s))))
  unfolding take_while flatten
  run_more q e =
      let c : Bytes = take f.width (drop at s) in
      rw (chars_front, e)
      (length-append c (flatten (take_while q (chars_of set (drop (at + f.width) s))))
      ∙ rw (length-take-le f.width (drop at s) (omega (arith, front_fits, length-drop at s))))

  run-over : (q : Bytes → Bool) → q (take f.width (drop at s)) ≡ false → length (flatten (take_while q (chars_of set (drop at s)))) ≡ 0
  unfolding take_while flatten
  run-over q e = rw (chars_front, e)

  pub run-turn : (k : Bool) {n : ℕ} → not (beq f.white k) ≡ false → at + run_of set k (drop at s) ≡ n
      → at + f.width + run_of set k (drop (at + f.width) s) ≡ n
  unfolding run_of white_len word_len solid
  run-turn k e inv = go k f.white refl e inv
    where
      go : (k w : Bool) → f.white ≡ w → not (beq w k) ≡ false → {n : ℕ} → at + run_of set k (drop at s) ≡ n
          → at + f.width + run_of set k (drop (at + f.width) s) ≡ n
      go true true h e inv = omega (arith, run_more (white set) (sym front_white ∙ h))
      go false false h e inv = omega (arith, run_more (solid set) (ap not (sym front_white ∙ h)))
      go true false h e inv = absurd (let no_way : ◌≡◌ {A = ℕ} 0 1 = cc in omega arith)
      go false true h e inv = absurd (let no_way : ◌≡◌ {A = ℕ} 0 1 = cc in omega arith)

  pub run_stop : (k : Bool) {n : ℕ} → not (beq f.white k) ≡ true → at + run_of set k (drop at s) ≡ n → at ≡ n
  unfolding run_of white_len word_len solid
  run_stop k e inv = go k f.white refl e inv
    where
      go : (k w : Bool) → f.white ≡ w → not (beq w k) ≡ true → {n : ℕ} → at + run_of set k (drop at s) ≡ n → at ≡ n
      go true false h e inv = omega (arith, run-over (white set) (sym front_white ∙ h))
      go false true h e inv = omega (arith, run-over (solid set) (ap not (sym front_white ∙ h)))
      go true true h e inv = absurd (let no_way : ◌≡◌ {A = ℕ} 0 1 = cc in omega arith)
      go false false h e inv = absurd (let no_way : ◌≡◌ {A = ℕ} 0 1 = cc in omega arith)

  -- ---- the end of solid text

  solid-step : (end : ℕ) (t : Bool) → f.white ≡ t → solid_end_of set s at end ≡ solid_end_of set s (at + f.width) (cond t end (at + f.width))
  unfolding solid_end_of drop_end keep flatten
  solid-step end t e = rw chars_front (go (drop_end (white set) (chars_of set (drop (at + f.width) s))) t (sym front_white ∙ e))
    where
      c : Bytes
      c = take f.width (drop at s)

      wide : length c ≡ f.width
      wide = length-take-le f.width (drop at s) (omega (arith, front_fits, length-drop at s))

      go : (ds : List Bytes) (t : Bool) → white set c ≡ t → last_end end at (keep (white set) c ds) ≡ last_end (cond t end (at + f.width)) (at + f.width) ds
      go [] true h = rw h
      go [] false h = rw h (omega (arith, length-append c [], wide))
      go (d ∷ ds) t h = omega (arith, length-append c (flatten (d ∷ ds)), wide)

  pub solid-turn : (end : ℕ) {n : ℕ} → not f.white ≡ true → solid_end_of set s at end ≡ n → solid_end_of set s (at + f.width) (at + f.width) ≡ n
  solid-turn end e inv = sym (solid-step end false (not-true f.white e)) ∙ inv

  pub white-turn : (end : ℕ) {n : ℕ} → not f.white ≡ false → solid_end_of set s at end ≡ n → solid_end_of set s (at + f.width) end ≡ n
  white-turn end e inv = sym (solid-step end true (not-false f.white e)) ∙ inv

-- a visible byte goes on a word and ends white space
module _ (set : Set) (s : Bytes) (at : ℕ) (h : at < length s) {t : Bool} (et : t ≡ visible (get_or s at 0)) (e : t ≡ true) where
  pub seen-turn : (k : Bool) {n : ℕ} → k ≡ false → at + run_of set k (drop at s) ≡ n → at + 1 + run_of set k (drop (at + 1) s) ≡ n
  seen-turn k ek inv = run-turn set s at refl (front_seen set s at h et e) h k (rw ek) inv

  pub seen_stop : (k : Bool) {n : ℕ} → k ≡ true → at + run_of set k (drop at s) ≡ n → at ≡ n
  seen_stop k ek inv = run_stop set s at refl (front_seen set s at h et e) h k (rw ek) inv

module _ (set : Set) (s : Bytes) where
  chars_past : (at : ℕ) → length s ≤ at → chars_of set (drop at s) ≡ []
  unfolding chars_of cut_at
  chars_past at h = rw (drop_of_length-le s h)

  pub run_end : (at : ℕ) (k : Bool) {n : ℕ} → length s ≤ at → at + run_of set k (drop at s) ≡ n → at ≡ n
  unfolding run_of white_len word_len take_while flatten
  run_end at true h inv = omega (arith, ap (λ (cs : List Bytes). length (flatten (take_while (white set) cs))) (chars_past at h))
  run_end at false h inv = omega (arith, ap (λ (cs : List Bytes). length (flatten (take_while (solid set) cs))) (chars_past at h))

  pub solid_start : solid_end_of set s 0 0 ≡ length (trim_end set s)
  unfolding solid_end_of trim_end flatten
  solid_start = go (drop_end (white set) (chars_of set s))
    where
      go : (cs : List Bytes) → last_end 0 0 cs ≡ length (flatten cs)
      go [] = refl
      go (c ∷ cs) = omega arith

  pub solid_end : (at end : ℕ) {n : ℕ} → length s ≤ at → solid_end_of set s at end ≡ n → end ≡ n
  unfolding solid_end_of drop_end
  solid_end at end h inv = sym (rw (chars_past at h)) ∙ inv
