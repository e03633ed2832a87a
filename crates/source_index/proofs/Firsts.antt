-- The first place that passes a test.
use mathlib.Core.Path.{◌≡◌, refl, sym, ap, ◌∙◌}
use mathlib.Core.Bool.{Bool, true, false, not}
use mathlib.Core.List.{[], ◌∷◌}
use Prim.Native.Nat.{ℕ, zero, suc, ◌+◌, ◌-◌, ◌≤◌, ◌<◌, max}
use native.Mathlib.Omega.{arith}
use lib.ListN.{length, get_or, take, drop, length-drop, drop_of_length-le}
use lib.Seq.{drop-drop, get_or-drop}
use lib.Dec.{ltb}
use borrow.Author.Tests.{lt-ltb, ltb-true, ltb-false}
use Rattle.parts.specs.Bytes.{Bytes, first_at}
use Rattle.parts.proofs.Laws.{first-le}
use Rattle.chars.specs.Range.{within, in_any}
use Rattle.chars.specs.Utf8.{fits, row_len, table37, seq_len, step, is_sequence, point, code_of, first_char}
use Rattle.chars.specs.Space.{is_white, is_ascii_white, white_space}
use Rattle.chars.specs.declared.Char.{Char}
use Rattle.chars.proofs.Characters.{step-le}
use Rattle.words.specs.Words.{white}
use Rattle.tape.specs.Name.{ends_name_of}
use Rattle.source_index.specs.Seek.{ends_at, white_at, solid_at, gap_at, solid_byte, passes_at, next_from, Sought, Dull}
use Rattle.source_index.specs.declared.Test.{Test}
use Rattle.source_index.specs.declared.Test.TheVariants.{Ender, Gap}
use Rattle.source_index.proofs.Dulls.{dull_first, ends_white_not}

-- ---- tests

some-drop : (s : Bytes) (i : ℕ) → i < length s → length (drop i s) ≡ 0 → ⊥
some-drop s i h e = omega (arith, length-drop i s)

dull_drop : (s : Bytes) (i : ℕ) → Dull (get_or s i 0) → Dull (get_or (drop i s) 0 0)
dull_drop s i d = let e : get_or (drop i s) 0 0 ≡ get_or s i 0 = get_or-drop i s 0 0 ∙ ap (λ (k : ℕ). get_or s k 0) (omega arith) in rw e d

code_white : (u : Bytes) → is_white (code_of (take (step u) u)) ≡ white_at u
unfolding white_at white
code_white u = refl

white-none : white_at [] ≡ false
unfolding white_at white step code_of is_sequence seq_len row_len table37 fits point is_white white_space in_any within
white-none = refl

ends-none : false ≡ ends_at []
unfolding ends_at ends_name_of step code_of is_sequence seq_len row_len table37 fits point is_white white_space in_any within
ends-none = refl

-- a test of characters: no dull byte passes it
abbrev pub OfChars : Test → Type 0
OfChars test = (u : Bytes) → 0 < length u → Dull (get_or u 0 0) → passes_at test u ≡ false

pub ender_chars : OfChars Ender
unfolding passes_at ends_at
ender_chars u h d = dull_first u (λ e. omega arith) d

pub gap_chars : OfChars Gap
unfolding passes_at gap_at
gap_chars u h d = let w : white_at u ≡ false = sym (code_white u) ∙ ends_white_not (code_of (take (step u) u)) (dull_first u (λ e. omega arith) d) in rw w

module _ (s : Bytes) (i : ℕ) where
  dull_test : (test : Test) → OfChars test → {b : Bool} → i < length s → (b ≡ false → Dull (get_or s i 0)) → b ≡ false → passes_at test (drop i s) ≡ false
  dull_test test dull h f e = dull (drop i s) (omega (arith, length-drop i s)) (dull_drop s i (f e))

  past-white : length s ≤ i → white_at (drop i s) ≡ false
  past-white h = rw (drop_of_length-le s h) white-none

  pub ends_dull : {b : Bool} → i < length s → (b ≡ false → Dull (get_or s i 0)) → b ≡ false → false ≡ ends_at (drop i s)
  unfolding passes_at
  ends_dull h f e = sym (dull_test Ender ender_chars h f e)

  pub gap_dull : {b : Bool} → i < length s → (b ≡ false → Dull (get_or s i 0)) → b ≡ false → false ≡ gap_at (drop i s)
  unfolding passes_at
  gap_dull h f e = sym (dull_test Gap gap_chars h f e)

  module _ {u : Bytes} {c : Char} (eu : u ≡ drop i s) (ec : c ≡ first_char u) where
    char_is : c.code ≡ code_of (take (step (drop i s)) (drop i s))
    unfolding first_char
    char_is = ap (λ (k : Char). k.code) ec ∙ ap (λ (z : Bytes). code_of (take (step z) z)) eu

    pub width_is : c.width ≡ step (drop i s)
    unfolding first_char
    width_is = ap (λ (k : Char). k.width) ec ∙ ap step eu

    white_is : {w : Bool} → w ≡ is_white c.code → w ≡ white_at (drop i s)
    white_is ew = ew ∙ ap is_white char_is ∙ code_white (drop i s)

    pub ends_read : {r : Bool} → r ≡ ends_name_of c.code → r ≡ ends_at (drop i s)
    unfolding ends_at
    ends_read er = er ∙ ap ends_name_of char_is

    pub solid_read : {w : Bool} → i < length s → w ≡ is_white c.code → not w ≡ solid_at (drop i s)
    unfolding solid_at
    solid_read h ew = rw (lt-ltb 0 (length (drop i s)) (omega (arith, length-drop i s)), ← white_is ew)

    pub gap_not : {w : Bool} → w ≡ is_white c.code → w ≡ false → false ≡ gap_at (drop i s)
    unfolding gap_at
    gap_not ew e = rw (← white_is ew, e)

    pub gap_read : {w r : Bool} → w ≡ is_white c.code → w ≡ true → r ≡ solid_at (drop (i + c.width) s) → r ≡ gap_at (drop i s)
    unfolding gap_at
    gap_read ew e er = rw (← white_is ew, e) (er ∙ ap solid_at (ap (λ (k : ℕ). drop (i + k) s) width_is ∙ sym (drop-drop (step (drop i s)) i s)))

    pub width_fits : i < length s → i + c.width ≤ length s
    width_fits h = omega (arith, width_is, step-le (drop i s), length-drop i s)

  -- no sum of a place and the width of the character there wraps
  pub width_most : {r : ℕ} → r ≡ step (drop i s) → i + r ≤ max i (length s)
  width_most e = omega (arith, step-le (drop i s), length-drop i s)

  pub solid-past : length s ≤ i → false ≡ solid_at (drop i s)
  unfolding solid_at
  solid-past h = rw (drop_of_length-le s h)

  pub ends-past : length s ≤ i → false ≡ ends_at (drop i s)
  ends-past h = rw (drop_of_length-le s h) ends-none

  pub gap_past : length s ≤ i → false ≡ gap_at (drop i s)
  unfolding gap_at
  gap_past h = rw (past-white h)

  pub byte_read : {w : Bool} → i < length s → w ≡ is_ascii_white (get_or s i 0) → not w ≡ solid_byte (drop i s)
  unfolding solid_byte
  byte_read h ew =
      let at : get_or (drop i s) 0 0 ≡ get_or s i 0 = get_or-drop i s 0 0 ∙ ap (λ (k : ℕ). get_or s k 0) (omega arith) in
      rw (lt-ltb 0 (length (drop i s)) (omega (arith, length-drop i s)), at, ← ew)

  pub byte_past : length s ≤ i → false ≡ solid_byte (drop i s)
  unfolding solid_byte
  byte_past h = rw (drop_of_length-le s h)

-- ---- the first that passes

module _ (p : Bytes → Bool) where
  pub first_hit : (u : Bytes) → p u ≡ true → first_at p u ≡ 0
  unfolding first_at
  first_hit [] e = refl
  first_hit (x ∷ u) e = rw (e, first_at)

  pub first_miss : (u : Bytes) → 0 < length u → p u ≡ false → first_at p u ≡ suc (first_at p (drop 1 u))
  unfolding first_at
  first_miss [] h e = absurd (omega arith)
  first_miss (x ∷ u) h e = rw (e, first_at)

  -- places that do not pass are passed over
  pub first_skip : (w : ℕ) (u : Bytes) → w ≤ length u → ((j : ℕ) → j < w → p (drop j u) ≡ false) → first_at p u ≡ w + first_at p (drop w u)
  first_skip zero u h f = omega arith
  first_skip (suc w) [] h f = absurd (omega arith)
  first_skip (suc w) (x ∷ u) h f =
      omega (
        arith,
        first_miss (x ∷ u) (omega arith) (f 0 (omega arith)),
        first_skip w u (omega arith) (λ j k. f (suc j) (omega arith)),
      )

  -- from a place before the first that passes
  pub first_from : (d : ℕ) (u : Bytes) → d ≤ first_at p u → d + first_at p (drop d u) ≡ first_at p u
  unfolding first_at
  first_from zero u h = omega arith
  first_from (suc d) [] h = absurd (omega arith)
  first_from (suc d) (x ∷ u) h = go (p (x ∷ u)) refl (first_from d u)
    where
      go : (t : Bool) → p (x ∷ u) ≡ t → (d ≤ first_at p u → d + first_at p (drop d u) ≡ first_at p u) → suc d + first_at p (drop d u) ≡ first_at p (x ∷ u)
      go true e f = absurd (omega (arith, first_hit (x ∷ u) e))
      go false e f = let m = first_miss (x ∷ u) (omega arith) e in omega (arith, m, f (omega (arith, m)))

module _ (test : Test) (s : Bytes) (i : ℕ) where
  pub next_hit : passes_at test (drop i s) ≡ true → next_from test s i ≡ i
  unfolding next_from
  next_hit e = omega (arith, first_hit (passes_at test) (drop i s) e)

  pub next_miss : i < length s → passes_at test (drop i s) ≡ false → next_from test s (i + 1) ≡ next_from test s i
  unfolding next_from
  next_miss h e =
      omega (
        arith,
        first_miss (passes_at test) (drop i s) (omega (arith, length-drop i s)) e,
        ap (first_at (passes_at test)) (drop-drop 1 i s),
      )

  pub next_past : length s ≤ i → next_from test s i ≡ i
  unfolding next_from first_at
  next_past h = omega (arith, ap (first_at (passes_at test)) (drop_of_length-le s h))

  pub next_le : i ≤ length s → next_from test s i ≤ length s
  unfolding next_from
  next_le h = omega (arith, first-le (passes_at test) (drop i s), length-drop i s)

-- what stands behind an earlier place, and behind i, is the first behind i
pub next-same : (test : Test) (s : Bytes) (e i : ℕ) → e ≤ i → i ≤ next_from test s e → next_from test s i ≡ next_from test s e
unfolding next_from
next-same test s e i h l =
    let f = first_from (passes_at test) (i - e) (drop e s) (omega arith) in
    let q : drop (i - e) (drop e s) ≡ drop i s = drop-drop (i - e) e s ∙ ap (λ (n : ℕ). drop n s) (same_place h) in
    omega (arith, f, ap (first_at (passes_at test)) q)
  where
    same_place : e ≤ i → e + (i - e) ≡ i
    same_place k = omega arith

-- ---- a search

-- what holds while a search from i has come to a place
pub record Passed (test : Test) (s : Bytes) (i end at : ℕ) : Type 0 where
  pub ahead : i ≤ at
  pub behind : i ≤ end → at ≤ end
  pub same : end ≤ length s → next_from test s at ≡ next_from test s i

module _ {test : Test} {s : Bytes} {i end at : ℕ} (q : Passed test s i end at) where
  pub look_found : {b : Bool} → at < end → b ≡ passes_at test (drop at s) → b ≡ true → Sought test s i end at
  look_found h eb e =
      record { behind = q.behind; ahead = q.ahead; stopped = λ l. next_hit test s at (sym eb ∙ e); same = q.same }

  pub look_turn : {b : Bool} → at < end → b ≡ passes_at test (drop at s) → b ≡ false → Passed test s i end (at + 1)
  look_turn h eb e =
      record {
        ahead = omega (arith, q.ahead);
        behind = λ l. omega arith;
        same = λ l. next_miss test s at (omega arith) (sym eb ∙ e) ∙ q.same l;
      }

module _ {test : Test} {s : Bytes} {i r : ℕ} where
  -- a search up to the text's end
  pub sought_all : {end : ℕ} → end ≡ length s → Sought test s i end r → i ≤ length s → r ≡ next_from test s i
  sought_all {end} e q h = go (ltb r end) refl
    where
      same : next_from test s r ≡ next_from test s i
      same = q.same (omega arith)

      go : (t : Bool) → ltb r end ≡ t → r ≡ next_from test s i
      go true t = sym (q.stopped (ltb-true r end t)) ∙ same
      go false t = let l = ltb-false r end t in sym (next_past test s r (omega arith)) ∙ same

  -- a search that stopped at what it looked for
  pub sought_hit : {end : ℕ} → Sought test s i end r → end ≤ length s → r < end → r ≡ next_from test s i
  sought_hit q h l = sym (q.stopped l) ∙ q.same h

  -- a search that found nothing
  pub sought_none : {end : ℕ} → Sought test s i end r → i ≤ end → end ≤ length s → end ≤ r → next_from test s end ≡ next_from test s i
  sought_none {end} q f h l = ap (next_from test s) (omega (arith, q.behind f)) ∙ q.same h
