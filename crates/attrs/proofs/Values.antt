-- Laws of values: quotes, and the pieces between escaped ones.
use mathlib.Core.Path.{◌≡◌, refl, sym, ap, ◌∙◌}
use mathlib.Core.Bool.{Bool, true, false, cond, ◌&&◌, and-false}
use mathlib.Core.List.{[], ◌∷◌, ◌++◌}
use Prim.Native.Nat.{ℕ, suc, ◌+◌, ◌≤◌, ◌<◌, min, max}
use native.Mathlib.Omega.{arith}
use lib.ListN.{length, get_or, take, drop, drop_of_length-le, length-drop}
use lib.Dec.{eqb}
use borrow.Author.Tests.{eqb-true}
use Rattle.parts.specs.Bytes.{Bytes, b, begins, first_at, find}
use Rattle.parts.proofs.Laws.{drop_at, begins-fits, and-true, first_found}
use Rattle.words.specs.Words.{white_len, word_len}
use Rattle.words.specs.declared.Set.TheVariants.{Unicode}
use Rattle.words.proofs.Texts.{word_le}
use Rattle.attrs.specs.Attr.{closes_at, quoted_from, quoted_len, piece_len, unquoted, value_from, value_at}
use Rattle.attrs.specs.declared.Taken.{Taken}

-- ---- the closing quote

module _ (s : Bytes) (i last n : ℕ) {t : Bool} (h : i < length s) (et : t ≡ closes_at last (get_or s i 0)) where
  pub quoted_turn : t ≡ false → i + quoted_from last (drop i s) ≡ n → i + 1 + quoted_from (get_or s i 0) (drop (i + 1) s) ≡ n
  unfolding quoted_from
  quoted_turn e inv =
      let step : quoted_from last (drop i s) ≡ suc (quoted_from (get_or s i 0) (drop (i + 1) s)) = rw (drop_at s i h) (rw (sym et ∙ e, quoted_from)) in omega arith

  pub quoted_stop : t ≡ true → i + quoted_from last (drop i s) ≡ n → i ≡ n
  unfolding quoted_from
  quoted_stop e inv =
      let step : quoted_from last (drop i s) ≡ 0 = rw (drop_at s i h) (rw (sym et ∙ e, quoted_from)) in omega arith

pub quoted_end : (s : Bytes) (i last n : ℕ) → length s ≤ i → i + quoted_from last (drop i s) ≡ n → i ≡ n
unfolding quoted_from
quoted_end s i last n h inv = omega (arith, ap (quoted_from last) (drop_of_length-le s h))

pub quoted_le : (last : ℕ) (s : Bytes) → quoted_from last s ≤ length s
unfolding quoted_from
quoted_le last [] = omega arith
quoted_le last (x ∷ s) = go (closes_at last x) (quoted_le x s)
  where
    go : (t : Bool) → quoted_from x s ≤ length s → elim t as (λ t. ℕ) [ true ↦ 0 | false ↦ suc (quoted_from x s) ] ≤ suc (length s)
    go true h = omega arith
    go false h = omega arith

-- ---- a value

-- a value and what follows it lie within the text, and go further
pub record Within (s : Bytes) (v : Taken) : Type 0 where
  pub value : v.start + v.len ≤ length s
  pub past : v.past ≤ length s
  pub further : 0 < v.past

begins_in : (s : Bytes) (at x : ℕ) → begins (x ∷ []) (drop at s) ≡ true → at < length s
begins_in s at x e = omega (arith, begins-fits (x ∷ []) (drop at s) e, length-drop at s)

pub value_within : (s : Bytes) (at : ℕ) → 0 < at → at ≤ length s → Within s (value_from s at)
unfolding value_from quoted_len
value_within s at h l = go (begins (b "\"") (drop at s)) refl
  where
    go : (t : Bool) → begins (b "\"") (drop at s) ≡ t
        → Within s (cond t (record { start = at + 1; len = quoted_from 0 (drop (at + 1) s); quoted = true; past = min (at + 1 + quoted_from 0 (drop (at + 1) s) + 1) (length s) })
        (record { start = at; len = word_len Unicode (drop at s); quoted = false; past = at + word_len Unicode (drop at s) }))
    go true e =
        let i = begins_in s at 34 e in
        let q = quoted_le 0 (drop (at + 1) s) in
        let d = length-drop (at + 1) s in
        record { value = omega arith; past = omega arith; further = omega arith }
    go false e =
        let q = word_le Unicode (drop at s) in
        let d = length-drop at s in
        record { value = omega arith; past = omega arith; further = omega arith }

module _ (s : Bytes) (from : ℕ) {r v : Bytes} {w : ℕ} {t : Bool} (er : r ≡ drop from s) (ew : w ≡ white_len Unicode r) (ev : v ≡ drop (from + w) s)
    (et : t ≡ begins (b "\"") v) where
  quote_here : t ≡ true → begins (b "\"") (drop (from + w) s) ≡ true
  quote_here e = ap (begins (b "\"")) (sym ev) ∙ sym et ∙ e

  pub quote_in : t ≡ true → from + w < length s
  quote_in e = begins_in s (from + w) 34 (quote_here e)

  pub quote_ends : t ≡ true → {u : Bytes} {n : ℕ} → u ≡ drop (from + w + 1) s → n ≡ quoted_len u → from + w + 1 + n ≤ length s
  unfolding quoted_len
  quote_ends e {u} eu en = omega (arith, quote_in e, ap length eu, length-drop (from + w + 1) s, quoted_le 0 u)

  pub value_quoted : t ≡ true → {u : Bytes} {n p : ℕ} → u ≡ drop (from + w + 1) s → n ≡ quoted_len u → p ≡ min (from + w + 1 + n + 1) (length s)
      → ◌≡◌ {A = Taken} (record { start = from + w + 1; len = n; quoted = true; past = p }) (value_at s from)
  unfolding value_at value_from
  value_quoted e eu en ep = rw (ep, en, eu) (rw (← er, ← ew, quote_here e))

  pub value_bare : t ≡ false → {n : ℕ} → n ≡ word_len Unicode v
      → ◌≡◌ {A = Taken} (record { start = from + w; len = n; quoted = false; past = from + w + n }) (value_at s from)
  unfolding value_at value_from
  value_bare e en = rw (en, ev) (rw (← er, ← ew, ap (begins (b "\"")) (sym ev) ∙ sym et ∙ e))

  pub bare_ends : {n : ℕ} → n ≡ word_len Unicode v → from + w + n ≤ max (from + w) (length s)
  bare_ends en = omega (arith, ap length ev, length-drop (from + w) s, word_le Unicode v)

-- ---- the pieces of a quoted value, between its escaped quotes

-- a text that begins with `\"`
escape_here : (x : ℕ) (s : Bytes) → begins (b "\\\"") (x ∷ s) ≡ true → unquoted (x ∷ s) ≡ 34 ∷ unquoted (drop 2 (x ∷ s))
unfolding unquoted begins
escape_here x [] e = absurd (let no_way : ◌≡◌ {A = ℕ} 0 1 = cc (and-false (eqb 92 x)) in omega arith)
escape_here x (y ∷ s) e =
    let both = and-true (eqb 92 x) (eqb 34 y && true) e in
    let q : 34 ≡ y = eqb-true 34 y (and-true (eqb 34 y) true both.1).0 in
    rw (e, ← q)

piece_cut : (s : Bytes) → find (b "\\\"") s < length s → unquoted s ≡ take (find (b "\\\"") s) s ++ 34 ∷ unquoted (drop (find (b "\\\"") s + 2) s)
unfolding first_at unquoted
piece_cut [] h = absurd (omega arith)
piece_cut (x ∷ s) h = go (begins (b "\\\"") (x ∷ s)) refl h (λ l. piece_cut s l)
  where
    go : (t : Bool) → begins (b "\\\"") (x ∷ s) ≡ t → elim t as (λ t. ℕ) [ true ↦ 0 | false ↦ suc (find (b "\\\"") s) ] < suc (length s)
        → (find (b "\\\"") s < length s → unquoted s ≡ take (find (b "\\\"") s) s ++ 34 ∷ unquoted (drop (find (b "\\\"") s + 2) s))
        → unquoted (x ∷ s) ≡ take (elim t as (λ t. ℕ) [ true ↦ 0 | false ↦ suc (find (b "\\\"") s) ]) (x ∷ s)
        ++ 34 ∷ unquoted (drop (elim t as (λ t. ℕ) [ true ↦ 0 | false ↦ suc (find (b "\\\"") s) ] + 2) (x ∷ s))
    go true e l f = escape_here x s e
    go false e l f =
        let n : suc (find (b "\\\"") s) + 2 ≡ suc (find (b "\\\"") s + 2) = omega arith in
        rw (e, n) (ap (λ (z : Bytes). x ∷ z) (f (omega arith)))

piece-all : (s : Bytes) → length s ≤ find (b "\\\"") s → unquoted s ≡ s
unfolding first_at unquoted
piece-all [] h = refl
piece-all (x ∷ s) h = go (begins (b "\\\"") (x ∷ s)) refl h (λ l. piece-all s l)
  where
    go : (t : Bool) → begins (b "\\\"") (x ∷ s) ≡ t → suc (length s) ≤ elim t as (λ t. ℕ) [ true ↦ 0 | false ↦ suc (find (b "\\\"") s) ]
        → (length s ≤ find (b "\\\"") s → unquoted s ≡ s) → unquoted (x ∷ s) ≡ x ∷ s
    go true e l f = absurd (omega arith)
    go false e l f = rw e (ap (λ (z : Bytes). x ∷ z) (f (omega arith)))

-- a piece, a `"`, and what follows the `\"`
pub piece-some : (s : Bytes) {n : ℕ} → n ≡ piece_len s → n < length s → unquoted s ≡ take n s ++ 34 ∷ unquoted (drop (n + 2) s)
unfolding piece_len
piece-some s e h = rw e (piece_cut s (omega arith))

-- the last piece
pub piece-last : (s : Bytes) {n : ℕ} → n ≡ piece_len s → length s ≤ n → unquoted s ≡ s
unfolding piece_len
piece-last s e h = piece-all s (omega arith)

-- where there is a `\"`, both of its bytes are in the text
pub piece_in : (s : Bytes) {n : ℕ} → n ≡ piece_len s → n < length s → n + 2 ≤ length s
unfolding piece_len
piece_in s e h =
    omega (arith, begins-fits (b "\\\"") (drop (find (b "\\\"") s) s) (first_found (begins (b "\\\"")) s (omega arith)), length-drop (find (b "\\\"") s) s)
