-- Laws of the test of UTF-8: blocks of ASCII, and sequences.
use mathlib.Core.Path.{◌≡◌, refl, sym, ap, ◌∙◌}
use mathlib.Core.Bool.{Bool, true, false, ◌||◌}
use mathlib.Core.List.{[], ◌∷◌}
use Prim.Native.Nat.{ℕ, zero, suc, ◌+◌, ◌-◌, ◌≤◌, ◌<◌}
use native.Mathlib.Omega.{arith}
use lib.ListN.{length, take, drop, drop_of_length-le, length-drop}
use lib.Seq.{drop-drop}
use lib.Dec.{leb, eqb}
use borrow.Author.Tests.{leb-false, eqb-true, eqb-false}
use Rattle.std.specs.List.{list_any}
use Rattle.parts.specs.Bytes.{Bytes}
use Rattle.parts.proofs.Laws.{drop-part}
use Rattle.chars.specs.Utf8.{seq_len, is_utf8}
use Rattle.chars.specs.Pass.{any_high, PassTo}
use Rattle.chars.proofs.Characters.{seq_le, utf8_nil, utf8_first, utf8_not}
use Rattle.chars.proofs.Laws.{len_one}

-- ---- a block

pub any-high : (s : Bytes) → any_high s ≡ list_any (leb 128) s
unfolding any_high
any-high [] = refl
any-high (x ∷ s) = ap (λ (t : Bool). leb 128 x || t) (any-high s)

-- ASCII in front changes nothing
ascii_skip : (n : ℕ) (s : Bytes) → n ≤ length s → any_high (take n s) ≡ false → is_utf8 (drop n s) ≡ is_utf8 s
unfolding any_high
ascii_skip zero s h e = refl
ascii_skip (suc n) [] h e = absurd (omega arith)
ascii_skip (suc n) (x ∷ s) h e = go (leb 128 x) refl e (λ e. ascii_skip n s (omega arith) e)
  where
    go : (t : Bool) → leb 128 x ≡ t → t || any_high (take n s) ≡ false → (any_high (take n s) ≡ false → is_utf8 (drop n s) ≡ is_utf8 s)
        → is_utf8 (drop n s) ≡ is_utf8 (x ∷ s)
    go true l e f = absurd (let no_way : ◌≡◌ {A = ℕ} 0 1 = cc in omega arith)
    go false l e f =
        let one : 1 ≡ seq_len (x ∷ s) = len_one (x ∷ s) (λ z. omega arith) (leb-false 128 x l) in
        f e ∙ sym (utf8_first (x ∷ s) (omega arith) ∙ rw (← one))

-- ---- how far it has come

pub pass_start : (s : Bytes) → PassTo s 0
pass_start s = record { within = omega arith; rest = refl }

module _ {s : Bytes} {i : ℕ} (p : PassTo s i) where
  -- further by what passes of the rest
  pub pass_on : {n : ℕ} → PassTo (take (length s - i) (drop i s)) n → PassTo s (i + n)
  pass_on {n} q =
      let e = drop-part s i in
      record {
        within = omega (arith, p.within, q.within, ap length e, length-drop i s);
        rest = ap is_utf8 (sym (drop-drop n i s)) ∙ ap (λ (r : Bytes). is_utf8 (drop n r)) (sym e) ∙ q.rest ∙ ap is_utf8 e ∙ p.rest;
      }

  -- by a block without a byte beyond ASCII
  pub pass_block : (n : ℕ) → i + n ≤ length s → any_high (take n (drop i s)) ≡ false → PassTo s (i + n)
  pass_block n h e =
      let skip = ascii_skip n (drop i s) (omega (arith, length-drop i s)) e in
      record { within = omega (arith, p.within); rest = ap is_utf8 (sym (drop-drop n i s)) ∙ skip ∙ p.rest }

  module _ {n : ℕ} (e : n ≡ seq_len (drop i s)) where
    pub pass_fits : i + n ≤ length s
    pass_fits = omega (arith, p.within, seq_le (drop i s), length-drop i s)

    -- by a sequence
    pub pass_sequence : (n ≡ 0 → ⊥) → PassTo s (i + n)
    pass_sequence z =
        record { within = pass_fits; rest = rw (← drop-drop n i s, e) (sym (utf8_first (drop i s) (omega arith)) ∙ p.rest) }

    -- where none begins the text is no UTF-8
    pub pass_stuck : n ≡ 0 → i ≡ 0 → 0 < length s → is_utf8 s ≡ false
    pass_stuck z o l = sym p.rest ∙ utf8_not (drop i s) (omega (arith, length-drop i s)) (sym e ∙ z)

  -- the end
  pub pass_end : length s ≤ i → true ≡ is_utf8 s
  pass_end h = sym utf8_nil ∙ rw (← drop_of_length-le s h) p.rest

  -- where nothing more passes it is the end, or the text is no UTF-8
  pub pass_none : (0 < length (take (length s - i) (drop i s)) → is_utf8 (take (length s - i) (drop i s)) ≡ false) → eqb i (length s) ≡ is_utf8 s
  pass_none f = go (eqb i (length s)) refl
    where
      e : take (length s - i) (drop i s) ≡ drop i s
      e = drop-part s i

      go : (t : Bool) → eqb i (length s) ≡ t → t ≡ is_utf8 s
      go true q = pass_end (omega (arith, eqb-true i (length s) q))
      go false q =
          let more = f (omega (arith, eqb-false i (length s) q, ap length e, length-drop i s, p.within)) in
          sym more ∙ ap is_utf8 e ∙ p.rest
