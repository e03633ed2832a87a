-- A lean text is normalized as the text is.
use mathlib.Core.Path.{◌≡◌, refl, sym, ap, ◌∙◌, subst}
use mathlib.Core.Bool.{Bool, true, false, cond, ◌&&◌}
use mathlib.Core.List.{[], ◌∷◌}
use Prim.Native.Nat.{ℕ, suc, ◌-◌}
use native.Mathlib.Omega.{arith}
use lib.ListN.{length}
use lib.Dec.{eqb, leb, ltb}
use borrow.Author.Tests.{lt-ltb, leb-true, eqb-true, eqb-false}
use Rattle.parts.specs.Bytes.{Bytes}
use Rattle.parts.proofs.Laws.{and-true as both_hold}
use Rattle.chars.specs.Range.{◌to◌, within, in_any}
use Rattle.chars.specs.Utf8.{fits, row_len, table37, seq_len, step, cut_at, every, is_sequence, point, code_of}
use Rattle.chars.specs.Space.{is_ascii_white, is_white, white_space}
use Rattle.words.specs.Words.{step_of, chars_of, white, is_blank_of as blank}
use Rattle.words.specs.declared.Set.{Set}
use Rattle.words.specs.declared.Set.TheVariants.{Ascii, Unicode}
use Rattle.texts.specs.Text.{hard_spaces, body_of, starts_white, ends_white, blank_lead, normalize_text}
use Rattle.texts.proofs.Edges.{blank_step}
use Rattle.texts.proofs.Told.{told-white, told-words}
use Rattle.leading_white.specs.Lean.{lean}

-- what does not change when a white byte in front of another goes is the same of the lean text
module _ {A : Type 0} (f : Bytes → A) (same : (x y : ℕ) (s : Bytes) → is_ascii_white x ≡ true → is_ascii_white y ≡ true → f (x ∷ y ∷ s) ≡ f (y ∷ s)) where
  pub lean-same : (s : Bytes) → f (lean s) ≡ f s
  unfolding lean
  lean-same [] = refl
  lean-same (x ∷ []) = refl
  lean-same (x ∷ y ∷ s) = go (is_ascii_white x && is_ascii_white y) refl (lean-same (y ∷ s))
    where
      go : (b : Bool) → is_ascii_white x && is_ascii_white y ≡ b → f (lean (y ∷ s)) ≡ f (y ∷ s) → f (cond b (lean (y ∷ s)) (x ∷ y ∷ s)) ≡ f (x ∷ y ∷ s)
      go true e q = let w = both_hold (is_ascii_white x) (is_ascii_white y) e in q ∙ sym (same x y s w.0 w.1)
      go false e q = refl

-- what holds of the five white bytes
module _ (P : ℕ → Type 0) where
  one_of_two : (a x : ℕ) → P a → P (suc a) → within (a to suc a) x ≡ true → P x
  unfolding within
  one_of_two a x p q h = go (eqb x a) refl
    where
      ends : (leb a x ≡ true) × (leb x (suc a) ≡ true)
      ends = both_hold (leb a x) (leb x (suc a)) h

      next : (x ≡ a → ⊥) → suc a ≡ x
      next n = let l = leb-true a x ends.0 in let k = leb-true x (suc a) ends.1 in omega arith

      go : (b : Bool) → eqb x a ≡ b → P x
      go true e = subst P (sym (eqb-true x a e)) p
      go false e = subst P (next (eqb-false x a e)) q

  the_space : (x : ℕ) → P 32 → within (32 to 32) x ≡ true → P x
  unfolding within
  the_space x p h =
      let ends = both_hold (leb 32 x) (leb x 32) h in
      let l = leb-true 32 x ends.0 in
      let k = leb-true x 32 ends.1 in
      let e : 32 ≡ x = omega arith in
      subst P e p

  white_bytes : P 9 → P 10 → P 12 → P 13 → P 32 → (x : ℕ) → is_ascii_white x ≡ true → P x
  unfolding is_ascii_white in_any
  white_bytes tab feed page back space x h = go (within (9 to 10) x) refl (within (12 to 13) x) refl (within (32 to 32) x) refl
    where
      go : (a : Bool) → within (9 to 10) x ≡ a → (d : Bool) → within (12 to 13) x ≡ d → (z : Bool) → within (32 to 32) x ≡ z → P x
      go true e d f z g = one_of_two 9 x tab feed e
      go false e true f z g = one_of_two 12 x page back f
      go false e false f true g = the_space x space g
      go false e false f false g = absurd (let n : ◌≡◌ {A = Bool} false true = rw (e, f, g) at h in let no_way : ◌≡◌ {A = ℕ} 0 1 = cc in omega arith)

white_wide : (x : ℕ) (s : Bytes) → is_ascii_white x ≡ true → blank Unicode (x ∷ s) ≡ blank Unicode s
unfolding blank every chars_of cut_at step_of step seq_len row_len table37 fits within white is_white white_space in_any code_of is_sequence point
white_wide x s h = white_bytes (λ (k : ℕ). blank Unicode (k ∷ s) ≡ blank Unicode s) refl refl refl refl refl x h

-- a text is blank by either set if it is so without a white byte in front
pub blank_lean : (set : Set) (s : Bytes) → blank set (lean s) ≡ blank set s
blank_lean Ascii = lean-same (blank Ascii) (λ x y s hx hy. blank_step x (y ∷ s) ∙ rw hx)
blank_lean Unicode = lean-same (blank Unicode) (λ x y s hx hy. white_wide x (y ∷ s) hx)

some-lean : (s : Bytes) → ltb 0 (length (lean s)) ≡ ltb 0 (length s)
some-lean = lean-same (λ (s : Bytes). ltb 0 (length s)) (λ x y s hx hy. lt-ltb 0 (length (x ∷ y ∷ s)) (omega arith) ∙ sym (lt-ltb 0 (length (y ∷ s)) (omega arith)))

starts_lean : (s : Bytes) → starts_white (lean s) ≡ starts_white s
unfolding starts_white
starts_lean = lean-same starts_white (λ x y s hx hy. hx ∙ sym hy)

pub ends-lean : (s : Bytes) → ends_white (lean s) ≡ ends_white s
unfolding ends_white
ends-lean = lean-same ends_white (λ x y s hx hy. let n : length (x ∷ y ∷ s) - 1 ≡ suc (length (y ∷ s) - 1) = omega arith in rw n)

pub body-lean : (s : Bytes) → body_of (lean s) ≡ body_of s
unfolding body_of
body-lean = lean-same body_of (λ x y s hx hy. ap hard_spaces (sym (told-words (x ∷ y ∷ s)) ∙ told-white x (y ∷ s) hx ∙ told-words (y ∷ s)))

pub normalize_lean : (s : Bytes) (a z : Bool) → normalize_text (lean s) a z ≡ normalize_text s a z
unfolding normalize_text blank_lead
normalize_lean s a z = rw (blank_lean Ascii s, some-lean s, starts_lean s, ends-lean s)
