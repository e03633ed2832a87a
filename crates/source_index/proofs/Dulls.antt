-- A dull byte begins no white space and no character that ends a name.
use mathlib.Core.Path.{◌≡◌, refl, sym, ap, ◌∙◌}
use mathlib.Core.Bool.{Bool, true, false, cond, ◌&&◌, ◌||◌}
use mathlib.Core.List.{[], ◌∷◌}
use Prim.Native.Nat.{ℕ, ◌+◌, ◌-◌, ◌*◌, ◌≤◌, ◌<◌}
use native.Mathlib.Omega.{arith}
use lib.ListN.{length, get_or, take}
use lib.Dec.{eqb, ltb, leb}
use borrow.Author.Tests.{ltb-true, ltb-false, leb-true, leb-false, eqb-true, eqb-false, ne_eqb}
use Rattle.parts.specs.Bytes.{Bytes}
use Rattle.parts.proofs.Laws.{and-true as both_true}
use Rattle.chars.specs.Range.{◌to◌, within, in_any}
use Rattle.chars.specs.Utf8.{tail, seq_len, step, point, code_of, first_char}
use Rattle.chars.specs.Space.{is_white, white_space}
use Rattle.chars.specs.declared.Char.{Char}
use Rattle.chars.proofs.Laws.{below, beyond, two-rows, second3, three_rows, second4, four-rows, no_rows, len_at, len_one, first-odd, first_one, first_two, first_three, first-four}
use Rattle.tape.specs.Name.{ends_name_of}
use Rattle.source_index.specs.Seek.{Dull}

-- ---- code points that end no name

module _ (c : ℕ) where
  quiet_low : 32 < c → c < 133 → (c ≡ 42 → ⊥) → (c ≡ 124 → ⊥) → (c ≡ 92 → ⊥) → ends_name_of c ≡ false
  unfolding ends_name_of is_white white_space in_any
  quiet_low l h s v b =
      simp (
        beyond 9 13 c (omega arith),
        beyond 32 32 c (omega arith),
        below 133 133 c (omega arith),
        below 160 160 c (omega arith),
        below 5760 5760 c (omega arith),
        below 8192 8202 c (omega arith),
        below 8232 8233 c (omega arith),
        below 8239 8239 c (omega arith),
        below 8287 8287 c (omega arith),
        below 12288 12288 c (omega arith),
        ne_eqb c 42 s,
        ne_eqb c 124 v,
        ne_eqb c 92 b,
      )

  quiet_middle : 160 < c → c < 5760 → ends_name_of c ≡ false
  unfolding ends_name_of is_white white_space in_any
  quiet_middle l h =
      simp (
        beyond 9 13 c (omega arith),
        beyond 32 32 c (omega arith),
        beyond 133 133 c (omega arith),
        beyond 160 160 c (omega arith),
        below 5760 5760 c (omega arith),
        below 8192 8202 c (omega arith),
        below 8232 8233 c (omega arith),
        below 8239 8239 c (omega arith),
        below 8287 8287 c (omega arith),
        below 12288 12288 c (omega arith),
        ne_eqb c 42 (λ e. omega arith),
        ne_eqb c 124 (λ e. omega arith),
        ne_eqb c 92 (λ e. omega arith),
      )

  quiet_high : 12288 < c → ends_name_of c ≡ false
  unfolding ends_name_of is_white white_space in_any
  quiet_high l =
      simp (
        beyond 9 13 c (omega arith),
        beyond 32 32 c (omega arith),
        beyond 133 133 c (omega arith),
        beyond 160 160 c (omega arith),
        beyond 5760 5760 c (omega arith),
        beyond 8192 8202 c (omega arith),
        beyond 8232 8233 c (omega arith),
        beyond 8239 8239 c (omega arith),
        beyond 8287 8287 c (omega arith),
        beyond 12288 12288 c (omega arith),
        ne_eqb c 42 (λ e. omega arith),
        ne_eqb c 124 (λ e. omega arith),
        ne_eqb c 92 (λ e. omega arith),
      )

  -- what ends no name is no white space
  pub ends_white_not : ends_name_of c ≡ false → is_white c ≡ false
  unfolding ends_name_of
  ends_white_not h = go (is_white c) refl h
    where
      go : (w : Bool) → is_white c ≡ w → w || (eqb c 42 || (eqb c 124 || eqb c 92)) ≡ false → w ≡ false
      go true e q = q
      go false e q = refl

-- ---- the first character behind a dull byte

within_is : (l h x : ℕ) → within (l to h) x ≡ true → (l ≤ x) × (x ≤ h)
unfolding within
within_is l h x e = let b = both_true (leb l x) (leb x h) e in (leb-true l x b.0, leb-true x h b.1)

three_low : (x y z : ℕ) → x ≡ 224 → 160 ≤ y → y ≤ 191 → z ≤ 191
    → (160 < (x - 224) * 4096 + (y - 128) * 64 + (z - 128)) × ((x - 224) * 4096 + (y - 128) * 64 + (z - 128) < 5760)
three_low x y z e l h k = (omega arith, omega arith)

three_high : (x a b : ℕ) → 227 < x → 12288 < (x - 224) * 4096 + a + b
three_high x a b h = omega arith

-- four bytes give a code point above all white space
four_low : (x y a b : ℕ) → 144 ≤ y → 12288 < (x - 240) * 262144 + (y - 128) * 4096 + a + b
four_low x y a b h = omega arith

four_high : (x a b c : ℕ) → 240 < x → 12288 < (x - 240) * 262144 + a + b + c
four_high x a b c h = omega arith

module _ (s : Bytes) (some : length s ≡ 0 → ⊥) (d : Dull (get_or s 0 0)) where
  code_of_lem : {k w : ℕ} → ◌≡◌ {A = Char} (record { code = k; width = w }) (first_char s) → ends_name_of k ≡ false → ends_name_of (code_of (take (step s) s)) ≡ false
  unfolding first_char
  code_of_lem {k} e h = let q : k ≡ code_of (take (step s) s) = ap (λ (c : Char). c.code) e in rw (← q) h

  odd : seq_len s ≡ 0 → ends_name_of (code_of (take (step s) s)) ≡ false
  odd e = code_of_lem (first-odd s (seq_len s) refl some e) (quiet_high 65533 (omega arith))

  one : get_or s 0 0 < 128 → ends_name_of (code_of (take (step s) s)) ≡ false
  one h =
      code_of_lem (first_one s (seq_len s) refl refl (sym (len_one s some h)) refl)
      (quiet_low (get_or s 0 0) d.low (omega arith) d.star d.bar d.slash)

  two : 128 ≤ get_or s 0 0 → get_or s 0 0 < 224 → ends_name_of (code_of (take (step s) s)) ≡ false
  unfolding point
  two l h = go (within (194 to 223) (get_or s 0 0) && within tail (get_or s 1 0)) refl
    where
      len : seq_len s ≡ cond (within (194 to 223) (get_or s 0 0) && within tail (get_or s 1 0)) 2 0
      len = len_at s some ∙ two-rows (get_or s 0 0) (get_or s 1 0) (get_or s 2 0) (get_or s 3 0) l (omega arith)

      go : (t : Bool) → (within (194 to 223) (get_or s 0 0) && within tail (get_or s 1 0)) ≡ t → ends_name_of (code_of (take (step s) s)) ≡ false
      go false e = odd (len ∙ rw e)
      go true e =
          let b = both_true (within (194 to 223) (get_or s 0 0)) (within tail (get_or s 1 0)) e in
          let f = within_is 194 223 (get_or s 0 0) b.0 in
          let g = within_is 128 191 (get_or s 1 0) b.1 in
          let n : 194 < get_or s 0 0 = omega (arith, d.two) in
          code_of_lem (first_two s (seq_len s) refl refl refl (len ∙ rw e) refl) (quiet_middle _ (omega arith) (omega arith))

  three : 224 ≤ get_or s 0 0 → get_or s 0 0 < 240 → ends_name_of (code_of (take (step s) s)) ≡ false
  unfolding point second3
  three l h = go (second3 (get_or s 0 0) (get_or s 1 0) (get_or s 2 0) (get_or s 3 0) && within tail (get_or s 2 0)) refl (eqb (get_or s 0 0) 224) refl
    where
      len : seq_len s ≡ cond (second3 (get_or s 0 0) (get_or s 1 0) (get_or s 2 0) (get_or s 3 0) && within tail (get_or s 2 0)) 3 0
      len = len_at s some ∙ three_rows (get_or s 0 0) (get_or s 1 0) (get_or s 2 0) (get_or s 3 0) l (omega arith)

      go : (t : Bool) → (second3 (get_or s 0 0) (get_or s 1 0) (get_or s 2 0) (get_or s 3 0) && within tail (get_or s 2 0)) ≡ t → (u : Bool) → eqb (get_or s 0 0) 224 ≡ u
          → ends_name_of (code_of (take (step s) s)) ≡ false
      go false e u f = odd (len ∙ rw e)
      go true e true f =
          let b = both_true (second3 (get_or s 0 0) (get_or s 1 0) (get_or s 2 0) (get_or s 3 0)) (within tail (get_or s 2 0)) e in
          let q = eqb-true (get_or s 0 0) 224 f in
          let g = within_is 160 191 (get_or s 1 0) (rw f at b.0) in
          let k = within_is 128 191 (get_or s 2 0) b.1 in
          let v = three_low (get_or s 0 0) (get_or s 1 0) (get_or s 2 0) q g.0 g.1 k.1 in
          code_of_lem (first_three s (seq_len s) refl refl refl refl (len ∙ rw e) refl) (quiet_middle _ v.0 v.1)
      go true e false f =
          let m : 225 ≤ get_or s 0 0 = omega (arith, eqb-false (get_or s 0 0) 224 f) in
          let n : 227 < get_or s 0 0 = d.three m in
          code_of_lem (first_three s (seq_len s) refl refl refl refl (len ∙ rw e) refl) (quiet_high _ (three_high (get_or s 0 0) _ _ n))

  four : 240 ≤ get_or s 0 0 → get_or s 0 0 ≤ 244 → ends_name_of (code_of (take (step s) s)) ≡ false
  unfolding point second4
  four l h =
      go (second4 (get_or s 0 0) (get_or s 1 0) (get_or s 2 0) (get_or s 3 0) && (within tail (get_or s 2 0) && within tail (get_or s 3 0))) refl (eqb (get_or s 0 0) 240) refl
    where
      len : seq_len s ≡ cond (second4 (get_or s 0 0) (get_or s 1 0) (get_or s 2 0) (get_or s 3 0) && (within tail (get_or s 2 0) && within tail (get_or s 3 0))) 4 0
      len = len_at s some ∙ four-rows (get_or s 0 0) (get_or s 1 0) (get_or s 2 0) (get_or s 3 0) l h

      long : {n : ℕ} → n ≡ 4 → {k : ℕ} → k ≡ point (get_or s 0 0 ∷ get_or s 1 0 ∷ get_or s 2 0 ∷ get_or s 3 0 ∷ []) → n ≡ seq_len s
          → ◌≡◌ {A = Char} (record { code = k; width = 4 }) (first_char s)
      long {n} q f e = first-four s n e refl refl refl refl (λ z. omega arith) (λ z. omega arith) (λ z. omega arith) (λ z. omega arith) f

      go : (t : Bool) → (second4 (get_or s 0 0) (get_or s 1 0) (get_or s 2 0) (get_or s 3 0) && (within tail (get_or s 2 0) && within tail (get_or s 3 0))) ≡ t
          → (u : Bool) → eqb (get_or s 0 0) 240 ≡ u → ends_name_of (code_of (take (step s) s)) ≡ false
      go false e u f = odd (len ∙ rw e)
      go true e true f =
          let b = both_true (second4 (get_or s 0 0) (get_or s 1 0) (get_or s 2 0) (get_or s 3 0)) (within tail (get_or s 2 0) && within tail (get_or s 3 0)) e in
          let g = within_is 144 191 (get_or s 1 0) (rw f at b.0) in
          code_of_lem (long (len ∙ rw e) refl refl) (quiet_high _ (four_low (get_or s 0 0) (get_or s 1 0) _ _ g.0))
      go true e false f =
          let n : 240 < get_or s 0 0 = omega (arith, eqb-false (get_or s 0 0) 240 f) in
          code_of_lem (long (len ∙ rw e) refl refl) (quiet_high _ (four_high (get_or s 0 0) _ _ _ n))

  pub dull_first : ends_name_of (code_of (take (step s) s)) ≡ false
  dull_first = go (ltb (get_or s 0 0) 128) refl (ltb (get_or s 0 0) 224) refl (ltb (get_or s 0 0) 240) refl (leb (get_or s 0 0) 244) refl
    where
      go : (a : Bool) → ltb (get_or s 0 0) 128 ≡ a → (b : Bool) → ltb (get_or s 0 0) 224 ≡ b → (c : Bool) → ltb (get_or s 0 0) 240 ≡ c
          → (f : Bool) → leb (get_or s 0 0) 244 ≡ f → ends_name_of (code_of (take (step s) s)) ≡ false
      go true ea b eb c ec f ef = one (ltb-true _ _ ea)
      go false ea true eb c ec f ef = two (ltb-false _ _ ea) (ltb-true _ _ eb)
      go false ea false eb true ec f ef = three (ltb-false _ _ eb) (ltb-true _ _ ec)
      go false ea false eb false ec true ef = four (ltb-false _ _ ec) (leb-true _ _ ef)
      go false ea false eb false ec false ef =
          odd (len_at s some ∙ no_rows (get_or s 0 0) (get_or s 1 0) (get_or s 2 0) (get_or s 3 0) (leb-false _ _ ef))
