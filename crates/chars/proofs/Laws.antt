-- Laws of the code's returns and turns.
use mathlib.Core.Path.{◌≡◌, refl, sym, ◌∙◌}
use mathlib.Core.Bool.{Bool, true, false, cond, not, ◌&&◌, and-false, and-true, or-false}
use mathlib.Core.List.{[], ◌∷◌}
use Prim.Native.Nat.{ℕ, ◌+◌, ◌-◌, ◌*◌, ◌≤◌, ◌<◌}
use native.Mathlib.Omega.{arith}
use lib.ListN.{length, get_or, take, drop, length-drop}
use lib.Dec.{leb, eqb}
use borrow.Author.Tests.{ne_eqb, lt-ltb, le-ltb, le-leb, lt-leb, eqb-true, eqb-false, leb-true, leb-false}
use Rattle.parts.specs.Bytes.{Bytes}
use Rattle.parts.proofs.Laws.{drop_at}
use Rattle.chars.specs.Range.{◌to◌, within}
use Rattle.chars.specs.Utf8.{tail, table37, fits, row_len, seq_len, step, is_sequence, point, code_of, first_char, is_boundary}
use Rattle.chars.specs.declared.Char.{Char}
use Rattle.chars.proofs.Characters.{seq_le, seq_le_four, seq_is, byte_is_not, step_seq, step_byte}

-- ---- ranges

module _ (l h x : ℕ) where
  pub below : x < l → within (l to h) x ≡ false
  unfolding within
  below n = rw (lt-leb l x n)

  pub beyond : h < x → within (l to h) x ≡ false
  unfolding within
  beyond n = rw (lt-leb x h n) (and-false (leb l x))

  pub inside : l ≤ x → x ≤ h → within (l to h) x ≡ true
  unfolding within
  inside m n = rw (le-leb l x m, le-leb x h n)

-- a range of one number
pub one_point : (n x : ℕ) → eqb x n ≡ within (n to n) x
one_point n x = go (eqb x n) refl (leb x n) refl
  where
    go : (t : Bool) → eqb x n ≡ t → (u : Bool) → leb x n ≡ u → t ≡ within (n to n) x
    go true e u f = let q = eqb-true x n e in sym (inside n n x (omega arith) (omega arith))
    go false e true f =
        let q = eqb-false x n e in
        let k = leb-true x n f in sym (below n n x (omega arith))
    go false e false f = let k = leb-false x n f in sym (beyond n n x (omega arith))

-- ---- the rows of table 3-7

-- a byte that is missing may be taken for 0
pub padded : (x : ℕ) (s : Bytes) → seq_len (x ∷ s) ≡ seq_len (x ∷ get_or s 0 0 ∷ get_or s 1 0 ∷ get_or s 2 0 ∷ [])
unfolding seq_len row_len table37 fits within
padded x [] = refl
padded x (y ∷ []) = refl
padded x (y ∷ z ∷ []) = refl
padded x (y ∷ z ∷ w ∷ s) = refl

module _ (x y z w : ℕ) where
  pub one_row : x ≤ 127 → seq_len (x ∷ y ∷ z ∷ w ∷ []) ≡ 1
  unfolding seq_len row_len table37 fits
  one_row h = simp (inside 0 127 x (omega arith) h)

  pub two-rows : 128 ≤ x → x ≤ 223 → seq_len (x ∷ y ∷ z ∷ w ∷ []) ≡ cond (within (194 to 223) x && within tail y) 2 0
  unfolding seq_len row_len table37 fits
  two-rows l h =
      simp (
        beyond 0 127 x (omega arith),
        below 224 224 x (omega arith),
        below 225 236 x (omega arith),
        below 237 237 x (omega arith),
        below 238 239 x (omega arith),
        below 240 240 x (omega arith),
        below 241 243 x (omega arith),
        below 244 244 x (omega arith),
        and-true,
      )

  -- in the rows of three bytes the range of the second goes by the first
  unfoldable pub second3 : Bool
  second3 = cond (eqb x 224) (within (160 to 191) y) (cond (eqb x 237) (within (128 to 159) y) (within tail y))

  pub three_rows : 224 ≤ x → x ≤ 239 → seq_len (x ∷ y ∷ z ∷ w ∷ []) ≡ cond (second3 && within tail z) 3 0
  unfolding seq_len row_len table37 fits second3
  three_rows l h =
      simp (
        beyond 0 127 x (omega arith),
        beyond 194 223 x (omega arith),
        below 240 240 x (omega arith),
        below 241 243 x (omega arith),
        below 244 244 x (omega arith),
        and-true,
      )
      (go (eqb x 224) refl (eqb x 237) refl (leb x 236) refl)
    where
      go : (t : Bool) → eqb x 224 ≡ t → (u : Bool) → eqb x 237 ≡ u → (v : Bool) → leb x 236 ≡ v
          → ◌≡◌ {A = ℕ}
          (cond (within (224 to 224) x && (within (160 to 191) y && within tail z)) 3
          (cond (within (225 to 236) x && (within tail y && within tail z)) 3
          (cond (within (237 to 237) x && (within (128 to 159) y && within tail z)) 3
          (cond (within (238 to 239) x && (within tail y && within tail z)) 3 0))))
          (cond (cond t (within (160 to 191) y) (cond u (within (128 to 159) y) (within tail y)) && within tail z) 3 0)
      go true e u f v g =
          let q = eqb-true x 224 e in
          simp (inside 224 224 x (omega arith) (omega arith), below 225 236 x (omega arith), below 237 237 x (omega arith), below 238 239 x (omega arith))
      go false e true f v g =
          let q = eqb-true x 237 f in
          simp (beyond 224 224 x (omega arith), beyond 225 236 x (omega arith), inside 237 237 x (omega arith) (omega arith), below 238 239 x (omega arith))
      go false e false f true g =
          let p = eqb-false x 224 e in
          let q = leb-true x 236 g in
          simp (beyond 224 224 x (omega arith), inside 225 236 x (omega arith) (omega arith), below 237 237 x (omega arith), below 238 239 x (omega arith))
      go false e false f false g =
          let p = eqb-false x 237 f in
          let q = leb-false x 236 g in
          simp (beyond 224 224 x (omega arith), beyond 225 236 x (omega arith), beyond 237 237 x (omega arith), inside 238 239 x (omega arith) (omega arith))

  unfoldable pub second4 : Bool
  second4 = cond (eqb x 240) (within (144 to 191) y) (cond (eqb x 244) (within (128 to 143) y) (within tail y))

  pub four-rows : 240 ≤ x → x ≤ 244 → seq_len (x ∷ y ∷ z ∷ w ∷ []) ≡ cond (second4 && (within tail z && within tail w)) 4 0
  unfolding seq_len row_len table37 fits second4
  four-rows l h =
      simp (
        beyond 0 127 x (omega arith),
        beyond 194 223 x (omega arith),
        beyond 224 224 x (omega arith),
        beyond 225 236 x (omega arith),
        beyond 237 237 x (omega arith),
        beyond 238 239 x (omega arith),
        and-true,
      )
      (go (eqb x 240) refl (eqb x 244) refl)
    where
      go : (t : Bool) → eqb x 240 ≡ t → (u : Bool) → eqb x 244 ≡ u
          → ◌≡◌ {A = ℕ}
          (cond (within (240 to 240) x && (within (144 to 191) y && (within tail z && within tail w))) 4
          (cond (within (241 to 243) x && (within tail y && (within tail z && within tail w))) 4
          (cond (within (244 to 244) x && (within (128 to 143) y && (within tail z && within tail w))) 4 0)))
          (cond (cond t (within (144 to 191) y) (cond u (within (128 to 143) y) (within tail y)) && (within tail z && within tail w)) 4 0)
      go true e u f =
          let q = eqb-true x 240 e in
          simp (inside 240 240 x (omega arith) (omega arith), below 241 243 x (omega arith), below 244 244 x (omega arith))
      go false e true f =
          let q = eqb-true x 244 f in
          simp (beyond 240 240 x (omega arith), beyond 241 243 x (omega arith), inside 244 244 x (omega arith) (omega arith))
      go false e false f =
          let p = eqb-false x 240 e in
          let q = eqb-false x 244 f in
          simp (beyond 240 240 x (omega arith), inside 241 243 x (omega arith) (omega arith), below 244 244 x (omega arith))

  -- F5..FF begin no sequence
  pub no_rows : 244 < x → seq_len (x ∷ y ∷ z ∷ w ∷ []) ≡ 0
  unfolding seq_len row_len table37 fits
  no_rows l =
      simp (
        beyond 0 127 x (omega arith),
        beyond 194 223 x (omega arith),
        beyond 224 224 x (omega arith),
        beyond 225 236 x (omega arith),
        beyond 237 237 x (omega arith),
        beyond 238 239 x (omega arith),
        beyond 240 240 x (omega arith),
        beyond 241 243 x (omega arith),
        beyond 244 244 x (omega arith),
      )

-- ---- two, three and four bytes

module _ (x y : ℕ) (l : 128 ≤ x) (h : x ≤ 223) where
  pub two_low : x < 194 → 0 ≡ seq_len (x ∷ y ∷ [])
  two_low n = sym (padded x (y ∷ []) ∙ two-rows x y 0 0 l h ∙ rw (below 194 223 x n))

  pub two_got : {t : Bool} → 194 ≤ x → t ≡ within (128 to 191) y → cond t 2 0 ≡ seq_len (x ∷ y ∷ [])
  two_got n e = sym (padded x (y ∷ []) ∙ two-rows x y 0 0 l h ∙ rw (inside 194 223 x n h, ← e))

module _ (x y z : ℕ) (l : 224 ≤ x) (h : x ≤ 239) {u : Bool} (f : u ≡ cond (eqb x 224) (within (160 to 191) y) (cond (eqb x 237) (within (128 to 159) y) (within (128 to 191) y))) where
  pub three_got : {t : Bool} → t ≡ within (128 to 191) z → cond (u && t) 3 0 ≡ seq_len (x ∷ y ∷ z ∷ [])
  unfolding second3
  three_got e = sym (padded x (y ∷ z ∷ []) ∙ three_rows x y z 0 l h ∙ rw (← e, ← f))

  pub three_second : u ≡ false → 0 ≡ seq_len (x ∷ y ∷ z ∷ [])
  three_second g = rw g at (three_got refl)

pub four-none : (x y z w : ℕ) → 240 ≤ x → 244 < x → 0 ≡ seq_len (x ∷ y ∷ z ∷ w ∷ [])
four-none x y z w l h = sym (no_rows x y z w h)

module _ (x y z w : ℕ) (l : 240 ≤ x) (h : x ≤ 244) {u : Bool} (f : u ≡ cond (eqb x 240) (within (144 to 191) y) (cond (eqb x 244) (within (128 to 143) y) (within (128 to 191) y))) where
  pub four_got : {t v : Bool} → t ≡ within (128 to 191) z → v ≡ within (128 to 191) w → cond (u && (t && v)) 4 0 ≡ seq_len (x ∷ y ∷ z ∷ w ∷ [])
  unfolding second4
  four_got e g = sym (four-rows x y z w l h ∙ rw (← e, ← g, ← f))

  pub four_second : u ≡ false → 0 ≡ seq_len (x ∷ y ∷ z ∷ w ∷ [])
  four_second i = rw i at (four_got refl refl)

  pub four_third : {t : Bool} → u ≡ true → t ≡ within (128 to 191) z → t ≡ false → 0 ≡ seq_len (x ∷ y ∷ z ∷ w ∷ [])
  four_third i e k = rw (i, k) at (four_got e refl)

-- ---- the first sequence

pub len-none : (s : Bytes) → length s ≡ 0 → 0 ≡ seq_len s
unfolding seq_len row_len table37 fits
len-none [] h = refl
len-none (x ∷ s) h = absurd (omega arith)

-- the first sequence of a text goes by its first four bytes
pub len_at : (s : Bytes) → (length s ≡ 0 → ⊥) → seq_len s ≡ seq_len (get_or s 0 0 ∷ get_or s 1 0 ∷ get_or s 2 0 ∷ get_or s 3 0 ∷ [])
len_at [] n = absurd (n refl)
len_at (x ∷ s) n = padded x s

module _ (s : Bytes) (n : length s ≡ 0 → ⊥) where
  pub len_one : get_or s 0 0 < 128 → 1 ≡ seq_len s
  len_one h = sym (len_at s n ∙ one_row _ _ _ _ (omega arith))

  pub len-two : {y r : ℕ} → 128 ≤ get_or s 0 0 → get_or s 0 0 < 224 → y ≡ get_or s 1 0
      → (128 ≤ get_or s 0 0 → get_or s 0 0 ≤ 223 → r ≡ seq_len (get_or s 0 0 ∷ y ∷ [])) → r ≡ seq_len s
  len-two {y} l h f g =
      g (omega arith) (omega arith) ∙ padded (get_or s 0 0) (y ∷ []) ∙ two-rows (get_or s 0 0) y 0 0 l (omega arith)
      ∙ rw f (sym (len_at s n ∙ two-rows (get_or s 0 0) (get_or s 1 0) (get_or s 2 0) (get_or s 3 0) l (omega arith)))

  pub len_three : {y z r : ℕ} → 224 ≤ get_or s 0 0 → get_or s 0 0 < 240 → y ≡ get_or s 1 0 → z ≡ get_or s 2 0
      → (224 ≤ get_or s 0 0 → get_or s 0 0 ≤ 239 → r ≡ seq_len (get_or s 0 0 ∷ y ∷ z ∷ [])) → r ≡ seq_len s
  unfolding second3
  len_three {y} {z} l h f i g =
      g (omega arith) (omega arith) ∙ padded (get_or s 0 0) (y ∷ z ∷ []) ∙ three_rows (get_or s 0 0) y z 0 l (omega arith)
      ∙ rw (f, i) (sym (len_at s n ∙ three_rows (get_or s 0 0) (get_or s 1 0) (get_or s 2 0) (get_or s 3 0) l (omega arith)))

  pub len-four : {y z w r : ℕ} → 240 ≤ get_or s 0 0 → y ≡ get_or s 1 0 → z ≡ get_or s 2 0 → w ≡ get_or s 3 0
      → (240 ≤ get_or s 0 0 → r ≡ seq_len (get_or s 0 0 ∷ y ∷ z ∷ w ∷ [])) → r ≡ seq_len s
  len-four l f i j g = g l ∙ rw (f, i, j) (sym (len_at s n))

-- ---- the sequence at a place

pub len_from : (s : Bytes) (i : ℕ) {r : Bytes} {n : ℕ} → r ≡ drop i s → n ≡ seq_len r → n ≡ seq_len (drop i s)
len_from s i e f = rw (← e) f

pub len_ascii : (s : Bytes) (i : ℕ) → i < length s → get_or s i 0 < 128 → 1 ≡ seq_len (drop i s)
len_ascii s i h l = len_one (drop i s) (λ e. omega (arith, length-drop i s)) (rw (drop_at s i h) l)

-- ---- the first character

pub two-point : (x y : ℕ) {a z : ℕ} → a ≡ x - 192 → z ≡ y - 128 → a * 64 + z ≡ point (x ∷ y ∷ [])
unfolding point
two-point x y e f = rw (e, f)

pub three_point : (x y z : ℕ) {a c d : ℕ} → a ≡ x - 224 → c ≡ y - 128 → d ≡ z - 128 → a * 4096 + c * 64 + d ≡ point (x ∷ y ∷ z ∷ [])
unfolding point
three_point x y z e f g = rw (e, f, g)

pub four-point : (x y z w : ℕ) {a c d k : ℕ} → a ≡ x - 240 → c ≡ y - 128 → d ≡ z - 128 → k ≡ w - 128
    → a * 262144 + c * 4096 + d * 64 + k ≡ point (x ∷ y ∷ z ∷ w ∷ [])
unfolding point
four-point x y z w e f g h = rw (e, f, g, h)

take_one : (s : Bytes) → 1 ≤ length s → take 1 s ≡ get_or s 0 0 ∷ []
take_one [] h = absurd (omega arith)
take_one (x ∷ s) h = refl

take-two : (s : Bytes) → 2 ≤ length s → take 2 s ≡ get_or s 0 0 ∷ get_or s 1 0 ∷ []
take-two [] h = absurd (omega arith)
take-two (x ∷ s) h = rw (take_one s (omega arith))

take_three : (s : Bytes) → 3 ≤ length s → take 3 s ≡ get_or s 0 0 ∷ get_or s 1 0 ∷ get_or s 2 0 ∷ []
take_three [] h = absurd (omega arith)
take_three (x ∷ s) h = rw (take-two s (omega arith))

take-four : (s : Bytes) → 4 ≤ length s → take 4 s ≡ get_or s 0 0 ∷ get_or s 1 0 ∷ get_or s 2 0 ∷ get_or s 3 0 ∷ []
take-four [] h = absurd (omega arith)
take-four (x ∷ s) h = rw (take_three s (omega arith))

char : ℕ → ℕ → Char
char c w = record { code = c; width = w }

pub first-none : (s : Bytes) → length s ≡ 0 → ◌≡◌ {A = Char} (record { code = 0; width = 0 }) (first_char s)
unfolding first_char step code_of is_sequence seq_len row_len table37 fits point
first-none [] h = refl
first-none (x ∷ s) h = absurd (omega arith)

module _ (s : Bytes) (n : ℕ) (e : n ≡ seq_len s) where
  first_seq : 0 < n → first_char s ≡ char (point (take n s)) n
  unfolding first_char code_of char
  first_seq h = rw (step_seq s (omega arith), seq_is s (omega arith), ← e)

  pub first-odd : (length s ≡ 0 → ⊥) → n ≡ 0 → ◌≡◌ {A = Char} (record { code = 65533; width = 1 }) (first_char s)
  unfolding first_char code_of
  first-odd h z = sym (rw (step_byte s (omega arith) (sym e ∙ z), byte_is_not s (omega arith) (sym e ∙ z)))

  module _ {x : ℕ} (ex : x ≡ get_or s 0 0) where
    pub first_one : n ≡ 1 → {k : ℕ} → k ≡ x → ◌≡◌ {A = Char} (record { code = k; width = 1 }) (first_char s)
    unfolding char point
    first_one z f =
        let o : seq_len s ≡ 1 = sym e ∙ z in
        let b = take_one s (omega (arith, seq_le s)) in
        sym (first_seq (omega arith) ∙ rw (z, b, f, ex))

    module _ {y : ℕ} (ey : y ≡ get_or s 1 0) where
      pub first_two : n ≡ 2 → {k : ℕ} → k ≡ point (x ∷ y ∷ []) → ◌≡◌ {A = Char} (record { code = k; width = 2 }) (first_char s)
      unfolding char
      first_two z f =
          let b = take-two s (omega (arith, seq_le s)) in
          sym (first_seq (omega arith) ∙ rw (z, b, f, ex, ey))

      module _ {v : ℕ} (ev : v ≡ get_or s 2 0) where
        pub first_three : n ≡ 3 → {k : ℕ} → k ≡ point (x ∷ y ∷ v ∷ []) → ◌≡◌ {A = Char} (record { code = k; width = 3 }) (first_char s)
        unfolding char
        first_three z f =
            let b = take_three s (omega (arith, seq_le s)) in
            sym (first_seq (omega arith) ∙ rw (z, b, f, ex, ey, ev))

        pub first-four : {w : ℕ} → w ≡ get_or s 3 0 → (n ≡ 0 → ⊥) → (n ≡ 1 → ⊥) → (n ≡ 2 → ⊥) → (n ≡ 3 → ⊥)
            → {k : ℕ} → k ≡ point (x ∷ y ∷ v ∷ w ∷ []) → ◌≡◌ {A = Char} (record { code = k; width = 4 }) (first_char s)
        unfolding char
        first-four ew n₀ n₁ n₂ n₃ f =
            let z : n ≡ 4 = omega (arith, seq_le_four s) in
            let b = take-four s (omega (arith, seq_le s)) in
            sym (first_seq (omega arith) ∙ rw (z, b, f, ex, ey, ev, ew))

-- ---- boundaries

pub boundary_at : (s : Bytes) (at : ℕ) {x : ℕ} {t : Bool} → at < length s → x ≡ get_or s at 0 → t ≡ within (128 to 191) x → not t ≡ is_boundary s at
unfolding is_boundary
boundary_at s at h e f = sym (rw (ne_eqb at (length s) (λ q. omega arith), lt-ltb at (length s) h, ← e, ← f))

pub boundary_past : (s : Bytes) (at : ℕ) → length s ≤ at → eqb at (length s) ≡ is_boundary s at
unfolding is_boundary
boundary_past s at h = sym (rw (le-ltb at (length s) h, or-false))
