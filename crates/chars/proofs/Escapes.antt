-- Laws of the escapes.
use mathlib.Core.Path.{◌≡◌, refl, sym}
use mathlib.Core.Bool.{Bool, true, false, cond, not, ◌&&◌, ◌||◌}
use mathlib.Core.List.{[], ◌∷◌, ◌++◌, append_assoc, Memᴰ}
use Prim.Native.Nat.{ℕ, ◌*◌, ◌≤◌}
use native.Mathlib.Omega.{arith}
use lib.ListN.{length, length-append}
use lib.Dec.{eqb}
use borrow.Author.Tests.{eq-eqb}
use Rattle.parts.specs.Bytes.{Bytes, b}
use Rattle.chars.specs.Escape.{escaped_byte, escape, special}
use Rattle.chars.proofs.Lists.{all, all_at, all_append}

pub escape-append : (attr : Bool) (s z : Bytes) → escape attr (s ++ z) ≡ escape attr s ++ escape attr z
unfolding escape
escape-append attr [] z = refl
escape-append attr (x ∷ s) z =
    rw (escape-append attr s z) (sym (append_assoc (escaped_byte attr x) (escape attr s) (escape attr z)))

-- ---- lengths

-- a byte becomes one to six bytes
escaped-length : (attr : Bool) (x : ℕ) → (1 ≤ length (escaped_byte attr x)) × (length (escaped_byte attr x) ≤ 6)
unfolding escaped_byte
escaped-length attr x = go (eqb x 60) (eqb x 62) (eqb x 38) (attr && eqb x 34)
  where
    word : Bool → Bool → Bool → Bool → Bytes
    word l g a q = cond l (b "&lt;") (cond g (b "&gt;") (cond a (b "&amp;") (cond q (b "&quot;") (x ∷ []))))

    go : (l g a q : Bool) → (1 ≤ length (word l g a q)) × (length (word l g a q) ≤ 6)
    go true g a q = (omega arith, omega arith)
    go false true a q = (omega arith, omega arith)
    go false false true q = (omega arith, omega arith)
    go false false false true = (omega arith, omega arith)
    go false false false false = (omega arith, omega arith)

pub escape_most : (attr : Bool) (s : Bytes) → length (escape attr s) ≤ 6 * length s
unfolding escape
escape_most attr [] = omega arith
escape_most attr (x ∷ s) =
    omega (arith, escape_most attr s, (escaped-length attr x).1, length-append (escaped_byte attr x) (escape attr s))

pub escape_least : (attr : Bool) (s : Bytes) → length s ≤ length (escape attr s)
unfolding escape
escape_least attr [] = omega arith
escape_least attr (x ∷ s) =
    omega (arith, escape_least attr s, (escaped-length attr x).0, length-append (escaped_byte attr x) (escape attr s))

-- ---- plain text

-- a byte that has no name is written as it is
pub escaped-plain : (attr : Bool) (x : ℕ) → special attr x ≡ false → escaped_byte attr x ≡ x ∷ []
unfolding special escaped_byte
escaped-plain attr x e = go (eqb x 60) (eqb x 62) (eqb x 38) (attr && eqb x 34) (b "&lt;") (b "&gt;") (b "&amp;") (b "&quot;") e
  where
    go : (p q r t : Bool) (k l m n : Bytes) → p || (q || (r || t)) ≡ false → cond p k (cond q l (cond r m (cond t n (x ∷ [])))) ≡ x ∷ []
    go true q r t k l m n e = absurd (let no_way : ◌≡◌ {A = ℕ} 0 1 = cc in omega arith)
    go false true r t k l m n e = absurd (let no_way : ◌≡◌ {A = ℕ} 0 1 = cc in omega arith)
    go false false true t k l m n e = absurd (let no_way : ◌≡◌ {A = ℕ} 0 1 = cc in omega arith)
    go false false false true k l m n e = absurd (let no_way : ◌≡◌ {A = ℕ} 0 1 = cc in omega arith)
    go false false false false k l m n e = refl

-- a text of such bytes is written as itself
pub escape-plain : (attr : Bool) (s : Bytes) → ((x : ℕ) → Memᴰ x s → special attr x ≡ false) → escape attr s ≡ s
unfolding escape
escape-plain attr [] f = refl
escape-plain attr (x ∷ s) f =
    rw (escaped-plain attr x (f x (Memᴰ.head refl)), escape-plain attr s (λ y m. f y (Memᴰ.tail m)))

-- ---- what never stands in an escaped text

-- neither < nor >, and in an attribute's value no double quote
unfoldable pub harmless : Bool → ℕ → Bool
harmless attr x = not (eqb x 60 || (eqb x 62 || (attr && eqb x 34)))

escaped-harmless : (attr : Bool) (x : ℕ) → all (harmless attr) (escaped_byte attr x) ≡ true
unfolding escaped_byte all harmless
escaped-harmless attr x = go attr (eqb x 60) (eqb x 62) (eqb x 38) (attr && eqb x 34) refl refl refl
  where
    go : (attr l g a q : Bool) → eqb x 60 ≡ l → eqb x 62 ≡ g → attr && eqb x 34 ≡ q
        → all (harmless attr) (cond l (b "&lt;") (cond g (b "&gt;") (cond a (b "&amp;") (cond q (b "&quot;") (x ∷ []))))) ≡ true
    go true true g a q e f h = refl
    go false true g a q e f h = refl
    go true false true a q e f h = refl
    go false false true a q e f h = refl
    go true false false true q e f h = refl
    go false false false true q e f h = refl
    go true false false false true e f h = refl
    go false false false false true e f h = refl
    go true false false false false e f h = rw (e, f, h)
    go false false false false false e f h = rw (e, f)

escape-harmless : (attr : Bool) (s : Bytes) → all (harmless attr) (escape attr s) ≡ true
unfolding escape all
escape-harmless attr [] = refl
escape-harmless attr (x ∷ s) =
    rw (all_append (harmless attr) (escaped_byte attr x) (escape attr s), escaped-harmless attr x, escape-harmless attr s)

pub escape_safe : (attr : Bool) (s : Bytes) (x : ℕ) → Memᴰ x (escape attr s)
    → (x ≡ 60 → ⊥) × (x ≡ 62 → ⊥) × (attr ≡ true → x ≡ 34 → ⊥)
unfolding harmless
escape_safe attr s x m =
    let h = all_at (harmless attr) (escape attr s) x (escape-harmless attr s) m in (
      λ e. let no_way : ◌≡◌ {A = ℕ} 0 1 = cc (rw (eq-eqb x 60 e) at h) in omega arith,
      λ e. let no_way : ◌≡◌ {A = ℕ} 0 1 = cc (rw e at h) in omega arith,
      λ t e. let no_way : ◌≡◌ {A = ℕ} 0 1 = cc (rw (t, e) at h) in omega arith,
    )
