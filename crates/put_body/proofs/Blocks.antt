-- Blocks of a text that its body shares.
use mathlib.Core.Path.{◌≡◌, refl, sym, ap}
use mathlib.Core.Bool.{Bool, true, false, not, ◌&&◌, ◌||◌, or-true}
use mathlib.Core.List.{[], ◌∷◌}
use Prim.Native.Nat.{ℕ, zero, suc, ◌+◌, ◌≤◌, ◌<◌}
use native.Mathlib.Nat.{zero-add}
use native.Mathlib.Omega.{arith}
use lib.ListN.{length, take, drop, length-drop}
use lib.Seq.{drop-drop}
use lib.Dec.{eqb, ltb}
use borrow.Author.Tests.{eqb-false, ltb-false}
use Rattle.parts.specs.Bytes.{Bytes, first_at}
use Rattle.parts.specs.Pair.{any_pair}
use Rattle.parts.proofs.Laws.{or_both}
use Rattle.texts.proofs.Edges.{solid_above}
use Rattle.put_body.specs.Body.{plain, starts_solid, differs, shared_len, odd, any_odd, SharedTo}

-- ---- a block

-- a byte that is not odd stands in the body as it is
pub odd-same : (x y : ℕ) (s : Bytes) → odd x y ≡ false → differs (x ∷ y ∷ s) ≡ false
unfolding odd differs plain starts_solid
odd-same x y s e =
    let h = or_both (ltb x 32) (eqb x 126 || (eqb x 32 && ltb y 33)) e in
    let k = or_both (eqb x 126) (eqb x 32 && ltb y 33) h.1 in
    go (eqb x 32) refl (ltb-false x 32 h.0) k.0 k.1
  where
    go : (z : Bool) → eqb x 32 ≡ z → 32 ≤ x → eqb x 126 ≡ false → z && ltb y 33 ≡ false → differs (x ∷ y ∷ s) ≡ false
    go true ez l et e = let high : 33 ≤ y = ltb-false y 33 e in rw (ez, solid_above y (omega arith)) (ap not (or-true (plain x)))
    go false ez l et e = let n = eqb-false x 32 ez in rw (solid_above x (by n l), et)
      where
        by : (x ≡ 32 → ⊥) → 32 ≤ x → 32 < x
        by n l = omega arith

block_skip : (n : ℕ) (t : Bytes) → suc n ≤ length t → any_odd (take (suc n) t) ≡ false → shared_len t ≡ n + shared_len (drop n t)
unfolding shared_len first_at any_pair
block_skip zero t h e = sym (zero-add (shared_len t))
block_skip (suc n) [] h e = absurd (omega arith)
block_skip (suc n) (x ∷ []) h e = absurd (omega arith)
block_skip (suc n) (x ∷ y ∷ t) h e =
    let k = or_both (odd x y) (any_odd (y ∷ take n t)) e in
    go (differs (x ∷ y ∷ t)) (odd-same x y t k.0) (block_skip n (y ∷ t) (omega arith) k.1)
  where
    go : (z : Bool) → z ≡ false → shared_len (y ∷ t) ≡ n + shared_len (drop n (y ∷ t))
        → elim z as (λ b. ℕ) [ true ↦ 0 | false ↦ suc (shared_len (y ∷ t)) ] ≡ suc n + shared_len (drop n (y ∷ t))
    go true z f = absurd (let no_way : ◌≡◌ {A = ℕ} 0 1 = cc in omega arith)
    go false z f = omega (arith, f)

pub shared_block : (s : Bytes) (i : ℕ) → i + 17 ≤ length s → any_odd (take 17 (drop i s)) ≡ false → SharedTo s i → SharedTo s (i + 16)
shared_block s i h e z =
    let skip = block_skip 16 (drop i s) (omega (arith, length-drop i s)) e in
    let on : shared_len (drop 16 (drop i s)) ≡ shared_len (drop (i + 16) s) = ap shared_len (drop-drop 16 i s) in
    record { within = omega arith; rest = omega (arith, skip, on, z.rest) }
