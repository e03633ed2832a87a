-- Laws of paint: what a text leaves on a page.
use mathlib.Core.Path.{◌≡◌, refl, sym, ap, ◌∙◌}
use mathlib.Core.Bool.{Bool, true, false, cond}
use mathlib.Core.List.{[], ◌∷◌, ◌++◌}
use Prim.Native.Nat.{ℕ, suc, ◌+◌, ◌-◌, ◌≤◌, ◌<◌, ◌^◌, min}
use native.Mathlib.Nat.{zero-add, add-zero, sub-zero}
use native.Mathlib.Omega.{arith}
use lib.ListN.{length, take, drop, set, length-set}
use lib.Seq.{take_all}
use lib.Dec.{leb}
use borrow.Author.Tests.{leb-true, leb-false}
use Rattle.parts.specs.Bytes.{Bytes}
use Rattle.window.specs.Page.{Page, stamp, dab, paint}
use Rattle.parts.specs.Over.{over, lay}
use Rattle.parts.proofs.Over.{clipped, over_sets, over_none, lay-within, lay_across, lay_before}

-- ---- any page

-- two texts in a row are one
pub paint-append : (p : Page) (x y : Bytes) → paint (paint p x) y ≡ paint p (x ++ y)
unfolding paint
paint-append p [] y = refl
paint-append p (b ∷ x) y = paint-append (dab p b) x y

pub paint-two : (p : Page) {q r : Page} (x y : Bytes) → q ≡ paint p x → r ≡ paint q y → r ≡ paint p (x ++ y)
paint-two p x y eq er = er ∙ ap (λ (z : Page). paint z y) eq ∙ paint-append p x y

length-stamp : (buf : Bytes) (from at x : ℕ) → length (stamp buf from at x) ≡ length buf
unfolding stamp
length-stamp buf from at x = go (leb from at)
  where
    go : (t : Bool) → length (cond t (set buf (at - from) x) buf) ≡ length buf
    go true = length-set buf (at - from) x
    go false = refl

-- the buffer keeps its length
pub paint-length : (p : Page) (s : Bytes) → length (paint p s).buf ≡ length p.buf
unfolding paint dab
paint-length p [] = refl
paint-length p (x ∷ s) = paint-length (dab p x) s ∙ length-stamp p.buf p.from p.at x

-- the window stays where it starts
pub paint_from : (p : Page) (s : Bytes) → (paint p s).from ≡ p.from
unfolding paint dab
paint_from p [] = refl
paint_from p (x ∷ s) = paint_from (dab p x) s

-- the count goes on by the text's length, and stays at the largest number once it is reached
pub paint_at : (p : Page) (s : Bytes) → p.at ≤ 2 ^ 64 - 1 → (paint p s).at ≡ min (p.at + length s) (2 ^ 64 - 1)
unfolding paint dab
paint_at p [] h = omega arith
paint_at p (x ∷ s) h = paint_at (dab p x) s (omega arith) ∙ more p.at (length s) h
  where
    more : (a n : ℕ) → a ≤ 2 ^ 64 - 1 → min (min (a + 1) (2 ^ 64 - 1) + n) (2 ^ 64 - 1) ≡ min (a + suc n) (2 ^ 64 - 1)
    more a n l = omega arith

-- in an empty buffer nothing is stored
pub paint-empty : (p : Page) (s : Bytes) → p.buf ≡ [] → (paint p s).buf ≡ []
paint-empty p s e = go (paint p s).buf (paint-length p s ∙ ap length e)
  where
    go : (l : Bytes) → length l ≡ 0 → l ≡ []
    go [] h = refl
    go (x ∷ l) h = absurd (omega arith)

-- ---- the closed form

lay-dab : (buf : Bytes) (from at x : ℕ) (s : Bytes) → lay (stamp buf from at x) from (suc at) s ≡ lay buf from at (x ∷ s)
unfolding stamp
lay-dab buf from at x s = go (leb from at) refl
  where
    go : (t : Bool) → leb from at ≡ t → lay (cond t (set buf (at - from) x) buf) from (suc at) s ≡ lay buf from at (x ∷ s)
    go true e =
        let h : from ≤ at = leb-true from at e in
        let next : suc at - from ≡ suc (at - from) = omega arith in
        lay-within (set buf (at - from) x) from (suc at) s (omega arith)
        ∙ rw next (sym (over_sets (set buf (at - from) x) (suc (at - from)) s))
        ∙ over_sets buf (at - from) (x ∷ s)
        ∙ sym (lay-within buf from at (x ∷ s) h)
    go false e =
        let h : at < from = leb-false from at e in
        let next : from - at ≡ suc (from - suc at) = omega arith in
        lay_across buf from (suc at) s (omega arith) ∙ sym (lay_across buf from at (x ∷ s) (omega arith) ∙ rw next)

laid-all : (at from : ℕ) (buf s : Bytes) → at + length s ≤ 2 ^ 64 - 1
    → paint (record { at = at; from = from; buf = buf }) s ≡ record { at = at + length s; from = from; buf = lay buf from at s }
unfolding paint dab
laid-all at from buf [] h = rw (add-zero, lay-none)
  where
    lay-none : lay buf from at [] ≡ buf
    lay-none = go (leb from at) refl
      where
        go : (t : Bool) → leb from at ≡ t → lay buf from at [] ≡ buf
        go true e = lay-within buf from at [] (leb-true from at e) ∙ over_none buf (at - from)
        go false e = lay_before buf from at [] (omega (arith, leb-false from at e))
laid-all at from buf (x ∷ s) h =
    let next : min (at + 1) (2 ^ 64 - 1) ≡ suc at = omega arith in
    let sum : suc at + length s ≡ at + suc (length s) = omega arith in
    rw next (laid-all (suc at) from (stamp buf from at x) s (omega arith) ∙ rw (sum, lay-dab buf from at x s))

-- a text whose end the count reaches is laid over the buffer
pub paint-lay : (p : Page) (s : Bytes) → p.at + length s ≤ 2 ^ 64 - 1
    → paint p s ≡ record { at = p.at + length s; from = p.from; buf = lay p.buf p.from p.at s }
paint-lay p s h = laid-all p.at p.from p.buf s h

-- ---- a whole text

-- the buffer holds the bytes of the text from the window's first on, and behind the text's end what it held
pub paint_window : (from : ℕ) (out s : Bytes) → length s < 2 ^ 64
    → (paint (record { at = 0; from = from; buf = out }) s).buf ≡ take (length out) (drop from s) ++ drop (length (take (length out) (drop from s))) out
unfolding over
paint_window from out s h =
    let t : Bytes = drop from s in
    let same : length out - 0 ≡ length out = sub-zero (length out) in
    ap (λ (p : Page). p.buf) (paint-lay (record { at = 0; from = from; buf = out }) s (omega arith))
    ∙ lay_across out from 0 s (omega arith)
    ∙ ap (λ (n : ℕ). over out 0 (drop n s)) (sub-zero from)
    ∙ ap (λ (z : Bytes). take (length out - 0) t ++ z) (sym (clipped out 0 t (omega arith)))
    ∙ rw (same, zero-add)

-- a text that the buffer holds whole
pub paint_front : (out s : Bytes) → length s ≤ length out → length s < 2 ^ 64
    → (paint (record { at = 0; from = 0; buf = out }) s).buf ≡ s ++ drop (length s) out
paint_front out s h l = paint_window 0 out s l ∙ rw (take_all (length out) s h)
