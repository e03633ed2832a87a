-- Laws of a run over a buffer, and of one where a window has a place for it.
use mathlib.Core.Path.{◌≡◌, refl, sym, ap, ◌∙◌}
use mathlib.Core.Bool.{Bool, true, false}
use mathlib.Core.List.{[], ◌∷◌, ◌++◌, append_assoc, append-nil}
use Prim.Native.Nat.{ℕ, zero, suc, ◌+◌, ◌-◌, ◌≤◌, ◌<◌}
use native.Mathlib.Omega.{arith}
use lib.ListN.{length, take, drop, set, length-set, drop_of_length-le, length-take}
use lib.Seq.{set_out, sets, sets-eq, length-sets, take_all, take-nil}
use lib.Dec.{leb}
use borrow.Author.Tests.{leb-true, leb-false}
use Rattle.parts.specs.Bytes.{Bytes}
use Rattle.parts.specs.Over.{over, lay}

-- ---- a run over a buffer

sets_out : (l s : Bytes) (k : ℕ) → length l ≤ k → sets l k s ≡ l
sets_out l [] k h = refl
sets_out l (x ∷ s) k h = rw (set_out l k x) (sets_out l s (suc k) (omega arith))

sets_clip : (l s : Bytes) (k n : ℕ) → length l ≡ k + n → sets l k s ≡ sets l k (take n s)
sets_clip l [] k zero h = refl
sets_clip l [] k (suc n) h = refl
sets_clip l (x ∷ s) k zero h = sets_out l (x ∷ s) k (omega arith)
sets_clip l (x ∷ s) k (suc n) h = sets_clip (set l k x) s (suc k) n (length-set l k x ∙ omega arith)

-- past the end nothing changes
pub over-past : (buf : Bytes) (d : ℕ) (s : Bytes) → length buf ≤ d → over buf d s ≡ buf
unfolding over
over-past buf d s h =
    let none : length buf - d ≡ 0 = omega arith in
    rw (take_all d buf h, none, drop_of_length-le buf {i = d + length s} (omega arith)) (append-nil buf)

-- a run that the buffer holds whole
pub over_whole : (buf : Bytes) (d : ℕ) (s : Bytes) → length s ≤ length buf - d → over buf d s ≡ take d buf ++ (s ++ drop (d + length s) buf)
unfolding over
over_whole buf d s h = rw (take_all (length buf - d) s h)

-- a run that is cut where the buffer ends
pub over-cut : (buf : Bytes) (d : ℕ) (s : Bytes) → d ≤ length buf → length buf - d ≤ length s → over buf d s ≡ take d buf ++ take (length buf - d) s
unfolding over
over-cut buf d s hd h = rw (drop_of_length-le buf {i = d + length s} (omega arith), append-nil)

-- cutting a run where the buffer ends changes nothing behind it
pub clipped : (buf : Bytes) (d : ℕ) (s : Bytes) → d ≤ length buf → drop (d + length (take (length buf - d) s)) buf ≡ drop (d + length s) buf
clipped buf d s h = go (leb (length s) (length buf - d)) refl
  where
    n : ℕ
    n = length buf - d

    go : (t : Bool) → leb (length s) n ≡ t → drop (d + length (take n s)) buf ≡ drop (d + length s) buf
    go true e = rw (take_all n s (leb-true (length s) n e))
    go false e =
        let l : n < length s = leb-false (length s) n e in
        drop_of_length-le buf {i = d + length (take n s)} (omega (arith, length-take n s))
        ∙ sym (drop_of_length-le buf {i = d + length s} (omega arith))

pub over_sets : (buf : Bytes) (d : ℕ) (s : Bytes) → sets buf d s ≡ over buf d s
unfolding over
over_sets buf d s = go (leb d (length buf)) refl
  where
    n : ℕ
    n = length buf - d

    go : (t : Bool) → leb d (length buf) ≡ t → sets buf d s ≡ take d buf ++ (take n s ++ drop (d + length s) buf)
    go true e =
        let h : d ≤ length buf = leb-true d (length buf) e in
        sets_clip buf s d n (omega arith)
        ∙ sets-eq (take n s) buf d (omega (arith, length-take n s))
        ∙ append_assoc (take d buf) (take n s) (drop (d + length (take n s)) buf)
        ∙ rw (clipped buf d s h)
    go false e =
        let h : length buf < d = leb-false d (length buf) e in
        sets_out buf s d (omega arith) ∙ sym (over-past buf d s (omega arith))

-- no run
pub over_none : (buf : Bytes) (d : ℕ) → over buf d [] ≡ buf
over_none buf d = sym (over_sets buf d [])

-- the buffer keeps its length
pub over-length : (buf : Bytes) (d : ℕ) (s : Bytes) → length (over buf d s) ≡ length buf
over-length buf d s = sym (ap length (over_sets buf d s)) ∙ length-sets buf d s

-- ---- in a window

-- a run from within the window on, from before it on, and one that ends before it
pub lay-within : (buf : Bytes) (from at : ℕ) (s : Bytes) → from ≤ at → lay buf from at s ≡ over buf (at - from) s
unfolding lay
lay-within buf from at s h = let none : from - at ≡ 0 = omega arith in rw none

pub lay_across : (buf : Bytes) (from at : ℕ) (s : Bytes) → at ≤ from → lay buf from at s ≡ over buf 0 (drop (from - at) s)
unfolding lay
lay_across buf from at s h = let none : at - from ≡ 0 = omega arith in rw none

pub lay_before : (buf : Bytes) (from at : ℕ) (s : Bytes) → at + length s ≤ from → lay buf from at s ≡ buf
unfolding lay over
lay_before buf from at s h =
    let none : at - from ≡ 0 = omega arith in
    rw (none, drop_of_length-le s {i = from - at} (omega arith), take-nil {A = ℕ} (length buf - 0))

-- a run that starts behind the window
pub lay-behind : (buf : Bytes) (from at : ℕ) (s : Bytes) → from + length buf ≤ at → lay buf from at s ≡ buf
lay-behind buf from at s h = lay-within buf from at s (omega arith) ∙ over-past buf (at - from) s (omega arith)
