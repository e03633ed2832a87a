-- Runs copied to a part of the buffer.
use mathlib.Core.Path.{◌≡◌, sym, ap, ◌∙◌}
use mathlib.Core.List.{[], ◌++◌, append-nil}
use Prim.Native.Nat.{ℕ, ◌+◌, ◌-◌, ◌≤◌, ◌<◌}
use native.Mathlib.Omega.{arith}
use lib.ListN.{length, take, drop, drop_of_length-le, length-drop}
use lib.Seq.{take-length, drop-drop}
use Rattle.parts.specs.Bytes.{Bytes}
use Rattle.parts.proofs.Laws.{drop-part}
use Rattle.parts.specs.Over.{over, lay}
use Rattle.parts.proofs.Over.{clipped, lay-within, lay_across, lay_before}

-- a part of the buffer, given back with a run copied into it
pub copied : (buf : Bytes) (d : ℕ) (s src : Bytes) {last : Bytes} → d < length buf → src ≡ take (length buf - d) s
    → last ≡ take (length src) src ++ drop (length src) (take (length buf - d) (drop d buf))
    → take d buf ++ (last ++ drop (length buf - d) (drop d buf)) ≡ over buf d s
unfolding over
copied buf d s src {last} h es el =
    let end : drop (length buf - d) (drop d buf) ≡ [] = drop_of_length-le (drop d buf) {i = length buf - d} (omega (arith, length-drop d buf)) in
    let rest : drop (length src) (take (length buf - d) (drop d buf)) ≡ drop (d + length s) buf =
    ap (drop (length src)) (drop-part buf d) ∙ drop-drop (length src) d buf
    ∙ ap (λ (z : Bytes). drop (d + length z) buf) es ∙ clipped buf d s (omega arith) in
    let is : last ≡ take (length buf - d) s ++ drop (d + length s) buf = el ∙ rw (take-length src, rest) (ap (λ (z : Bytes). z ++ drop (d + length s) buf) es) in
    rw (end, append-nil) (ap (λ (z : Bytes). take d buf ++ z) is)

-- ---- in a window

pub laid-within : (buf : Bytes) (from at : ℕ) (s : Bytes) {last : Bytes} → from ≤ at → last ≡ over buf (at - from) s → last ≡ lay buf from at s
laid-within buf from at s h e = e ∙ sym (lay-within buf from at s h)

pub laid_across : (buf : Bytes) (from at : ℕ) (s : Bytes) {last : Bytes} → at < from
    → last ≡ over buf 0 (take (length s - (from - at)) (drop (from - at) s)) → last ≡ lay buf from at s
laid_across buf from at s h e = e ∙ ap (over buf 0) (drop-part s (from - at)) ∙ sym (lay_across buf from at s (omega arith))

pub laid_before : (buf : Bytes) (from at : ℕ) (s : Bytes) → at < from → length s ≤ from - at → buf ≡ lay buf from at s
laid_before buf from at s h l = sym (lay_before buf from at s (omega arith))
