-- The first bytes of a text, from how they are laid over the buffer.
use mathlib.Core.Path.{◌≡◌}
use Prim.Native.Nat.{ℕ, ◌+◌, ◌-◌, ◌≤◌, ◌<◌, ◌^◌}
use native.Mathlib.Omega.{arith}
use lib.ListN.{length, take}
use lib.Seq.{length-take-le}
use Rattle.parts.specs.Bytes.{Bytes}
use Rattle.parts.specs.Over.{over}
use Rattle.parts.proofs.Copied.{laid-within}
use Rattle.window.specs.Page.{Page, paint}
use Rattle.window.proofs.Run.{laid}

pub front_laid : (at from : ℕ) (buf s : Bytes) (n : ℕ) {last : Bytes} → from ≤ at → n ≤ length s → at + n < 2 ^ 64 → last ≡ over buf (at - from) (take n s)
    → ◌≡◌ {A = Page} (record { at = at + n; from = from; buf = last }) (paint (record { at = at; from = from; buf = buf }) (take n s))
front_laid at from buf s n w l f e =
    let long : length (take n s) ≡ n = length-take-le n s l in
    laid at from buf (take n s) (omega (arith, long)) (omega (arith, long)) (laid-within buf from at (take n s) w e)
