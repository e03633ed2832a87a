-- What the code that writes a run leaves on the page.
use mathlib.Core.Path.{◌≡◌, sym, ap, ◌∙◌}
use mathlib.Core.List.{[], ◌∷◌}
use Prim.Native.Nat.{ℕ, ◌+◌, ◌≤◌, ◌<◌, ◌^◌}
use native.Mathlib.Omega.{arith}
use lib.ListN.{length, get_or, drop, drop_of_length-le}
use Rattle.parts.specs.Bytes.{Bytes}
use Rattle.parts.proofs.Laws.{drop_at}
use Rattle.window.specs.Page.{Page, paint}
use Rattle.parts.specs.Over.{lay}
use Rattle.window.proofs.Paint.{paint-lay}

-- ---- byte by byte

-- a turn of a loop that paints the bytes of a text from i on, and its end
pub paint-turn : (p : Page) {q z : Page} (s : Bytes) (i : ℕ) → i < length s → q ≡ paint p (get_or s i 0 ∷ []) → paint p (drop i s) ≡ z → paint q (drop (i + 1) s) ≡ z
unfolding paint
paint-turn p s i h e inv = ap (λ (z : Page). paint z (drop (i + 1) s)) e ∙ sym (ap (paint p) (drop_at s i h)) ∙ inv

pub paint_end : {p z : Page} (s : Bytes) (i : ℕ) → length s ≤ i → paint p (drop i s) ≡ z → p ≡ z
unfolding paint
paint_end {p} s i h inv = sym (ap (paint p) (drop_of_length-le s h)) ∙ inv

-- ---- a run

-- a run that was laid over the buffer, and the count that goes on by its length
pub laid : (at from : ℕ) (buf s : Bytes) {last : Bytes} {end : ℕ} → end ≡ at + length s → at + length s < 2 ^ 64 → last ≡ lay buf from at s
    → ◌≡◌ {A = Page} (record { at = end; from = from; buf = last }) (paint (record { at = at; from = from; buf = buf }) s)
laid at from buf s en h e = rw (en, e) (sym (paint-lay (record { at = at; from = from; buf = buf }) s (omega arith)))
