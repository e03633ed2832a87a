-- Laws of what is written at the front of a buffer.
use Rattle.std.proofs.Common.{◌≡◌, ℕ, [], ◌++◌, sym, refl, ap, ◌∙◌}
use Rattle.parts.specs.Bytes.{Bytes}
use Rattle.window.specs.Page.{Page, paint}
use Rattle.window.proofs.Paint.{paint-append, paint_from}
use Rattle.test_vectors.specs.Front.{Written, by}

pub still : (p : Page) → Written p p
unfolding paint
still p = by [] refl

pub onward : {p r : Page} (q : Page) → Written p q → Written q r → Written p r
onward {p} q (by x e) (by y f) = by (x ++ y) (f ∙ ap (λ (z : Page). paint z y) e ∙ paint-append p x y)

pub from_front : {buf : Bytes} {q : Page} → Written (record { at = 0; from = 0; buf = buf }) q
    → Written (record { at = 0; from = 0; buf = buf }) (record { at = q.at; from = 0; buf = q.buf })
from_front {buf} {q} (by x e) =
    let start : q.from ≡ 0 = ap (λ (p : Page). p.from) e ∙ paint_from (record { at = 0; from = 0; buf = buf }) x in
    by x (sym (ap (λ (n : ℕ). record { at = q.at; from = n; buf = q.buf }) start) ∙ e)
