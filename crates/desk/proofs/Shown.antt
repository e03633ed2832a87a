-- Digits, and new lines.
use mathlib.Core.Path.{◌≡◌, refl, ap, ◌∙◌}
use mathlib.Core.Bool.{true, false}
use mathlib.Core.List.{Memᴰ}
use Prim.Native.Nat.{ℕ, ◌+◌, ◌*◌}
use native.Mathlib.Omega.{arith}
use lib.ListN.{replicate}
use Rattle.std.proofs.lemmas.List.{replicate-append-replicate}
use Rattle.parts.specs.Bytes.{b}
use Rattle.chars.specs.Escape.{escape, special}
use Rattle.chars.specs.Decimal.{decimal}
use Rattle.chars.proofs.Escapes.{escape-plain}
use Rattle.chars.proofs.Digits.{decimal_byte}
use Rattle.window.specs.Page.{Page, paint}
use Rattle.window.proofs.Paint.{paint-two}
use Rattle.window.proofs.Escape.{plain-rest}
use Rattle.tags.specs.Items.{bytes_of as item_bytes, new_line, line as line_item}
use Rattle.desk.specs.Desk.{indent}

-- ---- digits

digit_plain : (x n : ℕ) → Memᴰ x (decimal n) → special true x ≡ false
digit_plain x n m =
    let h = decimal_byte n x m in
    plain-rest true x (λ e. absurd (omega (arith, h))) (λ e. absurd (omega (arith, h))) (λ e. absurd (omega (arith, h))) (λ e. absurd (omega (arith, h)))

-- digits are written as they are, raw or escaped
pub decimal-plain : (n : ℕ) → escape true (decimal n) ≡ decimal n
decimal-plain n = escape-plain true (decimal n) (λ x m. digit_plain x n m)

-- ---- indents

pub indent-turn : (p : Page) {q r : Page} (k : ℕ) → q ≡ paint p (indent k) → r ≡ paint q (b "  ") → r ≡ paint p (indent (k + 1))
unfolding indent
indent-turn p k eq er =
    let sum : 2 * k + 2 ≡ 2 * (k + 1) = omega arith in
    paint-two p (replicate (2 * k) 32) (b "  ") eq er ∙ ap (paint p) (replicate-append-replicate (2 * k) 2 32 ∙ rw sum)

pub indent_start : (p : Page) → p ≡ paint p (indent 0)
unfolding indent paint
indent_start p = refl

pub line_bytes : (p : Page) {a c : Page} (level : ℕ) → a ≡ paint p (b "\n") → c ≡ paint a (indent level) → c ≡ paint p (item_bytes (line_item level))
unfolding indent item_bytes new_line
line_bytes p level ea ec = paint-two p (b "\n") (replicate (2 * level) 32) ea ec
