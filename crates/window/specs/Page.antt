-- The text as it is written through a window: byte number `at` of the text goes to the buffer at `at - from`.
use Rattle.std.specs.Prelude.{ℕ, ◌+◌, ◌-◌, ◌^◌, min, [], ◌∷◌, cond, set, leb}
use Rattle.parts.specs.Bytes.{Bytes}
use Rattle.window.specs.declared.Window.{Window}

-- how much of the text is written, where the window starts, and what the buffer holds
pub record Page : Type 0 where
  pub at : ℕ
  pub from : ℕ
  pub buf : Bytes

-- byte number `at` in the buffer, if the window has a place for it: `set` leaves a list alone past its end
unfoldable pub stamp : Bytes → ℕ → ℕ → ℕ → Bytes
stamp buf from at x = cond (leb from at) (set buf (at - from) x) buf

-- one byte more; the count stays at the largest number once it is reached
unfoldable pub dab : Page → ℕ → Page
dab p x =
    record { at = min (p.at + 1) (2 ^ 64 - 1); from = p.from; buf = stamp p.buf p.from p.at x }

-- a run of bytes more
unfoldable pub paint : Page → Bytes → Page
paint p [] = p
paint p (x ∷ s) = paint (dab p x) s

-- the page that a window and the buffer beside it make
abbrev pub page_of : Window → Bytes → Page
page_of w out = record { at = w.at; from = w.from; buf = out }
