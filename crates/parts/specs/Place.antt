-- Where a part of a lent slice stands.
use Rattle.std.specs.Prelude.{◌≡◌, ℕ, ◌+◌, min, length}
use Rattle.std.specs.Borrow.{Bor}
use Rattle.parts.specs.Bytes.{Bytes, part}

-- r is the very part of a lent text that starts at a place and is so long, as far as the text reaches:
-- it holds the bytes of that part, and its first byte is that byte of the text, in the same block of memory
pub data VeryPart (whole r : Bor Bytes) (start len : ℕ) : Type 0 where
  very : r.now ≡ part whole.now start len → r.ref_ptr.0 ≡ whole.ref_ptr.0 → r.ref_ptr.1 ≡ whole.ref_ptr.1 + min start (length whole.now) → VeryPart whole r start len
