-- What a run leaves in the buffer, in closed form.
use Rattle.std.specs.Prelude.{ℕ, ◌+◌, ◌-◌, ◌++◌, length, take, drop}
use Rattle.parts.specs.Bytes.{Bytes}

-- a buffer with a run over it from a place on, as far as the buffer reaches
unfoldable pub over : Bytes → ℕ → Bytes → Bytes
over buf d s = take d buf ++ (take (length buf - d) s ++ drop (d + length s) buf)

-- a run whose first byte is number `at` of the text, in a buffer that starts with byte number `from`
unfoldable pub lay : Bytes → ℕ → ℕ → Bytes → Bytes
lay buf from at s = over buf (at - from) (drop (from - at) s)
