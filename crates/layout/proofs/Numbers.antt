-- The bytes of numbers, as std gives them.
use Rattle.std.proofs.Common.{◌≡◌, ℕ, ◌<◌, ◌^◌, reverse, w16, rules}
use Rattle.std.specs.Int.{to_le_bytes, to_be_bytes}
use Rattle.admit.specs.Encode.{two}

pub two_bytes : (n : ℕ) → n < 2 ^ 16 → to_le_bytes w16 n ≡ two n
two_bytes n h = search rules

pub two_turned : (n : ℕ) → n < 2 ^ 16 → to_be_bytes w16 n ≡ reverse (two n)
two_turned n h = search rules
