-- The decimal digits of a number.
use Rattle.std.specs.Prelude.{ℕ, zero, suc, ◌+◌, ◌-◌, ◌*◌, ◌/◌, ◌%◌, [], ◌∷◌, ◌++◌, true, false, ltb}
use Rattle.parts.specs.Bytes.{Bytes}

-- the digits of a number that has at most so many
unfoldable pub digits : ℕ → ℕ → Bytes
digits zero n = []
digits (suc k) n = elim (ltb n 10) as (λ t. Bytes) [ true ↦ (48 + n) ∷ [] | false ↦ digits k (n / 10) ++ ((48 + n % 10) ∷ []) ]

-- the digits of a u32, which has at most 10
unfoldable pub decimal : ℕ → Bytes
decimal n = digits 10 n

-- the number whose digits are these, behind those of a number
unfoldable pub value_from : ℕ → Bytes → ℕ
value_from n [] = n
value_from n (x ∷ s) = value_from (10 * n + (x - 48)) s

-- the number that a text of digits writes
unfoldable pub value_of : Bytes → ℕ
value_of s = value_from 0 s
