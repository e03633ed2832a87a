-- Where a text breaks its first rule, for people: the bytes before that place, and its line.
use Rattle.std.specs.Prelude.{ℕ, zero, suc, ◌+◌, ◌-◌, [], ◌∷◌, Bool, false, cond, ◌||◌, length, eqb}
use Rattle.parts.specs.Bytes.{Bytes, begins, part}
use Rattle.tags.specs.Form.{Read, bad, got, next, opening}
use Rattle.checker.specs.View.{view}
use Rattle.checker.specs.Check.{Run, step_on, at_start}
use Rattle.checker.specs.declared.Verdict.{Verdict}
use Rattle.checker.specs.declared.Verdict.TheVariants.{Accepted, NotTags, TooHigh, NoTree, BadMarks}

-- whether the rule of an answer is broken behind a row of tokens: that of 13 by a height over 160 too, that of 11 is a matter of reading them
unfoldable pub is_broken : Verdict → Run → Bool
is_broken (Accepted c v) r = false
is_broken NotTags r = false
is_broken TooHigh r = r.high
is_broken NoTree r = r.high || r.trunk.broken
is_broken BadMarks r = r.pairs.amiss

-- all from here, if the token at the front cannot be read or breaks the rule; else go on behind it
abbrev pub more_broken : (Run → Bytes → Bytes) → Verdict → Run → Bytes → Read → Bytes
more_broken f v r s bad = s
more_broken f v r s (got t l) = cond (is_broken v (step_on r (view t))) s (f (step_on r (view t)) l)

-- at most as many tokens as the fuel
unfoldable pub broken_at : ℕ → Verdict → Run → Bytes → Bytes
broken_at zero v r s = s
broken_at (suc n) v r s = more_broken (broken_at n v) v r s (next s)

-- what stands from the first such token on, and nothing where there is none
unfoldable pub broken_from : Verdict → Run → Bytes → Bytes
broken_from v r s = broken_at (length s) v r s

-- the bytes before the place: none where the text does not open as it must, all where only its end breaks the rule
unfoldable pub broken_place : Verdict → Bytes → ℕ
broken_place v s = cond (begins opening s) (length s - length (broken_from v at_start s)) 0

-- whether a byte ends a line, as a number
unfoldable pub line_end : ℕ → ℕ
line_end c = cond (eqb c 10) 1 0

-- how many lines end in a text
unfoldable pub line_ends : Bytes → ℕ
line_ends [] = 0
line_ends (c ∷ s) = line_end c + line_ends s

-- the line of a place, from 1
unfoldable pub line_of : Bytes → ℕ → ℕ
line_of s n = line_ends (part s 0 n) + 1
