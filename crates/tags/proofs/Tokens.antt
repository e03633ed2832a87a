-- Laws of tokens at the front of a text, and of the list of them.
use mathlib.Core.Path.{◌≡◌, refl, ap, ◌∙◌}
use mathlib.Core.Bool.{Bool, true, false, cond}
use mathlib.Core.List.{[], ◌∷◌}
use Prim.Native.Nat.{ℕ, zero, suc, ◌+◌, ◌≤◌, ◌<◌}
use native.Mathlib.Omega.{arith}
use lib.ListN.{length, drop, length-drop}
use lib.Dec.{ltb}
use borrow.Author.Tests.{ltb-true}
use Rattle.parts.specs.Bytes.{Bytes, b, begins}
use Rattle.parts.proofs.Laws.{begins-fits}
use Rattle.tags.specs.Names.{names, element_at}
use Rattle.tags.specs.Form.{ok, run, Row, pair_at, pair_len, more_pairs, pairs_at, pairs_row, Read, bad, got, close_head, open_head_of, text_head, head_at_of, tail_at, ended, tagged, headed, next, onto, more_tokens, tokens_at, tokens_from}
use Rattle.tags.specs.declared.Class.TheVariants.{Text}
use Rattle.tags.specs.declared.Named.{Named}
use Rattle.tags.specs.declared.Named.TheVariants.{Name, Unnamed}
use Rattle.std.specs.Prelude.{Option, Some, None}
use Rattle.tags.specs.declared.Head.{Head}
use Rattle.tags.specs.declared.Head.TheVariants.{Bad, Words, Closing, Opening}
use Rattle.tags.specs.declared.Tail.{Tail}
use Rattle.tags.specs.declared.Tail.TheVariants.{Open, Empty, Neither}
use Rattle.tags.proofs.Laws.{run-le, which-fits}

-- ---- a head takes at least a byte, and no more than there are

abbrev pub Within : ℕ → Head → Type 0
Within n Bad = Unit {0}
Within n (Words k) = (0 < k) × (k ≤ n)
Within n (Closing m l) = (0 < l) × (l ≤ n)
Within n (Opening m l) = (0 < l) × (l ≤ n)

element-fits : (s : Bytes) (n l : ℕ) → element_at s ≡ Name n l → l ≤ length s
unfolding element_at
element-fits s n l e = which-fits 1 names s n l e

close-within : (s : Bytes) (p : Named) → element_at (drop 2 s) ≡ p → 2 ≤ length s → Within (length s) (close_head s p)
unfolding close_head
close-within s Unnamed e h = tt
close-within s (Name n l) e h = go (begins (b ">") (drop (l + 2) s)) refl
  where
    go : (z : Bool) → begins (b ">") (drop (l + 2) s) ≡ z → Within (length s) (cond z (Closing n (l + 3)) Bad)
    go true i = (omega arith, omega (arith, begins-fits (b ">") (drop (l + 2) s) i, length-drop (l + 2) s))
    go false i = tt

open_within : (s : Bytes) (p : Named) → element_at (drop 1 s) ≡ p → 1 ≤ length s → Within (length s) (open_head_of p)
unfolding open_head_of
open_within s Unnamed e h = tt
open_within s (Name n l) e h = (omega arith, omega (arith, element-fits (drop 1 s) n l e, length-drop 1 s))

text-within : (s : Bytes) (k : ℕ) → k ≤ length s → Within (length s) (text_head k)
unfolding text_head
text-within s k h = go (ltb 0 k) refl
  where
    go : (z : Bool) → ltb 0 k ≡ z → Within (length s) (cond z (Words k) Bad)
    go true i = (ltb-true 0 k i, h)
    go false i = tt

pub head_within : (s : Bytes) → Within (length s) (head_at_of s)
unfolding head_at_of
head_within s = go (begins (b "</") s) refl (begins (b "<") s) refl
  where
    go : (x : Bool) → begins (b "</") s ≡ x → (y : Bool) → begins (b "<") s ≡ y
        → Within (length s) (cond x (close_head s (element_at (drop 2 s))) (cond y (open_head_of (element_at (drop 1 s))) (text_head (run (ok Text) s))))
    go true e y f = close-within s (element_at (drop 2 s)) refl (begins-fits (b "</") s e)
    go false e true f = open_within s (element_at (drop 1 s)) refl (begins-fits (b "<") s f)
    go false e false f = text-within s (run (ok Text) s) (run-le (ok Text) s)

-- a tail takes what it says
abbrev pub tail_len : Tail → ℕ
tail_len Open = 1
tail_len Empty = 3
tail_len Neither = 0

pub tail-fits : (s : Bytes) → tail_len (tail_at s) ≤ length s
unfolding tail_at
tail-fits s = go (begins (b ">") s) refl (begins (b " />") s) refl
  where
    go : (x : Bool) → begins (b ">") s ≡ x → (y : Bool) → begins (b " />") s ≡ y → tail_len (cond x Open (cond y Empty Neither)) ≤ length s
    go true e y f = begins-fits (b ">") s e
    go false e true f = begins-fits (b " />") s f
    go false e false f = omega arith

-- ---- a token takes at least a byte

abbrev pub Shorter : ℕ → Read → Type 0
Shorter n bad = Unit {0}
Shorter n (got t r) = length r < n

rest_le : (n : ℕ) (s : Bytes) → length (pairs_at n s).rest ≤ length s
unfolding pairs_at
rest_le zero s = omega arith
rest_le (suc n) s = go (pair_at s) (rest_le n)
  where
    go : (p : Option (ℕ × ℕ)) → ((r : Bytes) → length (pairs_at n r).rest ≤ length r) → length (more_pairs (pairs_at n) s p).rest ≤ length s
    go None more = omega arith
    go (Some (k, v)) more = omega (arith, more (drop (pair_len k v) s), length-drop (pair_len k v) s)

ended_shorter : (n m : ℕ) (ps : Row) (t : Tail) → length ps.rest < n → Shorter n (ended m ps t)
unfolding ended
ended_shorter n m ps Open h = omega (arith, length-drop 1 ps.rest)
ended_shorter n m ps Empty h = omega (arith, length-drop 3 ps.rest)
ended_shorter n m ps Neither h = tt

headed_shorter : (s : Bytes) (p : Head) → Within (length s) p → Shorter (length s) (headed s p)
unfolding headed tagged pairs_row
headed_shorter s Bad h = tt
headed_shorter s (Words k) h = omega (arith, h.0, h.1, length-drop k s)
headed_shorter s (Closing n l) h = omega (arith, h.0, h.1, length-drop l s)
headed_shorter s (Opening n l) h =
    ended_shorter (length s) n (pairs_row (drop l s)) (tail_at (pairs_row (drop l s)).rest)
    (omega (arith, h.0, h.1, length-drop l s, rest_le (length (drop l s)) (drop l s)))

pub next_shorter : (s : Bytes) → Shorter (length s) (next s)
unfolding next
next_shorter s = headed_shorter s (head_at_of s) (head_within s)

-- ---- more fuel changes nothing

tokens_enough : (n m : ℕ) (s : Bytes) → length s ≤ n → length s ≤ m → tokens_at n s ≡ tokens_at m s
unfolding tokens_at
tokens_enough zero zero s h l = refl
tokens_enough zero (suc m) [] h l = refl
tokens_enough zero (suc m) (x ∷ s) h l = absurd (omega arith)
tokens_enough (suc n) zero [] h l = refl
tokens_enough (suc n) zero (x ∷ s) h l = absurd (omega arith)
tokens_enough (suc n) (suc m) [] h l = refl
tokens_enough (suc n) (suc m) (x ∷ s) h l = go (next (x ∷ s)) (next_shorter (x ∷ s)) (λ r hn hm. tokens_enough n m r hn hm)
  where
    go : (p : Read) → Shorter (suc (length s)) p → ((r : Bytes) → length r ≤ n → length r ≤ m → tokens_at n r ≡ tokens_at m r)
        → more_tokens (tokens_at n) (x ∷ s) p ≡ more_tokens (tokens_at m) (x ∷ s) p
    go bad q more = refl
    go (got t r) q more = ap (onto t) (more r (omega arith) (omega arith))

-- the tokens, by the one at the front
pub tokens-by : (s : Bytes) → tokens_from s ≡ more_tokens tokens_from s (next s)
unfolding tokens_from tokens_at
tokens-by [] = refl
tokens-by (x ∷ s) = tokens_enough (suc (length s)) (suc (suc (length s))) (x ∷ s) (omega arith) (omega arith) ∙ go (next (x ∷ s)) (next_shorter (x ∷ s))
  where
    go : (p : Read) → Shorter (suc (length s)) p → more_tokens (tokens_at (suc (length s))) (x ∷ s) p ≡ more_tokens tokens_from (x ∷ s) p
    go bad q = refl
    go (got t r) q = ap (onto t) (tokens_enough (suc (length s)) (length r) r (omega arith) (omega arith))
