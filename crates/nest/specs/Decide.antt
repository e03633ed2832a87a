-- Refusals 6 and 7 by computation: one pass each. Laws show that these decide TooDeep and Sound.
use Rattle.std.specs.Prelude.{Bool, true, false, cond, ◌&&◌, ◌||◌, List, [], ◌∷◌, ℕ, zero, suc, ◌+◌, length, eqb, ltb}
use Rattle.std.proofs.Math.Option.{Option, some, none}
use Rattle.tape.specs.declared.Node.{Node}
use Rattle.nest.specs.Tape.{kind_at, link_at}
use Rattle.nest.specs.Nest.{container, close, part_of, most_open}
use Rattle.nest.specs.declared.Part.{Part}
use Rattle.nest.specs.declared.Part.TheVariants.{Opens, Closes, Leaf}
use Rattle.tape.specs.Kind as kinds

-- the n nodes from i on, before which stand o containers and c closes
unfoldable pub deep_from_of : List Node → ℕ → ℕ → ℕ → ℕ → Bool
deep_from_of t zero i o c = false
deep_from_of t (suc n) i o c =
    elim (ltb (c + most_open) o) [
      | true ↦ true
      | false ↦ deep_from_of t n (i + 1) (o + cond (container t i) 1 0) (c + cond (close t i) 1 0)
    ]

-- refusal 6: over 64 containers are open before some node
unfoldable pub too_deep : List Node → Bool
too_deep t = deep_from_of t (length t) 0 0 0

-- the awaited closes past node i; none where a rule is broken
unfoldable pub awaited : Part → ℕ → Option (List ℕ) → Option (List ℕ)
awaited p i none = none
awaited (Opens l) i (some s) = cond (eqb (length s) most_open) none (some (l ∷ s))
awaited Closes i (some []) = none
awaited Closes i (some (c ∷ s)) = cond (eqb c i) (some s) none
awaited Leaf i (some s) = some s

-- the n nodes from i on
unfoldable pub match_from_of : List Node → ℕ → ℕ → Option (List ℕ) → Option (List ℕ)
match_from_of t zero i s = s
match_from_of t (suc n) i s = match_from_of t n (i + 1) (awaited (part_of t i) i s)

-- no rule was broken, and no close is awaited
unfoldable pub all_matched_of : Option (List ℕ) → Bool
all_matched_of none = false
all_matched_of (some []) = true
all_matched_of (some (c ∷ s)) = false

-- Root's link is the node count, or the last node where that is a BlockEnd
unfoldable pub root_ends_of : List Node → Bool
root_ends_of t =
    eqb (link_at t 0) (length t)
    || (eqb (link_at t 0 + 1) (length t) && eqb (kind_at t (link_at t 0)) kinds.block_end_of)

-- neither 6 nor 7 applies: Root ends as it should, and every close before Root's link is the one awaited
unfoldable pub sound : List Node → Bool
sound t = root_ends_of t && all_matched_of (match_from_of t (link_at t 0) 0 (some []))
