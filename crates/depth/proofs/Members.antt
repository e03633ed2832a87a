-- Lists that are parts of a list: cut, filtered, or what a fold leaves.
use mathlib.Core.Path.{◌≡◌, refl}
use mathlib.Core.Bool.{Bool, true, false, cond}
use mathlib.Core.List.{List, [], ◌∷◌}
use mathlib.Core.Logic.{◌⊎◌, inl, inr, ⊎_elim}
use mathlib.Core.Option.{Option, none, some}
use Prim.Native.Nat.{ℕ}
use Rattle.parts.specs.Bytes.{Bytes}
use Rattle.tape.specs.File.{Tape}
use Rattle.tape.specs.Tree.{up_to, from_first, without}
use Rattle.nest.specs.Walk.{In}
use Rattle.fold.specs.Fold.{claim_of, number_in, is_some, fold_from, fold_at}
use Rattle.fold.specs.declared.Claim.{Claim}
use Rattle.fold.specs.declared.Claim.TheVariants.{Blank, Alt, Pub, Stops}
use Rattle.fold.proofs.Folding.{fold_blank, fold_alt, fold_pub, fold_stops, fold_nil}

-- every node of one list is in the other
pub record Within (ls ks : List ℕ) : Type 0 where
  pub each : (c : ℕ) → In c ls → In c ks

pub all-within : (ks : List ℕ) → Within ks ks
all-within ks = record { each = λ c i. i }

pub more_within : {ls ks : List ℕ} (k : ℕ) → Within ls ks → Within ls (k ∷ ks)
more_within k w = record { each = λ c i. inr (w.each c i) }

pub both_within : {ls ks : List ℕ} (k : ℕ) → Within ls ks → Within (k ∷ ls) (k ∷ ks)
both_within {ls} {ks} k w = record { each = λ c i. ⊎_elim {C = In c (k ∷ ks)} (λ e. inl e) (λ j. inr (w.each c j)) i }

pub cut-within : (p : ℕ → Bool) (ks : List ℕ) → Within (up_to p ks) ks
unfolding up_to
cut-within p [] = all-within []
cut-within p (k ∷ ks) = go (p k) (cut-within p ks)
  where
    go : (x : Bool) → Within (up_to p ks) ks → Within (cond x [] (k ∷ up_to p ks)) (k ∷ ks)
    go true w = record { each = λ c i. absurd i }
    go false w = both_within k w

pub from_within : (p : ℕ → Bool) (ks : List ℕ) → Within (from_first p ks) ks
unfolding from_first
from_within p [] = all-within []
from_within p (k ∷ ks) = go (p k) (from_within p ks)
  where
    go : (x : Bool) → Within (from_first p ks) ks → Within (cond x (k ∷ ks) (from_first p ks)) (k ∷ ks)
    go true w = all-within (k ∷ ks)
    go false w = more_within k w

pub without-within : (p : ℕ → Bool) (ks : List ℕ) → Within (without p ks) ks
unfolding without
without-within p [] = all-within []
without-within p (k ∷ ks) = go (p k) (without-within p ks)
  where
    go : (x : Bool) → Within (without p ks) ks → Within (cond x (without p ks) (k ∷ without p ks)) (k ∷ ks)
    go true w = more_within k w
    go false w = both_within k w

folded_within : (t : Tape) (kind : ℕ) (alt published : Option Bytes) (ks : List ℕ) → Within (fold_from t kind alt published ks).rest ks
folded_within t kind alt published [] = rw (fold_nil t kind alt published) (all-within [])
folded_within t kind alt published (k ∷ ks) = go (claim_of t kind (is_some alt) (is_some published) k) refl (λ a p. folded_within t kind a p ks)
  where
    go : (c : Claim) → c ≡ claim_of t kind (is_some alt) (is_some published) k → ((a p : Option Bytes) → Within (fold_from t kind a p ks).rest ks)
        → Within (fold_from t kind alt published (k ∷ ks)).rest (k ∷ ks)
    go Blank e w = rw (fold_blank t kind alt published k ks e refl) (more_within k (w alt published))
    go Alt e w = rw (fold_alt t kind alt published k ks e refl) (more_within k (w (some (number_in t k)) published))
    go Pub e w = rw (fold_pub t kind alt published k ks e refl) (more_within k (w alt (some (number_in t k))))
    go Stops e w = rw (fold_stops t kind alt published k ks e refl) (all-within (k ∷ ks))

pub fold_within : (t : Tape) (kind : ℕ) (ks : List ℕ) → Within (fold_at t kind ks).rest ks
unfolding fold_at
fold_within t kind ks = folded_within t kind none none ks
