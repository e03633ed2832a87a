-- The passes of specs/Decide decide what specs/Nest defines.
use mathlib.Core.Path.{◌≡◌, refl, sym}
use mathlib.Core.Bool.{Bool, true, false, cond, ◌&&◌, ◌||◌}
use mathlib.Core.List.{List, [], ◌∷◌}
use mathlib.Core.Logic.{◌↔◌, ◌≢◌, inl, inr, ⊎_elim}
use mathlib.Core.Option.{Option, some, none}
use Prim.Native.Nat.{ℕ, zero, suc, ◌+◌, ◌≤◌, ◌<◌}
use native.Mathlib.Omega.{arith}
use lib.ListN.{length}
use lib.Dec.{eqb, ltb}
use borrow.Author.Tests.{eqb-true, eqb-false, ltb-true, ltb-false}
use Rattle.tape.specs.declared.Node.{Node}
use Rattle.nest.specs.Tape.{kind_at, link_at}
use Rattle.nest.specs.Nest.{container, close, part_of, TooDeep, RootEnds, Sound}
use Rattle.nest.specs.Decide.{deep_from_of, too_deep, awaited, match_from_of, all_matched_of, root_ends_of, sound}
use Rattle.nest.specs.declared.Part.{Part}
use Rattle.nest.specs.declared.Part.TheVariants.{Opens, Closes, Leaf}
use Rattle.nest.proofs.Tape.{yes_is, no_is, clash, Plays, plays}
use Rattle.nest.proofs.Counted.{Counted, counted_start, counted_next}
use Rattle.nest.proofs.Going.{Going, going_start, going_leaf, going_open, going_close, no_room, none-awaited, other-awaited, all_matched, one_awaited}

-- two answers to one question are the same
pub same_answer : {P : Type 0} (a b : Bool) → (a ≡ true) ↔ P → (b ≡ true) ↔ P → a ≡ b
same_answer true b p q = sym (q.1 (p.0 refl))
same_answer false true p q = p.1 (q.0 refl)
same_answer false false p q = refl

-- ---- refusal 6

deep_from : (t : List Node) (n i o c : ℕ) → Counted t i o c → i + n ≡ length t → (deep_from_of t n i o c ≡ true) ↔ TooDeep t
unfolding deep_from_of
deep_from t zero i o c g e = no_is (λ d. g.low d.0 (omega (arith, d.1)) d.2)
deep_from t (suc n) i o c g e = go (ltb (c + 64) o) refl (λ h. deep_from t n (i + 1) _ _ (counted_next g h) (omega arith))
  where
    rest : Bool
    rest = deep_from_of t n (i + 1) (o + cond (container t i) 1 0) (c + cond (close t i) 1 0)

    go : (b : Bool) → ltb (c + 64) o ≡ b → (o ≤ c + 64 → (rest ≡ true) ↔ TooDeep t) → (elim b [ true ↦ true | false ↦ rest ] ≡ true) ↔ TooDeep t
    go true h r = yes_is (i, omega arith, omega (arith, ltb-true (c + 64) o h, g.opened, g.closed))
    go false h r = r (ltb-false (c + 64) o h)

pub decides_6 : (t : List Node) → (too_deep t ≡ true) ↔ TooDeep t
unfolding too_deep
decides_6 t = deep_from t (length t) 0 0 0 (counted_start t) (omega arith)

-- ---- refusal 7

broken : (t : List Node) (n i : ℕ) → match_from_of t n i none ≡ none
unfolding match_from_of awaited
broken t zero i = refl
broken t (suc n) i = broken t n (i + 1)

abbrev Answers : List Node → ℕ → ℕ → Option (List ℕ) → Type 0
Answers t n i s = (all_matched_of (match_from_of t n i s) ≡ true) ↔ Sound t

breaks : (t : List Node) (n i : ℕ) → (Sound t → ⊥) → Answers t n i none
unfolding all_matched_of
breaks t n i d = rw (broken t n i) (no_is d)

match_step : (t : List Node) (n i : ℕ) → i < link_at t 0 → ((s : List ℕ) → Going t (i + 1) s → Answers t n (i + 1) (some s))
    → (p : Part) → Plays t i p → (s : List ℕ) → Going t i s → Answers t n (i + 1) (awaited p i (some s))
unfolding awaited
match_step t n i l r (Opens m) p s g = go (eqb (length s) 64) refl
  where
    go : (b : Bool) → eqb (length s) 64 ≡ b → Answers t n (i + 1) (cond b none (some (m ∷ s)))
    go true e = breaks t n (i + 1) (no_room l g p (eqb-true _ _ e))
    go false e = let d : length s ≢ 64 = eqb-false _ _ e in r (m ∷ s) (going_open l g p (omega (arith, g.fits)))
match_step t n i l r Closes p [] g = breaks t n (i + 1) (none-awaited l g p)
match_step t n i l r Closes p (c ∷ s) g = go (eqb c i) refl
  where
    go : (b : Bool) → eqb c i ≡ b → Answers t n (i + 1) (cond b (some s) none)
    go true e = r s (going_close l g p (eqb-true _ _ e))
    go false e = breaks t n (i + 1) (other-awaited l g p (eqb-false _ _ e))
match_step t n i l r Leaf p s g = r s (going_leaf l g p)

match_from : (t : List Node) (n i : ℕ) (s : List ℕ) → Going t i s → i + n ≡ link_at t 0 → Answers t n i (some s)
unfolding match_from_of all_matched_of
match_from t zero i [] g e = yes_is (all_matched (omega arith) g)
match_from t zero i (c ∷ s) g e = no_is (one_awaited (omega arith) g)
match_from t (suc n) i s g e =
    match_step t n i (omega arith) (λ s' g'. match_from t n (i + 1) s' g' (omega arith)) (part_of t i) (plays t i) s g

root_ends : (t : List Node) → (root_ends_of t ≡ true) ↔ RootEnds t
unfolding root_ends_of
root_ends t = go (eqb (link_at t 0) (length t)) (eqb (link_at t 0 + 1) (length t)) (eqb (kind_at t (link_at t 0)) 5) refl refl refl
  where
    go : (a b c : Bool) → eqb (link_at t 0) (length t) ≡ a → eqb (link_at t 0 + 1) (length t) ≡ b → eqb (kind_at t (link_at t 0)) 5 ≡ c
        → ((a || (b && c)) ≡ true) ↔ RootEnds t
    go true b c p q r = yes_is (inl (eqb-true _ _ p))
    go false true true p q r = yes_is (inr (eqb-true _ _ q, eqb-true _ _ r))
    go false true false p q r = no_is (⊎_elim (eqb-false _ _ p) (λ x. eqb-false _ _ r x.1))
    go false false c p q r = no_is (⊎_elim (eqb-false _ _ p) (λ x. eqb-false _ _ q x.0))

pub decides_7 : (t : List Node) → (sound t ≡ true) ↔ Sound t
unfolding sound
decides_7 t = go (root_ends_of t) (root_ends t)
  where
    m : Bool
    m = all_matched_of (match_from_of t (link_at t 0) 0 (some []))

    go : (b : Bool) → (b ≡ true) ↔ RootEnds t → ((b && m) ≡ true) ↔ Sound t
    go true r = match_from t (link_at t 0) 0 [] (going_start (r.0 refl)) (omega arith)
    go false r = no_is (λ f. clash (r.1 f.nested.root) refl)
