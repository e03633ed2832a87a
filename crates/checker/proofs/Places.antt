-- Laws of the search for the place where the first rule broke.
use mathlib.Core.Path.{◌≡◌, refl, sym, ap, ◌∙◌}
use mathlib.Core.Bool.{Bool, true, false, cond, ◌||◌}
use mathlib.Core.List.{List, [], ◌∷◌}
use Prim.Native.Nat.{ℕ, zero, suc, ◌-◌, ◌≤◌, ◌<◌}
use native.Mathlib.Omega.{arith}
use lib.ListN.{length, drop, length-drop, drop_of_length-le}
use Rattle.parts.specs.Bytes.{Bytes}
use Rattle.tags.specs.Form.{Read, bad, got, next}
use Rattle.tags.proofs.Tokens.{Shorter, next_shorter}
use Rattle.checker.specs.View.{View, view}
use Rattle.checker.specs.Steps.{Pairs}
use Rattle.checker.specs.Check.{Run, step_on, at_start, Alike}
use Rattle.checker.specs.Code.{view_in, brief, sight_in, held_in, run_in, state_at_start}
use Rattle.checker.specs.Place.{is_broken, more_broken, broken_at, broken_from}
use Rattle.checker.specs.declared.Tag.{Tag}
use Rattle.std.specs.Prelude.{Some, None}
use Rattle.checker.specs.declared.State.{State}
use Rattle.checker.specs.declared.Verdict.{Verdict}
use Rattle.checker.specs.declared.Verdict.TheVariants.{Accepted, NotTags, TooHigh, NoTree, BadMarks}
use Rattle.checker.proofs.Whole.{alike_step, Going, going_start, going_turn, got_one}

-- ---- more fuel changes nothing

empty-broken : (f : Run → Bytes → Bytes) (v : Verdict) (r : Run) (p : Read) → Shorter 0 p → more_broken f v r [] p ≡ []
empty-broken f v r bad q = refl
empty-broken f v r (got t l) q = absurd (omega arith)

broken_enough : (n m : ℕ) (v : Verdict) (r : Run) (s : Bytes) → length s ≤ n → length s ≤ m → broken_at n v r s ≡ broken_at m v r s
unfolding broken_at
broken_enough zero zero v r s h l = refl
broken_enough zero (suc m) v r [] h l = sym (empty-broken (broken_at m v) v r (next []) (next_shorter []))
broken_enough zero (suc m) v r (x ∷ s) h l = absurd (omega arith)
broken_enough (suc n) zero v r [] h l = empty-broken (broken_at n v) v r (next []) (next_shorter [])
broken_enough (suc n) zero v r (x ∷ s) h l = absurd (omega arith)
broken_enough (suc n) (suc m) v r s h l = go (next s) (next_shorter s) (λ q z hn hm. broken_enough n m v q z hn hm)
  where
    go : (p : Read) → Shorter (length s) p → ((q : Run) (z : Bytes) → length z ≤ n → length z ≤ m → broken_at n v q z ≡ broken_at m v q z)
        → more_broken (broken_at n v) v r s p ≡ more_broken (broken_at m v) v r s p
    go bad q more = refl
    go (got t z) q more = ap (cond (is_broken v (step_on r (view t))) s) (more (step_on r (view t)) z (omega arith) (omega arith))

broken-by : (v : Verdict) (r : Run) (s : Bytes) → broken_from v r s ≡ more_broken (broken_from v) v r s (next s)
unfolding broken_from broken_at
broken-by v r s = broken_enough (length s) (suc (length s)) v r s (omega arith) (omega arith) ∙ go (next s) (next_shorter s)
  where
    go : (p : Read) → Shorter (length s) p → more_broken (broken_at (length s) v) v r s p ≡ more_broken (broken_from v) v r s p
    go bad q = refl
    go (got t z) q = ap (cond (is_broken v (step_on r (view t))) s) (broken_enough (length s) (length z) v (step_on r (view t)) z (omega arith) (omega arith))

-- ---- runs that differ in a tree which is nothing to the answer

alike_broken : (v : Verdict) {p q : Run} → Alike p q → is_broken v p ≡ is_broken v q
unfolding is_broken
alike_broken (Accepted c n) a = refl
alike_broken NotTags a = refl
alike_broken TooHigh a = a.high
alike_broken NoTree {p} {q} a = go q.high refl
  where
    go : (x : Bool) → q.high ≡ x → (p.high || p.trunk.broken) ≡ (q.high || q.trunk.broken)
    go true e = rw (a.high, e)
    go false e = rw (a.high, a.trunk e)
alike_broken BadMarks a = ap (λ (p : Pairs). p.amiss) a.pairs

alike_at : (n : ℕ) (v : Verdict) {p q : Run} (s : Bytes) → Alike p q → broken_at n v p s ≡ broken_at n v q s
unfolding broken_at
alike_at zero v s a = refl
alike_at (suc n) v {p} {q} s a = go (next s) (λ u l. alike_at n v l (alike_step a u))
  where
    go : (l : Read) → ((u : View) (l : Bytes) → broken_at n v (step_on p u) l ≡ broken_at n v (step_on q u) l) → more_broken (broken_at n v) v p s l ≡ more_broken (broken_at n v) v q s l
    go bad more = refl
    go (got t l) more =
        ap (λ (z : Bool). cond z s (broken_at n v (step_on p (view t)) l)) (alike_broken v (alike_step a (view t)))
        ∙ ap (cond (is_broken v (step_on q (view t))) s) (more (view t) l)

alike_from : (v : Verdict) {p q : Run} (s : Bytes) → Alike p q → broken_from v p s ≡ broken_from v q s
unfolding broken_from
alike_from v s a = alike_at (length s) v s a

-- ---- the loop

-- at a place of the text: what is left breaks the rule where the whole does
pub record Looking (v : Verdict) (x : List ℕ) (s : State) (at : ℕ) : Type 0 where
  pub going : Going x s at
  pub more : broken_from v (run_in x s) (drop at x) ≡ broken_from v at_start x

pub look_start : (v : Verdict) (x : List ℕ) (s : State) → s ≡ state_at_start → Looking v x s 0
unfolding held_in
look_start v x s e = record { going = going_start x s e; more = rw e }

module _ (v : Verdict) (x : List ℕ) (at : ℕ) (h : at < length x) where
  -- what is broken from here on tells the place
  place_here : drop at x ≡ broken_from v at_start x → at ≡ length x - length (broken_from v at_start x)
  place_here e = omega (arith, ap length e, length-drop at x)

  pub look_bad : (s : State) → sight_in x None ≡ brief (next (drop at x)) → Looking v x s at
      → at ≡ length x - length (broken_from v at_start x)
  unfolding sight_in brief
  look_bad s e g = go (next (drop at x)) refl
    where
      go : (p : Read) → next (drop at x) ≡ p → at ≡ length x - length (broken_from v at_start x)
      go bad i =
          place_here (sym (broken-by v (run_in x s) (drop at x) ∙ ap (more_broken (broken_from v) v (run_in x s) (drop at x)) i) ∙ g.more)
      go (got t l) i = absurd (let no_way : ◌≡◌ {A = ℕ} 0 1 = cc in omega arith)

  module _ (tag : Tag) (e : ℕ) (is : sight_in x (Some (tag, e)) ≡ brief (next (drop at x))) (s s' : State)
      (st : Alike (run_in x s') (step_on (run_in x s) (view_in x tag))) {u : Bool} (eu : u ≡ is_broken v (run_in x s')) where
    turned : broken_from v (run_in x s) (drop at x) ≡ cond u (drop at x) (broken_from v (run_in x s') (drop e x))
    turned =
        let one = got_one x at h tag e is in
        let r : Run = step_on (run_in x s) (view_in x tag) in
        broken-by v (run_in x s) (drop at x)
        ∙ ap (more_broken (broken_from v) v (run_in x s) (drop at x)) one.1
        ∙ ap (λ (w : View). cond (is_broken v (step_on (run_in x s) w)) (drop at x) (broken_from v (step_on (run_in x s) w) (drop e x))) one.2
        ∙ ap (cond (is_broken v r) (drop at x)) (sym (alike_from v (drop e x) st))
        ∙ ap (λ (z : Bool). cond z (drop at x) (broken_from v (run_in x s') (drop e x))) (sym (eu ∙ alike_broken v st))

    pub look_up : u ≡ true → Looking v x s at → at ≡ length x - length (broken_from v at_start x)
    look_up up g =
        place_here (sym (turned ∙ ap (λ (z : Bool). cond z (drop at x) (broken_from v (run_in x s') (drop e x))) up) ∙ g.more)

    pub look_turn : u ≡ false → Looking v x s at → Looking v x s' e
    look_turn down g =
        record {
          going = going_turn x at h tag e is s s' st g.going;
          more = sym (turned ∙ ap (λ (z : Bool). cond z (drop at x) (broken_from v (run_in x s') (drop e x))) down) ∙ g.more;
        }

pub look_end : (v : Verdict) (x : List ℕ) (s : State) (at : ℕ) → length x ≤ at → Looking v x s at → length x ≡ length x - length (broken_from v at_start x)
unfolding broken_from broken_at
look_end v x s at h g =
    let none : broken_from v (run_in x s) (drop at x) ≡ [] = ap (broken_from v (run_in x s)) (drop_of_length-le x h) in
    omega (arith, ap length (sym none ∙ g.more))
