-- Laws of a walk along siblings: nothing left, one step, fewer left; the same with a list that is cut or filtered.
use mathlib.Core.Path.{◌≡◌, refl, sym, ap, ◌∙◌}
use mathlib.Core.Bool.{Bool, true, false, cond, not}
use mathlib.Core.List.{List, [], ◌∷◌}
use Prim.Native.Nat.{ℕ, zero, suc, ◌+◌, ◌-◌, ◌≤◌, ◌<◌}
use native.Mathlib.Omega.{arith}
use lib.ListN.{length}
use lib.Dec.{ltb}
use borrow.Author.Tests.{ltb-false, ltb-true}
use Rattle.tape.specs.File.{Tape, kind_at}
use Rattle.tape.specs.Tree.{is_close, last_held, sibling_past, next_sibling, first_child, left, along, walk_from, children, siblings, up_to, without}
use Rattle.tape.specs.declared.Cursor.{Cursor}
use Rattle.tape.specs.Found.{Step}
use Rattle.std.specs.Prelude.{None, Some}

-- ---- what a step leads to

pub none_is : (x : Bool) {a : Bool} → a ≡ not x → x ≡ not a
none_is false e = rw e
none_is true e = rw e

-- ---- steps go forward

past-left : (t : Tape) (k last : ℕ) → left t (sibling_past t k last) ≤ length t.nodes - k
unfolding sibling_past left
past-left t k last = go (ltb last k) refl
  where
    go₃ : (x : Bool) → last + 1 < length t.nodes → k ≤ last → left t (cond x None (Some (record { at = last + 1 }))) ≤ length t.nodes - k
    go₃ true h l = omega arith
    go₃ false h l = omega arith

    go₂ : (x : Bool) → ltb (last + 1) (length t.nodes) ≡ x → k ≤ last
        → left t (cond x (cond (is_close (kind_at t (last + 1))) None (Some (record { at = last + 1 }))) None) ≤ length t.nodes - k
    go₂ true e l = go₃ (is_close (kind_at t (last + 1))) (ltb-true (last + 1) (length t.nodes) e) l
    go₂ false e l = omega arith

    go : (x : Bool) → ltb last k ≡ x
        → left t (cond x None (cond (ltb (last + 1) (length t.nodes)) (cond (is_close (kind_at t (last + 1))) None (Some (record { at = last + 1 }))) None)) ≤ length t.nodes - k
    go true e = omega arith
    go false e = go₂ (ltb (last + 1) (length t.nodes)) refl (ltb-false last k e)

next-left : (t : Tape) (k : ℕ) → left t (next_sibling t k) ≤ length t.nodes - k
unfolding next_sibling
next-left t k = past-left t k (last_held t k)

-- enough is enough
along_enough : (t : Tape) (n m : ℕ) (s : Step) → left t s ≤ n → left t s ≤ m → along t n s ≡ along t m s
unfolding along left
along_enough t zero zero s h l = refl
along_enough t zero (suc m) None h l = refl
along_enough t zero (suc m) (Some c) h l = absurd (omega arith)
along_enough t (suc n) zero None h l = refl
along_enough t (suc n) zero (Some c) h l = absurd (omega arith)
along_enough t (suc n) (suc m) None h l = refl
along_enough t (suc n) (suc m) (Some c) h l =
    ap (λ (ks : List ℕ). c.at ∷ ks)
    (along_enough t n m (next_sibling t c.at) (omega (arith, next-left t c.at)) (omega (arith, next-left t c.at)))

-- ---- a walk

pub walk_done : (t : Tape) → walk_from t None ≡ []
unfolding walk_from along left
walk_done t = refl

pub walk_at : (t : Tape) (c : Cursor) → walk_from t (Some c) ≡ c.at ∷ walk_from t (next_sibling t c.at)
unfolding walk_from along left
walk_at t c =
    ap (λ (ks : List ℕ). c.at ∷ ks)
    (along_enough t (length t.nodes - c.at) (left t (next_sibling t c.at)) (next_sibling t c.at) (next-left t c.at) (omega arith))

pub left_at : (t : Tape) (c : Cursor) → left t (next_sibling t c.at) < left t (Some c)
unfolding left
left_at t c = omega (arith, next-left t c.at)

-- one turn: a step that is at a node is that node and the siblings behind it
pub walk_turn : (t : Tape) (c : Cursor) {s n : Step} → s ≡ Some c → n ≡ next_sibling t c.at → walk_from t s ≡ c.at ∷ walk_from t n
walk_turn t c es en = ap (walk_from t) es ∙ walk_at t c ∙ ap (λ (z : Step). c.at ∷ walk_from t z) (sym en)

pub walk_end : (t : Tape) {s : Step} → s ≡ None → walk_from t s ≡ []
walk_end t es = ap (walk_from t) es ∙ walk_done t

pub left-turn : (t : Tape) (c : Cursor) {s n : Step} → s ≡ Some c → n ≡ next_sibling t c.at → left t n < left t s
left-turn t c es en = rw (es, en) (left_at t c)

-- a node and its siblings: the list behind the node
pub siblings_at : (t : Tape) (c : Cursor) → walk_from t (Some c) ≡ c.at ∷ siblings t c.at
unfolding siblings
siblings_at t c = walk_at t c

pub children_walk : (t : Tape) (k : ℕ) {s : Step} → s ≡ first_child t k → walk_from t s ≡ children t k
unfolding children
children_walk t k es = ap (walk_from t) es

pub siblings_walk : (t : Tape) (k : ℕ) {s : Step} → s ≡ next_sibling t k → walk_from t s ≡ siblings t k
unfolding siblings
siblings_walk t k es = ap (walk_from t) es

-- ---- a list that is cut, and one that is filtered

module _ (p : ℕ → Bool) where
  pub up_to_stop : (k : ℕ) (ks : List ℕ) → p k ≡ true → up_to p (k ∷ ks) ≡ []
  unfolding up_to
  up_to_stop k ks h = rw h

  pub up_to_go : (k : ℕ) (ks : List ℕ) → p k ≡ false → up_to p (k ∷ ks) ≡ k ∷ up_to p ks
  unfolding up_to
  up_to_go k ks h = rw h

  pub without_skip : (k : ℕ) (ks : List ℕ) → p k ≡ true → without p (k ∷ ks) ≡ without p ks
  unfolding without
  without_skip k ks h = rw h

  pub without-keep : (k : ℕ) (ks : List ℕ) → p k ≡ false → without p (k ∷ ks) ≡ k ∷ without p ks
  unfolding without
  without-keep k ks h = rw h

-- one turn of a walk over a list that is cut: the end, or a node and what is left
module _ (p : ℕ → Bool) (t : Tape) (c : Cursor) {s : Step} (es : s ≡ Some c) where
  pub cut_walk_stop : p c.at ≡ true → up_to p (walk_from t s) ≡ []
  cut_walk_stop h = ap (up_to p) (walk_turn t c es refl) ∙ up_to_stop p c.at (walk_from t (next_sibling t c.at)) h

  pub cut_walk_turn : {n : Step} → n ≡ next_sibling t c.at → p c.at ≡ false → up_to p (walk_from t s) ≡ c.at ∷ up_to p (walk_from t n)
  cut_walk_turn {n} en h = ap (up_to p) (walk_turn t c es en) ∙ up_to_go p c.at (walk_from t n) h

  pub filter_walk_skip : {n : Step} → n ≡ next_sibling t c.at → p c.at ≡ true → without p (walk_from t s) ≡ without p (walk_from t n)
  filter_walk_skip {n} en h = ap (without p) (walk_turn t c es en) ∙ without_skip p c.at (walk_from t n) h

  pub filter_walk_turn : {n : Step} → n ≡ next_sibling t c.at → p c.at ≡ false → without p (walk_from t s) ≡ c.at ∷ without p (walk_from t n)
  filter_walk_turn {n} en h = ap (without p) (walk_turn t c es en) ∙ without-keep p c.at (walk_from t n) h

-- what is left behind a node is less than at a step that leads to it
pub left_behind : (t : Tape) {step : Step} {c : Cursor} (n : Step) → step ≡ Some c → left t n < left t (Some c) → left t n < left t step
left_behind t n e h = rw e h
