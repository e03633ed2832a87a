-- What follows a node: one look for a run of blanks, one question for a parent.
use mathlib.Core.Path.{◌≡◌, refl, sym, ap, ◌∙◌}
use mathlib.Core.Logic.{inl, inr, ⊎_elim}
use mathlib.Core.Bool.{Bool, true, false}
use Prim.Native.Nat.{ℕ}
use native.Mathlib.Omega.{arith}
use Rattle.tape.specs.File.{Tape, kind_at, info_at}
use Rattle.tape.specs.Tree.{next_sibling, walk_from}
use Rattle.tape.specs.declared.kinds.Kind.{Kind}
use Rattle.tape.specs.declared.Cursor.{Cursor}
use Rattle.tape.specs.declared.Entry.{Entry}
use Rattle.tape.specs.Found.{Info}
use Rattle.tape.specs.Found.{Step}
use Rattle.std.specs.Prelude.{None, Some}
use Rattle.tape.proofs.Walk.{siblings_walk}
use Rattle.render.specs.Shape.{is_inline_of}
use Rattle.render.specs.First.{first_with}
use Rattle.render.specs.Follow.{is_solid, next_solid_of, inline_at_of, inline_follows_of, Kept}
use Rattle.render.proofs.Shapes.{kind_not, inline_known, category-character}
use Rattle.render.proofs.Finds.{first_end, first_here, first_past}

-- ---- what is passed over

module _ (t : Tape) (k : ℕ) {z : Kind} (ek : z.code ≡ kind_at t k) where
  pub solid-other : (z.code ≡ 2 → ⊥) → (z.code ≡ 8 → ⊥) → (z.code ≡ 1 → ⊥) → true ≡ is_solid t k
  unfolding is_solid
  solid-other g h l = rw (kind_not t k ek 2 g, kind_not t k ek 8 h, kind_not t k ek 1 l)

-- ---- what a look tells

module _ (t : Tape) (k : ℕ) {z : Kind} (ek : z.code ≡ kind_at t k) where
  -- a marker of characters

  pub runs_solid : {x : Bool} → z.code ≡ 3 → x ≡ true → is_solid t k ≡ true
  runs_solid h e = sym (solid-other t k ek (λ n. omega arith) (λ n. omega arith) (λ n. omega arith))

  pub runs_inline : {i : Info} (x : Entry) → z.code ≡ 3 → i ≡ info_at t k → i ≡ Some x → x.category.code ≡ 4 → is_inline_of t k ≡ true
  runs_inline x h ei ex e = sym (inline_known t k ek (λ n. omega arith) (λ n. omega arith) x h ei ex (category-character x.category.code e))

-- nothing is claimed where a look does not tell
pub clear_none : {x : Bool} → false ≡ true → x ≡ true
clear_none e = absurd (let no_way : ◌≡◌ {A = ℕ} 0 1 = cc in omega arith)

-- ---- the next solid sibling

pub solid-found : (t : Tape) (k : ℕ) {s r : Step} → s ≡ next_sibling t k → r ≡ first_with (is_solid t) (walk_from t s) → r ≡ next_solid_of t k
unfolding next_solid_of
solid-found t k es er = er ∙ ap (first_with (is_solid t)) (siblings_walk t k es)

module _ (t : Tape) (k : ℕ) where
  solid_walk : next_solid_of t k ≡ first_with (is_solid t) (walk_from t (next_sibling t k))
  unfolding next_solid_of
  solid_walk = ap (first_with (is_solid t)) (sym (siblings_walk t k refl))

  -- no sibling, no solid one
  pub solid_end : next_sibling t k ≡ None → next_solid_of t k ≡ None
  solid_end e = solid_walk ∙ first_end t (is_solid t) e

  -- a sibling that is not passed over is the next solid one
  pub solid_here : (c : Cursor) → next_sibling t k ≡ Some c → is_solid t c.at ≡ true → next_solid_of t k ≡ Some c
  solid_here c e h = solid_walk ∙ first_here t (is_solid t) c e h

  pub solid_clear : {s : Step} {x : Bool} (c : Cursor) → s ≡ next_sibling t k → s ≡ Some c → (x ≡ true → is_solid t c.at ≡ true) → x ≡ true → Some c ≡ next_solid_of t k
  solid_clear c es ec f h = sym (solid_here c (sym es ∙ ec) (f h))

  -- a sibling that is passed over has the same next solid one
  pub solid-past : (c : Cursor) → next_sibling t k ≡ Some c → is_solid t c.at ≡ false → next_solid_of t k ≡ next_solid_of t c.at
  unfolding next_solid_of
  solid-past c e h = solid_walk ∙ first_past t (is_solid t) c e refl h ∙ ap (first_with (is_solid t)) (siblings_walk t c.at refl)

  -- and what follows it is what follows the node before
  pub follows_past : (c : Cursor) → next_sibling t k ≡ Some c → is_solid t c.at ≡ false → inline_follows_of t k ≡ inline_follows_of t c.at
  unfolding inline_follows_of
  follows_past c e h = ap (inline_at_of t) (solid-past c e h)

  pub follows_here : (c : Cursor) → next_sibling t k ≡ Some c → is_solid t c.at ≡ true → inline_follows_of t k ≡ is_inline_of t c.at
  unfolding inline_follows_of inline_at_of
  follows_here c e h = ap (inline_at_of t) (solid_here c e h)

  -- what was found from a node serves its next sibling
  pub kept_on : (c : Cursor) {s : Step} → next_sibling t k ≡ Some c → s ≡ next_solid_of t k → Kept t c s
  kept_on c {s} e es = go (is_solid t c.at) refl
    where
      go : (x : Bool) → is_solid t c.at ≡ x → Kept t c s
      go true h = inl (es ∙ solid_here c e h)
      go false h = inr (es ∙ solid-past c e h)

-- a child may be kept in its own place
pub kept_first : (t : Tape) (c : Cursor) {s : Step} → s ≡ Some c → Kept t c s
kept_first t c es = inl es

-- ---- the kept one

module _ (t : Tape) (c : Cursor) {kept : Step} where
  pub behind_far : (d : Cursor) → kept ≡ Some d → (d.at ≡ c.at → ⊥) → Kept t c kept → Some d ≡ next_solid_of t c.at
  behind_far d ed n h = ⊎_elim (λ e. absurd (n (ap place (sym ed ∙ e)))) (λ e. sym ed ∙ e) h
    where
      place : Step → ℕ
      place None = 0
      place (Some x) = x.at

  pub behind_done : kept ≡ None → Kept t c kept → None ≡ next_solid_of t c.at
  behind_done ed h = ⊎_elim (λ e. absurd (let no_way : ◌≡◌ {A = ℕ} 0 1 = cc in omega arith)) (λ e. sym ed ∙ e) h

-- ---- inline or not

module _ (t : Tape) (k : ℕ) where
  pub follows_of : {s : Step} {r : Bool} → s ≡ next_solid_of t k → r ≡ inline_at_of t s → r ≡ inline_follows_of t k
  unfolding inline_follows_of
  follows_of es er = er ∙ ap (inline_at_of t) es
