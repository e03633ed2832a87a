-- The first node of a walk that passes a test.
use mathlib.Core.Path.{◌≡◌, refl, sym, ap, ◌∙◌}
use mathlib.Core.Bool.{Bool, true, false, not}
use mathlib.Core.List.{List, [], ◌∷◌}
use Prim.Native.Nat.{ℕ}
use Rattle.tape.specs.File.{Tape}
use Rattle.tape.specs.Tree.{first_child, next_sibling, walk_from, found}
use Rattle.tape.specs.declared.Cursor.{Cursor}
use Rattle.tape.specs.Found.{Step}
use Rattle.std.specs.Prelude.{None, Some}
use Rattle.tape.proofs.Walk.{none_is, walk_turn, walk_end, children_walk}
use Rattle.render.specs.Shape.{is_text, is_open, is_content_of}
use Rattle.render.specs.First.{first_with, any}
use Rattle.render.specs.Children.{has_content_of, is_plain_text_of, first_text_of}

module _ (p : ℕ → Bool) (k : ℕ) (ks : List ℕ) where
  pub first_hit : p k ≡ true → first_with p (k ∷ ks) ≡ Some (record { at = k })
  unfolding first_with
  first_hit h = rw (h, first_with)

  pub first_miss : p k ≡ false → first_with p (k ∷ ks) ≡ first_with p ks
  unfolding first_with
  first_miss h = rw (h, first_with)

-- along a walk
module _ (t : Tape) (p : ℕ → Bool) {s : Step} where
  pub first_end : s ≡ None → first_with p (walk_from t s) ≡ None
  unfolding first_with
  first_end es = rw (walk_end t es)

  pub first_here : (c : Cursor) → s ≡ Some c → p c.at ≡ true → first_with p (walk_from t s) ≡ Some c
  first_here c es h = rw (walk_turn t c es refl) (first_hit p c.at (walk_from t (next_sibling t c.at)) h)

  pub first_past : (c : Cursor) {n : Step} → s ≡ Some c → n ≡ next_sibling t c.at → p c.at ≡ false
      → first_with p (walk_from t s) ≡ first_with p (walk_from t n)
  first_past c {n} es en h = rw (walk_turn t c es en) (first_miss p c.at (walk_from t n) h)

-- ---- the loop

module _ (t : Tape) (p : ℕ → Bool) {s r : Step} where
  pub find_hit : (c : Cursor) {x : Bool} → first_with p (walk_from t s) ≡ r → s ≡ Some c → x ≡ p c.at → x ≡ true → Some c ≡ r
  find_hit c inv es ex x = sym (first_here t p c es (sym ex ∙ x)) ∙ inv

  pub find-turn : (c : Cursor) {x : Bool} {n : Step} → first_with p (walk_from t s) ≡ r → s ≡ Some c → x ≡ p c.at → x ≡ false
      → n ≡ next_sibling t c.at → first_with p (walk_from t n) ≡ r
  find-turn c inv es ex x en = sym (first_past t p c es en (sym ex ∙ x)) ∙ inv

  pub find_end : first_with p (walk_from t s) ≡ r → s ≡ None → None ≡ r
  find_end inv es = sym (first_end t p es) ∙ inv

-- ---- answers

module _ (t : Tape) (k : ℕ) {s r : Step} (es : s ≡ first_child t k) where
  pub content_found : {x : Bool} → r ≡ first_with (is_content_of t) (walk_from t s) → x ≡ found r → x ≡ has_content_of t k
  unfolding has_content_of any
  content_found er ex = ex ∙ rw er (ap (λ (ks : List ℕ). found (first_with (is_content_of t) ks)) (children_walk t k es))

  pub plain-found : {x : Bool} → r ≡ first_with (is_open t) (walk_from t s) → found r ≡ not x → x ≡ is_plain_text_of t k
  unfolding is_plain_text_of any
  plain-found {x} er ex = none_is x ex ∙ rw er (ap (λ (ks : List ℕ). not (found (first_with (is_open t) ks))) (children_walk t k es))

  pub text-found : r ≡ first_with (is_text t) (walk_from t s) → r ≡ first_text_of t k
  unfolding first_text_of
  text-found er = er ∙ ap (first_with (is_text t)) (children_walk t k es)
