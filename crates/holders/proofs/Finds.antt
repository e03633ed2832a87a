-- Walks that look for a block.
use mathlib.Core.Path.{◌≡◌, refl, sym, ap, ◌∙◌}
use mathlib.Core.Bool.{Bool, true, false}
use mathlib.Core.List.{List, [], ◌∷◌}
use Prim.Native.Nat.{ℕ}
use Rattle.tape.specs.File.{Tape}
use Rattle.tape.specs.Tree.{next_sibling, found}
use Rattle.tape.specs.declared.Cursor.{Cursor}
use Rattle.tape.specs.Found.{Step}
use Rattle.std.specs.Prelude.{None, Some}
use Rattle.render.specs.First.{first_with, any}
use Rattle.render.proofs.Finds.{first_hit, first_miss}
use Rattle.lists.specs.Span.{nodes_in, member_of_of}
use Rattle.lists.specs.declared.Span.{Span}
use Rattle.lists.specs.declared.Member.{Member}
use Rattle.lists.specs.declared.Member.TheVariants.{End, Skipped, Listed}
use Rattle.lists.proofs.Nodes.{nodes_done, nodes-cut, nodes_skip, nodes_go}

-- ---- whether one passes a test

module _ (p : ℕ → Bool) where
  any_yes : (k : ℕ) (ks : List ℕ) → p k ≡ true → any p (k ∷ ks) ≡ true
  unfolding any
  any_yes k ks h = ap found (first_hit p k ks h)

  any_no : (k : ℕ) (ks : List ℕ) → p k ≡ false → any p (k ∷ ks) ≡ any p ks
  unfolding any
  any_no k ks h = ap found (first_miss p k ks h)

  any_none : {ks : List ℕ} → ks ≡ [] → any p ks ≡ false
  unfolding any first_with
  any_none h = rw h

-- ---- a walk to it

module _ (p : ℕ → Bool) (t : Tape) (span : Span) (s₀ s : Step) (inv : any p (nodes_in t span s) ≡ any p (nodes_in t span s₀)) where
  pub has_ended : s ≡ None → false ≡ any p (nodes_in t span s₀)
  has_ended e = sym (any_none p (nodes_done t span e)) ∙ inv

  module _ {c : Cursor} (es : s ≡ Some c) {m : Member} (em : m ≡ member_of_of t span c.at) where
    pub has_cut : m ≡ End → false ≡ any p (nodes_in t span s₀)
    has_cut h = sym (any_none p (nodes-cut t span es em h)) ∙ inv

    pub has_skipped : {n : Step} → m ≡ Skipped → n ≡ next_sibling t c.at → any p (nodes_in t span n) ≡ any p (nodes_in t span s₀)
    has_skipped h en = ap (any p) (sym (nodes_skip t span es em h en)) ∙ inv

    module _ (h : m ≡ Listed) {x : Bool} (ex : x ≡ p c.at) where
      pub has_found : x ≡ true → true ≡ any p (nodes_in t span s₀)
      has_found hx =
          sym (ap (any p) (nodes_go t span es em h refl) ∙ any_yes p c.at (nodes_in t span (next_sibling t c.at)) (sym ex ∙ hx)) ∙ inv

      pub has_past : {n : Step} → x ≡ false → n ≡ next_sibling t c.at → any p (nodes_in t span n) ≡ any p (nodes_in t span s₀)
      has_past {n} hx en = sym (ap (any p) (nodes_go t span es em h en) ∙ any_no p c.at (nodes_in t span n) (sym ex ∙ hx)) ∙ inv
