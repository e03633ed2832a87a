-- Outside the tape stands an Error without children: it has no name. So the proviso is a test of the tape's own nodes.
use mathlib.Core.Path.{◌≡◌, refl, sym, ap, ◌∙◌, subst}
use mathlib.Core.Bool.{Bool, true, false, not}
use mathlib.Core.List.{List, [], ◌∷◌}
use mathlib.Core.Logic.{◌↔◌}
use Prim.Native.Nat.{ℕ, zero, suc, ◌≤◌, ◌<◌}
use native.Mathlib.Omega.{arith}
use lib.ListN.{length, get_or-eq_default}
use lib.Dec.{eqb, ltb}
use borrow.Author.Tests.{eqb-true, eqb-false, ltb-true, ltb-false, not-true}
use Rattle.parts.specs.Bytes.{Bytes}
use Rattle.parts.proofs.Laws.{and-true}
use Rattle.tape.specs.File.{Tape, node_at, kind_at, bears_marker, nowhere}
use Rattle.tape.specs.Tree.{holds, first_child, children}
use Rattle.tape.specs.declared.Node.{Node}
use Rattle.tape.proofs.Walk.{walk_done, children_walk}
use Rattle.attrs.specs.Attr.{pairs_along, attributes_of}
use Rattle.accepts.specs.Proviso.{has_special, Name, name_where, has_code, keys_of, names_of, AllFree, Proviso}
use Rattle.accepts.specs.Samples.{free_row, free_below, keeps}

-- ---- outside the tape

module _ (t : Tape) (k : ℕ) (out : nowhere ≡ node_at t k) where
  error_kind : kind_at t k ≡ 8
  error_kind = ap (λ (n : Node). n.kind.code) (sym out)

  no_children : children t k ≡ []
  unfolding first_child holds
  no_children = sym (children_walk t k (rw error_kind)) ∙ walk_done t

  no_keys : (m : Bytes) → keys_of (attributes_of t k m) ≡ []
  unfolding attributes_of pairs_along keys_of
  no_keys m = rw no_children

  pub names_outside : names_of t k ≡ []
  unfolding names_of name_where has_code bears_marker
  names_outside = rw (error_kind, no_keys)

names-past : (t : Tape) (k : ℕ) → length t.nodes ≤ k → names_of t k ≡ []
unfolding node_at
names-past t k h = names_outside t k (sym (get_or-eq_default t.nodes nowhere h))

-- ---- the test

row-free : (ns : List Name) → (free_row ns ≡ true) ↔ AllFree ns
unfolding free_row
row-free [] = (λ e. tt, λ h. refl)
row-free (n ∷ ns) =
    let r = row-free ns in
    (λ e. let h = and-true (not (has_special n.bytes)) (free_row ns) e in (not-true (has_special n.bytes) h.0, r.0 h.1), λ h. rw (h.0, r.1 h.1))

below_free : (t : Tape) (n k : ℕ) → free_below t n ≡ true → k < n → AllFree (names_of t k)
unfolding free_below
below_free t zero k e h = absurd (omega arith)
below_free t (suc n) k e h =
    let i = and-true (free_row (names_of t n)) (free_below t n) e in
    go (eqb k n) refl ((row-free (names_of t n)).0 i.0) (below_free t n k i.1)
  where
    go : (z : Bool) → eqb k n ≡ z → AllFree (names_of t n) → (k < n → AllFree (names_of t k)) → AllFree (names_of t k)
    go true x g f = subst (λ (j : ℕ). AllFree (names_of t j)) (sym (eqb-true k n x)) g
    go false x g f = f (omega (arith, eqb-false k n x))

free-below : (t : Tape) (n : ℕ) → ((k : ℕ) → AllFree (names_of t k)) → free_below t n ≡ true
unfolding free_below
free-below t zero f = refl
free-below t (suc n) f = rw ((row-free (names_of t n)).1 (f n), free-below t n f)

-- the test passes exactly where the proviso is kept
pub keeps_exactly : (t : Tape) → (keeps t ≡ true) ↔ Proviso t
unfolding keeps
keeps_exactly t = (to, λ p. free-below t (length t.nodes) p.free)
  where
    to : free_below t (length t.nodes) ≡ true → Proviso t
    to e = record { free = λ k. go k (ltb k (length t.nodes)) refl }
      where
        go : (k : ℕ) (z : Bool) → ltb k (length t.nodes) ≡ z → AllFree (names_of t k)
        go k true x = below_free t (length t.nodes) k e (ltb-true k (length t.nodes) x)
        go k false x = subst AllFree (sym (names-past t k (ltb-false k (length t.nodes) x))) tt
