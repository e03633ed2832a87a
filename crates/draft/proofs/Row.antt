-- The steps for the nodes of a tape, one after the other.
use mathlib.Core.Path.{◌≡◌, refl, sym, ap, ◌∙◌, subst}
use mathlib.Core.Bool.{true}
use mathlib.Core.List.{List, [], ◌∷◌, ◌++◌, map, append-nil}
use mathlib.Core.Option.{some}
use Prim.Native.Nat.{ℕ, ◌+◌}
use native.Mathlib.Omega.{arith}
use lib.ListN.{length, length-append}
use lib.Seq.{append_snoc}
use Rattle.tape.specs.declared.Node.{Node}
use Rattle.tape.specs.Kind as kinds
use Rattle.nest.specs.Decide.{sound}
use Rattle.draft.specs.Draft.{Draft, after}
use Rattle.draft.specs.Fault.{fault}
use Rattle.draft.specs.Rebuild.{own_node, node_act, node_acts, Runs, none, more}
use Rattle.draft.proofs.Awaits.{awaits, awaits-none}
use Rattle.draft.proofs.Again.{Again, nest_of, free_nest, again_start, again_step, again_end}

-- P holds of the drafts on the way, and has all tests of a step passed but that of the nesting
module _ {room : ℕ} {r : Node} {ns : List Node} (count : ℕ) (P : List Node → Draft → Type 0)
    (fine : (done rest : List Node) (n : Node) → done ++ (n ∷ rest) ≡ ns → (d : Draft) → P done d → Again r count done d
    → nest_of d (node_act (length done + 1) n) ≡ 0
    → (fault d (node_act (length done + 1) n) room ≡ 0) × P (done ++ (n ∷ [])) (after d (node_act (length done + 1) n))) where
  -- from what is done to the whole
  rest_runs : (rest done : List Node) (d : Draft) → done ++ rest ≡ ns → awaits (r ∷ ns) ≡ some [] → P done d → Again r count done d
      → (last : Draft) × Runs room d (node_acts (length done + 1) rest) last × P ns last × Again r count ns last
  unfolding node_acts
  rest_runs [] done d e w p g =
      let same : done ≡ ns = sym (append-nil done) ∙ e in
      (d, none, rw same at p, subst (λ (l : List Node). Again r count l d) same g)
  rest_runs (n ∷ rest) done d e w p g =
      let goes = again_step n rest (ap (λ (l : List Node). awaits (r ∷ l)) e ∙ w) g in
      let step = fine done rest n e d p g (free_nest d (node_act (length done + 1) n) goes.1) in
      let further = rest_runs rest (done ++ (n ∷ [])) _ (append_snoc done n rest ∙ e) w step.1 goes.0 in
      let k : length (done ++ (n ∷ [])) + 1 ≡ length done + 1 + 1 = omega (arith, length-append done (n ∷ [])) in
      (further.0, more step.0 (rw k at further.1), further.2, further.3)

  -- the nodes behind Root of a sound tape are written anew
  pub row_runs : (d : Draft) → sound (r ∷ ns) ≡ true → r.link ≡ length (r ∷ ns) → r.kind.code ≡ kinds.root
      → d.nodes ≡ [] → d.inner ≡ 0 → d.depth ≡ 0 → P [] d
      → (last : Draft) × Runs room d (node_acts 1 ns) last × P ns last × (last.nodes ≡ map own_node ns) × (last.inner ≡ 0) × (last.depth ≡ 0)
  row_runs d h l k e i z p =
      let w = awaits-none (r ∷ ns) h l in
      let x = rest_runs ns [] d refl w p (again_start r count d k e i z) in
      let end = again_end w x.3 in
      (x.0, x.1, x.2, end.0, end.1, end.2)
