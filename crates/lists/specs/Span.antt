-- Lists of siblings that may be cut or filtered, and the fold over them.
use Rattle.std.specs.Prelude.{ℕ, List, [], ◌∷◌, Bool, true, false, cond, ◌&&◌, not, None, Some}
use Rattle.tape.specs.File.{Tape}
use Rattle.tape.specs.Tree.{found, walk_from, up_to, without}
use Rattle.tape.specs.Found.{Step}
use Rattle.render.specs.First.{first_with}
use Rattle.render.specs.Shape.{is_top_level_block_of, is_category_marker_of, is_row}
use Rattle.fold.specs.Fold.{claim_of, Folded, folded_number}
use Rattle.fold.specs.declared.Claim.{Claim}
use Rattle.fold.specs.declared.Claim.TheVariants.{Blank, Alt, Pub, Stops}
use Rattle.lists.specs.declared.Span.{Span}
use Rattle.lists.specs.declared.Member.{Member}
use Rattle.lists.specs.declared.Member.TheVariants.{End, Skipped, Listed}
use Rattle.lists.specs.declared.Stop.{Stop}
use Rattle.lists.specs.declared.Stop.TheVariants.{Block, NoRow}
use Rattle.lists.specs.declared.Folds.{Folds}

-- without category markers, or with them
unfoldable pub filtered : Tape → Bool → List ℕ → List ℕ
filtered t true ks = without (is_category_marker_of t) ks
filtered t false ks = ks

-- up to the next block, or all
unfoldable pub cut_by : Tape → Bool → List ℕ → List ℕ
cut_by t true ks = up_to (is_top_level_block_of t) ks
cut_by t false ks = ks

-- the nodes of a list from a step on
unfoldable pub nodes_in : Tape → Span → Step → List ℕ
nodes_in t span s = cut_by t span.cut (filtered t span.sifted (walk_from t s))

-- what a sibling is to a list: a category marker is left out first, then a block ends it
unfoldable pub member_of_of : Tape → Span → ℕ → Member
member_of_of t span k =
    cond (span.sifted && is_category_marker_of t k) Skipped (cond (span.cut && is_top_level_block_of t k) End Listed)

-- a node in front of a list, by what it is to it
unfoldable pub listed_by : Member → ℕ → List ℕ → List ℕ
listed_by End k ks = []
listed_by Skipped k ks = ks
listed_by Listed k ks = k ∷ ks

-- whether a run ends at a node: at a block, or at what is no row
abbrev pub stops_at_of : Tape → Stop → ℕ → Bool
stops_at_of t Block = is_top_level_block_of t
stops_at_of t NoRow = λ k. not (is_row t k)

-- whether a walk past a run ends at a sibling: where the list ends, and at a listed one that ends the run
unfoldable pub ends_by : Member → Bool → Bool
ends_by End stops = true
ends_by Skipped stops = false
ends_by Listed stops = stops

-- the first sibling from a step on at which a run or its list ends; None where there is none
unfoldable pub run_end_of : Tape → Span → Stop → Step → Step
run_end_of t span stop s = first_with (λ k. ends_by (member_of_of t span k) (stops_at_of t stop k)) (walk_from t s)

-- what a sibling is to a fold along a list: where the list ends it stops, and what is left out claims nothing
unfoldable pub claim_by : Member → Claim → Claim
claim_by End c = Stops
claim_by Skipped c = Blank
claim_by Listed c = c

-- a fold along siblings, behind an anchor of a kind: the markers that fold, by those that did so far, and the sibling where it stops
unfoldable pub folds_from : Tape → Span → ℕ → Step → Step → List ℕ → Folds
folds_from t span anchor alt published [] = record { alt = alt; published = published; rest = None }
folds_from t span anchor alt published (k ∷ ks) =
    elim (claim_by (member_of_of t span k) (claim_of t anchor (found alt) (found published) k)) as (λ _. Folds) [
      | Blank ↦ folds_from t span anchor alt published ks
      | Alt ↦ folds_from t span anchor (Some (record { at = k })) published ks
      | Pub ↦ folds_from t span anchor alt (Some (record { at = k })) ks
      | Stops ↦ record { alt = alt; published = published; rest = Some (record { at = k }) }
    ]

-- the same along the siblings from a step on, with no marker folded yet
unfoldable pub folds_at : Tape → Span → ℕ → Step → Folds
folds_at t span anchor s = folds_from t span anchor None None (walk_from t s)

-- what a fold's answer stands for in a list
unfoldable pub folded_in : Tape → Span → Folds → Folded
folded_in t span f = record { alt = folded_number t f.alt; published = folded_number t f.published; rest = nodes_in t span f.rest }
