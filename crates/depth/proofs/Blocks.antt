-- Blocks are the same where what stands inside them is.
use mathlib.Core.Path.{◌≡◌, refl, ap, ◌∙◌}
use mathlib.Core.Bool.{Bool, not}
use mathlib.Core.List.{List, [], ◌∷◌, ◌++◌}
use mathlib.Core.Logic.{inl, inr}
use Prim.Native.Nat.{ℕ, zero, suc, ◌+◌}
use lib.ListN.{length}
use Rattle.tape.specs.File.{Tape}
use Rattle.tape.specs.Tree.{children, up_to, without}
use Rattle.tape.specs.Kind as kinds
use Rattle.nest.specs.Walk.{In}
use Rattle.render.specs.Shape.{is_row, is_top_level_block_of, is_category_marker_of}
use Rattle.tags.specs.Items.{Attr}
use Rattle.events.specs.Event.{Event}
use Rattle.events.specs.Walk.{Manner, as_inline, node_in_of, inside, cell_in, cells_along, cells, row_e, rows_e, table_e, holder, sidebar_in, periph_in, Place, a_row_of, a_chapter_of, a_sidebar_of, a_periph_of, a_block, a_verse_of, dropped, place_of, Blocks, block_turn, blocks_from, blocks_all_of, unfollowed, trimming}
use Rattle.depth.proofs.Members.{Within, all-within, both_within, cut-within, from_within, fold_within}
use Rattle.depth.proofs.Inline.{node-same, inline-same}

-- ---- cells

module _ (t : Tape) (f g : Manner → ℕ → Bool → List Event) (level : ℕ) where
  pub cells_same : (ks : List ℕ) → ((c : ℕ) → In c ks → (m : Manner) (outer : Bool) → f m c outer ≡ g m c outer) → cells_along f t level ks ≡ cells_along g t level ks
  unfolding cells_along cell_in
  cells_same [] same = refl
  cells_same (k ∷ ks) same = rw (same k (inl refl) as_inline unfollowed, cells_same ks (λ c i. same c (inr i)))

-- ---- rows and tables

module _ (t : Tape) (d e level : ℕ) where
  pub rows_same : (ks : List ℕ) → ((c : ℕ) → In c ks → cells t d (level + 2) c ≡ cells t e (level + 2) c) → rows_e t d level ks ≡ rows_e t e level ks
  unfolding rows_e row_e
  rows_same [] same = refl
  rows_same (k ∷ ks) same = rw (same k (inl refl), rows_same ks (λ c i. same c (inr i)))

  pub table_same : (ks : List ℕ) → ((c : ℕ) → In c ks → cells t d (level + 2) c ≡ cells t e (level + 2) c) → table_e t d level ks ≡ table_e t e level ks
  unfolding table_e
  table_same ks same = rw (rows_same ks same)

-- ---- sidebars and periphs

module _ (t : Tape) (f g : List ℕ → List Event) (level : ℕ) where
  holder-same : (n : ℕ) (qs : List Attr) (ks : List ℕ) → f ks ≡ g ks → holder f t level n qs ks ≡ holder g t level n qs ks
  unfolding holder
  holder-same n qs ks same = rw same

  pub sidebar-same : (k : ℕ) → f (without (is_category_marker_of t) (children t k)) ≡ g (without (is_category_marker_of t) (children t k)) → sidebar_in f t level k ≡ sidebar_in g t level k
  unfolding sidebar_in
  sidebar-same k same = holder-same _ _ (without (is_category_marker_of t) (children t k)) same

  pub periph-same : (k : ℕ) → f (children t k) ≡ g (children t k) → periph_in f t level k ≡ periph_in g t level k
  unfolding periph_in
  periph-same k same = holder-same _ _ (children t k) same

-- ---- lists of blocks

-- what is the same at a node, with fuel d and with fuel e: what stands inside it, its cells, the blocks that it holds
pub record Alike (t : Tape) (f g : List ℕ → List Event) (d e level k : ℕ) : Type 0 where
  pub within : (m : Manner) (outer : Bool) → inside t d m k outer ≡ inside t e m k outer
  pub cell : cells t d (level + 2) k ≡ cells t e (level + 2) k
  pub plain : f (children t k) ≡ g (children t k)
  pub sifted : f (without (is_category_marker_of t) (children t k)) ≡ g (without (is_category_marker_of t) (children t k))

module _ (t : Tape) (f g : List ℕ → List Event) (d e level : ℕ) where
  -- all nodes of a list are
  abbrev pub AllAlike : List ℕ → Type 0
  AllAlike ks = (c : ℕ) → In c ks → Alike t f g d e level c

  turn-same : (k : ℕ) (ks : List ℕ) → AllAlike (k ∷ ks) → (p : Place) → block_turn f t d level k ks p ≡ block_turn g t e level k ks p
  unfolding block_turn
  turn-same k ks same a_row_of =
      let row = both_within k (cut-within (λ i. not (is_row t i)) ks) in
      rw (table_same t d e level (k ∷ up_to (λ i. not (is_row t i)) ks) (λ c i. (same c (row.each c i)).cell))
  turn-same k ks same a_chapter_of = refl
  turn-same k ks same a_sidebar_of = rw (sidebar-same t f g level k (same k (inl refl)).sifted)
  turn-same k ks same a_periph_of = rw (periph-same t f g level k (same k (inl refl)).plain)
  turn-same k ks same a_block = rw (node-same t (inside t d) (inside t e) k unfollowed (λ m. (same k (inl refl)).within m unfollowed))
  turn-same k ks same a_verse_of =
      let run = both_within k (cut-within (is_top_level_block_of t) ks) in
      rw (inline-same t (node_in_of (inside t d) t) (node_in_of (inside t e) t) unfollowed trimming (k ∷ up_to (is_top_level_block_of t) ks)
      (λ c i. node-same t (inside t d) (inside t e) c unfollowed (λ m. (same c (run.each c i)).within m unfollowed)))
  turn-same k ks same dropped = refl

  turn-within : (k : ℕ) (ks : List ℕ) (p : Place) → Within (block_turn g t e level k ks p).rest ks
  unfolding block_turn
  turn-within k ks a_row_of = from_within (λ i. not (is_row t i)) ks
  turn-within k ks a_chapter_of = fold_within t kinds.chapter ks
  turn-within k ks a_sidebar_of = all-within ks
  turn-within k ks a_periph_of = all-within ks
  turn-within k ks a_block = all-within ks
  turn-within k ks a_verse_of = from_within (is_top_level_block_of t) ks
  turn-within k ks dropped = all-within ks

  from_same : (n : ℕ) (ks : List ℕ) → AllAlike ks → blocks_from f t d level n ks ≡ blocks_from g t e level n ks
  unfolding blocks_from
  from_same zero ks same = refl
  from_same (suc n) [] same = refl
  from_same (suc n) (k ∷ ks) same =
      let r : Blocks = block_turn g t e level k ks (place_of t k) in
      ap (λ (q : Blocks). q.written ++ blocks_from f t d level n q.rest) (turn-same k ks same (place_of t k))
      ∙ ap (λ (es : List Event). r.written ++ es) (from_same n r.rest (λ c i. same c (inr ((turn-within k ks (place_of t k)).each c i))))

  pub blocks_same : (ks : List ℕ) → AllAlike ks → blocks_all_of f t d level ks ≡ blocks_all_of g t e level ks
  unfolding blocks_all_of
  blocks_same ks same = from_same (length ks) ks same
