-- What each test of a node answers, from what it read.
use mathlib.Core.Path.{◌≡◌, refl, sym, ap, ◌∙◌}
use mathlib.Core.Bool.{Bool, true, false, not}
use Prim.Native.Nat.{ℕ}
use lib.Dec.{eqb}
use denote.Enum.Bare.{sameb}
use Rattle.render.specs.contracts.shape.Shape.{the_type}
use borrow.Author.Tests.{eq-eqb, ne_eqb}
use Rattle.tape.specs.File.{Tape, node_at, kind_at, info_at}
use Rattle.tape.specs.declared.kinds.Kind.{Kind}
use Rattle.tape.specs.declared.Node.{Node}
use Rattle.tape.specs.declared.Cursor.{Cursor}
use Rattle.tape.specs.declared.Entry.{Entry}
use Rattle.tape.specs.Found.{Info}
use Rattle.std.specs.Prelude.{None, Some}
use Rattle.tape.proofs.Laws.{kind_of}
use Rattle.render.specs.declared.shape.Shape.{Shape}
use Rattle.render.specs.declared.shape.Shape.TheVariants.{Block, Inline, Leaf, Other}
use Rattle.render.specs.Shape.{closed_by, shape_by, unknown_shape_of, is_inline_shape, is_block_shape, inline_category, inline_marker, is_inline_of, trims_after_of}

-- ---- codes

module _ (code : ℕ) where
  pub category-character : code ≡ 4 → true ≡ inline_category code
  unfolding inline_category
  category-character h = rw (eq-eqb code 4 h)

-- ---- shapes

pub same_inline : (s : Shape) → sameb the_type s Inline ≡ is_inline_shape s
unfolding is_inline_shape
same_inline Block = refl
same_inline Inline = refl
same_inline Leaf = refl
same_inline Other = refl

pub same_block : (s : Shape) → sameb the_type s Block ≡ is_block_shape s
unfolding is_block_shape
same_block Block = refl
same_block Inline = refl
same_block Leaf = refl
same_block Other = refl

module _ (t : Tape) (k : ℕ) {n : Node} (e : n ≡ node_at t k) where
  pub shape_other : (n.kind.code ≡ 3 → ⊥) → Other ≡ unknown_shape_of t k
  unfolding unknown_shape_of
  shape_other h = rw (ne_eqb (kind_at t k) 3 (λ z. h (kind_of t k e ∙ z)))

  pub shape_known : {i : Info} (x : Entry) → n.kind.code ≡ 3 → i ≡ info_at t k → i ≡ Some x → Other ≡ unknown_shape_of t k
  unfolding unknown_shape_of shape_by
  shape_known x h ei ex = rw (eq-eqb (kind_at t k) 3 (sym (kind_of t k e) ∙ h), ← ei, ex)

  pub shape_unknown : {i : Info} {c : Cursor} {z : Kind} {r : Shape} → n.kind.code ≡ 3 → i ≡ info_at t k → i ≡ None → c.at ≡ n.link
      → z.code ≡ kind_at t c.at → r ≡ closed_by z.code → r ≡ unknown_shape_of t k
  unfolding unknown_shape_of shape_by
  shape_unknown h ei ex ec ez er =
      rw (eq-eqb (kind_at t k) 3 (sym (kind_of t k e) ∙ h), ← ei, ex)
      (er ∙ ap closed_by (ez ∙ ap (kind_at t) ec ∙ ap (λ (m : Node). kind_at t m.link) e))

-- ---- a node whose kind is read

module _ (t : Tape) (k : ℕ) {z : Kind} (ek : z.code ≡ kind_at t k) where
  pub kind_is : (n : ℕ) → z.code ≡ n → eqb (kind_at t k) n ≡ true
  kind_is n h = eq-eqb (kind_at t k) n (sym ek ∙ h)

  pub kind_not : (n : ℕ) → (z.code ≡ n → ⊥) → eqb (kind_at t k) n ≡ false
  kind_not n h = ne_eqb (kind_at t k) n (λ y. h (ek ∙ y))

  module _ (g₁ : z.code ≡ 1 → ⊥) (g₇ : z.code ≡ 7 → ⊥) where
    pub inline_known : {i : Info} (x : Entry) {r : Bool} → z.code ≡ 3 → i ≡ info_at t k → i ≡ Some x → r ≡ inline_category x.category.code → r ≡ is_inline_of t k
    unfolding is_inline_of inline_marker
    inline_known x h ei ex er = rw (kind_not 1 g₁, kind_not 7 g₇, kind_is 3 h, ← ei, ex) er

  pub trims_other : {r : Bool} → (z.code ≡ 6 → ⊥) → (z.code ≡ 7 → ⊥) → r ≡ is_inline_of t k → not r ≡ trims_after_of t k
  unfolding trims_after_of
  trims_other g h er = rw (kind_not 6 g, kind_not 7 h, ← er)
