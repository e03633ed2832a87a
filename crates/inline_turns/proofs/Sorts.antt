-- What a child is to its list, and the list from it on.
use mathlib.Core.Path.{◌≡◌, refl, sym, ap, ◌∙◌}
use mathlib.Core.Bool.{Bool, true, false, cond, not, ◌&&◌, ◌||◌}
use mathlib.Core.List.{List, ◌∷◌, ◌++◌}
use Prim.Native.Nat.{ℕ}
use native.Mathlib.Omega.{arith}
use lib.Dec.{eqb}
use borrow.Author.Tests.{not-true}
use Rattle.tape.specs.File.{Tape, kind_at}
use Rattle.tape.specs.Tree.{next_sibling, walk_from}
use Rattle.tape.specs.declared.kinds.Kind.{Kind}
use Rattle.tape.specs.declared.Cursor.{Cursor}
use Rattle.tape.specs.Found.{Step}
use Rattle.std.specs.Prelude.{Some}
use Rattle.tape.proofs.Walk.{walk_turn}
use Rattle.render.specs.Shape.{is_category_marker_of, is_top_level_block_of}
use Rattle.lists.specs.Span.{nodes_in, member_of_of, listed_by}
use Rattle.lists.specs.declared.Span.{Span}
use Rattle.lists.specs.declared.Member.{Member}
use Rattle.lists.specs.declared.Member.TheVariants.{End as EndMember, Skipped as SkippedMember, Listed}
use Rattle.lists.proofs.Nodes.{nodes-turn}
use Rattle.events.specs.Event.{Event}
use Rattle.events.specs.Walk.{anchor, words, passed, marker, child_of, note_child_of, inline_turn, inline_all, inline_on, note_turn_of, note_all, direct, left_out, entered}
use Rattle.events.proofs.Turns.{inline-turn, inline-none}
use Rattle.inline_turns.specs.Turn.{sort_of, sort_by, sort_in_of, note_sort_of, plain_from, onward, note_plain, note_onward}
use Rattle.inline_turns.specs.declared.Child.TheVariants.{Skipped, Anchor, Words, Passed}
use Rattle.inline_turns.specs.declared.Sort.{Sort}
use Rattle.inline_turns.specs.declared.Sort.TheVariants.{End, Enter, Plain}

-- ---- to a list that may be cut or filtered

clash : true ≡ false → ⊥
clash e = let no_way : ◌≡◌ {A = ℕ} 0 1 = cc in omega arith

-- one that is neither has every node
all_listed : (t : Tape) (span : Span) (k : ℕ) → (span.cut || span.sifted) ≡ false → member_of_of t span k ≡ Listed
unfolding member_of_of
all_listed t span k h = go span.cut span.sifted h
  where
    go : (x y : Bool) → (x || y) ≡ false → cond (y && is_category_marker_of t k) SkippedMember (cond (x && is_top_level_block_of t k) EndMember Listed) ≡ Listed
    go true y e = absurd (clash e)
    go false true e = absurd (clash e)
    go false false e = refl

pub in_all : (t : Tape) (span : Span) (k : ℕ) → not (span.cut || span.sifted) ≡ true → {kind : Kind} → kind.code ≡ kind_at t k → {r : Sort} → r ≡ sort_of kind.code → r ≡ sort_in_of t span k
unfolding sort_in_of sort_by
in_all t span k h ek er = rw (all_listed t span k (not-true (span.cut || span.sifted) h)) (er ∙ ap sort_of ek)

module _ (t : Tape) (span : Span) (k : ℕ) {m : Member} (em : m ≡ member_of_of t span k) where
  pub in_end : m ≡ EndMember → End ≡ sort_in_of t span k
  unfolding sort_in_of sort_by
  in_end h = rw (sym em ∙ h)

  pub in_skipped : m ≡ SkippedMember → Plain Skipped ≡ sort_in_of t span k
  unfolding sort_in_of sort_by
  in_skipped h = rw (sym em ∙ h)

  pub in_listed : m ≡ Listed → {kind : Kind} → kind.code ≡ kind_at t k → {r : Sort} → r ≡ sort_of kind.code → r ≡ sort_in_of t span k
  unfolding sort_in_of sort_by
  in_listed h ek er = rw (sym em ∙ h) (er ∙ ap sort_of ek)

-- ---- the list from a child on

module _ (node : ℕ → Bool → List Event) (t : Tape) (behind trim : Bool) where
  listed_on : (k : ℕ) (ks : List ℕ) → inline_on node t behind trim k ks (child_of (kind_at t k)) ≡ onward node t behind trim k ks (sort_of (kind_at t k))
  unfolding inline_on inline_turn child_of sort_of onward plain_from
  listed_on k ks = go (eqb (kind_at t k) 7) (eqb (kind_at t k) 1) (eqb (kind_at t k) 2 || eqb (kind_at t k) 8)
    where
      go : (x y z : Bool) → inline_on node t behind trim k ks (cond x anchor (cond y words (cond z passed marker)))
          ≡ onward node t behind trim k ks (cond x (Plain Anchor) (cond y (Plain Words) (cond z (Plain Passed) Enter)))
      go true y z = refl
      go false true z = refl
      go false false true = refl
      go false false false = refl

  member_on : (k : ℕ) (ks : List ℕ) (m : Member) → inline_all node t behind trim (listed_by m k ks) ≡ onward node t behind trim k ks (sort_by m (kind_at t k))
  unfolding listed_by sort_by onward plain_from
  member_on k ks EndMember = inline-none node t behind trim
  member_on k ks SkippedMember = refl
  member_on k ks Listed = inline-turn node t behind trim k ks ∙ listed_on k ks

  -- one turn along a list that may be cut or filtered
  pub sort_turn : (span : Span) {c : Cursor} {s n : Step} {r : Sort} → s ≡ Some c → n ≡ next_sibling t c.at → r ≡ sort_in_of t span c.at
      → inline_all node t behind trim (nodes_in t span s) ≡ onward node t behind trim c.at (nodes_in t span n) r
  unfolding sort_in_of
  sort_turn span {c} {s} {n} {r} es en er =
      ap (inline_all node t behind trim) (nodes-turn t span es en refl)
      ∙ member_on c.at (nodes_in t span n) (member_of_of t span c.at)
      ∙ ap (onward node t behind trim c.at (nodes_in t span n)) (sym er)

  note_on : (first k : ℕ) (ks : List ℕ) → note_all node t first behind trim (k ∷ ks) ≡ note_onward node t behind trim first k ks (note_sort_of t k)
  unfolding note_all note_turn_of note_child_of note_sort_of note_onward note_plain
  note_on first k ks = go (is_category_marker_of t k) (eqb (kind_at t k) 1) (eqb (kind_at t k) 2 || eqb (kind_at t k) 8)
    where
      go : (x y z : Bool)
          → (let r = note_turn_of node t first behind trim k (cond x left_out (cond y direct (cond z left_out entered))) in r.written ++ note_all node t first behind r.trim ks)
          ≡ note_onward node t behind trim first k ks (cond x (Plain Skipped) (cond y (Plain Words) (cond z (Plain Passed) Enter)))
      go true y z = refl
      go false true z = refl
      go false false true = refl
      go false false false = refl

  -- one turn along a note's children
  pub note_sort_turn : (first : ℕ) {c : Cursor} {s n : Step} {r : Sort} → s ≡ Some c → n ≡ next_sibling t c.at → r ≡ note_sort_of t c.at
      → note_all node t first behind trim (walk_from t s) ≡ note_onward node t behind trim first c.at (walk_from t n) r
  note_sort_turn first {c} {s} {n} {r} es en er =
      ap (note_all node t first behind trim) (walk_turn t c es en)
      ∙ note_on first c.at (walk_from t n)
      ∙ ap (note_onward node t behind trim first c.at (walk_from t n)) (sym er)
