-- One turn along a list of children or of blocks: the number of turns that a list may take does not matter, so long as it is enough.
use mathlib.Core.Path.{◌≡◌, refl, ap}
use mathlib.Core.Bool.{Bool, true, false, cond, not}
use mathlib.Core.List.{List, [], ◌∷◌, ◌++◌}
use mathlib.Core.Option.{Option, none, some}
use Prim.Native.Nat.{ℕ, zero, suc, ◌≤◌}
use native.Mathlib.Omega.{arith}
use lib.ListN.{length}
use Rattle.parts.specs.Bytes.{Bytes}
use Rattle.tape.specs.File.{Tape, kind_at}
use Rattle.tape.specs.Tree.{from_first}
use Rattle.render.specs.Shape.{is_row, is_top_level_block_of}
use Rattle.fold.specs.Fold.{claim_of, number_in, is_some, fold_from, fold_at}
use Rattle.fold.specs.declared.Claim.{Claim}
use Rattle.fold.specs.declared.Claim.TheVariants.{Blank, Alt, Pub, Stops}
use Rattle.fold.proofs.Folding.{fold_blank, fold_alt, fold_pub, fold_stops, fold_nil}
use Rattle.events.specs.Event.{Event}
use Rattle.events.specs.Walk.{Child, anchor, words, passed, marker, child_of, Turn, inline_turn, inline_from, inline_all, inline_on, Place, a_row_of, a_chapter_of, a_sidebar_of, a_periph_of, a_block, a_verse_of, dropped, place_of, Blocks, block_turn, blocks_from, blocks_all_of, blocks_on}

-- ---- a fold goes on in its list

fold_short : (t : Tape) (kind : ℕ) (alt published : Option Bytes) (ks : List ℕ) → length (fold_from t kind alt published ks).rest ≤ length ks
fold_short t kind alt published [] = rw (fold_nil t kind alt published) (omega arith)
fold_short t kind alt published (k ∷ ks) = go (claim_of t kind (is_some alt) (is_some published) k) refl (λ a p. fold_short t kind a p ks)
  where
    go : (c : Claim) → c ≡ claim_of t kind (is_some alt) (is_some published) k → ((a p : Option Bytes) → length (fold_from t kind a p ks).rest ≤ length ks)
        → length (fold_from t kind alt published (k ∷ ks)).rest ≤ suc (length ks)
    go Blank e short = rw (fold_blank t kind alt published k ks e refl) (omega (arith, short alt published))
    go Alt e short = rw (fold_alt t kind alt published k ks e refl) (omega (arith, short (some (number_in t k)) published))
    go Pub e short = rw (fold_pub t kind alt published k ks e refl) (omega (arith, short alt (some (number_in t k))))
    go Stops e short = rw (fold_stops t kind alt published k ks e refl) (omega arith)

pub fold_within : (t : Tape) (kind : ℕ) (ks : List ℕ) → length (fold_at t kind ks).rest ≤ length ks
unfolding fold_at
fold_within t kind ks = fold_short t kind none none ks

-- ---- inline children

module _ (node : ℕ → Bool → List Event) (t : Tape) (behind : Bool) where
  turn_short : (trim : Bool) (k : ℕ) (ks : List ℕ) (c : Child) → length (inline_turn node t behind trim k ks c).rest ≤ length ks
  unfolding inline_turn
  turn_short trim k ks anchor = fold_within t 7 ks
  turn_short trim k ks words = omega arith
  turn_short trim k ks passed = omega arith
  turn_short trim k ks marker = omega arith

  enough : (n m : ℕ) (trim : Bool) (ks : List ℕ) → length ks ≤ n → length ks ≤ m → inline_from node t behind n trim ks ≡ inline_from node t behind m trim ks
  unfolding inline_from
  enough zero zero trim [] hn hm = refl
  enough zero (suc m) trim [] hn hm = refl
  enough (suc n) zero trim [] hn hm = refl
  enough (suc n) (suc m) trim [] hn hm = refl
  enough zero m trim (k ∷ ks) hn hm = absurd (omega arith)
  enough (suc n) zero trim (k ∷ ks) hn hm = absurd (omega arith)
  enough (suc n) (suc m) trim (k ∷ ks) hn hm =
      let r : Turn = inline_turn node t behind trim k ks (child_of (kind_at t k)) in
      let short : length r.rest ≤ length ks = turn_short trim k ks (child_of (kind_at t k)) in
      ap (λ (es : List Event). r.written ++ es) (enough n m r.trim r.rest (omega arith) (omega arith))

  -- no child is left
  pub inline-none : (trim : Bool) → inline_all node t behind trim [] ≡ []
  unfolding inline_all inline_from
  inline-none trim = refl

  pub inline-turn : (trim : Bool) (k : ℕ) (ks : List ℕ) → inline_all node t behind trim (k ∷ ks) ≡ inline_on node t behind trim k ks (child_of (kind_at t k))
  unfolding inline_all inline_from inline_on
  inline-turn trim k ks =
      let r : Turn = inline_turn node t behind trim k ks (child_of (kind_at t k)) in
      ap (λ (es : List Event). r.written ++ es) (enough (length ks) (length r.rest) r.trim r.rest (turn_short trim k ks (child_of (kind_at t k))) (omega arith))

-- ---- blocks

from_short : (p : ℕ → Bool) (ks : List ℕ) → length (from_first p ks) ≤ length ks
unfolding from_first
from_short p [] = omega arith
from_short p (k ∷ ks) = go (p k) (from_short p ks)
  where
    go : (x : Bool) → length (from_first p ks) ≤ length ks → length (cond x (k ∷ ks) (from_first p ks)) ≤ suc (length ks)
    go true h = omega arith
    go false h = omega arith

module _ (blocks : List ℕ → List Event) (t : Tape) (d level : ℕ) where
  block_short : (k : ℕ) (ks : List ℕ) (p : Place) → length (block_turn blocks t d level k ks p).rest ≤ length ks
  unfolding block_turn
  block_short k ks a_row_of = from_short (λ i. not (is_row t i)) ks
  block_short k ks a_chapter_of = fold_within t 6 ks
  block_short k ks a_sidebar_of = omega arith
  block_short k ks a_periph_of = omega arith
  block_short k ks a_block = omega arith
  block_short k ks a_verse_of = from_short (is_top_level_block_of t) ks
  block_short k ks dropped = omega arith

  enough_blocks : (n m : ℕ) (ks : List ℕ) → length ks ≤ n → length ks ≤ m → blocks_from blocks t d level n ks ≡ blocks_from blocks t d level m ks
  unfolding blocks_from
  enough_blocks zero zero [] hn hm = refl
  enough_blocks zero (suc m) [] hn hm = refl
  enough_blocks (suc n) zero [] hn hm = refl
  enough_blocks (suc n) (suc m) [] hn hm = refl
  enough_blocks zero m (k ∷ ks) hn hm = absurd (omega arith)
  enough_blocks (suc n) zero (k ∷ ks) hn hm = absurd (omega arith)
  enough_blocks (suc n) (suc m) (k ∷ ks) hn hm =
      let r : Blocks = block_turn blocks t d level k ks (place_of t k) in
      let short : length r.rest ≤ length ks = block_short k ks (place_of t k) in
      ap (λ (es : List Event). r.written ++ es) (enough_blocks n m r.rest (omega arith) (omega arith))

  pub blocks_none : blocks_all_of blocks t d level [] ≡ []
  unfolding blocks_all_of blocks_from
  blocks_none = refl

  pub blocks_turn : (k : ℕ) (ks : List ℕ) → blocks_all_of blocks t d level (k ∷ ks) ≡ blocks_on blocks t d level k ks (place_of t k)
  unfolding blocks_all_of blocks_from blocks_on
  blocks_turn k ks =
      let r : Blocks = block_turn blocks t d level k ks (place_of t k) in
      ap (λ (es : List Event). r.written ++ es) (enough_blocks (length ks) (length r.rest) r.rest (block_short k ks (place_of t k)) (omega arith))
