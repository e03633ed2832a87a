-- Grown events leave the tree as it was and add at most their height: the items of every tape are one usx tree, and no height is over 132.
use mathlib.Core.Path.{◌≡◌, refl, sym, ap, ◌∙◌, subst}
use mathlib.Core.Bool.{true, false}
use mathlib.Core.List.{List, [], ◌∷◌, ◌++◌, append_assoc}
use mathlib.Core.Option.{Option, none as nothing, some}
use Prim.Native.Nat.{ℕ, ◌+◌, ◌≤◌, ◌<◌}
use native.Mathlib.Omega.{arith}
use lib.ListN.{length}
use lib.IntN.{pos}
use lib.Signed.{lt_z}
use borrow.Author.Tests.{ne_eqb, eq-eqb, ltb-true}
use Rattle.parts.specs.Bytes.{Bytes, b}
use Rattle.tape.specs.File.{Tape}
use Rattle.tags.specs.Items.{Attr, Item, start, empty, close, text, line, apart}
use Rattle.checker.specs.View.{Mark, View, opened, closed, single, view, views}
use Rattle.checker.specs.Steps.{Trunk, push, pop, grow_in, grow}
use Rattle.checker.specs.Check.{at_start, one_tree, none_open_of}
use Rattle.checker.specs.Words.{height_of, SomeHigh, UsxTree}
use Rattle.checker.proofs.Decides.{folds}
use Rattle.checker.proofs.Trees.{tree_decides}
use Rattle.checker.proofs.Usx.{usx_exact}
use Rattle.checker.proofs.Joined.{trunk_fold, trunk_of}
use Rattle.render.specs.Note.{book_code_of, book_rest_of}
use Rattle.events.specs.Event.{Event, item, chapter, verse, book, rawly}
use Rattle.events.specs.Pairing.{State, after, end_of, book_items, items_of, last_ends, paired}
use Rattle.events.specs.Emit.{emitted, after_all}
use Rattle.events.specs.Text.{first_state_of, items_of_tape}
use Rattle.events.specs.Walk.{events_of}
use Rattle.events.proofs.Emits.{emitted-append, paired-emitted}
use Rattle.grammar.specs.Grammar.{Leaf, a_text, a_line, an_empty, a_chapter, a_verse, an_aside, a_back, Grown, none, leaf, a_book, around}
use Rattle.grammar.proofs.Walk.{walk_grown}
use Rattle.grammar.proofs.Written.{given_range}
use Rattle.accepts.proofs.Heights.{Low, low_end, low_words, low_open, low_close, low_single, low_height}

-- ---- a tree that stands

-- inside usx, with these elements open
abbrev up : List ℕ → Trunk
up st = record { stack = st; seen = true; done = false; broken = false }

grow-leaf : (st : List ℕ) (n : ℕ) (m : Mark) → (n ≡ 1 → ⊥) → grow (up st) (single n m) ≡ up st
unfolding grow grow_in
grow-leaf st n m h = rw (ne_eqb n 1 h)

grow_open : (st : List ℕ) (n : ℕ) → (n ≡ 1 → ⊥) → grow (up st) (opened n) ≡ up (n ∷ st)
unfolding grow grow_in push
grow_open st n h = rw (ne_eqb n 1 h)

grow-close : (st : List ℕ) (n : ℕ) → (n ≡ 1 → ⊥) → grow (up (n ∷ st)) (closed n) ≡ up st
unfolding grow grow_in pop
grow-close st n h = rw (eq-eqb n n refl, ne_eqb n 1 h)

-- ---- items that change nothing

-- the tags of items, as the rules see them
abbrev tags : List Item → List View
tags is = views (apart is)

-- one list of items leaves the tree as another does, and is as low where the other is; the height is that of the elements open
record Same (st : List ℕ) (is js : List Item) : Type 0 where
  pub tree : trunk_fold (up st) (tags is) ≡ trunk_fold (up st) (tags js)
  pub low : Low 132 (length st) (tags js) → Low 132 (length st) (tags is)

then_same : {st : List ℕ} {is js ks : List Item} → Same st is js → Same st js ks → Same st is ks
then_same f g = record { tree = f.tree ∙ g.tree; low = λ l. f.low (g.low l) }

module _ (st : List ℕ) (js : List Item) where
  same_text : (s : Bytes) → Same st (text s ∷ js) js
  unfolding apart trunk_fold view grow grow_in
  same_text s = record { tree = refl; low = low_words }

  same_line : (d : ℕ) → Same st (line d ∷ js) js
  unfolding apart trunk_fold view grow grow_in
  same_line d = record { tree = refl; low = low_words }

  same-empty : (n : ℕ) (qs : List Attr) → (n ≡ 1 → ⊥) → Same st (empty n qs ∷ js) js
  unfolding apart trunk_fold view
  same-empty n qs h = record { tree = ap (λ (u : Trunk). trunk_fold u (tags js)) (grow-leaf st n _ h); low = low_single }

  same_end : (k : ℕ) (o : Option Bytes) → (k ≡ 1 → ⊥) → Same st (end_of k o ++ js) js
  unfolding end_of
  same_end k nothing h = record { tree = refl; low = λ l. l }
  same_end k (some i) h = same-empty k (rawly (b "eid") i ∷ []) h

-- an element around items that change nothing
same-around : (st : List ℕ) (n : ℕ) (qs : List Attr) (is js : List Item) → length st < 132 → (n ≡ 1 → ⊥) → Same (n ∷ st) is (close n ∷ js) → Same st (start n qs ∷ is) js
unfolding apart trunk_fold view
same-around st n qs is js room h g =
    record {
      tree =
          ap (λ (u : Trunk). trunk_fold u (tags is)) (grow_open st n h) ∙ g.tree
          ∙ ap (λ (u : Trunk). trunk_fold u (tags js)) (grow-close st n h);
      low = λ l. low_open room (g.low (low_close l));
    }

not-usx : (n : ℕ) → 2 ≤ n → n ≡ 1 → ⊥
not-usx n h e = omega arith

-- ---- events that change nothing

same-leaf : {t : Tape} {e : Event} (st : List ℕ) (s : State) (js : List Item) → Leaf t e → Same st (items_of s e ++ js) js
unfolding items_of
same-leaf st s js (a_text {s = x}) = same_text st js x
same-leaf st s js (a_line {d}) = same_line st js d
same-leaf st s js (an_empty {n} {qs} a) = let r = given_range a in same-empty st js n qs (not-usx n (omega arith))
same-leaf st s js a_chapter =
    rw (append_assoc, append_assoc)
    (then_same (same_end st _ 4 s.verse (not-usx 4 (omega arith)))
    (then_same (same_end st _ 3 s.chapter (not-usx 3 (omega arith))) (same-empty st js 3 _ (not-usx 3 (omega arith)))))
same-leaf st s js (a_verse k v) =
    rw append_assoc
    (then_same (same_end st _ 4 s.verse (not-usx 4 (omega arith))) (same-empty st js 4 _ (not-usx 4 (omega arith))))
same-leaf st s js an_aside = record { tree = refl; low = λ l. l }
same-leaf st s js a_back = record { tree = refl; low = λ l. l }

same-book : (st : List ℕ) (code rest : Bytes) (js : List Item) → length st < 132 → Same st (book_items code rest ++ js) js
unfolding book_items
same-book st code [] js room = same-empty st js 2 _ (not-usx 2 (omega arith))
same-book st code (x ∷ rest) js room =
    same-around st 2 _ (text (x ∷ rest) ∷ close 2 ∷ js) js room (not-usx 2 (omega arith)) (same_text (2 ∷ st) (close 2 ∷ js) (x ∷ rest))

-- what is grown, in any state, with room for its height
grown_same : {t : Tape} {h : ℕ} {es : List Event} → Grown t h es → (st : List ℕ) (s : State) (js : List Item) → length st + h ≤ 132 → Same st (emitted s es ++ js) js
unfolding emitted after items_of
grown_same none st s js room = record { tree = refl; low = λ l. l }
grown_same (leaf {h} {e} {es} l g) st s js room =
    rw append_assoc (then_same (same-leaf st s (emitted (after s e) es ++ js) l) (grown_same g st (after s e) js room))
grown_same {t} (a_book {h} {es} k o r g) st s js room =
    let s₁ : State = after s (book (book_code_of t k) (book_rest_of t k)) in
    rw append_assoc (then_same (same-book st (book_code_of t k) (book_rest_of t k) (emitted s₁ es ++ js) (omega arith)) (grown_same g st s₁ js room))
grown_same (around {h} {n} {qs} {es} {fs} a g f) st s js room =
    let r = given_range a in
    let rest : List Item = emitted (after_all s es) fs ++ js in
    let e : emitted s (es ++ item (close n) ∷ fs) ++ js ≡ emitted s es ++ close n ∷ rest = ap (λ (is : List Item). is ++ js) (emitted-append s es (item (close n) ∷ fs)) ∙ append_assoc (emitted s es) _ js in
    then_same
    (subst (λ (is : List Item). Same st (start n qs ∷ is) rest) (sym e)
    (same-around st n qs (emitted s es ++ close n ∷ rest) rest (omega arith) (not-usx n (omega arith)) (grown_same g (n ∷ st) s (close n ∷ rest) (omega arith))))
    (grown_same f st (after_all s es) js room)

-- ---- the whole

-- the items of a tape, its frame without its first tag
tape-same : (t : Tape) → Same (1 ∷ []) ((paired (first_state_of t) (events_of t) ++ line 0 ∷ []) ++ close 1 ∷ []) (close 1 ∷ [])
unfolding last_ends
tape-same t =
    let s : State = first_state_of t in
    let es : List Event = events_of t in
    let z : State = after_all s es in
    let e : (paired s es ++ line 0 ∷ []) ++ close 1 ∷ [] ≡ emitted s es ++ (end_of 4 z.verse ++ (end_of 3 z.chapter ++ line 0 ∷ close 1 ∷ [])) =
    ap (λ (is : List Item). (is ++ line 0 ∷ []) ++ close 1 ∷ []) (paired-emitted s es) ∙ simp append_assoc in
    subst (λ (is : List Item). Same (1 ∷ []) is (close 1 ∷ [])) (sym e)
    (then_same (grown_same (walk_grown t) (1 ∷ []) s _ (omega arith))
    (then_same (same_end (1 ∷ []) _ 4 z.verse (not-usx 4 (omega arith)))
    (then_same (same_end (1 ∷ []) _ 3 z.chapter (not-usx 3 (omega arith))) (same_line (1 ∷ []) (close 1 ∷ []) 0))))

module _ (t : Tape) where
  vs : List View
  vs = tags (items_of_tape t)

  low_tags : Low 132 0 vs
  unfolding vs items_of_tape apart view
  low_tags = let room : 1 ≤ 132 = omega arith in low_open room ((tape-same t).low (low_close low_end))

  tree_fold : one_tree (folds at_start vs).trunk ≡ true
  unfolding vs items_of_tape apart trunk_fold view grow grow_in push pop one_tree none_open_of
  tree_fold = ap one_tree (trunk_of at_start vs ∙ (tape-same t).tree)

  -- every height of the items of a tape is a number up to 132
  pub tape_height : (a z : List View) → views (apart (items_of_tape t)) ≡ a ++ z → (g : ℕ) × (g ≤ 132) × (height_of a ≡ pos g)
  unfolding vs
  tape_height a z e = low_height 132 vs low_tags a z e

  -- so none is over 160
  pub tape_low : SomeHigh (views (apart (items_of_tape t))) → ⊥
  tape_low h =
      let i = tape_height h.0 h.1 h.2 in
      omega (arith, i.1, ltb-true 160 i.0 (sym (ap (lt_z (pos 160)) i.2) ∙ h.3))

  -- and they are one usx tree
  pub tape_tree : UsxTree (views (apart (items_of_tape t)))
  unfolding vs
  tape_tree = (usx_exact vs).0 ((tree_decides vs).0 tree_fold)
