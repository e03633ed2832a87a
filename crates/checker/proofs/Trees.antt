-- The fold over the tree decides the rule of the tree, at any height.
use mathlib.Core.Path.{◌≡◌, refl, sym, ap, ◌∙◌, subst}
use mathlib.Core.Bool.{Bool, true, false, cond, not, ◌&&◌}
use mathlib.Core.List.{List, [], ◌∷◌, ◌++◌}
use mathlib.Core.Logic.{◌↔◌}
use Prim.Native.Nat.{ℕ, suc}
use native.Mathlib.Omega.{arith}
use native.Mathlib.Numerals.{add-one}
use lib.ListN.{length}
use lib.IntN.{ℤ, pos, ◌+ℤ◌, ◌-ℤ◌, -ℤ_one}
use lib.Dec.{eqb}
use borrow.Author.Tests.{eq-eqb, ne_eqb, eqb-true, eqb-false, not-true}
use Rattle.checker.specs.View.{View, words, opened, closed, single}
use Rattle.checker.specs.Words.{still, still_open}
use Rattle.checker.specs.Steps.{rise, Trunk, broke, push, pop, grow_in, grow}
use Rattle.checker.specs.Meaning.{opens_usx, closes_usx, usx_opened_of, usx_closed_of, Grows, g_words, g_open, g_close, g_single, OneTree}
use Rattle.checker.specs.Check.{Run, step_on, at_start, none_open_of, one_tree}
use Rattle.parts.proofs.Laws.{and-true}
use Rattle.checker.proofs.Decides.{folds, never}
use Rattle.checker.proofs.Folds.{grow-broken}

-- what one tag does to a trunk that is not broken
record Onward (t : Trunk) (v : View) (q : Trunk) : Type 0 where
  pub right : q.broken ≡ false
  pub stack : q.stack ≡ still t.stack v
  pub seen : q.seen ≡ opens_usx t.seen v
  pub done : q.done ≡ closes_usx t.done v

module _ (t : Trunk) (h : t.broken ≡ false) where
  in_on : (v : View) → t.done ≡ false → Grows t.stack t.seen v → Onward t v (grow_in t v)
  unfolding grow_in still opens_usx closes_usx push pop
  in_on words d g_words = record { right = h; stack = refl; seen = refl; done = refl }
  in_on (opened n) d (g_open s) = go (eqb n 1) refl
    where
      go : (z : Bool) → eqb n 1 ≡ z → Onward t (opened n) (grow_in t (opened n))
      go true e =
          subst (Onward t (opened n))
          (sym (ap (λ (z : Bool). cond z (cond t.seen (broke t) (push t n true)) (push t n t.seen)) e
          ∙ ap (λ (z : Bool). cond z (broke t) (push t n true)) (s (eqb-true n 1 e))))
          (record { right = h; stack = refl; seen = sym (ap (λ (z : Bool). cond z true t.seen) e); done = refl })
      go false e =
          subst (Onward t (opened n))
          (sym (ap (λ (z : Bool). cond z (cond t.seen (broke t) (push t n true)) (push t n t.seen)) e))
          (record { right = h; stack = refl; seen = sym (ap (λ (z : Bool). cond z true t.seen) e); done = refl })
  in_on (closed n) d (g_close {ms = ms} s) =
      subst (Onward t (closed n))
      (sym (ap (pop t n) s ∙ ap (λ (z : Bool). cond z (record { stack = ms; seen = t.seen; done = eqb n 1; broken = t.broken }) (broke t)) (eq-eqb n n refl)))
      (record { right = h; stack = sym (ap (λ (st : List ℕ). still st (closed n)) s); seen = refl; done = ends (eqb n 1) })
    where
      ends : (z : Bool) → z ≡ cond z true t.done
      ends true = refl
      ends false = sym d
  in_on (single n m) d (g_single s) =
      subst (Onward t (single n m)) (sym (ap (λ (z : Bool). cond z (broke t) t) (ne_eqb n 1 s))) (record { right = h; stack = refl; seen = refl; done = refl })

  grows_on : (v : View) → t.done ≡ false → Grows t.stack t.seen v → Onward t v (grow t v)
  unfolding grow
  grows_on v d g =
      subst (Onward t v)
      (sym (ap (λ (z : Bool). cond z t (cond t.done (broke t) (grow_in t v))) h ∙ ap (λ (z : Bool). cond z (broke t) (grow_in t v)) d))
      (in_on v d g)

  broke_no {ℓ} : {A : Type ℓ} → (broke t).broken ≡ false → A
  unfolding broke
  broke_no e = never (sym e)

  -- a tag that breaks nothing grows
  on_pop : (n : ℕ) (st : List ℕ) → t.stack ≡ st → (pop t n st).broken ≡ false → Grows t.stack t.seen (closed n)
  unfolding pop
  on_pop n [] i e = broke_no e
  on_pop n (m ∷ ms) i e = go (eqb m n) refl e
    where
      go : (z : Bool) → eqb m n ≡ z → (cond z (record { stack = ms; seen = t.seen; done = eqb n 1; broken = t.broken }) (broke t)).broken ≡ false → Grows t.stack t.seen (closed n)
      go true j e = g_close (i ∙ ap (λ (k : ℕ). k ∷ ms) (eqb-true m n j))
      go false j e = broke_no e

  on_in : (v : View) → (grow_in t v).broken ≡ false → Grows t.stack t.seen v
  unfolding grow_in
  on_in words e = g_words
  on_in (opened n) e = go (eqb n 1) refl t.seen refl e
    where
      go : (z : Bool) → eqb n 1 ≡ z → (s : Bool) → t.seen ≡ s → (cond z (cond s (broke t) (push t n true)) (push t n s)).broken ≡ false → Grows t.stack t.seen (opened n)
      go true i true j e = broke_no e
      go true i false j e = g_open (λ z. j)
      go false i s j e = g_open (λ z. absurd (eqb-false n 1 i z))
  on_in (closed n) e = on_pop n t.stack refl e
  on_in (single n m) e = go (eqb n 1) refl e
    where
      go : (z : Bool) → eqb n 1 ≡ z → (cond z (broke t) t).broken ≡ false → Grows t.stack t.seen (single n m)
      go true i e = broke_no e
      go false i e = g_single (eqb-false n 1 i)

  pub on_grows : (v : View) → (grow t v).broken ≡ false → (t.done ≡ false) × Grows t.stack t.seen v
  unfolding grow
  on_grows v e = go t.broken h t.done refl e
    where
      go : (x : Bool) → x ≡ false → (z : Bool) → t.done ≡ z → (cond x t (cond z (broke t) (grow_in t v))).broken ≡ false → (t.done ≡ false) × Grows t.stack t.seen v
      go true w z i e = never (sym w)
      go false w true i e = broke_no e
      go false w false i e = (i, on_in v e)

-- ---- at every place

-- what is broken stays broken
pub grow_stays : (t : Trunk) (v : View) → t.broken ≡ true → (grow t v).broken ≡ true
grow_stays t v e = ap (λ (u : Trunk). u.broken) (sym (grow-broken t v e)) ∙ e

broken_stays : (r : Run) (vs : List View) → r.trunk.broken ≡ true → (folds r vs).trunk.broken ≡ true
unfolding folds step_on
broken_stays r [] e = e
broken_stays r (v ∷ vs) e = broken_stays (step_on r v) vs (grow_stays r.trunk v e)

-- nothing is broken behind the first tag, if nothing is at the end
first_whole : (r : Run) (vs : List View) → (folds r vs).trunk.broken ≡ false → r.trunk.broken ≡ false
first_whole r vs e = go r.trunk.broken refl
  where
    go : (t : Bool) → r.trunk.broken ≡ t → r.trunk.broken ≡ false
    go false i = i
    go true i = never (sym e ∙ broken_stays r vs i)

abbrev AtPlaces : Trunk → List View → Type 0
AtPlaces t vs = (a : List View) (v : View) (z : List View) → vs ≡ a ++ v ∷ z
    → (usx_closed_of t.done a ≡ false) × Grows (still_open t.stack a) (usx_opened_of t.seen a) v

record Right (r : Run) (vs : List View) : Type 0 where
  pub right : (folds r vs).trunk.broken ≡ false
  pub stack : (folds r vs).trunk.stack ≡ still_open r.trunk.stack vs
  pub seen : (folds r vs).trunk.seen ≡ usx_opened_of r.trunk.seen vs

onward_right : (r : Run) (v : View) (vs : List View) → Onward r.trunk v (grow r.trunk v) → Right (step_on r v) vs → Right r (v ∷ vs)
unfolding folds step_on still_open usx_opened_of
onward_right r v vs o q =
    record {
      right = q.right;
      stack = q.stack ∙ ap (λ (z : List ℕ). still_open z vs) o.stack;
      seen = q.seen ∙ ap (λ (z : Bool). usx_opened_of z vs) o.seen;
    }

no_cons : (a : List View) (v : View) (z : List View) → [] ≡ a ++ v ∷ z → ⊥
no_cons [] v z i = let no_way : ◌≡◌ {A = ℕ} 0 1 = cc in omega arith
no_cons (u ∷ a) v z i = let no_way : ◌≡◌ {A = ℕ} 0 1 = cc in omega arith

-- the places of a row, by the first and the rest
first_place : (t : Trunk) (w : View) (vs : List View) → t.done ≡ false → Grows t.stack t.seen w → Onward t w (grow t w) → AtPlaces (grow t w) vs → AtPlaces t (w ∷ vs)
unfolding still_open usx_opened_of usx_closed_of
first_place t w vs d g o more [] v z i = let j : w ≡ v = cc in (d, subst (Grows t.stack t.seen) j g)
first_place t w vs d g o more (u ∷ a) v z i =
    let j : w ≡ u = cc in
    let k : vs ≡ a ++ v ∷ z = cc in
    rw (← j, ← o.done, ← o.stack, ← o.seen) (more a v z k)

rest_places : (t : Trunk) (w : View) (vs : List View) → Onward t w (grow t w) → AtPlaces t (w ∷ vs) → AtPlaces (grow t w) vs
unfolding still_open usx_opened_of usx_closed_of
rest_places t w vs o at a v z i = rw (o.done, o.stack, o.seen) (at (w ∷ a) v z (ap (λ (l : List View). w ∷ l) i))

-- sound: a trunk that is whole at the end grew at every place
whole_places : (r : Run) (vs : List View) → r.trunk.broken ≡ false → (folds r vs).trunk.broken ≡ false → AtPlaces r.trunk vs × Right r vs
unfolding folds step_on still_open usx_opened_of
whole_places r [] h e = (λ a v z i. absurd (no_cons a v z i), record { right = h; stack = refl; seen = refl })
whole_places r (w ∷ vs) h e =
    let t : Trunk = r.trunk in
    let g = on_grows t h w (first_whole (step_on r w) vs e) in
    let o : Onward t w (grow t w) = grows_on t h w g.0 g.1 in
    let rest = whole_places (step_on r w) vs o.right e in
    (first_place t w vs g.0 g.1 o rest.0, onward_right r w vs o rest.1)

-- the height stays the number of elements still open
height_on : (h : ℤ) (st : List ℕ) (seen : Bool) {v : View} → h ≡ pos (length st) → Grows st seen v → rise h v ≡ pos (length (still st v))
unfolding rise still
height_on h st seen e g_words = e
height_on h st seen e (g_open s) = ap (λ (z : ℤ). z +ℤ pos 1) e ∙ ap pos (add-one (length st))
height_on h st seen e (g_close {n} {ms} s) =
    ap (λ (z : ℤ). z -ℤ pos 1) (e ∙ ap (λ (l : List ℕ). pos (length l)) s) ∙ -ℤ_one (pos (suc (length ms))) ∙ sym (ap (λ (l : List ℕ). pos (length (still l (closed n)))) s)
height_on h st seen e (g_single s) = e

pub height_grown : (h : ℤ) (t : Trunk) (v : View) → h ≡ pos (length t.stack) → t.broken ≡ false → (grow t v).broken ≡ false → rise h v ≡ pos (length (grow t v).stack)
height_grown h t v e w u =
    let g = on_grows t w v u in
    height_on h t.stack t.seen e g.1 ∙ ap (λ (st : List ℕ). pos (length st)) (sym (grows_on t w v g.0 g.1).stack)

-- complete: what grows at every place is whole at the end
places_whole : (r : Run) (vs : List View) → r.trunk.broken ≡ false → AtPlaces r.trunk vs → Right r vs
unfolding folds step_on still_open usx_opened_of usx_closed_of
places_whole r [] h at = record { right = h; stack = refl; seen = refl }
places_whole r (w ∷ vs) h at =
    let t : Trunk = r.trunk in
    let here = at [] w vs refl in
    let o : Onward t w (grow t w) = grows_on t h w here.0 here.1 in
    onward_right r w vs o (places_whole (step_on r w) vs o.right (rest_places t w vs o at))

none_is : (st : List ℕ) → none_open_of st ≡ true → st ≡ []
unfolding none_open_of
none_is [] e = refl
none_is (n ∷ st) e = never e

-- answer 13 is not given: exactly where the tree is one, at any height
pub tree_decides : (vs : List View) → (one_tree (folds at_start vs).trunk ≡ true) ↔ OneTree vs
unfolding one_tree none_open_of
tree_decides vs = (to, from)
  where
    q : Trunk
    q = (folds at_start vs).trunk

    to : one_tree q ≡ true → OneTree vs
    to e =
        let h = and-true (not q.broken) (q.seen && none_open_of q.stack) e in
        let l = and-true q.seen (none_open_of q.stack) h.1 in
        let w = whole_places at_start vs refl (not-true q.broken h.0) in
        record { places = w.0; opened = sym w.1.seen ∙ l.0; none = sym w.1.stack ∙ none_is q.stack l.1 }

    from : OneTree vs → one_tree q ≡ true
    from o =
        let r = places_whole at_start vs refl o.places in
        rw (r.right, r.seen ∙ o.opened, r.stack ∙ o.none)
