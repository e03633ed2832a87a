-- Laws of the walk over the whole text.
use mathlib.Core.Path.{◌≡◌, refl, sym, ap, ◌∙◌, subst}
use mathlib.Core.Bool.{Bool, true, false, cond, ◌&&◌}
use mathlib.Core.List.{List, [], ◌∷◌}
use mathlib.Core.Option.{Option, some, none}
use Rattle.std.specs.Prelude.{Some, None}
use Prim.Native.Nat.{ℕ, suc, ◌+◌, ◌-◌, ◌≤◌, ◌<◌}
use native.Mathlib.Omega.{arith}
use lib.ListN.{length, drop, get_or, length-drop, drop_of_length-le}
use lib.Seq.{drop-cons}
use lib.Dec.{eqb}
use lib.Pointwise.{pointwise}
use lib.IntN.{ℤ, pos}
use lib.Signed.{mag}
use Rattle.parts.specs.Bytes.{begins}
use Rattle.tags.specs.Form.{Token, Read, bad, got, next, onto, more_tokens, tokens_at, tokens_from, opening, closing, tokens}
use Rattle.tags.proofs.Tokens.{Shorter, next_shorter, tokens-by}
use Rattle.checker.specs.View.{View, words, opened, closed, single, view}
use Rattle.checker.specs.Steps.{rise, Trunk, grow, Turned, begun, ended, wrong, turn, Pairs, missed, chapter_to_of, verse_to, is_shut, is_milestone, pair_up}
use Rattle.checker.specs.Check.{Run, step_on, fold_on, at_start, verdict_of, settle, fold_verdict, Alike}
use Rattle.checker.specs.Code.{view_in, sight, brief, sight_in, trunk_of, held_in, run_in, state_at_start, Told}
use Rattle.checker.specs.declared.Tag.{Tag}
use Rattle.checker.specs.declared.State.{State}
use Rattle.checker.specs.declared.Verdict.{Verdict}
use Rattle.checker.specs.declared.Verdict.TheVariants.{NotTags}
use Rattle.checker.proofs.Decides.{never}
use Rattle.checker.proofs.Folds.{mag_rise, or-false}
use Rattle.checker.proofs.Trees.{grow_stays, height_grown}

-- ---- counts rise by one at most

chapter-count : (p : Pairs) (t : Turned) → ((chapter_to_of p t).chapters ≤ p.chapters + 1) × ((chapter_to_of p t).verses ≤ p.verses + 1)
unfolding chapter_to_of missed
chapter-count p (begun i) = omega arith
chapter-count p ended = omega arith
chapter-count p wrong = omega arith

verse-count : (p : Pairs) (t : Turned) → ((verse_to p t).chapters ≤ p.chapters + 1) × ((verse_to p t).verses ≤ p.verses + 1)
unfolding verse_to missed
verse-count p (begun i) = omega arith
verse-count p ended = omega arith
verse-count p wrong = omega arith

missed-count : (p : Pairs) (z : Bool) → ((cond z (missed p) p).chapters ≤ p.chapters + 1) × ((cond z (missed p) p).verses ≤ p.verses + 1)
unfolding missed
missed-count p true = omega arith
missed-count p false = omega arith

pair-count : (p : Pairs) (v : View) → ((pair_up p v).chapters ≤ p.chapters + 1) × ((pair_up p v).verses ≤ p.verses + 1)
unfolding pair_up
pair-count p words = omega arith
pair-count p (opened n) = missed-count p (is_milestone n)
pair-count p (closed n) = missed-count p (is_milestone n)
pair-count p (single n m) = go (eqb n 3) (is_shut p.verse) (eqb n 4)
  where
    go : (x y z : Bool) → ((cond x (cond y (chapter_to_of p (turn p.chapter m)) (missed p)) (cond z (verse_to p (turn p.verse m)) p)).chapters ≤ p.chapters + 1)
        × ((cond x (cond y (chapter_to_of p (turn p.chapter m)) (missed p)) (cond z (verse_to p (turn p.verse m)) p)).verses ≤ p.verses + 1)
    go true true z = chapter-count p (turn p.chapter m)
    go true false z = missed-count p true
    go false y true = verse-count p (turn p.verse m)
    go false y false = omega arith

settle-onto : (r : Run) (t : Token) (o : Option (List Token)) → settle r (onto t o) ≡ settle (step_on r (view t)) o
unfolding settle fold_on
settle-onto r t none = refl
settle-onto r t (some ts) = refl

-- ---- runs that differ in a tree which is nothing to the answer

pub alike_step : {p q : Run} → Alike p q → (v : View) → Alike (step_on p v) (step_on q v)
unfolding step_on
alike_step a v =
    record {
      height = ap (λ (h : ℤ). rise h v) a.height;
      high = rw (a.height, a.high);
      trunk = λ e. ap (λ (t : Trunk). grow t v) (a.trunk (or-false _ _ e).0);
      pairs = ap (λ (p : Pairs). pair_up p v) a.pairs;
    }

alike_verdict : {p q : Run} → Alike p q → verdict_of p ≡ verdict_of q
unfolding verdict_of
alike_verdict {p} {q} a = go q.high refl
  where
    go : (x : Bool) → q.high ≡ x → verdict_of p ≡ verdict_of q
    go true e = rw (a.high, e)
    go false e = rw (a.high, a.trunk e, a.pairs)

alike_fold : {p q : Run} → Alike p q → (ts : List Token) → verdict_of (fold_on p ts) ≡ verdict_of (fold_on q ts)
unfolding fold_on
alike_fold {p = p} {q = q} a [] = alike_verdict a
alike_fold {p = p} {q = q} a (t ∷ ts) = alike_fold {p = step_on p (view t)} {q = step_on q (view t)} (alike_step a (view t)) ts

alike_settle : {p q : Run} → Alike p q → (o : Option (List Token)) → settle p o ≡ settle q o
unfolding settle
alike_settle a none = refl
alike_settle a (some ts) = alike_fold a ts

-- ---- the loop

-- at a place of the text: what is left to read makes the verdict of the whole, and nothing has grown past the place
pub record Going (x : List ℕ) (s : State) (at : ℕ) : Type 0 where
  pub low : mag s.height ≤ at
  pub told : Told s
  pub few : s.marks.chapter.begun ≤ at
  pub little : s.marks.verse.begun ≤ at
  pub same : settle (run_in x s) (tokens_from (drop at x)) ≡ settle at_start (tokens_from x)

pub going_start : (x : List ℕ) (s : State) → s ≡ state_at_start → Going x s 0
unfolding held_in
going_start x s e =
    rw e (record { low = omega arith; told = λ h w. refl; few = omega arith; little = omega arith; same = refl })

-- the height still tells how many elements are open
told_on : (x : List ℕ) (s : State) (tag : Tag) (s' : State) → Alike (run_in x s') (step_on (run_in x s) (view_in x tag)) → Told s → Told s'
unfolding step_on
told_on x s tag s' g told h w =
    let t : Trunk = trunk_of s.tree in
    let v : View = view_in x tag in
    let low = or-false s.high _ (sym g.high ∙ h) in
    let same : trunk_of s'.tree ≡ grow t v = g.trunk (sym g.high ∙ h) in
    let whole : (grow t v).broken ≡ false = ap (λ (z : Trunk). z.broken) (sym same) ∙ w in
    let was : s.tree.broken ≡ false = unbroken t v whole in
    g.height ∙ height_grown s.height t v (told low.0 was) was whole ∙ ap (λ (z : Trunk). pos (length z.stack)) (sym same)
  where
    unbroken : (t : Trunk) (v : View) → (grow t v).broken ≡ false → t.broken ≡ false
    unbroken t v e = go t.broken refl
      where
        go : (z : Bool) → t.broken ≡ z → t.broken ≡ false
        go false i = i
        go true i = never (sym e ∙ grow_stays t v i)

module _ (x : List ℕ) (at : ℕ) (h : at < length x) where
  here : drop at x ≡ get_or x at 0 ∷ drop (suc at) x
  here = drop-cons x at 0 h

  left : tokens_from (drop at x) ≡ more_tokens tokens_from (get_or x at 0 ∷ drop (suc at) x) (next (drop at x))
  left = tokens-by (drop at x) ∙ ap (λ (z : List ℕ). more_tokens tokens_from z (next (drop at x))) here

  pub going_bad : (r : Run) {a : Verdict} → sight_in x None ≡ brief (next (drop at x)) → settle r (tokens_from (drop at x)) ≡ a → NotTags ≡ a
  unfolding sight_in brief settle
  going_bad r {a} e same = go (next (drop at x)) refl
    where
      go : (p : Read) → next (drop at x) ≡ p → NotTags ≡ a
      go bad i = sym (ap (settle r) (left ∙ ap (more_tokens tokens_from (get_or x at 0 ∷ drop (suc at) x)) i)) ∙ same
      go (got t l) i = absurd (let no_way : ◌≡◌ {A = ℕ} 0 1 = cc in omega arith)

  module _ (tag : Tag) (e : ℕ) (is : sight_in x (Some (tag, e)) ≡ brief (next (drop at x))) where
    pub got_one : (t : Token) × (next (drop at x) ≡ got t (drop e x)) × (view t ≡ view_in x tag)
    unfolding sight_in brief
    got_one = go (next (drop at x)) refl
      where
        go : (p : Read) → next (drop at x) ≡ p → (t : Token) × (next (drop at x) ≡ got t (drop e x)) × (view t ≡ view_in x tag)
        go bad i = absurd (let no_way : ◌≡◌ {A = ℕ} 0 1 = cc in omega arith)
        go (got t l) i =
            let same : sight (view_in x tag) (drop e x) ≡ sight (view t) l = is ∙ ap brief i in
            let rest : l ≡ drop e x = cc in
            let v : view t ≡ view_in x tag = cc in
            (t, i ∙ ap (got t) rest, v)

    pub going_on : at < e
    going_on =
        let less : length (drop e x) < length (drop at x) = subst (Shorter (length (drop at x))) got_one.1 (next_shorter (drop at x)) in
        omega (arith, length-drop e x, length-drop at x)

    pub going_turn : (s s' : State) → Alike (run_in x s') (step_on (run_in x s) (view_in x tag)) → Going x s at → Going x s' e
    unfolding step_on
    going_turn s s' st g =
        let on : at < e = going_on in
        let eh : s'.height ≡ rise s.height (view_in x tag) = st.height in
        let ec : s'.marks.chapter.begun ≡ (pair_up (run_in x s).pairs (view_in x tag)).chapters = ap (λ (p : Pairs). p.chapters) st.pairs in
        let ev : s'.marks.verse.begun ≡ (pair_up (run_in x s).pairs (view_in x tag)).verses = ap (λ (p : Pairs). p.verses) st.pairs in
        let t : Token = got_one.0 in
        record {
          low = omega (arith, ap mag eh, mag_rise s.height (view_in x tag), g.low);
          told = told_on x s tag s' st g.told;
          few = omega (arith, ec, (pair-count (run_in x s).pairs (view_in x tag)).0, g.few);
          little = omega (arith, ev, (pair-count (run_in x s).pairs (view_in x tag)).1, g.little);
          same =
              alike_settle st (tokens_from (drop e x))
              ∙ ap (λ (v : View). settle (step_on (run_in x s) v) (tokens_from (drop e x))) (sym got_one.2)
              ∙ sym (settle-onto (run_in x s) t (tokens_from (drop e x)))
              ∙ sym (ap (settle (run_in x s)) (left ∙ ap (more_tokens tokens_from (get_or x at 0 ∷ drop (suc at) x)) got_one.1))
              ∙ g.same;
        }

pub going_end : (x : List ℕ) (s : State) (at : ℕ) {r : Verdict} → length x ≤ at → r ≡ verdict_of (run_in x s) → Going x s at → r ≡ settle at_start (tokens_from x)
unfolding settle fold_on tokens_from tokens_at
going_end x s at h e g = e ∙ sym (ap (λ (z : List ℕ). settle (run_in x s) (tokens_from z)) (drop_of_length-le x h)) ∙ g.same

-- ---- the opening and the end

-- a text no longer than the word begins with it where the two are equal
begins_pointwise : (w s : List ℕ) → length s ≤ length w → pointwise eqb w s ≡ begins w s
unfolding begins
begins_pointwise [] [] h = refl
begins_pointwise [] (y ∷ s) h = absurd (omega arith)
begins_pointwise (x ∷ w) [] h = refl
begins_pointwise (x ∷ w) (y ∷ s) h = ap (λ (t : Bool). eqb x y && t) (begins_pointwise w s (omega arith))

module _ (x : List ℕ) {t : Bool} (e : t ≡ begins opening x) where
  pub not_opened : t ≡ false → NotTags ≡ fold_verdict x
  unfolding fold_verdict tokens settle
  not_opened h = rw (← e, h)

  module _ (h : t ≡ true) {u : Bool} (f : u ≡ pointwise eqb closing (drop (length x - 6) x)) where
    pub not_closed : u ≡ false → NotTags ≡ fold_verdict x
    unfolding fold_verdict tokens settle
    not_closed l = rw (← e, h, ← begins_pointwise closing (drop (length x - 6) x) (omega (arith, length-drop (length x - 6) x)), ← f, l)

    pub in_form : {a : Verdict} → u ≡ true → a ≡ settle at_start (tokens_from x) → a ≡ fold_verdict x
    unfolding fold_verdict tokens
    in_form l z = rw (← e, h, ← begins_pointwise closing (drop (length x - 6) x) (omega (arith, length-drop (length x - 6) x)), ← f, l) z
