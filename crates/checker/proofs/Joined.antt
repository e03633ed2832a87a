-- Neighbouring texts are nothing to the rules: rendered items are accepted where they are right with their texts apart.
use mathlib.Core.Path.{◌≡◌, refl, sym, ap, ◌∙◌}
use mathlib.Core.Bool.{Bool, true, false, cond, not, ◌||◌, or-true}
use borrow.Author.Tests.{not-true}
use Rattle.parts.proofs.Laws.{and-true}
use mathlib.Core.List.{List, [], ◌∷◌}
use lib.IntN.{ℤ, pos}
use lib.Signed.{lt_z}
use Rattle.parts.specs.Bytes.{Bytes}
use Rattle.tags.specs.Form.{Token, text as text_token, opens, closes, empty as empty_token}
use Rattle.tags.specs.Write.{TagForm}
use Rattle.tags.specs.Items.{Item, start, empty, close, text, line, join, tokens_of, apart}
use Rattle.tags.specs.Element as el
use Rattle.checker.specs.View.{View, words, view, views}
use Rattle.checker.specs.Answer.{accepted, answer_of}
use Rattle.checker.specs.Words.{SomeHigh, Demand, starts_in, UsxTree}
use Rattle.checker.specs.Steps.{rise, Trunk, broke, grow_in, grow, Pairs, pair_up}
use Rattle.checker.specs.Meaning.{Milestones}
use Rattle.checker.specs.Check.{Run, step_on, at_start, one_tree, paired_off, verdict_of, fold_verdict}
use Rattle.checker.proofs.Decides.{folds, never, pair_fold, pairs_of, milestones_decide, milestones_counted}
use Rattle.checker.proofs.Trees.{grow_stays, on_grows, tree_decides}
use Rattle.checker.proofs.Demands.{demand_exact}
use Rattle.checker.proofs.Usx.{usx_exact}
use Rattle.checker.proofs.Answers.{by-tokens, is_low}

-- ---- the tree and the height alone

unfoldable pub trunk_fold : Trunk → List View → Trunk
trunk_fold t [] = t
trunk_fold t (v ∷ vs) = trunk_fold (grow t v) vs

pub trunk_of : (r : Run) (vs : List View) → (folds r vs).trunk ≡ trunk_fold r.trunk vs
unfolding folds trunk_fold step_on
trunk_of r [] = refl
trunk_of r (v ∷ vs) = trunk_of (step_on r v) vs

fold_stays : (t : Trunk) (vs : List View) → t.broken ≡ true → (trunk_fold t vs).broken ≡ true
unfolding trunk_fold
fold_stays t [] e = e
fold_stays t (v ∷ vs) e = fold_stays (grow t v) vs (grow_stays t v e)

whole_first : (t : Trunk) (vs : List View) → (trunk_fold t vs).broken ≡ false → t.broken ≡ false
whole_first t vs e = go t.broken refl
  where
    go : (z : Bool) → t.broken ≡ z → t.broken ≡ false
    go false i = i
    go true i = never (sym e ∙ fold_stays t vs i)

pub going : (t : Trunk) (v : View) (vs : List View) → (trunk_fold t (v ∷ vs)).broken ≡ false → t.done ≡ false
unfolding trunk_fold
going t v vs e =
    (on_grows t (whole_first t (v ∷ vs) e) v (whole_first (grow t v) vs e)).0

pub tree_whole : (t : Trunk) → one_tree t ≡ true → t.broken ≡ false
unfolding one_tree
tree_whole t e = not-true t.broken (and-true (not t.broken) _ e).0

unfoldable pub high_fold : ℤ → Bool → List View → Bool
high_fold h g [] = g
high_fold h g (v ∷ vs) = high_fold (rise h v) (g || lt_z (pos 160) (rise h v)) vs

pub high_of : (r : Run) (vs : List View) → (folds r vs).high ≡ high_fold r.height r.high vs
unfolding folds high_fold step_on
high_of r [] = refl
high_of r (v ∷ vs) = high_of (step_on r v) vs

-- a height over 160 was noted
abbrev pub Noted : ℤ → Bool → Type 0
Noted h g = lt_z (pos 160) h ≡ true → g ≡ true

pub or-noted : (h : ℤ) (g : Bool) → Noted h g → (g || lt_z (pos 160) h) ≡ g
or-noted h g i = go g (lt_z (pos 160) h) i
  where
    go : (g x : Bool) → (x ≡ true → g ≡ true) → (g || x) ≡ g
    go true x i = refl
    go false true i = never (i refl)
    go false false i = refl

pub noted_on : (h : ℤ) (g : Bool) → Noted h (g || lt_z (pos 160) h)
noted_on h g e = rw e (or-true g)

-- ---- a text more or less

words-keep : (t : Trunk) → t.done ≡ false → grow t words ≡ t
unfolding grow grow_in
words-keep t d = go t.broken
  where
    go : (x : Bool) → cond x t (cond t.done (broke t) t) ≡ t
    go true = refl
    go false = ap (λ (z : Bool). cond z (broke t) t) d

-- milestones
join-pairs : (p : Pairs) (s : Bytes) (ts : List Token) → pair_fold p (views (join s ts)) ≡ pair_fold p (views ts)
unfolding join pair_fold pair_up view
join-pairs p [] ts = refl
join-pairs p (x ∷ s) [] = refl
join-pairs p (x ∷ s) (text_token t ∷ ts) = refl
join-pairs p (x ∷ s) (opens n ps ∷ ts) = refl
join-pairs p (x ∷ s) (closes n ∷ ts) = refl
join-pairs p (x ∷ s) (empty_token n ps ∷ ts) = refl

same-pairs : (p : Pairs) (is : List Item) → pair_fold p (views (tokens_of is)) ≡ pair_fold p (views (apart is))
unfolding tokens_of apart pair_fold
same-pairs p [] = refl
same-pairs p (start n qs ∷ is) = same-pairs (pair_up p _) is
same-pairs p (empty n qs ∷ is) = same-pairs (pair_up p _) is
same-pairs p (close n ∷ is) = same-pairs (pair_up p _) is
same-pairs p (text t ∷ is) = join-pairs p _ (tokens_of is) ∙ same-pairs p is ∙ (unfold pair_up view in refl)
same-pairs p (line d ∷ is) = join-pairs p _ (tokens_of is) ∙ same-pairs p is ∙ (unfold pair_up view in refl)

-- the tree
join_trunk : (t : Trunk) (s : Bytes) (ts : List Token) → t.done ≡ false → trunk_fold t (views (join s ts)) ≡ trunk_fold t (views ts)
unfolding join trunk_fold view
join_trunk t [] ts d = refl
join_trunk t (x ∷ s) [] d = words-keep t d
join_trunk t (x ∷ s) (text_token y ∷ ts) d = refl
join_trunk t (x ∷ s) (opens n ps ∷ ts) d = ap (λ (z : Trunk). trunk_fold z (views (opens n ps ∷ ts))) (words-keep t d)
join_trunk t (x ∷ s) (closes n ∷ ts) d = ap (λ (z : Trunk). trunk_fold z (views (closes n ∷ ts))) (words-keep t d)
join_trunk t (x ∷ s) (empty_token n ps ∷ ts) d = ap (λ (z : Trunk). trunk_fold z (views (empty_token n ps ∷ ts))) (words-keep t d)

-- a text in front of what is whole at the end
text_trunk : (t : Trunk) (s : Bytes) (ts : List Token) (vs : List View) → (trunk_fold t (words ∷ vs)).broken ≡ false
    → ((trunk_fold t vs).broken ≡ false → trunk_fold t (views ts) ≡ trunk_fold t vs) → trunk_fold t (views (join s ts)) ≡ trunk_fold t (words ∷ vs)
unfolding trunk_fold
text_trunk t s ts vs e f =
    let d : t.done ≡ false = going t words vs e in
    let same : trunk_fold t (words ∷ vs) ≡ trunk_fold t vs = ap (λ (z : Trunk). trunk_fold z vs) (words-keep t d) in
    join_trunk t s ts d ∙ f (sym (ap (λ (z : Trunk). z.broken) same) ∙ e) ∙ sym same

same_trunk : (t : Trunk) (is : List Item) → (trunk_fold t (views (apart is))).broken ≡ false → trunk_fold t (views (tokens_of is)) ≡ trunk_fold t (views (apart is))
unfolding tokens_of apart trunk_fold view
same_trunk t [] e = refl
same_trunk t (start n qs ∷ is) e = same_trunk (grow t _) is e
same_trunk t (empty n qs ∷ is) e = same_trunk (grow t _) is e
same_trunk t (close n ∷ is) e = same_trunk (grow t _) is e
same_trunk t (text s ∷ is) e = text_trunk t _ (tokens_of is) (views (apart is)) e (same_trunk t is)
same_trunk t (line d ∷ is) e = text_trunk t _ (tokens_of is) (views (apart is)) e (same_trunk t is)

-- heights
words_high : (h : ℤ) (g : Bool) (vs : List View) → Noted h g → high_fold h g (words ∷ vs) ≡ high_fold h g vs
unfolding high_fold rise
words_high h g vs i = ap (λ (z : Bool). high_fold h z vs) (or-noted h g i)

join_high : (h : ℤ) (g : Bool) (s : Bytes) (ts : List Token) → Noted h g → high_fold h g (views (join s ts)) ≡ high_fold h g (views ts)
unfolding join view
join_high h g [] ts i = refl
join_high h g (x ∷ s) [] i = words_high h g [] i
join_high h g (x ∷ s) (text_token t ∷ ts) i = refl
join_high h g (x ∷ s) (opens n ps ∷ ts) i = words_high h g (views (opens n ps ∷ ts)) i
join_high h g (x ∷ s) (closes n ∷ ts) i = words_high h g (views (closes n ∷ ts)) i
join_high h g (x ∷ s) (empty_token n ps ∷ ts) i = words_high h g (views (empty_token n ps ∷ ts)) i

same_high : (h : ℤ) (g : Bool) (is : List Item) → Noted h g → high_fold h g (views (tokens_of is)) ≡ high_fold h g (views (apart is))
unfolding tokens_of apart view high_fold
same_high h g [] i = refl
same_high h g (start n qs ∷ is) i = same_high (rise h _) (g || lt_z (pos 160) (rise h _)) is (noted_on (rise h _) g)
same_high h g (empty n qs ∷ is) i = same_high (rise h _) (g || lt_z (pos 160) (rise h _)) is (noted_on (rise h _) g)
same_high h g (close n ∷ is) i = same_high (rise h _) (g || lt_z (pos 160) (rise h _)) is (noted_on (rise h _) g)
same_high h g (text t ∷ is) i = join_high h g _ (tokens_of is) i ∙ same_high h g is i ∙ sym (words_high h g (views (apart is)) i)
same_high h g (line d ∷ is) i = join_high h g _ (tokens_of is) i ∙ same_high h g is i ∙ sym (words_high h g (views (apart is)) i)

-- ---- accepted

-- a text whose tokens are rendered items is accepted where the items, their texts apart, are right
pub items_accepted : (is : List Item) (s : Bytes) → TagForm s (tokens_of is) → (SomeHigh (views (apart is)) → ⊥) → UsxTree (views (apart is)) → Demand (views (apart is))
    → answer_of (fold_verdict s) ≡ accepted (starts_in el.chapter (views (apart is))) (starts_in el.verse (views (apart is)))
unfolding verdict_of answer_of
items_accepted is s f low one d =
    ap answer_of (by-tokens s (tokens_of is) f) ∙ rw (high, ap one_tree trunk ∙ t, ap paired_off pairs ∙ (milestones_decide vs).1 m, ap (λ (p : Pairs). p.chapters) pairs ∙ n.0, ap (λ (p : Pairs). p.verses) pairs ∙ n.1)
  where
    vs : List View
    vs = views (apart is)

    l : (folds at_start vs).high ≡ false
    l = is_low vs low

    t : one_tree (folds at_start vs).trunk ≡ true
    t = (tree_decides vs).1 ((usx_exact vs).1 one)

    m : Milestones vs
    m = (demand_exact vs).1 d

    n : ((folds at_start vs).pairs.chapters ≡ starts_in 3 vs) × ((folds at_start vs).pairs.verses ≡ starts_in 4 vs)
    n = milestones_counted vs m

    high : (folds at_start (views (tokens_of is))).high ≡ false
    high = high_of at_start (views (tokens_of is)) ∙ same_high (pos 0) false is (λ i. i) ∙ sym (high_of at_start vs) ∙ l

    unbroken : (trunk_fold at_start.trunk vs).broken ≡ false
    unbroken = sym (ap (λ (x : Trunk). x.broken) (trunk_of at_start vs)) ∙ tree_whole (folds at_start vs).trunk t

    trunk : (folds at_start (views (tokens_of is))).trunk ≡ (folds at_start vs).trunk
    trunk = trunk_of at_start (views (tokens_of is)) ∙ same_trunk at_start.trunk is unbroken ∙ sym (trunk_of at_start vs)

    pairs : (folds at_start (views (tokens_of is))).pairs ≡ (folds at_start vs).pairs
    pairs = pairs_of at_start (views (tokens_of is)) ∙ same-pairs at_start.pairs is ∙ sym (pairs_of at_start vs)
