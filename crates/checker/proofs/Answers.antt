-- The five answers, by document 01's rules, and that `check` has one result.
use mathlib.Core.Path.{◌≡◌, refl, sym, ap, ◌∙◌, subst}
use mathlib.Core.Bool.{Bool, true, false, cond}
use mathlib.Core.List.{List}
use mathlib.Core.Option.{Option, some, none}
use mathlib.Core.Logic.{◌↔◌}
use Prim.Native.Nat.{ℕ}
use native.Mathlib.Omega.{arith}
use lib.Dec.{eqb}
use Rattle.parts.specs.Bytes.{Bytes}
use Rattle.tags.specs.Form.{Token, tokens}
use Rattle.tags.specs.Write.{TagForm}
use Rattle.tags.proofs.Exact.{form_exact}
use Rattle.checker.specs.View.{View, views}
use Rattle.checker.specs.Answer.{Answer, refused, answer_of}
use Rattle.checker.specs.Words.{SomeHigh, Demand, UsxTree, Judged, is_11, is_12, is_13, is_14, is_0}
use Rattle.checker.specs.Check.{Run, fold_on, at_start, one_tree, paired_off, verdict_of, settle, fold_verdict}
use Rattle.checker.specs.declared.Verdict.{Verdict}
use Rattle.checker.specs.declared.Verdict.TheVariants.{Accepted, NotTags, TooHigh, NoTree, BadMarks}
use Rattle.checker.proofs.Decides.{folds, fold_views, never, high_decides, milestones_decide, milestones_counted}
use Rattle.checker.proofs.Trees.{tree_decides}
use Rattle.checker.proofs.Demands.{demand_exact}
use Rattle.checker.proofs.Usx.{usx_exact}

-- what each fold's answer says
module _ (vs : List View) where
  r : Run
  r = folds at_start vs

  low : r.high ≡ false → SomeHigh vs → ⊥
  unfolding r
  low e h = never (sym e ∙ (high_decides vs).1 h)

  tree_no : one_tree r.trunk ≡ false → UsxTree vs → ⊥
  unfolding r
  tree_no e t = never (sym e ∙ (tree_decides vs).1 ((usx_exact vs).1 t))

  tree_yes : one_tree r.trunk ≡ true → UsxTree vs
  unfolding r
  tree_yes e = (usx_exact vs).0 ((tree_decides vs).0 e)

  marks_no : paired_off r.pairs ≡ false → Demand vs → ⊥
  unfolding r
  marks_no e d = never (sym e ∙ (milestones_decide vs).1 ((demand_exact vs).1 d))

  marks_yes : paired_off r.pairs ≡ true → Demand vs
  unfolding r
  marks_yes e = (demand_exact vs).0 ((milestones_decide vs).0 e)

judged_tokens : (s : Bytes) (ts : List Token) → TagForm s ts → Judged s (answer_of (verdict_of (fold_on at_start ts)))
unfolding verdict_of answer_of
judged_tokens s ts f =
    subst (λ (z : Run). Judged s (answer_of (verdict_of z))) (sym (fold_views at_start ts))
    (go (folds at_start vs).high refl (one_tree (folds at_start vs).trunk) refl (paired_off (folds at_start vs).pairs) refl)
  where
    vs : List View
    vs = views ts

    go : (x : Bool) → (folds at_start vs).high ≡ x → (y : Bool) → one_tree (folds at_start vs).trunk ≡ y → (z : Bool) → paired_off (folds at_start vs).pairs ≡ z
        → Judged s (answer_of (cond x TooHigh (cond y (cond z (Accepted (folds at_start vs).pairs.chapters (folds at_start vs).pairs.verses) BadMarks) NoTree)))
    go true e y i z j = is_12 ts f ((high_decides vs).0 e)
    go false e false i z j = is_13 ts f (unfold r in low vs e) (unfold r in tree_no vs i)
    go false e true i false j = is_14 ts f (unfold r in low vs e) (unfold r in tree_yes vs i) (unfold r in marks_no vs j)
    go false e true i true j =
        let n = milestones_counted vs ((milestones_decide vs).0 j) in
        rw (n.0, n.1) (is_0 ts f (unfold r in low vs e) (unfold r in tree_yes vs i) (unfold r in marks_yes vs j))

-- the fold's answer is judged by the rules: 0, 11, 12, 13 and 14, each exactly where it is said to be
pub five_answers : (s : Bytes) → Judged s (answer_of (fold_verdict s))
unfolding fold_verdict settle answer_of
five_answers s = go (tokens s) refl
  where
    go : (o : Option (List Token)) → tokens s ≡ o → Judged s (answer_of (settle at_start o))
    go none e = is_11 (λ ts f. let p : none ≡ some ts = sym e ∙ (form_exact s ts).1 f in absurd (let no_way : ◌≡◌ {A = ℕ} 0 1 = cc in omega arith))
    go (some ts) e = judged_tokens s ts ((form_exact s ts).0 e)

-- so is what equals it
pub answered : (s : Bytes) {v : Verdict} → v ≡ fold_verdict s → Judged s (answer_of v)
answered s e = subst (λ (v : Verdict). Judged s (answer_of v)) (sym e) (five_answers s)

-- ---- and no other answer is

pub by-tokens : (s : Bytes) (ts : List Token) → TagForm s ts → fold_verdict s ≡ verdict_of (folds at_start (views ts))
unfolding fold_verdict settle
by-tokens s ts f = ap (settle at_start) ((form_exact s ts).1 f) ∙ ap verdict_of (fold_views at_start ts)

unless : (t : Bool) → (t ≡ true → ⊥) → t ≡ false
unless true h = absurd (h refl)
unless false h = refl

pub is_low : (vs : List View) → (SomeHigh vs → ⊥) → (folds at_start vs).high ≡ false
is_low vs h = unless (folds at_start vs).high (λ e. h ((high_decides vs).0 e))

-- what is judged right is the fold's answer
pub judged_one : (s : Bytes) (a : Answer) → Judged s a → answer_of (fold_verdict s) ≡ a
unfolding verdict_of answer_of
judged_one s a (is_11 nay) = go (tokens s) refl
  where
    go : (o : Option (List Token)) → tokens s ≡ o → answer_of (fold_verdict s) ≡ refused 11
    go none e = unfold fold_verdict settle in ap (λ (o : Option (List Token)). answer_of (settle at_start o)) e
    go (some ts) e = absurd (nay ts ((form_exact s ts).0 e))
judged_one s a (is_12 ts f h) = ap answer_of (by-tokens s ts f) ∙ rw ((high_decides (views ts)).1 h)
judged_one s a (is_13 ts f h nay) =
    ap answer_of (by-tokens s ts f)
    ∙ rw (is_low (views ts) h, unless (one_tree (folds at_start (views ts)).trunk) (λ e. nay ((usx_exact (views ts)).0 ((tree_decides (views ts)).0 e))))
judged_one s a (is_14 ts f h t nay) =
    ap answer_of (by-tokens s ts f)
    ∙ rw (is_low (views ts) h, (tree_decides (views ts)).1 ((usx_exact (views ts)).1 t), unless (paired_off (folds at_start (views ts)).pairs) (λ e. nay ((demand_exact (views ts)).0 ((milestones_decide (views ts)).0 e))))
judged_one s a (is_0 ts f h t d) =
    let m = (demand_exact (views ts)).1 d in
    let n = milestones_counted (views ts) m in
    ap answer_of (by-tokens s ts f)
    ∙ rw (is_low (views ts) h, (tree_decides (views ts)).1 ((usx_exact (views ts)).1 t), (milestones_decide (views ts)).1 m, n.0, n.1)

-- the answers are the rules
pub answers_exact : (s : Bytes) (a : Answer) → (answer_of (fold_verdict s) ≡ a) ↔ Judged s a
answers_exact s a = (λ e. subst (Judged s) e (five_answers s), judged_one s a)

-- ---- the contract leaves one result

-- the case of the enum with that number and those counts
verdict_by : Answer → Verdict
verdict_by a =
    cond (eqb a.number 0) (Accepted a.chapters a.verses)
    (cond (eqb a.number 11) NotTags (cond (eqb a.number 12) TooHigh (cond (eqb a.number 13) NoTree BadMarks)))

verdict_back : (v : Verdict) → verdict_by (answer_of v) ≡ v
unfolding answer_of verdict_by
verdict_back (Accepted c v) = refl
verdict_back NotTags = refl
verdict_back TooHigh = refl
verdict_back NoTree = refl
verdict_back BadMarks = refl

-- a case of the enum is told by its number and counts
pub answer_one : (v w : Verdict) → answer_of v ≡ answer_of w → v ≡ w
answer_one v w e = sym (verdict_back v) ∙ ap verdict_by e ∙ verdict_back w

-- two verdicts that are both judged right for a text are equal
pub settled : (s : Bytes) (v w : Verdict) → Judged s (answer_of v) → Judged s (answer_of w) → v ≡ w
settled s v w e f = answer_one v w (sym (judged_one s (answer_of v) e) ∙ judged_one s (answer_of w) f)
