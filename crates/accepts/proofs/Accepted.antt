-- The checker accepts the text of a tape where what is written is sound.
use mathlib.Core.Path.{◌≡◌, refl, sym, ap, ◌∙◌}
use mathlib.Core.List.{List, [], ◌∷◌, ◌++◌}
use Prim.Native.Nat.{ℕ}
use Rattle.tape.specs.File.{Tape}
use Rattle.tags.specs.Items.{Item, start, empty, close, text, line, apart}
use Rattle.checker.specs.View.{View, view, views}
use Rattle.checker.specs.Steps.{is_milestone, Pairs, pair_up}
use Rattle.checker.specs.Check.{at_start, paired_off, fold_verdict}
use Rattle.checker.specs.Meaning.{Milestones}
use Rattle.checker.specs.Words.{starts_in, Judged}
use Rattle.checker.specs.Answer.{accepted, answer_of}
use Rattle.checker.proofs.Decides.{folds, pair_fold, pairs_of, milestones_decide, milestones_counted}
use Rattle.checker.proofs.Demands.{demand_exact}
use Rattle.checker.proofs.Answers.{answers_exact}
use Rattle.checker.proofs.Joined.{items_accepted}
use Rattle.events.specs.Pairing.{paired}
use Rattle.events.specs.Text.{first_state_of, items_of_tape, text_of}
use Rattle.events.specs.Walk.{events_of}
use Rattle.pairing.specs.Seen.{seen, open_starts, start_of, chapters_in, verses_in}
use Rattle.pairing.proofs.Plain.{tape_demand_unescaped, tape_counts}
use Rattle.accepts.specs.Sound.{Sound}
use Rattle.accepts.proofs.Tree.{tape_low, tape_tree}
use Rattle.accepts.proofs.Legal.{sound_form}
use Rattle.accepts.proofs.Agree.{sound_agrees}

-- items, and others behind them
fold_append : (p : Pairs) (is js : List Item) → pair_fold p (views (apart (is ++ js))) ≡ pair_fold (pair_fold p (views (apart is))) (views (apart js))
unfolding apart pair_fold
fold_append p [] js = refl
fold_append p (start n qs ∷ is) js = fold_append (pair_up p _) is js
fold_append p (empty n qs ∷ is) js = fold_append (pair_up p _) is js
fold_append p (close n ∷ is) js = fold_append (pair_up p _) is js
fold_append p (text s ∷ is) js = fold_append (pair_up p _) is js
fold_append p (line d ∷ is) js = fold_append (pair_up p _) is js

module _ (t : Tape) (h : Sound t) where
  inner : List Item
  inner = paired (first_state_of t) (events_of t)

  whole : List View
  whole = views (apart (items_of_tape t))

  -- the frame is nothing to the milestones
  same-pairs : (folds at_start whole).pairs ≡ (folds at_start (seen inner)).pairs
  unfolding whole inner items_of_tape apart pair_fold view pair_up is_milestone
  same-pairs =
      pairs_of at_start whole
      ∙ fold_append at_start.pairs (inner ++ line 0 ∷ []) (close 1 ∷ [])
      ∙ fold_append at_start.pairs inner (line 0 ∷ [])
      ∙ sound_agrees t h at_start.pairs
      ∙ sym (pairs_of at_start (seen inner))

  marks : Milestones (seen inner)
  unfolding inner open_starts start_of first_state_of
  marks = (demand_exact (seen inner)).1 (tape_demand_unescaped t)

  whole_marks : Milestones whole
  whole_marks = (milestones_decide whole).0 (ap paired_off same-pairs ∙ (milestones_decide (seen inner)).1 marks)

  counted : (starts_in 3 whole ≡ chapters_in (events_of t)) × (starts_in 4 whole ≡ verses_in (events_of t))
  unfolding inner
  counted =
      let n = milestones_counted whole whole_marks in
      let m = milestones_counted (seen inner) marks in
      let c = tape_counts t in (
        sym n.0 ∙ ap (λ (p : Pairs). p.chapters) same-pairs ∙ m.0 ∙ c.0,
        sym n.1 ∙ ap (λ (p : Pairs). p.verses) same-pairs ∙ m.1 ∙ c.1,
      )

  answer : answer_of (fold_verdict (text_of t)) ≡ accepted (chapters_in (events_of t)) (verses_in (events_of t))
  unfolding whole
  answer =
      items_accepted (items_of_tape t) (text_of t) (sound_form t h) (tape_low t) (tape_tree t) ((demand_exact whole).0 whole_marks)
      ∙ ap (λ (k : ℕ). accepted k (starts_in 4 whole)) counted.0 ∙ ap (accepted (chapters_in (events_of t))) counted.1

  -- the text is accepted, and the counts are those of the chapters and verses that the walk finds
  pub sound-accepted : Judged (text_of t) (accepted (chapters_in (events_of t)) (verses_in (events_of t)))
  sound-accepted = (answers_exact (text_of t) _).0 answer
