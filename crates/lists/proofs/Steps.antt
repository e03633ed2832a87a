-- The steps that a walk past a run and a fold along siblings give: one turn of each.
use mathlib.Core.Path.{◌≡◌, refl, sym, ap, ◌∙◌}
use mathlib.Core.Bool.{Bool, true, false}
use mathlib.Core.List.{List, ◌∷◌}
use Prim.Native.Nat.{ℕ}
use Rattle.tape.specs.File.{Tape}
use Rattle.tape.specs.Tree.{next_sibling, walk_from, found}
use Rattle.tape.specs.declared.Cursor.{Cursor}
use Rattle.tape.specs.Found.{Step}
use Rattle.std.specs.Prelude.{None, Some}
use Rattle.tape.proofs.Walk.{walk_turn, walk_end}
use Rattle.render.proofs.Finds.{first_end, first_here, first_past}
use Rattle.fold.specs.Fold.{claim_of}
use Rattle.fold.specs.declared.Claim.{Claim}
use Rattle.fold.specs.declared.Claim.TheVariants.{Blank, Alt, Pub, Stops}
use Rattle.lists.specs.Span.{member_of_of, stops_at_of, ends_by, run_end_of, claim_by, folds_from, folds_at}
use Rattle.lists.specs.declared.Span.{Span}
use Rattle.lists.specs.declared.Member.{Member}
use Rattle.lists.specs.declared.Member.TheVariants.{End, Skipped, Listed}
use Rattle.lists.specs.declared.Stop.{Stop}
use Rattle.lists.specs.declared.Folds.{Folds}

-- ---- past a run

module _ (t : Tape) (span : Span) (stop : Stop) where
  abbrev ends : ℕ → Bool
  ends k = ends_by (member_of_of t span k) (stops_at_of t stop k)

  module _ (s₀ s : Step) (inv : run_end_of t span stop s ≡ run_end_of t span stop s₀) where
    pub end_over : s ≡ None → s ≡ run_end_of t span stop s₀
    unfolding run_end_of
    end_over e = e ∙ sym (first_end t ends e) ∙ inv

    module _ (c : Cursor) (es : s ≡ Some c) {m : Member} (em : m ≡ member_of_of t span c.at) where
      stop_here : ends c.at ≡ true → Some c ≡ run_end_of t span stop s₀
      unfolding run_end_of
      stop_here h = sym (first_here t ends c es h) ∙ inv

      go_on : {n : Step} → n ≡ next_sibling t c.at → ends c.at ≡ false → run_end_of t span stop n ≡ run_end_of t span stop s₀
      unfolding run_end_of
      go_on en h = sym (first_past t ends c es en h) ∙ inv

      pub end_cut : m ≡ End → Some c ≡ run_end_of t span stop s₀
      unfolding ends_by
      end_cut h = stop_here (rw (sym em ∙ h))

      pub end_skipped : {n : Step} → m ≡ Skipped → n ≡ next_sibling t c.at → run_end_of t span stop n ≡ run_end_of t span stop s₀
      unfolding ends_by
      end_skipped h en = go_on en (rw (sym em ∙ h))

      module _ (h : m ≡ Listed) {x : Bool} (ex : x ≡ stops_at_of t stop c.at) where
        pub end_found : x ≡ true → Some c ≡ run_end_of t span stop s₀
        unfolding ends_by
        end_found hx = stop_here (rw (sym em ∙ h) (sym ex ∙ hx))

        pub end_past : {n : Step} → x ≡ false → n ≡ next_sibling t c.at → run_end_of t span stop n ≡ run_end_of t span stop s₀
        unfolding ends_by
        end_past hx en = go_on en (rw (sym em ∙ h) (sym ex ∙ hx))

-- ---- the fold

abbrev gave : Step → Step → Step → Folds
gave alt published rest = record { alt = alt; published = published; rest = rest }

module _ (t : Tape) (span : Span) (anchor : ℕ) (alt published : Step) where
  -- what the fold from a step on still gives
  unfoldable pub still : Step → Folds
  still s = folds_from t span anchor alt published (walk_from t s)

  module _ (k : ℕ) (ks : List ℕ) where
    abbrev claimed : Claim
    claimed = claim_by (member_of_of t span k) (claim_of t anchor (found alt) (found published) k)

    took_blank : claimed ≡ Blank → folds_from t span anchor alt published (k ∷ ks) ≡ folds_from t span anchor alt published ks
    unfolding folds_from
    took_blank h = rw (h, folds_from)

    took_alt : claimed ≡ Alt → folds_from t span anchor alt published (k ∷ ks) ≡ folds_from t span anchor (Some (record { at = k })) published ks
    unfolding folds_from
    took_alt h = rw (h, folds_from)

    took_pub : claimed ≡ Pub → folds_from t span anchor alt published (k ∷ ks) ≡ folds_from t span anchor alt (Some (record { at = k })) ks
    unfolding folds_from
    took_pub h = rw (h, folds_from)

    took_none : claimed ≡ Stops → folds_from t span anchor alt published (k ∷ ks) ≡ gave alt published (Some (record { at = k }))
    unfolding folds_from
    took_none h = rw (h, folds_from)

pub still_starts : (t : Tape) (span : Span) (anchor : ℕ) (s : Step) → still t span anchor None None s ≡ folds_at t span anchor s
unfolding still folds_at
still_starts t span anchor s = refl

module _ (t : Tape) (span : Span) (anchor : ℕ) (s₀ alt published s : Step) (inv : still t span anchor alt published s ≡ still t span anchor None None s₀) where
  whole : still t span anchor alt published s ≡ folds_at t span anchor s₀
  whole = inv ∙ still_starts t span anchor s₀

  pub still-ended : s ≡ None → gave alt published s ≡ folds_at t span anchor s₀
  unfolding still folds_from
  still-ended e =
      ap (gave alt published) e
      ∙ sym (ap (folds_from t span anchor alt published) (walk_end t e)) ∙ whole

  module _ (c : Cursor) (es : s ≡ Some c) {m : Member} (em : m ≡ member_of_of t span c.at) where
    first : still t span anchor alt published s ≡ folds_from t span anchor alt published (c.at ∷ walk_from t (next_sibling t c.at))
    unfolding still
    first = ap (folds_from t span anchor alt published) (walk_turn t c es refl)

    stop_at : claimed t span anchor alt published c.at (walk_from t (next_sibling t c.at)) ≡ Stops → gave alt published s ≡ folds_at t span anchor s₀
    stop_at h = ap (gave alt published) es ∙ sym (took_none t span anchor alt published c.at (walk_from t (next_sibling t c.at)) h) ∙ sym first ∙ whole

    pub still-cut : m ≡ End → gave alt published s ≡ folds_at t span anchor s₀
    unfolding claim_by
    still-cut h = stop_at (rw (sym em ∙ h))

    module _ {n : Step} (en : n ≡ next_sibling t c.at) where
      onto : folds_from t span anchor alt published (c.at ∷ walk_from t n) ≡ still t span anchor None None s₀
      onto = ap (λ (u : Step). folds_from t span anchor alt published (c.at ∷ walk_from t u)) en ∙ sym first ∙ inv

      pub still_skipped : m ≡ Skipped → still t span anchor alt published n ≡ still t span anchor None None s₀
      unfolding still claim_by
      still_skipped h = sym (took_blank t span anchor alt published c.at (walk_from t n) (rw (sym em ∙ h))) ∙ onto

    module _ (hm : m ≡ Listed) {a p : Bool} {r : Claim} (ea : a ≡ found alt) (ep : p ≡ found published) (er : r ≡ claim_of t anchor a p c.at) where
      is : {x : Claim} → r ≡ x → claim_by (member_of_of t span c.at) (claim_of t anchor (found alt) (found published) c.at) ≡ x
      unfolding claim_by
      is h = rw (sym em ∙ hm, ← ea, ← ep) (sym er ∙ h)

      pub still_stopped : r ≡ Stops → gave alt published s ≡ folds_at t span anchor s₀
      still_stopped h = stop_at (is h)

      module _ {n : Step} (en : n ≡ next_sibling t c.at) where
        pub still_passed : r ≡ Blank → still t span anchor alt published n ≡ still t span anchor None None s₀
        unfolding still
        still_passed h = sym (took_blank t span anchor alt published c.at (walk_from t n) (is h)) ∙ onto en

        pub still_alt : r ≡ Alt → still t span anchor (Some c) published n ≡ still t span anchor None None s₀
        unfolding still
        still_alt h = sym (took_alt t span anchor alt published c.at (walk_from t n) (is h)) ∙ onto en

        pub still_pub : r ≡ Pub → still t span anchor alt (Some c) n ≡ still t span anchor None None s₀
        unfolding still
        still_pub h = sym (took_pub t span anchor alt published c.at (walk_from t n) (is h)) ∙ onto en
