-- The folds decide what the rules say.
use mathlib.Core.Path.{◌≡◌, refl, sym, ap, ◌∙◌, subst}
use mathlib.Core.Bool.{Bool, true, false, cond, not, ◌&&◌, ◌||◌, or-true}
use mathlib.Core.List.{List, [], ◌∷◌, ◌++◌}
use mathlib.Core.Logic.{◌↔◌, ◌⊎◌, inl, inr}
use Prim.Native.Nat.{ℕ, suc, ◌+◌}
use native.Mathlib.Omega.{arith}
use lib.IntN.{ℤ, pos, neg_ℤ, ◌+ℤ◌, ◌-ℤ◌, +ℤ_one, -ℤ_one, suc_ℤ-+ℤ, +ℤ-pred_ℤ, neg_ℤ-suc_ℤ}
use lib.Signed.{lt_z}
use lib.Dec.{eqb}
use borrow.Author.Tests.{eq-eqb, ne_eqb, eqb-true, eqb-false, not-true}
use Rattle.parts.proofs.Laws.{and-true, same_true, same_refl}
use Rattle.tags.specs.Form.{Token}
use Rattle.parts.specs.Bytes.{same}
use Rattle.checker.specs.View.{Mark, bare, plain, other, start, ends, View, words, opened, closed, single, view, views}
use Rattle.checker.specs.Words.{starts_in, openings, closings, height_of, SomeHigh}
use Rattle.checker.specs.Steps.{rise, Held, shut, held, Turned, begun, ended, wrong, turn, Pairs, missed, chapter_to_of, verse_to, is_shut, is_milestone, pair_up}
use Rattle.checker.specs.Meaning.{since, open_behind, Fits, of_words, of_open, of_close, of_single, chapter_start, chapter_end, verse_start, verse_end, Milestones}
use Rattle.checker.specs.Check.{Run, step_on, fold_on, at_start, paired_off}

-- ---- the fold over what the rules see

unfoldable pub folds : Run → List View → Run
folds r [] = r
folds r (v ∷ vs) = folds (step_on r v) vs

pub fold_views : (r : Run) (ts : List Token) → fold_on r ts ≡ folds r (views ts)
unfolding fold_on folds
fold_views r [] = refl
fold_views r (t ∷ ts) = fold_views (step_on r (view t)) ts

-- ---- heights

rises : ℤ → List View → ℤ
rises h [] = h
rises h (v ∷ vs) = rises (rise h v) vs

-- a difference of counts, one tag on
up_one : (p q : ℕ) → (pos p -ℤ pos q) +ℤ pos 1 ≡ pos (suc p) -ℤ pos q
up_one p q = +ℤ_one (pos p -ℤ pos q) ∙ sym (suc_ℤ-+ℤ (pos p) (neg_ℤ (pos q)))

down_one : (p q : ℕ) → (pos p -ℤ pos q) -ℤ pos 1 ≡ pos p -ℤ pos (suc q)
down_one p q = -ℤ_one (pos p -ℤ pos q) ∙ sym (ap (λ (z : ℤ). pos p +ℤ z) (neg_ℤ-suc_ℤ (pos q)) ∙ +ℤ-pred_ℤ (pos p) (neg_ℤ (pos q)))

rises_from : (p q : ℕ) (vs : List View) → rises (pos p -ℤ pos q) vs ≡ pos (p + openings vs) -ℤ pos (q + closings vs)
unfolding rises rise openings closings
rises_from p q [] = let e : p ≡ p + 0 = omega arith in let f : q ≡ q + 0 = omega arith in rw (← e, ← f)
rises_from p q (words ∷ vs) = rises_from p q vs
rises_from p q (opened n ∷ vs) =
    let e : suc p + openings vs ≡ p + suc (openings vs) = omega arith in
    ap (λ (h : ℤ). rises h vs) (up_one p q) ∙ rises_from (suc p) q vs ∙ ap (λ (k : ℕ). pos k -ℤ pos (q + closings vs)) e
rises_from p q (closed n ∷ vs) =
    let e : suc q + closings vs ≡ q + suc (closings vs) = omega arith in
    ap (λ (h : ℤ). rises h vs) (down_one p q) ∙ rises_from p (suc q) vs ∙ ap (λ (k : ℕ). pos (p + openings vs) -ℤ pos k) e
rises_from p q (single n m ∷ vs) = rises_from p q vs

rises_is : (vs : List View) → rises (pos 0) vs ≡ height_of vs
rises_is vs =
    let e : 0 + openings vs ≡ openings vs = omega arith in
    let f : 0 + closings vs ≡ closings vs = omega arith in
    rises_from 0 0 vs ∙ ap (λ (k : ℕ). pos k -ℤ pos (0 + closings vs)) e ∙ ap (λ (k : ℕ). pos (openings vs) -ℤ pos k) f

pub high_stays : (r : Run) (vs : List View) → r.high ≡ true → (folds r vs).high ≡ true
unfolding folds step_on
high_stays r [] e = e
high_stays r (v ∷ vs) e = high_stays (step_on r v) vs (rw e)

high_sound : (r : Run) (vs : List View) → (folds r vs).high ≡ true
    → (r.high ≡ true) ⊎ ((a : List View) × (z : List View) × (vs ≡ a ++ z) × (lt_z (pos 160) (rises r.height a) ≡ true))
unfolding folds step_on rises
high_sound r [] e = inl e
high_sound r (v ∷ vs) e = go r.high refl (high_sound (step_on r v) vs e)
  where
    G : Type 0
    G = (r.high ≡ true) ⊎ ((a : List View) × (z : List View) × (v ∷ vs ≡ a ++ z) × (lt_z (pos 160) (rises r.height a) ≡ true))

    go : (t : Bool) → r.high ≡ t
        → ((r.high || lt_z (pos 160) (rise r.height v)) ≡ true) ⊎ ((a : List View) × (z : List View) × (vs ≡ a ++ z) × (lt_z (pos 160) (rises (rise r.height v) a) ≡ true)) → G
    go true i x = inl i
    go false i (inl h) = inr (v ∷ [], vs, refl, rw i at h)
    go false i (inr w) = inr (v ∷ w.0, w.1, ap (λ (l : List View). v ∷ l) w.2, w.3)

high_complete : (a z : List View) (r : Run) → (lt_z (pos 160) r.height ≡ true → r.high ≡ true)
    → lt_z (pos 160) (rises r.height a) ≡ true → (folds r (a ++ z)).high ≡ true
unfolding folds step_on rises
high_complete [] z r inv h = high_stays r z (inv h)
high_complete (v ∷ a) z r inv h = high_complete a z (step_on r v) (λ e. rw e (or-true r.high)) h

-- answer 12: exactly where some height is over 160
pub high_decides : (vs : List View) → ((folds at_start vs).high ≡ true) ↔ SomeHigh vs
high_decides vs = (to, from)
  where
    to : (folds at_start vs).high ≡ true → SomeHigh vs
    to e = go (high_sound at_start vs e)
      where
        go : (false ≡ true) ⊎ ((a : List View) × (z : List View) × (vs ≡ a ++ z) × (lt_z (pos 160) (rises (pos 0) a) ≡ true)) → SomeHigh vs
        go (inl h) = absurd (let no_way : ◌≡◌ {A = ℕ} 0 1 = cc in omega arith)
        go (inr w) = (w.0, w.1, w.2, ap (lt_z (pos 160)) (sym (rises_is w.0)) ∙ w.3)

    from : SomeHigh vs → (folds at_start vs).high ≡ true
    from w =
        ap (λ (l : List View). (folds at_start l).high) w.2
        ∙ high_complete w.0 w.1 at_start (λ e. absurd (let no_way : ◌≡◌ {A = ℕ} 0 1 = cc in omega arith)) (ap (lt_z (pos 160)) (rises_is w.0) ∙ w.3)

-- ---- milestones

pub never {ℓ} : {A : Type ℓ} → false ≡ true → A
never e = absurd (let no_way : ◌≡◌ {A = ℕ} 0 1 = cc in omega arith)

unfoldable pub pair_fold : Pairs → List View → Pairs
pair_fold p [] = p
pair_fold p (v ∷ vs) = pair_fold (pair_up p v) vs

pub pairs_of : (r : Run) (vs : List View) → (folds r vs).pairs ≡ pair_fold r.pairs vs
unfolding folds pair_fold step_on
pairs_of r [] = refl
pairs_of r (v ∷ vs) = pairs_of (step_on r v) vs

-- what one tag does where nothing was amiss
pub record Onward (p : Pairs) (v : View) (q : Pairs) : Type 0 where
  pub right : q.amiss ≡ false
  pub chapters : q.chapters ≡ p.chapters + starts_in 3 (v ∷ [])
  pub verses : q.verses ≡ p.verses + starts_in 4 (v ∷ [])
  pub chapter : q.chapter ≡ since 3 p.chapter v
  pub verse : q.verse ≡ since 4 p.verse v

pub since-other : (k : ℕ) (h : Held) (n : ℕ) (m : Mark) → (n ≡ k → ⊥) → since k h (single n m) ≡ h
unfolding since
since-other k h n bare e = refl
since-other k h n plain e = refl
since-other k h n other e = refl
since-other k h n (start i) e = rw (ne_eqb n k e)
since-other k h n (ends i) e = rw (ne_eqb n k e)

pub starts_other : (k n : ℕ) (m : Mark) → (n ≡ k → ⊥) → starts_in k (single n m ∷ []) ≡ 0
unfolding starts_in
starts_other k n bare e = refl
starts_other k n plain e = refl
starts_other k n other e = refl
starts_other k n (start i) e = rw (ne_eqb n k e)
starts_other k n (ends i) e = refl

pub starts_more : (k : ℕ) (v : View) (vs : List View) → starts_in k (v ∷ vs) ≡ starts_in k (v ∷ []) + starts_in k vs
unfolding starts_in
starts_more k words vs = omega arith
starts_more k (opened n) vs = omega arith
starts_more k (closed n) vs = omega arith
starts_more k (single n bare) vs = omega arith
starts_more k (single n plain) vs = omega arith
starts_more k (single n other) vs = omega arith
starts_more k (single n (start i)) vs = go (eqb n k)
  where
    go : (t : Bool) → cond t (suc (starts_in k vs)) (starts_in k vs) ≡ cond t 1 0 + starts_in k vs
    go true = omega arith
    go false = omega arith
starts_more k (single n (ends i)) vs = omega arith

shut_is : (x : Held) → is_shut x ≡ true → x ≡ shut
unfolding is_shut
shut_is shut e = refl
shut_is (held i) e = never e

module _ (p : Pairs) (h : p.amiss ≡ false) where
  chapter_to : (m : Mark) → p.verse ≡ shut → pair_up p (single 3 m) ≡ chapter_to_of p (turn p.chapter m)
  unfolding pair_up is_shut
  chapter_to m c = ap (λ (z : Held). cond (is_shut z) (chapter_to_of p (turn p.chapter m)) (missed p)) c

  pub fits_on : {v : View} → Fits p.chapter p.verse v → Onward p v (pair_up p v)
  unfolding pair_up since is_milestone turn chapter_to_of verse_to starts_in
  fits_on of_words = record { right = h; chapters = omega arith; verses = omega arith; chapter = refl; verse = refl }
  fits_on (of_open {n} a c) = rw (ne_eqb n 3 a, ne_eqb n 4 c) (record { right = h; chapters = omega arith; verses = omega arith; chapter = refl; verse = refl })
  fits_on (of_close {n} a c) = rw (ne_eqb n 3 a, ne_eqb n 4 c) (record { right = h; chapters = omega arith; verses = omega arith; chapter = refl; verse = refl })
  fits_on (of_single {n} {m} a c) =
      rw (ne_eqb n 3 a, ne_eqb n 4 c) (record { right = h; chapters = omega (arith, starts_other 3 n m a); verses = omega (arith, starts_other 4 n m c); chapter = sym (since-other 3 p.chapter n m a); verse = sym (since-other 4 p.verse n m c) })
  fits_on (chapter_start {i} a c) =
      subst (Onward p (single 3 (start i))) (sym (chapter_to (start i) c ∙ ap (λ (z : Held). chapter_to_of p (turn z (start i))) a))
      (record { right = h; chapters = omega arith; verses = omega arith; chapter = refl; verse = refl })
  fits_on (chapter_end {i} a c) =
      subst (Onward p (single 3 (ends i)))
      (sym (chapter_to (ends i) c ∙ ap (λ (z : Held). chapter_to_of p (turn z (ends i))) a ∙ ap (λ (z : Bool). chapter_to_of p (cond z ended wrong)) (same_refl i)))
      (record { right = h; chapters = omega arith; verses = omega arith; chapter = refl; verse = refl })
  fits_on (verse_start {i} a) =
      subst (Onward p (single 4 (start i))) (sym (ap (λ (z : Held). verse_to p (turn z (start i))) a)) (record { right = h; chapters = omega arith; verses = omega arith; chapter = refl; verse = refl })
  fits_on (verse_end {i} a) =
      subst (Onward p (single 4 (ends i)))
      (sym (ap (λ (z : Held). verse_to p (turn z (ends i))) a ∙ ap (λ (z : Bool). verse_to p (cond z ended wrong)) (same_refl i)))
      (record { right = h; chapters = omega arith; verses = omega arith; chapter = refl; verse = refl })

  -- a tag that leaves nothing amiss fits
  fits-turn : (x : Held) (m : Mark) (F : View → Type 0) (n : ℕ) → ((i : List ℕ) → x ≡ shut → m ≡ start i → F (single n m)) → ((i : List ℕ) → x ≡ held i → m ≡ ends i → F (single n m))
      → (turn x m ≡ wrong → ⊥) → F (single n m)
  unfolding turn
  fits-turn x bare F n s e l = absurd (l refl)
  fits-turn x plain F n s e l = absurd (l refl)
  fits-turn x other F n s e l = absurd (l refl)
  fits-turn shut (start i) F n s e l = s i refl refl
  fits-turn (held j) (start i) F n s e l = absurd (l refl)
  fits-turn shut (ends i) F n s e l = absurd (l refl)
  fits-turn (held j) (ends i) F n s e l = go (same j i) refl l
    where
      go : (z : Bool) → same j i ≡ z → (cond z ended wrong ≡ wrong → ⊥) → F (single n (ends i))
      go true q l = e i (ap held (same_true j i q)) refl
      go false q l = absurd (l refl)

  miss : (missed p).amiss ≡ false → ⊥
  unfolding missed
  miss e = never (sym e)

  tag_fits : (n : ℕ) (z : Bool) → is_milestone n ≡ z → (cond z (missed p) p).amiss ≡ false → (n ≡ 3 → ⊥) × (n ≡ 4 → ⊥)
  unfolding is_milestone
  tag_fits n true i e = absurd (miss e)
  tag_fits n false i e = (λ a. never (sym i ∙ rw (eq-eqb n 3 a)), λ a. never (sym i ∙ rw (eq-eqb n 4 a) (or-true (eqb n 3))))

  on_fits : (v : View) → (pair_up p v).amiss ≡ false → Fits p.chapter p.verse v
  unfolding pair_up chapter_to_of verse_to
  on_fits words e = of_words
  on_fits (opened n) e = let w = tag_fits n (is_milestone n) refl e in of_open w.0 w.1
  on_fits (closed n) e = let w = tag_fits n (is_milestone n) refl e in of_close w.0 w.1
  on_fits (single n m) e = go (eqb n 3) refl (is_shut p.verse) refl (eqb n 4) refl e
    where
      F : View → Type 0
      F = Fits p.chapter p.verse

      go : (x : Bool) → eqb n 3 ≡ x → (y : Bool) → is_shut p.verse ≡ y → (z : Bool) → eqb n 4 ≡ z
          → (cond x (cond y (chapter_to_of p (turn p.chapter m)) (missed p)) (cond z (verse_to p (turn p.verse m)) p)).amiss ≡ false → F (single n m)
      go true i true j z k l =
          let two : n ≡ 3 = eqb-true n 3 i in
          let v : p.verse ≡ shut = shut_is p.verse j in
          fits-turn p.chapter m F n (λ id a q. rw (two, q) (chapter_start a v)) (λ id a q. rw (two, q) (chapter_end a v)) (λ w. miss (sym (ap (λ (t : Turned). (chapter_to_of p t).amiss) w) ∙ l))
      go true i false j z k l = absurd (miss l)
      go false i y j true k l =
          let three : n ≡ 4 = eqb-true n 4 k in
          fits-turn p.verse m F n (λ id a q. rw (three, q) (verse_start a)) (λ id a q. rw (three, q) (verse_end a)) (λ w. miss (sym (ap (λ (t : Turned). (verse_to p t).amiss) w) ∙ l))
      go false i y j false k l = of_single (eqb-false n 3 i) (eqb-false n 4 k)

-- ---- at every place

chapter-still : (p : Pairs) (t : Turned) → p.amiss ≡ true → (chapter_to_of p t).amiss ≡ true
unfolding chapter_to_of missed
chapter-still p (begun i) e = e
chapter-still p ended e = e
chapter-still p wrong e = refl

verse-still : (p : Pairs) (t : Turned) → p.amiss ≡ true → (verse_to p t).amiss ≡ true
unfolding verse_to missed
verse-still p (begun i) e = e
verse-still p ended e = e
verse-still p wrong e = refl

still_amiss : (p : Pairs) (v : View) → p.amiss ≡ true → (pair_up p v).amiss ≡ true
unfolding pair_up missed
still_amiss p words e = e
still_amiss p (opened n) e = still (is_milestone n)
  where
    still : (z : Bool) → (cond z (missed p) p).amiss ≡ true
    still true = refl
    still false = e
still_amiss p (closed n) e = still (is_milestone n)
  where
    still : (z : Bool) → (cond z (missed p) p).amiss ≡ true
    still true = refl
    still false = e
still_amiss p (single n m) e = still (eqb n 3) (is_shut p.verse) (eqb n 4)
  where
    still : (x y z : Bool) → (cond x (cond y (chapter_to_of p (turn p.chapter m)) (missed p)) (cond z (verse_to p (turn p.verse m)) p)).amiss ≡ true
    still true true z = chapter-still p (turn p.chapter m) e
    still true false z = refl
    still false y true = verse-still p (turn p.verse m) e
    still false y false = e

amiss_stays : (p : Pairs) (vs : List View) → p.amiss ≡ true → (pair_fold p vs).amiss ≡ true
unfolding pair_fold
amiss_stays p [] e = e
amiss_stays p (v ∷ vs) e = amiss_stays (pair_up p v) vs (still_amiss p v e)

abbrev AtPlaces : Pairs → List View → Type 0
AtPlaces p vs = (a : List View) (v : View) (z : List View) → vs ≡ a ++ v ∷ z → Fits (open_behind 3 p.chapter a) (open_behind 4 p.verse a) v

record Right (p : Pairs) (vs : List View) : Type 0 where
  pub right : (pair_fold p vs).amiss ≡ false
  pub chapters : (pair_fold p vs).chapters ≡ p.chapters + starts_in 3 vs
  pub verses : (pair_fold p vs).verses ≡ p.verses + starts_in 4 vs
  pub chapter : (pair_fold p vs).chapter ≡ open_behind 3 p.chapter vs
  pub verse : (pair_fold p vs).verse ≡ open_behind 4 p.verse vs

onward_right : (p : Pairs) (v : View) (vs : List View) → Onward p v (pair_up p v) → Right (pair_up p v) vs → Right p (v ∷ vs)
unfolding pair_fold open_behind
onward_right p v vs o r =
    record {
      right = r.right;
      chapters = omega (arith, r.chapters, o.chapters, starts_more 3 v vs);
      verses = omega (arith, r.verses, o.verses, starts_more 4 v vs);
      chapter = r.chapter ∙ ap (λ (z : Held). open_behind 3 z vs) o.chapter;
      verse = r.verse ∙ ap (λ (z : Held). open_behind 4 z vs) o.verse;
    }

-- nothing is amiss behind the first tag, if nothing is at the end
first : (p : Pairs) (v : View) (vs : List View) → (pair_fold (pair_up p v) vs).amiss ≡ false → (pair_up p v).amiss ≡ false
first p v vs e = go (pair_up p v).amiss refl
  where
    go : (t : Bool) → (pair_up p v).amiss ≡ t → (pair_up p v).amiss ≡ false
    go false i = i
    go true i = never (sym e ∙ amiss_stays (pair_up p v) vs i)

places_right : (p : Pairs) (vs : List View) → p.amiss ≡ false → AtPlaces p vs → Right p vs
unfolding pair_fold open_behind starts_in
places_right p [] h at = record { right = h; chapters = omega arith; verses = omega arith; chapter = refl; verse = refl }
places_right p (v ∷ vs) h at =
    let o : Onward p v (pair_up p v) = fits_on p h (at [] v vs refl) in
    onward_right p v vs o
    (places_right (pair_up p v) vs o.right
    (λ a w z e. rw (o.chapter, o.verse) (at (v ∷ a) w z (ap (λ (l : List View). v ∷ l) e))))

right_places : (p : Pairs) (vs : List View) → p.amiss ≡ false → (pair_fold p vs).amiss ≡ false → AtPlaces p vs
unfolding pair_fold open_behind
right_places p [] h e [] v z i = absurd (let no_way : ◌≡◌ {A = ℕ} 0 1 = cc in omega arith)
right_places p [] h e (u ∷ a) v z i = absurd (let no_way : ◌≡◌ {A = ℕ} 0 1 = cc in omega arith)
right_places p (w ∷ vs) h e [] v z i =
    let j : w ≡ v = cc in
    subst (Fits p.chapter p.verse) j (on_fits p h w (first p w vs e))
right_places p (w ∷ vs) h e (u ∷ a) v z i =
    let j : w ≡ u = cc in
    let k : vs ≡ a ++ v ∷ z = cc in
    let o : Onward p w (pair_up p w) = fits_on p h (on_fits p h w (first p w vs e)) in
    rw (← j, ← o.chapter, ← o.verse) (right_places (pair_up p w) vs o.right e a v z k)

-- answer 14 is not given: exactly where the milestones are right
pub milestones_decide : (vs : List View) → (paired_off (folds at_start vs).pairs ≡ true) ↔ Milestones vs
unfolding paired_off is_shut
milestones_decide vs = (to, from)
  where
    p₀ : Pairs
    p₀ = at_start.pairs

    is : (folds at_start vs).pairs ≡ pair_fold p₀ vs
    is = pairs_of at_start vs

    to : paired_off (folds at_start vs).pairs ≡ true → Milestones vs
    to e =
        let q : Pairs = pair_fold p₀ vs in
        let h = and-true (not q.amiss) (is_shut q.chapter && is_shut q.verse) (sym (ap paired_off is) ∙ e) in
        let l = and-true (is_shut q.chapter) (is_shut q.verse) h.1 in
        let at : AtPlaces p₀ vs = right_places p₀ vs refl (not-true q.amiss h.0) in
        let r : Right p₀ vs = places_right p₀ vs refl at in
        record {
          places = at;
          chapter = sym r.chapter ∙ shut_is q.chapter l.0;
          verse = sym r.verse ∙ shut_is q.verse l.1;
        }

    from : Milestones vs → paired_off (folds at_start vs).pairs ≡ true
    from m =
        let r : Right p₀ vs = places_right p₀ vs refl m.places in
        ap paired_off is ∙ rw (r.right, r.chapter ∙ m.chapter, r.verse ∙ m.verse)

-- where they are right, the counts are the numbers of start tags
pub milestones_counted : (vs : List View) → Milestones vs
    → ((folds at_start vs).pairs.chapters ≡ starts_in 3 vs) × ((folds at_start vs).pairs.verses ≡ starts_in 4 vs)
milestones_counted vs m =
    let r : Right at_start.pairs vs = places_right at_start.pairs vs refl m.places in
    let is : (folds at_start vs).pairs ≡ pair_fold at_start.pairs vs = pairs_of at_start vs in
    (omega (arith, r.chapters, ap (λ (p : Pairs). p.chapters) is), omega (arith, r.verses, ap (λ (p : Pairs). p.verses) is))
