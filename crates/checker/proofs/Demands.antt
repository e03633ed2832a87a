-- The milestones' rule by what is open behind a row, and in the words of demand 3: the same.
use mathlib.Core.Path.{◌≡◌, refl, sym, ap, ◌∙◌, subst}
use mathlib.Core.Bool.{Bool, true, false, cond}
use mathlib.Core.List.{List, [], ◌∷◌, ◌++◌, append_assoc}
use mathlib.Core.Logic.{◌↔◌, ◌⊎◌, inl, inr}
use Prim.Native.Nat.{ℕ}
use native.Mathlib.Omega.{arith}
use lib.Dec.{eqb}
use borrow.Author.Tests.{eq-eqb, eqb-true, eqb-false}
use Rattle.parts.specs.Bytes.{Bytes}
use Rattle.checker.specs.View.{start, ends, bare, plain, other, View, words, opened, closed, single}
use Rattle.checker.specs.Words.{Kind, Starts, Ends, None, Proper, p-words, p_open, p-close, p-other, p_start, p_end, HasEnd, HasStart, Demand}
use Rattle.checker.specs.Steps.{Held, shut, held}
use Rattle.checker.specs.Meaning.{since, open_behind, Fits, of_words, of_open, of_close, of_single, chapter_start, chapter_end, verse_start, verse_end, Milestones}

-- ---- rows

none-nil : (P : View → Type 0) → None P []
none-nil P [] v z e p = let no_way : ◌≡◌ {A = ℕ} 0 1 = cc in omega arith
none-nil P (u ∷ a) v z e p = let no_way : ◌≡◌ {A = ℕ} 0 1 = cc in omega arith

none-cons : (P : View → Type 0) (v : View) (vs : List View) → (P v → ⊥) → None P vs → None P (v ∷ vs)
none-cons P v vs h n [] w z e p = let i : v ≡ w = cc in h (subst P (sym i) p)
none-cons P v vs h n (u ∷ a) w z e p = let i : vs ≡ a ++ w ∷ z = cc in n a w z i p

none_rest : (P : View → Type 0) (v : View) (vs : List View) → None P (v ∷ vs) → None P vs
none_rest P v vs n a w z e p = n (v ∷ a) w z (ap (λ (l : List View). v ∷ l) e) p

-- ---- what a tag is to a kind

data Sort (k : ℕ) (v : View) : Type 0 where
  a_start : (i : Bytes) → v ≡ single k (start i) → Sort k v
  an_end : (i : Bytes) → v ≡ single k (ends i) → Sort k v
  neither : (Starts k v → ⊥) → (Ends k v → ⊥) → ((h : Held) → since k h v ≡ h) → Sort k v

other_tag {ℓ} : {A : Type ℓ} {v w : View} → v ≡ w → (v ≡ w → ◌≡◌ {A = ℕ} 0 1) → A
other_tag e f = absurd (let no_way : ◌≡◌ {A = ℕ} 0 1 = f e in omega arith)

sort : (k : ℕ) (v : View) → Sort k v
unfolding since
sort k words = neither (λ s. other_tag s.1 (λ e. cc)) (λ s. other_tag s.1 (λ e. cc)) (λ h. refl)
sort k (opened n) = neither (λ s. other_tag s.1 (λ e. cc)) (λ s. other_tag s.1 (λ e. cc)) (λ h. refl)
sort k (closed n) = neither (λ s. other_tag s.1 (λ e. cc)) (λ s. other_tag s.1 (λ e. cc)) (λ h. refl)
sort k (single n bare) = neither (λ s. other_tag s.1 (λ e. cc)) (λ s. other_tag s.1 (λ e. cc)) (λ h. refl)
sort k (single n plain) = neither (λ s. other_tag s.1 (λ e. cc)) (λ s. other_tag s.1 (λ e. cc)) (λ h. refl)
sort k (single n other) = neither (λ s. other_tag s.1 (λ e. cc)) (λ s. other_tag s.1 (λ e. cc)) (λ h. refl)
sort k (single n (start i)) = go (eqb n k) refl
  where
    go : (t : Bool) → eqb n k ≡ t → Sort k (single n (start i))
    go true e = a_start i (ap (λ (m : ℕ). single m (start i)) (eqb-true n k e))
    go false e =
        neither (λ s. eqb-false n k e (let j : n ≡ k = cc s.1 in j)) (λ s. other_tag s.1 (λ e. cc))
        (λ h. ap (λ (t : Bool). cond t (held i) h) e)
sort k (single n (ends i)) = go (eqb n k) refl
  where
    go : (t : Bool) → eqb n k ≡ t → Sort k (single n (ends i))
    go true e = an_end i (ap (λ (m : ℕ). single m (ends i)) (eqb-true n k e))
    go false e =
        neither (λ s. other_tag s.1 (λ e. cc)) (λ s. eqb-false n k e (let j : n ≡ k = cc s.1 in j))
        (λ h. ap (λ (t : Bool). cond t shut h) e)

since_start : (k : ℕ) (h : Held) (i : Bytes) (v : View) → v ≡ single k (start i) → since k h v ≡ held i
unfolding since
since_start k h i v e = ap (since k h) e ∙ ap (λ (t : Bool). cond t (held i) h) (eq-eqb k k refl)

since_end : (k : ℕ) (h : Held) (i : Bytes) (v : View) → v ≡ single k (ends i) → since k h v ≡ shut
unfolding since
since_end k h i v e = ap (since k h) e ∙ ap (λ (t : Bool). cond t shut h) (eq-eqb k k refl)

-- ---- what is open behind a row

behind-append : (k : ℕ) (h : Held) (a z : List View) → open_behind k h (a ++ z) ≡ open_behind k (open_behind k h a) z
unfolding open_behind
behind-append k h [] z = refl
behind-append k h (v ∷ a) z = behind-append k (since k h v) a z

-- with neither starts nor ends nothing changes
quiet : (k : ℕ) (h : Held) (a : List View) → None (Starts k) a → None (Ends k) a → open_behind k h a ≡ h
unfolding open_behind
quiet k h [] s e = refl
quiet k h (v ∷ a) s e = go (sort k v) (λ g. quiet k g a (none_rest (Starts k) v a s) (none_rest (Ends k) v a e))
  where
    go : Sort k v → ((g : Held) → open_behind k g a ≡ g) → open_behind k (since k h v) a ≡ h
    go (a_start i x) f = absurd (s [] v a refl (i, x))
    go (an_end i x) f = absurd (e [] v a refl (i, x))
    go (neither x y same) f = f (since k h v) ∙ same h

-- with no start what is shut stays shut
stays_shut : (k : ℕ) (a : List View) → None (Starts k) a → open_behind k shut a ≡ shut
unfolding open_behind
stays_shut k [] s = refl
stays_shut k (v ∷ a) s = go (sort k v) (stays_shut k a (none_rest (Starts k) v a s))
  where
    go : Sort k v → open_behind k shut a ≡ shut → open_behind k (since k shut v) a ≡ shut
    go (a_start i x) f = absurd (s [] v a refl (i, x))
    go (an_end i x) f = ap (λ (h : Held). open_behind k h a) (since_end k shut i v x) ∙ f
    go (neither x y same) f = ap (λ (h : Held). open_behind k h a) (same shut) ∙ f

open_is : (k : ℕ) (h : Held) (i : Bytes) (a : List View) → HasStart k i a → open_behind k h a ≡ held i
unfolding open_behind
open_is k h i a w =
    ap (open_behind k h) w.here ∙ behind-append k h w.before (single k (start i) ∷ w.between)
    ∙ ap (λ (g : Held). open_behind k g w.between) (since_start k (open_behind k h w.before) i (single k (start i)) refl)
    ∙ quiet k (held i) w.between w.last w.no_end

no_held {ℓ} : {A : Type ℓ} {i : Bytes} → shut ≡ held i → A
no_held e = absurd (let no_way : ◌≡◌ {A = ℕ} 0 1 = cc in omega arith)

abbrev Still : ℕ → Held → Bytes → List View → Type 0
Still k h i a = (h ≡ held i) × None (Starts k) a × None (Ends k) a

open_says : (k : ℕ) (h : Held) (i : Bytes) (a : List View) → open_behind k h a ≡ held i → HasStart k i a ⊎ Still k h i a
unfolding open_behind
open_says k h i [] e = inr (e, none-nil (Starts k), none-nil (Ends k))
open_says k h i (v ∷ a) e = go (open_says k (since k h v) i a e) (sort k v)
  where
    G : Type 0
    G = HasStart k i (v ∷ a) ⊎ Still k h i (v ∷ a)

    go : HasStart k i a ⊎ Still k (since k h v) i a → Sort k v → G
    go (inl w) s =
        inl (record { before = v ∷ w.before; between = w.between; here = ap (λ (l : List View). v ∷ l) w.here; last = w.last; no_end = w.no_end })
    go (inr w) (a_start j x) =
        let same : held j ≡ held i = sym (since_start k h j v x) ∙ w.0 in
        let ji : j ≡ i = cc in
        inl (record { before = []; between = a; here = ap (λ (u : View). u ∷ a) (x ∙ ap (λ (z : Bytes). single k (start z)) ji); last = w.1; no_end = w.2 })
    go (inr w) (an_end j x) = no_held (sym (since_end k h j v x) ∙ w.0)
    go (inr w) (neither x y same) = inr (sym (same h) ∙ w.0, none-cons (Starts k) v a x w.1, none-cons (Ends k) v a y w.2)

-- open, or shut
open_start : (k : ℕ) (i : Bytes) (a : List View) → open_behind k shut a ≡ held i → HasStart k i a
open_start k i a e = go (open_says k shut i a e)
  where
    go : HasStart k i a ⊎ Still k shut i a → HasStart k i a
    go (inl w) = w
    go (inr w) = no_held w.0

shut_unless : (k : ℕ) (a : List View) → ((i : Bytes) → HasStart k i a → ⊥) → open_behind k shut a ≡ shut
shut_unless k a f = go (open_behind k shut a) refl
  where
    go : (h : Held) → open_behind k shut a ≡ h → open_behind k shut a ≡ shut
    go shut e = e
    go (held i) e = absurd (f i (open_start k i a e))

-- ---- what fits

module _ (c v : Held) (k : ℕ) (i : Bytes) where
  fits_start : (w : View) → Fits c v w → w ≡ single k (start i) → (k ≡ 3 → c ≡ shut) × (k ≡ 4 → v ≡ shut)
  fits_start words of_words e = other_tag e (λ e. cc)
  fits_start (opened n) (of_open x y) e = other_tag e (λ e. cc)
  fits_start (closed n) (of_close x y) e = other_tag e (λ e. cc)
  fits_start (single n m) (of_single x y) e = let nk : n ≡ k = cc in (λ q. absurd (x (nk ∙ q)), λ q. absurd (y (nk ∙ q)))
  fits_start (single n m) (chapter_start x y) e = let nk : 3 ≡ k = cc in (λ q. x, λ q. absurd (omega arith))
  fits_start (single n m) (chapter_end x y) e = other_tag e (λ e. cc)
  fits_start (single n m) (verse_start x) e = let nk : 4 ≡ k = cc in (λ q. absurd (omega arith), λ q. x)
  fits_start (single n m) (verse_end x) e = other_tag e (λ e. cc)

  fits_end : (w : View) → Fits c v w → w ≡ single k (ends i) → (k ≡ 3 → c ≡ held i) × (k ≡ 4 → v ≡ held i)
  fits_end words of_words e = other_tag e (λ e. cc)
  fits_end (opened n) (of_open x y) e = other_tag e (λ e. cc)
  fits_end (closed n) (of_close x y) e = other_tag e (λ e. cc)
  fits_end (single n m) (of_single x y) e = let nk : n ≡ k = cc in (λ q. absurd (x (nk ∙ q)), λ q. absurd (y (nk ∙ q)))
  fits_end (single n m) (chapter_start x y) e = other_tag e (λ e. cc)
  fits_end (single n m) (chapter_end {i = j} x y) e = let nk : 3 ≡ k = cc in let ji : j ≡ i = cc in (λ q. x ∙ ap held ji, λ q. absurd (omega arith))
  fits_end (single n m) (verse_start x) e = other_tag e (λ e. cc)
  fits_end (single n m) (verse_end {i = j} x) e = let nk : 4 ≡ k = cc in let ji : j ≡ i = cc in (λ q. absurd (omega arith), λ q. x ∙ ap held ji)

fits-apart : (c v : Held) (w : View) → Fits c v w → Starts 3 w ⊎ Ends 3 w → v ≡ shut
fits-apart c v words of_words (inl s) = other_tag s.1 (λ e. cc)
fits-apart c v words of_words (inr s) = other_tag s.1 (λ e. cc)
fits-apart c v (opened n) (of_open x y) (inl s) = other_tag s.1 (λ e. cc)
fits-apart c v (opened n) (of_open x y) (inr s) = other_tag s.1 (λ e. cc)
fits-apart c v (closed n) (of_close x y) (inl s) = other_tag s.1 (λ e. cc)
fits-apart c v (closed n) (of_close x y) (inr s) = other_tag s.1 (λ e. cc)
fits-apart c v (single n m) (of_single x y) (inl s) = let q : n ≡ 3 = cc s.1 in absurd (x q)
fits-apart c v (single n m) (of_single x y) (inr s) = let q : n ≡ 3 = cc s.1 in absurd (x q)
fits-apart c v (single n m) (chapter_start x y) s = y
fits-apart c v (single n m) (chapter_end x y) s = y
fits-apart c v (single n m) (verse_start x) (inl s) = let q : ◌≡◌ {A = ℕ} 4 3 = cc s.1 in absurd (omega arith)
fits-apart c v (single n m) (verse_start x) (inr s) = other_tag s.1 (λ e. cc)
fits-apart c v (single n m) (verse_end x) (inl s) = other_tag s.1 (λ e. cc)
fits-apart c v (single n m) (verse_end x) (inr s) = let q : ◌≡◌ {A = ℕ} 4 3 = cc s.1 in absurd (omega arith)

not_kind : (n : ℕ) → (n ≡ 3 → ⊥) → (n ≡ 4 → ⊥) → Kind n → ⊥
not_kind n x y (inl e) = x e
not_kind n x y (inr e) = y e

fits_proper : (c v : Held) (w : View) → Fits c v w → Proper w
fits_proper c v words of_words = p-words
fits_proper c v (opened n) (of_open x y) = p_open (not_kind n x y)
fits_proper c v (closed n) (of_close x y) = p-close (not_kind n x y)
fits_proper c v (single n m) (of_single x y) = p-other (not_kind n x y)
fits_proper c v (single n m) (chapter_start x y) = p_start (inl refl)
fits_proper c v (single n m) (chapter_end x y) = p_end (inl refl)
fits_proper c v (single n m) (verse_start x) = p_start (inr refl)
fits_proper c v (single n m) (verse_end x) = p_end (inr refl)

-- ---- from what is open to the words

-- of one kind: a start finds it shut, an end finds its own open
record Right (k : ℕ) (h : Held) (vs : List View) : Type 0 where
  pub at_start_lem : (a : List View) (i : Bytes) (z : List View) → vs ≡ a ++ single k (start i) ∷ z → open_behind k h a ≡ shut
  pub at_end : (a : List View) (i : Bytes) (z : List View) → vs ≡ a ++ single k (ends i) ∷ z → open_behind k h a ≡ held i
  pub at_last : open_behind k h vs ≡ shut

right_rest : (k : ℕ) (h : Held) (v : View) (vs : List View) → Right k h (v ∷ vs) → Right k (since k h v) vs
unfolding open_behind
right_rest k h v vs r =
    record {
      at_start_lem = λ a i z e. r.at_start_lem (v ∷ a) i z (ap (λ (l : List View). v ∷ l) e);
      at_end = λ a i z e. r.at_end (v ∷ a) i z (ap (λ (l : List View). v ∷ l) e);
      at_last = r.at_last;
    }

-- behind a row
right_behind : (k : ℕ) (h : Held) (a vs : List View) → Right k h (a ++ vs) → Right k (open_behind k h a) vs
unfolding open_behind
right_behind k h [] vs r = r
right_behind k h (v ∷ a) vs r = right_behind k (since k h v) a vs (right_rest k h v (a ++ vs) r)

held_shut {ℓ} : {A : Type ℓ} {i : Bytes} → held i ≡ shut → A
held_shut e = absurd (let no_way : ◌≡◌ {A = ℕ} 0 1 = cc in omega arith)

-- where the first tag of the kind is an end, it is the only one before the next start
ends_here : (k : ℕ) (i : Bytes) (v : View) (vs : List View) → v ≡ single k (ends i) → Right k (held i) (v ∷ vs) → HasEnd k i (v ∷ vs)
unfolding open_behind
ends_here k i v vs x r =
    record {
      between = [];
      after = vs;
      here = ap (λ (u : View). u ∷ vs) x;
      before_next = none-nil (Starts k);
      no_earlier = none-nil (Ends k);
      no_later = later;
    }
  where
    later : (m : List View) (u : View) (n : List View) → vs ≡ m ++ u ∷ n → Ends k u → None (Starts k) m → ⊥
    later m u n e w s =
        let behind : open_behind k (held i) (v ∷ m) ≡ held w.0 = r.at_end (v ∷ m) w.0 n (ap (λ (l : List View). v ∷ l) (e ∙ ap (λ (z : View). m ++ z ∷ n) w.1)) in
        let closed_by_lem : since k (held i) v ≡ shut = since_end k (held i) i v x in
        no_held (sym (stays_shut k m s) ∙ ap (λ (h : Held). open_behind k h m) (sym closed_by_lem) ∙ behind)

-- a tag of another sort in front changes nothing
ends-later : (k : ℕ) (i : Bytes) (v : View) (vs : List View) → (Starts k v → ⊥) → (Ends k v → ⊥) → HasEnd k i vs → HasEnd k i (v ∷ vs)
ends-later k i v vs ns ne w =
    record {
      between = v ∷ w.between;
      after = w.after;
      here = ap (λ (l : List View). v ∷ l) w.here;
      before_next = none-cons (Starts k) v w.between ns w.before_next;
      no_earlier = none-cons (Ends k) v w.between ne w.no_earlier;
      no_later = w.no_later;
    }

has_end : (k : ℕ) (i : Bytes) (vs : List View) → Right k (held i) vs → HasEnd k i vs
unfolding open_behind
has_end k i [] r = held_shut r.at_last
has_end k i (v ∷ vs) r = go (sort k v) (has_end k i vs)
  where
    go : Sort k v → (Right k (held i) vs → HasEnd k i vs) → HasEnd k i (v ∷ vs)
    go (a_start j x) f = held_shut (r.at_start_lem [] j vs (ap (λ (u : View). u ∷ vs) x))
    go (an_end j x) f =
        let same : held i ≡ held j = r.at_end [] j vs (ap (λ (u : View). u ∷ vs) x) in
        let ji : j ≡ i = cc in
        ends_here k i v vs (x ∙ ap (λ (z : Bytes). single k (ends z)) ji) r
    go (neither x y same) f = ends-later k i v vs x y (f (subst (λ (h : Held). Right k h vs) (same (held i)) (right_rest k (held i) v vs r)))

milestones_right : (vs : List View) → Milestones vs → (k : ℕ) → Kind k → Right k shut vs
milestones_right vs m k (inl e) =
    subst (λ (n : ℕ). Right n shut vs) (sym e)
    (record {
      at_start_lem = λ a i z p. (fits_start _ _ 3 i _ (m.places a (single 3 (start i)) z p) refl).0 refl;
      at_end = λ a i z p. (fits_end _ _ 3 i _ (m.places a (single 3 (ends i)) z p) refl).0 refl;
      at_last = m.chapter;
    })
milestones_right vs m k (inr e) =
    subst (λ (n : ℕ). Right n shut vs) (sym e)
    (record {
      at_start_lem = λ a i z p. (fits_start _ _ 4 i _ (m.places a (single 4 (start i)) z p) refl).1 refl;
      at_end = λ a i z p. (fits_end _ _ 4 i _ (m.places a (single 4 (ends i)) z p) refl).1 refl;
      at_last = m.verse;
    })

to_demand : (vs : List View) → Milestones vs → Demand vs
unfolding open_behind
to_demand vs m =
    record {
      form = λ a v z p. fits_proper _ _ v (m.places a v z p);
      starts = λ k kind a i z p.
          let r : Right k shut (a ++ single k (start i) ∷ z) = subst (Right k shut) p (milestones_right vs m k kind) in
          let q : Right k (open_behind k shut a) (single k (start i) ∷ z) = right_behind k shut a (single k (start i) ∷ z) r in
          has_end k i z (subst (λ (h : Held). Right k h z) (since_start k (open_behind k shut a) i (single k (start i)) refl) (right_rest k _ _ z q));
      ends = λ k kind a i z p. open_start k i a ((milestones_right vs m k kind).at_end a i z p);
      apart = λ a v z p c w. no_held (sym (fits-apart _ _ v (m.places a v z p) c) ∙ open_is 4 shut w.0 a w.1);
    }

-- ---- from the words to what is open

clash : (k : ℕ) (m c : List View) (s e : View) (z y : List View) → m ++ s ∷ z ≡ c ++ e ∷ y → Starts k s → Ends k e → None (Starts k) c → None (Ends k) m → ⊥
clash k [] [] s e z y p hs he n q =
    let no_way : ◌≡◌ {A = ℕ} 0 1 = cc (hs.1, he.1) in omega arith
clash k [] (u ∷ c) s e z y p hs he n q = let su : s ≡ u = cc in n [] u c refl (hs.0, sym su ∙ hs.1)
clash k (u ∷ m) [] s e z y p hs he n q = let ue : u ≡ e = cc in q [] u m refl (he.0, ue ∙ he.1)
clash k (u ∷ m) (w ∷ c) s e z y p hs he n q =
    let rest : m ++ s ∷ z ≡ c ++ e ∷ y = cc in
    clash k m c s e z y rest hs he (none_rest (Starts k) w c n) (none_rest (Ends k) u m q)

module _ (vs : List View) (d : Demand vs) where
  -- a start finds its kind shut
  demand_start : (k : ℕ) → Kind k → (a : List View) (i : Bytes) (z : List View) → vs ≡ a ++ single k (start i) ∷ z → open_behind k shut a ≡ shut
  demand_start k kind a i z p = shut_unless k a no
    where
      no : (j : Bytes) → HasStart k j a → ⊥
      no j w =
          let q : vs ≡ w.before ++ single k (start j) ∷ (w.between ++ single k (start i) ∷ z) =
          p ∙ ap (λ (l : List View). l ++ single k (start i) ∷ z) w.here ∙ append_assoc w.before (single k (start j) ∷ w.between) (single k (start i) ∷ z) in
          let h : HasEnd k j (w.between ++ single k (start i) ∷ z) = d.starts k kind w.before j _ q in
          clash k w.between h.between _ _ z h.after h.here (i, refl) (j, refl) h.before_next w.no_end

  demand_last : (k : ℕ) → Kind k → open_behind k shut vs ≡ shut
  demand_last k kind = shut_unless k vs no
    where
      no : (j : Bytes) → HasStart k j vs → ⊥
      no j w =
          let h : HasEnd k j w.between = d.starts k kind w.before j _ w.here in
          w.no_end h.between _ h.after h.here (j, refl)

  demand_apart : (a : List View) (v : View) (z : List View) → vs ≡ a ++ v ∷ z → Starts 3 v ⊎ Ends 3 v → open_behind 4 shut a ≡ shut
  demand_apart a v z p c = shut_unless 4 a (λ i w. d.apart a v z p c (i, w))

  demand_end : (k : ℕ) → Kind k → (a : List View) (i : Bytes) (z : List View) → vs ≡ a ++ single k (ends i) ∷ z → open_behind k shut a ≡ held i
  demand_end k kind a i z p = open_is k shut i a (d.ends k kind a i z p)

  start_fits : (k : ℕ) → Kind k → (a : List View) (i : Bytes) (z : List View) → vs ≡ a ++ single k (start i) ∷ z
      → Fits (open_behind 3 shut a) (open_behind 4 shut a) (single k (start i))
  start_fits k (inl e) a i z p =
      let q : vs ≡ a ++ single 3 (start i) ∷ z = p ∙ ap (λ (n : ℕ). a ++ single n (start i) ∷ z) e in
      subst (λ (n : ℕ). Fits (open_behind 3 shut a) (open_behind 4 shut a) (single n (start i))) (sym e)
      (chapter_start (demand_start 3 (inl refl) a i z q) (demand_apart a _ z q (inl (i, refl))))
  start_fits k (inr e) a i z p =
      let q : vs ≡ a ++ single 4 (start i) ∷ z = p ∙ ap (λ (n : ℕ). a ++ single n (start i) ∷ z) e in
      subst (λ (n : ℕ). Fits (open_behind 3 shut a) (open_behind 4 shut a) (single n (start i))) (sym e)
      (verse_start (demand_start 4 (inr refl) a i z q))

  end_fits : (k : ℕ) → Kind k → (a : List View) (i : Bytes) (z : List View) → vs ≡ a ++ single k (ends i) ∷ z
      → Fits (open_behind 3 shut a) (open_behind 4 shut a) (single k (ends i))
  end_fits k (inl e) a i z p =
      let q : vs ≡ a ++ single 3 (ends i) ∷ z = p ∙ ap (λ (n : ℕ). a ++ single n (ends i) ∷ z) e in
      subst (λ (n : ℕ). Fits (open_behind 3 shut a) (open_behind 4 shut a) (single n (ends i))) (sym e)
      (chapter_end (demand_end 3 (inl refl) a i z q) (demand_apart a _ z q (inr (i, refl))))
  end_fits k (inr e) a i z p =
      let q : vs ≡ a ++ single 4 (ends i) ∷ z = p ∙ ap (λ (n : ℕ). a ++ single n (ends i) ∷ z) e in
      subst (λ (n : ℕ). Fits (open_behind 3 shut a) (open_behind 4 shut a) (single n (ends i))) (sym e)
      (verse_end (demand_end 4 (inr refl) a i z q))

  proper_fits : (a : List View) (v : View) (z : List View) → vs ≡ a ++ v ∷ z → Proper v → Fits (open_behind 3 shut a) (open_behind 4 shut a) v
  proper_fits a words z p p-words = of_words
  proper_fits a (opened n) z p (p_open h) = of_open (λ e. h (inl e)) (λ e. h (inr e))
  proper_fits a (closed n) z p (p-close h) = of_close (λ e. h (inl e)) (λ e. h (inr e))
  proper_fits a (single n m) z p (p-other h) = of_single (λ e. h (inl e)) (λ e. h (inr e))
  proper_fits a (single k m) z p (p_start {i = i} kind) = start_fits k kind a i z p
  proper_fits a (single k m) z p (p_end {i = i} kind) = end_fits k kind a i z p

  from_demand : Milestones vs
  from_demand =
      record {
        places = λ a v z p. proper_fits a v z p (d.form a v z p);
        chapter = demand_last 3 (inl refl);
        verse = demand_last 4 (inr refl);
      }

-- the milestones' rule in the words of demand 3
pub demand_exact : (vs : List View) → Milestones vs ↔ Demand vs
demand_exact vs = (to_demand vs, from_demand vs)
