-- The rule of the tree, by what happened before each tag, and in document 01's words: the same.
use mathlib.Core.Path.{◌≡◌, refl, sym, ap, ◌∙◌, subst}
use mathlib.Core.Bool.{Bool, true, false, cond}
use mathlib.Core.List.{List, [], ◌∷◌, ◌++◌, append_assoc}
use mathlib.Core.Logic.{◌↔◌}
use Prim.Native.Nat.{ℕ, suc, ◌+◌, ◌≤◌}
use native.Mathlib.Omega.{arith}
use lib.Dec.{eqb}
use borrow.Author.Tests.{eqb-true}
use Rattle.checker.specs.View.{Mark, View, words, opened, closed, single}
use Rattle.checker.specs.Words.{still_open, usx_tags, UsxTree}
use Rattle.checker.specs.Meaning.{opens_usx, closes_usx, usx_opened_of, usx_closed_of, Grows, g_words, g_open, g_close, g_single, OneTree}
use Rattle.checker.proofs.Decides.{never}

other_tag {ℓ} : {A : Type ℓ} {v w : View} → v ≡ w → (v ≡ w → ◌≡◌ {A = ℕ} 0 1) → A
other_tag e f = absurd (let no_way : ◌≡◌ {A = ℕ} 0 1 = f e in omega arith)

-- ---- usx is opened once

tags-more : (v : View) (vs : List View) → usx_tags (v ∷ vs) ≡ usx_tags (v ∷ []) + usx_tags vs
unfolding usx_tags
tags-more words vs = omega arith
tags-more (opened n) vs = go (eqb n 1)
  where
    go : (t : Bool) → cond t (suc (usx_tags vs)) (usx_tags vs) ≡ cond t 1 0 + usx_tags vs
    go true = omega arith
    go false = omega arith
tags-more (closed n) vs = omega arith
tags-more (single n m) vs = omega arith

tags-append : (a z : List View) → usx_tags (a ++ z) ≡ usx_tags a + usx_tags z
unfolding usx_tags
tags-append [] z = omega arith
tags-append (v ∷ a) z = omega (arith, tags-more v (a ++ z), tags-more v a, tags-append a z)

-- by whether usx was opened before: opened behind a row, or not
opened_says : (u : Bool) (vs : List View) → usx_opened_of u vs ≡ true → u ≡ false → 1 ≤ usx_tags vs
unfolding usx_opened_of usx_tags opens_usx
opened_says u [] e h = never (sym h ∙ e)
opened_says u (words ∷ vs) e h = opened_says u vs e h
opened_says u (opened n ∷ vs) e h = go (eqb n 1) e (λ e. opened_says u vs e h)
  where
    go : (t : Bool) → usx_opened_of (cond t true u) vs ≡ true → (usx_opened_of u vs ≡ true → 1 ≤ usx_tags vs) → 1 ≤ cond t (suc (usx_tags vs)) (usx_tags vs)
    go true e f = omega arith
    go false e f = f e
opened_says u (closed n ∷ vs) e h = opened_says u vs e h
opened_says u (single n m ∷ vs) e h = opened_says u vs e h

opened_stays : (vs : List View) → usx_opened_of true vs ≡ true
unfolding usx_opened_of opens_usx
opened_stays [] = refl
opened_stays (words ∷ vs) = opened_stays vs
opened_stays (opened n ∷ vs) = go (eqb n 1) (opened_stays vs)
  where
    go : (t : Bool) → usx_opened_of true vs ≡ true → usx_opened_of (cond t true true) vs ≡ true
    go true f = f
    go false f = f
opened_stays (closed n ∷ vs) = opened_stays vs
opened_stays (single n m ∷ vs) = opened_stays vs

unopened_says : (vs : List View) → usx_opened_of false vs ≡ false → usx_tags vs ≡ 0
unfolding usx_opened_of usx_tags opens_usx
unopened_says [] e = refl
unopened_says (words ∷ vs) e = unopened_says vs e
unopened_says (opened n ∷ vs) e = go (eqb n 1) e (unopened_says vs)
  where
    go : (t : Bool) → usx_opened_of (cond t true false) vs ≡ false → (usx_opened_of false vs ≡ false → usx_tags vs ≡ 0) → cond t (suc (usx_tags vs)) (usx_tags vs) ≡ 0
    go true e f = never (sym e ∙ opened_stays vs)
    go false e f = f e
unopened_says (closed n ∷ vs) e = unopened_says vs e
unopened_says (single n m ∷ vs) e = unopened_says vs e

-- no tag opens usx where it was opened before
abbrev Once : Bool → List View → Type 0
Once u vs = (a z : List View) → vs ≡ a ++ opened 1 ∷ z → usx_opened_of u a ≡ false

once_rest : (u : Bool) (v : View) (vs : List View) → Once u (v ∷ vs) → Once (opens_usx u v) vs
unfolding usx_opened_of
once_rest u v vs o a z e = o (v ∷ a) z (ap (λ (l : List View). v ∷ l) e)

once_none : (vs : List View) → Once true vs → usx_tags vs ≡ 0
unfolding usx_tags usx_opened_of opens_usx
once_none [] o = refl
once_none (words ∷ vs) o = once_none vs (once_rest true words vs o)
once_none (opened n ∷ vs) o = go (eqb n 1) refl (once_none vs)
  where
    go : (t : Bool) → eqb n 1 ≡ t → (Once true vs → usx_tags vs ≡ 0) → cond t (suc (usx_tags vs)) (usx_tags vs) ≡ 0
    go true e f = never (sym (o [] vs (ap (λ (k : ℕ). opened k ∷ vs) (eqb-true n 1 e))))
    go false e f = f (subst (λ (u : Bool). Once u vs) (ap (λ (t : Bool). cond t true true) e) (once_rest true (opened n) vs o))
once_none (closed n ∷ vs) o = once_none vs (once_rest true (closed n) vs o)
once_none (single n m ∷ vs) o = once_none vs (once_rest true (single n m) vs o)

once_one : (vs : List View) → Once false vs → usx_opened_of false vs ≡ true → usx_tags vs ≡ 1
unfolding usx_tags usx_opened_of opens_usx
once_one [] o e = never e
once_one (words ∷ vs) o e = once_one vs (once_rest false words vs o) e
once_one (opened n ∷ vs) o e = go (eqb n 1) refl e (once_one vs)
  where
    go : (t : Bool) → eqb n 1 ≡ t → usx_opened_of (cond t true false) vs ≡ true → (Once false vs → usx_opened_of false vs ≡ true → usx_tags vs ≡ 1)
        → cond t (suc (usx_tags vs)) (usx_tags vs) ≡ 1
    go true i e f = ap suc (once_none vs (subst (λ (u : Bool). Once u vs) (ap (λ (t : Bool). cond t true false) i) (once_rest false (opened n) vs o)))
    go false i e f = f (subst (λ (u : Bool). Once u vs) (ap (λ (t : Bool). cond t true false) i) (once_rest false (opened n) vs o)) e
once_one (closed n ∷ vs) o e = once_one vs (once_rest false (closed n) vs o) e
once_one (single n m ∷ vs) o e = once_one vs (once_rest false (single n m) vs o) e

-- ---- nothing follows the close of usx

closed_append : (d : Bool) (a z : List View) → usx_closed_of d (a ++ z) ≡ usx_closed_of (usx_closed_of d a) z
unfolding usx_closed_of
closed_append d [] z = refl
closed_append d (v ∷ a) z = closed_append (closes_usx d v) a z

-- usx is closed behind a row only by a tag in it
closed_says : (d : Bool) (a : List View) → d ≡ false → usx_closed_of d a ≡ true → (c : List View) × (z : List View) × (a ≡ c ++ closed 1 ∷ z)
unfolding usx_closed_of closes_usx
closed_says d [] h e = never (sym h ∙ e)
closed_says d (words ∷ a) h e = let w = closed_says d a h e in (words ∷ w.0, w.1, ap (λ (l : List View). words ∷ l) w.2)
closed_says d (opened n ∷ a) h e = let w = closed_says d a h e in (opened n ∷ w.0, w.1, ap (λ (l : List View). opened n ∷ l) w.2)
closed_says d (closed n ∷ a) h e = go (eqb n 1) refl e (closed_says d a h)
  where
    go : (t : Bool) → eqb n 1 ≡ t → usx_closed_of (cond t true d) a ≡ true → (usx_closed_of d a ≡ true → (c : List View) × (z : List View) × (a ≡ c ++ closed 1 ∷ z))
        → (c : List View) × (z : List View) × (closed n ∷ a ≡ c ++ closed 1 ∷ z)
    go true i e f = ([], a, ap (λ (k : ℕ). closed k ∷ a) (eqb-true n 1 i))
    go false i e f = let w = f e in (closed n ∷ w.0, w.1, ap (λ (l : List View). closed n ∷ l) w.2)
closed_says d (single n m ∷ a) h e = let w = closed_says d a h e in (single n m ∷ w.0, w.1, ap (λ (l : List View). single n m ∷ l) w.2)

-- ---- what grows

grows_closed : (st : List ℕ) (u : Bool) (n : ℕ) (v : View) → Grows st u v → v ≡ closed n → (ms : List ℕ) × (st ≡ n ∷ ms)
grows_closed st u n words g_words e = other_tag e (λ e. cc)
grows_closed st u n (opened k) (g_open h) e = other_tag e (λ e. cc)
grows_closed st u n (closed k) (g_close {ms = ms} h) e = let kn : k ≡ n = cc in (ms, h ∙ ap (λ (i : ℕ). i ∷ ms) kn)
grows_closed st u n (single k m) (g_single h) e = other_tag e (λ e. cc)

grows_open : (st : List ℕ) (u : Bool) (v : View) → Grows st u v → v ≡ opened 1 → u ≡ false
grows_open st u words g_words e = other_tag e (λ e. cc)
grows_open st u (opened k) (g_open h) e = let k1 : k ≡ 1 = cc in h k1
grows_open st u (closed k) (g_close h) e = other_tag e (λ e. cc)
grows_open st u (single k m) (g_single h) e = other_tag e (λ e. cc)

grows_single : (st : List ℕ) (u : Bool) (n : ℕ) (w : Mark) (v : View) → Grows st u v → v ≡ single n w → n ≡ 1 → ⊥
grows_single st u n w words g_words e i = other_tag e (λ e. cc)
grows_single st u n w (opened k) (g_open h) e i = other_tag e (λ e. cc)
grows_single st u n w (closed k) (g_close h) e i = other_tag e (λ e. cc)
grows_single st u n w (single k m) (g_single h) e i = let kn : k ≡ n = cc in h (kn ∙ i)

to_usx : (vs : List View) → OneTree vs → UsxTree vs
to_usx vs o =
    record {
      closing = λ a n z e. grows_closed _ _ n _ (o.places a (closed n) z e).1 refl;
      none = o.none;
      one = once_one vs (λ a z e. grows_open _ _ _ (o.places a (opened 1) z e).1 refl) o.opened;
      no_empty = λ a m z e. grows_single _ _ 1 m _ (o.places a (single 1 m) z e).1 refl refl;
      last = last;
    }
  where
    last : (a z : List View) → vs ≡ a ++ closed 1 ∷ z → z ≡ []
    last a [] e = refl
    last a (v ∷ z) e =
        let p : vs ≡ (a ++ closed 1 ∷ []) ++ v ∷ z = e ∙ sym (append_assoc a (closed 1 ∷ []) (v ∷ z)) in
        never (sym (o.places (a ++ closed 1 ∷ []) v z p).0 ∙ closed_append false a (closed 1 ∷ []) ∙ (unfold usx_closed_of closes_usx in refl))

module _ (vs : List View) (t : UsxTree vs) where
  unclosed : (a : List View) (v : View) (z : List View) → vs ≡ a ++ v ∷ z → usx_closed_of false a ≡ false
  unclosed a v z e = go (usx_closed_of false a) refl
    where
      go : (x : Bool) → usx_closed_of false a ≡ x → usx_closed_of false a ≡ false
      go false i = i
      go true i =
          let w = closed_says false a refl i in
          let p : vs ≡ w.0 ++ closed 1 ∷ (w.1 ++ v ∷ z) = e ∙ ap (λ (l : List View). l ++ v ∷ z) w.2 ∙ append_assoc w.0 (closed 1 ∷ w.1) (v ∷ z) in
          absurd (no_end w.1 (t.last w.0 (w.1 ++ v ∷ z) p))
        where
          no_end : (c : List View) → c ++ v ∷ z ≡ [] → ⊥
          no_end [] i = let no_way : ◌≡◌ {A = ℕ} 0 1 = cc in omega arith
          no_end (u ∷ c) i = let no_way : ◌≡◌ {A = ℕ} 0 1 = cc in omega arith

  unopened : (a z : List View) → vs ≡ a ++ opened 1 ∷ z → usx_opened_of false a ≡ false
  unopened a z e = go (usx_opened_of false a) refl
    where
      go : (x : Bool) → usx_opened_of false a ≡ x → usx_opened_of false a ≡ false
      go false i = i
      go true i =
          let first : usx_tags (opened 1 ∷ []) ≡ 1 = unfold usx_tags in refl in
          absurd (omega (arith, opened_says false a i refl, ap usx_tags e, tags-append a (opened 1 ∷ z), tags-more (opened 1) z, t.one))

  grows : (a : List View) (v : View) (z : List View) → vs ≡ a ++ v ∷ z → Grows (still_open [] a) (usx_opened_of false a) v
  grows a words z e = g_words
  grows a (opened n) z e = g_open (λ i. unopened a z (e ∙ ap (λ (k : ℕ). a ++ opened k ∷ z) i))
  grows a (closed n) z e = let w = t.closing a n z e in g_close w.1
  grows a (single n m) z e = g_single (λ i. t.no_empty a m z (e ∙ ap (λ (k : ℕ). a ++ single k m ∷ z) i))

  from_usx : OneTree vs
  from_usx = record { places = λ a v z e. (unclosed a v z e, grows a v z e); opened = seen (usx_opened_of false vs) refl; none = t.none }
    where
      seen : (x : Bool) → usx_opened_of false vs ≡ x → usx_opened_of false vs ≡ true
      seen true i = i
      seen false i = absurd (omega (arith, unopened_says vs i, t.one))

-- one usx tree in document 01's words
pub usx_exact : (vs : List View) → OneTree vs ↔ UsxTree vs
usx_exact vs = (to_usx vs, from_usx vs)
