-- Laws of figures: old or of today, fields between bars.
use mathlib.Core.Path.{◌≡◌, refl, sym, ap, ◌∙◌}
use mathlib.Core.Bool.{Bool, true, false, cond}
use mathlib.Core.List.{List, [], ◌∷◌}
use Prim.Native.Nat.{ℕ, suc, ◌+◌, ◌-◌, ◌≤◌, ◌<◌}
use native.Mathlib.Omega.{arith}
use lib.ListN.{length, get_or, take, drop}
use lib.Seq.{take_all}
use lib.Dec.{eqb, ltb}
use borrow.Author.Tests.{eq-eqb, ne_eqb, eqb-true, eqb-false, lt-ltb, le-ltb, ltb-true, ltb-false}
use Rattle.parts.specs.Bytes.{Bytes, b, part, begins, first_at, find}
use Rattle.words.specs.Words.{trim, onto}
use Rattle.words.specs.declared.Set.TheVariants.{Unicode}
use Rattle.tape.specs.File.{Tape, text_at_of}
use Rattle.tape.specs.Name.{strip}
use Rattle.tape.specs.Tree.{children, first_child, walk_from}
use Rattle.tape.specs.declared.Cursor.{Cursor}
use Rattle.tape.specs.Found.{Step}
use Rattle.std.specs.Prelude.{None, Some}
use Rattle.tape.proofs.Walk.{children_walk}
use Rattle.render.specs.First.{first_with}
use Rattle.render.specs.Shape.{is_attribute}
use Rattle.render.specs.Children.{first_text_of}
use Rattle.attrs.specs.Attr.{equals, has_equals}
use Rattle.figure.specs.Figure.{if_legacy, legacy_at, split, field_at, trimmed_text, described_by, valued}

-- ---- old or of today

module _ (t : Tape) (k : ℕ) {s f : Step} (es : s ≡ first_child t k) (fs : f ≡ first_with (is_attribute t) (walk_from t s)) where
  ef : f ≡ first_with (is_attribute t) (children t k)
  ef = fs ∙ ap (first_with (is_attribute t)) (children_walk t k es)

  pub legacy_none : f ≡ None → None ≡ legacy_at t k
  unfolding legacy_at if_legacy
  legacy_none e = sym (ap (if_legacy t) (sym ef ∙ e))

  module _ {a : Cursor} (e : f ≡ Some a) {x body : Bytes} {i : ℕ} (ex : x ≡ text_at_of t a.at) (eb : body ≡ strip 124 x) (ei : i ≡ find (b "=") body) where
    this : if_legacy t (Some a) ≡ legacy_at t k
    unfolding legacy_at
    this = ap (if_legacy t) (sym e ∙ ef)

    bodied : strip 124 (text_at_of t a.at) ≡ body
    bodied = sym (eb ∙ ap (strip 124) ex)

    pub legacy_today : i < length body → None ≡ legacy_at t k
    unfolding if_legacy has_equals equals
    legacy_today h = sym (rw (bodied, lt-ltb (find (b "=") body) (length body) (omega arith))) ∙ this

    pub legacy_found : length body ≤ i → Some a ≡ legacy_at t k
    unfolding if_legacy has_equals equals
    legacy_found h = sym (rw (bodied, le-ltb (find (b "=") body) (length body) (omega arith))) ∙ this

-- ---- fields

find-cons : (x y : ℕ) (s : Bytes) → find (x ∷ []) (y ∷ s) ≡ cond (eqb y x) 0 (suc (find (x ∷ []) s))
unfolding first_at begins
find-cons x y s = go (eqb y x) refl
  where
    go : (t : Bool) → eqb y x ≡ t → find (x ∷ []) (y ∷ s) ≡ cond t 0 (suc (find (x ∷ []) s))
    go true e = rw (eq-eqb x y (sym (eqb-true y x e)), first_at)
    go false e = rw (ne_eqb x y (λ z. eqb-false y x e (sym z)), first_at)

onto-cons : (y : ℕ) (w : Bytes) (ws : List Bytes) → onto (y ∷ []) (w ∷ ws) ≡ (y ∷ w) ∷ ws
unfolding onto
onto-cons y w ws = refl

-- up to the first such byte, and what follows it
split_here : (x : ℕ) (s : Bytes) → find (x ∷ []) s < length s → split x s ≡ take (find (x ∷ []) s) s ∷ split x (drop (find (x ∷ []) s + 1) s)
unfolding split
split_here x [] h = absurd (omega arith)
split_here x (y ∷ s) h = go (eqb y x) refl (λ l. split_here x s l)
  where
    go : (t : Bool) → eqb y x ≡ t → (find (x ∷ []) s < length s → split x s ≡ take (find (x ∷ []) s) s ∷ split x (drop (find (x ∷ []) s + 1) s))
        → split x (y ∷ s) ≡ take (find (x ∷ []) (y ∷ s)) (y ∷ s) ∷ split x (drop (find (x ∷ []) (y ∷ s) + 1) (y ∷ s))
    go true e f = let n : find (x ∷ []) (y ∷ s) ≡ 0 = find-cons x y s ∙ rw e in rw (n, e)
    go false e f =
        let n : find (x ∷ []) (y ∷ s) ≡ suc (find (x ∷ []) s) = find-cons x y s ∙ rw e in
        let m : suc (find (x ∷ []) s) + 1 ≡ suc (find (x ∷ []) s + 1) = omega arith in
        rw (n, e, m, f (omega arith)) (onto-cons y (take (find (x ∷ []) s) s) (split x (drop (find (x ∷ []) s + 1) s)))

split-last : (x : ℕ) (s : Bytes) → length s ≤ find (x ∷ []) s → split x s ≡ s ∷ []
unfolding split
split-last x [] h = refl
split-last x (y ∷ s) h = go (eqb y x) refl (λ l. split-last x s l)
  where
    go : (t : Bool) → eqb y x ≡ t → (length s ≤ find (x ∷ []) s → split x s ≡ s ∷ []) → split x (y ∷ s) ≡ (y ∷ s) ∷ []
    go true e f = absurd (let n : find (x ∷ []) (y ∷ s) ≡ 0 = find-cons x y s ∙ rw e in omega arith)
    go false e f =
        let n : find (x ∷ []) (y ∷ s) ≡ suc (find (x ∷ []) s) = find-cons x y s ∙ rw e in
        rw (e, f (omega arith)) (onto-cons y s [])

split-first : (x : ℕ) (s : Bytes) → get_or (split x s) 0 [] ≡ take (find (x ∷ []) s) s
split-first x s = go (ltb (find (x ∷ []) s) (length s)) refl
  where
    go : (t : Bool) → ltb (find (x ∷ []) s) (length s) ≡ t → get_or (split x s) 0 [] ≡ take (find (x ∷ []) s) s
    go true e = rw (split_here x s (ltb-true (find (x ∷ []) s) (length s) e))
    go false e =
        let h = ltb-false (find (x ∷ []) s) (length s) e in rw (split-last x s h) (sym (take_all (find (x ∷ []) s) s h))

module _ (r : Bytes) (left : ℕ) {w : Bytes} {i : ℕ} (ei : i ≡ find (b "|") r) (inv : get_or (split 124 r) left [] ≡ w) where
  pub field_here : left ≡ 0 → {x : Bytes} → x ≡ part r 0 i → x ≡ w
  field_here e ex = ex ∙ ap (λ (n : ℕ). take n r) ei ∙ sym (split-first 124 r) ∙ ap (λ (n : ℕ). get_or (split 124 r) n []) (sym e) ∙ inv

  one_less : (left ≡ 0 → ⊥) → left ≡ suc (left - 1)
  one_less h = omega arith

  pub field_short : (left ≡ 0 → ⊥) → length r ≤ i → {x : Bytes} → x ≡ part r 0 0 → x ≡ w
  field_short n h ex =
      let none : get_or (split 124 r) left [] ≡ [] = rw (split-last 124 r (omega arith), one_less n) in
      ex ∙ sym none ∙ inv

  second : {v : Bytes} {vs : List Bytes} (ws : List Bytes) → ws ≡ v ∷ vs → (left ≡ 0 → ⊥) → get_or ws left [] ≡ get_or vs (left - 1) []
  second {v} {vs} ws e n = ap (λ (z : List Bytes). get_or z left []) e ∙ ap (λ (k : ℕ). get_or (v ∷ vs) k []) (one_less n)

  pub field_on : (left ≡ 0 → ⊥) → i < length r → {u : Bytes} → u ≡ drop (i + 1) r → get_or (split 124 u) (left - 1) [] ≡ w
  field_on n h eu =
      let here : get_or (split 124 r) left [] ≡ get_or (split 124 (drop (find (124 ∷ []) r + 1) r)) (left - 1) [] = second (split 124 r) (split_here 124 r (omega arith)) n in
      ap (λ (z : Bytes). get_or (split 124 z) (left - 1) []) (eu ∙ ap (λ (k : ℕ). drop (k + 1) r) ei) ∙ sym here ∙ inv

pub field_trimmed : (t : Tape) (a n : ℕ) {x body f r : Bytes} → x ≡ text_at_of t a → body ≡ strip 124 x → f ≡ get_or (split 124 body) n [] → r ≡ trim Unicode f → r ≡ field_at t a n
unfolding field_at
field_trimmed t a n ex eb ef er = er ∙ rw (ef, eb, ex)

-- ---- the description

module _ (t : Tape) (k : ℕ) {f : Step} (ef : f ≡ first_text_of t k) where
  pub described_none : f ≡ None → {r : Bytes} → r ≡ [] → r ≡ described_by t k
  unfolding described_by trimmed_text
  described_none e er = er ∙ ap (trimmed_text t) (sym e ∙ ef)

  pub described_text : {c : Cursor} → f ≡ Some c → {x r : Bytes} → x ≡ text_at_of t c.at → r ≡ trim Unicode x → r ≡ described_by t k
  unfolding described_by trimmed_text
  described_text e ex er = er ∙ ap (trim Unicode) ex ∙ ap (trimmed_text t) (sym e ∙ ef)

-- ---- a pair unless its value is empty

pub valued-none : (key v : Bytes) → length v ≡ 0 → valued key v ≡ []
unfolding valued
valued-none key [] h = refl
valued-none key (x ∷ v) h = absurd (omega arith)

pub valued-some : (key v : Bytes) → (length v ≡ 0 → ⊥) → valued key v ≡ record { key = key; value = v } ∷ []
unfolding valued
valued-some key [] h = absurd (h refl)
valued-some key (x ∷ v) h = refl
