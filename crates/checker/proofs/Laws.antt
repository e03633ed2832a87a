-- Laws of attributes and tokens: what one step of the code reads.
use mathlib.Core.Path.{◌≡◌, refl, sym, ap, ◌∙◌, subst}
use mathlib.Core.Bool.{Bool, ◌&&◌}
use mathlib.Core.List.{List, [], ◌∷◌}
use lib.Dec.{eqb}
use lib.Pointwise.{pointwise}
use Rattle.std.specs.Prelude.{Option, Some, None}
use Rattle.checker.specs.declared.Tag.{Tag}
use Prim.Native.Nat.{ℕ, ◌+◌, ◌-◌, ◌≤◌}
use native.Mathlib.Omega.{arith}
use lib.ListN.{length, take, drop, length-drop}
use lib.Seq.{drop-drop}
use Rattle.parts.specs.Bytes.{Bytes, part, same}
use Rattle.tags.specs.Form.{Pair, Row, pair_at, pair_len, pair_of, more_pairs, pairs_row, head_at_of, tail_at, ended, tagged, headed, next}
use Rattle.std.specs.Prelude.{Option, Some, None}
use Rattle.tags.specs.declared.Head.{Head}
use Rattle.tags.specs.declared.Head.TheVariants.{Bad as BadHead, Words as WordsHead, Closing, Opening}
use Rattle.tags.specs.declared.Tail.{Tail}
use Rattle.tags.specs.declared.Tail.TheVariants.{Open, Empty, Neither}
use Rattle.tags.proofs.Laws.{pair_fits, pairs-by}
use Rattle.tags.proofs.Tokens.{Within, head_within, tail_len, tail-fits}
use Rattle.checker.specs.View.{Mark, bare, id_key_of, noted_by, noted, mark_on, words, opened, closed, single, view}
use Rattle.checker.specs.Code.{mark_in, bytes_of, view_in, sight, brief, sight_in}
use Rattle.checker.specs.declared.IdKey.{IdKey}
use Rattle.checker.specs.declared.Form.{Form}
use Rattle.checker.specs.declared.Tag.TheVariants.{Words, Opened, Closed, Single}

-- two slices are equal where their bytes are the same
pub pointwise_same : (a z : Bytes) → pointwise eqb a z ≡ same a z
unfolding same
pointwise_same [] [] = refl
pointwise_same [] (y ∷ z) = refl
pointwise_same (x ∷ a) [] = refl
pointwise_same (x ∷ a) (y ∷ z) = ap (λ (t : Bool). eqb x y && t) (pointwise_same a z)

-- ---- attributes

module _ (x : List ℕ) (i : ℕ) {s : List ℕ} (es : s ≡ drop i x) {p : Option (ℕ × ℕ)} (ep : p ≡ pair_at s) where
  here : pair_at (drop i x) ≡ p
  here = sym (ep ∙ ap pair_at es)

  module _ {k v : ℕ} (is : p ≡ Some (k, v)) where
    pub attrs_in : i + pair_len k v ≤ length x
    attrs_in = omega (arith, pair_fits (drop i x) k v (here ∙ is), length-drop i x)

    more : pairs_row (drop i x) ≡ more_pairs pairs_row (drop i x) (Some (k, v))
    more = pairs-by (drop i x) (Some (k, v)) (here ∙ is)

    pub attrs_rest : {r : List ℕ} → (pairs_row (drop i x)).rest ≡ r → (pairs_row (drop (i + pair_len k v) x)).rest ≡ r
    attrs_rest inv = rw (← drop-drop (pair_len k v) i x) (sym (ap (λ (a : Row). a.rest) more) ∙ inv)

    pub attrs_mark : (f : Form) {key : List ℕ} (g : Form) {m : Mark} → key ≡ part x (i + 1) k
        → ((z : List ℕ) → mark_in z g ≡ noted (mark_in z f) (record { key = key; value = bytes_of z (record { start = i + k + 3; len = v }) }))
        → mark_on (mark_in x f) (pairs_row (drop i x)).list ≡ m → mark_on (mark_in x g) (pairs_row (drop (i + pair_len k v) x)).list ≡ m
    unfolding mark_on
    attrs_mark f {key} g ek eg inv =
        let a : Pair = pair_of (drop i x) k v in
        let three : i + k + 3 ≡ i + (k + 3) = omega arith in
        let is_a : record { key = key; value = take v (drop (i + k + 3) x) } ≡ a =
        rw (ek, three, ← drop-drop (k + 3) i x, ← drop-drop 1 i x) in
        rw (← drop-drop (pair_len k v) i x, eg x, is_a) (sym (ap (λ (a : Row). mark_on (mark_in x f) a.list) more) ∙ inv)

  pub attrs_end : (f : Form) {r : List ℕ} {m : Mark} → p ≡ None → mark_on (mark_in x f) (pairs_row (drop i x)).list ≡ m → (pairs_row (drop i x)).rest ≡ r
      → (drop i x ≡ r) × (mark_in x f ≡ m)
  unfolding mark_on
  attrs_end f is em er =
      let none : pairs_row (drop i x) ≡ more_pairs pairs_row (drop i x) None = pairs-by (drop i x) None (here ∙ is) in
      (sym (ap (λ (a : Row). a.rest) none) ∙ er, sym (ap (λ (a : Row). mark_on (mark_in x f) a.list) none) ∙ em)

pub with_attr : {k : IdKey} (m : Mark) {n : Mark} (key v : List ℕ) → k ≡ id_key_of key → n ≡ noted_by m k v → n ≡ noted m (record { key = key; value = v })
unfolding noted
with_attr m key v e h = rw (← e) h

-- ---- tokens

-- behind the attributes
module _ (x : Bytes) (n at : ℕ) (f : Form) (e : ℕ)
    (a : (drop e x ≡ (pairs_row (drop at x)).rest) × (mark_in x f ≡ mark_on bare (pairs_row (drop at x)).list))
    {s : Bytes} (es : s ≡ drop e x) {t : Tail} (et : t ≡ tail_at s) where
  read_is : brief (tagged n (drop at x)) ≡ brief (ended n (pairs_row (drop at x)) t)
  unfolding tagged
  read_is = ap (λ (z : Tail). brief (ended n (pairs_row (drop at x)) z)) (sym (et ∙ ap tail_at (es ∙ a.0)))

  tail_long : tail_len t ≤ length x - e
  tail_long = omega (arith, subst (λ (z : Tail). tail_len z ≤ length s) (sym et) (tail-fits s), ap length es, length-drop e x)

  pub open_in : t ≡ Open → e + 1 ≤ length x
  open_in i = omega (arith, subst (λ (z : Tail). tail_len z ≤ length x - e) i tail_long)

  pub empty_in : t ≡ Empty → e + 3 ≤ length x
  empty_in i = omega (arith, subst (λ (z : Tail). tail_len z ≤ length x - e) i tail_long)

  pub tag_open : t ≡ Open → sight_in x (Some (Opened n, e + 1)) ≡ brief (tagged n (drop at x))
  unfolding sight_in view_in brief ended view
  tag_open i =
      ap (sight (opened n)) (sym (drop-drop 1 e x) ∙ ap (drop 1) a.0)
      ∙ sym (read_is ∙ ap (λ (z : Tail). brief (ended n (pairs_row (drop at x)) z)) i)

  pub tag_empty : t ≡ Empty → sight_in x (Some (Single n f, e + 3)) ≡ brief (tagged n (drop at x))
  unfolding sight_in view_in brief ended view
  tag_empty i =
      ap (λ (m : Mark). sight (single n m) (drop (e + 3) x)) a.1
      ∙ ap (sight (single n (mark_on bare (pairs_row (drop at x)).list))) (sym (drop-drop 3 e x) ∙ ap (drop 3) a.0)
      ∙ sym (read_is ∙ ap (λ (z : Tail). brief (ended n (pairs_row (drop at x)) z)) i)

  pub tag_bad : t ≡ Neither → sight_in x None ≡ brief (tagged n (drop at x))
  unfolding sight_in brief ended
  tag_bad i = sym (read_is ∙ ap (λ (z : Tail). brief (ended n (pairs_row (drop at x)) z)) i)

-- at the front
module _ (x : Bytes) (at : ℕ) {s : Bytes} (es : s ≡ drop at x) {h : Head} (eh : h ≡ head_at_of s) where
  next_is : brief (next (drop at x)) ≡ brief (headed (drop at x) h)
  unfolding next
  next_is = ap (λ (z : Head). brief (headed (drop at x) z)) (sym (eh ∙ ap head_at_of es))

  within : Within (length x - at) h
  within = subst (Within (length x - at)) (sym eh) (subst (λ (n : ℕ). Within n (head_at_of s)) (ap length es ∙ length-drop at x) (head_within s))

  pub next_bad : h ≡ BadHead → sight_in x None ≡ brief (next (drop at x))
  unfolding sight_in brief headed
  next_bad i = sym (next_is ∙ ap (λ (z : Head). brief (headed (drop at x) z)) i)

  module _ {k : ℕ} where
    pub words_in : h ≡ WordsHead k → at + k ≤ length x
    words_in i = omega (arith, subst (Within (length x - at)) i within)

    pub next_words : h ≡ WordsHead k → sight_in x (Some (Words, at + k)) ≡ brief (next (drop at x))
    unfolding sight_in view_in brief headed view
    next_words i = ap (sight words) (sym (drop-drop k at x)) ∙ sym (next_is ∙ ap (λ (z : Head). brief (headed (drop at x) z)) i)

  module _ {n l : ℕ} where
    pub closing_in : h ≡ Closing n l → at + l ≤ length x
    closing_in i = omega (arith, subst (Within (length x - at)) i within)

    pub next_closing : h ≡ Closing n l → sight_in x (Some (Closed n, at + l)) ≡ brief (next (drop at x))
    unfolding sight_in view_in brief headed view
    next_closing i = ap (sight (closed n)) (sym (drop-drop l at x)) ∙ sym (next_is ∙ ap (λ (z : Head). brief (headed (drop at x) z)) i)

    pub opening_in : h ≡ Opening n l → at + l ≤ length x
    opening_in i = omega (arith, subst (Within (length x - at)) i within)

    pub next_opening : h ≡ Opening n l → (r : Option (Tag × ℕ)) → sight_in x r ≡ brief (tagged n (drop (at + l) x)) → sight_in x r ≡ brief (next (drop at x))
    unfolding headed
    next_opening i r z =
        z ∙ ap (λ (y : Bytes). brief (tagged n y)) (sym (drop-drop l at x)) ∙ sym (next_is ∙ ap (λ (z : Head). brief (headed (drop at x) z)) i)
