-- Attributes that the checker reads where wordy ones are written: they are the same, and what is written is legal.
use mathlib.Core.Path.{◌≡◌, refl, sym, ap, ◌∙◌, subst}
use mathlib.Core.Bool.{Bool, true, false, cond}
use mathlib.Core.List.{List, [], ◌∷◌, ◌++◌}
use Prim.Native.Nat.{ℕ, ◌<◌}
use native.Mathlib.Omega.{arith}
use lib.ListN.{length}
use Rattle.parts.specs.Bytes.{Bytes}
use Rattle.parts.proofs.Laws.{and-true}
use Rattle.chars.specs.Escape.{escape}
use Rattle.chars.proofs.Lists.{all}
use Rattle.tags.specs.Form.{Pair}
use Rattle.tags.specs.Write.{write_pair, write_pairs, Clean, CleanPair, CleanPairs, none as no_pair, more as more-pairs}
use Rattle.tags.specs.Items.{Attr, value_of, pairs_of_of, LegalAttrs, none as no_attr, more as more_attrs}
use Rattle.tags.specs.declared.Class.TheVariants.{Value, Key}
use Rattle.tags.proofs.Rendered.{escape_clean}
use Rattle.checker.proofs.Decides.{never}
use Rattle.exact.proofs.Reading.{tailed, stuck}
use Rattle.accepts.proofs.Spaces.{but}
use Rattle.accepts.proofs.Keys.{Own}
use Rattle.exact.proofs.Cuts.{not_in, Cut, even, longer, cut, cut_even, key_no_equals, key_no_end, value_no_quote, value_no_tag, stuck_word, stuck-text}

-- such a key, and no space in a raw value
pub record WordyAttr (a : Attr) : Type 0 where
  pub key : Own a.key
  pub value : a.raw ≡ true → all (but 32) a.value ≡ true

-- each of a row is wordy
pub data WordyAttrs : List Attr → Type 0 where
  none : WordyAttrs []
  more : {a : Attr} {qs : List Attr} → WordyAttr a → WordyAttrs qs → WordyAttrs (a ∷ qs)

-- ---- what stays stuck

-- a value and its quote in front of what is stuck
stuck_value : (a : Attr) (z : Bytes) → WordyAttr a → stuck false z ≡ true → stuck false (value_of a ++ 34 ∷ z) ≡ true
unfolding value_of stuck
stuck_value a z w h = go a.raw refl
  where
    go : (t : Bool) → a.raw ≡ t → stuck false (cond t a.value (escape true a.value) ++ 34 ∷ z) ≡ true
    go true e = stuck_word false 34 a.value z refl refl (w.value e) h
    go false e = stuck-text (escape true a.value) (34 ∷ z) (value_no_tag (escape true a.value) (escape_clean true a.value)) h

-- attributes and the end of their tag
stuck_tag : (qs : List Attr) (f : Bool) (r : Bytes) → WordyAttrs qs → stuck false (write_pairs (pairs_of_of qs) (tailed f r)) ≡ true
unfolding pairs_of_of write_pairs write_pair stuck
stuck_tag [] false r none = refl
stuck_tag [] true r none = refl
stuck_tag (a ∷ qs) f r (more w ws) =
    stuck_word false 61 a.key (34 ∷ (value_of a ++ 34 ∷ write_pairs (pairs_of_of qs) (tailed f r))) refl refl w.key.space
    (stuck_value a (write_pairs (pairs_of_of qs) (tailed f r)) w (stuck_tag qs f r ws))

-- ---- reading

-- a key that begins where ` />` could stand
slash : (k z r : Bytes) → 0 < length k → 47 ∷ 62 ∷ r ≡ k ++ 61 ∷ z → (d : Bytes) × (k ≡ 47 ∷ 62 ∷ d) × (r ≡ d ++ 61 ∷ z)
slash [] z r h e = absurd (omega arith)
slash (x ∷ []) z r h e = absurd (let i : ◌≡◌ {A = ℕ} 62 61 = cc in omega arith)
slash (x ∷ y ∷ d) z r h e = (d, cc, cc)

-- what is read is what is written
pub record Fitted (qs : List Attr) (ps : List Pair) (e f : Bool) (z r : Bytes) : Type 0 where
  pub legal : LegalAttrs qs
  pub pairs : ps ≡ pairs_of_of qs
  pub ends : e ≡ f
  pub rest : z ≡ r

-- one attribute more
fitted_more : (a : Attr) (qs : List Attr) (p : Pair) (ps : List Pair) (e f : Bool) (z r : Bytes) → WordyAttr a → CleanPair p
    → p.key ≡ a.key → p.value ≡ value_of a → Fitted qs ps e f z r → Fitted (a ∷ qs) (p ∷ ps) e f z r
unfolding pairs_of_of value_of
fitted_more a qs p ps e f z r w c i j h =
    record {
      legal = more_attrs {a = a} (record { some = w.key.some; key = subst (Clean Key) i c.key; value = λ t. subst (Clean Value) (j ∙ rw t) c.value }) h.legal;
      pairs = ap (λ (u : Pair). u ∷ ps) (same-pair i j) ∙ ap (λ (us : List Pair). record { key = a.key; value = value_of a } ∷ us) h.pairs;
      ends = h.ends;
      rest = h.rest;
    }
  where
    same-pair : p.key ≡ a.key → p.value ≡ value_of a → p ≡ record { key = a.key; value = value_of a }
    same-pair i j = rw (← i, ← j)

-- behind a part of a text and a byte
all-behind : (q : ℕ → Bool) (a : Bytes) (y : ℕ) (d : Bytes) → all q (a ++ y ∷ d) ≡ true → all q d ≡ true
unfolding all
all-behind q [] y d h = (and-true (q y) (all q d) h).1
all-behind q (x ∷ a) y d h = all-behind q a y d (and-true (q x) (all q (a ++ y ∷ d)) h).1

-- a space where none stands
no_space : (d w z : Bytes) → all (but 32) d ≡ true → 32 ∷ z ≡ d ++ 34 ∷ w → ⊥
unfolding all but
no_space [] w z h e = let i : ◌≡◌ {A = ℕ} 32 34 = cc in omega arith
no_space (x ∷ d) w z h e =
    let i : 32 ≡ x = cc in
    never (and-true (but 32 32) (all (but 32) d) (rw (← i) at h)).0

-- a value that is read as ended where none ends: what follows its tag is stuck
broken : (ps : List Pair) (e : Bool) (d w z : Bytes) → all (but 32) d ≡ true → stuck false w ≡ true → write_pairs ps (tailed e z) ≡ d ++ 34 ∷ w → stuck false z ≡ true
unfolding write_pairs write_pair all
broken [] false [] w z h g e = absurd (let i : ◌≡◌ {A = ℕ} 62 34 = cc in omega arith)
broken [] false (x ∷ d) w z h g e =
    let i : z ≡ d ++ 34 ∷ w = cc in
    rw i (stuck_word false 34 d w refl refl (and-true (but 32 x) (all (but 32) d) h).1 g)
broken [] true d w z h g e = absurd (no_space d w (47 ∷ 62 ∷ z) h e)
broken (p ∷ ps) e d w z h g i = absurd (no_space d w _ h i)

-- attributes that are read where wordy ones are written, and what follows their tag is not stuck
pub fits : (qs : List Attr) (ps : List Pair) (e f : Bool) (z r : Bytes) → WordyAttrs qs → CleanPairs ps → (stuck false z ≡ true → ⊥)
    → write_pairs ps (tailed e z) ≡ write_pairs (pairs_of_of qs) (tailed f r) → Fitted qs ps e f z r
unfolding pairs_of_of write_pairs write_pair value_of all but stuck
fits [] [] true true z r none no_pair s e = record { legal = no_attr; pairs = refl; ends = refl; rest = cc }
fits [] [] false false z r none no_pair s e = record { legal = no_attr; pairs = refl; ends = refl; rest = cc }
fits [] [] true false z r none no_pair s e = absurd (let i : ◌≡◌ {A = ℕ} 32 62 = cc in omega arith)
fits [] [] false true z r none no_pair s e = absurd (let i : ◌≡◌ {A = ℕ} 62 32 = cc in omega arith)
fits [] (p ∷ ps) e false z r none (more-pairs c cs) s i = absurd (let k : ◌≡◌ {A = ℕ} 32 62 = cc in omega arith)
fits [] (p ∷ ps) e true z r none (more-pairs c cs) s i =
    let k : 47 ∷ 62 ∷ r ≡ p.key ++ 61 ∷ 34 ∷ (p.value ++ 34 ∷ write_pairs ps (tailed e z)) = cc in
    let d = slash p.key _ r c.some k in
    absurd (not_in 62 (47 ∷ []) d.0 (sym (ap (all (but 62)) d.1) ∙ key_no_end p.key c.key))
fits (a ∷ qs) [] false f z r (more w ws) no_pair s i = absurd (let k : ◌≡◌ {A = ℕ} 62 32 = cc in omega arith)
fits (a ∷ qs) [] true f z r (more w ws) no_pair s i =
    let x : Bytes = 34 ∷ (value_of a ++ 34 ∷ write_pairs (pairs_of_of qs) (tailed f r)) in
    let k : 47 ∷ 62 ∷ z ≡ a.key ++ 61 ∷ x = cc in
    let d = slash a.key x z w.key.some k in
    let h : all (but 32) (47 ∷ 62 ∷ d.0) ≡ true = sym (ap (all (but 32)) d.1) ∙ w.key.space in
    absurd (s (ap (stuck false) d.2 ∙ stuck_word false 61 d.0 x refl refl h (stuck_value a _ w (stuck_tag qs f r ws))))
fits (a ∷ qs) (p ∷ ps) e f z r (more w ws) (more-pairs c cs) s i =
    let j : p.key ++ 61 ∷ 34 ∷ (p.value ++ 34 ∷ x) ≡ a.key ++ 61 ∷ 34 ∷ (value_of a ++ 34 ∷ y) = cc in
    let k = cut_even 61 p.key (34 ∷ (p.value ++ 34 ∷ x)) a.key (34 ∷ (value_of a ++ 34 ∷ y)) (key_no_equals p.key c.key) w.key.equal j in
    let l : p.value ++ 34 ∷ x ≡ value_of a ++ 34 ∷ y = let m = k.1 in cc in
    go (cut 34 p.value x (value_of a) y (value_no_quote p.value c.value) l) k.0 (fits qs ps e f z r ws cs s)
  where
    x : Bytes
    x = write_pairs ps (tailed e z)

    y : Bytes
    y = write_pairs (pairs_of_of qs) (tailed f r)

    by_raw : (t : Bool) → a.raw ≡ t → (d : Bytes) → cond t a.value (escape true a.value) ≡ p.value ++ 34 ∷ d → x ≡ d ++ 34 ∷ y → ⊥
    by_raw true t d g h = s (broken ps e d y z (all-behind (but 32) p.value 34 d (sym (ap (all (but 32)) g) ∙ w.value t)) (stuck_tag qs f r ws) h)
    by_raw false t d g h = not_in 34 p.value d (sym (ap (all (but 34)) g) ∙ value_no_quote (escape true a.value) (escape_clean true a.value))

    go : Cut 34 p.value x (value_of a) y → p.key ≡ a.key → (x ≡ y → Fitted qs ps e f z r) → Fitted (a ∷ qs) (p ∷ ps) e f z r
    go (even g h) k rest = fitted_more a qs p ps e f z r w c k g (rest h)
    go (longer d g h) k rest = absurd (by_raw a.raw refl d g h)
