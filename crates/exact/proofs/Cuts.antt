-- Texts cut at a byte, and the bytes of what may stand in a tag.
use mathlib.Core.Path.{◌≡◌, refl, sym, ap, ◌∙◌}
use mathlib.Core.Bool.{Bool, true, false, cond, not, ◌&&◌, ◌||◌}
use mathlib.Core.List.{[], ◌∷◌, ◌++◌}
use Prim.Native.Nat.{ℕ, suc}
use native.Mathlib.Omega.{arith}
use lib.ListN.{length}
use lib.Dec.{eqb}
use borrow.Author.Tests.{eq-eqb, eqb-true}
use Rattle.parts.specs.Bytes.{Bytes, begins}
use Rattle.parts.proofs.Laws.{and-true}
use Rattle.chars.proofs.Lists.{all}
use Rattle.tags.specs.Form.{plain, key_byte_of, escape_at, ok, run}
use Rattle.tags.specs.Write.{Clean}
use Rattle.tags.specs.declared.Class.{Class}
use Rattle.tags.specs.declared.Class.TheVariants.{Text, Value, Key}
use Rattle.accepts.proofs.Spaces.{but}
use Rattle.checker.proofs.Decides.{never}
use Rattle.exact.proofs.Reading.{stuck}

-- ---- tests of every byte

-- a byte that does not stand in a text
pub not_in : (y : ℕ) (a z : Bytes) → all (but y) (a ++ y ∷ z) ≡ true → ⊥
unfolding all but
not_in y [] z h = never (sym (rw (eq-eqb y y refl)) ∙ h)
not_in y (x ∷ a) z h = not_in y a z (and-true (but y x) (all (but y) (a ++ y ∷ z)) h).1

-- two texts cut at the same byte: the first has it not before its cut, the second may have it
pub data Cut (y : ℕ) (a z c w : Bytes) : Type 0 where
  even : a ≡ c → z ≡ w → Cut y a z c w
  longer : (d : Bytes) → c ≡ a ++ y ∷ d → z ≡ d ++ y ∷ w → Cut y a z c w

pub cut : (y : ℕ) (a z c w : Bytes) → all (but y) a ≡ true → a ++ y ∷ z ≡ c ++ y ∷ w → Cut y a z c w
unfolding all but
cut y [] z [] w h e = even refl (cc)
cut y [] z (u ∷ c) w h e =
    let i : u ≡ y = cc in
    let j : z ≡ c ++ y ∷ w = cc in
    longer c (rw i) j
cut y (x ∷ a) z [] w h e =
    let i : x ≡ y = cc in
    never (sym (ap not (eq-eqb x y i)) ∙ (and-true (but y x) (all (but y) a) h).0)
cut y (x ∷ a) z (u ∷ c) w h e =
    let i : x ≡ u = cc in
    let j : a ++ y ∷ z ≡ c ++ y ∷ w = cc in
    go (cut y a z c w (and-true (but y x) (all (but y) a) h).1 j) i
  where
    go : Cut y a z c w → x ≡ u → Cut y (x ∷ a) z (u ∷ c) w
    go (even f g) i = even (cc) g
    go (longer d f g) i = longer d (cc) g

-- where neither has it the two are the same
pub cut_even : (y : ℕ) (a z c w : Bytes) → all (but y) a ≡ true → all (but y) c ≡ true → a ++ y ∷ z ≡ c ++ y ∷ w → (a ≡ c) × (z ≡ w)
cut_even y a z c w h g e = go (cut y a z c w h e)
  where
    go : Cut y a z c w → (a ≡ c) × (z ≡ w)
    go (even f k) = (f, k)
    go (longer d f k) = absurd (not_in y a d (sym (ap (all (but y)) f) ∙ g))

-- ---- clean keys and values

-- the tests of one byte more
clean_step : (c : Class) (x : ℕ) (s : Bytes) → Clean c (x ∷ s) → (ok c (x ∷ s) ≡ true) × Clean c s
unfolding run
clean_step c x s h = go (ok c (x ∷ s)) refl h
  where
    go : (t : Bool) → ok c (x ∷ s) ≡ t → elim t as (λ t. ℕ) [ true ↦ suc (run (ok c) s) | false ↦ 0 ] ≡ suc (length s) → (ok c (x ∷ s) ≡ true) × Clean c s
    go true e i = (e, omega arith)
    go false e i = absurd (omega arith)

-- a class whose first byte is never this one
clean_but : (c : Class) (y : ℕ) → ((s : Bytes) → ok c (y ∷ s) ≡ false) → (s : Bytes) → Clean c s → all (but y) s ≡ true
unfolding all but
clean_but c y f [] h = refl
clean_but c y f (x ∷ s) h =
    let both = clean_step c x s h in
    go (eqb x y) refl both.0 (clean_but c y f s both.1)
  where
    go : (t : Bool) → eqb x y ≡ t → ok c (x ∷ s) ≡ true → all (but y) s ≡ true → not (eqb x y) && all (but y) s ≡ true
    go true e o k = never (sym (f s) ∙ ap (λ (u : ℕ). ok c (u ∷ s)) (sym (eqb-true x y e)) ∙ o)
    go false e o k = rw (e, k)

pub key_no_equals : (s : Bytes) → Clean Key s → all (but 61) s ≡ true
unfolding ok plain key_byte_of
key_no_equals = clean_but Key 61 (λ s. refl)

pub key_no_end : (s : Bytes) → Clean Key s → all (but 62) s ≡ true
unfolding ok plain key_byte_of
key_no_end = clean_but Key 62 (λ s. refl)

pub value_no_quote : (s : Bytes) → Clean Value s → all (but 34) s ≡ true
unfolding ok plain escape_at begins
value_no_quote = clean_but Value 34 (λ s. refl)

pub value_no_tag : (s : Bytes) → Clean Value s → all (but 60) s ≡ true
unfolding ok plain escape_at begins
value_no_tag = clean_but Value 60 (λ s. refl)

pub text_no_tag : (s : Bytes) → Clean Text s → all (but 60) s ≡ true
unfolding ok plain escape_at begins
text_no_tag = clean_but Text 60 (λ s. refl)

pub text_no_end : (s : Bytes) → Clean Text s → all (but 62) s ≡ true
unfolding ok plain escape_at begins
text_no_end = clean_but Text 62 (λ s. refl)

-- ---- what stays stuck

-- a text with no space, and `=` or `"` behind it, in front of what is stuck
pub stuck_word : (late : Bool) (y : ℕ) (a z : Bytes) → eqb y 34 || eqb y 61 ≡ true → eqb y 60 ≡ false → all (but 32) a ≡ true
    → stuck false z ≡ true → stuck late (a ++ y ∷ z) ≡ true
unfolding stuck all but
stuck_word late y [] z h g k i = rw (g, h, i)
stuck_word late y (x ∷ a) z h g k i =
    let both = and-true (not (eqb x 32)) (all (but 32) a) k in
    go late (eqb x 60) (eqb x 34 || eqb x 61) (eqb x 32) (eqb x 62) both.0 (λ l. stuck_word l y a z h g both.1 i)
  where
    r : Bytes
    r = a ++ y ∷ z

    go : (l c d e f : Bool) → not e ≡ true → ((l : Bool) → stuck l r ≡ true)
        → cond c (stuck true r) (cond d (stuck false r) (cond e (not l && stuck l r) (cond f (not l || stuck l r) (stuck l r)))) ≡ true
    go l true d e f n on = on true
    go l false true e f n on = on false
    go l false false true f n on = never n
    go true false false false true n on = on true
    go false false false false true n on = refl
    go l false false false false n on = on l

-- a text with no `<` in front of what is stuck
pub stuck-text : (a z : Bytes) → all (but 60) a ≡ true → stuck false z ≡ true → stuck false (a ++ z) ≡ true
unfolding stuck all but
stuck-text [] z h i = i
stuck-text (x ∷ a) z h i =
    let both = and-true (not (eqb x 60)) (all (but 60) a) h in
    go (eqb x 60) (eqb x 34 || eqb x 61) (eqb x 32) (eqb x 62) both.0 (stuck-text a z both.1 i)
  where
    r : Bytes
    r = a ++ z

    go : (c d e f : Bool) → not c ≡ true → stuck false r ≡ true → cond c (stuck true r) (cond d (stuck false r) (cond e (stuck false r) (cond f true (stuck false r)))) ≡ true
    go true d e f n on = never n
    go false true e f n on = on
    go false false true f n on = on
    go false false false true n on = refl
    go false false false false n on = on
