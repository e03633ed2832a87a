-- Texts that hold none of the four bytes: what they are joined from, and that exactly these are their own escapes.
use mathlib.Core.Path.{◌≡◌, refl, sym, ap, ◌∙◌}
use mathlib.Core.Bool.{Bool, true, false, cond, ◌||◌}
use mathlib.Core.List.Memᴰ
use mathlib.Core.List.{[], ◌∷◌, ◌++◌, Memᴰ}
use mathlib.Core.Logic.{⊎_elim, ◌↔◌}
use Prim.Native.Nat.{ℕ, ◌+◌, ◌≤◌, ◌<◌}
use native.Mathlib.Omega.{arith}
use lib.ListN.{length, length-append}
use lib.Dec.{eqb}
use borrow.Author.Tests.{ne_eqb}
use Rattle.parts.specs.Bytes.{Bytes, b}
use Rattle.parts.proofs.Laws.{or_both}
use Rattle.chars.specs.Decimal.{decimal}
use Rattle.chars.specs.Escape.{escape, escaped_byte, special}
use Rattle.chars.proofs.Digits.{decimal_byte}
use Rattle.chars.proofs.Escapes.{escape-plain, escape_least}
use Rattle.events.specs.Pairing.{chapter_id_of, verse_id_of}
use Rattle.accepts.specs.Proviso.{has_special, Free}

-- ---- byte by byte

pub free_at : (s : Bytes) → Free s → (x : ℕ) → Memᴰ x s → special true x ≡ false
unfolding has_special
free_at [] h x m = absurd (Memᴰ.not-nil m)
free_at (y ∷ s) h x m =
    let i = or_both (special true y) (has_special s) h in
    ⊎_elim (λ same. ap (special true) same ∙ i.0) (λ later. free_at s i.1 x later) (Memᴰ.cases_cons m)

pub free_all : (s : Bytes) → ((x : ℕ) → Memᴰ x s → special true x ≡ false) → Free s
unfolding has_special
free_all [] f = refl
free_all (x ∷ s) f = rw (f x (Memᴰ.head refl)) (free_all s (λ y m. f y (Memᴰ.tail m)))

-- ---- joined texts

or_assoc : (a c d : Bool) → (a || c) || d ≡ a || (c || d)
or_assoc true c d = refl
or_assoc false c d = refl

special-append : (s z : Bytes) → has_special (s ++ z) ≡ has_special s || has_special z
unfolding has_special
special-append [] z = refl
special-append (x ∷ s) z = rw (special-append s z) (sym (or_assoc (special true x) (has_special s) (has_special z)))

pub free_both : (s z : Bytes) → Free (s ++ z) → Free s × Free z
free_both s z h = or_both (has_special s) (has_special z) (sym (special-append s z) ∙ h)

pub free-append : (s z : Bytes) → Free s → Free z → Free (s ++ z)
free-append s z h g = special-append s z ∙ rw (h, g)

free-decimal : (n : ℕ) → Free (decimal n)
unfolding special
free-decimal n = free_all (decimal n) digit
  where
    digit : (x : ℕ) → Memᴰ x (decimal n) → special true x ≡ false
    digit x m =
        let h = decimal_byte n x m in
        let low : 48 ≤ x = h.0 in
        let high : x ≤ 57 = h.1 in
        rw (ne_eqb x 60 (λ e. omega arith), ne_eqb x 62 (λ e. omega arith), ne_eqb x 38 (λ e. omega arith), ne_eqb x 34 (λ e. omega arith))

-- ---- identifiers

-- a chapter's identifier is free exactly where its book code is
pub free-chapter : (code : Bytes) (n : ℕ) → Free code ↔ Free (chapter_id_of code n)
unfolding chapter_id_of has_special special
free-chapter code n = (λ h. free-append code _ h (free-append (b " ") (decimal n) refl (free-decimal n)), λ h. (free_both code _ h).0)

-- a verse's exactly where its book code and its label are
pub free-verse : (code : Bytes) (n : ℕ) (label : Bytes) → (Free code × Free label) ↔ Free (verse_id_of code n label)
unfolding verse_id_of has_special special
free-verse code n label = (there, back)
  where
    there : Free code × Free label → Free (verse_id_of code n label)
    there h =
        free-append code (b " " ++ (decimal n ++ (b ":" ++ label))) h.0
        (free-append (b " ") (decimal n ++ (b ":" ++ label)) refl
        (free-append (decimal n) (b ":" ++ label) (free-decimal n) (free-append (b ":") label refl h.1)))

    back : Free (verse_id_of code n label) → Free code × Free label
    back h =
        let i = free_both code (b " " ++ (decimal n ++ (b ":" ++ label))) h in
        let j = free_both (b " ") (decimal n ++ (b ":" ++ label)) i.1 in
        let k = free_both (decimal n) (b ":" ++ label) j.1 in
        (i.0, (free_both (b ":") label k.1).1)

-- ---- escapes

-- a byte that is escaped grows
grows : (x : ℕ) → special true x ≡ true → 2 ≤ length (escaped_byte true x)
unfolding special escaped_byte
grows x = go (eqb x 60) (eqb x 62) (eqb x 38) (eqb x 34)
  where
    go : (l g a q : Bool) → l || (g || (a || q)) ≡ true → 2 ≤ length (cond l (b "&lt;") (cond g (b "&gt;") (cond a (b "&amp;") (cond q (b "&quot;") (x ∷ [])))))
    go true g a q e = omega arith
    go false true a q e = omega arith
    go false false true q e = omega arith
    go false false false true e = omega arith
    go false false false false e = absurd (let no_way : ◌≡◌ {A = ℕ} 0 1 = cc in omega arith)

some_byte : (x : ℕ) → 1 ≤ length (escaped_byte true x)
unfolding escape
some_byte x = omega (arith, escape_least true (x ∷ []), length-append (escaped_byte true x) [])

-- a text that is not free has a longer escape
pub escape-longer : (s : Bytes) → has_special s ≡ true → length s < length (escape true s)
unfolding has_special escape
escape-longer [] e = absurd (let no_way : ◌≡◌ {A = ℕ} 0 1 = cc in omega arith)
escape-longer (x ∷ s) e = go (special true x) refl (escape-longer s) e
  where
    go : (z : Bool) → special true x ≡ z → (has_special s ≡ true → length s < length (escape true s)) → z || has_special s ≡ true
        → length (x ∷ s) < length (escaped_byte true x ++ escape true s)
    go true i f e = omega (arith, grows x i, escape_least true s, length-append (escaped_byte true x) (escape true s))
    go false i f e = omega (arith, f e, some_byte x, length-append (escaped_byte true x) (escape true s))

-- the escape of a value is the value itself exactly where it is free
pub free-escape : (s : Bytes) → Free s ↔ (escape true s ≡ s)
free-escape s = (λ h. escape-plain true s (free_at s h), back)
  where
    back : escape true s ≡ s → Free s
    back e = go (has_special s) refl
      where
        go : (z : Bool) → has_special s ≡ z → z ≡ false
        go true i = absurd (omega (arith, escape-longer s i, ap length e))
        go false i = refl
