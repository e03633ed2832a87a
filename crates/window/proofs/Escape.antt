-- Laws of escapes: a text is runs of plain bytes with escapes between them.
use mathlib.Core.Path.{◌≡◌, refl, sym, ap, ◌∙◌}
use mathlib.Core.Bool.{Bool, true, false, cond, ◌&&◌, ◌||◌, and-false}
use mathlib.Core.List.{[], ◌∷◌, ◌++◌, append_assoc, append-nil}
use Prim.Native.Nat.{ℕ, zero, suc, ◌+◌, ◌-◌, ◌≤◌, ◌<◌}
use native.Mathlib.Nat.{add-zero, zero-add}
use native.Mathlib.Numerals.{add-one}
use native.Mathlib.Omega.{arith}
use lib.ListN.{length, get_or, take, drop, length-take, length-drop}
use lib.Seq.{take-length, drop-length, get_or-drop, drop-drop}
use lib.Dec.{eqb}
use borrow.Author.Tests.{ne_eqb}
use Rattle.parts.specs.Bytes.{Bytes, b, part, first_at}
use Rattle.std.specs.List.{list_any}
use Rattle.parts.proofs.Laws.{drop-part, or_both, first-le, first_found}
use Rattle.chars.specs.Escape.{special, escape, escaped_byte}
use Rattle.chars.proofs.Escapes.{escaped-plain}
use Rattle.window.specs.Page.{Page, paint}
use Rattle.window.specs.Plain.{any_special, plain_len, PlainTo, entity_of}
use Rattle.window.proofs.Paint.{paint-two}

-- ---- one byte

-- a byte that has a name is written by it
pub special-escaped : (attr : Bool) (x : ℕ) → special attr x ≡ true → escaped_byte attr x ≡ entity_of x
unfolding special escaped_byte entity_of
special-escaped attr x e = go (eqb x 60) (eqb x 62) (eqb x 38) (attr && eqb x 34) (b "&lt;") (b "&gt;") (b "&amp;") (b "&quot;") e
  where
    go : (p q r t : Bool) (k l m n : Bytes) → p || (q || (r || t)) ≡ true
        → cond p k (cond q l (cond r m (cond t n (x ∷ [])))) ≡ cond p k (cond q l (cond r m n))
    go true q r t k l m n e = refl
    go false true r t k l m n e = refl
    go false false true t k l m n e = refl
    go false false false true k l m n e = refl
    go false false false false k l m n e = absurd (let no_way : ◌≡◌ {A = ℕ} 0 1 = cc in omega arith)

-- the bytes that have no name
pub plain-rest : (attr : Bool) (x : ℕ) → (x ≡ 38 → ⊥) → (x ≡ 60 → ⊥) → (x ≡ 62 → ⊥) → (x ≡ 34 → ⊥) → special attr x ≡ false
unfolding special
plain-rest attr x a l g q = rw (ne_eqb x 60 l, ne_eqb x 62 g, ne_eqb x 38 a, ne_eqb x 34 q) (and-false attr)

pub plain_low : (attr : Bool) (x : ℕ) → x < 34 → false ≡ special attr x
plain_low attr x h = sym (plain-rest attr x (λ e. omega arith) (λ e. omega arith) (λ e. omega arith) (λ e. omega arith))

pub plain_high : (attr : Bool) (x : ℕ) → 62 < x → false ≡ special attr x
plain_high attr x h = sym (plain-rest attr x (λ e. omega arith) (λ e. omega arith) (λ e. omega arith) (λ e. omega arith))

-- ---- a run of plain bytes

-- a text is its plain bytes as they are, and the escapes of what follows
pub escape-plain : (attr : Bool) (s : Bytes) → escape attr s ≡ take (plain_len attr s) s ++ escape attr (drop (plain_len attr s) s)
unfolding plain_len first_at escape
escape-plain attr [] = refl
escape-plain attr (x ∷ s) = go (special attr x) refl (escape-plain attr s)
  where
    go : (t : Bool) → special attr x ≡ t → escape attr s ≡ take (plain_len attr s) s ++ escape attr (drop (plain_len attr s) s)
        → escape attr (x ∷ s) ≡ take (elim t as (λ t. ℕ) [ true ↦ 0 | false ↦ suc (plain_len attr s) ]) (x ∷ s)
        ++ escape attr (drop (elim t as (λ t. ℕ) [ true ↦ 0 | false ↦ suc (plain_len attr s) ]) (x ∷ s))
    go true e h = refl
    go false e h = rw (escaped-plain attr x e) (ap (λ (z : Bytes). x ∷ z) h)

pub plain-le : (attr : Bool) (s : Bytes) → plain_len attr s ≤ length s
unfolding plain_len
plain-le attr s = first-le (λ r. special attr (get_or r 0 0)) s

-- what ends a run of plain bytes has a name
pub plain_stop : (attr : Bool) (s : Bytes) → plain_len attr s < length s → special attr (get_or s (plain_len attr s) 0) ≡ true
unfolding plain_len
plain_stop attr s h =
    let k : ℕ = plain_len attr s in
    ap (special attr) (sym (get_or-drop k s 0 0 ∙ ap (λ (i : ℕ). get_or s i 0) (add-zero k)))
    ∙ first_found (λ r. special attr (get_or r 0 0)) s h

-- ---- the scan

pub plain-none : (attr : Bool) → plain_len attr [] ≡ 0
unfolding plain_len first_at
plain-none attr = refl

plain-cons : (attr : Bool) (x : ℕ) (s : Bytes) → plain_len attr (x ∷ s) ≡ elim (special attr x) as (λ t. ℕ) [ true ↦ 0 | false ↦ suc (plain_len attr s) ]
unfolding plain_len first_at
plain-cons attr x s = refl

pub plain-hit : (attr : Bool) (x : ℕ) (s : Bytes) → special attr x ≡ true → plain_len attr (x ∷ s) ≡ 0
plain-hit attr x s e = plain-cons attr x s ∙ rw e refl

pub plain-miss : (attr : Bool) (x : ℕ) (s : Bytes) → special attr x ≡ false → plain_len attr (x ∷ s) ≡ plain_len attr s + 1
plain-miss attr x s e = plain-cons attr x s ∙ rw (e, add-one) refl

pub plain_start : (attr : Bool) (s : Bytes) → PlainTo attr s 0
plain_start attr s = record { within = omega arith; rest = zero-add (plain_len attr s) }

-- plain bytes up to a place, and those from it on
pub plain_on : {attr : Bool} {s : Bytes} {i n : ℕ} → PlainTo attr s i → n ≡ plain_len attr (take (length s - i) (drop i s)) → i + n ≡ plain_len attr s
plain_on {attr} {s} {i} z e = omega (arith, e, ap (plain_len attr) (drop-part s i), z.rest)

pub plain_fits : {attr : Bool} {s : Bytes} {i n : ℕ} → PlainTo attr s i → n ≡ plain_len attr (take (length s - i) (drop i s)) → i + n ≤ length s
plain_fits {attr} {s} z e = omega (arith, plain_on z e, plain-le attr s)

-- the first few bytes tell of all where one of them has a name
whole : (attr : Bool) (n : ℕ) (s : Bytes) → plain_len attr (take n s) < n → plain_len attr (take n s) ≡ plain_len attr s
whole attr zero s h = absurd (omega arith)
whole attr (suc n) [] h = refl
whole attr (suc n) (x ∷ s) h = go (special attr x) refl (λ l. whole attr n s l)
  where
    go : (t : Bool) → special attr x ≡ t → (plain_len attr (take n s) < n → plain_len attr (take n s) ≡ plain_len attr s) → plain_len attr (x ∷ take n s) ≡ plain_len attr (x ∷ s)
    go true e f = plain-hit attr x (take n s) e ∙ sym (plain-hit attr x s e)
    go false e f =
        let u = plain-miss attr x (take n s) e in
        omega (arith, u, plain-miss attr x s e, f (omega (arith, u, h)))

pub front_whole : (attr : Bool) (n : ℕ) (s : Bytes) {r : Bytes} {i : ℕ} → i ≡ plain_len attr r → r ≡ part s 0 n → i < n → i ≡ plain_len attr s
front_whole attr n s e er h = let same = e ∙ ap (plain_len attr) er in same ∙ whole attr n s (omega (arith, same))

-- and else they are plain
front_to : (attr : Bool) (n : ℕ) (s : Bytes) → n ≤ plain_len attr (take n s) → PlainTo attr s n
front_to attr zero s h = plain_start attr s
front_to attr (suc n) [] h = absurd (omega (arith, plain-none attr))
front_to attr (suc n) (x ∷ s) h = go (special attr x) refl (λ l. front_to attr n s l)
  where
    go : (t : Bool) → special attr x ≡ t → (n ≤ plain_len attr (take n s) → PlainTo attr s n) → PlainTo attr (x ∷ s) (suc n)
    go true e f = absurd (omega (arith, plain-hit attr x (take n s) e, h))
    go false e f =
        let z = f (omega (arith, plain-miss attr x (take n s) e, h)) in
        record { within = omega (arith, z.within); rest = omega (arith, z.rest, plain-miss attr x s e) }

pub front_plain : (attr : Bool) (n : ℕ) (s : Bytes) {r : Bytes} {i : ℕ} → i ≡ plain_len attr r → r ≡ part s 0 n → n ≤ i → PlainTo attr s i
front_plain attr n s {r} {i} e er h =
    let same : i ≡ plain_len attr (take n s) = e ∙ ap (plain_len attr) er in
    let all : n ≡ i = omega (arith, same, plain-le attr (take n s), length-take n s) in
    rw (← all) (front_to attr n s (omega (arith, same)))

-- a text that is plain to its end is written as it is
pub plain_whole : (attr : Bool) (s : Bytes) (p : Page) {q : Page} → plain_len attr s ≡ length s → q ≡ paint p s → q ≡ paint p (escape attr s)
unfolding escape
plain_whole attr s p n eq =
    let same : escape attr s ≡ s = escape-plain attr s ∙ rw (n, take-length, drop-length) (append-nil s) in
    eq ∙ ap (paint p) (sym same)

-- ---- a block

pub any-special : (attr : Bool) (s : Bytes) → any_special attr s ≡ list_any (special attr) s
unfolding any_special
any-special attr [] = refl
any-special attr (x ∷ s) = ap (λ (t : Bool). special attr x || t) (any-special attr s)

-- a block without such a byte is plain
plain_skip : (attr : Bool) (n : ℕ) (s : Bytes) → n ≤ length s → any_special attr (take n s) ≡ false → plain_len attr s ≡ n + plain_len attr (drop n s)
unfolding any_special
plain_skip attr zero s h e = sym (zero-add (plain_len attr s))
plain_skip attr (suc n) [] h e = absurd (omega arith)
plain_skip attr (suc n) (x ∷ s) h e =
    let k = or_both (special attr x) (any_special attr (take n s)) e in
    omega (arith, plain-miss attr x s k.0, plain_skip attr n s (omega arith) k.1)

pub plain_block : {attr : Bool} {s : Bytes} {i : ℕ} → PlainTo attr s i → (n : ℕ) → i + n ≤ length s → any_special attr (take n (drop i s)) ≡ false → PlainTo attr s (i + n)
plain_block {attr} {s} {i} z n h e =
    let skip = plain_skip attr n (drop i s) (omega (arith, length-drop i s)) e in
    let on : plain_len attr (drop n (drop i s)) ≡ plain_len attr (drop (i + n) s) = ap (plain_len attr) (drop-drop n i s) in
    record { within = omega (arith, z.within); rest = omega (arith, skip, on, z.rest) }

-- ---- the loop over a text

module _ (attr : Bool) (s : Bytes) (p : Page) {q w : Page} {n : ℕ} {run behind : Bytes} (en : n ≡ plain_len attr s) (er : run ≡ take n s) (eb : behind ≡ drop n s) (eq : q ≡ paint p run) (inv : paint p (escape attr s) ≡ w) where
  split : escape attr s ≡ run ++ escape attr behind
  split = rw (er, eb, en) (escape-plain attr s)

  -- the last run
  pub run-last : length behind ≡ 0 → q ≡ w
  unfolding escape
  run-last none = eq ∙ ap (paint p) (sym (split ∙ go behind none)) ∙ inv
    where
      go : (t : Bytes) → length t ≡ 0 → run ++ escape attr t ≡ run
      go [] h = append-nil run
      go (x ∷ t) h = absurd (omega arith)

  -- a run, and the name of the byte behind it
  pub run-turn : (x : ℕ) (last : Bytes) {r : Page} {name : Bytes} → behind ≡ x ∷ last → name ≡ entity_of x → r ≡ paint q name → paint r (escape attr last) ≡ w
  unfolding escape
  run-turn x last ex ez ey =
      let here : get_or s n 0 ≡ x = ap (λ (k : ℕ). get_or s k 0) (sym (add-zero n)) ∙ sym (get_or-drop n s 0 0) ∙ ap (λ (t : Bytes). get_or t 0 0) (sym eb ∙ ex) in
      let some : n < length s = omega (arith, length-drop n s, ap length (sym eb ∙ ex)) in
      let named : special attr x ≡ true = rw (← here, en) (plain_stop attr s (rw (← en) some)) in
      let rest : Bytes = escape attr last in
      let next : escape attr behind ≡ entity_of x ++ rest = ap (escape attr) ex ∙ ap (λ (z : Bytes). z ++ rest) (special-escaped attr x named) in
      let all : escape attr s ≡ (run ++ entity_of x) ++ rest = split ∙ ap (λ (z : Bytes). run ++ z) next ∙ sym (append_assoc run (entity_of x) rest) in
      paint-two p (run ++ entity_of x) rest (paint-two p run (entity_of x) eq (ey ∙ rw ez refl)) refl ∙ ap (paint p) (sym all) ∙ inv
