-- Names and words of a span whose end lies between characters, read in the text that it is a part of.
use mathlib.Core.Path.{◌≡◌, refl, sym, ap, ◌∙◌}
use mathlib.Core.Bool.{Bool, true, false, cond, not, ◌&&◌}
use mathlib.Core.Logic.{◌↔◌, ◌⊎◌, inl, inr, ⊎_elim}
use mathlib.Core.List.{List, [], ◌∷◌, ◌++◌, flatten}
use Prim.Native.Nat.{ℕ, suc, ◌+◌, ◌-◌, ◌≤◌, ◌<◌}
use native.Mathlib.Omega.{arith}
use lib.ListN.{length, get_or, take, drop, length-drop, length-append, take-append-drop, get_or-eq_default}
use lib.Seq.{drop-drop, length-take-le, get_or-drop}
use lib.Dec.{eqb, ltb}
use borrow.Author.Tests.{lt-ltb, le-ltb, ltb-true, ltb-false, eqb-true, not-true}
use Rattle.parts.specs.Bytes.{Bytes, part, begins}
use Rattle.parts.proofs.Laws.{and-true as both_true, begins-fits, begins-split, drop-take}
use Rattle.chars.specs.Range.{within, in_any}
use Rattle.chars.specs.Utf8.{tail, fits, row_len, table37, seq_len, step, is_sequence, point, code_of, characters, is_boundary}
use Rattle.chars.specs.Space.{is_white, white_space}
use Rattle.chars.proofs.Characters.{step-some, step-le, characters_flatten}
use Rattle.words.specs.Words.{step_of, chars_of, white, take_while, onto, pieces, nonempty, words}
use Rattle.words.specs.declared.Set.TheVariants.{Unicode}
use Rattle.words.proofs.Rows.{Row, none, more, row_cut}
use Rattle.words.proofs.Steps.{Apart}
use Rattle.words.proofs.Texts.{chars_apart}
use Rattle.tape.specs.Name.{strip, bare, in_name_of, name_len}
use Rattle.source_index.specs.Seek.{white_at, solid_at, to_word}
use Rattle.source_index.proofs.Runs.{characters-first, name-le, name-solid}

-- ---- rows of characters

-- a front part that passes, with more behind: it is the same, or all of the front passes
while_more : (p : Bytes → Bool) (xs ys : List Bytes)
    → (length (flatten (take_while p (xs ++ ys))) ≡ length (flatten (take_while p xs))) ⊎ (length (flatten (take_while p xs)) ≡ length (flatten xs))
unfolding take_while flatten
while_more p [] ys = inr refl
while_more p (x ∷ xs) ys = go (p x) (while_more p xs ys)
  where
    go : (t : Bool) → (length (flatten (take_while p (xs ++ ys))) ≡ length (flatten (take_while p xs))) ⊎ (length (flatten (take_while p xs)) ≡ length (flatten xs))
        → (length (flatten (cond t (x ∷ take_while p (xs ++ ys)) [])) ≡ length (flatten (cond t (x ∷ take_while p xs) [])))
        ⊎ (length (flatten (cond t (x ∷ take_while p xs) [])) ≡ length (x ++ flatten xs))
    go true q =
        ⊎_elim
        (λ e. inl (length-append x _ ∙ ap (λ (n : ℕ). length x + n) e ∙ sym (length-append x _)))
        (λ e. inr (length-append x _ ∙ ap (λ (n : ℕ). length x + n) e ∙ sym (length-append x _)))
        q
    go false q = inl refl

-- what passes in front passes with more behind
while_least : (p : Bytes → Bool) (xs ys : List Bytes) → length (flatten (take_while p xs)) ≤ length (flatten (take_while p (xs ++ ys)))
unfolding take_while flatten
while_least p [] ys = omega arith
while_least p (x ∷ xs) ys = go (p x) (while_least p xs ys)
  where
    go : (t : Bool) → length (flatten (take_while p xs)) ≤ length (flatten (take_while p (xs ++ ys)))
        → length (flatten (cond t (x ∷ take_while p xs) [])) ≤ length (flatten (cond t (x ∷ take_while p (xs ++ ys)) []))
    go true q = omega (arith, length-append x (flatten (take_while p xs)), length-append x (flatten (take_while p (xs ++ ys))))
    go false q = omega arith

-- characters, none of them empty
abbrev Filled : List Bytes → Type 0
Filled [] = Unit {0}
Filled (c ∷ cs) = (0 < length c) × Filled cs

row_filled : {cs : List Bytes} → Row step cs → Filled cs
row_filled none = tt
row_filled (more h e r) = (h, row_filled r)

to_within : (w : Bool) (xs : List Bytes) → Filled xs → (ys : List Bytes)
    → (to_word w (xs ++ ys) < length (flatten xs)) ↔ (to_word w xs < length (flatten xs))
unfolding to_word flatten
to_within w [] f ys = (λ h. absurd (omega arith), λ h. absurd (omega arith))
to_within w (x ∷ xs) f ys = go (w && not (white Unicode x)) (to_within (white Unicode x) xs f.1 ys)
  where
    m : ℕ
    m = to_word (white Unicode x) (xs ++ ys)

    n : ℕ
    n = to_word (white Unicode x) xs

    l : length (x ++ flatten xs) ≡ length x + length (flatten xs)
    l = length-append x (flatten xs)

    go : (t : Bool) → ((m < length (flatten xs)) ↔ (n < length (flatten xs)))
        → (cond t 0 (length x + m) < length (x ++ flatten xs)) ↔ (cond t 0 (length x + n) < length (x ++ flatten xs))
    go true q = (λ h. h, λ h. h)
    go false (q, r) = (λ h. omega (arith, l, q (omega (arith, l))), λ h. omega (arith, l, r (omega (arith, l))))

-- ---- words

-- the words behind the piece that a row begins in
abbrev later : List Bytes → ℕ
later [] = 0
later (w ∷ ws) = length (nonempty ws)

abbrev all : List Bytes → ℕ
all ws = length (nonempty ws)

later-onto : (c : Bytes) (ws : List Bytes) → later (onto c ws) ≡ later ws
unfolding onto nonempty
later-onto c [] = refl
later-onto c (w ∷ ws) = refl

all-onto : (c : Bytes) → 0 < length c → (ws : List Bytes) → all (onto c ws) ≡ suc (later ws)
unfolding onto nonempty
all-onto [] h ws = absurd (omega arith)
all-onto (x ∷ c) h [] = refl
all-onto (x ∷ c) h (w ∷ ws) = refl

-- no word behind: none where one is begun, or none at all behind white space
count : (cs : List Bytes) → Filled cs
    → ((later (pieces (white Unicode) cs) ≡ 0) ↔ (length (flatten cs) ≤ to_word false cs))
    × ((all (pieces (white Unicode) cs) ≡ 0) ↔ (length (flatten cs) ≤ to_word true cs))
unfolding pieces nonempty to_word flatten
count [] f = ((λ e. omega arith, λ e. refl), (λ e. omega arith, λ e. refl))
count (c ∷ cs) f = go (white Unicode c) (count cs f.1)
  where
    ws : List Bytes
    ws = pieces (white Unicode) cs

    l : length (c ++ flatten cs) ≡ length c + length (flatten cs)
    l = length-append c (flatten cs)

    go : (w : Bool)
        → ((later ws ≡ 0) ↔ (length (flatten cs) ≤ to_word false cs)) × ((all ws ≡ 0) ↔ (length (flatten cs) ≤ to_word true cs))
        → ((later (cond w ([] ∷ ws) (onto c ws)) ≡ 0) ↔ (length (c ++ flatten cs) ≤ length c + to_word w cs))
        × ((all (cond w ([] ∷ ws) (onto c ws)) ≡ 0) ↔ (length (c ++ flatten cs) ≤ cond (not w) 0 (length c + to_word w cs)))
    go true (q, r) = (
      (λ e. omega (arith, l, r.0 e), λ e. r.1 (omega (arith, l))),
      (λ e. omega (arith, l, r.0 e), λ e. r.1 (omega (arith, l))),
    )
    go false (q, r) = (
      (λ e. omega (arith, l, q.0 (sym (later-onto c ws) ∙ e)), λ e. later-onto c ws ∙ q.1 (omega (arith, l))),
      (λ e. absurd (omega (arith, all-onto c f.0 ws)), λ e. absurd (omega (arith, l, f.0))),
    )

unicode_chars : (s : Bytes) → chars_of Unicode s ≡ characters s
unfolding chars_of characters step_of
unicode_chars s = refl

characters-apart : (w t : Bytes) → Apart t → characters (w ++ t) ≡ characters w ++ characters t
unfolding chars_of characters step_of
characters-apart w t a = chars_apart Unicode w t a

row_single : (c : Bytes) (cs : List Bytes) → Filled (c ∷ cs) → white Unicode c ≡ false
    → (all (pieces (white Unicode) (c ∷ cs)) ≤ 1) ↔ (length (flatten (c ∷ cs)) ≤ to_word false (c ∷ cs))
unfolding pieces to_word flatten
row_single c cs f e =
    let ws : List Bytes = pieces (white Unicode) cs in
    let a : all (cond (white Unicode c) ([] ∷ ws) (onto c ws)) ≡ suc (later ws) = rw e (all-onto c f.0 ws) in
    let t : length c + to_word (white Unicode c) cs ≡ length c + to_word false cs = rw e in
    let l = length-append c (flatten cs) in
    let q = (count cs f.1).0 in
    (λ h. omega (arith, t, l, q.0 (omega (arith, a))), λ h. omega (arith, a, q.1 (omega (arith, t, l))))

count-words : (x : Bytes) → length (words Unicode x) ≡ all (pieces (white Unicode) (characters x))
unfolding words
count-words x = ap (λ (cs : List Bytes). all (pieces (white Unicode) cs)) (unicode_chars x)

solid_is : (x : Bytes) → solid_at x ≡ true → (0 < length x) × (white Unicode (take (step x) x) ≡ false)
unfolding solid_at white_at
solid_is x e =
    let b = both_true (ltb 0 (length x)) (not (white Unicode (take (step x) x))) e in
    (ltb-true 0 (length x) b.0, not-true (white Unicode (take (step x) x)) b.1)

filled_characters : (x : Bytes) → Filled (characters x)
unfolding characters
filled_characters x = row_filled (row_cut step step-some step-le x)

-- a text that begins with a word has no second exactly where none follows white space
words_single : (x : Bytes) → solid_at x ≡ true → (length (words Unicode x) ≤ 1) ↔ (length x ≤ to_word false (characters x))
words_single x e =
    let b = solid_is x e in
    let q = characters-first x b.0 in
    let f : Filled (take (step x) x ∷ characters (drop (step x) x)) = rw q at (filled_characters x) in
    let r = row_single (take (step x) x) (characters (drop (step x) x)) f b.1 in
    let w = count-words x ∙ ap (λ (cs : List Bytes). all (pieces (white Unicode) cs)) q in
    let l = ap length (sym (characters_flatten x)) ∙ ap (λ (cs : List Bytes). length (flatten cs)) q in
    let t = ap (to_word false) q in
    (λ h. omega (arith, l, t, r.0 (omega (arith, w))), λ h. omega (arith, w, r.1 (omega (arith, l, t))))

-- ---- spans

flip : (p q m : ℕ) → (q < m → p < m) → m ≤ p → m ≤ q
flip p q m f h = go (ltb q m) refl
  where
    go : (t : Bool) → ltb q m ≡ t → m ≤ q
    go true e = absurd (omega (arith, f (ltb-true q m e)))
    go false e = ltb-false q m e

zero-apart : within tail 0 ≡ false
unfolding within
zero-apart = refl

module _ (s : Bytes) (at m : ℕ) (fits : at + m ≤ length s) (end : is_boundary s (at + m) ≡ true) where
  rest-first : get_or (drop (at + m) s) 0 0 ≡ get_or s (at + m) 0
  rest-first = get_or-drop (at + m) s 0 0 ∙ ap (λ (n : ℕ). get_or s n 0) (omega arith)

  apart : Apart (drop (at + m) s)
  unfolding is_boundary
  apart = go (eqb (at + m) (length s)) refl
    where
      go : (t : Bool) → eqb (at + m) (length s) ≡ t → Apart (drop (at + m) s)
      go true e =
          let l = eqb-true (at + m) (length s) e in
          rw (rest-first, get_or-eq_default s 0 {n = at + m} (omega arith)) zero-apart
      go false e =
          let b = both_true (ltb (at + m) (length s)) (not (within tail (get_or s (at + m) 0))) (rw e at end) in
          rw rest-first (not-true (within tail (get_or s (at + m) 0)) b.1)

  whole : drop at s ≡ part s at m ++ drop (at + m) s
  whole = sym (rw (← drop-drop m at s) (take-append-drop m (drop at s)))

  long : length (flatten (characters (part s at m))) ≡ m
  long = ap length (characters_flatten (part s at m)) ∙ length-take-le m (drop at s) (omega (arith, length-drop at s))

  split : characters (drop at s) ≡ characters (part s at m) ++ characters (drop (at + m) s)
  split = ap characters whole ∙ characters-apart (part s at m) (drop (at + m) s) apart

  pub span-name : (base : ℕ) → base < m → ltb base (name_len (drop at s)) ≡ ltb base (name_len (part s at m))
  unfolding name_len
  span-name base h =
      ⊎_elim (λ e. ap (ltb base) (q ∙ e)) (λ e. both (omega (arith, e ∙ long))) (while_more in_name_of xs ys)
    where
      xs : List Bytes
      xs = characters (part s at m)

      ys : List Bytes
      ys = characters (drop (at + m) s)

      q : length (flatten (take_while in_name_of (characters (drop at s)))) ≡ length (flatten (take_while in_name_of (xs ++ ys)))
      q = ap (λ (cs : List Bytes). length (flatten (take_while in_name_of cs))) split

      both : base < length (flatten (take_while in_name_of xs))
          → ltb base (length (flatten (take_while in_name_of (characters (drop at s))))) ≡ ltb base (length (flatten (take_while in_name_of xs)))
      both l = lt-ltb base _ (omega (arith, q, while_least in_name_of xs ys)) ∙ sym (lt-ltb base _ l)

  pub span-words : solid_at (part s at m) ≡ true → {r : Bool} → r ≡ ltb (at + to_word false (characters (drop at s))) (at + m)
      → (r ≡ false) ↔ (length (words Unicode (part s at m)) ≤ 1)
  span-words e {r} er = (
    λ h.
        let l = ltb-false (at + to_word false (characters (drop at s))) (at + m) (sym er ∙ h) in
        let k : m ≤ far = omega (arith, t) in
        single.1 (omega (arith, size, flip far near m (λ z. rw long at (w.1 (rw long z))) k)),
    λ h.
        let k : m ≤ near = omega (arith, size, single.0 h) in
        let l = flip near far m (λ z. rw long at (w.0 (rw long z))) k in
        er ∙ le-ltb (at + to_word false (characters (drop at s))) (at + m) (omega (arith, t)),
  )
    where
      far : ℕ
      far = to_word false (characters (part s at m) ++ characters (drop (at + m) s))

      near : ℕ
      near = to_word false (characters (part s at m))

      t : to_word false (characters (drop at s)) ≡ far
      t = ap (to_word false) split

      size : length (part s at m) ≡ m
      size = length-take-le m (drop at s) (omega (arith, length-drop at s))

      single : (length (words Unicode (part s at m)) ≤ 1) ↔ (length (part s at m) ≤ to_word false (characters (part s at m)))
      single = words_single (part s at m) e

      w : (far < length (flatten (characters (part s at m)))) ↔ (near < length (flatten (characters (part s at m))))
      w = to_within false (characters (part s at m)) (filled_characters (part s at m)) (characters (drop (at + m) s))

-- ---- a text and what stands behind its `\` and `+`

-- how a text without a byte in front comes of it
record Front (s t : Bytes) : Type 0 where
  cut : ℕ
  small : cut ≤ 1
  fits : cut ≤ length s
  same : t ≡ drop cut s

strip_front : (x : ℕ) (s : Bytes) → Front s (strip x s)
unfolding strip
strip_front x s = go (begins (x ∷ []) s) refl
  where
    go : (t : Bool) → begins (x ∷ []) s ≡ t → Front s (cond t (drop 1 s) s)
    go true e = record { cut = 1; small = omega arith; fits = begins-fits (x ∷ []) s e; same = refl }
    go false e = record { cut = 0; small = omega arith; fits = omega arith; same = refl }

module _ (s : Bytes) where
  front_of : (j : ℕ) × ((bare s ≡ drop j s) × ((j ≤ 2) × (j ≤ length s)))
  unfolding bare
  front_of =
      let a = strip_front 92 s in
      let c = strip_front 43 (strip 92 s) in
      let l : length (strip 92 s) ≡ length s - a.cut = ap length a.same ∙ length-drop a.cut s in
      (a.cut + c.cut, (c.same ∙ ap (drop c.cut) a.same ∙ drop-drop c.cut a.cut s, (omega (arith, a.small, c.small), omega (arith, l, a.fits, c.fits))))

  bare-len : length (bare s) ≡ length s - front_of.0
  bare-len = ap length front_of.1.0 ∙ length-drop front_of.0 s

  pub bare-le : length (bare s) ≤ length s
  bare-le = omega (arith, bare-len)

  pub bare-drop : bare s ≡ drop (length s - length (bare s)) s
  bare-drop =
      let e : front_of.0 ≡ length s - length (bare s) = omega (arith, bare-len, front_of.1.1.1) in front_of.1.0 ∙ ap (λ (n : ℕ). drop n s) e

-- the bare part of a span is a span
pub bare-span : (s : Bytes) (a n : ℕ) → a + n ≤ length s → (j : ℕ) → j ≡ n - length (bare (part s a n)) → bare (part s a n) ≡ part s (a + j) (n - j)
bare-span s a n h j e =
    let l : length (part s a n) ≡ n = length-take-le n (drop a s) (omega (arith, length-drop a s)) in
    let f : length (part s a n) - length (bare (part s a n)) ≡ j = omega (arith, l) in
    bare-drop (part s a n)
    ∙ ap (λ (i : ℕ). drop i (part s a n)) f
    ∙ drop-take j n (drop a s)
    ∙ ap (take (n - j)) (drop-drop j a s)

-- ---- the first character of a text with a name

solid_slash : (r : Bytes) → solid_at (92 ∷ r) ≡ true
unfolding solid_at white_at white step code_of is_sequence seq_len row_len table37 fits point is_white white_space in_any within
solid_slash r = rw (lt-ltb 0 (length (92 ∷ r)) (omega arith))

solid_plus : (r : Bytes) → solid_at (43 ∷ r) ≡ true
unfolding solid_at white_at white step code_of is_sequence seq_len row_len table37 fits point is_white white_space in_any within
solid_plus r = rw (lt-ltb 0 (length (43 ∷ r)) (omega arith))

solid-name : (s : Bytes) → 0 < name_len s → solid_at s ≡ true
unfolding solid_at
solid-name s h =
    let l : 0 < length s = omega (arith, name-le s) in
    rw (lt-ltb 0 (length s) l, name-solid s l h)

-- a text whose bare part begins with a name begins with no white space
pub solid-bare : (s : Bytes) → 0 < name_len (bare s) → solid_at s ≡ true
unfolding bare strip
solid-bare s h = go (begins (92 ∷ []) s) refl h
  where
    plus : (t : Bool) → begins (43 ∷ []) s ≡ t → 0 < name_len (cond t (drop 1 s) s) → solid_at s ≡ true
    plus true e l = rw (begins-split (43 ∷ []) s e) (solid_plus (drop 1 s))
    plus false e l = solid-name s l

    go : (t : Bool) → begins (92 ∷ []) s ≡ t → 0 < name_len (strip 43 (cond t (drop 1 s) s)) → solid_at s ≡ true
    go true e l = rw (begins-split (92 ∷ []) s e) (solid_slash (drop 1 s))
    go false e l = plus (begins (43 ∷ []) s) refl l
