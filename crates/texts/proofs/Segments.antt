-- The segments of a body are the bodies of the text's own pieces, trimmed: the text is split, never a copy of its body.
use mathlib.Core.Path.{◌≡◌, refl, sym, ap, ◌∙◌}
use mathlib.Core.Bool.{Bool, true, false, cond, ◌&&◌, ◌||◌, and-false}
use mathlib.Core.List.{List, [], ◌∷◌, ◌++◌, flatten, map, append_assoc, append-nil}
use Prim.Native.Nat.{ℕ, zero, suc, ◌+◌, ◌≤◌, ◌<◌}
use native.Mathlib.Omega.{arith}
use lib.ListN.{length, take, drop, length-append}
use lib.Dec.{eqb}
use borrow.Author.Tests.{eqb-true, le-ltb}
use Rattle.parts.specs.Bytes.{Bytes, b, begins, first_at, find}
use Rattle.parts.proofs.Laws.{and-true as both_hold, or_both}
use Rattle.chars.specs.Space.{is_ascii_white}
use Rattle.chars.specs.Range.{in_any, within}
use Rattle.chars.specs.Utf8.{cut_at}
use Rattle.words.specs.Words.{chars_of, white, drop_while, keep, drop_end, onto, words, joined, trim, trim_end}
use Rattle.words.specs.declared.Set.TheVariants.{Ascii, Unicode}
use Rattle.words.proofs.Steps.{space_white}
use Rattle.words.proofs.Texts.{trim_start_chars}
use Rattle.words.proofs.Joins.{chars_space, space_chars}
use Rattle.texts.specs.Text.{hard_spaces, body_of, spaced, has_break, split_breaks, segments}
use Rattle.texts.proofs.Texts.{hard-append, hard-other, hard_space, joined-tail}
use Rattle.texts.proofs.Breaks.{is_slash, pair_in, slash_pair, break_pair, onto-first, pair-words, pair-hard}
use Rattle.texts.proofs.Told.{told, more, told-nil, more-nil, told-words, told-white, told-solid, more-white, more-solid, joined-nil, spaced-nil, spaced-joined}

-- ---- spaces at the edges of what is trimmed

pub trim_chars : (s : Bytes) → trim Unicode s ≡ flatten (drop_end (white Unicode) (drop_while (white Unicode) (chars_of Unicode s)))
unfolding trim trim_end
trim_chars s = rw (trim_start_chars Unicode s)

module _ (p : Bytes → Bool) (c : Bytes) (h : p c ≡ true) where
  end_more : (ds : List Bytes) → drop_end p (ds ++ c ∷ []) ≡ drop_end p ds
  unfolding drop_end keep
  end_more [] = rw h
  end_more (d ∷ ds) = rw (end_more ds)

  both_more : (cs : List Bytes) → drop_end p (drop_while p (cs ++ c ∷ [])) ≡ drop_end p (drop_while p cs)
  unfolding drop_while
  both_more [] = rw h
  both_more (d ∷ cs) = go (p d) (both_more cs)
    where
      go : (y : Bool) → drop_end p (drop_while p (cs ++ c ∷ [])) ≡ drop_end p (drop_while p cs)
          → drop_end p (cond y (drop_while p (cs ++ c ∷ [])) (d ∷ (cs ++ c ∷ []))) ≡ drop_end p (cond y (drop_while p cs) (d ∷ cs))
      go true e = e
      go false e = end_more (d ∷ cs)

chars_nil : chars_of Unicode [] ≡ []
unfolding chars_of cut_at
chars_nil = refl

trim-lead : (t : Bytes) → trim Unicode (32 ∷ t) ≡ trim Unicode t
unfolding drop_while
trim-lead t = trim_chars (32 ∷ t) ∙ rw (space_chars Unicode t, space_white Unicode) (sym (trim_chars t))

trim_trail : (t : Bytes) → trim Unicode (t ++ 32 ∷ []) ≡ trim Unicode t
trim_trail t =
    trim_chars (t ++ 32 ∷ [])
    ∙ rw (chars_space Unicode t [], space_chars Unicode [], chars_nil, both_more (white Unicode) (32 ∷ []) (space_white Unicode) (chars_of Unicode t)) (sym (trim_chars t))

-- so many spaces
unfoldable spaces : ℕ → Bytes
spaces zero = []
spaces (suc n) = 32 ∷ spaces n

spaces-behind : (n : ℕ) (t : Bytes) → trim Unicode (t ++ spaces n) ≡ trim Unicode t
unfolding spaces
spaces-behind zero t = rw (append-nil t)
spaces-behind (suc n) t = rw (← append_assoc t (32 ∷ []) (spaces n)) (spaces-behind n (t ++ 32 ∷ []) ∙ trim_trail t)

hard-spaces : (n : ℕ) → hard_spaces (spaces n) ≡ spaces n
unfolding spaces hard_spaces
hard-spaces zero = refl
hard-spaces (suc n) = hard_space (spaces n) ∙ rw (hard-spaces n)

-- ---- what follows a solid byte

-- what follows a solid byte: spaces, and the body of the rest
spaced-told : (ws : List Bytes) → (n : ℕ) × (spaced ws ≡ spaces n ++ joined ws)
unfolding spaced spaces joined
spaced-told [] = (0, refl)
spaced-told (w ∷ ws) = (1, rw (joined-tail w ws))

more-told : (s : Bytes) → (n : ℕ) × (more s ≡ spaces n ++ told s)
unfolding spaces
more-told [] = (0, more-nil ∙ sym told-nil)
more-told (x ∷ s) = go (is_ascii_white x) refl
  where
    go : (y : Bool) → is_ascii_white x ≡ y → (n : ℕ) × (more (x ∷ s) ≡ spaces n ++ told (x ∷ s))
    go true e = let (n, h) = spaced-told (words Ascii s) in (n, more-white x s e ∙ h ∙ sym (ap (λ (a : Bytes). spaces n ++ a) (told-white x s e ∙ told-words s)))
    go false e = (0, more-solid x s e ∙ sym (told-solid x s e))

blank_up : (n : ℕ) (t : Bytes) {m u : Bytes} → m ≡ [] → u ≡ [] → m ++ (spaces (suc n) ++ t) ≡ 32 ∷ (u ++ (spaces n ++ t))
unfolding spaces
blank_up n t em eu = rw (em, eu)

-- ---- a solid byte in a text

-- what is told of a text up to a solid byte, whatever follows that
record Up (f : Bytes → Bytes) (u : Bytes) : Type 0 where
  n : ℕ
  told-up : (x : ℕ) (z : Bytes) → is_ascii_white x ≡ false → f (u ++ x ∷ z) ≡ f u ++ (spaces n ++ (x ∷ more z))

module _ (u : Bytes) (i : Up told u) where
  -- a text with a solid byte has a word
  spaced_up : (x : ℕ) (z : Bytes) → is_ascii_white x ≡ false → spaced (words Ascii (u ++ x ∷ z)) ≡ 32 ∷ (told u ++ (spaces i.n ++ (x ∷ more z)))
  spaced_up x z h = go (words Ascii (u ++ x ∷ z)) (told-words (u ++ x ∷ z))
    where
      some : told (u ++ x ∷ z) ≡ told u ++ (spaces i.n ++ (x ∷ more z))
      some = i.told-up x z h

      go : (ws : List Bytes) → told (u ++ x ∷ z) ≡ joined ws → spaced ws ≡ 32 ∷ (told u ++ (spaces i.n ++ (x ∷ more z)))
      go [] e = absurd (omega (arith, ap length (sym some ∙ e ∙ joined-nil), length-append (told u) (spaces i.n ++ (x ∷ more z)), length-append (spaces i.n) (x ∷ more z)))
      go (w ∷ ws) e = spaced-joined w ws ∙ ap (λ (a : Bytes). 32 ∷ a) (sym e ∙ some)

  up-white : (y : ℕ) → is_ascii_white y ≡ true → Up more (y ∷ u)
  up-white y e = go (words Ascii u) refl
    where
      go : (ws : List Bytes) → words Ascii u ≡ ws → Up more (y ∷ u)
      go [] h = record {
        n = suc i.n;
        told-up = λ x z hx. more-white y (u ++ x ∷ z) e ∙ spaced_up x z hx ∙ sym (blank_up i.n (x ∷ more z) (more-white y u e ∙ ap spaced h ∙ spaced-nil) (told-words u ∙ ap joined h ∙ joined-nil));
      }
      go (w ∷ ws) h = record {
        n = i.n;
        told-up = λ x z hx. more-white y (u ++ x ∷ z) e ∙ spaced_up x z hx ∙ sym (ap (λ (a : Bytes). a ++ (spaces i.n ++ (x ∷ more z))) (more-white y u e ∙ ap spaced h ∙ spaced-joined w ws ∙ ap (λ (a : Bytes). 32 ∷ a) (sym (told-words u ∙ ap joined h))));
      }

up_both : (u : Bytes) → Up told u × Up more u
unfolding spaces
up_both [] = (
  record { n = 0; told-up = λ x z h. told-solid x z h ∙ rw told-nil },
  record { n = 0; told-up = λ x z h. more-solid x z h ∙ rw more-nil },
)
up_both (y ∷ u) = go (is_ascii_white y) refl (up_both u)
  where
    go : (a : Bool) → is_ascii_white y ≡ a → Up told u × Up more u → Up told (y ∷ u) × Up more (y ∷ u)
    go true e (i, j) = (
      record { n = i.n; told-up = λ x z h. told-white y (u ++ x ∷ z) e ∙ i.told-up x z h ∙ sym (ap (λ (a : Bytes). a ++ (spaces i.n ++ (x ∷ more z))) (told-white y u e)) },
      up-white u i y e,
    )
    go false e (i, j) = (
      record {
        n = j.n;
        told-up = λ x z h. told-solid y (u ++ x ∷ z) e ∙ rw (j.told-up x z h) (sym (ap (λ (a : Bytes). a ++ (spaces j.n ++ (x ∷ more z))) (told-solid y u e)));
      },
      record {
        n = j.n;
        told-up = λ x z h. more-solid y (u ++ x ∷ z) e ∙ rw (j.told-up x z h) (sym (ap (λ (a : Bytes). a ++ (spaces j.n ++ (x ∷ more z))) (more-solid y u e)));
      },
    )

-- ---- splits

module _ (x y : ℕ) (s : Bytes) where
  split_here : eqb x 47 && eqb y 47 ≡ true → split_breaks (x ∷ y ∷ s) ≡ [] ∷ split_breaks s
  unfolding split_breaks
  split_here h = go (eqb x 47 && eqb y 47) h
    where
      go : (z : Bool) → z ≡ true → elim z as (λ z. List Bytes) [ true ↦ [] ∷ split_breaks s | false ↦ onto (x ∷ []) (split_breaks (y ∷ s)) ] ≡ [] ∷ split_breaks s
      go true e = refl
      go false e = absurd (let no_way : ◌≡◌ {A = ℕ} 0 1 = cc in omega arith)

  split-past : eqb x 47 && eqb y 47 ≡ false → split_breaks (x ∷ y ∷ s) ≡ onto (x ∷ []) (split_breaks (y ∷ s))
  unfolding split_breaks
  split-past h = go (eqb x 47 && eqb y 47) h
    where
      go : (z : Bool) → z ≡ false
          → elim z as (λ z. List Bytes) [ true ↦ [] ∷ split_breaks s | false ↦ onto (x ∷ []) (split_breaks (y ∷ s)) ] ≡ onto (x ∷ []) (split_breaks (y ∷ s))
      go true e = absurd (let no_way : ◌≡◌ {A = ℕ} 0 1 = cc in omega arith)
      go false e = refl

  pair-past : pair_in (x ∷ y ∷ s) ≡ (eqb x 47 && eqb y 47) || pair_in (y ∷ s)
  unfolding pair_in is_slash
  pair-past = refl

-- without `//` there is one piece
split-none : (s : Bytes) → pair_in s ≡ false → split_breaks s ≡ s ∷ []
unfolding split_breaks
split-none [] e = refl
split-none (x ∷ []) e = refl
split-none (x ∷ y ∷ s) e =
    let h = or_both (eqb x 47 && eqb y 47) (pair_in (y ∷ s)) (sym (pair-past x y s) ∙ e) in
    split-past x y s h.0 ∙ rw (split-none (y ∷ s) h.1) (onto-first x (y ∷ s) [])

-- the first `//` ends the first piece
split_at : (t w : Bytes) → pair_in (t ++ 47 ∷ []) ≡ false → split_breaks (t ++ 47 ∷ 47 ∷ w) ≡ t ∷ split_breaks w
split_at [] w e = split_here 47 47 w refl
split_at (x ∷ []) w e =
    let h = or_both (eqb x 47 && eqb 47 47) (pair_in (47 ∷ [])) (sym (pair-past x 47 []) ∙ e) in
    split-past x 47 (47 ∷ w) h.0 ∙ rw (split_here 47 47 w refl) (onto-first x [] (split_breaks w))
split_at (x ∷ y ∷ t) w e =
    let h = or_both (eqb x 47 && eqb y 47) (pair_in (y ∷ (t ++ 47 ∷ []))) (sym (pair-past x y (t ++ 47 ∷ [])) ∙ e) in
    split-past x y (t ++ 47 ∷ 47 ∷ w) h.0 ∙ rw (split_at (y ∷ t) w h.1) (onto-first x (y ∷ t) (split_breaks w))

onto-nil : (x : ℕ) → onto (x ∷ []) [] ≡ (x ∷ []) ∷ []
unfolding onto
onto-nil x = refl

split-some : (s : Bytes) → split_breaks s ≡ [] → ⊥
unfolding split_breaks
split-some [] e = let no_way : ◌≡◌ {A = ℕ} 0 1 = cc in omega arith
split-some (x ∷ []) e = let no_way : ◌≡◌ {A = ℕ} 0 1 = cc in omega arith
split-some (x ∷ y ∷ s) e = go (eqb x 47 && eqb y 47) refl
  where
    onto-some : (q : List Bytes) → onto (x ∷ []) q ≡ [] → ⊥
    onto-some [] h = let no_way : ◌≡◌ {A = ℕ} 0 1 = cc (onto-nil x) in omega arith
    onto-some (p ∷ q) h = let no_way : ◌≡◌ {A = ℕ} 0 1 = cc (onto-first x p q) in omega arith

    go : (z : Bool) → eqb x 47 && eqb y 47 ≡ z → ⊥
    go true h = let no_way : ◌≡◌ {A = ℕ} 0 1 = cc (split_here x y s h) in omega arith
    go false h = onto-some (split_breaks (y ∷ s)) (sym (split-past x y s h) ∙ e)

-- spaces in front go by the trim
split_space : (t : Bytes) → map (trim Unicode) (split_breaks (32 ∷ t)) ≡ map (trim Unicode) (split_breaks t)
unfolding split_breaks
split_space [] = rw (trim-lead [])
split_space (y ∷ t) = ap (map (trim Unicode)) (split-past 32 y t refl) ∙ go (split_breaks (y ∷ t)) refl
  where
    go : (q : List Bytes) → split_breaks (y ∷ t) ≡ q → map (trim Unicode) (onto (32 ∷ []) q) ≡ map (trim Unicode) q
    go [] e = absurd (split-some (y ∷ t) e)
    go (p ∷ q) e = rw (onto-first 32 p q, trim-lead p)

split-spaces : (n : ℕ) (t : Bytes) → map (trim Unicode) (split_breaks (spaces n ++ t)) ≡ map (trim Unicode) (split_breaks t)
unfolding spaces
split-spaces zero t = refl
split-spaces (suc n) t = split_space (spaces n ++ t) ∙ split-spaces n t

-- a text with `//`, cut at the first
record Cut (s : Bytes) : Type 0 where
  u : Bytes
  v : Bytes
  whole : s ≡ u ++ 47 ∷ 47 ∷ v
  first : pair_in (u ++ 47 ∷ []) ≡ false

slash_same : (u v w : Bytes) → is_slash (u ++ 47 ∷ v) ≡ is_slash (u ++ 47 ∷ w)
unfolding is_slash
slash_same [] v w = refl
slash_same (x ∷ u) v w = refl

pair-nil : pair_in [] ≡ false
unfolding pair_in
pair-nil = refl

pair_one : (x : ℕ) → pair_in (x ∷ []) ≡ false
unfolding pair_in is_slash
pair_one x = rw (and-false (eqb x 47))

pair-cons : (x : ℕ) (s : Bytes) → pair_in (x ∷ s) ≡ (eqb x 47 && is_slash s) || pair_in s
unfolding pair_in
pair-cons x s = refl

slash_cons : (y : ℕ) (s : Bytes) → is_slash (y ∷ s) ≡ eqb y 47
unfolding is_slash
slash_cons y s = refl

pair_front : (x y : ℕ) (s u w : Bytes) → eqb x 47 && eqb y 47 ≡ false → y ∷ s ≡ u ++ 47 ∷ w → pair_in (u ++ 47 ∷ []) ≡ false
    → pair_in ((x ∷ u) ++ 47 ∷ []) ≡ false
pair_front x y s u w h e f =
    let z : is_slash (u ++ 47 ∷ []) ≡ eqb y 47 = slash_same u [] w ∙ sym (ap is_slash e) ∙ slash_cons y s in
    pair-cons x (u ++ 47 ∷ []) ∙ rw (z, h, f)

cut_of : (s : Bytes) → pair_in s ≡ true → Cut s
cut_of [] e = absurd (let no_way : ◌≡◌ {A = ℕ} 0 1 = cc pair-nil in omega arith)
cut_of (x ∷ []) e = absurd (let no_way : ◌≡◌ {A = ℕ} 0 1 = cc (pair_one x) in omega arith)
cut_of (x ∷ y ∷ s) e = go (eqb x 47 && eqb y 47) refl (cut_of (y ∷ s))
  where
    go : (z : Bool) → eqb x 47 && eqb y 47 ≡ z → (pair_in (y ∷ s) ≡ true → Cut (y ∷ s)) → Cut (x ∷ y ∷ s)
    go true h later =
        let both = both_hold (eqb x 47) (eqb y 47) h in
        let ex : x ≡ 47 = eqb-true x 47 both.0 in
        let ey : y ≡ 47 = eqb-true y 47 both.1 in
        record { u = []; v = s; whole = rw (ex, ey); first = pair_one 47 }
    go false h later =
        let c : Cut (y ∷ s) = later (sym (pair-past x y s ∙ rw h) ∙ e) in
        record {
          u = x ∷ c.u;
          v = c.v;
          whole = ap (λ (a : Bytes). x ∷ a) c.whole;
          first = pair_front x y s c.u (47 ∷ c.v) h c.whole c.first;
        }

-- ---- pieces by `find_pair`

module _ (x : ℕ) (s : Bytes) where
  find_here : begins (b "//") (x ∷ s) ≡ true → find (b "//") (x ∷ s) ≡ 0
  unfolding first_at
  find_here h = rw (h, first_at)

  find_past : begins (b "//") (x ∷ s) ≡ false → find (b "//") (x ∷ s) ≡ suc (find (b "//") s)
  unfolding first_at
  find_past h = rw (h, first_at)

find-nil : find (b "//") [] ≡ 0
unfolding first_at
find-nil = refl

one_begins : (x : ℕ) → begins (b "//") (x ∷ []) ≡ false
unfolding begins
one_begins x = and-false (eqb 47 x)

split-found : (s : Bytes) → find (b "//") s < length s
    → split_breaks s ≡ take (find (b "//") s) s ∷ split_breaks (drop (suc (suc (find (b "//") s))) s)
split-found [] h = absurd (omega (arith, find-nil))
split-found (x ∷ []) h = absurd (omega (arith, find_past x [] (one_begins x), find-nil))
split-found (x ∷ y ∷ s) h = go (eqb x 47 && eqb y 47) refl (split-found (y ∷ s))
  where
    pair : begins (b "//") (x ∷ y ∷ s) ≡ eqb x 47 && eqb y 47
    pair = slash_pair x (y ∷ s) ∙ rw (slash_cons y s)

    go : (z : Bool) → eqb x 47 && eqb y 47 ≡ z
        → (find (b "//") (y ∷ s) < length (y ∷ s)
        → split_breaks (y ∷ s) ≡ take (find (b "//") (y ∷ s)) (y ∷ s) ∷ split_breaks (drop (suc (suc (find (b "//") (y ∷ s)))) (y ∷ s)))
        → split_breaks (x ∷ y ∷ s) ≡ take (find (b "//") (x ∷ y ∷ s)) (x ∷ y ∷ s) ∷ split_breaks (drop (suc (suc (find (b "//") (x ∷ y ∷ s)))) (x ∷ y ∷ s))
    go true e later = rw (find_here x (y ∷ s) (pair ∙ e)) (split_here x y s e)
    go false e later =
        let f : find (b "//") (x ∷ y ∷ s) ≡ suc (find (b "//") (y ∷ s)) = find_past x (y ∷ s) (pair ∙ e) in
        let n : ℕ = find (b "//") (y ∷ s) in
        rw f (split-past x y s e ∙ rw (later (omega (arith, f))) (onto-first x (take n (y ∷ s)) (split_breaks (drop (suc (suc n)) (y ∷ s)))))

module _ (s : Bytes) {n : ℕ} (en : n ≡ find (47 ∷ 47 ∷ []) s) where
  -- the last piece
  pub split-last : length s ≤ n → split_breaks s ≡ s ∷ []
  unfolding has_break
  split-last h = split-none s (sym (break_pair s) ∙ rw (← en) (le-ltb n (length s) h))

  -- a piece, and the pieces behind `//`
  pub split-next : n < length s → split_breaks s ≡ take n s ∷ split_breaks (drop (n + 2) s)
  split-next h = let e : n + 2 ≡ suc (suc n) = omega arith in rw (e, en) (split-found s (rw en at h))

-- ---- the segments

slash_solid : is_ascii_white 47 ≡ false
unfolding is_ascii_white in_any within
slash_solid = refl

told_break : (u v : Bytes) → (n : ℕ) × (told (u ++ 47 ∷ 47 ∷ v) ≡ told u ++ (spaces n ++ (47 ∷ 47 ∷ more v))) × (told (u ++ 47 ∷ []) ≡ told u ++ (spaces n ++ (47 ∷ [])))
told_break u v =
    let i : Up told u = (up_both u).0 in
    (i.n, i.told-up 47 (47 ∷ v) slash_solid ∙ rw (more-solid 47 v slash_solid), i.told-up 47 [] slash_solid ∙ rw more-nil)

hard-nil : hard_spaces [] ≡ []
unfolding hard_spaces
hard-nil = refl

hard_slash : (s : Bytes) → hard_spaces (47 ∷ s) ≡ 47 ∷ hard_spaces s
hard_slash s = hard-other 47 s (λ h. omega arith)

-- what is written of a piece
unfoldable shown : Bytes → Bytes
shown r = trim Unicode (hard_spaces (told r))

pair-told : (s : Bytes) → pair_in (hard_spaces (told s)) ≡ pair_in s
unfolding told
pair-told s = pair-hard (joined (words Ascii s)) ∙ pair-words s

shown_one : (s : Bytes) → pair_in s ≡ false → map (trim Unicode) (split_breaks (hard_spaces (told s))) ≡ map shown (split_breaks s)
unfolding shown
shown_one s e = rw (split-none s e, split-none (hard_spaces (told s)) (pair-told s ∙ e))

-- the first piece and the others
shown-first : (s : Bytes) (c : Cut s)
    → ((v : Bytes) → length v < length s → map (trim Unicode) (split_breaks (hard_spaces (told v))) ≡ map shown (split_breaks v))
    → map (trim Unicode) (split_breaks (hard_spaces (told s))) ≡ map shown (split_breaks s)
unfolding shown
shown-first s c later =
    let u : Bytes = c.u in
    let v : Bytes = c.v in
    let (n, eb, es) = told_break u v in
    let (m, em) = more-told v in
    let t : Bytes = hard_spaces (told u) ++ spaces n in
    let et : (w : Bytes) → hard_spaces (told u ++ (spaces n ++ w)) ≡ t ++ hard_spaces w = λ w. hard-append (told u) (spaces n ++ w) ∙ rw (hard-append (spaces n) w, hard-spaces n) (sym (append_assoc (hard_spaces (told u)) (spaces n) (hard_spaces w))) in
    let e₁ : hard_spaces (told s) ≡ t ++ 47 ∷ 47 ∷ hard_spaces (more v) = rw (c.whole, eb) (et (47 ∷ 47 ∷ more v) ∙ rw (hard_slash (47 ∷ more v), hard_slash (more v))) in
    let e₂ : hard_spaces (told (u ++ 47 ∷ [])) ≡ t ++ 47 ∷ [] = rw es (et (47 ∷ []) ∙ rw (hard_slash [], hard-nil)) in
    let p : pair_in (t ++ 47 ∷ []) ≡ false = sym (ap pair_in e₂) ∙ pair-told (u ++ 47 ∷ []) ∙ c.first in
    let e₃ : hard_spaces (more v) ≡ spaces m ++ hard_spaces (told v) = rw em (hard-append (spaces m) (told v) ∙ rw (hard-spaces m)) in
    let h : length v < length s = omega (arith, ap length c.whole, length-append u (47 ∷ 47 ∷ v)) in
    let left : map (trim Unicode) (split_breaks (hard_spaces (told s))) ≡ trim Unicode t ∷ map (trim Unicode) (split_breaks (hard_spaces (more v))) = ap (map (trim Unicode)) (ap split_breaks e₁ ∙ split_at t (hard_spaces (more v)) p) in
    let right : map shown (split_breaks s) ≡ shown u ∷ map shown (split_breaks v) = ap (map shown) (ap split_breaks c.whole ∙ split_at u v c.first) in
    left
    ∙ rw (spaces-behind n (hard_spaces (told u)), e₃, split-spaces m (hard_spaces (told v)), later v h)
    (sym right)

shown-all : (k : ℕ) (s : Bytes) → length s < k → map (trim Unicode) (split_breaks (hard_spaces (told s))) ≡ map shown (split_breaks s)
shown-all zero s l = absurd (omega arith)
shown-all (suc k) s l = go (pair_in s) refl (shown-all k)
  where
    go : (y : Bool) → pair_in s ≡ y → ((v : Bytes) → length v < k → map (trim Unicode) (split_breaks (hard_spaces (told v))) ≡ map shown (split_breaks v))
        → map (trim Unicode) (split_breaks (hard_spaces (told s))) ≡ map shown (split_breaks s)
    go false e later = shown_one s e
    go true e later = shown-first s (cut_of s e) (λ v h. later v (omega arith))

-- the segments of a body: the text is split at each `//`, and of each piece the body is trimmed
pub segments_bodies : (s : Bytes) → segments s ≡ map (λ (r : Bytes). trim Unicode (body_of r)) (split_breaks s)
unfolding segments body_of shown told
segments_bodies s = shown-all (suc (length s)) s (omega arith)
