-- A body holds `//` exactly where its text does.
use mathlib.Core.Path.{◌≡◌, refl, sym, ap, ◌∙◌}
use mathlib.Core.Bool.{Bool, true, false, cond, ◌&&◌, ◌||◌, and-true, or_assoc, or-false, and-false}
use mathlib.Core.List.{List, [], ◌∷◌, ◌++◌}
use Prim.Native.Nat.{ℕ, suc}
use native.Mathlib.Omega.{arith}
use lib.ListN.{length, get_or}
use lib.Dec.{eqb, ltb}
use borrow.Author.Tests.{eq-eqb, ne_eqb, eqb-true, eqb-false, ltb-true, ltb-false, lt-ltb, le-ltb}
use Rattle.parts.specs.Bytes.{Bytes, b, begins, first_at, find}
use Rattle.chars.specs.Range.{in_any, within}
use Rattle.chars.specs.Space.{is_ascii_white}
use Rattle.chars.specs.Utf8.{cut_at}
use Rattle.words.specs.Words.{chars_of, white, onto, pieces, nonempty, words, joined}
use Rattle.words.specs.declared.Set.TheVariants.{Ascii}
use Rattle.words.proofs.Bytes.{ascii_chars}
use Rattle.words.proofs.Runs.{pieces-some}
use Rattle.texts.specs.Text.{hard_spaces, body_of, has_break}
use Rattle.texts.proofs.Texts.{hard_tilde, hard-other, by_tilde}

-- ---- `//`, byte by byte

-- whether a text begins with a slash
unfoldable pub is_slash : Bytes → Bool
is_slash s = eqb (get_or s 0 0) 47

-- whether two slashes stand in a row
unfoldable pub pair_in : Bytes → Bool
pair_in [] = false
pair_in (x ∷ s) = (eqb x 47 && is_slash s) || pair_in s

swap : (x y : ℕ) → eqb x y ≡ eqb y x
swap x y = go (eqb y x) refl
  where
    go : (z : Bool) → eqb y x ≡ z → eqb x y ≡ z
    go true e = eq-eqb x y (sym (eqb-true y x e))
    go false e = ne_eqb x y (λ h. eqb-false y x e (sym h))

slash_front : (x : ℕ) (s z : Bytes) → is_slash (x ∷ s) ≡ is_slash (x ∷ z)
unfolding is_slash
slash_front x s z = refl

pub slash_pair : (x : ℕ) (s : Bytes) → begins (b "//") (x ∷ s) ≡ eqb x 47 && is_slash s
unfolding begins is_slash
slash_pair x [] = rw (swap 47 x)
slash_pair x (y ∷ s) = rw (swap 47 x, swap 47 y, and-true (eqb y 47))

ltb_suc : (a z : ℕ) → ltb (suc a) (suc z) ≡ ltb a z
ltb_suc a z = go (ltb a z) refl
  where
    go : (y : Bool) → ltb a z ≡ y → ltb (suc a) (suc z) ≡ y
    go true e = lt-ltb (suc a) (suc z) (omega (arith, ltb-true a z e))
    go false e = le-ltb (suc a) (suc z) (omega (arith, ltb-false a z e))

pub break_pair : (s : Bytes) → has_break s ≡ pair_in s
unfolding has_break first_at pair_in
break_pair [] = refl
break_pair (x ∷ s) = rw (slash_pair x s, first_at) (go (eqb x 47 && is_slash s) (break_pair s))
  where
    go : (y : Bool) → ltb (find (b "//") s) (length s) ≡ pair_in s
        → ltb (elim y as (λ z. ℕ) [ true ↦ 0 | false ↦ suc (find (b "//") s) ]) (suc (length s)) ≡ y || pair_in s
    go true e = lt-ltb 0 (suc (length s)) (omega arith)
    go false e = ltb_suc (find (b "//") s) (length s) ∙ e

white_not_slash : (x : ℕ) → is_ascii_white x ≡ true → eqb x 47 ≡ false
unfolding is_ascii_white in_any within
white_not_slash x h = ne_eqb x 47 (λ e. let z : ◌≡◌ {A = Bool} false true = sym (ap is_ascii_white e) ∙ h in let no_way : ◌≡◌ {A = ℕ} 0 1 = cc in omega arith)

pub pieces_step : (x : ℕ) (s : Bytes)
    → pieces (white Ascii) (chars_of Ascii (x ∷ s))
    ≡ cond (is_ascii_white x) ([] ∷ pieces (white Ascii) (chars_of Ascii s)) (onto (x ∷ []) (pieces (white Ascii) (chars_of Ascii s)))
unfolding pieces white
pieces_step x s = rw (ascii_chars x s)

-- ---- words joined by a space

pair_space : (p t : Bytes) → pair_in (p ++ 32 ∷ t) ≡ pair_in p || pair_in t
unfolding pair_in is_slash
pair_space [] t = refl
pair_space (x ∷ []) t = rw (and-false (eqb x 47))
pair_space (x ∷ y ∷ p) t = rw (pair_space (y ∷ p) t) (sym (or_assoc (eqb x 47 && eqb y 47) (pair_in (y ∷ p)) (pair_in t)))

pair-joined : (p : Bytes) (rest : List Bytes) → pair_in (joined (nonempty (p ∷ rest))) ≡ pair_in p || pair_in (joined (nonempty rest))
unfolding nonempty pair_in joined
pair-joined [] rest = refl
pair-joined (x ∷ p) rest = go (nonempty rest)
  where
    go : (ws : List Bytes) → pair_in (joined ((x ∷ p) ∷ ws)) ≡ pair_in (x ∷ p) || pair_in (joined ws)
    go [] = sym (or-false (pair_in (x ∷ p)))
    go (v ∷ ws) = pair_space (x ∷ p) (joined (v ∷ ws))

-- the first piece of a text and the others hold the slashes of the text
record Piece (s p : Bytes) (rest : List Bytes) : Type 0 where
  slash : is_slash p ≡ is_slash s
  pair : pair_in p || pair_in (joined (nonempty rest)) ≡ pair_in s

pub onto-first : (x : ℕ) (q : Bytes) (qs : List Bytes) → onto (x ∷ []) (q ∷ qs) ≡ (x ∷ q) ∷ qs
unfolding onto
onto-first x q qs = refl

none : (p : Bytes) (rest : List Bytes) → pieces (white Ascii) (chars_of Ascii []) ≡ p ∷ rest → Piece [] p rest
unfolding chars_of cut_at pieces pair_in nonempty joined
none p rest e =
    let ep : p ≡ [] = cc in
    let er : rest ≡ [] = cc in
    rw (ep, er) (record { slash = refl; pair = refl })

module _ (x : ℕ) (s q : Bytes) (qs : List Bytes) where
  behind-white : is_ascii_white x ≡ true → Piece s q qs → Piece (x ∷ s) [] (q ∷ qs)
  unfolding pair_in is_slash
  behind-white h i = record {
    slash = sym (white_not_slash x h);
    pair = rw (white_not_slash x h) (pair-joined q qs ∙ i.pair);
  }

  behind-solid : Piece s q qs → Piece (x ∷ s) (x ∷ q) qs
  unfolding pair_in
  behind-solid i = record {
    slash = slash_front x q s;
    pair = or_assoc (eqb x 47 && is_slash q) (pair_in q) (pair_in (joined (nonempty qs))) ∙ rw (i.slash, i.pair);
  }

piece_of : (s p : Bytes) (rest : List Bytes) → pieces (white Ascii) (chars_of Ascii s) ≡ p ∷ rest → Piece s p rest
piece_of [] p rest e = none p rest e
piece_of (x ∷ s) p rest e = go (pieces (white Ascii) (chars_of Ascii s)) refl (is_ascii_white x) refl (piece_of s)
  where
    go : (q : List Bytes) → pieces (white Ascii) (chars_of Ascii s) ≡ q → (y : Bool) → is_ascii_white x ≡ y
        → ((p : Bytes) (rest : List Bytes) → pieces (white Ascii) (chars_of Ascii s) ≡ p ∷ rest → Piece s p rest) → Piece (x ∷ s) p rest
    go [] eq y ey more = absurd (pieces-some (white Ascii) (chars_of Ascii s) eq)
    go (q ∷ qs) eq true ey more =
        let h : p ∷ rest ≡ [] ∷ (q ∷ qs) = sym e ∙ pieces_step x s ∙ rw (ey, eq) in
        let ep : p ≡ [] = cc in
        let er : rest ≡ q ∷ qs = cc in
        rw (ep, er) (behind-white x s q qs ey (more q qs eq))
    go (q ∷ qs) eq false ey more =
        let h : p ∷ rest ≡ onto (x ∷ []) (q ∷ qs) = sym e ∙ pieces_step x s ∙ rw (ey, eq) in
        let h₂ : p ∷ rest ≡ (x ∷ q) ∷ qs = h ∙ onto-first x q qs in
        let ep : p ≡ x ∷ q = cc in
        let er : rest ≡ qs = cc in
        rw (ep, er) (behind-solid x s q qs (more q qs eq))

pub pair-words : (s : Bytes) → pair_in (joined (words Ascii s)) ≡ pair_in s
unfolding words
pair-words s = go (pieces (white Ascii) (chars_of Ascii s)) refl
  where
    go : (q : List Bytes) → pieces (white Ascii) (chars_of Ascii s) ≡ q → pair_in (joined (nonempty q)) ≡ pair_in s
    go [] e = absurd (pieces-some (white Ascii) (chars_of Ascii s) e)
    go (p ∷ rest) e = pair-joined p rest ∙ (piece_of s p rest e).pair

-- ---- `~` is no slash, nor what it becomes

slash_hard : (s : Bytes) → is_slash (hard_spaces s) ≡ is_slash s
unfolding hard_spaces is_slash
slash_hard [] = refl
slash_hard (x ∷ s) = by_tilde x (λ h. rw (hard_tilde x s h, h)) (λ h. rw (hard-other x s h))

pub pair-hard : (s : Bytes) → pair_in (hard_spaces s) ≡ pair_in s
unfolding pair_in hard_spaces
pair-hard [] = refl
pair-hard (x ∷ s) = by_tilde x (λ h. rw (hard_tilde x s h, h) (pair-hard s)) (λ h. rw (hard-other x s h, slash_hard s, pair-hard s))

-- a body holds `//` exactly where its text does
pub break_body : (s : Bytes) → has_break (body_of s) ≡ has_break s
unfolding body_of
break_body s = break_pair (hard_spaces (joined (words Ascii s))) ∙ pair-hard (joined (words Ascii s)) ∙ pair-words s ∙ sym (break_pair s)

pub break_found : (s : Bytes) {n : ℕ} → n ≡ find (47 ∷ 47 ∷ []) s → ltb n (length s) ≡ has_break (body_of s)
unfolding has_break
break_found s en = sym (break_body s ∙ rw en)
