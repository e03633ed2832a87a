-- How long words, trims, names and segments of a text are.
use mathlib.Core.Path.{◌≡◌, ap}
use mathlib.Core.Bool.{Bool, true, false, cond, ◌&&◌}
use mathlib.Core.List.{List, [], ◌∷◌, ◌++◌, map, flatten}
use Prim.Native.Nat.{ℕ, zero, suc, ◌+◌, ◌*◌, ◌≤◌}
use native.Mathlib.Omega.{arith}
use lib.ListN.{length, drop, get_or, length-append, length-drop}
use lib.Dec.{eqb}
use Rattle.parts.specs.Bytes.{Bytes, begins}
use Rattle.chars.specs.Utf8.{characters}
use Rattle.chars.proofs.Characters.{step-some, cut_whole}
use Rattle.words.specs.Words.{white, chars_of, take_while, onto, pieces, nonempty, words, last_of, joined, trim, trim_start, after_word, white_len, word_len, step_of}
use Rattle.words.specs.declared.Set.{Set}
use Rattle.words.specs.declared.Set.TheVariants.{Ascii, Unicode}
use Rattle.words.proofs.Rows.{Row, none, more}
use Rattle.words.proofs.Texts.{chars_flatten, chars_row, trim_start_drop, trim_end_le}
use Rattle.texts.specs.Text.{hard_spaces, body_of, space_if, written, split_breaks, segments}
use Rattle.texts.specs.declared.Normalized.{Normalized}
use Rattle.tape.specs.Name.{strip, bare, in_name_of, name_in_of}
use Rattle.figure.specs.Figure.{split}
use Rattle.render.specs.Note.{first_or}
use Rattle.render.specs.Label.{second_or}

-- ---- trims

module _ (set : Set) where
  pub start_trim_most : (s : Bytes) → length (trim_start set s) ≤ length s
  start_trim_most s = omega (arith, ap length (trim_start_drop set s), length-drop (white_len set s) s)

  pub trim_most : (s : Bytes) → length (trim set s) ≤ length s
  unfolding trim
  trim_most s = omega (arith, trim_end_le set (trim_start set s), start_trim_most s)

  pub after_most : (s : Bytes) → length (after_word set s) ≤ length s
  unfolding after_word
  after_most s = omega (arith, start_trim_most s, length-drop (word_len set (trim_start set s)) (trim_start set s))

-- ---- lists of words

-- words with a byte more for each
unfoldable pub weigh : List Bytes → ℕ
weigh [] = 0
weigh (w ∷ ws) = length w + 1 + weigh ws

onto-weigh : (c : Bytes) (ws : List Bytes) → 1 ≤ weigh ws → (weigh (onto c ws) ≡ length c + weigh ws)
unfolding onto weigh
onto-weigh c [] h = absurd (omega arith)
onto-weigh c (w ∷ ws) h = omega (arith, length-append c w)

nonempty-weigh : (ws : List Bytes) → weigh (nonempty ws) ≤ weigh ws
unfolding nonempty weigh
nonempty-weigh [] = omega arith
nonempty-weigh ([] ∷ ws) = omega (arith, nonempty-weigh ws)
nonempty-weigh ((x ∷ w) ∷ ws) = omega (arith, nonempty-weigh ws)

pub joined_most : (ws : List Bytes) → length (joined ws) ≤ weigh ws
unfolding joined weigh
joined_most [] = omega arith
joined_most (w ∷ []) = omega arith
joined_most (w ∷ v ∷ ws) = omega (arith, joined_most (v ∷ ws), length-append w (32 ∷ joined (v ∷ ws)))

pub last_most : (ws : List Bytes) → length (last_of ws) ≤ weigh ws
unfolding last_of weigh
last_most [] = omega arith
last_most (w ∷ []) = omega arith
last_most (w ∷ v ∷ ws) = omega (arith, last_most (v ∷ ws))

pub first_most : (other : Bytes) (ws : List Bytes) → length (first_or other ws) ≤ length other + weigh ws
unfolding first_or weigh
first_most other [] = omega arith
first_most other (w ∷ ws) = omega arith

pub second_most : (other : Bytes) (ws : List Bytes) → length (second_or other ws) ≤ length other + weigh ws
unfolding second_or weigh
second_most other [] = omega arith
second_most other (w ∷ []) = omega arith
second_most other (w ∷ v ∷ ws) = omega arith

pub behind_most : (ws : List Bytes) → weigh (drop 1 ws) ≤ weigh ws
unfolding weigh
behind_most [] = omega arith
behind_most (w ∷ ws) = omega arith

pub get_most : (ws : List Bytes) (n : ℕ) → length (get_or ws n []) ≤ weigh ws
unfolding weigh
get_most [] n = omega arith
get_most (w ∷ ws) zero = omega arith
get_most (w ∷ ws) (suc n) = omega (arith, get_most ws n)

-- ---- the words of a text

pieces-weigh : (size : Bytes → ℕ) (p : Bytes → Bool) {cs : List Bytes} → Row size cs → (1 ≤ weigh (pieces p cs)) × (weigh (pieces p cs) ≤ length (flatten cs) + 1)
unfolding pieces weigh flatten
pieces-weigh size p none = (omega arith, omega arith)
pieces-weigh size p (more {c} {cs} h e r) = go (pieces-weigh size p r) (p c)
  where
    go : (1 ≤ weigh (pieces p cs)) × (weigh (pieces p cs) ≤ length (flatten cs) + 1) → (x : Bool)
        → (1 ≤ weigh (cond x ([] ∷ pieces p cs) (onto c (pieces p cs)))) × (weigh (cond x ([] ∷ pieces p cs) (onto c (pieces p cs))) ≤ length (c ++ flatten cs) + 1)
    go i true = (omega arith, omega (arith, i.1, length-append c (flatten cs)))
    go i false =
        let o = onto-weigh c (pieces p cs) i.0 in (omega (arith, i.0), omega (arith, i.1, length-append c (flatten cs)))

pub words-weigh : (set : Set) (s : Bytes) → weigh (words set s) ≤ length s + 1
unfolding words
words-weigh set s =
    omega (arith, nonempty-weigh (pieces (white set) (chars_of set s)), (pieces-weigh (step_of set) (white set) (chars_row set s)).1, ap length (chars_flatten set s))

-- ---- names

pub strip_most : (x : ℕ) (s : Bytes) → length (strip x s) ≤ length s
unfolding strip
strip_most x s = go (begins (x ∷ []) s)
  where
    go : (y : Bool) → length (cond y (drop 1 s) s) ≤ length s
    go true = omega (arith, length-drop 1 s)
    go false = omega arith

take_most : (p : Bytes → Bool) (cs : List Bytes) → length (flatten (take_while p cs)) ≤ length (flatten cs)
unfolding take_while flatten
take_most p [] = omega arith
take_most p (c ∷ cs) = go (take_most p cs) (p c)
  where
    go : length (flatten (take_while p cs)) ≤ length (flatten cs) → (x : Bool) → length (flatten (cond x (c ∷ take_while p cs) [])) ≤ length (c ++ flatten cs)
    go h true = omega (arith, length-append c (flatten (take_while p cs)), length-append c (flatten cs))
    go h false = omega arith

pub name_most : (s : Bytes) → length (name_in_of s) ≤ length s
unfolding name_in_of characters bare
name_most s =
    omega (arith, take_most in_name_of (characters (bare s)), ap length (cut_whole step-some (bare s)), strip_most 43 (strip 92 s), strip_most 92 s)

-- ---- bodies and segments

hard_most : (s : Bytes) → length (hard_spaces s) ≤ 2 * length s
unfolding hard_spaces
hard_most [] = omega arith
hard_most (x ∷ s) = go (hard_most s) (eqb x 126)
  where
    go : length (hard_spaces s) ≤ 2 * length s → (y : Bool)
        → length {A = ℕ} (elim y as (λ y. Bytes) [ true ↦ 194 ∷ 160 ∷ hard_spaces s | false ↦ x ∷ hard_spaces s ]) ≤ 2 * suc (length s)
    go h true = omega arith
    go h false = omega arith

pub body_most : (s : Bytes) → length (body_of s) ≤ 2 * length s + 2
unfolding body_of
body_most s = omega (arith, hard_most (joined (words Ascii s)), joined_most (words Ascii s), words-weigh Ascii s)

space_most : (x : Bool) → length (space_if x) ≤ 1
unfolding space_if
space_most true = omega arith
space_most false = omega arith

pub written_most : (s : Bytes) (n : Normalized) → length (written s n) ≤ 2 * length s + 4
unfolding written
written_most s n =
    omega (
      arith,
      space_most n.lead,
      space_most n.trail,
      body_most s,
      length-append (space_if n.lead) (body_of s ++ space_if n.trail),
      length-append (body_of s) (space_if n.trail),
    )

breaks-weigh : (n : ℕ) (s : Bytes) → length s ≤ n → (1 ≤ weigh (split_breaks s)) × (weigh (split_breaks s) ≤ length s + 1)
unfolding split_breaks weigh
breaks-weigh n [] h = (omega arith, omega arith)
breaks-weigh n (x ∷ []) h = (omega arith, omega arith)
breaks-weigh zero (x ∷ y ∷ s) h = absurd (omega arith)
breaks-weigh (suc n) (x ∷ y ∷ s) h = go (breaks-weigh n s (omega arith)) (breaks-weigh n (y ∷ s) (omega arith)) (eqb x 47 && eqb y 47)
  where
    go : (1 ≤ weigh (split_breaks s)) × (weigh (split_breaks s) ≤ length s + 1) → (1 ≤ weigh (split_breaks (y ∷ s))) × (weigh (split_breaks (y ∷ s)) ≤ length (y ∷ s) + 1)
        → (q : Bool)
        → (1 ≤ weigh (elim q as (λ z. List Bytes) [ true ↦ [] ∷ split_breaks s | false ↦ onto (x ∷ []) (split_breaks (y ∷ s)) ]))
        × (weigh (elim q as (λ z. List Bytes) [ true ↦ [] ∷ split_breaks s | false ↦ onto (x ∷ []) (split_breaks (y ∷ s)) ]) ≤ length (x ∷ y ∷ s) + 1)
    go i j true = (omega arith, omega (arith, i.1))
    go i j false = let o = onto-weigh (x ∷ []) (split_breaks (y ∷ s)) j.0 in (omega arith, omega (arith, j.1))

trims_weigh : (ws : List Bytes) → weigh (map (trim Unicode) ws) ≤ weigh ws
unfolding weigh
trims_weigh [] = omega arith
trims_weigh (w ∷ ws) = omega (arith, trims_weigh ws, trim_most Unicode w)

pub segments-weigh : (s : Bytes) → weigh (segments s) ≤ 2 * length s + 3
unfolding segments
segments-weigh s =
    omega (arith, trims_weigh (split_breaks (body_of s)), (breaks-weigh (length (body_of s)) (body_of s) (omega arith)).1, body_most s)

-- ---- fields

pub split-weigh : (x : ℕ) (s : Bytes) → (1 ≤ weigh (split x s)) × (weigh (split x s) ≤ length s + 1)
unfolding split weigh
split-weigh x [] = (omega arith, omega arith)
split-weigh x (y ∷ s) = go (split-weigh x s) (eqb y x)
  where
    go : (1 ≤ weigh (split x s)) × (weigh (split x s) ≤ length s + 1) → (q : Bool)
        → (1 ≤ weigh (cond q ([] ∷ split x s) (onto (y ∷ []) (split x s)))) × (weigh (cond q ([] ∷ split x s) (onto (y ∷ []) (split x s))) ≤ suc (length s) + 1)
    go i true = (omega arith, omega (arith, i.1))
    go i false = let o = onto-weigh (y ∷ []) (split x s) i.0 in (omega arith, omega (arith, i.1))
