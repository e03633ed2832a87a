-- Laws of marker names.
use mathlib.Core.Path.{◌≡◌, refl, sym, ap, ◌∙◌}
use mathlib.Core.Bool.{Bool, true, false, cond, not}
use mathlib.Core.List.{List, [], ◌∷◌, ◌++◌, flatten}
use Prim.Native.Nat.{ℕ, ◌+◌, ◌-◌, ◌≤◌, ◌<◌}
use native.Mathlib.Omega.{arith}
use lib.ListN.{length, get_or, take, drop, drop_of_length-le, length-drop, length-append}
use lib.Seq.{length-take-le, take-append-add}
use lib.Dec.{eqb}
use borrow.Author.Tests.{ne_eqb, not-true}
use Rattle.parts.specs.Bytes.{Bytes, part, same, begins}
use Rattle.parts.proofs.Laws.{drop_at}
use Rattle.chars.specs.Utf8.{seq_len, step, cut_at, characters, code_of, first_char}
use Rattle.chars.specs.declared.Char.{Char}
use Rattle.chars.proofs.Laws.{first_one, len_ascii}
use Rattle.chars.proofs.White.{between_white}
use Rattle.chars.proofs.Characters.{step-some, step-le, cut_at_lem, cut_whole}
use Rattle.words.specs.Words.{take_while}
use Rattle.tape.specs.File.{Tape, text_at_of, info_at, entry_name}
use Rattle.tape.specs.Name.{strip, bare, ends_name_of, in_name_of, name_len, name_in_of, marker_name, named, entry_is_of}
use Rattle.tape.specs.declared.Entry.{Entry}
use Rattle.tape.specs.Found.{Info}
use Rattle.std.specs.Prelude.{None, Some}

-- ---- the front

pub strip-some : (x : ℕ) (s : Bytes) {t : Bool} {r : Bytes} → t ≡ begins (x ∷ []) s → t ≡ true → r ≡ drop 1 s → r ≡ strip x s
unfolding strip
strip-some x s et t er = rw (← et, t) er

pub strip-none : (x : ℕ) (s : Bytes) {t : Bool} → t ≡ begins (x ∷ []) s → t ≡ false → s ≡ strip x s
unfolding strip
strip-none x s et t = rw (← et, t)

pub bare_of : (s : Bytes) {u v : Bytes} → u ≡ strip 92 s → v ≡ strip 43 u → v ≡ bare s
unfolding bare
bare_of s eu ev = ev ∙ ap (strip 43) eu

-- ---- what ends a name

-- ---- bytes that end no name

pub name_byte_not : (x : ℕ) → false ≡ true → (x < 128) × (ends_name_of x ≡ false)
name_byte_not x e = let z : ◌≡◌ {A = ℕ} 0 1 = cc in absurd (omega arith)

pub name_byte : (x : ℕ) → 48 ≤ x → x ≤ 122 → not (eqb x 92) ≡ true → (x < 128) × (ends_name_of x ≡ false)
unfolding ends_name_of
name_byte x l h n =
    let slash : eqb x 92 ≡ false = not-true (eqb x 92) n in
    (omega arith, rw (← between_white x (omega arith) (omega arith), ne_eqb x 42 (λ e. omega arith), ne_eqb x 124 (λ e. omega arith), slash))

-- ---- the name's length, a character a turn

module _ (s : Bytes) (i : ℕ) (h : i < length s) {r : Bytes} {c : Char} (er : r ≡ drop i s) (ec : c ≡ first_char r) where
  char_code : c.code ≡ code_of (take (step (drop i s)) (drop i s))
  unfolding first_char
  char_code = ap (λ (x : Char). x.code) ec ∙ ap (λ (z : Bytes). code_of (take (step z) z)) er

  char_width : c.width ≡ step (drop i s)
  unfolding first_char
  char_width = ap (λ (x : Char). x.width) ec ∙ ap step er

  rest_some : 0 < length (drop i s)
  rest_some = rw (length-drop i s) (omega arith)

  -- the text goes on behind the character
  pub name-fits : i + c.width ≤ length s
  name-fits = omega (arith, char_width, step-le (drop i s), length-drop i s)

  pub name_less : length s - (i + c.width) < length s - i
  name_less = omega (arith, char_width, step-some (drop i s) rest_some, name-fits)

  name-cut : characters (drop i s) ≡ take c.width (drop i s) ∷ characters (drop (i + c.width) s)
  unfolding characters
  name-cut = rw char_width (cut_at_lem step-some s i h)

  in_name : in_name_of (take c.width (drop i s)) ≡ not (ends_name_of c.code)
  unfolding in_name_of
  in_name = rw (char_code, char_width)

  pub name-turn : (n : ℕ) {t : Bool} → t ≡ ends_name_of c.code → t ≡ false → i + name_len (drop i s) ≡ n → i + c.width + name_len (drop (i + c.width) s) ≡ n
  unfolding name_len take_while flatten
  name-turn n et t inv =
      let e : take_while in_name_of (characters (drop i s)) ≡ take c.width (drop i s) ∷ take_while in_name_of (characters (drop (i + c.width) s)) =
      ap (take_while in_name_of) name-cut ∙ rw (in_name, ← et, t) in
      let l : length (take c.width (drop i s)) ≡ c.width = length-take-le c.width (drop i s) (omega (arith, name-fits, length-drop i s)) in
      omega (arith, l, ap (λ (cs : List Bytes). length (flatten cs)) e ∙ length-append (take c.width (drop i s)) (flatten (take_while in_name_of (characters (drop (i + c.width) s)))), inv)

  pub name_stop : (n : ℕ) {t : Bool} → t ≡ ends_name_of c.code → t ≡ true → i + name_len (drop i s) ≡ n → i ≡ n
  unfolding name_len take_while flatten
  name_stop n et t inv =
      let e : take_while in_name_of (characters (drop i s)) ≡ [] = ap (take_while in_name_of) name-cut ∙ rw (in_name, ← et, t) in
      omega (arith, ap (λ (cs : List Bytes). length (flatten cs)) e, inv)

-- a byte that is a character of its own
pub byte_turn : (s : Bytes) (i : ℕ) → i < length s → (n : ℕ) {t : Bool} → (t ≡ true → (get_or s i 0 < 128) × (ends_name_of (get_or s i 0) ≡ false)) → t ≡ true
    → i + name_len (drop i s) ≡ n → i + 1 + name_len (drop (i + 1) s) ≡ n
byte_turn s i h n f e inv =
    let here : get_or s i 0 ≡ get_or (drop i s) 0 0 = sym (rw (drop_at s i h)) in
    let one : ◌≡◌ {A = Char} (record { code = get_or s i 0; width = 1 }) (first_char (drop i s)) =
    first_one (drop i s) (seq_len (drop i s)) refl refl (sym (len_ascii s i h (f e).0)) here in
    name-turn s i h refl one n (sym (f e).1) refl inv

pub name_end : (s : Bytes) (i n : ℕ) → length s ≤ i → i + name_len (drop i s) ≡ n → i ≡ n
unfolding name_len characters cut_at take_while flatten
name_end s i n h inv = omega (arith, ap name_len (drop_of_length-le s h))

-- ---- the name as a part of its text

-- the first pieces that pass a test are a front part of what the pieces make
pub while_front : (p : Bytes → Bool) (cs : List Bytes) → take (length (flatten (take_while p cs))) (flatten cs) ≡ flatten (take_while p cs)
unfolding take_while flatten
while_front p [] = refl
while_front p (c ∷ cs) = go (p c) (while_front p cs)
  where
    go : (x : Bool) → take (length (flatten (take_while p cs))) (flatten cs) ≡ flatten (take_while p cs)
        → take (length (flatten (cond x (c ∷ take_while p cs) []))) (c ++ flatten cs) ≡ flatten (cond x (c ∷ take_while p cs) [])
    go true h = rw (length-append c (flatten (take_while p cs)), take-append-add c (flatten cs) (length (flatten (take_while p cs))), h)
    go false h = refl

pub name_of : (s : Bytes) {t r : Bytes} {n : ℕ} → t ≡ bare s → n ≡ name_len t → r ≡ part t 0 n → r ≡ name_in_of s
unfolding name_in_of name_len characters
name_of s {t} et en er =
    er
    ∙ ap (λ (k : ℕ). take k t) en
    ∙ ap (take (name_len t)) (sym (cut_whole step-some t))
    ∙ while_front in_name_of (characters t)
    ∙ ap (λ (z : Bytes). flatten (take_while in_name_of (characters z))) et

pub marker_of : (t : Tape) (k : ℕ) {s r : Bytes} → s ≡ text_at_of t k → r ≡ name_in_of s → r ≡ marker_name t k
unfolding marker_name
marker_of t k es er = er ∙ ap name_in_of es

pub same_as : {a z : Bytes} (n : Bytes) {r : Bool} → a ≡ z → r ≡ same a n → r ≡ same z n
same_as n ea er = er ∙ ap (λ (y : Bytes). same y n) ea

-- ---- the name of an entry

module _ (t : Tape) (k : ℕ) (name : Bytes) {i : Info} (ei : i ≡ info_at t k) where
  pub entry_known : (e : Entry) {a : Bytes} {r : Bool} → i ≡ Some e → a ≡ entry_name t e → r ≡ same a name → r ≡ entry_is_of t k name
  unfolding entry_is_of named
  entry_known e ek ea er = er ∙ ap (λ (y : Bytes). same y name) ea ∙ ap (named t name) (sym ek ∙ ei)

  pub entry-unknown : i ≡ None → false ≡ entry_is_of t k name
  unfolding entry_is_of named
  entry-unknown ek = ap (named t name) (sym ek ∙ ei)
