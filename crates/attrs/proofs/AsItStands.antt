-- An attribute that is written as it stands is read as one pair, its key and its value.
use mathlib.Core.Path.{◌≡◌, refl, sym, ap, ◌∙◌}
use mathlib.Core.Bool.{Bool, true, false, not, ◌&&◌, ◌||◌}
use mathlib.Core.List.{[], ◌∷◌, ◌++◌, append_assoc, append-nil, flatten}
use Prim.Native.Nat.{ℕ, suc, ◌+◌, ◌-◌, ◌<◌}
use native.Mathlib.Omega.{arith}
use lib.ListN.{length, drop, length-append}
use lib.Seq.{take-length, drop-length, take-append_seam, drop-append-add, get_or-append-add}
use lib.Dec.{eqb, leb}
use borrow.Author.Tests.{ne_eqb, lt-ltb, eqb-false, leb-true, not-true}
use Rattle.parts.specs.Bytes.{Bytes, b, same, begins, first_at}
use Rattle.parts.proofs.Laws.{and-true, or_both}
use Rattle.chars.specs.Range.{within}
use Rattle.chars.specs.Utf8.{step, every, is_sequence, point, code_of}
use Rattle.chars.specs.Escape.{escape, special}
use Rattle.chars.proofs.Laws.{len_one}
use Rattle.chars.proofs.White.{between_white}
use Rattle.chars.proofs.Characters.{cut-nil, cut-first}
use Rattle.chars.proofs.Escapes.{escaped-plain}
use Rattle.words.specs.Words.{step_of, chars_of, white, solid, take_while, words, trim_start, trim_end, trim, white_len, last_of}
use Rattle.words.specs.First.{visible, ends_visible}
use Rattle.words.specs.declared.Set.TheVariants.{Unicode}
use Rattle.words.proofs.Steps.{size_some}
use Rattle.words.proofs.Texts.{trim_start_drop, trim_end_take}
use Rattle.words.proofs.Ends.{visible_whole}
use Rattle.words.proofs.Joins.{word_alone}
use Rattle.tape.specs.Name.{strip}
use Rattle.attrs.specs.Attr.{closes_at, quoted_from, quoted_len, unquoted, shown, equals, has_equals, keyed, pairs_in, key_for, keyed_for, attribute_body, body_pairs}
use Rattle.attrs.proofs.Values.{value_quoted}
use Rattle.attrs.proofs.Pairs.{pairs-nil, pair-first}
use Rattle.attrs.specs.Barred.{in_key, in_value, lead, Simple, Barred}

-- the first byte of a simple text is simple, and so is what follows
each : (p : ℕ → Bool) (x : ℕ) (s : Bytes) → Simple p (x ∷ s) → (p x ≡ true) × Simple p s
unfolding lead
each p x s e = go (p x) refl e
  where
    go : (t : Bool) → p x ≡ t → elim t as (λ t. ℕ) [ true ↦ suc (lead p s) | false ↦ 0 ] ≡ suc (length s) → (p x ≡ true) × Simple p s
    go true h e = (h, omega arith)
    go false h e = absurd (omega arith)

-- ---- a key

key_byte : (x : ℕ) → in_key x ≡ true → (32 < x) × (x < 127) × (61 ≡ x → ⊥)
unfolding in_key within
key_byte x e =
    let both = and-true (leb 35 x && leb x 126) (not (eqb x 61)) e in
    let ends = and-true (leb 35 x) (leb x 126) both.0 in
    (omega (arith, leb-true 35 x ends.0), omega (arith, leb-true x 126 ends.1), λ h. eqb-false x 61 (not-true (eqb x 61) both.1) (sym h))

-- a visible byte at the front is a character, and no white space
module _ (x : ℕ) (s : Bytes) (l : 32 < x) (h : x < 127) where
  visible-first : chars_of Unicode (x ∷ s) ≡ (x ∷ []) ∷ chars_of Unicode s
  unfolding chars_of step_of step
  visible-first = cut-first (size_some Unicode) (x ∷ s) (omega arith) ∙ rw (← len_one (x ∷ s) (λ e. omega arith) (omega arith))

  visible-solid : white Unicode (x ∷ []) ≡ false
  unfolding white code_of is_sequence point
  visible-solid = rw (← len_one (x ∷ []) (λ e. omega arith) (omega arith)) (sym (between_white x l (omega arith)))

  no_white : white_len Unicode (x ∷ s) ≡ 0
  unfolding white_len take_while flatten
  no_white = rw (visible-first, visible-solid)

none_there : chars_of Unicode [] ≡ []
unfolding chars_of
none_there = cut-nil (step_of Unicode)

key_solid : (key : Bytes) → Simple in_key key → every (solid Unicode) (chars_of Unicode key) ≡ true
unfolding every solid
key_solid [] e = rw none_there
key_solid (x ∷ key) e =
    let z = each in_key x key e in
    let k = key_byte x z.0 in
    rw (visible-first x key k.0 k.1, visible-solid x key k.0 k.1) (key_solid key z.1)

-- a key ends where the first `=` stands
key_equals : (key s : Bytes) → Simple in_key key → equals (key ++ (61 ∷ s)) ≡ length key
unfolding equals first_at begins
key_equals [] s e = refl
key_equals (x ∷ key) s e =
    let z = each in_key x key e in
    rw (ne_eqb 61 x (key_byte x z.0).2, first_at) (ap suc (key_equals key s z.1))

-- ---- a value

value_byte : (x : ℕ) → in_value x ≡ true → (special true x ≡ false) × (x ≡ 92 → ⊥) × (x ≡ 34 → ⊥)
unfolding in_value special
value_byte x e =
    let n = or_both (special true x) (eqb x 92) (not-true (special true x || eqb x 92) e) in
    let a = or_both (eqb x 62) (eqb x 38 || eqb x 34) (or_both (eqb x 60) (eqb x 62 || (eqb x 38 || eqb x 34)) n.0).1 in
    (n.0, eqb-false x 92 n.1, eqb-false x 34 (or_both (eqb x 38) (eqb x 34) a.1).1)

-- a value ends where the first `"` stands
value_ends : (last : ℕ) (value : Bytes) → (last ≡ 92 → ⊥) → Simple in_value value → quoted_from last (value ++ b "\"") ≡ length value
unfolding quoted_from closes_at
value_ends last [] h e = rw (ne_eqb last 92 h, quoted_from)
value_ends last (x ∷ value) h e =
    let z = each in_value x value e in
    let k = value_byte x z.0 in
    rw (ne_eqb x 34 k.2, quoted_from) (ap suc (value_ends x value k.1 z.1))

-- no escape is undone in a value, and none is made
value_shown : (value : Bytes) → Simple in_value value → unquoted value ≡ value
unfolding unquoted begins
value_shown [] e = refl
value_shown (x ∷ value) e =
    let z = each in_value x value e in
    rw (ne_eqb 92 x (λ h. (value_byte x z.0).1 (sym h))) (ap (λ (s : Bytes). x ∷ s) (value_shown value z.1))

value_escaped : (value : Bytes) → Simple in_value value → escape true value ≡ value
unfolding escape
value_escaped [] e = refl
value_escaped (x ∷ value) e =
    let z = each in_value x value e in
    rw (escaped-plain true x (value_byte x z.0).0) (ap (λ (s : Bytes). x ∷ s) (value_escaped value z.1))

-- ---- trims

front_kept : (key s : Bytes) → 0 < length key → Simple in_key key → trim_start Unicode (key ++ s) ≡ key ++ s
front_kept [] s h e = absurd (omega arith)
front_kept (x ∷ key) s h e =
    let k = key_byte x (each in_key x key e).0 in
    trim_start_drop Unicode (x ∷ (key ++ s)) ∙ rw (no_white x (key ++ s) k.0 k.1)

end_kept : (w : Bytes) → trim_end Unicode (w ++ b "\"") ≡ w ++ b "\""
unfolding ends_visible visible within
end_kept w =
    let s : Bytes = w ++ b "\"" in
    let last : length s - 1 ≡ length w + 0 = omega (arith, length-append w (b "\"")) in
    trim_end_take Unicode s ∙ rw (← visible_whole Unicode s {t = true} (rw (last, get_or-append-add w (b "\"") 0 0)) refl) (take-length s)

-- ---- both

module _ (key value : Bytes) (some : 0 < length key) (sk : Simple in_key key) (sv : Simple in_value value) where
  abbrev rest : Bytes
  rest = b "=\"" ++ (value ++ b "\"")

  size : length (key ++ rest) ≡ length key + (length value + 3)
  size = simp length-append (omega arith)

  past : (k n : ℕ) → k ≡ length key + n → drop k (key ++ rest) ≡ drop n rest
  past k n e = rw e (drop-append-add key rest n)

  key_word : last_of (words Unicode key) ≡ key
  unfolding last_of
  key_word = rw (word_alone Unicode (record { some = some; all_solid = key_solid key sk }))

  listed : pairs_in (key ++ rest) ≡ keyed key value
  unfolding quoted_len begins equals shown
  listed =
      let q : Bytes = value ++ b "\"" in
      let at : ℕ = length key + 1 in
      let taken = value_quoted (key ++ rest) at {r = 34 ∷ q} {v = 34 ∷ q} {w = 0} {t = true} (sym (past at 1 refl)) (sym (no_white 34 q (omega arith) (omega arith)))
      (sym (past (at + 0) 1 (omega arith))) refl refl {u = q} {n = length value} {p = length (key ++ rest)} (sym (past (at + 0 + 1) 2 (omega arith)))
      (sym (value_ends 0 value (λ e. omega arith) sv)) (omega (arith, size)) in
      (pair-first (key ++ rest) {e = length key} {r = key} {key = record { start = 0; len = length key }} (sym (key_equals key (34 ∷ q) sk)) (omega (arith, size))
      (sym (take-append_seam key rest)) (record { inside = omega arith; here = take-length key ∙ sym key_word }) taken).listed
      ∙ rw (take-append_seam key rest, past (at + 0 + 1) 2 (omega arith), take-append_seam value (b "\""), value_shown value sv, drop-length (key ++ rest), pairs-nil) (append-nil (keyed key value))

  trimmed : trim Unicode (key ++ rest) ≡ key ++ rest
  unfolding trim
  trimmed =
      let split : key ++ rest ≡ (key ++ (b "=\"" ++ value)) ++ b "\"" = sym (append_assoc key (b "=\"" ++ value) (b "\"")) in
      ap (trim_end Unicode) (front_kept key rest some sk ∙ split) ∙ end_kept (key ++ (b "=\"" ++ value)) ∙ sym split

body-pair : (m key value : Bytes) → same m (b "fig") ≡ false → 0 < length key → Simple in_key key → Simple in_value value
    → body_pairs m (key ++ (b "=\"" ++ (value ++ b "\""))) ≡ record { key = key; value = value } ∷ []
unfolding body_pairs has_equals keyed keyed_for key_for
body-pair m [] value f some sk sv = absurd (omega arith)
body-pair m (x ∷ key) value f some sk sv =
    let t : Bytes = x ∷ (key ++ (b "=\"" ++ (value ++ b "\""))) in
    let inner : equals t < length t = omega (arith, key_equals (x ∷ key) (34 ∷ (value ++ b "\"")) sk, size (x ∷ key) value some sk sv) in
    rw (lt-ltb (equals t) (length t) inner, listed (x ∷ key) value some sk sv, f)

-- ---- such an attribute

pub barred_pairs : (m : Bytes) → same m (b "fig") ≡ false → {s : Bytes} (z : Barred s) → body_pairs m (attribute_body s) ≡ record { key = z.key; value = z.value } ∷ []
unfolding attribute_body strip begins
barred_pairs m f z =
    rw (z.is, trimmed z.key z.value z.some z.simple_key z.simple_value) (body-pair m z.key z.value f z.some z.simple_key z.simple_value)

pub barred_escape : {s : Bytes} (z : Barred s) → escape true z.value ≡ z.value
barred_escape z = value_escaped z.value z.simple_value
