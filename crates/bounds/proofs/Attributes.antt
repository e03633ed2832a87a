-- How long the attributes of a node are, by the number of its children.
use mathlib.Core.Path.{◌≡◌, refl}
use mathlib.Core.Bool.{Bool, true, false, cond, ◌&&◌}
use mathlib.Core.List.{List, [], ◌∷◌, ◌++◌, map}
use mathlib.Core.Option.{some}
use Prim.Native.Nat.{ℕ, zero, suc, ◌+◌, ◌*◌, ◌≤◌, ◌<◌}
use native.Mathlib.Omega.{arith}
use lib.ListN.{length, take, drop, length-drop, length-take}
use lib.Dec.{eqb, ltb}
use borrow.Author.Tests.{ltb-true}
use Rattle.parts.specs.Bytes.{Bytes, b, part, begins, same}
use Rattle.words.specs.Words.{words, white_len, trim}
use Rattle.words.specs.declared.Set.TheVariants.{Unicode}
use Rattle.words.proofs.Texts.{white-le}
use Rattle.tape.specs.File.{Tape, kind_at, text_at_of}
use Rattle.tape.specs.Name.{strip}
use Rattle.attrs.specs.Attr.{Pair, quoted_from, quoted_len, unquoted, shown, value_from, value_at, equals, has_equals, key_in_of, keyed, pairs_from, pairs_in, is_word_marker, default_key, key_for, keyed_for, attribute_body, body_pairs, pairs_at, pairs_along}
use Rattle.attrs.specs.Walk.{first_of}
use Rattle.attrs.proofs.Values.{value_within}
use Rattle.events.specs.Event.{escaped, collected}
use Rattle.bounds.proofs.Items.{attr_cost, attrs_cost}
use Rattle.bounds.proofs.Light.{size_or}
use Rattle.bounds.proofs.Lengths.{words-weigh, last_most, trim_most, strip_most}

-- ---- values

-- a value starts at a place or behind it, and ends where what follows it starts, or before
record Ahead (at start len past : ℕ) : Type 0 where
  starts : at ≤ start
  ends : start + len ≤ past

value_ahead : (s : Bytes) (at : ℕ) → 0 < at → at ≤ length s → Ahead at (value_from s at).start (value_from s at).len (value_from s at).past
unfolding value_from quoted_len
value_ahead s at h l = go (begins (b "\"") (drop at s)) refl
  where
    go : (x : Bool) → begins (b "\"") (drop at s) ≡ x → Ahead at (value_from s at).start (value_from s at).len (value_from s at).past
    go true e =
        let w : at + 1 + quoted_from 0 (drop (at + 1) s) ≤ length s = rw e at (value_within s at h l).value in
        rw e (record { starts = omega arith; ends = omega arith })
    go false e = rw e (record { starts = omega arith; ends = omega arith })

unquoted_most : (s : Bytes) → length (unquoted s) ≤ length s
unfolding unquoted
unquoted_most [] = omega arith
unquoted_most (x ∷ s) = go (unquoted_most s) (begins (b "\\\"") (x ∷ s))
  where
    go : length (unquoted s) ≤ length s → (y : Bool) → length (cond y [] (x ∷ []) ++ unquoted s) ≤ suc (length s)
    go h true = omega arith
    go h false = omega arith

shown_most : (q : Bool) (s : Bytes) → length (shown q s) ≤ length s
unfolding shown
shown_most true s = unquoted_most s
shown_most false s = omega arith

-- ---- pairs

-- what pairs may cost, whatever marker has them
unfoldable pairs_cost : List Pair → ℕ
pairs_cost [] = 0
pairs_cost (p ∷ ps) = 8 + length p.key + 6 * length p.value + pairs_cost ps

pairs-append : (ps qs : List Pair) → pairs_cost (ps ++ qs) ≡ pairs_cost ps + pairs_cost qs
unfolding pairs_cost
pairs-append [] qs = omega arith
pairs-append (p ∷ ps) qs = omega (arith, pairs-append ps qs)

keyed_most : (key value : Bytes) → pairs_cost (keyed key value) ≤ 8 + length key + 6 * length value
unfolding keyed pairs_cost
keyed_most [] value = omega arith
keyed_most (x ∷ key) value = omega arith

key_most : (marker key : Bytes) → length (key_for marker key) ≤ length key + 4
unfolding key_for
key_most marker key = go (same marker (b "fig") && same key (b "src"))
  where
    go : (x : Bool) → length (cond x (b "file") key) ≤ length key + 4
    go true = omega arith
    go false = omega arith

marked_most : (marker : Bytes) (ps : List Pair) → attrs_cost (collected (map (keyed_for marker) ps)) ≤ pairs_cost ps
unfolding collected attrs_cost attr_cost escaped pairs_cost keyed_for
marked_most marker [] = omega arith
marked_most marker (p ∷ ps) = omega (arith, marked_most marker ps, key_most marker p.key)

key_in : (s : Bytes) → length (key_in_of s) ≤ equals s + 1
unfolding key_in_of
key_in s =
    omega (arith, last_most (words Unicode (take (equals s) s)), words-weigh Unicode (take (equals s) s), length-take (equals s) s)

-- a pair costs no more than ten times what it takes of the text
pair_most : (s : Bytes) (start len past : ℕ) (q : Bool) → Ahead (equals s + 1) start len past
    → pairs_cost (keyed (key_in_of s) (shown q (part s start len))) ≤ 10 * past
pair_most s start len past q a =
    let p = part s start len in
    omega (arith, a.starts, a.ends, key_in s, keyed_most (key_in_of s) (shown q p), shown_most q p, length-take len (drop start s))

record Front (s : Bytes) (start len past : ℕ) : Type 0 where
  ahead : Ahead (equals s + 1) start len past
  within : past ≤ length s

front_of : (s : Bytes) → equals s < length s
    → Front s (value_at s (equals s + 1)).start (value_at s (equals s + 1)).len (value_at s (equals s + 1)).past
unfolding value_at
front_of s h =
    let at = equals s + 1 in
    let n = white_len Unicode (drop at s) in
    let fits : at + n ≤ length s = omega (arith, white-le Unicode (drop at s), length-drop at s) in
    let a = value_ahead s (at + n) (omega arith) fits in
    record { ahead = record { starts = omega (arith, a.starts); ends = a.ends }; within = (value_within s (at + n) (omega arith) fits).past }

pairs_most : (n : ℕ) (s : Bytes) → pairs_cost (pairs_from n s) ≤ 10 * length s
unfolding pairs_from pairs_cost has_equals
pairs_most zero s = omega arith
pairs_most (suc n) s = go (λ z. pairs_most n z) (ltb (equals s) (length s)) refl
  where
    go : ((z : Bytes) → pairs_cost (pairs_from n z) ≤ 10 * length z) → (x : Bool) → ltb (equals s) (length s) ≡ x
        → pairs_cost (elim x as (λ _. List Pair) [
          | true ↦ (keyed (key_in_of s) (shown (value_at s (equals s + 1)).quoted (part s (value_at s (equals s + 1)).start (value_at s (equals s + 1)).len)) ++ pairs_from n (drop (value_at s (equals s + 1)).past s))
          | false ↦ []
        ]) ≤ 10 * length s
    go f true e =
        let w = front_of s (ltb-true (equals s) (length s) e) in
        omega (
          arith,
          pair_most s (value_at s (equals s + 1)).start (value_at s (equals s + 1)).len (value_at s (equals s + 1)).past (value_at s (equals s + 1)).quoted w.ahead,
          w.within,
          f (drop (value_at s (equals s + 1)).past s),
          length-drop (value_at s (equals s + 1)).past s,
          pairs-append (keyed (key_in_of s) (shown (value_at s (equals s + 1)).quoted (part s (value_at s (equals s + 1)).start (value_at s (equals s + 1)).len))) (pairs_from n (drop (value_at s (equals s + 1)).past s)),
        )
    go f false e = omega arith

-- ---- attributes

nothing : attrs_cost (collected []) ≡ 0
unfolding collected attrs_cost
nothing = refl

pub collected-append : (ps qs : List Pair) → attrs_cost (collected (ps ++ qs)) ≡ attrs_cost (collected ps) + attrs_cost (collected qs)
unfolding collected attrs_cost
collected-append [] qs = omega arith
collected-append (p ∷ ps) qs = omega (arith, collected-append ps qs)

default_most : (m : Bytes) → length (default_key m) ≤ 9
unfolding default_key
default_most m = go (is_word_marker m) (same m (b "rb")) (same m (b "xt")) (same m (b "ref")) (same m (b "jmp")) (same m (b "periph")) (begins (b "qt") m)
  where
    go : (p q r s t u v : Bool)
        → length (cond p (b "lemma") (cond q (b "gloss") (cond r (b "href") (cond s (b "loc") (cond t (b "link-href") (cond u (b "id") (cond v (b "who") (b "default")))))))) ≤ 9
    go true q r s t u v = omega arith
    go false true r s t u v = omega arith
    go false false true s t u v = omega arith
    go false false false true t u v = omega arith
    go false false false false true u v = omega arith
    go false false false false false true v = omega arith
    go false false false false false false true = omega arith
    go false false false false false false false = omega arith

one_most : (m s : Bytes) → attrs_cost (collected (record { key = default_key m; value = s } ∷ [])) ≤ 13 + 6 * length s
unfolding collected attrs_cost attr_cost escaped
one_most m s = omega (arith, default_most m)

body-cost : (m s : Bytes) → attrs_cost (collected (body_pairs m s)) ≤ 13 + 10 * length s
unfolding body_pairs pairs_in
body-cost m [] = omega (arith, nothing)
body-cost m (x ∷ s) = go (has_equals (x ∷ s))
  where
    go : (y : Bool)
        → attrs_cost (collected (cond y (map (keyed_for m) (pairs_from (length (x ∷ s)) (x ∷ s))) (record { key = default_key m; value = x ∷ s } ∷ []))) ≤ 13 + 10 * length (x ∷ s)
    go true = omega (arith, marked_most m (pairs_from (length (x ∷ s)) (x ∷ s)), pairs_most (length (x ∷ s)) (x ∷ s))
    go false = omega (arith, one_most m (x ∷ s))

node-cost : (t : Tape) (m : Bytes) (k : ℕ) → length (text_at_of t k) ≤ 4194304 → attrs_cost (collected (pairs_at t m k)) ≤ 50000000
unfolding pairs_at attribute_body
node-cost t m k h = go (eqb (kind_at t k) 2)
  where
    go : (x : Bool) → attrs_cost (collected (cond x (body_pairs m (trim Unicode (strip 124 (text_at_of t k)))) [])) ≤ 50000000
    go true =
        omega (arith, body-cost m (trim Unicode (strip 124 (text_at_of t k))), trim_most Unicode (strip 124 (text_at_of t k)), strip_most 124 (text_at_of t k))
    go false = omega (arith, nothing)

pub along-cost : (t : Tape) (m : Bytes) → ((k : ℕ) → length (text_at_of t k) ≤ 4194304) → (ks : List ℕ)
    → attrs_cost (collected (pairs_along t m ks)) ≤ 50000000 * length ks
unfolding pairs_along
along-cost t m h [] = omega (arith, nothing)
along-cost t m h (k ∷ ks) =
    omega (arith, node-cost t m k (h k), along-cost t m h ks, collected-append (pairs_at t m k) (pairs_along t m ks))

-- the value of one is no longer
pub first-cost : (key : Bytes) (ps : List Pair) → size_or (first_of key ps) ≤ attrs_cost (collected ps)
unfolding first_of size_or collected attrs_cost attr_cost escaped
first-cost key [] = omega arith
first-cost key (p ∷ ps) = go (first-cost key ps) (same p.key key)
  where
    go : size_or (first_of key ps) ≤ attrs_cost (collected ps) → (x : Bool)
        → size_or (cond x (some p.value) (first_of key ps)) ≤ 4 + length p.key + 6 * length p.value + attrs_cost (collected ps)
    go h true = omega arith
    go h false = omega arith
