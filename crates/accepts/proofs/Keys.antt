-- Attribute keys: never empty, no space and no `=`, on every tape; those that hold none of the four bytes may stand in a tag.
use mathlib.Core.Path.{◌≡◌, refl, sym, ap, ◌∙◌}
use mathlib.Core.Bool.{Bool, true, false, cond, ◌&&◌}
use mathlib.Core.List.{List, [], ◌∷◌, ◌++◌, map, flatten}
use Prim.Native.Nat.{ℕ, zero, suc, ◌+◌, ◌<◌}
use native.Mathlib.Omega.{arith}
use lib.ListN.{length, take, drop}
use lib.Dec.{eqb, ltb}
use borrow.Author.Tests.{eqb-false, ne_eqb, not-true, ltb-true}
use Rattle.parts.specs.Bytes.{Bytes, b, part, same, begins, first_at}
use Rattle.parts.proofs.Laws.{and-true, or_both}
use Rattle.chars.specs.Escape.{special}
use Rattle.chars.proofs.Lists.{all, all_append}
use Rattle.words.specs.Words.{chars_of, white, onto, pieces, nonempty, words, last_of}
use Rattle.words.specs.declared.Set.TheVariants.{Unicode}
use Rattle.words.proofs.Joins.{IsWord, Each, words_are}
use Rattle.words.proofs.Texts.{chars_flatten}
use Rattle.tape.specs.File.{Tape, kind_at, text_at_of}
use Rattle.tape.specs.Tree.{children}
use Rattle.attrs.specs.Attr.{Pair, shown, value_at, equals, has_equals, key_in_of, keyed, pairs_from, pairs_in, is_word_marker, default_key, key_for, keyed_for, attribute_body, body_pairs, pairs_at, pairs_along, attributes_of}
use Rattle.tags.specs.Form.{plain, key_byte_of}
use Rattle.grammar.proofs.Attrs.{Keys}
use Rattle.accepts.specs.Proviso.{has_special, Free}
use Rattle.accepts.proofs.Legal.{LegalKey, key_clean}
use Rattle.accepts.proofs.Spaces.{but, solid_spaceless}

-- ---- no `=` before the first

no_equals : (s : Bytes) → all (but 61) (take (equals s) s) ≡ true
unfolding all but equals first_at begins
no_equals [] = refl
no_equals (x ∷ s) = go (eqb 61 x) refl (no_equals s)
  where
    go : (t : Bool) → eqb 61 x ≡ t → all (but 61) (take (equals s) s) ≡ true
        → all (but 61) (take (elim (t && true) as (λ _. ℕ) [ true ↦ 0 | false ↦ suc (first_at (begins (b "=")) s) ]) (x ∷ s)) ≡ true
    go true e h = refl
    go false e h = rw (ne_eqb x 61 (λ i. eqb-false 61 x e (sym i)), h)

-- ---- the words of a text hold its bytes

module _ (q : ℕ → Bool) where
  abbrev Holds : Bytes → Type 0
  Holds w = all q w ≡ true

  onto-holds : (c : Bytes) (ws : List Bytes) → Holds c → Each Holds ws → Each Holds (onto c ws)
  unfolding onto
  onto-holds c [] h g = (h, tt)
  onto-holds c (w ∷ ws) h g = (all_append q c w ∙ rw (h, g.0), g.1)

  pieces_hold : (p : Bytes → Bool) (cs : List Bytes) → all q (flatten cs) ≡ true → Each Holds (pieces p cs)
  unfolding all pieces flatten
  pieces_hold p [] h = (refl, tt)
  pieces_hold p (c ∷ cs) h =
      let i = and-true (all q c) (all q (flatten cs)) (sym (all_append q c (flatten cs)) ∙ h) in
      go (p c) i.0 (pieces_hold p cs i.1)
    where
      go : (t : Bool) → all q c ≡ true → Each Holds (pieces p cs) → Each Holds (cond t ([] ∷ pieces p cs) (onto c (pieces p cs)))
      go true i g = (refl, g)
      go false i g = onto-holds c (pieces p cs) i g

  some_hold : (ws : List Bytes) → Each Holds ws → Each Holds (nonempty ws)
  unfolding nonempty
  some_hold [] g = tt
  some_hold ([] ∷ ws) g = some_hold ws g.1
  some_hold ((x ∷ w) ∷ ws) g = (g.0, some_hold ws g.1)

  words_hold : (s : Bytes) → all q s ≡ true → Each Holds (words Unicode s)
  unfolding words
  words_hold s h = some_hold (pieces (white Unicode) (chars_of Unicode s)) (pieces_hold (white Unicode) (chars_of Unicode s) (ap (all q) (chars_flatten Unicode s) ∙ h))

last_of_lem : (P : Bytes → Type 0) (ws : List Bytes) → Each P ws → 0 < length (last_of ws) → P (last_of ws)
unfolding last_of
last_of_lem P [] g h = absurd (omega arith)
last_of_lem P (w ∷ []) g h = g.0
last_of_lem P (w ∷ v ∷ ws) g h = last_of_lem P (v ∷ ws) g.1 h

-- ---- keys of a text

-- what a key is by itself
pub record Own (key : Bytes) : Type 0 where
  pub some : 0 < length key
  pub space : all (but 32) key ≡ true
  pub equal : all (but 61) key ≡ true

pub keys_append : (P : Bytes → Type 0) (ps qs : List Pair) → Keys P ps → Keys P qs → Keys P (ps ++ qs)
keys_append P [] qs h g = g
keys_append P (p ∷ ps) qs h g = (h.0, keys_append P ps qs h.1 g)

key_own : (s : Bytes) → 0 < length (key_in_of s) → Own (key_in_of s)
unfolding key_in_of
key_own s h =
    let r : Bytes = take (equals s) s in
    let is : IsWord Unicode (last_of (words Unicode r)) = last_of_lem (IsWord Unicode) (words Unicode r) (words_are Unicode r) h in
    record {
      some = h;
      space = solid_spaceless (last_of (words Unicode r)) is.all_solid;
      equal = last_of_lem (Holds (but 61)) (words Unicode r) (words_hold (but 61) r (no_equals s)) h;
    }

keyed_own : (key value : Bytes) → (0 < length key → Own key) → Keys Own (keyed key value)
unfolding keyed
keyed_own [] value f = tt
keyed_own (x ∷ key) value f = (f (omega arith), tt)

from_own : (n : ℕ) (s : Bytes) → Keys Own (pairs_from n s)
unfolding pairs_from
from_own zero s = tt
from_own (suc n) s = go (has_equals s) (from_own n)
  where
    go : (t : Bool) → ((r : Bytes) → Keys Own (pairs_from n r)) → Keys Own (elim t as (λ _. List Pair) [
      | true ↦ (let v = value_at s (equals s + 1) in keyed (key_in_of s) (shown v.quoted (part s v.start v.len)) ++ pairs_from n (drop v.past s))
      | false ↦ []
    ])
    go true f = keys_append Own (keyed (key_in_of s) _) _ (keyed_own (key_in_of s) _ (key_own s)) (f _)
    go false f = tt

-- ---- keys of a node

-- a key that is known
pub own_known : (s : Bytes) → ltb 0 (length s) && (all (but 32) s && all (but 61) s) ≡ true → Own s
own_known s e =
    let h = and-true (ltb 0 (length s)) _ e in
    let i = and-true (all (but 32) s) _ h.1 in
    record { some = ltb-true 0 (length s) h.0; space = i.0; equal = i.1 }

-- what holds of the eight default keys
pub default_any : (P : Bytes → Type 0) → P (b "lemma") → P (b "gloss") → P (b "href") → P (b "loc") → P (b "link-href") → P (b "id") → P (b "who") → P (b "default")
    → (m : Bytes) → P (default_key m)
unfolding default_key
default_any P lemma gloss href loc link-href id who other m =
    go (is_word_marker m) (same m (b "rb")) (same m (b "xt")) (same m (b "ref")) (same m (b "jmp")) (same m (b "periph")) (begins (b "qt") m)
  where
    go : (a c d e f g h : Bool)
        → P (cond a (b "lemma") (cond c (b "gloss") (cond d (b "href") (cond e (b "loc") (cond f (b "link-href") (cond g (b "id") (cond h (b "who") (b "default"))))))))
    go true c d e f g h = lemma
    go false true d e f g h = gloss
    go false false true e f g h = href
    go false false false true f g h = loc
    go false false false false true g h = link-href
    go false false false false false true h = id
    go false false false false false false true = who
    go false false false false false false false = other

default_own : (m : Bytes) → Own (default_key m)
unfolding all but
default_own = default_any Own (own_known _ refl) (own_known _ refl) (own_known _ refl) (own_known _ refl) (own_known _ refl) (own_known _ refl) (own_known _ refl) (own_known _ refl)

for_own : (marker : Bytes) (ps : List Pair) → Keys Own ps → Keys Own (map (keyed_for marker) ps)
unfolding keyed_for key_for all but
for_own marker [] h = tt
for_own marker (p ∷ ps) h = (go (same marker (b "fig") && same p.key (b "src")) h.0, for_own marker ps h.1)
  where
    go : (t : Bool) → Own p.key → Own (cond t (b "file") p.key)
    go true g = own_known (b "file") refl
    go false g = g

body_own : (marker s : Bytes) → Keys Own (body_pairs marker s)
unfolding body_pairs pairs_in
body_own marker [] = tt
body_own marker (x ∷ s) = go (has_equals (x ∷ s))
  where
    go : (t : Bool) → Keys Own (cond t (map (keyed_for marker) (pairs_from (length (x ∷ s)) (x ∷ s))) (record { key = default_key marker; value = x ∷ s } ∷ []))
    go true = for_own marker (pairs_from (length (x ∷ s)) (x ∷ s)) (from_own (length (x ∷ s)) (x ∷ s))
    go false = (default_own marker, tt)

at_own : (t : Tape) (marker : Bytes) (k : ℕ) → Keys Own (pairs_at t marker k)
unfolding pairs_at
at_own t marker k = go (eqb (kind_at t k) 2)
  where
    go : (z : Bool) → Keys Own (cond z (body_pairs marker (attribute_body (text_at_of t k))) [])
    go true = body_own marker (attribute_body (text_at_of t k))
    go false = tt

along_own : (t : Tape) (marker : Bytes) (ks : List ℕ) → Keys Own (pairs_along t marker ks)
unfolding pairs_along
along_own t marker [] = tt
along_own t marker (k ∷ ks) = keys_append Own (pairs_at t marker k) _ (at_own t marker k) (along_own t marker ks)

-- every key that a node collects, whatever its bytes: not empty, no space, no `=`
pub attributes_own : (t : Tape) (k : ℕ) (marker : Bytes) → Keys Own (attributes_of t k marker)
unfolding attributes_of
attributes_own t k marker = along_own t marker (children t k)

-- ---- keys that may stand in a tag

may_stand : (x : ℕ) → special true x ≡ false → but 32 x ≡ true → but 61 x ≡ true → plain x && key_byte_of x ≡ true
unfolding special plain key_byte_of but
may_stand x e f g =
    let i = or_both (eqb x 60) _ e in
    let j = or_both (eqb x 62) _ i.1 in
    let k = or_both (eqb x 38) (eqb x 34) j.1 in
    rw (i.0, j.0, k.0, k.1, not-true (eqb x 32) f, not-true (eqb x 61) g)

stands : (s : Bytes) → Free s → all (but 32) s ≡ true → all (but 61) s ≡ true → all (λ x. plain x && key_byte_of x) s ≡ true
unfolding has_special all
stands [] h f g = refl
stands (x ∷ s) h f g =
    let i = or_both (special true x) (has_special s) h in
    let j = and-true (but 32 x) (all (but 32) s) f in
    let k = and-true (but 61 x) (all (but 61) s) g in
    rw (may_stand x i.0 j.0 k.0, stands s i.1 j.1 k.1)

own_legal : (s : Bytes) → Own s → Free s → LegalKey s
own_legal s o h = record { some = o.some; clean = key_clean s (stands s h o.space o.equal) }

pub keys_legal : (ps : List Pair) → Keys Own ps → Keys Free ps → Keys LegalKey ps
keys_legal [] o f = tt
keys_legal (p ∷ ps) o f = (own_legal p.key o.0 f.0, keys_legal ps o.1 f.1)
