-- The marker by which a node collects changes none but free keys.
use mathlib.Core.Path.{◌≡◌, refl, ap, ◌∙◌}
use mathlib.Core.Bool.{Bool, true, false, cond, ◌&&◌}
use mathlib.Core.List.{List, [], ◌∷◌, ◌++◌, map}
use Prim.Native.Nat.{ℕ}
use lib.Dec.{eqb}
use Rattle.parts.specs.Bytes.{Bytes, b, same}
use Rattle.parts.proofs.Laws.{same_true}
use Rattle.chars.specs.Escape.{special}
use Rattle.tape.specs.File.{Tape, kind_at, text_at_of}
use Rattle.tape.specs.Tree.{children}
use Rattle.attrs.specs.Attr.{Pair, has_equals, pairs_in, default_key, key_for, keyed_for, attribute_body, body_pairs, pairs_at, pairs_along, attributes_of}
use Rattle.grammar.proofs.Attrs.{Keys}
use Rattle.accepts.specs.Proviso.{has_special, Free, key, Name, keys_of, AllFree}
use Rattle.accepts.proofs.Keys.{default_any}

-- ---- rows that differ in free names alone

pub data Alike : List Name → List Name → Type 0 where
  none : Alike [] []
  equal : {n : Name} {ns ms : List Name} → Alike ns ms → Alike (n ∷ ns) (n ∷ ms)
  plain : {n m : Name} {ns ms : List Name} → Free n.bytes → Free m.bytes → Alike ns ms → Alike (n ∷ ns) (m ∷ ms)

alike_append : {ns ms xs ys : List Name} → Alike ns ms → Alike xs ys → Alike (ns ++ xs) (ms ++ ys)
alike_append none z = z
alike_append (equal a) z = equal (alike_append a z)
alike_append (plain f g a) z = plain f g (alike_append a z)

pub alike_free : {ns ms : List Name} → Alike ns ms → AllFree ns → AllFree ms
alike_free none f = tt
alike_free (equal a) (f, fs) = (f, alike_free a fs)
alike_free (plain x g a) (f, fs) = (g, alike_free a fs)

-- ---- the keys of a node

default_free : (m : Bytes) → Free (default_key m)
unfolding has_special special
default_free = default_any Free refl refl refl refl refl refl refl refl

-- a key as two markers have it
abbrev as_key : Bytes → Name
as_key s = record { what = key; bytes = s }

-- `src` and `file` are free
one_alike : (f g z : Bool) (s : Bytes) → (z ≡ true → Free s) → {ns ms : List Name} → Alike ns ms
    → Alike (as_key (cond (f && z) (b "file") s) ∷ ns) (as_key (cond (g && z) (b "file") s) ∷ ms)
unfolding has_special special
one_alike true true z s h a = equal a
one_alike false false z s h a = equal a
one_alike true false true s h a = plain refl (h refl) a
one_alike true false false s h a = equal a
one_alike false true true s h a = plain (h refl) refl a
one_alike false true false s h a = equal a

src_free : (s : Bytes) → same s (b "src") ≡ true → Free s
unfolding has_special special
src_free s e = ap has_special (same_true s (b "src") e) ∙ refl

keyed_alike : (m n : Bytes) (ps : List Pair) → Alike (keys_of (map (keyed_for m) ps)) (keys_of (map (keyed_for n) ps))
unfolding keys_of keyed_for key_for
keyed_alike m n [] = none
keyed_alike m n (p ∷ ps) = one_alike (same m (b "fig")) (same n (b "fig")) (same p.key (b "src")) p.key (src_free p.key) (keyed_alike m n ps)

body_alike : (m n s : Bytes) → Alike (keys_of (body_pairs m s)) (keys_of (body_pairs n s))
unfolding body_pairs keys_of
body_alike m n [] = none
body_alike m n (x ∷ s) = go (has_equals (x ∷ s))
  where
    go : (z : Bool) → Alike (keys_of (cond z (map (keyed_for m) (pairs_in (x ∷ s))) (record { key = default_key m; value = x ∷ s } ∷ [])))
        (keys_of (cond z (map (keyed_for n) (pairs_in (x ∷ s))) (record { key = default_key n; value = x ∷ s } ∷ [])))
    go true = keyed_alike m n (pairs_in (x ∷ s))
    go false = plain (default_free m) (default_free n) none

at_alike : (t : Tape) (m n : Bytes) (k : ℕ) → Alike (keys_of (pairs_at t m k)) (keys_of (pairs_at t n k))
unfolding pairs_at keys_of
at_alike t m n k = go (eqb (kind_at t k) 2)
  where
    go : (z : Bool) → Alike (keys_of (cond z (body_pairs m (attribute_body (text_at_of t k))) [])) (keys_of (cond z (body_pairs n (attribute_body (text_at_of t k))) []))
    go true = body_alike m n (attribute_body (text_at_of t k))
    go false = none

names-append : (ps qs : List Pair) → keys_of (ps ++ qs) ≡ keys_of ps ++ keys_of qs
unfolding keys_of
names-append [] qs = refl
names-append (p ∷ ps) qs = ap (λ (l : List Name). as_key p.key ∷ l) (names-append ps qs)

along_alike : (t : Tape) (m n : Bytes) (ks : List ℕ) → Alike (keys_of (pairs_along t m ks)) (keys_of (pairs_along t n ks))
unfolding pairs_along keys_of
along_alike t m n [] = none
along_alike t m n (k ∷ ks) =
    rw (names-append (pairs_at t m k) (pairs_along t m ks), names-append (pairs_at t n k) (pairs_along t n ks)) (alike_append (at_alike t m n k) (along_alike t m n ks))

-- the keys of a node by any two markers
pub attributes_alike : (t : Tape) (k : ℕ) (m n : Bytes) → Alike (keys_of (attributes_of t k m)) (keys_of (attributes_of t k n))
unfolding attributes_of
attributes_alike t k m n = along_alike t m n (children t k)

keys_free : (ps : List Pair) → AllFree (keys_of ps) → Keys Free ps
unfolding keys_of
keys_free [] h = tt
keys_free (p ∷ ps) h = (h.0, keys_free ps h.1)

-- keys that are free by one marker are free by any
pub attributes_free : (t : Tape) (k : ℕ) (m n : Bytes) → AllFree (keys_of (attributes_of t k m)) → Keys Free (attributes_of t k n)
attributes_free t k m n h = keys_free (attributes_of t k n) (alike_free (attributes_alike t k m n) h)
