-- The keys that a node collects: the marker changes free ones alone, and the walk over them.
use mathlib.Core.Path.{◌≡◌, refl, ap}
use mathlib.Core.List.{List, [], ◌∷◌}
use Prim.Native.Nat.{ℕ}
use Rattle.parts.specs.Bytes.{Bytes}
use Rattle.words.specs.Words.{bytes_of}
use Rattle.words.specs.declared.Part.{Part}
use Rattle.chars.specs.Escape.{special}
use Rattle.tape.specs.File.{Tape}
use Rattle.attrs.specs.Attr.{attributes_of}
use Rattle.attrs.specs.Walk.{fixed_keys, key_of, remaining, next_list}
use Rattle.attrs.specs.declared.Key.{Key as Own-or_fixed}
use Rattle.attrs.specs.declared.Key.TheVariants.{Own, Fixed}
use Rattle.attrs.specs.declared.Attrs.{Attrs}
use Rattle.attrs.specs.declared.Attribute.{Attribute}
use Rattle.attrs.specs.Found.{Next}
use Rattle.attrs.proofs.Walks.{next_end, next_listed}
use Rattle.accepts.specs.Proviso.{has_special, Free, key, Name, keys_of}
use Rattle.accepts.proofs.FreeKeys.{attributes_alike}
use Rattle.names.specs.declared.What.TheVariants.{Key}
use Rattle.names.specs.declared.Hit.{Hit}
use Rattle.std.specs.Prelude.{Option, None, Some}
use Rattle.names.specs.Finding.{what_of}
use Rattle.names.specs.Hits.{Tested, free, Hits, nowhere}
use Rattle.names.proofs.Specials.{free_part}
use Rattle.names.proofs.Rows.{hit_here, hit_on, alone, alike_hits}

-- ---- the marker changes free keys alone

pub collected_alike : (t : Tape) (k : ℕ) {h : Option Hit} → Hits t k (keys_of (attributes_of t k [])) h → (m : Bytes) → Hits t k (keys_of (attributes_of t k m)) h
collected_alike t k r m = alike_hits (attributes_alike t k [] m) r

-- ---- one key

fixed_free : Free fixed_keys
unfolding has_special special
fixed_free = refl

module _ (source : Bytes) {k : Own-or_fixed} where
  pub key_own : {p : Part} → k ≡ Own p → {r : Option Hit} → Tested source Key (bytes_of source p) r → Tested source Key (key_of source fixed_keys k) r
  unfolding key_of
  key_own e ts = rw e ts

  pub key_fixed : (p : Part) → k ≡ Fixed p → Tested source Key (key_of source fixed_keys k) None
  unfolding key_of
  key_fixed p e = rw e (free (free_part fixed_keys p.start p.len fixed_free))

-- ---- the walk

-- what is found among the keys that are left is found among all
pub record Onward (t : Tape) (ns ms : List Name) : Type 0 where
  pub go : (k : ℕ) {h : Option Hit} → Hits t k ns h → Hits t k ms h

pub onward_start : (t : Tape) (ns : List Name) → Onward t ns ns
onward_start t ns = record { go = λ k r. r }

module _ (t : Tape) (m : Bytes) (a : Attrs) {n : Next} (en : remaining t m a ≡ next_list t m n) {ms : List Name} (on : Onward t (keys_of (remaining t m a)) ms) where
  onward_end : n ≡ None → (k : ℕ) → Hits t k ms None
  unfolding keys_of
  onward_end e k = on.go k (rw (next_end t m a en e) (nowhere tt))

  module _ {x : Attribute} (e : n ≡ Some x) {s : Bytes} (es : s ≡ t.source) {h : Option Hit} (ts : Tested s Key (key_of s fixed_keys x.key) h) where
    abbrev name : Name
    name = record { what = key; bytes = key_of t.source fixed_keys x.key }

    one_key : (k : ℕ) → Hits t k (name ∷ []) h
    unfolding what_of
    one_key k = alone t k name refl (rw es at ts) (λ q eq sp. tt)

    listed : keys_of (remaining t m a) ≡ name ∷ keys_of (remaining t m x.left)
    unfolding keys_of
    listed = ap keys_of (next_listed t m a en e)

    onward_hit : {g : Hit} → h ≡ Some g → (k : ℕ) → Hits t k ms (Some g)
    onward_hit eg k = on.go k (rw listed (hit_here t k (name ∷ []) (keys_of (remaining t m x.left)) (one_key k) eg))

    pub keys_turn : h ≡ None → Onward t (keys_of (remaining t m x.left)) ms
    keys_turn eg = record { go = λ k r. on.go k (rw listed (hit_on t k (name ∷ []) (keys_of (remaining t m x.left)) (one_key k) eg r)) }

-- from the walk's start on
module _ (t : Tape) (k : ℕ) (m : Bytes) (a₀ : Attrs) (all : (m : Bytes) → remaining t m a₀ ≡ attributes_of t k m) (a : Attrs) {n : Next}
    (en : remaining t m a ≡ next_list t m n) (on : Onward t (keys_of (remaining t m a)) (keys_of (remaining t m a₀))) where
  pub keys_end : n ≡ None → Hits t k (keys_of (attributes_of t k m)) None
  keys_end e = rw (all m) at (onward_end t m a en on e k)

  pub keys_hit : {x : Attribute} → n ≡ Some x → {s : Bytes} → s ≡ t.source → {h : Option Hit} → Tested s Key (key_of s fixed_keys x.key) h
      → {g : Hit} → h ≡ Some g → Hits t k (keys_of (attributes_of t k m)) (Some g)
  keys_hit e es ts eg = rw (all m) at (onward_hit t m a en on e es ts eg k)
