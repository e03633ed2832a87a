-- Laws of pairs: one step along a text, and enough steps.
use mathlib.Core.Path.{◌≡◌, refl, sym, ap, ◌∙◌}
use mathlib.Core.Bool.{Bool, true, false}
use mathlib.Core.List.{List, [], ◌∷◌, ◌++◌}
use Prim.Native.Nat.{ℕ, zero, suc, ◌+◌, ◌≤◌, ◌<◌}
use native.Mathlib.Omega.{arith}
use lib.ListN.{length, take, drop, length-drop, length-take}
use lib.Dec.{ltb}
use borrow.Author.Tests.{lt-ltb, le-ltb, ltb-true, ltb-false}
use Rattle.parts.specs.Bytes.{Bytes, b, part, find}
use Rattle.parts.proofs.Laws.{part_front}
use Rattle.words.specs.Words.{words, last_of, white_len, bytes_of}
use Rattle.words.specs.declared.Set.TheVariants.{Unicode}
use Rattle.words.specs.declared.Part.{Part}
use Rattle.words.proofs.Texts.{white-le}
use Rattle.attrs.specs.Attr.{Pair, shown, value_at, equals, has_equals, key_in_of, keyed, pairs_from, pairs_in}
use Rattle.attrs.specs.Walk.{Spot, Front}
use Rattle.attrs.specs.declared.Taken.{Taken}
use Rattle.attrs.proofs.Values.{Within, value_within}

-- the value behind the first `=`
abbrev value_on : Bytes → Taken
value_on s = value_at s (equals s + 1)

-- the pair at the front, if it has a key
unfoldable pub pair_on_of : Bytes → List Pair
pair_on_of s = keyed (key_in_of s) (shown (value_on s).quoted (part s (value_on s).start (value_on s).len))

at_within : (s : Bytes) (at : ℕ) → 0 < at → at ≤ length s → Within s (value_at s at)
unfolding value_at
at_within s at h l =
    value_within s (at + white_len Unicode (drop at s)) (omega arith) (omega (arith, white-le Unicode (drop at s), length-drop at s))

on_within : (s : Bytes) → equals s < length s → Within s (value_on s)
on_within s h = at_within s (equals s + 1) (omega arith) (omega arith)

from_none : (n : ℕ) (s : Bytes) → length s ≤ equals s → pairs_from n s ≡ []
unfolding pairs_from has_equals
from_none zero s h = refl
from_none (suc n) s h = rw (le-ltb (equals s) (length s) h, pairs_from)

from_step : (n : ℕ) (s : Bytes) → equals s < length s → pairs_from (suc n) s ≡ pair_on_of s ++ pairs_from n (drop (value_on s).past s)
unfolding pairs_from has_equals pair_on_of
from_step n s h = rw (lt-ltb (equals s) (length s) h, pairs_from)

enough : (n m : ℕ) (s : Bytes) → length s ≤ n → length s ≤ m → pairs_from n s ≡ pairs_from m s
enough zero m s h l = from_none zero s (omega arith) ∙ sym (from_none m s (omega arith))
enough (suc n) zero s h l = from_none (suc n) s (omega arith) ∙ sym (from_none zero s (omega arith))
enough (suc n) (suc m) s h l = go (ltb (equals s) (length s)) refl (λ z a c. enough n m z a c)
  where
    go : (t : Bool) → ltb (equals s) (length s) ≡ t → ((z : Bytes) → length z ≤ n → length z ≤ m → pairs_from n z ≡ pairs_from m z)
        → pairs_from (suc n) s ≡ pairs_from (suc m) s
    go true e f =
        let i = ltb-true (equals s) (length s) e in
        let w = on_within s i in
        let d = length-drop (value_on s).past s in
        from_step n s i ∙ ap (λ (ps : List Pair). pair_on_of s ++ ps) (f (drop (value_on s).past s) (omega (arith, w.further)) (omega (arith, w.further))) ∙ sym (from_step m s i)
    go false e f = let i = ltb-false (equals s) (length s) e in from_none (suc n) s i ∙ sym (from_none (suc m) s i)

pub pairs-none : (s : Bytes) {e : ℕ} → e ≡ find (b "=") s → length s ≤ e → pairs_in s ≡ []
unfolding pairs_in equals
pairs-none s ee h = from_none (length s) s (omega arith)

pub pairs-nil : pairs_in [] ≡ []
unfolding pairs_in pairs_from
pairs-nil = refl

pairs-step : (s : Bytes) → equals s < length s → pairs_in s ≡ pair_on_of s ++ pairs_in (drop (value_on s).past s)
unfolding pairs_in
pairs-step [] h = absurd (omega arith)
pairs-step (x ∷ s) h =
    let w = on_within (x ∷ s) h in
    let d = length-drop (value_on (x ∷ s)).past (x ∷ s) in
    from_step (length s) (x ∷ s) h
    ∙ ap (λ (ps : List Pair). pair_on_of (x ∷ s) ++ ps)
    (enough (length s) (length (drop (value_on (x ∷ s)).past (x ∷ s))) (drop (value_on (x ∷ s)).past (x ∷ s)) (omega (arith, w.further)) (omega arith))

-- the pair at the front of a text that holds a `=`
pub pair-first : (s : Bytes) {e : ℕ} {r : Bytes} {key : Part} {v : Taken} → e ≡ find (b "=") s → e < length s → r ≡ part s 0 e
    → Spot r key (last_of (words Unicode r)) → v ≡ value_at s (e + 1) → Front s key v
unfolding equals key_in_of pair_on_of
pair-first s {e} {r} {key} {v} ee h er sp ev =
    record {
      key_inside = omega (arith, sp.inside, ap length er, length-take e s);
      value_inside = rw ev (rw ee w.value);
      past_inside = rw ev (rw ee w.past);
      further = rw ev (rw ee w.further);
      listed = pairs-step s hs ∙ rw (value, front);
    }
  where
    hs : equals s < length s
    hs = omega arith

    w : Within s (value_on s)
    w = on_within s hs

    value : v ≡ value_on s
    value = ev ∙ ap (λ (n : ℕ). value_at s (n + 1)) ee

    front : bytes_of s key ≡ key_in_of s
    front =
        sym (part_front s e key.start key.len (rw er at sp.inside))
        ∙ ap (λ (z : Bytes). bytes_of z key) (sym er)
        ∙ sp.here
        ∙ ap (λ (z : Bytes). last_of (words Unicode z)) (er ∙ ap (λ (n : ℕ). take n s) ee)
