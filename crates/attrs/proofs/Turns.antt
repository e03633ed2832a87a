-- Laws of a walk over the pairs of a part: one turn.
use mathlib.Core.Path.{◌≡◌, refl, sym, ap, ◌∙◌}
use mathlib.Core.List.{List, [], ◌∷◌}
use Prim.Native.Nat.{ℕ, ◌+◌, ◌-◌, ◌≤◌, ◌<◌, max}
use native.Mathlib.Omega.{arith}
use lib.ListN.{length, drop, length-drop, length-take}
use lib.Seq.{length-take-le}
use Rattle.parts.specs.Bytes.{Bytes, part}
use Rattle.parts.proofs.Laws.{part-past, part-part}
use Rattle.words.specs.Words.{bytes_of}
use Rattle.words.specs.declared.Part.{Part}
use Rattle.attrs.specs.Attr.{Pair, shown, keyed, pairs_in}
use Rattle.attrs.specs.Walk.{value_of, Front, FirstOf, item_list}
use Rattle.attrs.specs.declared.Taken.{Taken}
use Rattle.attrs.specs.declared.First.{First}
use Rattle.attrs.specs.Found.{AtFront}
use Rattle.std.specs.Prelude.{None, Some}

-- ---- a pair with no key, and one with a key

keyed-none : (k v : Bytes) → length k ≤ 0 → keyed k v ≡ []
unfolding keyed
keyed-none [] v h = refl
keyed-none (x ∷ k) v h = absurd (omega arith)

keyed-some : (k v : Bytes) → 0 < length k → keyed k v ≡ record { key = k; value = v } ∷ []
unfolding keyed
keyed-some [] v h = absurd (omega arith)
keyed-some (x ∷ k) v h = refl

-- ---- one turn

module _ (source : Bytes) (a n : ℕ) {r : Bytes} {f : AtFront} (er : r ≡ part source a n) (ef : FirstOf r f) where
  pub turn-none : f ≡ None → {ps : List Pair} → pairs_in (part source a n) ≡ ps → ps ≡ item_list source None
  unfolding item_list
  turn-none e inv = sym inv ∙ ap pairs_in (sym er) ∙ (rw e at ef)

  module _ {x : First} (e : f ≡ Some x) where
    abbrev key : Part
    key = x.key

    abbrev v : Taken
    v = x.value

    front : Front r key v
    front = rw e at ef

    -- the part is at most n long, and lies in the source
    size : (length r ≤ n) × (a + length r ≤ max a (length source))
    size = let l = length-take n (drop a source) in let d = length-drop a source in let z = ap length er in (omega arith, omega arith)

    pub past_in : v.past ≤ n
    past_in = omega (arith, front.past_inside, size.0)

    pub past_fits : a + v.past ≤ max a (length source)
    past_fits = omega (arith, front.past_inside, size.1)

    pub key_fits : a + key.start ≤ max a (length source)
    key_fits = omega (arith, front.key_inside, size.1)

    pub value_fits : a + v.start ≤ max a (length source)
    value_fits = omega (arith, front.value_inside, size.1)

    pub turn_less : n - v.past < n
    turn_less = omega (arith, front.further, past_in)

    key_size : length (bytes_of r key) ≡ key.len
    key_size = length-take-le key.len (drop key.start r) (omega (arith, length-drop key.start r, front.key_inside))

    past-rest : drop v.past r ≡ part source (a + v.past) (n - v.past)
    past-rest = ap (drop v.past) er ∙ part-past source a n v.past

    -- a pair with no key is passed over
    pub turn_on : key.len ≤ 0 → {ps : List Pair} → pairs_in (part source a n) ≡ ps → pairs_in (part source (a + v.past) (n - v.past)) ≡ ps
    turn_on h inv =
        sym (ap pairs_in (sym er) ∙ front.listed ∙ rw (keyed-none (bytes_of r key) (shown v.quoted (part r v.start v.len)) (omega (arith, key_size)), past-rest)) ∙ inv

    inner : (c l : ℕ) → c + l ≤ length r → part r c l ≡ part source (a + c) l
    inner c l h = ap (λ (z : Bytes). part z c l) er ∙ part-part source a n c l (rw er at h)

    pub turn-found : 0 < key.len → {ps : List Pair} → pairs_in (part source a n) ≡ ps
        → ps ≡ item_list source (Some (record {
          key = record { start = a + key.start; len = key.len };
          value = record { start = a + v.start; len = v.len; quoted = v.quoted };
          rest = record { start = a + v.past; len = n - v.past };
        }))
    unfolding item_list value_of
    turn-found h inv =
        sym inv
        ∙ ap pairs_in (sym er)
        ∙ front.listed
        ∙ rw (keyed-some (bytes_of r key) (shown v.quoted (part r v.start v.len)) (omega (arith, key_size)), past-rest, inner key.start key.len front.key_inside, inner v.start v.len front.value_inside)
