-- An end that the checker reads while its start is open: its identifier needs no escape.
use mathlib.Core.Path.{◌≡◌, refl, ap, subst}
use mathlib.Core.Bool.{Bool, true, false}
use mathlib.Core.List.{List, [], ◌∷◌, ◌++◌}
use mathlib.Core.Logic.{inl, inr}
use Prim.Native.Nat.{ℕ, ◌+◌, ◌<◌}
use native.Mathlib.Omega.{arith}
use lib.ListN.{length, length-append}
use Rattle.parts.specs.Bytes.{Bytes, b, same}
use Rattle.chars.specs.Escape.{escape}
use Rattle.chars.proofs.Escapes.{escape_least}
use Rattle.chars.proofs.Lists.{all}
use Rattle.tags.specs.Names.{IsName}
use Rattle.tags.specs.Form.{Pair}
use Rattle.tags.specs.Write.{write_pair, write_pairs, CleanPairs, none, more}
use Rattle.checker.specs.View.{Mark, other, ends, opened, single, id_key_of, noted_by, noted, mark_on, view}
use Rattle.checker.specs.Words.{Kind}
use Rattle.checker.specs.Steps.{Held, held}
use Rattle.checker.specs.Meaning.{since, Fits, of_open, of_single, chapter_end, verse_end}
use Rattle.accepts.specs.Proviso.{Free}
use Rattle.exact.proofs.Reading.{tailed, tag_of, tag_in, Reads}
use Rattle.accepts.proofs.Ends.{eid}
use Rattle.accepts.proofs.Free.{free-escape}
use Rattle.accepts.proofs.Spaces.{but}
use Rattle.exact.proofs.Cuts.{Cut, even, longer, cut, cut_even, key_no_equals, value_no_quote}
use Rattle.exact.proofs.Items.{tag_read}

-- ---- what fits where a chapter or a verse is read

-- neither an opening tag nor one of a form that is neither start nor end
not_open : {c v : Held} {k : ℕ} → Kind k → Fits c v (opened k) → ⊥
not_open (inl e) (of_open f g) = f e
not_open (inr e) (of_open f g) = g e

not-other : {c v : Held} {k : ℕ} → Kind k → Fits c v (single k other) → ⊥
not-other (inl e) (of_single f g) = f e
not-other (inr e) (of_single f g) = g e

other_on : (ps : List Pair) → mark_on other ps ≡ other
unfolding mark_on noted noted_by
other_on [] = refl
other_on (p ∷ ps) = other_on ps

-- ---- reading an end

-- an end is read as it is written, or with a shorter identifier
pub data EndRead (c v : Held) (k : ℕ) (i r : Bytes) : Type 0 where
  whole : Fits c v (single k (ends i)) → Reads (since 3 c (single k (ends i))) (since 4 v (single k (ends i))) r → EndRead c v k i r
  less : (a : Bytes) → length a < length i → Fits c v (single k (ends a)) → EndRead c v k i r

module _ {c v : Held} (k : ℕ) (kind : Kind k) (i r : Bytes) where
  -- behind the key, where the tag that is read has this value first
  value_read : (e : Bool) (a : Bytes) (ps : List Pair) (z : Bytes) → all (but 34) a ≡ true → a ++ 34 ∷ write_pairs ps (tailed e z) ≡ i ++ 34 ∷ tailed true r
      → Fits c v (view (tag_of e k (eid a ∷ ps))) → Reads (since 3 c (view (tag_of e k (eid a ∷ ps)))) (since 4 v (view (tag_of e k (eid a ∷ ps)))) z
      → EndRead c v k i r
  unfolding view mark_on noted noted_by id_key_of same write_pairs
  value_read false a ps z h w f g = absurd (not_open kind f)
  value_read true a (p ∷ ps) z h w f g = absurd (not-other kind (subst (λ (m : Mark). Fits c v (single k m)) (other_on ps) f))
  value_read true a [] z h w f g = go (cut 34 a (32 ∷ 47 ∷ 62 ∷ z) i (32 ∷ 47 ∷ 62 ∷ r) h w)
    where
      go : Cut 34 a (32 ∷ 47 ∷ 62 ∷ z) i (32 ∷ 47 ∷ 62 ∷ r) → EndRead c v k i r
      go (even l m) =
          let n : z ≡ r = cc in
          whole (subst (λ (u : Bytes). Fits c v (single k (ends u))) l f)
          (subst (Reads (since 3 c (single k (ends i))) (since 4 v (single k (ends i)))) n
          (subst (λ (u : Bytes). Reads (since 3 c (single k (ends u))) (since 4 v (single k (ends u))) z) l g))
      go (longer d l m) = less a (omega (arith, ap length l, length-append a (34 ∷ d))) f

  -- the key is `eid` on both sides
  pairs_read : (e : Bool) (ps : List Pair) (z : Bytes) → write_pairs ps (tailed e z) ≡ write_pairs (eid i ∷ []) (tailed true r) → CleanPairs ps
      → Fits c v (view (tag_of e k ps)) → Reads (since 3 c (view (tag_of e k ps))) (since 4 v (view (tag_of e k ps))) z → EndRead c v k i r
  unfolding write_pairs write_pair
  pairs_read false [] z w none f g = absurd (let n : ◌≡◌ {A = ℕ} 62 32 = cc in omega arith)
  pairs_read true [] z w none f g = absurd (let n : ◌≡◌ {A = ℕ} 47 101 = cc in omega arith)
  pairs_read e (p ∷ ps) z w (more q qs) f g =
      let x : Bytes = 34 ∷ (p.value ++ 34 ∷ write_pairs ps (tailed e z)) in
      let y : Bytes = 34 ∷ (i ++ 34 ∷ tailed true r) in
      let l : p.key ++ 61 ∷ x ≡ b "eid" ++ 61 ∷ y = cc in
      let m = cut_even 61 p.key x (b "eid") y (key_no_equals p.key q.key) (unfold all but in refl) l in
      let n : p.value ++ 34 ∷ write_pairs ps (tailed e z) ≡ i ++ 34 ∷ tailed true r = let o = m.1 in cc in
      let o : p ≡ eid p.value = ap (λ (u : Bytes). record { key = u; value = p.value }) m.0 in
      value_read e p.value ps z (value_no_quote p.value q.value) n
      (subst (λ (u : Pair). Fits c v (view (tag_of e k (u ∷ ps)))) o f)
      (subst (λ (u : Pair). Reads (since 3 c (view (tag_of e k (u ∷ ps)))) (since 4 v (view (tag_of e k (u ∷ ps)))) z) o g)

  pub end_read : {s : Bytes} → IsName k → s ≡ tag_in true k (eid i ∷ []) r → Reads c v s → EndRead c v k i r
  end_read h e z =
      let t = tag_read k (write_pairs (eid i ∷ []) (tailed true r)) h e z in
      pairs_read t.end t.pairs t.behind t.written t.clean t.fit t.rest

-- ---- ends of what is open

-- what an end finds open
pub verse_held : {c v : Held} {i : Bytes} → Fits c v (single 4 (ends i)) → v ≡ held i
verse_held (of_single f g) = absurd (g refl)
verse_held (verse_end e) = e

pub chapter_held : {c v : Held} {i : Bytes} → Fits c v (single 3 (ends i)) → c ≡ held i
chapter_held (of_single f g) = absurd (f refl)
chapter_held (chapter_end e f) = e

-- the end of a start whose identifier was written with its escapes: it is free, and no more is open
pub held_end : {c v : Held} {k : ℕ} {i r : Bytes} → ((a : Bytes) → Fits c v (single k (ends a)) → held (escape true i) ≡ held a) → EndRead c v k i r
    → Free i × Reads (since 3 c (single k (ends i))) (since 4 v (single k (ends i))) r
held_end {i = i} is (whole f z) = ((free-escape i).1 (let e = is i f in cc), z)
held_end {i = i} is (less a h f) =
    let e = is a f in
    let g : escape true i ≡ a = cc in
    absurd (omega (arith, ap length g, escape_least true i))
