-- Characters in a row: lists that a text is cut into.
use mathlib.Core.Path.{◌≡◌, refl, sym, ap, ◌∙◌}
use mathlib.Core.List.{List, [], ◌∷◌, ◌++◌, flatten, append_assoc}
use Prim.Native.Nat.{ℕ, ◌≤◌, ◌<◌}
use native.Mathlib.Omega.{arith}
use lib.ListN.{length, take, drop, length-append, take-append-drop}
use lib.Seq.{take-append_seam, drop-append_seam, length-take-le}
use Rattle.parts.specs.Bytes.{Bytes}
use Rattle.chars.specs.Utf8.{cut, cut_at}
use Rattle.chars.proofs.Characters.{cut_induct, cut-first, cut_whole}

-- a first piece has a byte at least
abbrev pub Some : (Bytes → ℕ) → Type 0
Some size = (s : Bytes) → 0 < length s → 1 ≤ size s

-- and lies within its text
abbrev pub Inside : (Bytes → ℕ) → Type 0
Inside size = (s : Bytes) → size s ≤ length s

-- each has a byte at least, and is the first piece of the text from it on
pub data Row (size : Bytes → ℕ) : List Bytes → Type 0 where
  none : Row size []
  more : {c : Bytes} {cs : List Bytes} → 0 < length c → size (c ++ flatten cs) ≡ length c → Row size cs → Row size (c ∷ cs)

-- a text cut short behind its first piece begins with the same
abbrev pub Steady : (Bytes → ℕ) → Type 0
Steady size = (s t : Bytes) → 0 < length s → size (s ++ t) ≤ length s → size s ≡ size (s ++ t)

pub flatten_append : (cs ds : List Bytes) → flatten (cs ++ ds) ≡ flatten cs ++ flatten ds
unfolding flatten
flatten_append [] ds = refl
flatten_append (c ∷ cs) ds = rw (flatten_append cs ds) (sym (append_assoc c (flatten cs) (flatten ds)))

module _ (size : Bytes → ℕ) where
  pub row_cut : Some size → Inside size → (s : Bytes) → Row size (cut size s)
  unfolding cut_at
  row_cut some inside s = cut_induct some (λ s. Row size (cut size s)) none first s
    where
      first : (s : Bytes) → 0 < length s → Row size (cut size (drop (size s) s)) → Row size (cut size s)
      first s h r =
          let c : Bytes = take (size s) s in
          let ds : List Bytes = cut size (drop (size s) s) in
          let e : length c ≡ size s = length-take-le (size s) s (inside s) in
          rw (cut-first some s h)
          (more {c = c} {cs = ds} (omega (arith, some s h)) (rw (cut_whole some (drop (size s) s), take-append-drop (size s) s) (sym e)) r)

  -- such a list is what its own text is cut into
  pub row_whole : Some size → {cs : List Bytes} → Row size cs → cut size (flatten cs) ≡ cs
  unfolding cut_at flatten
  row_whole some none = refl
  row_whole some (more {c} {cs} h e r) =
      let s : Bytes = c ++ flatten cs in
      cut-first some s (omega (arith, length-append c (flatten cs)))
      ∙ rw (e, take-append_seam c (flatten cs), drop-append_seam c (flatten cs)) (ap (λ (z : List Bytes). c ∷ z) (row_whole some r))

  pub row-behind : (cs ds : List Bytes) → Row size (cs ++ ds) → Row size ds
  row-behind [] ds r = r
  row-behind (c ∷ cs) ds (more h e r) = row-behind cs ds r

  pub row_before : Steady size → (cs ds : List Bytes) → Row size (cs ++ ds) → Row size cs
  unfolding flatten
  row_before steady [] ds r = none
  row_before steady (c ∷ cs) ds (more h e r) =
      let s : Bytes = c ++ flatten cs in
      let f : size (s ++ flatten ds) ≡ length c = rw (append_assoc c (flatten cs) (flatten ds), ← flatten_append cs ds) e in
      more h (steady s (flatten ds) (omega (arith, length-append c (flatten cs))) (omega (arith, length-append c (flatten cs))) ∙ f) (row_before steady cs ds r)

  -- only an empty row makes an empty text
  pub row-empty : {cs : List Bytes} → Row size cs → length (flatten cs) ≡ 0 → cs ≡ []
  unfolding flatten
  row-empty none e = refl
  row-empty (more {c} {cs} h _ r) e = absurd (omega (arith, length-append c (flatten cs)))

  -- a row before a text that no first piece reaches into
  pub row-join : (cs ds : List Bytes) → ((x : Bytes) → 0 < length x → size (x ++ flatten ds) ≡ size x) → Row size cs → Row size ds → Row size (cs ++ ds)
  unfolding flatten
  row-join [] ds apart none u = u
  row-join (c ∷ cs) ds apart (more h e r) u =
      let s : Bytes = c ++ flatten cs in
      let f : c ++ flatten (cs ++ ds) ≡ s ++ flatten ds = rw (flatten_append cs ds) (sym (append_assoc c (flatten cs) (flatten ds))) in
      more h (ap size f ∙ apart s (omega (arith, length-append c (flatten cs))) ∙ e) (row-join cs ds apart r u)
