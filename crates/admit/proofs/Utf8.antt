-- A part of a UTF-8 text between two boundaries is UTF-8.
use mathlib.Core.Path.{◌≡◌, refl, sym, ap, ◌∙◌}
use mathlib.Core.Bool.{true}
use mathlib.Core.List.{List, [], ◌∷◌, ◌++◌, flatten}
use Prim.Native.Nat.{ℕ, zero, suc, ◌+◌}
use native.Mathlib.Omega.{arith}
use lib.ListN.{length, take, length-append}
use lib.Seq.{take-append-add, take-add, drop_at}
use Rattle.parts.specs.Bytes.{Bytes, part}
use Rattle.chars.specs.Utf8.{seq_len, characters, is_utf8, is_boundary}
use Rattle.chars.proofs.Characters.{seq_append, utf8_nil, utf8_first, Whole, utf8_whole, characters_flatten, utf8_append, boundary_between}

whole_utf8 : (cs : List Bytes) → Whole cs → is_utf8 (flatten cs) ≡ true
unfolding flatten
whole_utf8 [] w = utf8_nil
whole_utf8 (c ∷ cs) w =
    let z : Bytes = flatten cs in
    let n : seq_len (c ++ z) ≡ length c = seq_append c z (omega (arith, w.0, w.1)) ∙ w.1 in
    utf8_first (c ++ z) (omega (arith, w.0)) ∙ ap is_utf8 (drop_at c z (seq_len (c ++ z)) (sym n)) ∙ whole_utf8 cs w.2

whole_front : (j : ℕ) (cs : List Bytes) → Whole cs → Whole (take j cs)
whole_front zero cs w = tt
whole_front (suc j) [] w = tt
whole_front (suc j) (c ∷ cs) w = (w.0, w.1, whole_front j cs w.2)

front_flat : (j : ℕ) (cs : List Bytes) → take (length (flatten (take j cs))) (flatten cs) ≡ flatten (take j cs)
unfolding flatten
front_flat zero cs = refl
front_flat (suc j) [] = refl
front_flat (suc j) (c ∷ cs) =
    ap (λ (n : ℕ). take n (c ++ flatten cs)) (length-append c (flatten (take j cs)))
    ∙ take-append-add c (flatten cs) (length (flatten (take j cs)))
    ∙ ap (λ (z : Bytes). c ++ z) (front_flat j cs)

module _ (s : Bytes) (e : is_utf8 s ≡ true) where
  -- the front of a text up to a boundary
  pub utf8_front : (a : ℕ) → is_boundary s a ≡ true → is_utf8 (take a s) ≡ true
  utf8_front a h = ap is_utf8 same ∙ whole_utf8 (take j cs) (whole_front j cs (utf8_whole s e))
    where
      cs : List Bytes
      cs = characters s

      j : ℕ
      j = ((boundary_between s a e).0 h).passed

      same : take a s ≡ flatten (take j cs)
      same =
          ap (λ (n : ℕ). take n s) ((boundary_between s a e).0 h).place
          ∙ sym (ap (take (length (flatten (take j cs)))) (characters_flatten s))
          ∙ front_flat j cs

  pub utf8_part : (a n : ℕ) → is_boundary s a ≡ true → is_boundary s (a + n) ≡ true → is_utf8 (part s a n) ≡ true
  utf8_part a n h l =
      sym (utf8_append (take a s) (part s a n) (utf8_front a h)) ∙ sym (ap is_utf8 (take-add a n s)) ∙ utf8_front (a + n) l
