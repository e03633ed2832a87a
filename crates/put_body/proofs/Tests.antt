-- What the tests on bytes answer.
use mathlib.Core.Path.{◌≡◌, refl, sym, ap, ◌∙◌}
use mathlib.Core.Bool.{Bool, true, false, not, or-false, or-true}
use mathlib.Core.List.{[], ◌∷◌}
use Prim.Native.Nat.{ℕ, ◌+◌, ◌-◌, ◌≤◌, ◌<◌}
use native.Mathlib.Nat.{zero-add}
use native.Mathlib.Omega.{arith}
use lib.ListN.{length, get_or, take, drop}
use lib.Dec.{eqb}
use borrow.Author.Tests.{eq-eqb, ne_eqb, eqb-true, eqb-false}
use Rattle.parts.specs.Bytes.{Bytes, first_at}
use Rattle.parts.proofs.Laws.{drop-part, first-turn, first_stop, first_end}
use Rattle.chars.specs.Range.{in_any, within}
use Rattle.chars.specs.Space.{is_ascii_white}
use Rattle.words.specs.Words.{white_len}
use Rattle.words.specs.declared.Set.TheVariants.{Ascii}
use Rattle.put_body.specs.Body.{plain, starts_solid, differs, shared_len, SharedTo, gap_white_of, gap_of}
use Rattle.put_body.specs.declared.Mark.TheVariants.{Nothing, Space, Hard}
use Rattle.put_body.specs.declared.Gap.{Gap}
use Rattle.put_body.proofs.Rest.{shared-le}

-- whether a text is empty
pub none_left : {n : ℕ} {t : Bool} → t ≡ eqb n 0 → t ≡ true → n ≡ 0
none_left {n} et e = eqb-true n 0 (sym et ∙ e)

pub some_left : {n : ℕ} {t : Bool} → t ≡ eqb n 0 → t ≡ false → 0 < n
some_left {n} et e = omega (arith, eqb-false n 0 (sym et ∙ e))

module _ (x : ℕ) where
  pub plain_other : {t : Bool} → (x ≡ 126 → ⊥) → t ≡ is_ascii_white x → not t ≡ plain x
  unfolding plain
  plain_other {t} n et = rw (← et, ne_eqb x 126 n) (ap not (sym (or-false t)))

  pub plain_tilde : x ≡ 126 → not (eqb x 126) ≡ plain x
  unfolding plain
  plain_tilde e = rw (eq-eqb x 126 e) (ap not (sym (or-true (is_ascii_white x))))

module _ (s : Bytes) where
  module _ {e : Bool} (ee : e ≡ eqb (length s) 0) where
    pub starts_none : e ≡ true → not e ≡ starts_solid s
    unfolding starts_solid
    starts_none n = ap not n ∙ go s (none_left ee n)
      where
        go : (s : Bytes) → length s ≡ 0 → false ≡ starts_solid s
        go [] h = refl
        go (x ∷ s) h = absurd (omega arith)

    pub starts_some : {t : Bool} → e ≡ false → t ≡ is_ascii_white (get_or s 0 0) → not t ≡ starts_solid s
    unfolding starts_solid
    starts_some {t} n et = go s (λ z. omega (arith, some_left ee n, z)) et
      where
        go : (s : Bytes) → (length s ≡ 0 → ⊥) → t ≡ is_ascii_white (get_or s 0 0) → not t ≡ starts_solid s
        go [] h et = absurd (h refl)
        go (x ∷ s) h et = rw et

  pub differs_none : length s ≡ 0 → true ≡ differs s
  unfolding differs
  differs_none h = go s h
    where
      go : (s : Bytes) → length s ≡ 0 → true ≡ differs s
      go [] h = refl
      go (x ∷ s) h = absurd (omega arith)

  module _ {x : ℕ} {rest : Bytes} (e : s ≡ x ∷ rest) {t : Bool} where
    pub differs_space : x ≡ 32 → t ≡ starts_solid rest → not t ≡ differs s
    unfolding differs plain is_ascii_white in_any within
    differs_space x32 et = rw (e, x32, et)

    pub differs_other : (x ≡ 32 → ⊥) → t ≡ plain x → not t ≡ differs s
    unfolding differs
    differs_other n et = rw (e, ne_eqb x 32 n, ← et) (ap not (sym (or-false t)))

  -- ---- the run

  module _ (i : ℕ) where
    pub shared-turn : {t : Bool} → i < length s → t ≡ differs (take (length s - i) (drop i s)) → t ≡ false
        → i + shared_len (drop i s) ≡ shared_len s → i + 1 + shared_len (drop (i + 1) s) ≡ shared_len s
    unfolding shared_len
    shared-turn h et e inv = first-turn differs s i (first_at differs s) h (drop-part s i) et e inv

    pub shared_stop : {t : Bool} → i < length s → t ≡ differs (take (length s - i) (drop i s)) → t ≡ true
        → i + shared_len (drop i s) ≡ shared_len s → i ≡ shared_len s
    unfolding shared_len
    shared_stop h et e inv = first_stop differs s i (first_at differs s) h (drop-part s i) et e inv

    pub shared_end : length s ≤ i → i ≤ length s → i + shared_len (drop i s) ≡ shared_len s → length s ≡ shared_len s
    unfolding shared_len
    shared_end h l inv = let e : i ≡ length s = omega arith in sym e ∙ first_end differs s i (first_at differs s) h inv

  pub shared_start : SharedTo s 0
  shared_start = record { within = omega arith; rest = zero-add (shared_len s) }

  pub shared_on : {i n : ℕ} → SharedTo s i → n ≡ shared_len (take (length s - i) (drop i s)) → i + n ≡ shared_len s
  shared_on {i} z e = omega (arith, e, ap shared_len (drop-part s i), z.rest)

  pub shared-fits : {i n : ℕ} → SharedTo s i → n ≡ shared_len (take (length s - i) (drop i s)) → i + n ≤ length s
  shared-fits z e = omega (arith, shared_on z e, shared-le s)

  -- ---- the gap

  pub white-ends : {n : ℕ} → n ≡ white_len Ascii s → n ≡ length s → ◌≡◌ {A = Gap} (record { mark = Nothing; len = n }) (gap_white_of s)
  unfolding gap_white_of
  white-ends en e = rw (← en, eq-eqb _ _ e)

  pub white_goes : {n : ℕ} → n ≡ white_len Ascii s → (n ≡ length s → ⊥) → ◌≡◌ {A = Gap} (record { mark = Space; len = n }) (gap_white_of s)
  unfolding gap_white_of
  white_goes en e = rw (← en, ne_eqb _ _ e)

  pub gap_none : length s ≡ 0 → ◌≡◌ {A = Gap} (record { mark = Nothing; len = 0 }) (gap_of s)
  unfolding gap_of
  gap_none h = go s h
    where
      go : (s : Bytes) → length s ≡ 0 → ◌≡◌ {A = Gap} (record { mark = Nothing; len = 0 }) (gap_of s)
      go [] h = refl
      go (x ∷ s) h = absurd (omega arith)

  module _ {x : ℕ} {rest : Bytes} (e : s ≡ x ∷ rest) where
    pub gap_tilde : x ≡ 126 → ◌≡◌ {A = Gap} (record { mark = Hard; len = 1 }) (gap_of s)
    unfolding gap_of
    gap_tilde h = rw (e, h)

    module _ (n : x ≡ 126 → ⊥) {t : Bool} (et : t ≡ is_ascii_white x) where
      pub gap_white : {g : Gap} → t ≡ true → g ≡ gap_white_of s → g ≡ gap_of s
      unfolding gap_of
      gap_white h eg = eg ∙ rw (e, ne_eqb x 126 n, ← et, h)

      pub gap_plain : t ≡ false → ◌≡◌ {A = Gap} (record { mark = Nothing; len = 0 }) (gap_of s)
      unfolding gap_of
      gap_plain h = rw (e, ne_eqb x 126 n, ← et, h)
