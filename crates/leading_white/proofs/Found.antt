-- How the code finds a lean text.
use mathlib.Core.Path.{◌≡◌, refl, sym, ap, ◌∙◌}
use mathlib.Core.Bool.{Bool, true, false, not, ◌&&◌}
use mathlib.Core.List.{List, [], ◌∷◌}
use Prim.Native.Nat.{ℕ, zero, suc, ◌+◌, ◌-◌, ◌≤◌, ◌<◌, ◌^◌, min}
use native.Mathlib.Omega.{arith}
use lib.ListN.{length, get_or, take, drop, length-take, length-drop}
use borrow.Author.Tests.{lt-ltb, not-true, not-false}
use Rattle.parts.specs.Bytes.{Bytes, part, first_at}
use Rattle.chars.specs.Space.{is_ascii_white}
use Rattle.words.specs.Words.{white_len}
use Rattle.words.specs.declared.Set.TheVariants.{Ascii}
use Rattle.words.proofs.Texts.{white-le}
use Rattle.words.proofs.Bytes.{white-more, white-ends}
use Rattle.tape.specs.File.{Tape, tape_in, node_at, text_at_of}
use Rattle.tape.specs.declared.Sections.{Sections}
use Rattle.tape.specs.declared.Cursor.{Cursor}
use Rattle.source_index.specs.Seek.{solid_byte, passes_at, next_from, Right}
use Rattle.source_index.specs.declared.Test.TheVariants.{Solid}
use Rattle.source_index.proofs.Firsts.{first_hit, first_miss}
use Rattle.leading_white.specs.Lean.{is_wide, lean, Solids}

-- ---- white bytes

white-nil : white_len Ascii [] ≡ 0
white-nil = omega (arith, white-le Ascii [])

passing : (x : ℕ) (u : Bytes) {b : Bool} → is_ascii_white x ≡ b → passes_at Solid (x ∷ u) ≡ not b
unfolding passes_at solid_byte
passing x u e = rw (lt-ltb 0 (length (x ∷ u)) (omega arith), e)

-- the bytes before the first solid one are those of white space
solid-first : (u : Bytes) → first_at (passes_at Solid) u ≡ white_len Ascii u
unfolding first_at
solid-first [] = sym white-nil
solid-first (x ∷ u) = go (is_ascii_white x) refl (solid-first u)
  where
    go : (b : Bool) → is_ascii_white x ≡ b → first_at (passes_at Solid) u ≡ white_len Ascii u → first_at (passes_at Solid) (x ∷ u) ≡ white_len Ascii (x ∷ u)
    go true e q = first_miss (passes_at Solid) (x ∷ u) (omega arith) (passing x u e) ∙ ap suc q ∙ sym (white-more x u e)
    go false e q = first_hit (passes_at Solid) (x ∷ u) (passing x u e) ∙ sym (white-ends x u e)

-- of a front part they are those that it reaches to
white-take : (n : ℕ) (u : Bytes) → n ≤ length u → white_len Ascii (take n u) ≡ min (white_len Ascii u) n
white-take zero u h = omega (arith, white-nil)
white-take (suc n) [] h = absurd (omega arith)
white-take (suc n) (x ∷ u) h = go (is_ascii_white x) refl (white-take n u (omega arith))
  where
    go : (b : Bool) → is_ascii_white x ≡ b → white_len Ascii (take n u) ≡ min (white_len Ascii u) n → white_len Ascii (x ∷ take n u) ≡ min (white_len Ascii (x ∷ u)) (suc n)
    go true e q = omega (arith, white-more x (take n u) e, white-more x u e, q)
    go false e q = omega (arith, white-ends x (take n u) e, white-ends x u e)

pub ahead_found : {table : List ℕ} (s : Bytes) (start len : ℕ) {p r : ℕ} → (Right Solid s table → start ≤ length s → p ≡ next_from Solid s start) → r ≡ min (p - start) len
    → Right Solid s table → start + len ≤ length s → r ≡ white_len Ascii (part s start len)
unfolding next_from
ahead_found s start len {p} {r} ep er q h =
    let first : p ≡ start + white_len Ascii (drop start s) = ep q (omega arith) ∙ ap (λ (n : ℕ). start + n) (solid-first (drop start s)) in
    omega (arith, first, er, white-take len (drop start s) (omega (arith, length-drop start s)))

-- ---- lean texts

-- a white byte in front of another is left out
lean-white : (x y : ℕ) (s : Bytes) → is_ascii_white x ≡ true → is_ascii_white y ≡ true → lean (x ∷ y ∷ s) ≡ lean (y ∷ s)
unfolding lean
lean-white x y s hx hy = rw (hx, hy)

lean-solid : (x y : ℕ) (s : Bytes) → is_ascii_white x && is_ascii_white y ≡ false → lean (x ∷ y ∷ s) ≡ x ∷ y ∷ s
unfolding lean
lean-solid x y s h = rw h

lean-none : lean [] ≡ []
unfolding lean
lean-none = refl

lean_one : (x : ℕ) → lean (x ∷ []) ≡ x ∷ []
unfolding lean
lean_one x = refl

-- all but the last of the white bytes are left out
lean-drop : (s : Bytes) → drop (white_len Ascii s - 1) s ≡ lean s
unfolding lean
lean-drop [] = rw white-nil
lean-drop (x ∷ []) = go (is_ascii_white x) refl
  where
    go : (b : Bool) → is_ascii_white x ≡ b → drop (white_len Ascii (x ∷ []) - 1) (x ∷ []) ≡ x ∷ []
    go true e = rw (white-more x [] e, white-nil)
    go false e = rw (white-ends x [] e)
lean-drop (x ∷ y ∷ s) = go (is_ascii_white x) refl (is_ascii_white y) refl (lean-drop (y ∷ s))
  where
    go : (b : Bool) → is_ascii_white x ≡ b → (d : Bool) → is_ascii_white y ≡ d → drop (white_len Ascii (y ∷ s) - 1) (y ∷ s) ≡ lean (y ∷ s)
        → drop (white_len Ascii (x ∷ y ∷ s) - 1) (x ∷ y ∷ s) ≡ lean (x ∷ y ∷ s)
    go true ex true ey q =
        let n : white_len Ascii (x ∷ y ∷ s) - 1 ≡ suc (white_len Ascii (y ∷ s) - 1) = omega (arith, white-more x (y ∷ s) ex, white-more y s ey) in
        rw n (q ∙ sym (lean-white x y s ex ey))
    go true ex false ey q =
        let n : white_len Ascii (x ∷ y ∷ s) - 1 ≡ 0 = omega (arith, white-more x (y ∷ s) ex, white-ends y s ey) in
        rw n (sym (lean-solid x y s (rw (ex, ey))))
    go false ex d ey q =
        let n : white_len Ascii (x ∷ y ∷ s) - 1 ≡ 0 = omega (arith, white-ends x (y ∷ s) ex) in
        rw n (sym (lean-solid x y s (rw ex)))

module _ (s : Bytes) {white : ℕ} where
  pub past-none : white ≡ 0 → white ≡ white_len Ascii s → s ≡ lean s
  past-none h e = rw (sym e ∙ h) at (lean-drop s)

  pub past-some : {r : Bytes} → r ≡ drop (white - 1) s → white ≡ white_len Ascii s → r ≡ lean s
  past-some er e = er ∙ ap (λ (n : ℕ). drop (n - 1) s) e ∙ lean-drop s

pub lean_read : (s : Bytes) {white : ℕ} {r : Bytes} → white ≡ white_len Ascii s → (white ≡ white_len Ascii s → r ≡ lean s) → r ≡ lean s
lean_read s e f = f e

-- ---- the text of a node

-- what the code tells from two bytes
module _ (s : Bytes) where
  pub wide_short : length s < 2 → false ≡ is_wide s
  unfolding is_wide
  wide_short h = go s h
    where
      go : (u : Bytes) → length u < 2 → false ≡ is_wide u
      go [] l = refl
      go (x ∷ []) l = refl
      go (x ∷ y ∷ u) l = absurd (omega arith)

  wide_two : 2 ≤ length s → is_wide s ≡ is_ascii_white (get_or s 0 0) && is_ascii_white (get_or s 1 0)
  unfolding is_wide
  wide_two h = go s h
    where
      go : (u : Bytes) → 2 ≤ length u → is_wide u ≡ is_ascii_white (get_or u 0 0) && is_ascii_white (get_or u 1 0)
      go [] l = absurd (omega arith)
      go (x ∷ []) l = absurd (omega arith)
      go (x ∷ y ∷ u) l = refl

  module _ {a : Bool} (h : 2 ≤ length s) (ea : a ≡ is_ascii_white (get_or s 0 0)) where
    pub wide_solid : a ≡ false → false ≡ is_wide s
    wide_solid e = sym (wide_two h ∙ rw (sym ea ∙ e))

    pub wide_white : a ≡ true → {z : Bool} → z ≡ is_ascii_white (get_or s 1 0) → z ≡ is_wide s
    wide_white e ez = ez ∙ sym (wide_two h ∙ rw (sym ea ∙ e))

-- a text that is not wide is lean
wide_not : (s : Bytes) → is_wide s ≡ false → s ≡ lean s
unfolding is_wide
wide_not [] e = sym lean-none
wide_not (x ∷ []) e = sym (lean_one x)
wide_not (x ∷ y ∷ s) e = sym (lean-solid x y s e)

wide_some : (s : Bytes) → is_wide s ≡ true → 0 < length s
unfolding is_wide
wide_some [] e = absurd (let no_way : ◌≡◌ {A = ℕ} 0 1 = cc in omega arith)
wide_some (x ∷ s) e = omega arith

pub text-plain : {s t : Bytes} → s ≡ t → {w : Bool} → w ≡ is_wide s → not w ≡ true → s ≡ lean t
text-plain {s} {t} e {w} ew h = wide_not s (sym ew ∙ not-true w h) ∙ ap lean e

take-length : (m : ℕ) (u : Bytes) → take (length (take m u)) u ≡ take m u
take-length zero u = refl
take-length (suc m) [] = refl
take-length (suc m) (x ∷ u) = ap (λ (v : Bytes). x ∷ v) (take-length m u)

module _ (c : Sections) (file : Bytes) (k : Cursor) where
  pub white-found : (table : List ℕ) {m start : ℕ} → m ≡ (node_at (tape_in c file) k.at).start → start ≡ m → {source : Bytes} → source ≡ (tape_in c file).source → (len : ℕ) {r : ℕ}
      → (Right Solid source table → start + len ≤ length source → r ≡ white_len Ascii (part source start len))
      → Solids (tape_in c file) table → 0 < len → len ≡ length (text_at_of (tape_in c file) k.at) → r ≡ white_len Ascii (text_at_of (tape_in c file) k.at)
  unfolding text_at_of
  white-found table {m} {start} em et {source} eo len {r} er q some el =
      er (rw eo q) (omega (arith, some, el, ap length is, length-take l (drop start source), length-drop start source))
      ∙ ap (white_len Ascii) (ap (λ (n : ℕ). take n (drop start source)) (el ∙ ap length is) ∙ take-length l (drop start source) ∙ sym is)
    where
      l : ℕ
      l = (node_at (tape_in c file) k.at).len

      is : part (tape_in c file).source (node_at (tape_in c file) k.at).start l ≡ take l (drop start source)
      is = rw (et, eo, em)

  pub text-white : {s : Bytes} → s ≡ text_at_of (tape_in c file) k.at → {w : Bool} → w ≡ is_wide s → not w ≡ false → {white : ℕ}
      → (0 < length s → length s ≡ length (text_at_of (tape_in c file) k.at) → white ≡ white_len Ascii (text_at_of (tape_in c file) k.at))
      → {r : Bytes} → (white ≡ white_len Ascii s → r ≡ lean s) → r ≡ lean (text_at_of (tape_in c file) k.at)
  text-white {s} es {w} ew hw {white} en er =
      er (en (wide_some s (sym ew ∙ not-false w hw)) (ap length es) ∙ ap (white_len Ascii) (sym es)) ∙ ap lean es

pub solids_filled : (t : Tape) {s : Bytes} {table : List ℕ} → length s < 2 ^ 32 → s ≡ t.source → (length s < 2 ^ 32 → Right Solid s table) → Solids t table
solids_filled t h es f = rw es at (f h)
