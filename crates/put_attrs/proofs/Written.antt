-- Laws of strokes ahead, of one value and of one attribute, as they are drawn.
use mathlib.Core.Path.{◌≡◌, refl, sym, ap, ◌∙◌}
use mathlib.Core.Bool.{Bool, true, false}
use mathlib.Core.List.{List, [], ◌∷◌, ◌++◌, append_assoc}
use Prim.Native.Nat.{ℕ, ◌+◌, ◌-◌, ◌≤◌, ◌<◌}
use native.Mathlib.Omega.{arith}
use lib.ListN.{length, drop, length-drop}
use lib.Seq.{drop-drop}
use Rattle.parts.specs.Bytes.{Bytes, b, part}
use Rattle.chars.specs.Escape.{escape}
use Rattle.attrs.specs.Attr.{piece_len, unquoted, shown}
use Rattle.attrs.specs.Walk.{fixed_keys, value_of, key_of}
use Rattle.attrs.specs.declared.Value.{Value}
use Rattle.attrs.specs.declared.Key.{Key}
use Rattle.attrs.proofs.Values.{piece-some, piece-last, piece_in}
use Rattle.fold.specs.Number.{gap_space}
use Rattle.events.specs.Event.{escaped}
use Rattle.events.specs.Profile.{Profile, rust}
use Rattle.events.specs.Emit.{Desk}
use Rattle.desk.specs.Desk.{profile_of, desk_of, put_on}
use Rattle.desk.specs.Stroke.{Stroke, key, piece, end_value_of, strokes_of_attr, ink, ink_all, strokes, Drew}
use Rattle.desk.proofs.Strokes.{drew_none, strokes-append, ink-pieces, drew_attr, drew_pieces}
use Rattle.desk.specs.declared.Desk.{Desk as Held}

-- ---- strokes ahead

-- the strokes that are ahead leave what all of them leave from the start
pub record Ahead (d₀ : Held) (out₀ : Bytes) (all : List Stroke) (d : Held) (out : Bytes) (ss : List Stroke) : Type 0 where
  pub on : (source : Bytes) → strokes (desk_of source d out) ss ≡ strokes (desk_of source d₀ out₀) all

pub ahead_all : (d : Held) {out : Bytes} {ss : List Stroke} → Ahead d out ss d out ss
ahead_all d = record { on = λ source. refl }

module _ (d₀ d : Held) {out₀ out : Bytes} {all ss : List Stroke} (inv : Ahead d₀ out₀ all d out ss) where
  pub ahead_end : ss ≡ [] → Drew d₀ out₀ all d out
  ahead_end e = record { on = λ source. (drew_none d).on source ∙ ap (strokes (desk_of source d out)) (sym e) ∙ inv.on source }

  pub ahead_rest : (last-d : Held) {last : Bytes} → Drew d out ss last-d last → Drew d₀ out₀ all last-d last
  ahead_rest last-d e = record { on = λ source. e.on source ∙ inv.on source }

  pub ahead_turn : (d₁ : Held) {o₁ : Bytes} {x y : List Stroke} → ss ≡ x ++ y → Drew d out x d₁ o₁ → Ahead d₀ out₀ all d₁ o₁ y
  ahead_turn d₁ {x = x} {y = y} e f =
      record {
        on = λ source.
            ap (λ (w : Desk). strokes w y) (f.on source)
            ∙ sym (strokes-append (desk_of source d out) x y)
            ∙ ap (strokes (desk_of source d out)) (sym e)
            ∙ inv.on source;
      }

-- ---- the pieces of one value

-- a piece of no bytes has none, in any profile
ink-empty : (p : Profile) → [] ≡ ink_all p (piece false [] ∷ [])
unfolding ink_all ink escape
ink-empty rust = refl

-- a value of no bytes is no stroke
pub drew_empty : (d : Held) {out : Bytes} → Drew d out (piece false [] ∷ []) d out
unfolding strokes ink_all
drew_empty d {out} = record { on = λ source. (drew_none d).on source ∙ ap (put_on (desk_of source d out)) (ink-empty (profile_of d.profile)) }

-- a piece of what is ahead
pub ahead_piece : (d₀ d d₁ : Held) {out₀ out o₁ : Bytes} {all : List Stroke} {s : Bytes} → Ahead d₀ out₀ all d out (piece false s ∷ []) → (x y : Bytes) → s ≡ x ++ y
    → Drew d out (piece false x ∷ []) d₁ o₁ → Ahead d₀ out₀ all d₁ o₁ (piece false y ∷ [])
unfolding strokes ink_all
ahead_piece d₀ d d₁ {out = out} inv x y e f =
    ahead_turn d₀ d
    (record {
      on = λ source.
          let p : Profile = profile_of d.profile in
          ap (put_on (desk_of source d out)) (sym (append_assoc (ink p (piece false x)) (ink p (piece false y)) []) ∙ ap (λ (z : Bytes). z ++ []) (ink-pieces p false x y))
          ∙ ap (λ (z : Bytes). strokes (desk_of source d out) (piece false z ∷ [])) (sym e)
          ∙ inv.on source;
    })
    d₁ refl f

-- the last piece
pub unquoted-last : (s : Bytes) (past : ℕ) {rest : Bytes} {n : ℕ} → rest ≡ drop past s → n ≡ piece_len rest → length rest ≤ n → (d₀ d d₁ : Held) {out₀ out o₁ : Bytes} {all : List Stroke}
    → Ahead d₀ out₀ all d out (piece false (unquoted (drop past s)) ∷ []) → Drew d out (piece false rest ∷ []) d₁ o₁ → Drew d₀ out₀ all d₁ o₁
unquoted-last s past {rest} er en h d₀ d d₁ inv e = ahead_rest d₀ d inv d₁ (rw (sym (piece-last rest en h) ∙ ap unquoted er) at e)

module _ (s : Bytes) (past : ℕ) {rest : Bytes} {n : ℕ} (er : rest ≡ drop past s) (en : n ≡ piece_len rest) (h : n < length rest) where
  pub piece-fits : past + n + 2 ≤ length s
  piece-fits = omega (arith, piece_in rest en h, ap length er, length-drop past s)

  pub piece_less : length s - (past + n + 2) < length s - past
  piece_less = omega (arith, piece-fits)

  behind : drop (n + 2) rest ≡ drop (past + n + 2) s
  behind =
      let same : past + (n + 2) ≡ past + n + 2 = omega arith in
      ap (drop (n + 2)) er ∙ drop-drop (n + 2) past s ∙ ap (λ (k : ℕ). drop k s) same

  -- a piece, a `"`, and what follows
  pub unquoted-turn : (d₀ d d₁ : Held) {out₀ out o₁ : Bytes} {all : List Stroke} → Ahead d₀ out₀ all d out (piece false (unquoted (drop past s)) ∷ [])
      → {x : Bytes} → x ≡ part rest 0 n → Drew d out (piece false (x ++ (34 ∷ [])) ∷ []) d₁ o₁ → Ahead d₀ out₀ all d₁ o₁ (piece false (unquoted (drop (past + n + 2) s)) ∷ [])
  unquoted-turn d₀ d d₁ inv {x} ex e =
      let tail : Bytes = unquoted (drop (past + n + 2) s) in
      ahead_piece d₀ d d₁ inv (x ++ (34 ∷ [])) tail
      (ap unquoted (sym er) ∙ piece-some rest en h ∙ rw (behind, ← ex) (sym (append_assoc x (34 ∷ []) tail))) e

-- ---- a raw value

module _ (source : Bytes) (v : Value) {s : Bytes} (es : s ≡ part source v.start v.len) (d last-d : Held) {out last : Bytes} where
  pub value_quoted : v.quoted ≡ true → Drew d out (piece false (unquoted s) ∷ []) last-d last → Drew d out (piece false (value_of source v) ∷ []) last-d last
  unfolding value_of shown
  value_quoted h e = rw (h, ← es) e

  pub value_bare : v.quoted ≡ false → Drew d out (piece false s ∷ []) last-d last → Drew d out (piece false (value_of source v) ∷ []) last-d last
  unfolding value_of shown
  value_bare h e = rw (h, ← es) e

-- ---- an attribute

pub attr_written : (d last-d : Held) {out last : Bytes} (k v : Bytes) → Drew d out (key k ∷ piece false v ∷ end_value_of ∷ []) last-d last
    → Drew d out (strokes_of_attr (escaped k v)) last-d last
unfolding strokes_of_attr escaped
attr_written d last-d k v e = e

pub pair-written : (d d₁ d₂ d₃ : Held) {out o₁ o₂ last : Bytes} (k v : Bytes) → Drew d out (key k ∷ []) d₁ o₁ → Drew d₁ o₁ (piece false v ∷ []) d₂ o₂
    → Drew d₂ o₂ (end_value_of ∷ []) d₃ last → Drew d out (strokes_of_attr (escaped k v)) d₃ last
pair-written d d₁ d₂ d₃ k v e₁ e₂ e₃ = attr_written d d₃ k v (drew_attr d d₁ d₂ d₃ k false v e₁ e₂ e₃)

pub next-written : (source : Bytes) (k : Key) (v : Value) {x : Bytes} → x ≡ key_of source fixed_keys k → (d last-d : Held) {out last : Bytes}
    → Drew d out (strokes_of_attr (escaped x (value_of source v))) last-d last → Drew d out (strokes_of_attr (escaped (key_of source fixed_keys k) (value_of source v))) last-d last
next-written source k v ex d last-d e = rw ex at e

-- ---- a piece of a number

module _ {x : Bool} (s : Bytes) (d last-d : Held) {out last : Bytes} where
  pub word_spaced : x ≡ true → (d₁ : Held) {o₁ : Bytes} → Drew d out (piece false (b " ") ∷ []) d₁ o₁ → Drew d₁ o₁ (piece false s ∷ []) last-d last
      → Drew d out (piece false (gap_space x ++ s) ∷ []) last-d last
  unfolding gap_space
  word_spaced h d₁ e f = rw h (drew_pieces d d₁ last-d false (b " ") s e f)

  pub word_bare : x ≡ false → Drew d out (piece false s ∷ []) last-d last → Drew d out (piece false (gap_space x ++ s) ∷ []) last-d last
  unfolding gap_space
  word_bare h e = rw h e
