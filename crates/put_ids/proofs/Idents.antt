-- Identifiers and the ends of what is open, from their strokes.
use mathlib.Core.Path.{◌≡◌, refl, ap, ◌∙◌}
use mathlib.Core.Bool.{Bool, true, false}
use mathlib.Core.List.{List, [], ◌∷◌, ◌++◌, append_assoc}
use mathlib.Core.Option.{some}
use Prim.Native.Nat.{ℕ}
use Rattle.parts.specs.Bytes.{Bytes, b, part}
use Rattle.chars.specs.Decimal.{decimal}
use Rattle.chars.specs.Escape.{escape, escaped_byte}
use Rattle.usx_state.specs.declared.OpenChapter.{OpenChapter}
use Rattle.usx_state.specs.declared.OpenVerse.{OpenVerse}
use Rattle.std.specs.Prelude.{Option as Perhaps, Some, None}
use Rattle.events.specs.Event.{rawly}
use Rattle.events.specs.Pairing.{chapter_id_of, verse_id_of, end_of}
use Rattle.desk.specs.Desk.{chapter_in, verse_in}
use Rattle.desk.specs.Stroke.{Stroke, opens, key, piece, end_value_of, shuts, strokes_of_attr, strokes_of_attrs, strokes_of, strokes_of_all, Drew}
use Rattle.desk.proofs.Strokes.{drew_none, drew_two, drew_pieces}
use Rattle.desk.specs.declared.Desk.{Desk as Held}

-- ---- in a row

-- strokes by another name
pub drew_as : (d last-d : Held) {out last : Bytes} {x y : List Stroke} → x ≡ y → Drew d out x last-d last → Drew d out y last-d last
drew_as d last-d {out} {last} e h = rw e at h

pub drew_three : (d d₁ d₂ d₃ : Held) {out o₁ o₂ last : Bytes} {x y u : List Stroke} → Drew d out x d₁ o₁ → Drew d₁ o₁ y d₂ o₂ → Drew d₂ o₂ u d₃ last
    → Drew d out (x ++ (y ++ u)) d₃ last
drew_three d d₁ d₂ d₃ e₁ e₂ e₃ = drew_two d d₁ d₃ e₁ (drew_two d₁ d₂ d₃ e₂ e₃)

-- ---- identifiers

by_raw : {d last-d : Held} {out last : Bytes} (raw : Bool) {s : Bytes} → Drew d out (piece true s ∷ []) last-d last → Drew d out (piece false s ∷ []) last-d last
    → Drew d out (piece raw s ∷ []) last-d last
by_raw true e f = e
by_raw false e f = f

verse-chapter : (code : Bytes) (n : ℕ) (label : Bytes) → chapter_id_of code n ++ (b ":" ++ label) ≡ verse_id_of code n label
unfolding chapter_id_of verse_id_of
verse-chapter code n label = append_assoc code (b " " ++ decimal n) (b ":" ++ label)

module _ (d d₁ d₂ d₃ : Held) {out o₁ o₂ last : Bytes} where
  pub chapter-id : (raw : Bool) (code : Bytes) (n : ℕ) → Drew d out (piece raw code ∷ []) d₁ o₁ → (escape true (b " ") ≡ b " " → (raw : Bool) → Drew d₁ o₁ (piece raw (b " ") ∷ []) d₂ o₂)
      → Drew d₂ o₂ (piece true (decimal n) ∷ []) d₃ last → Drew d₂ o₂ (piece false (decimal n) ∷ []) d₃ last → Drew d out (piece raw (chapter_id_of code n) ∷ []) d₃ last
  unfolding chapter_id_of escape escaped_byte
  chapter-id raw code n e₁ e₂ e₃ e₄ = drew_pieces d d₁ d₃ raw code (b " " ++ decimal n) e₁ (drew_pieces d₁ d₂ d₃ raw (b " ") (decimal n) (e₂ refl raw) (by_raw raw e₃ e₄))

  pub verse-id : (raw : Bool) (code : Bytes) (n : ℕ) (label : Bytes) → Drew d out (piece raw (chapter_id_of code n) ∷ []) d₁ o₁ → (escape true (b ":") ≡ b ":" → (raw : Bool) → Drew d₁ o₁ (piece raw (b ":") ∷ []) d₂ o₂)
      → Drew d₂ o₂ (piece raw label ∷ []) d₃ last → Drew d out (piece raw (verse_id_of code n label) ∷ []) d₃ last
  unfolding escape escaped_byte
  verse-id raw code n label e₁ e₂ e₃ =
      drew_as d d₃ (ap (λ (s : Bytes). piece raw s ∷ []) (verse-chapter code n label))
      (drew_pieces d d₁ d₃ raw (chapter_id_of code n) (b ":" ++ label) e₁ (drew_pieces d₁ d₂ d₃ raw (b ":") label (e₂ refl raw) e₃))

-- ---- ends

module _ (d d₁ d₂ : Held) {out o₁ last : Bytes} where
  pub end_opened : (n : ℕ) → Drew d out (opens n ∷ []) d₁ o₁ → Drew d₁ o₁ (key (b "eid") ∷ []) d₂ last → Drew d out (opens n ∷ key (b "eid") ∷ []) d₂ last
  end_opened n e₁ e₂ = drew_two d d₁ d₂ e₁ e₂

  pub value_shut : Drew d out (end_value_of ∷ []) d₁ o₁ → Drew d₁ o₁ (shuts ∷ []) d₂ last → Drew d out (end_value_of ∷ shuts ∷ []) d₂ last
  value_shut e₁ e₂ = drew_two d d₁ d₂ e₁ e₂

-- the strokes of an end
end_strokes : (n : ℕ) (i : Bytes) → opens n ∷ key (b "eid") ∷ piece true i ∷ end_value_of ∷ shuts ∷ [] ≡ strokes_of_all (end_of n (some i))
unfolding strokes_of_all strokes_of strokes_of_attrs strokes_of_attr end_of rawly
end_strokes n i = refl

module _ (d : Held) (out source : Bytes) where
  pub chapter_shut : {held : Perhaps OpenChapter} → held ≡ None → Drew d out (strokes_of_all (end_of 3 (chapter_in source held))) d out
  unfolding chapter_in end_of strokes_of_all
  chapter_shut h = rw h (drew_none d)

  pub verse_shut : {held : Perhaps OpenVerse} → held ≡ None → Drew d out (strokes_of_all (end_of 4 (verse_in source held))) d out
  unfolding verse_in end_of strokes_of_all
  verse_shut h = rw h (drew_none d)

module _ (d d₁ d₂ d₃ : Held) {out o₁ o₂ last : Bytes} (source : Bytes) where
  pub chapter-ended : {held : Perhaps OpenChapter} {c : OpenChapter} → held ≡ Some c → {s : Bytes} → s ≡ part source c.book.start c.book.len
      → Drew d out (opens 3 ∷ key (b "eid") ∷ []) d₁ o₁ → Drew d₁ o₁ (piece true (chapter_id_of s c.number) ∷ []) d₂ o₂ → Drew d₂ o₂ (end_value_of ∷ shuts ∷ []) d₃ last
      → Drew d out (strokes_of_all (end_of 3 (chapter_in source held))) d₃ last
  unfolding chapter_in
  chapter-ended {c = c} h es e₁ e₂ e₃ =
      rw h (drew_as d d₃ (end_strokes 3 _ ∙ ap (λ (z : Bytes). strokes_of_all (end_of 3 (some (chapter_id_of z c.number)))) es) (drew_three d d₁ d₂ d₃ e₁ e₂ e₃))

  pub verse-ended : {held : Perhaps OpenVerse} {v : OpenVerse} → held ≡ Some v → {s l : Bytes} → s ≡ part source v.book.start v.book.len → l ≡ part source v.label.start v.label.len
      → Drew d out (opens 4 ∷ key (b "eid") ∷ []) d₁ o₁ → Drew d₁ o₁ (piece true (verse_id_of s v.number l) ∷ []) d₂ o₂ → Drew d₂ o₂ (end_value_of ∷ shuts ∷ []) d₃ last
      → Drew d out (strokes_of_all (end_of 4 (verse_in source held))) d₃ last
  unfolding verse_in
  verse-ended {v = v} h {l = l} es el e₁ e₂ e₃ =
      rw h (drew_as d d₃
      (end_strokes 4 _ ∙ ap (λ (z : Bytes). strokes_of_all (end_of 4 (some (verse_id_of z v.number l)))) es ∙ ap (λ (z : Bytes). strokes_of_all (end_of 4 (some (verse_id_of (part source v.book.start v.book.len) v.number z)))) el)
      (drew_three d d₁ d₂ d₃ e₁ e₂ e₃))
