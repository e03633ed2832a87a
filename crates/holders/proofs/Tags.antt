-- A block or a row, and the tags of sidebars and periphs.
use mathlib.Core.Path.{◌≡◌, refl, sym, ap, ◌∙◌}
use mathlib.Core.Bool.{Bool, true, false}
use mathlib.Core.List.{List, [], ◌∷◌}
use mathlib.Core.Option.{some}
use Prim.Native.Nat.{ℕ}
use native.Mathlib.Omega.{arith}
use Rattle.parts.specs.Bytes.{Bytes, b}
use Rattle.words.specs.Words.{words, joined, is_blank_of}
use Rattle.words.specs.declared.Set.TheVariants.{Unicode}
use Rattle.words.proofs.Places.{words-nil}
use Rattle.words.proofs.Joins.{words_again}
use Rattle.words.proofs.Blank.{blank_words}
use Rattle.tape.specs.File.{Tape}
use Rattle.tape.specs.Name.{marker_name}
use Rattle.render.specs.Children.{first_text_of}
use Rattle.render.specs.Note.{written_category, step_text, first_words, unless_empty, periph_alt}
use Rattle.attrs.specs.Attr.{attributes_of}
use Rattle.tags.specs.Items.{Attr, Item, start, empty, close, line}
use Rattle.events.specs.Event.{item, rawly, escaped, perhaps, collected}
use Rattle.events.specs.Walk.{style, unclosed}
use Rattle.events.specs.Emit.{Desk, emit, emit_all}
use Rattle.desk.specs.Desk.{desk_of}
use Rattle.desk.specs.Stroke.{opens, key, piece, end_value_of, ends, shuts, closes, strokes_of_attr, strokes_of_attrs, strokes_of, strokes, Drew}
use Rattle.desk.proofs.Strokes.{drew_none, drew_two, drew_attr, drew_item, strokes_item, attrs_append}
use Rattle.holders.specs.Holders.{sidebar_attrs, periph_attrs, attrs_of, element_no}
use Rattle.desk.specs.declared.Desk.{Desk as Held}

-- ---- a sidebar's attributes

module _ (t : Tape) (k : ℕ) (d d₁ d₂ last-d : Held) {out o₁ o₂ last : Bytes} where
  pub sidebar_put : {name : Bytes} → name ≡ marker_name t k → Drew d out (opens 13 ∷ key (b "style") ∷ piece true name ∷ end_value_of ∷ []) d₁ o₁
      → Drew d₁ o₁ (strokes_of_attrs (perhaps (b "category") (written_category t k))) d₂ o₂ → Drew d₂ o₂ (strokes_of_attrs (unclosed t k)) last-d last
      → Drew d out (opens (element_no true) ∷ strokes_of_attrs (sidebar_attrs t k)) last-d last
  unfolding element_no sidebar_attrs style rawly strokes_of_attrs strokes_of_attr
  sidebar_put en e₁ e₂ e₃ =
      rw (attrs_append (perhaps (b "category") (written_category t k)) (unclosed t k), ← en) (drew_two d d₁ last-d e₁ (drew_two d₁ d₂ last-d e₂ e₃))

-- ---- a periph's attributes

unless_some : (s : Bytes) → (s ≡ [] → ⊥) → unless_empty s ≡ some s
unfolding unless_empty
unless_some [] h = absurd (h refl)
unless_some (x ∷ s) h = refl

joined-some : (s : Bytes) → is_blank_of Unicode s ≡ false → joined (words Unicode s) ≡ [] → ⊥
joined-some s h e =
    let bare : words Unicode s ≡ [] = sym (words_again Unicode s) ∙ ap (words Unicode) e ∙ words-nil Unicode in
    let yes : is_blank_of Unicode s ≡ true = (blank_words Unicode s).1 bare in
    let no_way : ◌≡◌ {A = ℕ} 0 1 = cc in omega arith

module _ (t : Tape) (k : ℕ) {text : Bytes} (et : text ≡ step_text t (first_text_of t k)) {x : Bool} (ex : x ≡ is_blank_of Unicode text) (d : Held) {out : Bytes} where
  pub alt_none : x ≡ true → Drew d out (strokes_of_attrs (perhaps (b "alt") (periph_alt t k))) d out
  unfolding strokes_of_attrs perhaps periph_alt unless_empty first_words joined
  alt_none h = rw (← et, (blank_words Unicode text).0 (sym ex ∙ h)) (drew_none d)

  pub alt_some : x ≡ false → (d₁ d₂ last-d : Held) {o₁ o₂ last : Bytes} → Drew d out (key (b "alt") ∷ []) d₁ o₁
      → Drew d₁ o₁ (piece false (joined (words Unicode text)) ∷ []) d₂ o₂ → Drew d₂ o₂ (end_value_of ∷ []) last-d last
      → Drew d out (strokes_of_attrs (perhaps (b "alt") (periph_alt t k))) last-d last
  unfolding strokes_of_attrs strokes_of_attr escaped perhaps periph_alt first_words
  alt_some h d₁ d₂ last-d e₁ e₂ e₃ =
      let s : Bytes = joined (words Unicode text) in
      rw (← et, unless_some s (joined-some text (sym ex ∙ h))) (drew_attr d d₁ d₂ last-d (b "alt") false s e₁ e₂ e₃)

module _ (t : Tape) (k : ℕ) (d d₁ d₂ last-d : Held) {out o₁ o₂ last : Bytes} where
  pub periph_put : Drew d out (opens 14 ∷ []) d₁ o₁ → Drew d₁ o₁ (strokes_of_attrs (perhaps (b "alt") (periph_alt t k))) d₂ o₂
      → Drew d₂ o₂ (strokes_of_attrs (collected (attributes_of t k (b "periph")))) last-d last → Drew d out (opens (element_no false) ∷ strokes_of_attrs (periph_attrs t k)) last-d last
  unfolding element_no periph_attrs
  periph_put e₁ e₂ e₃ =
      rw (attrs_append (perhaps (b "alt") (periph_alt t k)) (collected (attributes_of t k (b "periph")))) (drew_two d d₁ last-d e₁ (drew_two d₁ d₂ last-d e₂ e₃))

-- ---- either

module _ (t : Tape) (k : ℕ) (d last-d : Held) {out last : Bytes} {sidebar : Bool} where
  pub put_side : sidebar ≡ true → Drew d out (opens (element_no true) ∷ strokes_of_attrs (sidebar_attrs t k)) last-d last
      → Drew d out (opens (element_no sidebar) ∷ strokes_of_attrs (attrs_of t k sidebar)) last-d last
  unfolding attrs_of
  put_side h e = rw h e

  pub put_peri : sidebar ≡ false → Drew d out (opens (element_no false) ∷ strokes_of_attrs (periph_attrs t k)) last-d last
      → Drew d out (opens (element_no sidebar) ∷ strokes_of_attrs (attrs_of t k sidebar)) last-d last
  unfolding attrs_of
  put_peri h e = rw h e

-- ---- tags from their strokes

module _ (source : Bytes) (n : ℕ) (qs : List Attr) (d d₁ last-d : Held) {out o₁ last : Bytes} (e : Drew d out (opens n ∷ strokes_of_attrs qs) d₁ o₁) where
  pub tag_started : Drew d₁ o₁ (ends ∷ []) last-d last → desk_of source last-d last ≡ emit (desk_of source d out) (item (start n qs))
  unfolding strokes_of
  tag_started f = drew_item d last-d (start n qs) (drew_two d d₁ last-d e f) source

  pub tag_emptied : Drew d₁ o₁ (shuts ∷ []) last-d last → desk_of source last-d last ≡ emit (desk_of source d out) (item (empty n qs))
  unfolding strokes_of
  tag_emptied f = drew_item d last-d (empty n qs) (drew_two d d₁ last-d e f) source

-- a tag on a line of its own
module _ (level : ℕ) (d : Desk) {m e : Desk} (em : m ≡ emit d (item (line level))) where
  pub on_line : (i : Item) → e ≡ strokes m (strokes_of i) → e ≡ emit_all d (item (line level) ∷ item i ∷ [])
  unfolding emit_all
  on_line i ee = ee ∙ strokes_item m i ∙ ap (λ (z : Desk). emit z (item i)) em

  pub side_closed : {sidebar : Bool} → sidebar ≡ true → e ≡ strokes m (closes 13 ∷ []) → e ≡ emit_all d (item (line level) ∷ item (close (element_no sidebar)) ∷ [])
  unfolding element_no strokes_of
  side_closed h ee = rw h (on_line (close 13) ee)

  pub peri_closed : {sidebar : Bool} → sidebar ≡ false → e ≡ strokes m (closes 14 ∷ []) → e ≡ emit_all d (item (line level) ∷ item (close (element_no sidebar)) ∷ [])
  unfolding element_no strokes_of
  peri_closed h ee = rw h (on_line (close 14) ee)
