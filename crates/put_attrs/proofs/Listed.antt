-- Laws of attributes one after another: a walk over them, one that may be missing, a folded number, a figure of old.
use mathlib.Core.Path.{◌≡◌, refl, sym, ap, ◌∙◌}
use mathlib.Core.Bool.{false}
use mathlib.Core.List.{List, [], ◌∷◌, ◌++◌, append_assoc}
use Prim.Native.Nat.{ℕ}
use native.Mathlib.Omega.{arith}
use lib.ListN.{length}
use Rattle.parts.specs.Bytes.{Bytes, b, part}
use Rattle.words.specs.Words.{trim}
use Rattle.words.specs.declared.Set.TheVariants.{Unicode}
use Rattle.tape.specs.File.{Tape, text_at_of}
use Rattle.tape.specs.Tree.{walk_from}
use Rattle.tape.specs.declared.Cursor.{Cursor}
use Rattle.tape.specs.Found.{Step}
use Rattle.std.specs.Prelude.{Option as Perhaps, None, Some}
use Rattle.render.specs.Note.{category_text_of, trimmed_at, written_category}
use Rattle.attrs.specs.Attr.{Pair, pairs_along}
use Rattle.attrs.specs.Walk.{fixed_keys, value_of, key_of, remaining, next_list, sought_of}
use Rattle.attrs.specs.declared.Value.{Value}
use Rattle.attrs.specs.declared.Attrs.{Attrs}
use Rattle.attrs.specs.declared.Attribute.{Attribute}
use Rattle.attrs.specs.Found.{Next, Sought}
use Rattle.attrs.proofs.Pairs.{pairs-nil}
use Rattle.attrs.proofs.Walks.{next_end, next_listed}
use Rattle.fold.specs.Fold.{number_in, folded_number}
use Rattle.fold.specs.Number.{gap_space, to_come, piece_list}
use Rattle.fold.specs.declared.Number.{Number}
use Rattle.fold.specs.declared.Piece.{Piece}
use Rattle.figure.specs.Figure.{field_at, described_by, valued, legacy_pairs}
use Rattle.tags.specs.Items.{Attr}
use Rattle.events.specs.Event.{escaped, perhaps, collected}
use Rattle.desk.specs.Stroke.{Stroke, piece, strokes_of_attr, strokes_of_attrs, Drew}
use Rattle.desk.proofs.Strokes.{drew_none, drew_two, attrs_append}
use Rattle.put_attrs.specs.Parts.{about_pairs, place_pairs}
use Rattle.put_attrs.proofs.Written.{drew_empty, Ahead, ahead_end, ahead_rest, ahead_turn, ahead_piece}
use Rattle.desk.specs.declared.Desk.{Desk as Held}

-- the strokes of pairs
abbrev pub strokes_of_pairs : List Pair → List Stroke
strokes_of_pairs ps = strokes_of_attrs (collected ps)

-- ---- one, and more behind it

one_listed : (a : Attr) → strokes_of_attrs (a ∷ []) ≡ strokes_of_attr a
unfolding strokes_of_attrs strokes_of_attr
one_listed a = refl

-- the attributes of a list and of another behind it
collected-append : (ps qs : List Pair) → collected (ps ++ qs) ≡ collected ps ++ collected qs
unfolding collected
collected-append [] qs = refl
collected-append (p ∷ ps) qs = ap (λ (z : List Attr). escaped p.key p.value ∷ z) (collected-append ps qs)

pub pairs-append : (ps qs : List Pair) → strokes_of_pairs (ps ++ qs) ≡ strokes_of_pairs ps ++ strokes_of_pairs qs
pairs-append ps qs = ap strokes_of_attrs (collected-append ps qs) ∙ attrs_append (collected ps) (collected qs)

pairs-two : (d d₁ d₂ : Held) {out o₁ last : Bytes} (ps qs : List Pair) → Drew d out (strokes_of_pairs ps) d₁ o₁ → Drew d₁ o₁ (strokes_of_pairs qs) d₂ last
    → Drew d out (strokes_of_pairs (ps ++ qs)) d₂ last
pairs-two d d₁ d₂ ps qs e f = rw (pairs-append ps qs) (drew_two d d₁ d₂ e f)

-- ---- the walk over the attributes of a node

module _ (t : Tape) (m : Bytes) (a : Attrs) {n : Next} (en : remaining t m a ≡ next_list t m n) (d₀ d : Held) {out₀ out : Bytes} where
  pub collected_end : n ≡ None → (from : Step)
      → Ahead d₀ out₀ (strokes_of_pairs (remaining t m (record { rest = record { start = 0; len = 0 }; next = from }))) d out (strokes_of_pairs (remaining t m a))
      → Drew d₀ out₀ (strokes_of_pairs (pairs_along t m (walk_from t from))) d out
  unfolding strokes_of_attrs collected remaining
  collected_end e from inv = rw pairs-nil at (ahead_end d₀ d inv (ap strokes_of_pairs (next_end t m a en e)))

  pub collected-turn : {x : Attribute} → n ≡ Some x → {s : Bytes} → s ≡ t.source → (d₁ : Held) {o₁ : Bytes} {all : List Stroke}
      → Drew d out (strokes_of_attr (escaped (key_of s fixed_keys x.key) (value_of s x.value))) d₁ o₁ → Ahead d₀ out₀ all d out (strokes_of_pairs (remaining t m a))
      → Ahead d₀ out₀ all d₁ o₁ (strokes_of_pairs (remaining t m x.left))
  unfolding strokes_of_attrs collected
  collected-turn e es d₁ f inv = ahead_turn d₀ d inv d₁ (ap strokes_of_pairs (next_listed t m a en e)) (rw es at f)

-- ---- a value that may be missing

module _ (key : Bytes) (d : Held) {out : Bytes} where
  pub sought_missing : (source : Bytes) {v : Sought} → v ≡ None → Drew d out (strokes_of_attrs (perhaps key (sought_of source v))) d out
  unfolding sought_of perhaps strokes_of_attrs
  sought_missing source e = rw e (drew_none d)

  pub sought_written : (source : Bytes) {v : Sought} {x : Value} → v ≡ Some x → {s : Bytes} → s ≡ source → (last-d : Held) {last : Bytes}
      → Drew d out (strokes_of_attr (escaped key (value_of s x))) last-d last → Drew d out (strokes_of_attrs (perhaps key (sought_of source v))) last-d last
  unfolding sought_of perhaps
  sought_written source e es last-d f = rw (e, one_listed, ← es) f

  pub number_missing : (t : Tape) {s : Step} → s ≡ None → Drew d out (strokes_of_attrs (perhaps key (folded_number t s))) d out
  unfolding folded_number perhaps strokes_of_attrs
  number_missing t e = rw e (drew_none d)

  pub number-written : (t : Tape) {s : Step} {c : Cursor} → s ≡ Some c → (last-d : Held) {last : Bytes} → Drew d out (strokes_of_attr (escaped key (number_in t c.at))) last-d last
      → Drew d out (strokes_of_attrs (perhaps key (folded_number t s))) last-d last
  unfolding folded_number perhaps
  number-written t e last-d f = rw (e, one_listed) f

  module _ (t : Tape) (k : ℕ) {s : Step} (es : s ≡ category_text_of t k) where
    pub category_missing : s ≡ None → Drew d out (strokes_of_attrs (perhaps key (written_category t k))) d out
    unfolding written_category trimmed_at perhaps strokes_of_attrs
    category_missing e = rw (sym es ∙ e) (drew_none d)

    pub category-written : {c : Cursor} → s ≡ Some c → {x : Bytes} → x ≡ trim Unicode (text_at_of t c.at) → (last-d : Held) {last : Bytes}
        → Drew d out (strokes_of_attr (escaped key x)) last-d last
        → Drew d out (strokes_of_attrs (perhaps key (written_category t k))) last-d last
    unfolding written_category trimmed_at perhaps
    category-written e ex last-d f = rw (sym es ∙ e, one_listed, ← ex) f

-- ---- the pieces of a number

module _ (t : Tape) (n : Number) {p : Perhaps Piece} (ep : to_come t n ≡ piece_list t p) (d₀ d : Held) {out₀ out : Bytes} where
  pub number_end : p ≡ None → (k : ℕ) (n₀ : Number) → to_come t n₀ ≡ number_in t k
      → Ahead d₀ out₀ (piece false (to_come t n₀) ∷ []) d out (piece false (to_come t n) ∷ []) → Drew d₀ out₀ (piece false (number_in t k) ∷ []) d out
  unfolding piece_list
  number_end e k n₀ all inv = rw (← all) (ahead_rest d₀ d inv d (rw (ep ∙ ap (piece_list t) e) (drew_empty d)))

  pub number-turn : {w : Piece} → p ≡ Some w → {s y : Bytes} → s ≡ t.source → y ≡ part s w.part.start w.part.len → (d₁ : Held) {o₁ : Bytes} {all : List Stroke}
      → Drew d out (piece false (gap_space w.space ++ y) ∷ []) d₁ o₁ → Ahead d₀ out₀ all d out (piece false (to_come t n) ∷ []) → Ahead d₀ out₀ all d₁ o₁ (piece false (to_come t w.left) ∷ [])
  unfolding piece_list
  number-turn {w} e {s} {y} es ey d₁ f inv =
      let here : y ≡ part t.source w.part.start w.part.len = ey ∙ ap (λ (z : Bytes). part z w.part.start w.part.len) es in
      ahead_piece d₀ d d₁ inv (gap_space w.space ++ y) (to_come t w.left)
      (ep ∙ ap (piece_list t) e ∙ rw (← here) (sym (append_assoc (gap_space w.space) y (to_come t w.left)))) f

-- ---- figures of old

module _ (d : Held) {out : Bytes} where
  pub valued-none : (key value : Bytes) → length value ≡ 0 → Drew d out (strokes_of_pairs (valued key value)) d out
  unfolding valued collected strokes_of_attrs
  valued-none key [] h = drew_none d
  valued-none key (x ∷ value) h = absurd (omega arith)

  pub valued-some : (key value : Bytes) → (length value ≡ 0 → ⊥) → (last-d : Held) {last : Bytes} → Drew d out (strokes_of_attr (escaped key value)) last-d last
      → Drew d out (strokes_of_pairs (valued key value)) last-d last
  unfolding valued collected
  valued-some key [] h last-d e = absurd (h refl)
  valued-some key (x ∷ value) h last-d e = rw one_listed e

legacy_two : (t : Tape) (k a : ℕ) → about_pairs t k a ++ place_pairs t a ≡ legacy_pairs t k a
unfolding about_pairs place_pairs legacy_pairs
legacy_two t k a = simp append_assoc

module _ (t : Tape) (a : ℕ) (d last-d : Held) {out last : Bytes} where
  pub field_written : (key : Bytes) (n : ℕ) {x : Bytes} → x ≡ field_at t a n → Drew d out (strokes_of_pairs (valued key x)) last-d last
      → Drew d out (strokes_of_pairs (valued key (field_at t a n))) last-d last
  field_written key n ex e = rw ex at e

  module _ (d₁ d₂ : Held) {o₁ o₂ : Bytes} where
    pub about_written : (k : ℕ) {x : Bytes} → x ≡ described_by t k → Drew d out (strokes_of_pairs (valued (b "alt") x)) d₁ o₁
        → Drew d₁ o₁ (strokes_of_pairs (valued (b "file") (field_at t a 0))) d₂ o₂ → Drew d₂ o₂ (strokes_of_pairs (valued (b "size") (field_at t a 1))) last-d last
        → Drew d out (strokes_of_pairs (about_pairs t k a)) last-d last
    unfolding about_pairs
    about_written k ex e₁ e₂ e₃ = pairs-two d d₁ last-d _ _ (rw ex at e₁) (pairs-two d₁ d₂ last-d _ _ e₂ e₃)

    pub place_written : Drew d out (strokes_of_pairs (valued (b "loc") (field_at t a 2))) d₁ o₁
        → Drew d₁ o₁ (strokes_of_pairs (valued (b "copy") (field_at t a 3))) d₂ o₂ → Drew d₂ o₂ (strokes_of_pairs (valued (b "ref") (field_at t a 5))) last-d last
        → Drew d out (strokes_of_pairs (place_pairs t a)) last-d last
    unfolding place_pairs
    place_written e₁ e₂ e₃ = pairs-two d d₁ last-d _ _ e₁ (pairs-two d₁ d₂ last-d _ _ e₂ e₃)

  pub legacy_written : (k : ℕ) (d₁ : Held) {o₁ : Bytes} → Drew d out (strokes_of_pairs (about_pairs t k a)) d₁ o₁ → Drew d₁ o₁ (strokes_of_pairs (place_pairs t a)) last-d last
      → Drew d out (strokes_of_pairs (legacy_pairs t k a)) last-d last
  legacy_written k d₁ e f = rw (← legacy_two t k a) (pairs-two d d₁ last-d _ _ e f)
