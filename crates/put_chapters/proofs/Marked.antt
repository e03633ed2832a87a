-- Chapters, verses and books as they are written, and the marks behind them.
use mathlib.Core.Path.{◌≡◌, refl, sym, ap, ◌∙◌}
use mathlib.Core.Bool.{Bool, true, false}
use mathlib.Core.List.{List, [], ◌∷◌, ◌++◌, append_assoc, append-nil}
use mathlib.Core.Option.{Option, none}
use Prim.Native.Nat.{ℕ, ◌<◌}
use native.Mathlib.Omega.{arith}
use lib.ListN.{length}
use Rattle.parts.specs.Bytes.{Bytes, b, part}
use Rattle.chars.specs.Decimal.{decimal}
use Rattle.words.specs.Words.{words, joined, is_blank_of, bytes_of}
use Rattle.words.specs.declared.Set.TheVariants.{Unicode}
use Rattle.words.specs.declared.Part.{Part}
use Rattle.texts.proofs.Texts.{joined_blank, joined-some}
use Rattle.window.specs.Page.{paint}
use Rattle.tape.specs.File.{Tape}
use Rattle.tape.specs.Found.{Step}
use Rattle.render.specs.Children.{first_text_of}
use Rattle.render.specs.Label.{label_of, IsLabel}
use Rattle.render.specs.Note.{step_text, remainder, book_code_of, book_rest_of, IsCode}
use Rattle.render.proofs.Notes.{rest-words}
use Rattle.fold.specs.Fold.{folded_number}
use Rattle.tags.specs.Items.{Item, empty}
use Rattle.usx_state.specs.Mark.{named_book, next_chapter, next_verse, all_closed}
use Rattle.usx_state.specs.declared.Marks.{Marks}
use Rattle.events.specs.Event.{Event, perhaps, rawly, escaped, chapter as chapter_event, verse as verse_event, book as book_event}
use Rattle.events.specs.Pairing.{State, chapter_id_of, verse_id_of, after, end_of, chapter_attrs_of, verse_attrs_of, book_attrs, book_items, items_of, last_ends}
use Rattle.events.specs.Profile.{render_as}
use Rattle.events.specs.Emit.{Desk, emit}
use Rattle.desk.specs.Desk.{chapter_in, verse_in, state_in, profile_of, desk_of, put_on, ended}
use Rattle.desk.specs.Stroke.{Stroke, opens, key, piece, end_value_of, ends, shuts, closes, words as said, strokes_of_attr, strokes_of_attrs, strokes_of, strokes_of_all, strokes, Drew}
use Rattle.desk.proofs.Strokes.{drew_two, attrs_append, ink_items}
use Rattle.put_ids.proofs.Idents.{drew_as, drew_three}
use Rattle.window.specs.Page.{page_of}
use Rattle.desk.specs.declared.Desk.{Desk as Held}

-- ---- parts of tags

-- a tag's front, an attribute and a style
pub tag_head : (d d₁ d₂ d₃ : Held) {out o₁ o₂ last : Bytes} (n : ℕ) (k : Bytes) (raw : Bool) (v style : Bytes) → Drew d out (opens n ∷ []) d₁ o₁
    → Drew d₁ o₁ (key k ∷ piece raw v ∷ end_value_of ∷ []) d₂ o₂ → Drew d₂ o₂ (key (b "style") ∷ piece true style ∷ end_value_of ∷ []) d₃ last
    → Drew d out (opens n ∷ key k ∷ piece raw v ∷ end_value_of ∷ key (b "style") ∷ piece true style ∷ end_value_of ∷ []) d₃ last
tag_head d d₁ d₂ d₃ n k raw v style e₁ e₂ e₃ = drew_three d d₁ d₂ d₃ e₁ e₂ e₃

-- an identifier that is the last of a tag
pub sid_shut : (d d₁ d₂ d₃ : Held) {out o₁ o₂ last : Bytes} (i : Bytes) → Drew d out (key (b "sid") ∷ []) d₁ o₁ → Drew d₁ o₁ (piece false i ∷ []) d₂ o₂
    → Drew d₂ o₂ (end_value_of ∷ shuts ∷ []) d₃ last → Drew d out (key (b "sid") ∷ piece false i ∷ end_value_of ∷ shuts ∷ []) d₃ last
sid_shut d d₁ d₂ d₃ i e₁ e₂ e₃ = drew_three d d₁ d₂ d₃ e₁ e₂ e₃

-- an identifier before the last attributes of a tag
pub sid_rest : (d d₁ d₂ d₃ : Held) {out o₁ o₂ last : Bytes} (i : Bytes) {x : List Stroke} → Drew d out (key (b "sid") ∷ piece false i ∷ end_value_of ∷ []) d₁ o₁ → Drew d₁ o₁ x d₂ o₂
    → Drew d₂ o₂ (shuts ∷ []) d₃ last → Drew d out (key (b "sid") ∷ piece false i ∷ end_value_of ∷ (x ++ (shuts ∷ []))) d₃ last
sid_rest d d₁ d₂ d₃ i e₁ e₂ e₃ = drew_three d d₁ d₂ d₃ e₁ e₂ e₃

-- ---- tags

chapter-strokes : (code : Bytes) (n : ℕ) (alt published : Option Bytes)
    → (opens 3 ∷ key (b "number") ∷ piece false (decimal n) ∷ end_value_of ∷ key (b "style") ∷ piece true (b "c") ∷ end_value_of ∷ [])
    ++ (strokes_of_attrs (perhaps (b "altnumber") alt) ++ (strokes_of_attrs (perhaps (b "pubnumber") published) ++ (key (b "sid") ∷ piece false (chapter_id_of code n) ∷ end_value_of ∷ shuts ∷ [])))
    ≡ strokes_of (empty 3 (chapter_attrs_of code n alt published))
unfolding strokes_of strokes_of_attrs strokes_of_attr chapter_attrs_of escaped rawly
chapter-strokes code n alt published = simp (attrs_append, append_assoc)

verse-strokes : (code : Bytes) (n : ℕ) (label : Bytes) (alt published : Option Bytes)
    → (opens 4 ∷ key (b "number") ∷ piece false label ∷ end_value_of ∷ key (b "style") ∷ piece true (b "v") ∷ end_value_of ∷ [])
    ++ (strokes_of_attrs (perhaps (b "altnumber") alt) ++ (key (b "sid") ∷ piece false (verse_id_of code n label) ∷ end_value_of ∷ (strokes_of_attrs (perhaps (b "pubnumber") published) ++ (shuts ∷ []))))
    ≡ strokes_of (empty 4 (verse_attrs_of code n label alt published))
unfolding strokes_of strokes_of_attrs strokes_of_attr verse_attrs_of escaped rawly
verse-strokes code n label alt published = simp (attrs_append, append_assoc)

module _ (t : Tape) (code : Part) (n : ℕ) where
  pub chapter_tag : (d d₁ d₂ d₃ d₄ : Held) {out o₁ o₂ o₃ last : Bytes} (alt published : Step) {s k : Bytes} → s ≡ t.source → k ≡ part s code.start code.len
      → Drew d out (opens 3 ∷ key (b "number") ∷ piece false (decimal n) ∷ end_value_of ∷ key (b "style") ∷ piece true (b "c") ∷ end_value_of ∷ []) d₁ o₁
      → Drew d₁ o₁ (strokes_of_attrs (perhaps (b "altnumber") (folded_number t alt))) d₂ o₂
      → Drew d₂ o₂ (strokes_of_attrs (perhaps (b "pubnumber") (folded_number t published))) d₃ o₃
      → Drew d₃ o₃ (key (b "sid") ∷ piece false (chapter_id_of k n) ∷ end_value_of ∷ shuts ∷ []) d₄ last
      → Drew d out (strokes_of (empty 3 (chapter_attrs_of (bytes_of t.source code) n (folded_number t alt) (folded_number t published)))) d₄ last
  chapter_tag d d₁ d₂ d₃ d₄ alt published {k = k} es ek e₁ e₂ e₃ e₄ =
      let other : Option Bytes = folded_number t alt in
      let shown : Option Bytes = folded_number t published in
      drew_as d d₄
      (chapter-strokes k n other shown ∙ ap (λ (x : Bytes). strokes_of (empty 3 (chapter_attrs_of x n other shown))) (ek ∙ ap (λ (x : Bytes). part x code.start code.len) es))
      (drew_two d d₁ d₄ e₁ (drew_three d₁ d₂ d₃ d₄ e₂ e₃ e₄))

  pub verse_tag : (d d₁ d₂ d₃ : Held) {out o₁ o₂ last : Bytes} (label : Part) (alt published : Step) {s l k : Bytes} → s ≡ t.source
      → l ≡ part s label.start label.len → k ≡ part s code.start code.len
      → Drew d out (opens 4 ∷ key (b "number") ∷ piece false l ∷ end_value_of ∷ key (b "style") ∷ piece true (b "v") ∷ end_value_of ∷ []) d₁ o₁
      → Drew d₁ o₁ (strokes_of_attrs (perhaps (b "altnumber") (folded_number t alt))) d₂ o₂
      → Drew d₂ o₂ (key (b "sid") ∷ piece false (verse_id_of k n l) ∷ end_value_of ∷ (strokes_of_attrs (perhaps (b "pubnumber") (folded_number t published)) ++ (shuts ∷ []))) d₃ last
      → Drew d out (strokes_of (empty 4 (verse_attrs_of (bytes_of t.source code) n (bytes_of t.source label) (folded_number t alt) (folded_number t published)))) d₃ last
  verse_tag d d₁ d₂ d₃ label alt published {l = l} {k = k} es el ek e₁ e₂ e₃ =
      let other : Option Bytes = folded_number t alt in
      let shown : Option Bytes = folded_number t published in
      drew_as d d₃
      (verse-strokes k n l other shown
      ∙ ap (λ (x : Bytes). strokes_of (empty 4 (verse_attrs_of x n l other shown))) (ek ∙ ap (λ (x : Bytes). part x code.start code.len) es)
      ∙ ap (λ (x : Bytes). strokes_of (empty 4 (verse_attrs_of (bytes_of t.source code) n x other shown))) (el ∙ ap (λ (x : Bytes). part x label.start label.len) es))
      (drew_three d d₁ d₂ d₃ e₁ e₂ e₃)

-- ---- a book

pub book_held : (d d₁ d₂ d₃ : Held) {out o₁ o₂ last : Bytes} (t : Bytes) → Drew d out (ends ∷ []) d₁ o₁ → Drew d₁ o₁ (said t ∷ []) d₂ o₂ → Drew d₂ o₂ (closes 2 ∷ []) d₃ last
    → Drew d out (ends ∷ said t ∷ closes 2 ∷ []) d₃ last
book_held d d₁ d₂ d₃ t e₁ e₂ e₃ = drew_three d d₁ d₂ d₃ e₁ e₂ e₃

book-bare : (code : Bytes) → opens 2 ∷ key (b "code") ∷ piece true code ∷ end_value_of ∷ key (b "style") ∷ piece true (b "id") ∷ end_value_of ∷ shuts ∷ [] ≡ strokes_of_all (book_items code [])
unfolding strokes_of_all strokes_of strokes_of_attrs strokes_of_attr book_items book_attrs rawly
book-bare code = refl

book_full : (code rest : Bytes) → 0 < length rest
    → opens 2 ∷ key (b "code") ∷ piece true code ∷ end_value_of ∷ key (b "style") ∷ piece true (b "id") ∷ end_value_of ∷ ends ∷ said rest ∷ closes 2 ∷ [] ≡ strokes_of_all (book_items code rest)
unfolding strokes_of_all strokes_of strokes_of_attrs strokes_of_attr book_items book_attrs rawly
book_full code [] h = absurd (omega arith)
book_full code (x ∷ rest) h = refl

module _ (d d₁ d₂ : Held) {out o₁ last : Bytes} (code rest : Bytes)
    (e₁ : Drew d out (opens 2 ∷ key (b "code") ∷ piece true code ∷ end_value_of ∷ key (b "style") ∷ piece true (b "id") ∷ end_value_of ∷ []) d₁ o₁) {y : Bool} (ey : y ≡ is_blank_of Unicode rest) where
  pub book-alone : y ≡ true → Drew d₁ o₁ (shuts ∷ []) d₂ last → Drew d out (strokes_of_all (book_items code (joined (words Unicode rest)))) d₂ last
  book-alone h e₂ =
      drew_as d d₂ (book-bare code ∙ ap (λ (z : Bytes). strokes_of_all (book_items code z)) (sym (joined_blank Unicode rest (sym ey ∙ h)))) (drew_two d d₁ d₂ e₁ e₂)

  pub book-around : y ≡ false → Drew d₁ o₁ (ends ∷ said (joined (words Unicode rest)) ∷ closes 2 ∷ []) d₂ last → Drew d out (strokes_of_all (book_items code (joined (words Unicode rest)))) d₂ last
  book-around h e₂ = drew_as d d₂ (book_full code (joined (words Unicode rest)) (joined-some Unicode rest (sym ey ∙ h))) (drew_two d d₁ d₂ e₁ e₂)

-- ---- items

items_append : (x y : List Item) → strokes_of_all (x ++ y) ≡ strokes_of_all x ++ strokes_of_all y
unfolding strokes_of_all
items_append [] y = refl
items_append (i ∷ x) y = ap (λ (z : List Stroke). strokes_of i ++ z) (items_append x y) ∙ sym (append_assoc (strokes_of i) (strokes_of_all x) (strokes_of_all y))

items_one : (is : List Item) (i : Item) → strokes_of_all is ++ strokes_of i ≡ strokes_of_all (is ++ (i ∷ []))
unfolding strokes_of_all
items_one is i = sym (items_append is (i ∷ []) ∙ ap (λ (z : List Stroke). strokes_of_all is ++ z) (append-nil (strokes_of i)))

-- what is open ends, the verse first
pub ends_put : (d d₁ d₂ : Held) {out o₁ last : Bytes} (source : Bytes) (m : Marks) → Drew d out (strokes_of_all (end_of 4 (verse_in source m.verse))) d₁ o₁
    → Drew d₁ o₁ (strokes_of_all (end_of 3 (chapter_in source m.chapter))) d₂ last → Drew d out (strokes_of_all (last_ends (state_in source m))) d₂ last
unfolding last_ends state_in
ends_put d d₁ d₂ source m e₁ e₂ = drew_as d d₂ (sym (items_append (end_of 4 (verse_in source m.verse)) (end_of 3 (chapter_in source m.chapter)))) (drew_two d d₁ d₂ e₁ e₂)

-- ---- the page and the marks together

-- a desk with other marks
abbrev marked : Held → Marks → Held
marked d m = record { window = d.window; marks = m; profile = d.profile }

-- strokes leave the state as it was
drew_state : (source : Bytes) (d last-d : Held) {out last : Bytes} {ss : List Stroke} → Drew d out ss last-d last → state_in source last-d.marks ≡ state_in source d.marks
unfolding strokes put_on
drew_state source d last-d e = ap (λ (w : Desk). w.state) (e.on source)

-- strokes, and the marks behind them
desk_kept : (source : Bytes) (d mid-d : Held) {out last : Bytes} (is : List Item) (n : Marks) {s : State} → Drew d out (strokes_of_all is) mid-d last → state_in source n ≡ s
    → desk_of source (marked mid-d n) last ≡ record { page = paint (page_of d.window out) (render_as (profile_of d.profile) is); state = s; profile = profile_of d.profile }
unfolding strokes put_on
desk_kept source d mid-d {out} {last} is n {s = s} e es =
    ap (λ (z : State). record { page = page_of mid-d.window last; state = z; profile = profile_of mid-d.profile }) es
    ∙ ap (λ (w : Desk). record { page = w.page; state = s; profile = w.profile }) (e.on source)
    ∙ ap (λ (x : Bytes). record { page = paint (page_of d.window out) x; state = s; profile = profile_of d.profile }) (ink_items (profile_of d.profile) is)

-- an event: its items on the page, and the marks behind it, which a step makes of those before it
emitted-by : (source : Bytes) (d mid-d : Held) {out last : Bytes} {n : Marks} (step : Marks → Marks) (e : Event) → Drew d out (strokes_of_all (items_of (state_in source d.marks) e)) mid-d last
    → n ≡ step mid-d.marks → ((m : Marks) → state_in source (step m) ≡ after (state_in source m) e) → desk_of source (marked mid-d n) last ≡ emit (desk_of source d out) e
unfolding emit
emitted-by source d mid-d {n = n} step e ev en f =
    desk_kept source d mid-d (items_of (state_in source d.marks) e) n ev
    (ap (state_in source) en ∙ f mid-d.marks ∙ ap (λ (s : State). after s e) (drew_state source d mid-d ev))

module _ (source : Bytes) (m : Marks) where
  chapter_state : (n : ℕ) (alt published : Option Bytes) → state_in source (next_chapter m n) ≡ after (state_in source m) (chapter_event n alt published)
  unfolding state_in next_chapter after chapter_in verse_in
  chapter_state n alt published = refl

  verse_state : (label : Part) (alt published : Option Bytes) → state_in source (next_verse m label) ≡ after (state_in source m) (verse_event (bytes_of source label) alt published)
  unfolding state_in next_verse after verse_in
  verse_state label alt published = refl

  book_state : (code : Part) (rest : Bytes) → state_in source (named_book m code) ≡ after (state_in source m) (book_event (bytes_of source code) rest)
  unfolding state_in after
  book_state code rest = refl

  closed_state : state_in source (all_closed m) ≡ record { book = (state_in source m).book; number = (state_in source m).number; chapter = none; verse = none }
  unfolding state_in all_closed chapter_in verse_in
  closed_state = refl

chapter_items : (s : State) (n : ℕ) (alt published : Option Bytes)
    → strokes_of_all (last_ends s) ++ strokes_of (empty 3 (chapter_attrs_of s.book n alt published)) ≡ strokes_of_all (items_of s (chapter_event n alt published))
unfolding last_ends items_of
chapter_items s n alt published =
    let tag : Item = empty 3 (chapter_attrs_of s.book n alt published) in
    items_one (last_ends s) tag ∙ ap strokes_of_all (append_assoc (end_of 4 s.verse) (end_of 3 s.chapter) (tag ∷ []))

module _ (d d₁ d₂ : Held) {out o₁ last : Bytes} (t : Tape) {n : Marks} where
  pub chapter-emitted : (i : ℕ) (alt published : Step) {s : Bytes} → s ≡ t.source → Drew d out (strokes_of_all (last_ends (state_in s d.marks))) d₁ o₁
      → Drew d₁ o₁ (strokes_of (empty 3 (chapter_attrs_of (bytes_of t.source d.marks.book) i (folded_number t alt) (folded_number t published)))) d₂ last
      → n ≡ next_chapter d₂.marks i
      → desk_of t.source (marked d₂ n) last ≡ emit (desk_of t.source d out) (chapter_event i (folded_number t alt) (folded_number t published))
  unfolding state_in
  chapter-emitted i alt published es e₁ e₂ en =
      let m : Marks = d.marks in
      let other : Option Bytes = folded_number t alt in
      let shown : Option Bytes = folded_number t published in
      emitted-by t.source d d₂ (λ (m : Marks). next_chapter m i) (chapter_event i other shown)
      (drew_as d d₂ (chapter_items (state_in t.source m) i other shown) (drew_two d d₁ d₂ (drew_as d d₁ (ap (λ (z : Bytes). strokes_of_all (last_ends (state_in z m))) es) e₁) e₂))
      en (λ m. chapter_state t.source m i other shown)

  pub verse-emitted : (i : ℕ) (alt published : Step) {label : Part} → IsLabel t i label → {s : Bytes} → s ≡ t.source
      → Drew d out (strokes_of_all (end_of 4 (verse_in s d.marks.verse))) d₁ o₁
      → Drew d₁ o₁ (strokes_of (empty 4 (verse_attrs_of (bytes_of t.source d.marks.book) d.marks.number (bytes_of t.source label) (folded_number t alt) (folded_number t published)))) d₂ last
      → n ≡ next_verse d₂.marks label
      → desk_of t.source (marked d₂ n) last ≡ emit (desk_of t.source d out) (verse_event (label_of t i) (folded_number t alt) (folded_number t published))
  unfolding state_in items_of
  verse-emitted i alt published {label} is es e₁ e₂ en =
      let m : Marks = d.marks in
      let name : Bytes = part t.source label.start label.len in
      let other : Option Bytes = folded_number t alt in
      let shown : Option Bytes = folded_number t published in
      emitted-by t.source d d₂ (λ (m : Marks). next_verse m label) (verse_event name other shown)
      (drew_as d d₂ (items_one (end_of 4 (verse_in t.source m.verse)) (empty 4 (verse_attrs_of (bytes_of t.source m.book) m.number name other shown)))
      (drew_two d d₁ d₂ (drew_as d d₁ (ap (λ (z : Bytes). strokes_of_all (end_of 4 (verse_in z m.verse))) es) e₁) e₂))
      en (λ m. verse_state t.source m label other shown)
      ∙ ap (λ (z : Bytes). emit (desk_of t.source d out) (verse_event z other shown)) is.bytes

module _ (d d₁ : Held) {out last : Bytes} (t : Tape) {n : Marks} where
  pub book-emitted : (i : ℕ) {p : Part} → IsCode t i p → {s code : Bytes} → s ≡ t.source → code ≡ part s p.start p.len
      → {rest : Bytes} → rest ≡ remainder (step_text t (first_text_of t i))
      → Drew d out (strokes_of_all (book_items code (joined (words Unicode rest)))) d₁ last
      → n ≡ named_book d₁.marks p
      → desk_of t.source (marked d₁ n) last ≡ emit (desk_of t.source d out) (book_event (book_code_of t i) (book_rest_of t i))
  unfolding items_of
  book-emitted i {p} is {s} {code} es ec {rest} er e₁ en =
      let name : Bytes = part t.source p.start p.len in
      let named : code ≡ name = ec ∙ ap (λ (z : Bytes). part z p.start p.len) es in
      emitted-by t.source d d₁ (λ (m : Marks). named_book m p) (book_event name (book_rest_of t i))
      (drew_as d d₁
      (ap (λ (z : Bytes). strokes_of_all (book_items z (joined (words Unicode rest)))) named ∙ ap (λ (z : Bytes). strokes_of_all (book_items name z)) (rest-words t i er)) e₁)
      en (λ m. book_state t.source m p (book_rest_of t i))
      ∙ ap (λ (z : Bytes). emit (desk_of t.source d out) (book_event z (book_rest_of t i))) is.bytes

  pub ends-ended : {s : Bytes} → s ≡ t.source → Drew d out (strokes_of_all (last_ends (state_in s d.marks))) d₁ last → n ≡ all_closed d₁.marks
      → desk_of t.source (marked d₁ n) last ≡ ended (desk_of t.source d out)
  unfolding ended
  ends-ended es e₁ en =
      let source : Bytes = t.source in
      let ends : Drew d out (strokes_of_all (last_ends (state_in source d.marks))) d₁ last = drew_as d d₁ (ap (λ (z : Bytes). strokes_of_all (last_ends (state_in z d.marks))) es) e₁ in
      desk_kept source d d₁ (last_ends (state_in source d.marks)) n ends
      (ap (state_in source) en ∙ closed_state source d₁.marks
      ∙ ap (λ (z : State). record { book = z.book; number = z.number; chapter = none; verse = none }) (drew_state source d d₁ ends))
