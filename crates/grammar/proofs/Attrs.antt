-- What is said of every style, which is written raw, and of every key of a value that is written: by the fixed ones, the marker names and the keys that nodes collect.
use mathlib.Core.Path.{◌≡◌, refl, sym, subst}
use mathlib.Core.Bool.{Bool, true, false, cond, ◌||◌}
use mathlib.Core.List.{List, [], ◌∷◌, ◌++◌}
use mathlib.Core.Option.{Option, none as nothing, some}
use Prim.Native.Nat.{ℕ}
use native.Mathlib.Omega.{arith}
use Rattle.parts.specs.Bytes.{Bytes, b, same}
use Rattle.parts.proofs.Laws.{same_true}
use Rattle.tape.specs.File.{Tape, node_at, is_synthetic}
use Rattle.tape.specs.Name.{marker_name}
use Rattle.attrs.specs.Attr.{Pair, attributes_of}
use Rattle.figure.specs.Figure.{valued, legacy_pairs}
use Rattle.tags.specs.Items.{Attr}
use Rattle.events.specs.Event.{rawly, escaped, perhaps, collected}
use Rattle.events.specs.Pairing.{chapter_attrs_of, verse_attrs_of}
use Rattle.events.specs.Walk.{style, styled, unclosed}
use Rattle.grammar.specs.Grammar.{Marked, Given, unknown-para, unknown-char, old_figure, a_figure, a_ref, a_link, a_note, an_ms, a_char, a_para, a_run, a_table, a_row, a_cell, a_sidebar, a_periph, a_break}

-- ---- fixed words

-- the styles that the source does not name
abbrev pub fixed_styles : List Bytes
fixed_styles = b "fig" ∷ b "p" ∷ b "tr" ∷ b "c" ∷ b "v" ∷ []

-- the keys of values that no attribute of the source names
abbrev pub fixed_keys : List Bytes
fixed_keys =
    b "status" ∷ b "loc" ∷ b "caller" ∷ b "category" ∷ b "closed" ∷ b "align" ∷ b "alt" ∷ b "file" ∷ b "size" ∷ b "copy" ∷ b "ref" ∷ b "number" ∷ b "altnumber"
    ∷ b "pubnumber" ∷ b "sid" ∷ []

-- whether a text is one of some words
unfoldable pub is_one : List Bytes → Bytes → Bool
is_one [] s = false
is_one (w ∷ ws) s = same s w || is_one ws s

-- something said of each word
abbrev pub OfEach : (Bytes → Type 0) → List Bytes → Type 0
OfEach P [] = Unit {0}
OfEach P (w ∷ ws) = P w × OfEach P ws

-- holds of one of them
pub of_one : (P : Bytes → Type 0) (ws : List Bytes) (s : Bytes) → OfEach P ws → is_one ws s ≡ true → P s
unfolding is_one
of_one P [] s h e = absurd (let no_way : ◌≡◌ {A = ℕ} 0 1 = cc in omega arith)
of_one P (w ∷ ws) s h e = go (same s w) refl e (of_one P ws s h.1)
  where
    go : (z : Bool) → same s w ≡ z → z || is_one ws s ≡ true → (is_one ws s ≡ true → P s) → P s
    go true i e f = subst P (sym (same_true s w i)) h.0
    go false i e f = f e

-- ---- attributes

-- each style of a row is so, and each key of a value is so
pub data AttrsOf (Style Key : Bytes → Type 0) : List Attr → Type 0 where
  no_attr : AttrsOf Style Key []
  a_style : (name : Bytes) {qs : List Attr} → Style name → AttrsOf Style Key qs → AttrsOf Style Key (rawly (b "style") name ∷ qs)
  a_value : (key value : Bytes) {qs : List Attr} → Key key → AttrsOf Style Key qs → AttrsOf Style Key (escaped key value ∷ qs)

-- each key of a row of pairs
abbrev pub Keys : (Bytes → Type 0) → List Pair → Type 0
Keys P [] = Unit {0}
Keys P (p ∷ ps) = P p.key × Keys P ps

module _ (Style Key : Bytes → Type 0) (styles : OfEach Style fixed_styles) (keys : OfEach Key fixed_keys) where
  fixed_style : (name : Bytes) → is_one fixed_styles name ≡ true → {qs : List Attr} → AttrsOf Style Key qs → AttrsOf Style Key (rawly (b "style") name ∷ qs)
  fixed_style name e h = a_style name (of_one Style fixed_styles name styles e) h

  fixed_key : (key value : Bytes) → is_one fixed_keys key ≡ true → {qs : List Attr} → AttrsOf Style Key qs → AttrsOf Style Key (escaped key value ∷ qs)
  fixed_key key value e h = a_value key value (of_one Key fixed_keys key keys e) h

  attrs_append : (ps qs : List Attr) → AttrsOf Style Key ps → AttrsOf Style Key qs → AttrsOf Style Key (ps ++ qs)
  attrs_append [] qs h g = g
  attrs_append (a ∷ ps) qs (a_style n x h) g = a_style n x (attrs_append ps qs h g)
  attrs_append (a ∷ ps) qs (a_value k v x h) g = a_value k v x (attrs_append ps qs h g)

  perhaps_of : (key : Bytes) (o : Option Bytes) → is_one fixed_keys key ≡ true → AttrsOf Style Key (perhaps key o)
  unfolding perhaps
  perhaps_of key nothing e = no_attr
  perhaps_of key (some value) e = fixed_key key value e no_attr

  -- those of a chapter
  pub chapter_attrs : (code : Bytes) (n : ℕ) (alt published : Option Bytes) → AttrsOf Style Key (chapter_attrs_of code n alt published)
  unfolding chapter_attrs_of is_one same
  chapter_attrs code n alt published =
      fixed_key (b "number") _ refl
      (fixed_style (b "c") refl
      (attrs_append (perhaps (b "altnumber") alt) _ (perhaps_of (b "altnumber") alt refl)
      (attrs_append (perhaps (b "pubnumber") published) _ (perhaps_of (b "pubnumber") published refl) (fixed_key (b "sid") _ refl no_attr))))

  -- those of a verse
  pub verse_attrs : (code : Bytes) (n : ℕ) (label : Bytes) (alt published : Option Bytes) → AttrsOf Style Key (verse_attrs_of code n label alt published)
  unfolding verse_attrs_of is_one same
  verse_attrs code n label alt published =
      fixed_key (b "number") _ refl
      (fixed_style (b "v") refl
      (attrs_append (perhaps (b "altnumber") alt) _ (perhaps_of (b "altnumber") alt refl)
      (fixed_key (b "sid") _ refl (perhaps_of (b "pubnumber") published refl))))

  -- ---- those of the elements that the walk opens

  module _ (t : Tape) (own : (k : ℕ) → Marked t k → Style (marker_name t k)) (pairs : (k : ℕ) (name : Bytes) → Keys Key (attributes_of t k name)) where
    own_style : (k : ℕ) → Marked t k → {qs : List Attr} → AttrsOf Style Key qs → AttrsOf Style Key (style t k ∷ qs)
    unfolding style
    own_style k m h = a_style (marker_name t k) (own k m) h

    unclosed_of : (k : ℕ) → AttrsOf Style Key (unclosed t k)
    unfolding unclosed is_one same
    unclosed_of k = go (is_synthetic t (node_at t k).link)
      where
        go : (z : Bool) → AttrsOf Style Key (cond z (escaped (b "closed") (b "false") ∷ []) [])
        go true = fixed_key (b "closed") (b "false") refl no_attr
        go false = no_attr

    collected_of : (ps : List Pair) → Keys Key ps → AttrsOf Style Key (collected ps)
    unfolding collected
    collected_of [] h = no_attr
    collected_of (p ∷ ps) h = a_value p.key p.value h.0 (collected_of ps h.1)

    own_of : (k : ℕ) (name : Bytes) → AttrsOf Style Key (collected (attributes_of t k name))
    own_of k name = collected_of (attributes_of t k name) (pairs k name)

    -- one field of a figure of old, and those behind it
    valued_of : (key value : Bytes) (ps : List Pair) → is_one fixed_keys key ≡ true → AttrsOf Style Key (collected ps) → AttrsOf Style Key (collected (valued key value ++ ps))
    unfolding valued collected
    valued_of key [] ps e h = h
    valued_of key (x ∷ value) ps e h = fixed_key key (x ∷ value) e h

    valued-last : (key value : Bytes) → is_one fixed_keys key ≡ true → AttrsOf Style Key (collected (valued key value))
    unfolding valued collected
    valued-last key [] e = no_attr
    valued-last key (x ∷ value) e = fixed_key key (x ∷ value) e no_attr

    legacy_of : (k a : ℕ) → AttrsOf Style Key (collected (legacy_pairs t k a))
    unfolding legacy_pairs is_one same
    legacy_of k a =
        valued_of (b "alt") _ _ refl
        (valued_of (b "file") _ _ refl
        (valued_of (b "size") _ _ refl (valued_of (b "loc") _ _ refl (valued_of (b "copy") _ _ refl (valued-last (b "ref") _ refl)))))

    pub given_attrs : {n : ℕ} {qs : List Attr} → Given t n qs → AttrsOf Style Key qs
    unfolding styled is_one same
    given_attrs (unknown-para k m) = own_style k m (fixed_key (b "status") _ refl no_attr)
    given_attrs (unknown-char k m) = own_style k m (fixed_key (b "status") _ refl no_attr)
    given_attrs (old_figure k a) = fixed_style (b "fig") refl (legacy_of k a)
    given_attrs (a_figure k) = fixed_style (b "fig") refl (own_of k (b "fig"))
    given_attrs (a_ref k) = perhaps_of (b "loc") _ refl
    given_attrs (a_link loc) = fixed_key (b "loc") loc refl no_attr
    given_attrs (a_note k m) = fixed_key (b "caller") _ refl (own_style k m (perhaps_of (b "category") _ refl))
    given_attrs (an_ms k m) = own_style k m (own_of k _)
    given_attrs (a_char k m) = own_style k m (attrs_append (unclosed t k) _ (unclosed_of k) (own_of k _))
    given_attrs (a_para k m) = own_style k m no_attr
    given_attrs a_run = fixed_style (b "p") refl no_attr
    given_attrs a_table = no_attr
    given_attrs a_row = fixed_style (b "tr") refl no_attr
    given_attrs (a_cell k m) = own_style k m (fixed_key (b "align") _ refl no_attr)
    given_attrs (a_sidebar k m) = own_style k m (attrs_append (perhaps (b "category") _) _ (perhaps_of (b "category") _ refl) (unclosed_of k))
    given_attrs (a_periph k) = attrs_append (perhaps (b "alt") _) _ (perhaps_of (b "alt") _ refl) (own_of k (b "periph"))
    given_attrs a_break = no_attr
