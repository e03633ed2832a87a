-- Chars that hold one text alone.
use mathlib.Core.Path.{◌≡◌, refl, sym, ap, ◌∙◌, subst}
use mathlib.Core.Bool.{Bool, true, false, not, ◌&&◌, ◌||◌, and-false}
use mathlib.Core.List.{List, [], ◌∷◌, ◌++◌, append-nil, append_assoc}
use mathlib.Core.Option.{none}
use Prim.Native.Nat.{ℕ, zero, suc, ◌-◌, ◌≤◌, ◌<◌}
use native.Mathlib.Omega.{arith}
use lib.ListN.{length, take, drop, length-take}
use lib.Dec.{eqb, ltb}
use borrow.Author.Tests.{eq-eqb, ne_eqb, eqb-true, not-false}
use Rattle.parts.specs.Bytes.{Bytes, b, same}
use Rattle.chars.specs.Escape.{escape}
use Rattle.texts.specs.Text.{written, space_if}
use Rattle.texts.specs.declared.Normalized.{Normalized}
use Rattle.put_body.specs.Easy.{edged}
use Rattle.put_body.specs.Frame.{Frame, white_front_of, white_back_of, frame_of, framed_text_of, Framed}
use Rattle.tape.specs.File.{Tape, kind_at, text_at_of}
use Rattle.tape.specs.Name.{marker_name, name_in_of}
use Rattle.tape.specs.Tree.{next_sibling, first_child, children, walk_from, found}
use Rattle.tape.specs.declared.Cursor.{Cursor}
use Rattle.tape.specs.declared.kinds.Kind.{Kind}
use Rattle.tape.specs.Found.{Step}
use Rattle.std.specs.Prelude.{None, Some}
use Rattle.tape.proofs.Laws.{text_front}
use Rattle.tape.proofs.Walk.{walk_at, walk_end, children_walk}
use Rattle.render.specs.Shape.{is_open, is_inline_of, trims_after_of}
use Rattle.render.specs.Follow.{inline_follows_of, followed}
use Rattle.render.proofs.Shapes.{kind_is, trims_other}
use Rattle.attrs.specs.Attr.{Pair, attributes_of}
use Rattle.attrs.specs.Barred.{Barred}
use Rattle.tags.specs.Items.{Attr, attrs_bytes, start, text, close}
use Rattle.events.specs.Event.{Event, item, rawly, collected, element}
use Rattle.events.specs.Walk.{words, passed, child_of, inline_turn, inline_on, inline_all, normalized, unbroken, broken, as_inline, char, role_of, style, unclosed, link_of, linked, node_in_of, marker_as, inside}
use Rattle.events.specs.Emit.{Desk, emit_all}
use Rattle.events.proofs.Turns.{inline-none, inline-turn}
use Rattle.desk.specs.Desk.{desk_of}
use Rattle.desk.specs.Stroke.{opens, key, piece, end_value_of, ends, closes, strokes_of_attr, strokes_of_attrs, strokes_of, strokes_of_all, Drew}
use Rattle.desk.specs.Stroke as stroke
use Rattle.desk.proofs.Strokes.{drew_two}
use Rattle.put_attrs.proofs.Along.{bare-text, given_barred}
use Rattle.put_markers.proofs.Written.{drew_all}
use Rattle.inline.specs.Lone.{LastAttribute, AttributeAt, OnlyText, OnlyAt, tail_at, lone_char, char_around, PutAs, KeepsBehind}
use Rattle.desk.specs.declared.Desk.{Desk as Held}

-- ---- a text alone

pub last-attribute : (t : Tape) (a : Cursor) {y : Kind} → y.code ≡ kind_at t a.at → y.code ≡ 2 → {w : Step} → w ≡ next_sibling t a.at → {x : Bool} → found w ≡ not x → x ≡ true → LastAttribute t a
last-attribute t a {y} ey g {w} ew {x} ex h = record { kind = sym ey ∙ g; last = sym ew ∙ done w refl (ex ∙ ap not h) }
  where
    done : (s : Step) → w ≡ s → found s ≡ false → w ≡ None
    done None e f = e
    done (Some k) e f = absurd (let n : ◌≡◌ {A = Bool} true false = f in let no_way : ◌≡◌ {A = ℕ} 0 1 = cc in omega arith)

pub no_attribute : (t : Tape) (a : Cursor) {z : ℕ} → (z ≡ 2 → ⊥) → eqb z 2 ≡ true → LastAttribute t a
no_attribute t a {z} n e = absurd (n (eqb-true z 2 e))

module _ (t : Tape) (n : ℕ) {s : Step} (es : s ≡ first_child t n) {k : Cursor} (ek : s ≡ Some k) {z : Kind} (ez : z.code ≡ kind_at t k.at) (h : z.code ≡ 1) {x : Step}
    (ex : x ≡ next_sibling t k.at) where
  only_by : AttributeAt t x → OnlyText t n k
  only_by r = record { first = sym es ∙ ek; text = sym ez ∙ h; rest = subst (AttributeAt t) ex r }

  pub only_end : x ≡ None → OnlyText t n k
  only_end e = only_by (subst (AttributeAt t) (sym e) tt)

  pub only_attribute : {a : Cursor} → x ≡ Some a → {y : Bool} → (y ≡ true → LastAttribute t a) → y ≡ true → OnlyText t n k
  only_attribute {a} ea f g = only_by (subst (AttributeAt t) (sym ea) (f g))

-- ---- what it writes

child_text : (k : ℕ) → k ≡ 1 → child_of k ≡ words
unfolding child_of
child_text k e = rw e

child_attribute : (k : ℕ) → k ≡ 2 → child_of k ≡ passed
unfolding child_of
child_attribute k e = rw e

-- an Attribute writes nothing
passed_none : (node : ℕ → Bool → List Event) (t : Tape) (behind trim : Bool) (k : ℕ) → kind_at t k ≡ 2 → inline_all node t behind trim (k ∷ []) ≡ []
unfolding inline_on inline_turn
passed_none node t behind trim k e = inline-turn node t behind trim k [] ∙ rw (child_attribute (kind_at t k) e) (inline-none node t behind trim)

-- nor does what follows the text
rest-none : (node : ℕ → Bool → List Event) (t : Tape) (behind trim : Bool) (s : Step) → AttributeAt t s → inline_all node t behind trim (walk_from t s) ≡ []
rest-none node t behind trim None r = ap (inline_all node t behind trim) (walk_end t refl) ∙ inline-none node t behind trim
rest-none node t behind trim (Some a) r =
    ap (inline_all node t behind trim) (walk_at t a ∙ ap (λ (ks : List ℕ). a.at ∷ ks) (walk_end t r.last)) ∙ passed_none node t behind trim a.at r.kind

module _ (t : Tape) (n : ℕ) (k : Cursor) (o : OnlyText t n k) where
  held : children t n ≡ k.at ∷ walk_from t (next_sibling t k.at)
  held = sym (children_walk t n (sym o.first)) ∙ walk_at t k

  text-alone : (node : ℕ → Bool → List Event) (behind : Bool) → inline_all node t behind true (children t n) ≡ broken (text_at_of t k.at) (normalized t k.at (text_at_of t k.at) true behind)
  unfolding inline_on inline_turn
  text-alone node behind =
      ap (inline_all node t behind true) held
      ∙ inline-turn node t behind true k.at (walk_from t (next_sibling t k.at))
      ∙ rw (child_text (kind_at t k.at) o.text)
      (ap (λ (es : List Event). broken (text_at_of t k.at) (normalized t k.at (text_at_of t k.at) true behind) ++ es)
      (rest-none node t behind (true && not (normalized t k.at (text_at_of t k.at) true behind).shows) (next_sibling t k.at) o.rest)
      ∙ append-nil (broken (text_at_of t k.at) (normalized t k.at (text_at_of t k.at) true behind)))

-- ---- by its frame

-- a text that shows, with no space at its edges
abbrev sole : Normalized
sole = record { lead = false; trail = false; shows = true }

sole-edged : (s : Bytes) → edged s sole ≡ s
unfolding edged space_if
sole-edged s = append-nil s

-- where nothing before a text keeps a space, and it ends with none, what follows it does not matter
sole_edges : (front len : ℕ) (y : Bool) → (len ≡ 0 → ⊥) → framed_text_of (record { front = front; len = len; ends = false }) false y ≡ sole
unfolding framed_text_of
sole_edges front len y h = rw (ne_eqb len 0 h, and-false (ltb 0 front))

-- the frame of a text with no white space behind it
sole_frame : (s : Bytes) (size : ℕ) → white_back_of s (white_front_of s size) size ≡ 0 → frame_of s size ≡ record { front = white_front_of s size; len = size - white_front_of s size; ends = false }
unfolding frame_of
sole_frame s size e = let m : size - white_front_of s size - 0 ≡ size - white_front_of s size = omega arith in rw (e, m)

module _ (t : Tape) (k : Cursor) {tail : Bytes} {size front back : ℕ} {r : Bool} (et : tail ≡ tail_at t k.at) (es : size ≡ length (text_at_of t k.at)) (ef : front ≡ white_front_of tail size) (hf : front < size)
    (eb : back ≡ white_back_of tail front size) (hb : back ≤ 0)
    (e : front ≡ (frame_of tail size).front → size - front ≡ (frame_of tail size).len → r ≡ true → size ≤ length tail → Framed tail size (frame_of tail size)) (h : not r ≡ false) where
  whole : take size tail ≡ text_at_of t k.at
  whole = rw (et, es) (text_front t k.at)

  framed : Framed tail size (record { front = front; len = size - front; ends = false })
  framed = subst (Framed tail size) told (e (sym (ap (λ (f : Frame). f.front) told)) (sym (ap (λ (f : Frame). f.len) told)) (not-false r h) (omega (arith, length-take size tail, ap length whole, es)))
    where
      none-behind : white_back_of tail (white_front_of tail size) size ≡ 0
      none-behind = let x : back ≡ 0 = omega arith in sym (eb ∙ ap (λ (i : ℕ). white_back_of tail i size) ef) ∙ x

      told : frame_of tail size ≡ record { front = front; len = size - front; ends = false }
      told = sole_frame tail size none-behind ∙ ap (λ (i : ℕ). record { front = i; len = size - i; ends = false }) (sym ef)

  -- what is written of the text
  abbrev body : Bytes
  body = written (take size tail) sole

  stands : escape false body ≡ take (size - front) (drop front tail)
  stands = framed.stands sole ∙ sole-edged (take (size - front) (drop front tail))

  shows : (behind : Bool) → broken (text_at_of t k.at) (normalized t k.at (text_at_of t k.at) true behind) ≡ item (text body) ∷ []
  unfolding normalized broken unbroken
  shows behind =
      let y : Bool = inline_follows_of t k.at || behind in
      rw (← whole, framed.whole, framed.edges false y, sole_edges front (size - front) y (λ z. omega arith))

  pub lone_put : {s : Bytes} → s ≡ drop front tail → (source : Bytes) (d : Held) (out name : Bytes) (last-d : Held) (last : Bytes) (p : Bool)
      → ((n : ℕ) → OnlyText t n k → (x : Bytes) → escape false x ≡ take (size - front) s → PutAs source d out (char_around t n name (item (text x) ∷ [])) last-d last p)
      → (n : ℕ) → OnlyText t n k → (node : ℕ → Bool → List Event) (behind : Bool) → PutAs source d out (char_around t n name (inline_all node t behind true (children t n))) last-d last p
  lone_put ex source d out name last-d last p f n o node behind =
      subst (λ (es : List Event). PutAs source d out (char_around t n name es) last-d last p) (sym (text-alone t n k o node behind ∙ shows behind)) (f n o body (stands ∙ ap (take (size - front)) (sym ex)))

-- ---- strokes

module _ (d d₁ d₂ d₃ : Held) {out o₁ o₂ last : Bytes} where
  pub held_drawn : (s : Bytes) → Drew d out (ends ∷ []) d₁ o₁ → ((t : Bytes) → escape false t ≡ edged s sole → Drew d₁ o₁ (stroke.words t ∷ []) d₂ o₂) → Drew d₂ o₂ (closes 6 ∷ []) d₃ last
      → (t : Bytes) → escape false t ≡ s → Drew d out (ends ∷ stroke.words t ∷ closes 6 ∷ []) d₃ last
  held_drawn s e₁ e₂ e₃ t et = drew_two d d₁ d₃ e₁ (drew_two d₁ d₂ d₃ (e₂ t (et ∙ sym (sole-edged s))) e₃)

  pub given_drawn : (name given : Bytes) → Drew d out (opens 6 ∷ key (b "style") ∷ piece true name ∷ end_value_of ∷ []) d₁ o₁ → {y : Bytes}
      → ((qs : List Attr) → b " " ++ given ≡ attrs_bytes qs → Drew d₁ o₁ (strokes_of_attrs qs) d₂ o₂) → ((t : Bytes) → escape false t ≡ y → Drew d₂ o₂ (ends ∷ stroke.words t ∷ closes 6 ∷ []) d₃ last)
      → (qs : List Attr) → b " " ++ given ≡ attrs_bytes qs → (t : Bytes) → escape false t ≡ y
      → Drew d out (lone_char name qs t) d₃ last
  unfolding strokes_of_all strokes_of strokes_of_attrs strokes_of_attr rawly
  given_drawn name given e₁ e₂ e₃ qs eq t et = rw (append_assoc (strokes_of_attrs qs) (ends ∷ []) (stroke.words t ∷ closes 6 ∷ [])) (drew_two d d₁ d₃ e₁ (drew_two d₁ d₂ d₃ (e₂ qs eq) (e₃ t et)))

pub bare_drawn : (d d₁ d₂ : Held) {out o₁ last : Bytes} (name : Bytes) → Drew d out (opens 6 ∷ key (b "style") ∷ piece true name ∷ end_value_of ∷ []) d₁ o₁ → {y : Bytes}
    → ((t : Bytes) → escape false t ≡ y → Drew d₁ o₁ (ends ∷ stroke.words t ∷ closes 6 ∷ []) d₂ last) → (t : Bytes) → escape false t ≡ y → Drew d out (lone_char name [] t) d₂ last
unfolding strokes_of_all strokes_of strokes_of_attrs strokes_of_attr rawly
bare_drawn d d₁ d₂ name e₁ e₂ t et = drew_two d d₁ d₂ e₁ (e₂ t et)

-- ---- with its attributes

-- the strokes of a char around a text are its events
lone_events : (d last-d : Held) {out last : Bytes} (name : Bytes) (qs : List Attr) (x : Bytes) → Drew d out (lone_char name qs x) last-d last
    → (source : Bytes) → desk_of source last-d last ≡ emit_all (desk_of source d out) (element 6 (rawly (b "style") name ∷ qs) (item (text x) ∷ []))
unfolding element
lone_events d last-d name qs x e source = drew_all d last-d (start 6 (rawly (b "style") name ∷ qs) ∷ text x ∷ close 6 ∷ []) e source

module _ (t : Tape) (k : Cursor) {x : Step} (ex : x ≡ next_sibling t k.at) (d last-d : Held) {out last : Bytes} (name : Bytes) {y : Bytes} where
  pub around-bare : x ≡ None → ((s : Bytes) → escape false s ≡ y → Drew d out (lone_char name [] s) last-d last) → (n : ℕ) → OnlyText t n k → (s : Bytes) → escape false s ≡ y
      → desk_of t.source last-d last ≡ emit_all (desk_of t.source d out) (char_around t n name (item (text s) ∷ []))
  unfolding collected
  around-bare h f n o s es =
      lone_events d last-d name [] s (f s es) t.source
      ∙ ap (λ (ps : List Pair). emit_all (desk_of t.source d out) (element 6 (rawly (b "style") name ∷ collected ps) (item (text s) ∷ [])))
      (sym (bare-text t n (sym o.first) k refl {x = record { code = kind_at t k.at }} refl o.text {n = None} (sym h ∙ ex) {y = true} refl refl name))

  pub around-given : {a : Cursor} → x ≡ Some a → {f : Bool} → f ≡ same name (b "fig") → f ≡ false → {given : Bytes} → given ≡ text_at_of t a.at → {u : Bool} → (u ≡ true → Barred given) → not u ≡ false
      → {rest : Bytes} → rest ≡ drop 1 given → ((qs : List Attr) → b " " ++ rest ≡ attrs_bytes qs → (s : Bytes) → escape false s ≡ y → Drew d out (lone_char name qs s) last-d last)
      → (n : ℕ) → OnlyText t n k → (s : Bytes) → escape false s ≡ y → desk_of t.source last-d last ≡ emit_all (desk_of t.source d out) (char_around t n name (item (text s) ∷ []))
  around-given {a} ea ef hf {given} eg {u} z hu er f n o s es =
      let l : LastAttribute t a = subst (AttributeAt t) (sym ex ∙ ea) o.rest in
      let qs : List Attr = collected (attributes_of t n name) in
      lone_events d last-d name qs s
      (f qs (ap (λ (w : Bytes). b " " ++ w) er ∙ given_barred t n k a o.first o.text (sym ex ∙ ea) l.kind l.last name ef hf eg (z (not-false u hu))) s es) t.source

-- ---- the node

inside_list : (t : Tape) (n d : ℕ) (outer : Bool) → (d ≡ 0 → ⊥) → inside t d as_inline n outer ≡ inline_all (node_in_of (inside t (d - 1)) t) t (followed t n outer) true (children t n)
unfolding inside
inside_list t n zero outer h = absurd (h refl)
inside_list t n (suc d) outer h = let e : d ≡ suc d - 1 = omega arith in ap (λ (j : ℕ). inline_all (node_in_of (inside t j) t) t (followed t n outer) true (children t n)) e

keeps-behind : (t : Tape) (k : ℕ) → trims_after_of t k ≡ false → (p : Bool) → KeepsBehind t k p
keeps-behind t k e false = tt
keeps-behind t k e true = e

module _ (t : Tape) (n : ℕ) {z : Kind} (ez : z.code ≡ kind_at t n) (hz : z.code ≡ 3) {name s : Bytes} (es : s ≡ text_at_of t n) (en : name ≡ name_in_of s) {y : Bool}
    (role : y ≡ true → name ≡ marker_name t n → role_of t n ≡ char) (runs : y ≡ true → is_open t n ≡ true → is_inline_of t n ≡ true) (hy : not y ≡ false) where
  named : name ≡ marker_name t n
  unfolding marker_name
  named = en ∙ ap name_in_of es

  node-char : {x : Bool} → (x ≡ true → unclosed t n ≡ []) → (x ≡ true → link_of t n ≡ none) → not x ≡ false → (depth : ℕ) → (depth ≡ 0 → ⊥) → (outer : Bool)
      → char_around t n name (inline_all (node_in_of (inside t (depth - 1)) t) t (followed t n outer) true (children t n)) ≡ node_in_of (inside t depth) t n outer
  unfolding node_in_of marker_as linked style
  node-char {x} closed flat hx depth hd outer =
      ap (char_around t n name) (sym (inside_list t n depth outer hd))
      ∙ ap (λ (m : Bytes). char_around t n m (inside t depth as_inline n outer)) named
      ∙ rw (ne_eqb (kind_at t n) 6 (λ e. omega arith), ne_eqb (kind_at t n) 7 (λ e. omega arith), eq-eqb (kind_at t n) 3 (sym ez ∙ hz), role (not-false y hy) named, closed (not-false x hx), flat (not-false x hx))

  pub lone_node : {x : Bool} → (x ≡ true → unclosed t n ≡ []) → (x ≡ true → link_of t n ≡ none) → not x ≡ false → (depth : ℕ) → (depth ≡ 0 → ⊥)
      → {st : Step} → OnlyAt t n st → {k : Cursor} → st ≡ Some k → (source : Bytes) (d : Held) (out : Bytes) (last-d : Held) (last : Bytes) (p : Bool)
      → ((m : ℕ) → OnlyText t m k → (node : ℕ → Bool → List Event) (behind : Bool) → PutAs source d out (char_around t m name (inline_all node t behind true (children t m))) last-d last p)
      → (outer : Bool) → PutAs source d out (node_in_of (inside t depth) t n outer) last-d last p
  lone_node closed flat hx depth hd {st} os {k} ek source d out last-d last p f outer =
      subst (λ (es : List Event). PutAs source d out es last-d last p) (node-char closed flat hx depth hd outer)
      (f n (subst (OnlyAt t n) ek os) (node_in_of (inside t (depth - 1)) t) (followed t n outer))

  pub lone_keeps : (p : Bool) → KeepsBehind t n p
  lone_keeps p =
      keeps-behind t n (sym (trims_other t n ez {r = true} (λ e. omega arith) (λ e. omega arith) (sym (runs (not-false y hy) (kind_is t n ez 3 hz))))) p

-- ---- what was written, and what was not

module _ (source : Bytes) (d : Held) (out : Bytes) (es : List Event) (last-d : Held) (last : Bytes) {r : Bool} (p : PutAs source d out es last-d last r) where
  pub put_written : r ≡ true → desk_of source last-d last ≡ emit_all (desk_of source d out) es
  put_written e = subst (PutAs source d out es last-d last) e p

  pub put_nothing : r ≡ false → desk_of source last-d last ≡ desk_of source d out
  put_nothing e = subst (PutAs source d out es last-d last) e p

pub kept_behind : (t : Tape) (k : ℕ) {r : Bool} → KeepsBehind t k r → r ≡ true → trims_after_of t k ≡ false
kept_behind t k p e = subst (KeepsBehind t k) e p

-- events from a desk that is as another was
pub from_same : {a w : Desk} → a ≡ w → (es : List Event) {z : Desk} → emit_all w es ≡ z → emit_all a es ≡ z
from_same e es h = ap (λ (x : Desk). emit_all x es) e ∙ h
