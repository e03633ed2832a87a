-- Texts told by their edges.
use mathlib.Core.Path.{◌≡◌, refl, sym, ap, ◌∙◌}
use mathlib.Core.Bool.{Bool, true, false, cond, not, ◌&&◌, ◌||◌}
use mathlib.Core.List.{List, [], ◌∷◌, ◌++◌, append-nil}
use Prim.Native.Nat.{ℕ, ◌+◌, ◌-◌, ◌≤◌, ◌<◌}
use native.Mathlib.Omega.{arith}
use lib.ListN.{length, get_or, take, drop, length-append, length-take, length-drop}
use lib.Seq.{take-add, drop-drop, take-suc, get_or-append-add, get_or-drop}
use lib.Dec.{eqb, leb, ltb}
use borrow.Author.Tests.{eq-eqb, ne_eqb, eqb-true, eqb-false, ltb-false, lt-ltb, le-ltb, leb-false, le-leb, lt-leb, not-true, not-false}
use Rattle.parts.specs.Bytes.{Bytes, part}
use Rattle.parts.proofs.Laws.{and-true as both_hold, or_both}
use Rattle.chars.specs.Range.{in_any, within}
use Rattle.chars.specs.Space.{is_ascii_white}
use Rattle.chars.specs.Escape.{escape}
use Rattle.chars.specs.Utf8.{cut_at, every}
use Rattle.words.specs.Words.{chars_of, white, words, joined, is_blank_of as blank}
use Rattle.words.specs.declared.Set.TheVariants.{Ascii}
use Rattle.words.proofs.Bytes.{ascii_chars}
use Rattle.words.proofs.Runs.{words-behind, words_before}
use Rattle.texts.specs.Text.{hard_spaces, body_of, has_break, starts_white, ends_white, blank_lead, normalize_text, written}
use Rattle.texts.specs.declared.Normalized.{Normalized}
use Rattle.texts.proofs.Breaks.{break_pair}
use Rattle.texts.proofs.Edges.{blank_step, solid_above}
use Rattle.texts.proofs.Texts.{body_blank}
use Rattle.put_body.specs.Body.{odd}
use Rattle.put_body.specs.Easy.{any_hard, easy, tight, edged}
use Rattle.put_body.specs.Frame.{white_front_of, white_back_of, frame_of, framed_text_of, Framed}
use Rattle.put_body.proofs.Easy.{first, both, escape-easy, pair-easy, easy_both, body-easy}
use Rattle.put_body.proofs.Turns.{written-escaped}

-- ---- white space around a body

ascii_nil : chars_of Ascii [] ≡ []
unfolding chars_of cut_at
ascii_nil = refl

ascii_append : (s z : Bytes) → chars_of Ascii (s ++ z) ≡ chars_of Ascii s ++ chars_of Ascii z
ascii_append [] z = rw ascii_nil
ascii_append (x ∷ s) z = ascii_chars x (s ++ z) ∙ rw (ascii_append s z, ascii_chars x s)

-- white bytes in a row
blank_nil : blank Ascii [] ≡ true
unfolding blank every chars_of cut_at
blank_nil = refl

blank_one : (x : ℕ) → is_ascii_white x ≡ true → blank Ascii (x ∷ []) ≡ true
blank_one x e = blank_step x [] ∙ rw (e, blank_nil)

blank_two : (x y : ℕ) → is_ascii_white x ≡ true → is_ascii_white y ≡ true → blank Ascii (x ∷ y ∷ []) ≡ true
blank_two x y e f = blank_step x (y ∷ []) ∙ rw (e, blank_one y f)

-- a byte that is not odd and no space is no white space
solid_here : (x y : ℕ) → odd x y ≡ false → (x ≡ 32 → ⊥) → is_ascii_white x ≡ false
unfolding odd
solid_here x y o n = solid_above x (omega (arith, n, ltb-false x 32 (or_both (ltb x 32) (eqb x 126 || (eqb x 32 && ltb y 33)) o).0))

and_one : (a : Bool) → a && true ≡ a
and_one true = refl
and_one false = refl

-- nor is the last of bytes that are not hard
solid-last : (x : ℕ) (s : Bytes) → any_hard (x ∷ s) ≡ false → is_ascii_white (get_or (x ∷ s) (length s) 0) ≡ false
unfolding odd
solid-last x [] e =
    let o = (first x [] e).0 in
    let h = or_both (ltb x 32) (eqb x 126 || (eqb x 32 && ltb 0 33)) o in
    let k = or_both (eqb x 126) (eqb x 32 && ltb 0 33) h.1 in
    solid_here x 0 o (eqb-false x 32 (sym (and_one (eqb x 32)) ∙ k.1))
solid-last x (y ∷ s) e = solid-last y s (both x (y ∷ s) e).1

-- the last byte of two texts is that of the second
last_of_lem : (s : Bytes) (x : ℕ) (z : Bytes) → get_or (s ++ (x ∷ z)) (length (s ++ (x ∷ z)) - 1) 0 ≡ get_or (x ∷ z) (length z) 0
last_of_lem s x z =
    let e : length (s ++ (x ∷ z)) - 1 ≡ length s + length z = omega (arith, length-append s (x ∷ z)) in
    rw e (get_or-append-add s (x ∷ z) (length z) 0)

module _ (w body v : Bytes) (hw : blank Ascii w ≡ true) (hv : blank Ascii v ≡ true) where
  words-framed : words Ascii (w ++ (body ++ v)) ≡ words Ascii body
  unfolding words blank
  words-framed =
      rw (ascii_append w (body ++ v), ascii_append body v)
      (words-behind (white Ascii) (chars_of Ascii w) (chars_of Ascii body ++ chars_of Ascii v) hw ∙ words_before (white Ascii) (chars_of Ascii body) (chars_of Ascii v) hv)

  body-framed : body_of (w ++ (body ++ v)) ≡ body_of body
  unfolding body_of
  body-framed = ap (λ (ws : List Bytes). hard_spaces (joined ws)) words-framed

-- ---- how a text begins and ends

-- white space in front shows
starts_framed : (w : Bytes) (x : ℕ) (s : Bytes) → blank Ascii w ≡ true → is_ascii_white x ≡ false → starts_white (w ++ (x ∷ s)) ≡ ltb 0 (length w)
unfolding starts_white
starts_framed [] x s hw e = e
starts_framed (y ∷ w) x s hw e = (both_hold (is_ascii_white y) (blank Ascii w) (sym (blank_step y w) ∙ hw)).0 ∙ sym (lt-ltb 0 (length (y ∷ w)) (omega arith))

-- a blank text that has a byte ends with white space
blank_last : (x : ℕ) (s : Bytes) → blank Ascii (x ∷ s) ≡ true → is_ascii_white (get_or (x ∷ s) (length s) 0) ≡ true
blank_last x [] e = (both_hold (is_ascii_white x) (blank Ascii []) (sym (blank_step x []) ∙ e)).0
blank_last x (y ∷ s) e = blank_last y s (both_hold (is_ascii_white x) (blank Ascii (y ∷ s)) (sym (blank_step x (y ∷ s)) ∙ e)).1

-- and at the end
ends-framed : (s : Bytes) (x : ℕ) (z v : Bytes) → blank Ascii v ≡ true → is_ascii_white (get_or (x ∷ z) (length z) 0) ≡ false → ends_white (s ++ ((x ∷ z) ++ v)) ≡ ltb 0 (length v)
unfolding ends_white
ends-framed s x z [] hv e = rw (append-nil z, last_of_lem s x z) e
ends-framed s x z (y ∷ v) hv e = rw (last_of_lem s x (z ++ (y ∷ v))) (last_more z y v hv ∙ sym (lt-ltb 0 (length (y ∷ v)) (omega arith)))
  where
    last_more : (z : Bytes) (y : ℕ) (v : Bytes) → blank Ascii (y ∷ v) ≡ true → is_ascii_white (get_or (x ∷ (z ++ (y ∷ v))) (length (z ++ (y ∷ v))) 0) ≡ true
    last_more z y v hv =
        let n : length (z ++ (y ∷ v)) ≡ length (x ∷ z) + length v = omega (arith, length-append z (y ∷ v)) in
        rw (n, get_or-append-add (x ∷ z) (y ∷ v) (length v) 0) (blank_last y v hv)

-- ---- what a frame tells

module _ (w body v : Bytes) (hw : blank Ascii w ≡ true) (hv : blank Ascii v ≡ true) (hb : tight body ≡ true) where
  parts_of : (not (eqb (length body) 0) ≡ true) × (easy body ≡ true)
  unfolding tight
  parts_of = both_hold (not (eqb (length body) 0)) (easy body) hb

  none : any_hard body ≡ false
  none = (easy_both body parts_of.1).1

  text-body : body_of (w ++ (body ++ v)) ≡ body
  text-body = body-framed w body v hw hv ∙ body-easy body parts_of.1

  text_whole : has_break (body_of (w ++ (body ++ v))) ≡ false
  text_whole = ap has_break text-body ∙ break_pair body ∙ pair-easy body none

  text_stands : (n : Normalized) → escape false (written (w ++ (body ++ v)) n) ≡ edged body n
  text_stands n = written-escaped (w ++ (body ++ v)) n ∙ rw (text-body, escape-easy body none)

  text_shows : blank Ascii (w ++ (body ++ v)) ≡ false
  text_shows = go (blank Ascii (w ++ (body ++ v))) refl
    where
      go : (y : Bool) → blank Ascii (w ++ (body ++ v)) ≡ y → y ≡ false
      go false e = refl
      go true e = absurd (omega (arith, ap length (sym text-body ∙ body_blank (w ++ (body ++ v)) e), eqb-false (length body) 0 (not-true (eqb (length body) 0) parts_of.0)))

text_starts : (w body v : Bytes) → blank Ascii w ≡ true → tight body ≡ true → starts_white (w ++ (body ++ v)) ≡ ltb 0 (length w)
unfolding tight
text_starts w [] v hw hb = absurd (let n : ◌≡◌ {A = Bool} false true = hb in let no_way : ◌≡◌ {A = ℕ} 0 1 = cc in omega arith)
text_starts w (x ∷ z) v hw hb =
    let e = (both_hold (not (eqb (length (x ∷ z)) 0)) (easy (x ∷ z)) hb).1 in
    let k = easy_both (x ∷ z) e in
    starts_framed w x (z ++ v) hw (solid_here x (get_or z 0 0) (first x z k.1).0 (eqb-false x 32 k.0))

text-ends : (w body v : Bytes) → blank Ascii v ≡ true → tight body ≡ true → ends_white (w ++ (body ++ v)) ≡ ltb 0 (length v)
unfolding tight
text-ends w [] v hv hb = absurd (let n : ◌≡◌ {A = Bool} false true = hb in let no_way : ◌≡◌ {A = ℕ} 0 1 = cc in omega arith)
text-ends w (x ∷ z) v hv hb =
    let e = (both_hold (not (eqb (length (x ∷ z)) 0)) (easy (x ∷ z)) hb).1 in
    ends-framed w x z v hv (solid-last x z (easy_both (x ∷ z) e).1)

-- a text by the white space at its edges and a tight body between
module _ (s : Bytes) (size front back : ℕ) (within : size ≤ length s) (f : front ≤ size) (fw : blank Ascii (take front s) ≡ true) (z : back ≤ size - front)
    (zw : blank Ascii (part s (size - back) back) ≡ true) (h : tight (take (size - front - back) (drop front s)) ≡ true) where
  len : ℕ
  len = size - front - back

  w : Bytes
  w = take front s

  body : Bytes
  body = take len (drop front s)

  v : Bytes
  v = part s (size - back) back

  fits : front + (len + back) ≡ size
  unfolding len
  fits = omega (arith, f, z)

  split : take size s ≡ w ++ (body ++ v)
  unfolding len w body v
  split =
      let e : front + (size - front - back) ≡ size - back = omega (arith, f, z) in
      sym (ap (λ (n : ℕ). take n s) fits) ∙ take-add front (len + back) s
      ∙ ap (λ (r : Bytes). take front s ++ r) (take-add len back (drop front s) ∙ ap (λ (r : Bytes). take len (drop front s) ++ take back r) (drop-drop len front s ∙ ap (λ (n : ℕ). drop n s) e))

  length-w : length w ≡ front
  unfolding w
  length-w = omega (arith, length-take front s, f)

  length-v : length v ≡ back
  unfolding v
  length-v = omega (arith, length-take back (drop (size - back) s), length-drop (size - back) s, z)

  length-body : length body ≡ len
  unfolding body len
  length-body = omega (arith, length-take (size - front - back) (drop front s), length-drop front s, f, z)

  hw : blank Ascii w ≡ true
  unfolding w
  hw = fw

  hv : blank Ascii v ≡ true
  unfolding v
  hv = zw

  hb : tight body ≡ true
  unfolding body len
  hb = h

  some : eqb len 0 ≡ false
  unfolding tight
  some = rw (← length-body) (not-true (eqb (length body) 0) (both_hold (not (eqb (length body) 0)) (easy body) hb).0)

  edges : (a k : Bool) → normalize_text (w ++ (body ++ v)) a k ≡ framed_text_of (record { front = front; len = len; ends = ltb 0 back }) a k
  unfolding normalize_text framed_text_of
  edges a k = rw (text_shows w body v hw hv hb, some, text_starts w body v hw hb, text-ends w body v hv hb, length-w, length-v)

  pub framed-body : Framed s size (record { front = front; len = size - front - back; ends = ltb 0 back })
  unfolding len body
  framed-body =
      record {
        ends = sym (ap ends_white split ∙ text-ends w body v hv hb ∙ rw length-v);
        edges = λ a k. ap (λ (r : Bytes). normalize_text r a k) split ∙ edges a k;
        whole = ap (λ (r : Bytes). has_break (body_of r)) split ∙ text_whole w body v hw hv hb;
        stands = λ n. ap (λ (r : Bytes). escape false (written r n)) split ∙ text_stands w body v hw hv hb n;
      }

-- ---- one space alone

space_white : is_ascii_white 32 ≡ true
unfolding is_ascii_white in_any within
space_white = refl

space_blank : blank Ascii (32 ∷ []) ≡ true
space_blank = blank_one 32 space_white

space_body : body_of (32 ∷ []) ≡ []
space_body = body_blank (32 ∷ []) space_blank

space_ends : true ≡ ends_white (32 ∷ [])
unfolding ends_white
space_ends = sym space_white

space_edges : (a z : Bool) → normalize_text (32 ∷ []) a z ≡ framed_text_of (record { front = 0; len = 0; ends = true }) a z
unfolding normalize_text framed_text_of blank_lead
space_edges a z = rw space_blank

break_nil : has_break [] ≡ false
unfolding any_hard
break_nil = break_pair [] ∙ pair-easy [] refl

space_whole : has_break (body_of (32 ∷ [])) ≡ false
space_whole = ap has_break space_body ∙ break_nil

space_stands : (n : Normalized) → escape false (written (32 ∷ []) n) ≡ edged [] n
unfolding escape
space_stands n = written-escaped (32 ∷ []) n ∙ rw space_body

pub framed_space : (s : Bytes) (size : ℕ) → size ≡ 1 → get_or s 0 0 ≡ 32 → size ≤ length s → Framed s size (record { front = 0; len = 0; ends = true })
framed_space s size e x h =
    let split : take size s ≡ 32 ∷ [] = ap (λ (n : ℕ). take n s) e ∙ take-suc s 0 0 (omega arith) ∙ ap (λ (y : ℕ). y ∷ []) x in
    record {
      ends = space_ends ∙ sym (ap ends_white split);
      edges = λ a z. ap (λ (r : Bytes). normalize_text r a z) split ∙ space_edges a z;
      whole = ap (λ (r : Bytes). has_break (body_of r)) split ∙ space_whole;
      stands = λ n. ap (λ (r : Bytes). escape false (written r n)) split ∙ space_stands n;
    }

-- ---- the white bytes at the edges

blank_first : (s : Bytes) → is_ascii_white (get_or s 0 0) ≡ true → blank Ascii (take 1 s) ≡ true
blank_first [] e = blank_nil
blank_first (x ∷ s) e = blank_one x e

blank_both : (s : Bytes) → is_ascii_white (get_or s 0 0) ≡ true → is_ascii_white (get_or s 1 0) ≡ true → blank Ascii (take 2 s) ≡ true
blank_both [] e f = blank_nil
blank_both (x ∷ []) e f = blank_one x e
blank_both (x ∷ y ∷ s) e f = blank_two x y e f

front_white : (s : Bytes) (size : ℕ) → (blank Ascii (take (white_front_of s size) s) ≡ true) × (white_front_of s size ≤ size)
unfolding white_front_of
front_white s size = go (ltb size 2) refl (is_ascii_white (get_or s 0 0)) refl (is_ascii_white (get_or s 1 0)) refl
  where
    go : (a : Bool) → ltb size 2 ≡ a → (x : Bool) → is_ascii_white (get_or s 0 0) ≡ x → (y : Bool) → is_ascii_white (get_or s 1 0) ≡ y
        → (blank Ascii (take (cond a 0 (cond x (cond y 2 1) 0)) s) ≡ true) × (cond a 0 (cond x (cond y 2 1) 0) ≤ size)
    go true ea x ex y ey = (blank_nil, omega arith)
    go false ea false ex y ey = (blank_nil, omega arith)
    go false ea true ex false ey = (blank_first s ex, omega (arith, ltb-false size 2 ea))
    go false ea true ex true ey = (blank_both s ex ey, omega (arith, ltb-false size 2 ea))

back_white : (s : Bytes) (front size : ℕ) → (blank Ascii (part s (size - white_back_of s front size) (white_back_of s front size)) ≡ true) × (white_back_of s front size ≤ size - front)
unfolding white_back_of
back_white s front size = go (leb size front) refl (is_ascii_white (get_or s (size - 1) 0)) refl (ltb (size - front) 2) refl (is_ascii_white (get_or s (size - 2) 0)) refl
  where
    one : is_ascii_white (get_or s (size - 1) 0) ≡ true → blank Ascii (part s (size - 1) 1) ≡ true
    one e =
        let same : size - 1 + 0 ≡ size - 1 = omega arith in
        blank_first (drop (size - 1) s) (ap is_ascii_white (get_or-drop (size - 1) s 0 0) ∙ rw same e)

    two : 2 ≤ size → is_ascii_white (get_or s (size - 1) 0) ≡ true → is_ascii_white (get_or s (size - 2) 0) ≡ true → blank Ascii (part s (size - 2) 2) ≡ true
    two h e f =
        let same : size - 2 + 0 ≡ size - 2 = omega arith in
        let next : size - 2 + 1 ≡ size - 1 = omega arith in
        blank_both (drop (size - 2) s) (ap is_ascii_white (get_or-drop (size - 2) s 0 0) ∙ rw same f) (ap is_ascii_white (get_or-drop (size - 2) s 1 0) ∙ rw next e)

    go : (a : Bool) → leb size front ≡ a → (x : Bool) → is_ascii_white (get_or s (size - 1) 0) ≡ x → (l : Bool) → ltb (size - front) 2 ≡ l → (y : Bool) → is_ascii_white (get_or s (size - 2) 0) ≡ y
        → (blank Ascii (part s (size - cond a 0 (cond x (cond l 1 (cond y 2 1)) 0)) (cond a 0 (cond x (cond l 1 (cond y 2 1)) 0))) ≡ true) × (cond a 0 (cond x (cond l 1 (cond y 2 1)) 0) ≤ size - front)
    go true ea x ex l el y ey = (blank_nil, omega arith)
    go false ea false ex l el y ey = (blank_nil, omega arith)
    go false ea true ex true el y ey = (one ex, omega (arith, leb-false size front ea))
    go false ea true ex false el false ey = (one ex, omega (arith, leb-false size front ea))
    go false ea true ex false el true ey = (two (omega (arith, ltb-false (size - front) 2 el)) ex ey, omega (arith, ltb-false (size - front) 2 el))

-- ---- the functions

pub clash : {A : Type 0} {t u : Bool} → t ≡ u → u ≡ true → t ≡ false → A
clash e h n = absurd (let k : ◌≡◌ {A = Bool} true false = sym h ∙ sym e ∙ n in let no_way : ◌≡◌ {A = ℕ} 0 1 = cc in omega arith)

module _ (s : Bytes) (size : ℕ) where
  pub front_fits : {r : ℕ} → r ≡ white_front_of s size → r ≤ size
  front_fits e = omega (arith, (front_white s size).1)

  pub front_short : size < 2 → 0 ≡ white_front_of s size
  unfolding white_front_of
  front_short h = rw (lt-ltb size 2 h)

  module _ (h : 2 ≤ size) {t : Bool} {x : ℕ} (et : t ≡ is_ascii_white x) (ex : x ≡ get_or s 0 0) where
    pub front_none : not t ≡ true → 0 ≡ white_front_of s size
    unfolding white_front_of
    front_none n = rw (le-ltb size 2 h, ← ex, sym et ∙ not-true t n)

    module _ (n : not t ≡ false) {u : Bool} {y : ℕ} (eu : u ≡ is_ascii_white y) (ey : y ≡ get_or s 1 0) where
      pub front_one : not u ≡ true → 1 ≡ white_front_of s size
      unfolding white_front_of
      front_one k = rw (le-ltb size 2 h, ← ex, sym et ∙ not-false t n, ← ey, sym eu ∙ not-true u k)

      pub front_two : not u ≡ false → 2 ≡ white_front_of s size
      unfolding white_front_of
      front_two k = rw (le-ltb size 2 h, ← ex, sym et ∙ not-false t n, ← ey, sym eu ∙ not-false u k)

module _ (s : Bytes) (front size : ℕ) where
  pub back_past : size ≤ front → 0 ≡ white_back_of s front size
  unfolding white_back_of
  back_past h = rw (le-leb size front h)

  module _ (h : front < size) {t : Bool} {x : ℕ} (et : t ≡ is_ascii_white x) (ex : x ≡ get_or s (size - 1) 0) where
    pub back_none : not t ≡ true → 0 ≡ white_back_of s front size
    unfolding white_back_of
    back_none n = rw (lt-leb size front h, ← ex, sym et ∙ not-true t n)

    module _ (n : not t ≡ false) where
      pub back_single : size - front < 2 → 1 ≡ white_back_of s front size
      unfolding white_back_of
      back_single k = rw (lt-leb size front h, ← ex, sym et ∙ not-false t n, lt-ltb (size - front) 2 k)

      module _ (k : 2 ≤ size - front) {u : Bool} {y : ℕ} (eu : u ≡ is_ascii_white y) (ey : y ≡ get_or s (size - 2) 0) where
        pub back_one : not u ≡ true → 1 ≡ white_back_of s front size
        unfolding white_back_of
        back_one m = rw (lt-leb size front h, ← ex, sym et ∙ not-false t n, le-ltb (size - front) 2 k, ← ey, sym eu ∙ not-true u m)

        pub back_two : not u ≡ false → 2 ≡ white_back_of s front size
        unfolding white_back_of
        back_two m = rw (lt-leb size front h, ← ex, sym et ∙ not-false t n, le-ltb (size - front) 2 k, ← ey, sym eu ∙ not-false u m)

-- a tight body between white space
module _ (s : Bytes) (size : ℕ) {front len : ℕ} where
  pub found-body : {r : Bytes} {t : Bool} → r ≡ drop front s → t ≡ tight (take len r) → front ≡ (frame_of s size).front → len ≡ (frame_of s size).len → t ≡ true → size ≤ length s
      → Framed s size (frame_of s size)
  unfolding frame_of
  found-body {r} {t} er et ef el e n =
      framed-body s size (white_front_of s size) (white_back_of s (white_front_of s size) size) n (front_white s size).1 (front_white s size).0 (back_white s (white_front_of s size) size).1 (back_white s (white_front_of s size) size).0
      (sym (ap (λ (q : Bytes). tight (take len q)) er ∙ ap (λ (i : ℕ). tight (take len (drop i s))) ef ∙ ap (λ (i : ℕ). tight (take i (drop (white_front_of s size) s))) el) ∙ sym et ∙ e)

-- one space alone
space_frame : (s : Bytes) → get_or s 0 0 ≡ 32 → frame_of s 1 ≡ record { front = 0; len = 0; ends = true }
unfolding frame_of white_front_of white_back_of
space_frame s e = rw (e, space_white)

pub found_space : (s : Bytes) (size : ℕ) {x : ℕ} {front len : ℕ} → size ≡ 1 → x ≡ get_or s 0 0 → front ≡ (frame_of s size).front → len ≡ (frame_of s size).len → eqb x 32 ≡ true → size ≤ length s
    → Framed s size (frame_of s size)
found_space s size {x} e ex ef el h n =
    let here : get_or s 0 0 ≡ 32 = sym ex ∙ eqb-true x 32 h in
    let frame : frame_of s size ≡ record { front = 0; len = 0; ends = true } = ap (frame_of s) e ∙ space_frame s here in
    rw frame (framed_space s size e here n)

-- what `&&` is where its first test holds, and where it does not
pub and_then : {a : Bool} (z : Bool) → a ≡ true → z ≡ a && z
and_then z e = rw e

pub and_else : {a : Bool} (z : Bool) → a ≡ false → a ≡ a && z
and_else z e = rw e

module _ (front len : ℕ) (ends a z : Bool) where
  pub text_space : len ≡ 0 → {l : Bool} → l ≡ a && z → ◌≡◌ {A = Normalized} (record { lead = l; trail = false; shows = l }) (framed_text_of (record { front = front; len = len; ends = ends }) a z)
  unfolding framed_text_of
  text_space e el = rw (eq-eqb len 0 e, el)

  pub text_edges : (len ≡ 0 → ⊥) → {l r : Bool} → l ≡ ltb 0 front && a → r ≡ ends && z → ◌≡◌ {A = Normalized} (record { lead = l; trail = r; shows = true }) (framed_text_of (record { front = front; len = len; ends = ends }) a z)
  unfolding framed_text_of
  text_edges n el er = rw (ne_eqb len 0 n, el, er)
