-- The characters of a body, from those of its text.
use mathlib.Core.Path.{◌≡◌, refl, sym, ap, ◌∙◌}
use mathlib.Core.Bool.{Bool, true, false, cond}
use mathlib.Core.List.{List, [], ◌∷◌, ◌++◌, flatten}
use Prim.Native.Nat.{ℕ, zero, suc, ◌≤◌, ◌<◌}
use native.Mathlib.Omega.{arith}
use lib.ListN.{length, get_or, take, drop, length-append, take-append-drop, get_or-append}
use lib.Seq.{take-append_seam}
use lib.Dec.{leb, ltb}
use borrow.Author.Tests.{le-leb, leb-true, ltb-true, ltb-false}
use Rattle.parts.specs.Bytes.{Bytes}
use Rattle.parts.proofs.Laws.{and-true}
use Rattle.chars.specs.Range.{within}
use Rattle.chars.specs.Space.{is_ascii_white}
use Rattle.chars.specs.Utf8.{tail, table37, fits, row_len, seq_len, step}
use Rattle.chars.proofs.Characters.{seq_take, seq_append, seq_inner, step_seq, step_byte}
use Rattle.words.specs.Words.{step_of, chars_of, white}
use Rattle.words.specs.declared.Set.TheVariants.{Ascii, Unicode}
use Rattle.words.proofs.Rows.{Row, none, more}
use Rattle.words.proofs.Steps.{space_size}
use Rattle.words.proofs.Texts.{chars_flatten, chars_row, row_chars}
use Rattle.texts.specs.Text.{hard_spaces, body_of}
use Rattle.texts.proofs.Texts.{by_tilde, hard_tilde, hard-other, hard_space, hard-append, hard_long}
use Rattle.texts.proofs.Edges.{solid_above}
use Rattle.texts.proofs.Told.{told, more as more_of, lead, told-nil, told-words, told-solid, told-white, more-solid}
use Rattle.put_body.specs.Body.{rest_of}
use Rattle.put_body.proofs.Rest.{rest_more, rest-nil, rest_tilde, rest-white}

-- ---- a body, or how one goes on behind a solid byte

unfoldable pub tale : Bool → Bytes → Bytes
tale false s = body_of s
tale true s = rest_of s

body-told : (s : Bytes) → body_of s ≡ hard_spaces (told s)
unfolding body_of
body-told s = ap hard_spaces (sym (told-words s))

tale-nil : (on : Bool) → tale on [] ≡ []
unfolding tale hard_spaces
tale-nil false = body-told [] ∙ ap hard_spaces told-nil
tale-nil true = rest-nil

tale-solid : (on : Bool) (x : ℕ) (t : Bytes) → is_ascii_white x ≡ false → tale on (x ∷ t) ≡ hard_spaces (x ∷ []) ++ tale true t
unfolding tale
tale-solid false x t e = body-told (x ∷ t) ∙ ap hard_spaces (told-solid x t e) ∙ hard-append (x ∷ []) (more_of t) ∙ rw (rest_more t)
tale-solid true x t e = rest_more (x ∷ t) ∙ ap hard_spaces (more-solid x t e) ∙ hard-append (x ∷ []) (more_of t) ∙ rw (rest_more t)

-- a space in front, behind a solid byte
abbrev lead_if : Bool → Bytes → Bytes
lead_if false s = s
lead_if true s = lead s

hard-lead : (s : Bytes) → hard_spaces (lead s) ≡ lead (hard_spaces s)
unfolding hard_spaces
hard-lead [] = refl
hard-lead (x ∷ s) = hard_space (x ∷ s) ∙ go (hard_spaces (x ∷ s)) (hard_long (x ∷ s))
  where
    go : (t : Bytes) → suc (length s) ≤ length t → 32 ∷ t ≡ lead t
    go [] h = absurd (omega arith)
    go (y ∷ t) h = refl

tale-white : (on : Bool) (x : ℕ) (t : Bytes) → is_ascii_white x ≡ true → tale on (x ∷ t) ≡ lead_if on (tale false t)
unfolding tale
tale-white false x t e = body-told (x ∷ t) ∙ ap hard_spaces (told-white x t e) ∙ sym (body-told t)
tale-white true x t e = rest-white x t e ∙ hard-lead (told t) ∙ ap lead (sym (body-told t))

-- ---- bytes from 80 on

abbrev pub High : Bytes → Type 0
High [] = Unit {0}
High (x ∷ c) = (128 ≤ x) × High c

pub high_solid : (x : ℕ) → 128 ≤ x → is_ascii_white x ≡ false
high_solid x h = solid_above x (omega arith)

pub hard_high : (c : Bytes) → High c → hard_spaces c ≡ c
unfolding hard_spaces
hard_high [] h = refl
hard_high (x ∷ c) h = hard-other x c (λ e. omega (arith, h.0)) ∙ ap (λ (z : Bytes). x ∷ z) (hard_high c h.1)

tale_high : (on : Bool) (c t : Bytes) → 0 < length c → High c → tale on (c ++ t) ≡ c ++ tale true t
tale_high on [] t l h = absurd (omega arith)
tale_high on (x ∷ []) t l h =
    tale-solid on x t (high_solid x h.0) ∙ ap (λ (z : Bytes). z ++ tale true t) (hard_high (x ∷ []) h)
tale_high on (x ∷ y ∷ c) t l h =
    tale-solid on x (y ∷ (c ++ t)) (high_solid x h.0)
    ∙ ap (λ (z : Bytes). z ++ tale true (y ∷ (c ++ t))) (hard_high (x ∷ []) (h.0, tt))
    ∙ ap (λ (z : Bytes). x ∷ z) (tale_high true (y ∷ c) t (omega arith) h.1)

-- ---- the bytes of a character

low_one : (x : ℕ) (t : Bytes) → x < 128 → seq_len (x ∷ t) ≡ 1
unfolding seq_len row_len table37 fits within
low_one x t h = rw (le-leb 0 x (omega arith), le-leb x 127 (omega arith))

-- ASCII, or bytes from 80 on
pub data Shape : Bytes → Type 0 where
  low : (x : ℕ) → x < 128 → Shape (x ∷ [])
  high : {c : Bytes} → 0 < length c → High c → Shape c

tail_high : (x : ℕ) → within tail x ≡ true → 128 ≤ x
unfolding within
tail_high x e = leb-true 128 x (and-true (leb 128 x) (leb x 191) e).0

high_of : (c : Bytes) → ((i : ℕ) → i < length c → 128 ≤ get_or c i 0) → High c
high_of [] f = tt
high_of (x ∷ c) f = (f 0 (omega arith), high_of c (λ i h. f (suc i) (omega arith)))

pub shape_of : (c t : Bytes) → 0 < length c → step_of Unicode (c ++ t) ≡ length c → Shape c
unfolding step_of
shape_of [] t l e = absurd (omega arith)
shape_of (x ∷ d) t l e = go (ltb x 128) refl
  where
    one : length d ≡ 0 → d ≡ []
    one h = by d h
      where
        by : (d : Bytes) → length d ≡ 0 → d ≡ []
        by [] h = refl
        by (y ∷ d) h = absurd (omega arith)

    bytes : 128 ≤ x → (n : ℕ) → seq_len (x ∷ (d ++ t)) ≡ n → (i : ℕ) → i < suc (length d) → 128 ≤ get_or (x ∷ d) i 0
    bytes h n en zero l = h
    bytes h zero en (suc i) l = absurd (omega (arith, step_byte (x ∷ (d ++ t)) (omega arith) en))
    bytes h (suc n) en (suc i) l =
        let size : seq_len (x ∷ (d ++ t)) ≡ suc (length d) = sym (step_seq (x ∷ (d ++ t)) (omega arith)) ∙ e in
        let inner : within tail (get_or (x ∷ (d ++ t)) (suc i) 0) ≡ true = seq_inner (x ∷ (d ++ t)) (suc i) (omega arith) (omega arith) in
        tail_high (get_or d i 0) (ap (within tail) (sym (get_or-append d t 0 i (omega arith))) ∙ inner)

    go : (y : Bool) → ltb x 128 ≡ y → Shape (x ∷ d)
    go true h =
        let k : x < 128 = ltb-true x 128 h in
        let s : seq_len (x ∷ (d ++ t)) ≡ 1 = low_one x (d ++ t) k in
        rw (one (omega (arith, step_seq (x ∷ (d ++ t)) (omega arith)))) (low x k)
    go false h = high {c = x ∷ d} (omega arith) (high_of (x ∷ d) (bytes (ltb-false x 128 h) (seq_len (x ∷ (d ++ t))) refl))

-- ---- a stray byte stays one

head_tail : (u : Bytes) → within tail (get_or u 0 0) ≡ true → u ≡ [] → ⊥
unfolding within
head_tail u e h = let no_way : ◌≡◌ {A = ℕ} 0 1 = cc (ap (λ (z : Bytes). within tail (get_or z 0 0)) h) in omega arith

first-not : (x : ℕ) (u v : Bytes) → within tail x ≡ false → v ≡ x ∷ u → within tail (get_or v 0 0) ≡ true → ⊥
first-not x u v e h f = let no_way : ◌≡◌ {A = ℕ} 0 1 = cc (ap (λ (z : Bytes). within tail (get_or z 0 0)) h) in omega arith

hard_one : (z : ℕ) → (z ≡ 126 → ⊥) → hard_spaces (z ∷ []) ≡ z ∷ []
unfolding hard_spaces
hard_one z h = hard-other z [] h

-- bytes of 80..BF that a body goes on with are the text's own
tails_same : (k : ℕ) (t : Bytes) → ((i : ℕ) → i < k → within tail (get_or (rest_of t) i 0) ≡ true) → take k (rest_of t) ≡ take k t
unfolding tale within
tails_same zero t f = refl
tails_same (suc k) [] f = absurd (head_tail (rest_of []) (f 0 (omega arith)) rest-nil)
tails_same (suc k) (z ∷ t) f = go (is_ascii_white z) refl (tails_same k t)
  where
    lead-not : (u : Bytes) → rest_of (z ∷ t) ≡ lead u → take (suc k) (rest_of (z ∷ t)) ≡ take (suc k) (z ∷ t)
    lead-not [] e = absurd (head_tail (rest_of (z ∷ t)) (f 0 (omega arith)) e)
    lead-not (y ∷ u) e = absurd (first-not 32 (y ∷ u) (rest_of (z ∷ t)) refl e (f 0 (omega arith)))

    go : (y : Bool) → is_ascii_white z ≡ y → (((i : ℕ) → i < k → within tail (get_or (rest_of t) i 0) ≡ true) → take k (rest_of t) ≡ take k t)
        → take (suc k) (rest_of (z ∷ t)) ≡ take (suc k) (z ∷ t)
    go true e later = lead-not (tale false t) (tale-white true z t e)
    go false e later =
        by_tilde z
        (λ h. absurd (first-not 194 (160 ∷ rest_of t) (rest_of (z ∷ t)) refl (rw h (rest_tilde t)) (f 0 (omega arith))))
        (λ h.
        let s : rest_of (z ∷ t) ≡ z ∷ rest_of t = tale-solid true z t e ∙ ap (λ (u : Bytes). u ++ rest_of t) (hard_one z h) in
        ap (take (suc k)) s ∙ ap (λ (u : Bytes). z ∷ u) (later (λ i l. ap (λ (u : Bytes). within tail (get_or u (suc i) 0)) (sym s) ∙ f (suc i) (omega arith))))

stray_stays : (x : ℕ) (t : Bytes) → seq_len (x ∷ t) ≡ 0 → seq_len (x ∷ rest_of t) ≡ 0
stray_stays x t e = go (seq_len (x ∷ rest_of t)) refl
  where
    go : (n : ℕ) → seq_len (x ∷ rest_of t) ≡ n → seq_len (x ∷ rest_of t) ≡ 0
    go zero h = h
    go (suc n) h =
        let same : take n (rest_of t) ≡ take n t = tails_same n t (λ i l. seq_inner (x ∷ rest_of t) (suc i) (omega arith) (omega arith)) in
        let c : Bytes = x ∷ take n t in
        let here : seq_len c ≡ suc n = ap (λ (z : Bytes). seq_len (x ∷ z)) (sym same) ∙ seq_take (suc n) (x ∷ rest_of t) (omega arith) ∙ h in
        let whole : seq_len (c ++ drop n t) ≡ suc n = seq_append c (drop n t) (omega arith) ∙ here in
        absurd (omega (arith, sym (ap (λ (z : Bytes). seq_len (x ∷ z)) (take-append-drop n t)) ∙ whole))

-- ---- the characters of a body

-- a space in front of characters, behind a solid one
unfoldable pub spaced_if : Bool → List Bytes → List Bytes
spaced_if false ds = ds
spaced_if true [] = []
spaced_if true (d ∷ ds) = (32 ∷ []) ∷ d ∷ ds

unfoldable pub tale_chars_of : Bool → List Bytes → List Bytes
tale_chars_of on [] = []
tale_chars_of on (c ∷ cs) = cond (white Ascii c) (spaced_if on (tale_chars_of false cs)) (hard_spaces c ∷ tale_chars_of true cs)

-- these are what the body of their text is cut into
pub record Told (on : Bool) (cs : List Bytes) : Type 0 where
  pub whole : flatten (tale_chars_of on cs) ≡ tale on (flatten cs)
  pub row : Row (step_of Unicode) (tale_chars_of on cs)

spaced-row : (on : Bool) (ds : List Bytes) → Row (step_of Unicode) ds → Row (step_of Unicode) (spaced_if on ds)
unfolding spaced_if flatten
spaced-row false ds r = r
spaced-row true [] r = none
spaced-row true (d ∷ ds) r = more {c = 32 ∷ []} {cs = d ∷ ds} (omega arith) (space_size Unicode (d ++ flatten ds)) r

spaced_whole : (on : Bool) (ds : List Bytes) → Row (step_of Unicode) ds → flatten (spaced_if on ds) ≡ lead_if on (flatten ds)
unfolding spaced_if flatten
spaced_whole false ds r = refl
spaced_whole true [] r = refl
spaced_whole true ([] ∷ ds) (more h e r) = absurd (omega arith)
spaced_whole true ((x ∷ d) ∷ ds) r = refl

module _ (on : Bool) (c : Bytes) (cs : List Bytes) where
  told_space : white Ascii c ≡ true → tale on (c ++ flatten cs) ≡ lead_if on (tale false (flatten cs)) → Told false cs → Told on (c ∷ cs)
  unfolding tale_chars_of flatten
  told_space e et i = record {
    whole = rw e (spaced_whole on (tale_chars_of false cs) i.row ∙ ap (lead_if on) i.whole ∙ sym et);
    row = rw e (spaced-row on (tale_chars_of false cs) i.row);
  }

  told_char : white Ascii c ≡ false → 0 < length c → tale on (c ++ flatten cs) ≡ hard_spaces c ++ tale true (flatten cs)
      → step_of Unicode (hard_spaces c ++ tale true (flatten cs)) ≡ length (hard_spaces c) → Told true cs → Told on (c ∷ cs)
  unfolding tale_chars_of flatten
  told_char e h et es i = record {
    whole = rw (e, i.whole) (sym et);
    row = rw e (more {c = hard_spaces c} {cs = tale_chars_of true cs} (omega (arith, hard_long c)) (ap (λ (z : Bytes). step_of Unicode (hard_spaces c ++ z)) i.whole ∙ es) i.row);
  }

low_step : (x : ℕ) (t : Bytes) → x < 128 → step_of Unicode (hard_spaces (x ∷ []) ++ t) ≡ length (hard_spaces (x ∷ []))
unfolding step_of step hard_spaces seq_len row_len table37 fits within
low_step x t h =
    by_tilde x
    (λ e. rw (hard_tilde x [] e))
    (λ n. rw (hard_one x n) (step_seq (x ∷ t) (omega (arith, low_one x t h)) ∙ low_one x t h))

high_step : (c t : Bytes) → 0 < length c → High c → step_of Unicode (c ++ t) ≡ length c → step_of Unicode (c ++ rest_of t) ≡ length c
unfolding step_of
high_step c t l h e = go (seq_len (c ++ t)) refl
  where
    stray : (c : Bytes) → length c ≡ 1 → seq_len (c ++ t) ≡ 0 → step (c ++ rest_of t) ≡ length c
    stray [] n z = absurd (omega arith)
    stray (x ∷ []) n z = step_byte (x ∷ rest_of t) (omega arith) (stray_stays x t z)
    stray (x ∷ y ∷ c) n z = absurd (omega arith)

    go : (n : ℕ) → seq_len (c ++ t) ≡ n → step (c ++ rest_of t) ≡ length c
    go zero z = stray c (sym e ∙ step_byte (c ++ t) (omega (arith, length-append c t)) z) z
    go (suc n) z =
        let size : seq_len (c ++ t) ≡ length c = sym (step_seq (c ++ t) (omega arith)) ∙ e in
        let own : seq_len c ≡ length c = ap seq_len (sym (take-append_seam c t)) ∙ seq_take (length c) (c ++ t) (omega arith) ∙ size in
        let on : seq_len (c ++ rest_of t) ≡ length c = seq_append c (rest_of t) (omega arith) ∙ own in
        step_seq (c ++ rest_of t) (omega arith) ∙ on

high_white : (c : Bytes) → 0 < length c → High c → white Ascii c ≡ false
unfolding white
high_white [] l h = absurd (omega arith)
high_white (x ∷ c) l h = high_solid x h.0

told_shape : (on : Bool) (c : Bytes) (cs : List Bytes) → Shape c → step_of Unicode (c ++ flatten cs) ≡ length c → ((on : Bool) → Told on cs) → Told on (c ∷ cs)
unfolding white tale
told_shape on c cs (low x h) e i = go (is_ascii_white x) refl
  where
    go : (y : Bool) → is_ascii_white x ≡ y → Told on ((x ∷ []) ∷ cs)
    go true w = told_space on (x ∷ []) cs w (tale-white on x (flatten cs) w) (i false)
    go false w = told_char on (x ∷ []) cs w (omega arith) (tale-solid on x (flatten cs) w) (low_step x (tale true (flatten cs)) h) (i true)
told_shape on c cs (high l h) e i =
    let same : hard_spaces c ≡ c = hard_high c h in
    told_char on c cs (high_white c l h) l (tale_high on c (flatten cs) l h ∙ rw same) (rw same (high_step c (flatten cs) l h e)) (i true)

told-all : {cs : List Bytes} → Row (step_of Unicode) cs → (on : Bool) → Told on cs
unfolding tale_chars_of flatten
told-all none on = record { whole = sym (tale-nil on); row = none }
told-all (more {c} {cs} h e r) on = told_shape on c cs (shape_of c (flatten cs) h e) e (told-all r)

-- the characters of a body, and a body from its text's characters
pub tale_chars : (on : Bool) (s : Bytes) → chars_of Unicode (tale on s) ≡ tale_chars_of on (chars_of Unicode s)
tale_chars on s =
    let i : Told on (chars_of Unicode s) = told-all (chars_row Unicode s) on in
    ap (chars_of Unicode) (ap (tale on) (sym (chars_flatten Unicode s)) ∙ sym i.whole) ∙ row_chars Unicode i.row
