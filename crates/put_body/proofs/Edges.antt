-- A body trimmed is the body of its text without soft characters at its edges.
use mathlib.Core.Path.{◌≡◌, refl, sym, ap, ◌∙◌}
use mathlib.Core.Bool.{Bool, true, false, cond, ◌&&◌, ◌||◌, or-true}
use mathlib.Core.List.{List, [], ◌∷◌, ◌++◌, flatten}
use Prim.Native.Nat.{ℕ, ◌≤◌, ◌<◌}
use native.Mathlib.Omega.{arith}
use lib.ListN.{length}
use lib.Dec.{eqb, leb}
use borrow.Author.Tests.{eq-eqb, ne_eqb, le-leb, leb-true}
use Rattle.parts.specs.Bytes.{Bytes}
use Rattle.parts.proofs.Laws.{and-true}
use Rattle.chars.specs.Range.{in_any, within}
use Rattle.chars.specs.Space.{is_ascii_white, is_white, white_space}
use Rattle.chars.specs.Utf8.{table37, fits, row_len, seq_len, code_of, is_sequence, point}
use Rattle.words.specs.Words.{step_of, chars_of, white, take_while, drop_while, keep, drop_end, trim}
use Rattle.words.specs.declared.Set.TheVariants.{Ascii, Unicode}
use Rattle.words.proofs.Rows.{Row, none, more}
use Rattle.words.proofs.Runs.{take_drop_while, end_split}
use Rattle.words.proofs.Steps.{space_white}
use Rattle.words.proofs.Texts.{chars_flatten, chars_row, half_before, half_behind}
use Rattle.texts.specs.Text.{hard_spaces, body_of}
use Rattle.texts.proofs.Texts.{by_tilde, hard_tilde, hard-other}
use Rattle.texts.proofs.Segments.{trim_chars}
use Rattle.put_body.specs.Edge.{soft, core_end_of, core_of}
use Rattle.put_body.proofs.Characters.{tale, High, high_solid, hard_high, Shape, low, high, shape_of, spaced_if, tale_chars_of, tale_chars}

-- ---- soft characters

-- a character that is soft exactly where the body has white space for it; ASCII white space is
record Fine (c : Bytes) : Type 0 where
  tidy : white Unicode (hard_spaces c) ≡ soft c
  blank : white Ascii c ≡ true → soft c ≡ true

abbrev AllFine : List Bytes → Type 0
AllFine [] = Unit {0}
AllFine (c ∷ cs) = Fine c × AllFine cs

low_code : (x : ℕ) → x < 128 → code_of (x ∷ []) ≡ x
unfolding code_of is_sequence seq_len row_len table37 fits within point
low_code x h = rw (le-leb 0 x (omega arith), le-leb x 127 (omega arith))

-- ASCII white space is Unicode's too
ascii_white : (x : ℕ) → is_ascii_white x ≡ true → is_white x ≡ true
unfolding is_ascii_white is_white white_space in_any within
ascii_white x e = go (leb 9 x && leb x 10) refl (leb 12 x && leb x 13) refl (leb 32 x && leb x 32) refl e
  where
    few : 9 ≤ x → x ≤ 13 → is_white x ≡ true
    few h l = rw (le-leb 9 x h, le-leb x 13 l)

    go : (p : Bool) → leb 9 x && leb x 10 ≡ p → (q : Bool) → leb 12 x && leb x 13 ≡ q → (r : Bool) → leb 32 x && leb x 32 ≡ r
        → p || (q || (r || false)) ≡ true → is_white x ≡ true
    go true p q eq r er e =
        let h = and-true (leb 9 x) (leb x 10) p in
        few (leb-true 9 x h.0) (omega (arith, leb-true x 10 h.1))
    go false p true q r er e =
        let h = and-true (leb 12 x) (leb x 13) q in
        few (omega (arith, leb-true 12 x h.0)) (leb-true x 13 h.1)
    go false p false q true er e = rw er (or-true (leb 9 x && leb x 13))
    go false p false q false er e = absurd (let no_way : ◌≡◌ {A = ℕ} 0 1 = cc in omega arith)

hard-white : white Unicode (194 ∷ 160 ∷ []) ≡ true
unfolding white is_white white_space in_any within code_of is_sequence seq_len table37 row_len fits point
hard-white = refl

blank_white : (x : ℕ) → x < 128 → white Ascii (x ∷ []) ≡ true → white Unicode (x ∷ []) ≡ true
unfolding white
blank_white x h e = rw (low_code x h) (ascii_white x e)

fine_low : (x : ℕ) → x < 128 → Fine (x ∷ [])
unfolding soft hard_spaces
fine_low x h = record {
  tidy = by_tilde x (λ e. rw (hard_tilde x [] e, eq-eqb x 126 e) hard-white) (λ n. rw (hard-other x [] n, ne_eqb x 126 n));
  blank = λ e. rw (blank_white x h e) (or-true (eqb x 126));
}

fine_high : (c : Bytes) → 0 < length c → High c → Fine c
unfolding soft white
fine_high [] l h = absurd (omega arith)
fine_high (x ∷ c) l h = record {
  tidy = rw (hard_high (x ∷ c) h, ne_eqb x 126 (λ e. omega (arith, h.0)));
  blank = λ e. absurd (let no_way : ◌≡◌ {A = ℕ} 0 1 = cc (high_solid x h.0) in omega arith);
}

fine_of : (c t : Bytes) → 0 < length c → step_of Unicode (c ++ t) ≡ length c → Fine c
fine_of c t l e = go c (shape_of c t l e)
  where
    go : (c : Bytes) → Shape c → Fine c
    go c (low x h) = fine_low x h
    go c (high l h) = fine_high c l h

all_fine : {cs : List Bytes} → Row (step_of Unicode) cs → AllFine cs
all_fine none = tt
all_fine (more {c} {cs} h e r) = (fine_of c (flatten cs) h e, all_fine r)

drop_fine : (cs : List Bytes) → AllFine cs → AllFine (drop_while soft cs)
unfolding drop_while
drop_fine [] f = tt
drop_fine (c ∷ cs) f = go (soft c) (drop_fine cs f.1)
  where
    go : (y : Bool) → AllFine (drop_while soft cs) → AllFine (cond y (drop_while soft cs) (c ∷ cs))
    go true h = h
    go false h = f

-- ---- the front

abbrev W : Bytes → Bool
W c = white Unicode c

space_front : (on : Bool) (ds : List Bytes) → drop_while W (spaced_if on ds) ≡ drop_while W ds
unfolding spaced_if drop_while
space_front false ds = refl
space_front true [] = refl
space_front true (d ∷ ds) = rw (space_white Unicode)

front_trim : (on : Bool) (cs : List Bytes) → AllFine cs → drop_while W (tale_chars_of on cs) ≡ tale_chars_of false (drop_while soft cs)
unfolding tale_chars_of drop_while
front_trim on [] f = refl
front_trim on (c ∷ cs) f = go (white Ascii c) refl (soft c) refl (λ on. front_trim on cs f.1)
  where
    go : (y : Bool) → white Ascii c ≡ y → (z : Bool) → soft c ≡ z → ((on : Bool) → drop_while W (tale_chars_of on cs) ≡ tale_chars_of false (drop_while soft cs))
        → drop_while W (cond y (spaced_if on (tale_chars_of false cs)) (hard_spaces c ∷ tale_chars_of true cs)) ≡ tale_chars_of false (cond z (drop_while soft cs) (c ∷ cs))
    go true ey true ez later = space_front on (tale_chars_of false cs) ∙ later false
    go true ey false ez later = absurd (let no_way : ◌≡◌ {A = ℕ} 0 1 = cc (f.0.blank ey) in omega arith)
    go false ey true ez later = rw (f.0.tidy, ez) (later true)
    go false ey false ez later = rw (f.0.tidy, ez, ey)

-- ---- the end

space_end : (on : Bool) (ds : List Bytes) → drop_end W (spaced_if on ds) ≡ spaced_if on (drop_end W ds)
unfolding spaced_if drop_end keep
space_end false ds = refl
space_end true [] = refl
space_end true (d ∷ ds) = go (keep W d (drop_end W ds))
  where
    go : (es : List Bytes) → keep W (32 ∷ []) es ≡ spaced_if true es
    go [] = rw (space_white Unicode)
    go (e ∷ es) = refl

spaced-none : (on : Bool) (ds : List Bytes) → spaced_if on ds ≡ [] → ds ≡ []
unfolding spaced_if
spaced-none false ds e = e
spaced-none true [] e = refl
spaced-none true (d ∷ ds) e = absurd (let no_way : ◌≡◌ {A = ℕ} 0 1 = cc in omega arith)

-- what is left ends with a character that is not soft, and so has a body
end_some : (on : Bool) (cs : List Bytes) → AllFine cs → tale_chars_of on (drop_end soft cs) ≡ [] → drop_end soft cs ≡ []
unfolding tale_chars_of drop_end keep
end_some on [] f e = refl
end_some on (c ∷ cs) f e = go (drop_end soft cs) (soft c) refl e (end_some false cs f.1)
  where
    alone : white Ascii c ≡ false → tale_chars_of on (c ∷ []) ≡ [] → ⊥
    alone ey e = let no_way : ◌≡◌ {A = ℕ} 0 1 = cc (sym (alone_is ey) ∙ e) in omega arith
      where
        alone_is : white Ascii c ≡ false → tale_chars_of on (c ∷ []) ≡ hard_spaces c ∷ []
        alone_is ey = rw ey

    solid : (y : Bool) → white Ascii c ≡ y → soft c ≡ false → y ≡ false
    solid true ey ez = absurd (let no_way : ◌≡◌ {A = ℕ} 0 1 = cc (f.0.blank ey) in omega arith)
    solid false ey ez = refl

    longer : (d : Bytes) (ds : List Bytes) (y : Bool) → cond y (spaced_if on (tale_chars_of false (d ∷ ds))) (hard_spaces c ∷ tale_chars_of true (d ∷ ds)) ≡ []
        → (tale_chars_of false (d ∷ ds) ≡ [] → d ∷ ds ≡ []) → c ∷ d ∷ ds ≡ []
    longer d ds true e later = absurd (let no_way : ◌≡◌ {A = ℕ} 0 1 = cc (later (spaced-none on (tale_chars_of false (d ∷ ds)) e)) in omega arith)
    longer d ds false e later = absurd (let no_way : ◌≡◌ {A = ℕ} 0 1 = cc in omega arith)

    go : (ds : List Bytes) (z : Bool) → soft c ≡ z → tale_chars_of on (keep soft c ds) ≡ [] → (tale_chars_of false ds ≡ [] → ds ≡ []) → keep soft c ds ≡ []
    go [] true ez e later = rw ez
    go [] false ez e later = absurd (alone (solid (white Ascii c) refl ez) (rw ez at e))
    go (d ∷ ds) z ez e later = longer d ds (white Ascii c) e later

keep_some : (p : Bytes → Bool) (c : Bytes) (es : List Bytes) → (es ≡ [] → ⊥) → keep p c es ≡ c ∷ es
unfolding keep
keep_some p c [] h = absurd (h refl)
keep_some p c (e ∷ es) h = refl

end_trim : (on : Bool) (cs : List Bytes) → AllFine cs → drop_end W (tale_chars_of on cs) ≡ tale_chars_of on (drop_end soft cs)
unfolding tale_chars_of drop_end keep spaced_if
end_trim on [] f = refl
end_trim on (c ∷ cs) f = go (white Ascii c) refl (drop_end soft cs) refl (λ on. end_trim on cs f.1)
  where
    behind : (ds : List Bytes) → white Ascii c ≡ true → spaced_if on (tale_chars_of false ds) ≡ tale_chars_of on (keep soft c ds)
    behind [] ey = rw (f.0.blank ey) (nothing on)
      where
        nothing : (on : Bool) → spaced_if on [] ≡ []
        nothing true = refl
        nothing false = refl
    behind (d ∷ ds) ey = rw ey

    last : (z : Bool) → soft c ≡ z → white Ascii c ≡ false → keep W (hard_spaces c) [] ≡ tale_chars_of on (keep soft c [])
    last true ez ey = rw (f.0.tidy, ez)
    last false ez ey = rw (f.0.tidy, ez, ey)

    before : (ds : List Bytes) → drop_end soft cs ≡ ds → white Ascii c ≡ false → keep W (hard_spaces c) (tale_chars_of true ds) ≡ tale_chars_of on (keep soft c ds)
    before [] ed ey = last (soft c) refl ey
    before (d ∷ ds) ed ey =
        keep_some W (hard_spaces c) (tale_chars_of true (d ∷ ds)) (λ h. let no_way : ◌≡◌ {A = ℕ} 0 1 = cc (end_some true cs f.1 (rw ed h)) in omega arith)
        ∙ rw ey

    go : (y : Bool) → white Ascii c ≡ y → (ds : List Bytes) → drop_end soft cs ≡ ds → ((on : Bool) → drop_end W (tale_chars_of on cs) ≡ tale_chars_of on (drop_end soft cs))
        → drop_end W (cond y (spaced_if on (tale_chars_of false cs)) (hard_spaces c ∷ tale_chars_of true cs)) ≡ tale_chars_of on (keep soft c (drop_end soft cs))
    go true ey ds ed later = space_end on (tale_chars_of false cs) ∙ ap (spaced_if on) (later false) ∙ behind (drop_end soft cs) ey
    go false ey ds ed later = ap (keep W (hard_spaces c)) (later true) ∙ before (drop_end soft cs) refl ey

-- ---- the core of a text

body_chars : (s : Bytes) → chars_of Unicode (body_of s) ≡ tale_chars_of false (chars_of Unicode s)
unfolding tale
body_chars s = tale_chars false s

module _ (s : Bytes) where
  start_chars : chars_of Unicode (flatten (drop_while soft (chars_of Unicode s))) ≡ drop_while soft (chars_of Unicode s)
  start_chars =
      half_behind Unicode s (take_while soft (chars_of Unicode s)) (drop_while soft (chars_of Unicode s)) (take_drop_while soft (chars_of Unicode s))

  core_chars : chars_of Unicode (core_of s) ≡ drop_end soft (drop_while soft (chars_of Unicode s))
  unfolding core_of core_end_of
  core_chars =
      let ds : List Bytes = drop_while soft (chars_of Unicode s) in
      let (es, e, w) = end_split soft ds in
      rw start_chars (half_before Unicode (flatten ds) (drop_end soft ds) es (e ∙ sym start_chars))

  -- what is trimmed off a body stands at the edges of its text: white space of Unicode, and `~`
  pub trim-body : trim Unicode (body_of s) ≡ body_of (core_of s)
  trim-body =
      let ds : List Bytes = drop_while soft (chars_of Unicode s) in
      let fine : AllFine (chars_of Unicode s) = all_fine (chars_row Unicode s) in
      trim_chars (body_of s)
      ∙ rw (body_chars s, front_trim false (chars_of Unicode s) fine, end_trim false ds (drop_fine (chars_of Unicode s) fine))
      (sym (sym (chars_flatten Unicode (body_of (core_of s))) ∙ ap flatten (body_chars (core_of s) ∙ ap (tale_chars_of false) core_chars)))
