-- Words, marker names and book codes hold no space.
use mathlib.Core.Path.{◌≡◌, refl, sym, ap, ◌∙◌, subst}
use mathlib.Core.Bool.{Bool, true, false, not, ◌&&◌}
use mathlib.Core.List.{List, [], ◌∷◌, ◌++◌, flatten, append_assoc}
use Prim.Native.Nat.{ℕ}
use lib.Dec.{eqb}
use borrow.Author.Tests.{eqb-true, not-true}
use Rattle.parts.specs.Bytes.{Bytes}
use Rattle.parts.proofs.Laws.{and-true, or_both}
use Rattle.chars.specs.Utf8.{characters, every, code_of}
use Rattle.chars.specs.Space.{is_white}
use Rattle.chars.proofs.Lists.{all}
use Rattle.words.specs.Words.{step_of, chars_of, solid, white, take_while, drop_while}
use Rattle.words.specs.declared.Set.TheVariants.{Unicode}
use Rattle.words.proofs.Joins.{IsWord, Each, chars_space, space_chars, words_are}
use Rattle.words.proofs.Rows.{Row, row_before}
use Rattle.words.proofs.Runs.{take_drop_while, every_take_while}
use Rattle.words.proofs.Steps.{size_steady, space_white}
use Rattle.words.proofs.Texts.{chars_row, row_chars}
use Rattle.checker.proofs.Decides.{never}
use Rattle.tape.specs.File.{Tape, text_at_of}
use Rattle.tape.specs.Name.{bare, ends_name_of, in_name_of, name_in_of, marker_name}
use Rattle.render.specs.Note.{first_or, first_words, book_code_of}

-- another byte than this
unfoldable pub but : ℕ → ℕ → Bool
but y x = not (eqb x y)

every-behind : (p : Bytes → Bool) (cs ds : List Bytes) → every p (cs ++ ds) ≡ true → every p ds ≡ true
unfolding every
every-behind p [] ds e = e
every-behind p (c ∷ cs) ds e = every-behind p cs ds (and-true (p c) (every p (cs ++ ds)) e).1

-- a text none of whose characters is white space
abbrev pub Solid : Bytes → Type 0
Solid w = every (solid Unicode) (chars_of Unicode w) ≡ true

no_space : (w : Bytes) → Solid w → (a z : Bytes) → w ≡ a ++ 32 ∷ z → ⊥
unfolding every solid
no_space w is a z e =
    let f : chars_of Unicode w ≡ chars_of Unicode a ++ (32 ∷ []) ∷ chars_of Unicode z = ap (chars_of Unicode) e ∙ chars_space Unicode a z ∙ ap (λ (cs : List Bytes). chars_of Unicode a ++ cs) (space_chars Unicode z) in
    let g : every (solid Unicode) ((32 ∷ []) ∷ chars_of Unicode z) ≡ true = every-behind (solid Unicode) (chars_of Unicode a) _ (sym (ap (every (solid Unicode)) f) ∙ is) in
    let h : not (white Unicode (32 ∷ [])) ≡ true = (and-true (not (white Unicode (32 ∷ []))) (every (solid Unicode) (chars_of Unicode z)) g).0 in
    never (sym (ap not (space_white Unicode)) ∙ h)

spaceless : (w : Bytes) → Solid w → (a s : Bytes) → w ≡ a ++ s → all (but 32) s ≡ true
unfolding all but
spaceless w is a [] e = refl
spaceless w is a (x ∷ s) e = go (eqb x 32) refl (spaceless w is (a ++ x ∷ []) s (e ∙ sym (append_assoc a (x ∷ []) s)))
  where
    go : (t : Bool) → eqb x 32 ≡ t → all (but 32) s ≡ true → not (eqb x 32) && all (but 32) s ≡ true
    go true i h = absurd (no_space w is a s (e ∙ ap (λ (y : ℕ). a ++ y ∷ s) (eqb-true x 32 i)))
    go false i h = rw (i, h)

-- it holds no space
pub solid_spaceless : (w : Bytes) → Solid w → all (but 32) w ≡ true
solid_spaceless w is = spaceless w is [] w refl

-- ---- marker names

-- no character of a name is white space
name-solid : (c : Bytes) → in_name_of c ≡ true → solid Unicode c ≡ true
unfolding in_name_of ends_name_of solid white
name-solid c h = rw (or_both (is_white (code_of c)) _ (not-true (ends_name_of (code_of c)) h)).0

every_weaken : (p q : Bytes → Bool) → ((c : Bytes) → p c ≡ true → q c ≡ true) → (cs : List Bytes) → every p cs ≡ true → every q cs ≡ true
unfolding every
every_weaken p q f [] h = refl
every_weaken p q f (c ∷ cs) h =
    let both = and-true (p c) (every p cs) h in
    rw (f c both.0, every_weaken p q f cs both.1)

-- the first characters of a text that pass a test are characters by themselves
first_chars : (p : Bytes → Bool) (s : Bytes) → chars_of Unicode (flatten (take_while p (chars_of Unicode s))) ≡ take_while p (chars_of Unicode s)
first_chars p s =
    let cs : List Bytes = chars_of Unicode s in
    row_chars Unicode (row_before (step_of Unicode) (size_steady Unicode) (take_while p cs) (drop_while p cs) (subst (Row (step_of Unicode)) (sym (take_drop_while p cs)) (chars_row Unicode s)))

name_spaceless : (s : Bytes) → all (but 32) (flatten (take_while in_name_of (chars_of Unicode s))) ≡ true
name_spaceless s =
    let cs : List Bytes = take_while in_name_of (chars_of Unicode s) in
    solid_spaceless (flatten cs)
    (ap (every (solid Unicode)) (first_chars in_name_of s) ∙ every_weaken in_name_of (solid Unicode) name-solid cs (every_take_while in_name_of (chars_of Unicode s)))

pub marker_spaceless : (t : Tape) (k : ℕ) → all (but 32) (marker_name t k) ≡ true
unfolding marker_name name_in_of characters chars_of step_of
marker_spaceless t k = name_spaceless (bare (text_at_of t k))

-- ---- book codes

first_spaceless : (ws : List Bytes) → Each (IsWord Unicode) ws → all (but 32) (first_or [] ws) ≡ true
unfolding first_or all
first_spaceless [] h = refl
first_spaceless (w ∷ ws) h = solid_spaceless w h.0.all_solid

pub code_spaceless : (t : Tape) (k : ℕ) → all (but 32) (book_code_of t k) ≡ true
unfolding book_code_of first_words
code_spaceless t k = first_spaceless _ (words_are Unicode _)
