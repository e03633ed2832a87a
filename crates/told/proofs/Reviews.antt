-- What the calls about a finished text and about names leave, from what their parts ensure.
use mathlib.Core.Path.{◌≡◌, refl, sym, ap, ◌∙◌}
use mathlib.Core.List.{List}
use Prim.Native.Nat.{ℕ}
use native.Mathlib.Omega.{arith}
use lib.ListN.{set}
use Rattle.parts.specs.Bytes.{Bytes}
use Rattle.words.specs.declared.Part.{Part}
use Rattle.tape.specs.File.{tape_of}
use Rattle.checker.specs.declared.Verdict.{Verdict}
use Rattle.checker.specs.declared.Verdict.TheVariants.{Accepted, NotTags, TooHigh, NoTree, BadMarks}
use Rattle.checker.specs.Answer.{answer_of}
use Rattle.checker.specs.Words.{Judged}
use Rattle.checker.specs.Place.{broken_place, line_of}
use Rattle.names.specs.declared.What.{What}
use Rattle.names.specs.declared.Found.{Found}
use Rattle.names.specs.declared.Found.TheVariants.{Refused, Kept, Broken}
use Rattle.names.specs.Finding.{Finds}
use Rattle.told.specs.Told.{of_refused_of, place_told, line_told, Checked, what_number, name_in_of, none_in_of, found_number, found_in, Named}

-- ---- a finished text

of_accepted : (v : Verdict) (x : ℕ) → (answer_of v).number ≡ 0 → 0 ≡ of_refused_of v x
unfolding answer_of of_refused_of
of_accepted (Accepted c w) x e = refl
of_accepted NotTags x e = absurd (omega (arith, e))
of_accepted TooHigh x e = absurd (omega (arith, e))
of_accepted NoTree x e = absurd (omega (arith, e))
of_accepted BadMarks x e = absurd (omega (arith, e))

of_refused : (v : Verdict) (x : ℕ) → ((answer_of v).number ≡ 0 → ⊥) → x ≡ of_refused_of v x
unfolding answer_of of_refused_of
of_refused (Accepted c w) x h = absurd (h refl)
of_refused NotTags x h = refl
of_refused TooHigh x h = refl
of_refused NoTree x h = refl
of_refused BadMarks x h = refl

module _ (text : Bytes) (v : Verdict) {n : ℕ} (e : n ≡ (answer_of v).number) where
  pub no_place : n ≡ 0 → 0 ≡ place_told v text
  unfolding place_told
  no_place z = of_accepted v (broken_place v text) (sym e ∙ z)

  pub a_place : (n ≡ 0 → ⊥) → {r : ℕ} → r ≡ broken_place v text → r ≡ place_told v text
  unfolding place_told
  a_place h i = i ∙ of_refused v (broken_place v text) (λ z. h (e ∙ z))

  pub no_line : (at : ℕ) → n ≡ 0 → 0 ≡ line_told v text at
  unfolding line_told
  no_line at z = of_accepted v (line_of text at) (sym e ∙ z)

  pub a_line : (at : ℕ) → (n ≡ 0 → ⊥) → {r : ℕ} → r ≡ line_of text at → r ≡ line_told v text at
  unfolding line_told
  a_line at h i = i ∙ of_refused v (line_of text at) (λ z. h (e ∙ z))

module _ (text : Bytes) (v : Verdict) (j : Judged text (answer_of v)) {before a b c after : List ℕ} where
  pub checked_told : {number chapters verses at line : ℕ}
      → at ≡ place_told v text
      → chapters ≡ (answer_of v).chapters
      → a ≡ set before 0 chapters
      → verses ≡ (answer_of v).verses
      → b ≡ set a 1 verses
      → c ≡ set b 2 at
      → line ≡ line_told v text at
      → after ≡ set c 3 line
      → number ≡ (answer_of v).number
      → Checked text before number after
  checked_told {number} {chapters} {verses} {at} {line} ep ec ea ev eb ei el eo en =
      record {
        verdict = v;
        judged = j;
        answer = en;
        told =
            eo
            ∙ (λ k. set (ei k) 3 (el k))
            ∙ (λ k. set (set (eb k) 2 (ep k)) 3 (line_told v text (ep k)))
            ∙ (λ k. set (set (set (ea k) 1 (ev k)) 2 (place_told v text)) 3 (line_told v text (place_told v text)))
            ∙ (λ k. set (set (set (set before 0 (ec k)) 1 (answer_of v).verses) 2 (place_told v text)) 3 (line_told v text (place_told v text)));
      }

-- ---- names

module _ {file : Bytes} {f : Found} (h : Finds file f) {before after : List ℕ} where
  named : (g : Found) → f ≡ g → {number : ℕ} → number ≡ found_number g → after ≡ found_in file before g → Named file before number after
  named g i en ea =
      record {
        found = f;
        finds = h;
        answer = en ∙ ap found_number (sym i);
        told = ea ∙ ap (found_in file before) (sym i);
      }

  pub refused-named : {n number : ℕ} → f ≡ Refused n → after ≡ none_in_of before → number ≡ n → Named file before number after
  unfolding found_number found_in
  refused-named {n} i ea en = named (Refused n) i en ea

  pub kept_named : f ≡ Kept → after ≡ none_in_of before → Named file before 0 after
  unfolding found_number found_in
  kept_named i ea = named Kept i refl ea

  pub broken-named : {node what at line : ℕ} {w : What} {p : Part}
      → f ≡ Broken node w p
      → line ≡ line_of (tape_of file).source p.start
      → what ≡ what_number w
      → at ≡ node
      → after ≡ name_in_of before what at p line
      → Named file before 0 after
  unfolding found_number found_in
  broken-named {node} {what} {at} {line} {w} {p} i el ew ek ea = named (Broken node w p) i refl (ea ∙ (λ k. name_in_of before (ew k) (ek k) p (el k)))
