-- An escaped text is character data and references; an escaped value fits between double quotes.
use mathlib.Core.Path.{◌≡◌, refl, subst, sym}
use mathlib.Core.Bool.{Bool, true, false, cond}
use mathlib.Core.List.Memᴰ
use mathlib.Core.List.{[], ◌∷◌, ◌++◌, Memᴰ}
use mathlib.Core.Logic.{◌⊎◌, ⊎_elim}
use Prim.Native.Nat.{ℕ}
use lib.Dec.{eqb}
use borrow.Author.Tests.{eqb-false}
use Rattle.parts.specs.Bytes.{Bytes, b}
use Rattle.chars.specs.Escape.{escaped_byte, escape}
use Rattle.chars.proofs.Escapes.{escape_safe}
use Rattle.xml.specs.Entities.{Entity, lt, gt, amp, quot, predefined, reference}
use Rattle.xml.specs.Productions.{CharData, Content, data_last, data_more, ValueChars, none, a_char, a_reference, AttValue}

-- ---- members of the five

lt_in : Memᴰ lt predefined
lt_in = Memᴰ.head refl

gt_in : Memᴰ gt predefined
gt_in = Memᴰ.tail (Memᴰ.head refl)

amp_in : Memᴰ amp predefined
amp_in = Memᴰ.tail (Memᴰ.tail (Memᴰ.head refl))

quot_in : Memᴰ quot predefined
quot_in = Memᴰ.tail (Memᴰ.tail (Memᴰ.tail (Memᴰ.tail (Memᴰ.head refl))))

-- ---- texts

-- none of < > &
record Plain (s : Bytes) : Type 0 where
  less : Memᴰ 60 s → ⊥
  greater : Memᴰ 62 s → ⊥
  ampersand : Memᴰ 38 s → ⊥

nothing_plain : Plain []
nothing_plain = record { less = Memᴰ.not-nil; greater = Memᴰ.not-nil; ampersand = Memᴰ.not-nil }

more-plain : {s : Bytes} (x : ℕ) → (x ≡ 60 → ⊥) → (x ≡ 62 → ⊥) → (x ≡ 38 → ⊥) → Plain s → Plain (x ∷ s)
more-plain x l g a p =
    record {
      less = λ m. ⊎_elim {C = ⊥} (λ e. l (sym e)) p.less (Memᴰ.cases_cons m);
      greater = λ m. ⊎_elim {C = ⊥} (λ e. g (sym e)) p.greater (Memᴰ.cases_cons m);
      ampersand = λ m. ⊎_elim {C = ⊥} (λ e. a (sym e)) p.ampersand (Memᴰ.cases_cons m);
    }

-- `]]>` holds a `>`
plain_data : {s : Bytes} → Plain s → CharData s
plain_data {s} p =
    record {
      no_tag = p.less;
      no_reference = p.ampersand;
      no_section_end = λ a z e. p.greater (subst (λ (r : Bytes). Memᴰ 62 r) (sym e) (Memᴰ.append_right a (Memᴰ.tail (Memᴰ.tail (Memᴰ.head refl)))));
    }

-- such runs, with references between
data Runs : Bytes → Type 0 where
  run-last : {s : Bytes} → Plain s → Runs s
  run_more : {s r : Bytes} (e : Entity) → Plain s → Memᴰ e predefined → Runs r → Runs (s ++ (reference e ++ r))

runs_content : {s : Bytes} → Runs s → Content s
runs_content (run-last p) = data_last (plain_data p)
runs_content (run_more e p m r) = data_more e (plain_data p) m (runs_content r)

runs_char : {s : Bytes} (x : ℕ) → (x ≡ 60 → ⊥) → (x ≡ 62 → ⊥) → (x ≡ 38 → ⊥) → Runs s → Runs (x ∷ s)
runs_char x l g a (run-last p) = run-last (more-plain x l g a p)
runs_char x l g a (run_more e p m r) = run_more e (more-plain x l g a p) m r

runs_reference : {s : Bytes} (e : Entity) → Memᴰ e predefined → Runs s → Runs (reference e ++ s)
runs_reference e m r = run_more e nothing_plain m r

text_runs : (s : Bytes) → Runs (escape false s)
unfolding escape escaped_byte
text_runs [] = run-last nothing_plain
text_runs (x ∷ s) = go (eqb x 60) (eqb x 62) (eqb x 38) refl refl refl (text_runs s)
  where
    go : (l g a : Bool) → eqb x 60 ≡ l → eqb x 62 ≡ g → eqb x 38 ≡ a → Runs (escape false s)
        → Runs (cond l (b "&lt;") (cond g (b "&gt;") (cond a (b "&amp;") (x ∷ []))) ++ escape false s)
    go true g a e f h r = runs_reference lt lt_in r
    go false true a e f h r = runs_reference gt gt_in r
    go false false true e f h r = runs_reference amp amp_in r
    go false false false e f h r = runs_char x (eqb-false x 60 e) (eqb-false x 62 f) (eqb-false x 38 h) r

-- an escaped text is character data (production 14) and references, as production 43 has them
pub text_content : (s : Bytes) → Content (escape false s)
text_content s = runs_content (text_runs s)

-- `]]>` stands nowhere in an escaped text, within a run or across references
pub text_no_section_end : (s a z : Bytes) → escape false s ≡ a ++ (b "]]>" ++ z) → ⊥
text_no_section_end s a z e =
    (escape_safe false s 62 (subst (λ (r : Bytes). Memᴰ 62 r) (sym e) (Memᴰ.append_right a (Memᴰ.tail (Memᴰ.tail (Memᴰ.head refl)))))).1 refl

-- ---- values

value_chars : (s : Bytes) → ValueChars (escape true s)
unfolding escape escaped_byte
value_chars [] = none
value_chars (x ∷ s) = go (eqb x 60) (eqb x 62) (eqb x 38) (eqb x 34) refl refl refl (value_chars s)
  where
    go : (l g a q : Bool) → eqb x 60 ≡ l → eqb x 38 ≡ a → eqb x 34 ≡ q → ValueChars (escape true s)
        → ValueChars (cond l (b "&lt;") (cond g (b "&gt;") (cond a (b "&amp;") (cond q (b "&quot;") (x ∷ [])))) ++ escape true s)
    go true g a q e f h r = a_reference lt lt_in r
    go false true a q e f h r = a_reference gt gt_in r
    go false false true q e f h r = a_reference amp amp_in r
    go false false false true e f h r = a_reference quot quot_in r
    go false false false false e f h r = a_char x (eqb-false x 60 e) (eqb-false x 38 f) (eqb-false x 34 h) r

-- an escaped value in double quotes is an attribute's value (production 10)
pub value_fits : (s : Bytes) → AttValue (b "\"" ++ (escape true s ++ b "\""))
value_fits s = record { inner = escape true s; quoted = refl; chars = value_chars s }
