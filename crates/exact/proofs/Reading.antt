-- A text as the checker reads it, with what is open, and texts that it never gets past.
use mathlib.Core.Path.{◌≡◌, refl, sym, ap, ◌∙◌}
use mathlib.Core.Bool.{Bool, true, false, cond, not, ◌&&◌, ◌||◌}
use mathlib.Core.List.{List, [], ◌∷◌, ◌++◌}
use Prim.Native.Nat.{ℕ, zero, suc}
use native.Mathlib.Omega.{arith}
use lib.Dec.{eqb}
use borrow.Author.Tests.{ne_eqb}
use Rattle.parts.specs.Bytes.{Bytes}
use Rattle.parts.proofs.Laws.{and-true}
use Rattle.tags.specs.Names.{name_of, IsName}
use Rattle.tags.specs.Form.{Pair, Token, opens, empty}
use Rattle.tags.specs.Write.{write_pair, write_pairs, CleanPairs}
use Rattle.checker.specs.View.{closed, view}
use Rattle.checker.specs.Steps.{Held}
use Rattle.checker.specs.Meaning.{since, Fits}
use Rattle.checker.proofs.Decides.{never}

-- ---- reading

-- `>` or ` />` in front of a text
abbrev pub tailed : Bool → Bytes → Bytes
tailed false r = 62 ∷ r
tailed true r = 32 ∷ 47 ∷ 62 ∷ r

-- an opening tag or one ending in ` />`
abbrev pub tag_of : Bool → ℕ → List Pair → Token
tag_of false n ps = opens n ps
tag_of true n ps = empty n ps

-- a tag in front of a text
abbrev pub tag_in : Bool → ℕ → List Pair → Bytes → Bytes
tag_in e n ps r = 60 ∷ (name_of n ++ write_pairs ps (tailed e r))

-- a text by bytes and tags, where this chapter and this verse are open
pub data Reads : Held → Held → Bytes → Type 0 where
  done : {c v : Held} {s : Bytes} → s ≡ [] → Reads c v s
  byte : {c v : Held} {s : Bytes} (x : ℕ) (r : Bytes) → s ≡ x ∷ r → (x ≡ 60 → ⊥) → (x ≡ 62 → ⊥) → Reads c v r → Reads c v s
  close : {c v : Held} {s : Bytes} (n : ℕ) (r : Bytes) → s ≡ 60 ∷ 47 ∷ (name_of n ++ 62 ∷ r) → IsName n → Fits c v (closed n) → Reads c v r → Reads c v s
  tag : {c v : Held} {s : Bytes} (e : Bool) (n : ℕ) (ps : List Pair) (r : Bytes) → s ≡ tag_in e n ps r → IsName n → CleanPairs ps → Fits c v (view (tag_of e n ps))
      → Reads (since 3 c (view (tag_of e n ps))) (since 4 v (view (tag_of e n ps))) r → Reads c v s

-- ---- what is never read

-- whether some `>` stands in a text before which every `<` has found `=` or `"` before a space: `late` while the last one has not
unfoldable pub stuck : Bool → Bytes → Bool
stuck late [] = false
stuck late (x ∷ s) =
    cond (eqb x 60) (stuck true s)
    (cond (eqb x 34 || eqb x 61) (stuck false s)
    (cond (eqb x 32) (not late && stuck late s) (cond (eqb x 62) (not late || stuck late s) (stuck late s))))

-- a name changes nothing, and nothing of it is a space or a `>`
each_name : (n : ℕ) (r : Bytes) → IsName n → stuck true (name_of n ++ r) ≡ stuck true r
unfolding name_of stuck
each_name zero r h = absurd (omega arith)
each_name (suc zero) r h = refl
each_name (suc (suc zero)) r h = refl
each_name (suc (suc (suc zero))) r h = refl
each_name (suc (suc (suc (suc zero)))) r h = refl
each_name (suc (suc (suc (suc (suc zero))))) r h = refl
each_name (suc (suc (suc (suc (suc (suc zero)))))) r h = refl
each_name (suc (suc (suc (suc (suc (suc (suc zero))))))) r h = refl
each_name (suc (suc (suc (suc (suc (suc (suc (suc zero)))))))) r h = refl
each_name (suc (suc (suc (suc (suc (suc (suc (suc (suc zero))))))))) r h = refl
each_name (suc (suc (suc (suc (suc (suc (suc (suc (suc (suc zero)))))))))) r h = refl
each_name (suc (suc (suc (suc (suc (suc (suc (suc (suc (suc (suc zero))))))))))) r h = refl
each_name (suc (suc (suc (suc (suc (suc (suc (suc (suc (suc (suc (suc zero)))))))))))) r h = refl
each_name (suc (suc (suc (suc (suc (suc (suc (suc (suc (suc (suc (suc (suc zero))))))))))))) r h = refl
each_name (suc (suc (suc (suc (suc (suc (suc (suc (suc (suc (suc (suc (suc (suc zero)))))))))))))) r h = refl
each_name (suc (suc (suc (suc (suc (suc (suc (suc (suc (suc (suc (suc (suc (suc (suc zero))))))))))))))) r h = refl
each_name (suc (suc (suc (suc (suc (suc (suc (suc (suc (suc (suc (suc (suc (suc (suc (suc zero)))))))))))))))) r h = refl
each_name (suc (suc (suc (suc (suc (suc (suc (suc (suc (suc (suc (suc (suc (suc (suc (suc (suc n))))))))))))))))) r h = absurd (omega arith)

-- behind a byte of text it is stuck as well
stuck_on : (late : Bool) (x : ℕ) (s : Bytes) → eqb x 60 ≡ false → eqb x 62 ≡ false → stuck late (x ∷ s) ≡ true
    → (p : Bool) × (stuck p s ≡ true)
unfolding stuck
stuck_on late x s e f h = go (eqb x 34 || eqb x 61) (eqb x 32) (rw (e, f) at h)
  where
    go : (y z : Bool) → cond y (stuck false s) (cond z (not late && stuck late s) (stuck late s)) ≡ true → (p : Bool) × (stuck p s ≡ true)
    go true z h = (false, h)
    go false true h = (late, (and-true (not late) (stuck late s) h).1)
    go false false h = (late, h)

-- a row of attributes that is not empty begins with a space
pairs_space : (p : Pair) (ps : List Pair) (r : Bytes) → stuck true (write_pairs (p ∷ ps) r) ≡ false
unfolding write_pairs write_pair stuck
pairs_space p ps r = refl

-- what is stuck cannot be read
pub never_read : {c v : Held} {s : Bytes} (late : Bool) → stuck late s ≡ true → Reads c v s → ⊥
unfolding stuck write_pairs
never_read late h (done e) = never (sym (ap (stuck late) e) ∙ h)
never_read late h (byte x r e f g z) =
    let on = stuck_on late x r (ne_eqb x 60 f) (ne_eqb x 62 g) (sym (ap (stuck late) e) ∙ h) in
    never_read on.0 on.1 z
never_read late h (close n r e i f z) = never_read true (sym (ap (stuck late) e ∙ each_name n (62 ∷ r) i) ∙ h) z
never_read late h (tag false n [] r e i k f z) = never_read true (sym (ap (stuck late) e ∙ each_name n (62 ∷ r) i) ∙ h) z
never_read late h (tag true n [] r e i k f z) = never (sym (ap (stuck late) e ∙ each_name n (32 ∷ 47 ∷ 62 ∷ r) i) ∙ h)
never_read late h (tag w n (p ∷ ps) r e i k f z) = never (sym (ap (stuck late) e ∙ each_name n (write_pairs (p ∷ ps) (tailed w r)) i ∙ pairs_space p ps (tailed w r)) ∙ h)
