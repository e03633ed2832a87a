-- Refusal 5: each answer of the functions on labels, from the tests that led there.
use mathlib.Core.Path.{◌≡◌, refl, sym, ap, subst, ◌∙◌}
use mathlib.Core.Bool.{Bool, true, false, not}
use mathlib.Core.List.{List}
use mathlib.Core.Logic.{◌↔◌}
use Prim.Native.Nat.{ℕ, ◌+◌, ◌-◌, ◌≤◌, ◌<◌}
use native.Mathlib.Omega.{arith}
use lib.ListN.{length, take, drop, length-take, length-drop}
use lib.Seq.{get_or-take, length-take-le}
use lib.Dec.{ltb}
use borrow.Author.Tests.{ne_eqb, lt-ltb, ltb-true, ltb-false, not-false}
use Rattle.parts.specs.Bytes.{Bytes, part}
use Rattle.chars.specs.Utf8.{characters, is_boundary}
use Rattle.words.specs.Words.{words}
use Rattle.words.specs.declared.Set.TheVariants.{Unicode}
use Rattle.tape.specs.File.{tape_in, node_at, text_at_of, info_at, base_len}
use Rattle.tape.specs.Name.{bare, name_len, name_in_of, marker_name}
use Rattle.tape.specs.declared.Node.{Node}
use Rattle.tape.specs.declared.Sections.{Sections}
use Rattle.tape.specs.declared.Cursor.{Cursor}
use Rattle.tape.proofs.NameRule.{name_of}
use Rattle.source_index.specs.Seek.{Right, solid_at, to_word}
use Rattle.source_index.specs.declared.Test.TheVariants.{Ender, Gap}
use Rattle.source_index.proofs.Runs.{name-le}
use Rattle.source_index.proofs.Spans.{span-name, span-words, bare-span, bare-le, solid-bare}
use Rattle.nest.proofs.Tape.{yes_is, clash}
use Rattle.admit.specs.Rules.{LabelCut}
use Rattle.admit.specs.Pieces.{SoundNode, GoodLabel, GoodVerse, Tables}

-- ---- the label's cut

-- a place inside a front part of a text is a boundary of the one where it is one of the other
front_boundary : (m : ℕ) (s : Bytes) (at : ℕ) → at < length (take m s) → is_boundary (take m s) at ≡ is_boundary s at
unfolding is_boundary
front_boundary m s at h =
    let l : at < length s = omega (arith, length-take m s) in
    let i : at < m = omega (arith, length-take m s) in
    rw (ne_eqb at (length (take m s)) (λ e. omega arith), ne_eqb at (length s) (λ e. omega arith), lt-ltb _ _ h, lt-ltb _ _ l, get_or-take)

name_boundary : (s : Bytes) (at : ℕ) → at < length (name_in_of s) → is_boundary (name_in_of s) at ≡ is_boundary (bare s) at
name_boundary s at h =
    let e : take (name_len (bare s)) (bare s) ≡ name_in_of s = name_of s refl refl refl in
    sym (ap (λ (x : Bytes). is_boundary x at) e) ∙ front_boundary (name_len (bare s)) (bare s) at (rw e h)

pub bare-fits : (text : Bytes) {name : Bytes} → name ≡ bare text → length name ≤ length text
bare-fits text e = omega (arith, ap length e, bare-le text)

name_long : (s : Bytes) → length (name_in_of s) ≡ name_len (bare s)
unfolding name_in_of name_len
name_long s = refl

module _ (c : Sections) (file : Bytes) (k : ℕ) {z : Cursor} {base : ℕ} (ez : z.at ≡ k) (base-at : base ≡ base_len (info_at (tape_in c file) z.at)) where
  base_is : base ≡ base_len (info_at (tape_in c file) k)
  base_is = rw ez at base-at

  module _ {text name : Bytes} {b : Bool} (text_at : text ≡ text_at_of (tape_in c file) z.at) (en : name ≡ bare text) (ec : b ≡ is_boundary name base) where
    et : text ≡ text_at_of (tape_in c file) k
    et = rw ez at text_at

    name_is : name ≡ bare (text_at_of (tape_in c file) k)
    name_is = en ∙ ap bare et

    cut_is : LabelCut (tape_in c file) k → is_boundary (marker_name (tape_in c file) k) (base_len (info_at (tape_in c file) k)) ≡ b
    unfolding marker_name
    cut_is l =
        name_boundary (text_at_of (tape_in c file) k) (base_len (info_at (tape_in c file) k)) l.longer
        ∙ sym (ap (λ (x : Bytes). is_boundary x (base_len (info_at (tape_in c file) k))) name_is)
        ∙ sym (ap (is_boundary name) base_is)
        ∙ sym ec

    pub label_clear : {enders gaps : List ℕ} → b ≡ true → Tables (tape_in c file).source enders gaps → SoundNode (tape_in c file) k → (true ≡ true) ↔ GoodLabel (tape_in c file) k
    label_clear h t g = yes_is (λ l. cut_is l ∙ h)

    pub clear_verse : b ≡ true → GoodVerse (tape_in c file) k
    clear_verse e v l = cut_is l ∙ e

    name-fits : length name ≤ length text
    name-fits = bare-fits text en

    name_long_is : length (marker_name (tape_in c file) k) ≡ name_len name
    unfolding marker_name
    name_long_is = name_long (text_at_of (tape_in c file) k) ∙ sym (ap name_len name_is)

    pub label_past : {enders gaps : List ℕ} → b ≡ false → length name ≤ base → Tables (tape_in c file).source enders gaps → SoundNode (tape_in c file) k
        → (true ≡ true) ↔ GoodLabel (tape_in c file) k
    label_past e h t g = yes_is (λ l. absurd (omega (arith, l.longer, name_long_is, name-le name, base_is)))

    module _ {s : Bytes} {n : Node} {a : ℕ} {enders gaps : List ℕ} {p : Bool} (cb : b ≡ false) (cl : base < length name)
        (es : s ≡ (tape_in c file).source) (er : n ≡ node_at (tape_in c file) k) (ea : a ≡ n.start)
        (ep : Right Ender s enders → a + (length text - length name) ≤ length s → p ≡ ltb base (name_len (drop (a + (length text - length name)) s)))
        (t : Tables (tape_in c file).source enders gaps) (g : SoundNode (tape_in c file) k) where
      abbrev len : ℕ
      len = (node_at (tape_in c file) k).len

      a_is : a ≡ (node_at (tape_in c file) k).start
      a_is = ea ∙ ap (λ (m : Node). m.start) er

      inside : a + len ≤ length s
      inside = omega (arith, g.inside, ap length es, a_is)

      end : is_boundary s (a + len) ≡ true
      end = ap (λ (x : Bytes). is_boundary x (a + len)) es ∙ ap (λ (z : ℕ). is_boundary (tape_in c file).source (z + len)) a_is ∙ g.end

      text_is : text ≡ part s a len
      unfolding text_at_of
      text_is = et ∙ sym (ap (λ (x : Bytes). part x a len) es ∙ ap (λ (z : ℕ). part (tape_in c file).source z len) a_is)

      text-len : length text ≡ len
      text-len = ap length text_is ∙ length-take-le len (drop a s) (omega (arith, inside, length-drop a s))

      abbrev j : ℕ
      j = length text - length name

      span : name ≡ part s (a + j) (len - j)
      span =
          let e : j ≡ len - length (bare (part s a len)) = omega (arith, text-len, ap length (en ∙ ap bare text_is)) in
          en ∙ ap bare text_is ∙ bare-span s a len inside j e

      asked : p ≡ ltb base (length (marker_name (tape_in c file) k))
      asked =
          let fit : (a + j) + (len - j) ≡ a + len = omega (arith, name-fits, text-len) in
          let e : is_boundary s ((a + j) + (len - j)) ≡ true = rw fit end in
          let i : (a + j) + (len - j) ≤ length s = omega (arith, inside) in
          let m : base < len - j = omega (arith, text-len, name-fits) in
          ep (subst (λ (x : Bytes). Right Ender x enders) (sym es) t.names) (omega (arith, inside, text-len))
          ∙ span-name s (a + j) (len - j) i e base m
          ∙ sym (ap (λ (x : Bytes). ltb base (name_len x)) span)
          ∙ sym (ap (ltb base) name_long_is)

      short_yes : p ≡ false → (true ≡ true) ↔ GoodLabel (tape_in c file) k
      short_yes h = yes_is (λ l. absurd (omega (arith, l.longer, ltb-false base (length (marker_name (tape_in c file) k)) (sym asked ∙ h), base_is)))

      word_is : {e : ℕ} {r : Bool} → p ≡ true → e ≡ n.len
          → (Right Gap s gaps → a ≤ length s → r ≡ ltb (a + to_word false (characters (drop a s))) (a + e))
          → (r ≡ true) ↔ GoodLabel (tape_in c file) k
      word_is {e} {r} h ee f = (
        λ q l. absurd (clash q (single.1 (rw text_here at l.single))),
        λ w. not-false r (yes w),
      )
        where
          longer : base < length (marker_name (tape_in c file) k)
          longer = ltb-true _ _ (sym asked ∙ h)

          text_here : text_at_of (tape_in c file) k ≡ part s a len
          text_here = sym et ∙ text_is

          e_is : e ≡ len
          e_is = ee ∙ ap (λ (m : Node). m.len) er

          solid : solid_at (part s a len) ≡ true
          solid = ap solid_at (sym text_is) ∙ solid-bare text (omega (arith, longer, name_long_is, ap name_len en))

          answer : r ≡ ltb (a + to_word false (characters (drop a s))) (a + len)
          answer = f (subst (λ (x : Bytes). Right Gap x gaps) (sym es) t.words) (omega (arith, inside)) ∙ ap (λ (z : ℕ). ltb (a + to_word false (characters (drop a s))) (a + z)) e_is

          single : (r ≡ false) ↔ (length (words Unicode (part s a len)) ≤ 1)
          single = span-words s a len inside end solid answer

          yes : GoodLabel (tape_in c file) k → not r ≡ false
          yes w = go r refl
            where
              go : (z : Bool) → r ≡ z → not z ≡ false
              go true q = refl
              go false q =
                  let l : LabelCut (tape_in c file) k =
                  record { single = rw text_here (single.0 q); longer = omega (arith, longer, base_is) } in
                  absurd (clash (w l) (cut_is l ∙ cb))

    module _ {s : Bytes} {n : Node} {a : ℕ} {enders gaps : List ℕ} {p : Bool} (cb : b ≡ false) (cl : base < length name) (es : s ≡ (tape_in c file).source)
        (er : n ≡ node_at (tape_in c file) k) (ea : a ≡ n.start)
        (ep : Right Ender s enders → a + (length text - length name) ≤ length s → p ≡ ltb base (name_len (drop (a + (length text - length name)) s))) where
      pub label_short : p ≡ false → Tables (tape_in c file).source enders gaps → SoundNode (tape_in c file) k → (not p ≡ true) ↔ GoodLabel (tape_in c file) k
      label_short h t g = let yes : (true ≡ true) ↔ GoodLabel (tape_in c file) k = short_yes cb cl es er ea ep t g h in rw h yes

      pub label_word : {e : ℕ} {r : Bool} → p ≡ true → e ≡ n.len
          → (Right Gap s gaps → a ≤ length s → r ≡ ltb (a + to_word false (characters (drop a s))) (a + e))
          → Tables (tape_in c file).source enders gaps → SoundNode (tape_in c file) k → (r ≡ true) ↔ GoodLabel (tape_in c file) k
      label_word h ee f t g = word_is cb cl es er ea ep t g h ee f
