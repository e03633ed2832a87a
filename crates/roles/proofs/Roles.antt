-- What a MarkerOpen is written as, from what was read.
use mathlib.Core.Path.{◌≡◌, refl, sym, ap, ◌∙◌}
use mathlib.Core.Bool.{Bool, true, false, not, cond, and-false, or-true}
use mathlib.Core.List.{[], ◌∷◌}
use mathlib.Core.Option.{Option}
use Prim.Native.Nat.{ℕ, ◌≤◌, ◌<◌}
use native.Mathlib.Omega.{arith}
use lib.ListN.{length, take, drop, length-take, length-drop}
use lib.Dec.{leb}
use borrow.Author.Tests.{leb-true, ne_eqb, not-true}
use Rattle.parts.specs.Bytes.{Bytes, b, same, begins}
use Rattle.parts.proofs.Laws.{same_short}
use Rattle.tape.specs.File.{Tape, text_at_of, info_at, entry_name, is_nested}
use Rattle.tape.specs.Tree.{first_child, walk_from, children, found}
use Rattle.tape.specs.Name.{strip, bare, name_len, name_in_of, marker_name}
use Rattle.tape.specs.declared.Entry.{Entry}
use Rattle.tape.specs.Found.{Info}
use Rattle.tape.specs.Found.{Step}
use Rattle.std.specs.Prelude.{None, Some}
use Rattle.tape.proofs.NameRule.{name_of}
use Rattle.tape.proofs.Walk.{none_is, children_walk}
use Rattle.render.specs.First.{first_with, any}
use Rattle.render.specs.Shape.{unknown_shape_of, is_open, is_verse_of, is_text, is_inline_of, inline_marker, inline_category}
use Rattle.render.specs.declared.shape.Shape.{Shape}
use Rattle.attrs.specs.Attr.{attributes_of}
use Rattle.attrs.specs.Walk.{first_of, sought_of}
use Rattle.figure.specs.Figure.{legacy_at}
use Rattle.events.specs.Walk.{Role as Written, char, role_of, role_by, role_of_shape, role_of_category, is_ref, can_link, link_of}
use Rattle.roles.specs.declared.Role.{Role}
use Rattle.roles.specs.declared.Role.TheVariants.{Unwritten, Figure, Ref, Id, Char, Para}
use Rattle.roles.specs.Roles.{role_in, role_of_entry, is_whole}

-- ---- by the entry behind the names that decide

module _ (code : ℕ) (name : Bytes) where
  pub entry-id : {x : Bool} → code ≡ 0 → x ≡ same name (b "id") → x ≡ true → role_in Id ≡ role_of_entry code name
  unfolding role_in role_of_entry
  entry-id h ex x = rw (h, ← ex, x)

  pub entry-identification : {x : Bool} → code ≡ 0 → x ≡ same name (b "id") → x ≡ false → role_in Para ≡ role_of_entry code name
  unfolding role_in role_of_entry role_of_category
  entry-identification h ex x = rw (h, ← ex, x)

  pub entry_other : {r : Written} → (code ≡ 0 → ⊥) → r ≡ role_of_category code → r ≡ role_of_entry code name
  unfolding role_of_entry
  entry_other h er = rw (ne_eqb code 0 h) er

-- ---- names and lengths

not-le : (m n : ℕ) → n < m → leb m n ≡ false
not-le m n h = go (leb m n) refl
  where
    go : (y : Bool) → leb m n ≡ y → leb m n ≡ false
    go true e = absurd (omega (arith, leb-true m n e))
    go false e = e

-- an entry's name is at most as long as the entry says
pub entry_short : (t : Tape) (e : Entry) (name : Bytes) {n : ℕ} → n ≡ e.len → n < length name → leb (length name) n ≡ same (entry_name t e) name
unfolding entry_name
entry_short t e name {n = n} en h =
    not-le (length name) n h ∙ same_short (entry_name t e) name (λ q. omega (arith, length-take e.len (drop e.start t.names)))

pub entry-same : (t : Tape) (e : Entry) (name : Bytes) {s : Bytes} {x : Bool} → s ≡ entry_name t e → x ≡ same s name → x ≡ same (entry_name t e) name
entry-same t e name es ex = ex ∙ rw es

strip-le : (x : ℕ) (s : Bytes) → length (strip x s) ≤ length s
unfolding strip
strip-le x s = go (begins (x ∷ []) s)
  where
    go : (y : Bool) → length (cond y (drop 1 s) s) ≤ length s
    go true = omega (arith, length-drop 1 s)
    go false = omega arith

-- the name in a text is at most as long as the text
name-le : (s : Bytes) → length (name_in_of s) ≤ length s
unfolding bare
name-le s =
    let e : take (name_len (bare s)) (bare s) ≡ name_in_of s = name_of s refl refl refl in
    omega (arith, ap length e, length-take (name_len (bare s)) (bare s), strip-le 43 (strip 92 s), strip-le 92 s)

module _ (t : Tape) (k : ℕ) {s : Bytes} (es : s ≡ text_at_of t k) where
  pub name_short : length s < 3 → leb 3 (length s) ≡ same (marker_name t k) (b "ref")
  unfolding marker_name
  name_short h = not-le 3 (length s) h ∙ same_short (marker_name t k) (b "ref") (λ q. omega (arith, name-le (text_at_of t k), ap length es))

  pub name-same : {m : Bytes} {x : Bool} → m ≡ name_in_of s → x ≡ same m (b "ref") → x ≡ same (marker_name t k) (b "ref")
  unfolding marker_name
  name-same em ex = ex ∙ rw (em, es)

-- ---- a marker with an entry

module _ (t : Tape) (k : ℕ) (e : Entry) {u : Bool} (eu : u ≡ same (entry_name t e) (b "usfm")) where
  pub known_usfm : u ≡ true → role_in Unwritten ≡ role_by t k (Some e)
  unfolding role_in role_by
  known_usfm hu = rw (← eu, hu)

  module _ (hu : u ≡ false) {f : Bool} (ef : f ≡ same (entry_name t e) (b "fig")) where
    pub known_figure : f ≡ true → role_in Figure ≡ role_by t k (Some e)
    unfolding role_in role_by
    known_figure hf = rw (← eu, hu, ← ef, hf)

    module _ (hf : f ≡ false) {x : Bool} (ex : x ≡ same (marker_name t k) (b "ref")) where
      pub known_ref : x ≡ true → role_in Ref ≡ role_by t k (Some e)
      unfolding role_in role_by
      known_ref hx = rw (← eu, hu, ← ef, hf, ← ex, hx)

      module _ (hx : x ≡ false) where
        pub known_char : e.category.code ≡ 4 → role_in Char ≡ role_by t k (Some e)
        unfolding role_in role_by role_of_category
        known_char hc = rw (← eu, hu, ← ef, hf, ← ex, hx, hc)

        pub known_other : {name : Bytes} {r : Written} → name ≡ entry_name t e → r ≡ role_of_entry e.category.code name → r ≡ role_by t k (Some e)
        unfolding role_by role_of_entry
        known_other en er = rw (← eu, hu, ← ef, hf, ← ex, hx, ← en) er

module _ (t : Tape) (k : ℕ) {i : Info} (ei : i ≡ info_at t k) where
  pub role_known : {e : Entry} {r : Written} → i ≡ Some e → r ≡ role_by t k (Some e) → r ≡ role_of t k
  unfolding role_of
  role_known ee er = rw (← ei, ee) er

  pub role_unknown : {s : Shape} {r : Written} → i ≡ None → s ≡ unknown_shape_of t k → r ≡ role_of_shape s → r ≡ role_of t k
  unfolding role_of role_by
  role_unknown ee es er = rw (← ei, ee) (er ∙ ap role_of_shape es)

pub never : {A : Type 0} → false ≡ true → A
never e = absurd (let no_way : ◌≡◌ {A = ℕ} 0 1 = cc in omega arith)

-- a look at an entry of characters
module _ (t : Tape) (k : ℕ) {i : Info} (ei : i ≡ info_at t k) {e : Entry} (ee : i ≡ Some e) (hc : e.category.code ≡ 4) where
  pub char-told : {u : Bool} → u ≡ same (entry_name t e) (b "usfm") → not u ≡ true → {f : Bool} → f ≡ same (entry_name t e) (b "fig") → not f ≡ true → (name : Bytes) {x : Bool} → x ≡ same name (b "ref")
      → not x ≡ true → name ≡ marker_name t k → role_of t k ≡ char
  unfolding role_in
  char-told {u} eu hu {f} ef hf name {x} ex hx en = sym (role_known t k ei ee (known_char t k e eu (not-true u hu) ef (not-true f hf) (ex ∙ ap (λ (z : Bytes). same z (b "ref")) en) (not-true x hx) hc))

  pub inline-told : is_open t k ≡ true → is_inline_of t k ≡ true
  unfolding is_inline_of inline_marker inline_category
  inline-told h = rw (h, ← ei, ee, hc, or-true (is_verse_of t k), or-true (is_text t k))

-- ---- whether the events inside are written

module _ (t : Tape) (k : ℕ) {role : Role} where
  pub whole_figure : {s : Step} {x : Bool} → role ≡ Figure → s ≡ legacy_at t k → found s ≡ not x → x ≡ is_whole t k (role_in role)
  unfolding role_in is_whole
  whole_figure {s} {x} e es ex = rw (e, ← es) (none_is x ex)

  pub whole_para : {s : Step} {x : Bool} → role ≡ Para → s ≡ first_child t k → x ≡ found s → x ≡ is_whole t k (role_in role)
  unfolding role_in is_whole
  whole_para e es ex = rw (e, ← es) ex

-- ---- what is linked

-- among the children
pub ref_among : (t : Tape) (k : ℕ) {s f : Step} {x : Bool} → s ≡ first_child t k → f ≡ first_with (is_ref t) (walk_from t s) → x ≡ found f → x ≡ any (is_ref t) (children t k)
unfolding any
ref_among t k es ef ex = ex ∙ ap found (ef ∙ ap (first_with (is_ref t)) (children_walk t k es))

module _ (t : Tape) (k : ℕ) {y : Bool} (ey : y ≡ is_nested t k) where
  pub link-outer : not y ≡ true → false ≡ can_link t k
  unfolding can_link
  link-outer hy = rw (← ey, not-true y hy, and-false (same (marker_name t k) (b "xt")))

module _ (t : Tape) (k : ℕ) {x : Bool} (ex : x ≡ can_link t k) where
  pub link-some : {m : Bytes} {v : Option Bytes} → x ≡ true → m ≡ marker_name t k → v ≡ first_of (b "href") (attributes_of t k m) → v ≡ link_of t k
  unfolding can_link link_of
  link-some hx em ev = rw (← ex, hx) (ev ∙ ap (λ (n : Bytes). first_of (b "href") (attributes_of t k n)) em)

  pub link-none : x ≡ false → sought_of t.source None ≡ link_of t k
  unfolding can_link link_of sought_of
  link-none hx = rw (← ex, hx)

pub link_flat : (t : Tape) (k : ℕ) {y : Bool} → y ≡ is_nested t k → not y ≡ true → sought_of t.source None ≡ link_of t k
link_flat t k ey hy = link-none t k (link-outer t k ey hy) refl
