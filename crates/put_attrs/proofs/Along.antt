-- Laws of the walk over the children of a node whose attributes are written as they stand.
use mathlib.Core.Path.{◌≡◌, refl, sym, ap, ◌∙◌}
use mathlib.Core.Bool.{Bool, true, false, not, cond}
use mathlib.Core.List.{List, [], ◌++◌, append-nil}
use Prim.Native.Nat.{ℕ}
use native.Mathlib.Omega.{arith}
use lib.ListN.{drop}
use borrow.Author.Tests.{eq-eqb, ne_eqb, not-false}
use Rattle.parts.specs.Bytes.{Bytes, b, same}
use Rattle.tape.specs.File.{Tape, kind_at, text_at_of}
use Rattle.tape.specs.Tree.{first_child, next_sibling, walk_from, found}
use Rattle.tape.specs.declared.kinds.Kind.{Kind}
use Rattle.tape.specs.declared.Cursor.{Cursor}
use Rattle.tape.specs.Found.{Step}
use Rattle.std.specs.Prelude.{None, Some}
use Rattle.tape.proofs.Walk.{walk_turn, walk_end, children_walk}
use Rattle.attrs.specs.Attr.{Pair, attribute_body, body_pairs, pairs_at, pairs_along, attributes_of}
use Rattle.attrs.specs.Barred.{Barred}
use Rattle.attrs.proofs.AsItStands.{barred_pairs, barred_escape}
use Rattle.tags.specs.Items.{Attr, attr_bytes, attrs_bytes, value_of}
use Rattle.events.specs.Event.{escaped, collected}
use Rattle.desk.specs.Stroke.{Stroke, strokes_of_attrs, Drew}
use Rattle.desk.proofs.Strokes.{drew_none}
use Rattle.put_attrs.proofs.Written.{Ahead, ahead_end, ahead_rest, ahead_turn}
use Rattle.put_attrs.proofs.Listed.{strokes_of_pairs, pairs-append}
use Rattle.desk.specs.declared.Desk.{Desk as Held}

-- such an attribute is written as it stands behind its `|`
barred_written : (m : Bytes) {s : Bytes} → same m (b "fig") ≡ false → Barred s → attrs_bytes (collected (body_pairs m (attribute_body s))) ≡ b " " ++ drop 1 s
unfolding attrs_bytes attr_bytes collected escaped value_of
barred_written m f z =
    rw (barred_pairs m f z, barred_escape z, z.is) (append-nil (b " " ++ (z.key ++ (b "=\"" ++ (z.value ++ b "\"")))))

pub barred_put : (d last-d : Held) {out last : Bytes} (s : Bytes) {x : Bytes} → x ≡ drop 1 s → ((qs : List Attr) → b " " ++ x ≡ attrs_bytes qs → Drew d out (strokes_of_attrs qs) last-d last)
    → (qs : List Attr) → b " " ++ drop 1 s ≡ attrs_bytes qs → Drew d out (strokes_of_attrs qs) last-d last
barred_put d last-d s ex f qs es = f qs (ap (λ (z : Bytes). b " " ++ z) ex ∙ es)

-- ---- one node of a walk

module _ (t : Tape) {s n : Step} (c : Cursor) (ec : s ≡ Some c) (en : n ≡ next_sibling t c.at) {k : Kind} (ek : k.code ≡ kind_at t c.at) where
  behind : (m : Bytes) → pairs_along t m (walk_from t s) ≡ pairs_at t m c.at ++ pairs_along t m (walk_from t n)
  unfolding pairs_along
  behind m = ap (pairs_along t m) (walk_turn t c ec en)

  -- one that is no Attribute has none
  past-other : (k.code ≡ 2 → ⊥) → (m : Bytes) → pairs_along t m (walk_from t s) ≡ pairs_along t m (walk_from t n)
  unfolding pairs_at
  past-other h m = rw (behind m, ne_eqb (kind_at t c.at) 2 (λ e. h (ek ∙ e)))

-- ---- no Attribute

-- where nothing is left there is none
none_on : (t : Tape) {s : Step} → s ≡ None → (m : Bytes) → pairs_along t m (walk_from t s) ≡ []
unfolding pairs_along
none_on t e m = ap (pairs_along t m) (walk_end t e)

-- the attributes of a node are those of its children
of_children : (t : Tape) (k : ℕ) {s : Step} → s ≡ first_child t k → (m : Bytes) → pairs_along t m (walk_from t s) ≡ attributes_of t k m
unfolding attributes_of
of_children t k es m = ap (pairs_along t m) (children_walk t k es)

-- a step that leads nowhere
not_found : (s : Step) → found s ≡ false → s ≡ None
not_found (Some c) e = ap (λ (x : Bool). cond x (Some c) None) e
not_found None e = refl

module _ (t : Tape) (k : ℕ) {s : Step} (es : s ≡ first_child t k) where
  -- a node that holds nothing has none
  pub bare-empty : s ≡ None → (m : Bytes) → attributes_of t k m ≡ []
  bare-empty e m = sym (of_children t k es m) ∙ none_on t e m

  -- and one that holds a text alone
  pub bare-text : (c : Cursor) → s ≡ Some c → {x : Kind} → x.code ≡ kind_at t c.at → x.code ≡ 1 → {n : Step} → n ≡ next_sibling t c.at → {y : Bool} → found n ≡ not y → y ≡ true → (m : Bytes) → attributes_of t k m ≡ []
  bare-text c ec {x} ex h {n} en {y} ey hy m =
      sym (of_children t k es m) ∙ past-other t c ec en ex (λ e. omega arith) m ∙ none_on t (not_found n (ey ∙ ap not hy)) m

-- and nothing is written
pub none_drawn : (d : Held) {out : Bytes} {ps : List Pair} → ps ≡ [] → Drew d out (strokes_of_pairs ps) d out
unfolding collected strokes_of_attrs
none_drawn d e = rw e (drew_none d)

-- ---- one Attribute behind a text

-- a node that holds a text and an Attribute that is written as it stands
pub given_barred : (t : Tape) (k : ℕ) (c a : Cursor) → first_child t k ≡ Some c → kind_at t c.at ≡ 1 → next_sibling t c.at ≡ Some a → kind_at t a.at ≡ 2 → next_sibling t a.at ≡ None
    → (m : Bytes) {f : Bool} → f ≡ same m (b "fig") → f ≡ false → {x : Bytes} → x ≡ text_at_of t a.at → Barred x → b " " ++ drop 1 x ≡ attrs_bytes (collected (attributes_of t k m))
unfolding pairs_at
given_barred t k c a ec hc ea ha en m ef hf {x} ex z =
    sym (ap (λ (ps : List Pair). attrs_bytes (collected ps)) (sym (of_children t k refl m)
    ∙ past-other t c ec refl {k = record { code = kind_at t c.at }} refl (λ e. omega arith) m
    ∙ behind t a ea refl {k = record { code = kind_at t a.at }} refl m
    ∙ ap (λ (ps : List Pair). pairs_at t m a.at ++ ps) (none_on t en m)
    ∙ append-nil (pairs_at t m a.at)
    ∙ rw (eq-eqb (kind_at t a.at) 2 ha, ex))
    ∙ barred_written m (sym ef ∙ hf) z)

-- ---- to the first Attribute

-- the nodes from a step on have the attributes of those from another on
pub record Alike (t : Tape) (s s₀ : Step) : Type 0 where
  pub on : (m : Bytes) → pairs_along t m (walk_from t s) ≡ pairs_along t m (walk_from t s₀)

module _ (t : Tape) {s₀ s : Step} (inv : Alike t s s₀) where
  pub first-other : {n : Step} (c : Cursor) → s ≡ Some c → n ≡ next_sibling t c.at → {k : Kind} → k.code ≡ kind_at t c.at → (k.code ≡ 2 → ⊥) → Alike t n s₀
  first-other c ec en ek h = record { on = λ m. sym (past-other t c ec en ek h m) ∙ inv.on m }

  pub first_is : {r : Step} → s ≡ r → (k : ℕ) → s₀ ≡ first_child t k → (m : Bytes) → pairs_along t m (walk_from t r) ≡ attributes_of t k m
  first_is e k e₀ m = ap (λ (z : Step). pairs_along t m (walk_from t z)) (sym e) ∙ inv.on m ∙ of_children t k e₀ m

module _ (t : Tape) (k : ℕ) (m : Bytes) {s : Step} (es : (x : Bytes) → pairs_along t x (walk_from t s) ≡ attributes_of t k x) (d : Held) {out : Bytes} where
  pub first-none : s ≡ None → Drew d out (strokes_of_pairs (attributes_of t k m)) d out
  first-none e = none_drawn d (sym (es m) ∙ none_on t e m)

  pub first_on : (c : Cursor) → s ≡ Some c → (last-d : Held) {last : Bytes} → Drew d out (strokes_of_pairs (pairs_along t m (walk_from t (Some c)))) last-d last
      → Drew d out (strokes_of_pairs (attributes_of t k m)) last-d last
  first_on c e last-d f = rw (← es m, e) f

-- ---- from there on

module _ (t : Tape) (m : Bytes) (d₀ d : Held) {out₀ out : Bytes} {all : List Stroke} {s : Step} (inv : Ahead d₀ out₀ all d out (strokes_of_pairs (pairs_along t m (walk_from t s)))) where
  pub along_end : s ≡ None → Drew d₀ out₀ all d out
  unfolding collected strokes_of_attrs
  along_end e = ahead_end d₀ d inv (rw (none_on t e m))

  module _ (c : Cursor) (ec : s ≡ Some c) where
    pub along-hard : (last-d : Held) {last : Bytes} → Drew d out (strokes_of_pairs (pairs_along t m (walk_from t (Some c)))) last-d last → Drew d₀ out₀ all last-d last
    along-hard last-d e = ahead_rest d₀ d inv last-d (rw (← ec) at e)

    -- one turn: a node that is no Attribute, or one that is written as it stands
    module _ {n : Step} (en : n ≡ next_sibling t c.at) {k : Kind} (ek : k.code ≡ kind_at t c.at) where
      pub along-other : (k.code ≡ 2 → ⊥) → Ahead d₀ out₀ all d out (strokes_of_pairs (pairs_along t m (walk_from t n)))
      along-other h = ahead_turn d₀ d inv d (ap strokes_of_pairs (past-other t c ec en ek h m)) (drew_none d)

      pub along_barred : k.code ≡ 2 → {x : Bytes} → x ≡ text_at_of t c.at → {r : Bool} → (r ≡ true → Barred x) → not r ≡ false → {f : Bool} → f ≡ same m (b "fig") → f ≡ false
          → (d₁ : Held) {o₁ : Bytes} → ((qs : List Attr) → b " " ++ drop 1 x ≡ attrs_bytes qs → Drew d out (strokes_of_attrs qs) d₁ o₁)
          → Ahead d₀ out₀ all d₁ o₁ (strokes_of_pairs (pairs_along t m (walk_from t n)))
      unfolding pairs_at
      along_barred h {x} ex {r} is y ef hf d₁ f =
          let here : pairs_at t m c.at ≡ body_pairs m (attribute_body x) = rw (eq-eqb (kind_at t c.at) 2 (sym ek ∙ h), ex) in
          let one : List Pair = body_pairs m (attribute_body x) in
          ahead_turn d₀ d inv d₁
          (ap strokes_of_pairs (behind t c ec en ek m ∙ ap (λ (z : List Pair). z ++ pairs_along t m (walk_from t n)) here) ∙ pairs-append one (pairs_along t m (walk_from t n)))
          (f (collected one) (sym (barred_written m (sym ef ∙ hf) (is (not-false r y)))))
