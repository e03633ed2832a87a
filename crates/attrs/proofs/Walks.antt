-- Laws of the walk over attributes: a part, a body, a node, the nodes behind it.
use mathlib.Core.Path.{◌≡◌, refl, sym, ap, ◌∙◌}
use mathlib.Core.Bool.{Bool, true, false, cond}
use mathlib.Core.List.{List, [], ◌∷◌, ◌++◌, map}
use Prim.Native.Nat.{ℕ, ◌+◌, ◌≤◌, ◌<◌}
use native.Mathlib.Omega.{arith}
use lib.ListN.{length, take, drop, length-drop}
use lib.Seq.{drop-drop}
use borrow.Author.Tests.{eq-eqb, ne_eqb, lt-ltb, le-ltb}
use Rattle.parts.specs.Bytes.{Bytes, b, part, same, begins, find}
use Rattle.parts.proofs.Laws.{begins-fits, part-part}
use Rattle.words.specs.Words.{trim_start, trim_end, trim, white_len, bytes_of}
use Rattle.words.specs.declared.Set.TheVariants.{Unicode}
use Rattle.words.specs.declared.Part.{Part}
use Rattle.words.proofs.Texts.{white-le, trim_start_drop, trim_end_take, trim_end_le}
use Rattle.tape.specs.File.{Tape, node_at, kind_at, text_at_of}
use Rattle.tape.specs.Name.{strip}
use Rattle.tape.specs.Tree.{first_child, next_sibling, walk_from}
use Rattle.tape.specs.declared.kinds.Kind.{Kind}
use Rattle.tape.specs.declared.Node.{Node}
use Rattle.tape.specs.declared.Cursor.{Cursor}
use Rattle.tape.specs.Found.{Step}
use Rattle.std.specs.Prelude.{None, Some}
use Rattle.tape.proofs.Walk.{walk_turn, walk_end, children_walk}
use Rattle.attrs.specs.Attr.{Pair, shown, equals, has_equals, pairs_in, default_key, key_for, keyed_for, attribute_body, body_pairs, pairs_at, pairs_along, attributes_of}
use Rattle.attrs.specs.Walk.{fixed_keys, Spot, value_of, key_of, item_list, got_list, remaining, next_list, first_of, sought_of}
use Rattle.attrs.specs.declared.Key.{Key}
use Rattle.attrs.specs.declared.Key.TheVariants.{Fixed}
use Rattle.attrs.specs.declared.Attrs.{Attrs}
use Rattle.attrs.specs.declared.Item.{Item}
use Rattle.attrs.specs.declared.Attribute.{Attribute}
use Rattle.attrs.specs.Found.{Listed, Got, Next}
use Rattle.attrs.proofs.Pairs.{pairs-nil}

-- ---- a part of the source

module _ (source m : Bytes) (p : Part) {f : Listed} (ei : pairs_in (bytes_of source p) ≡ item_list source f) where
  pub in_none : f ≡ None → map (keyed_for m) (pairs_in (bytes_of source p)) ≡ got_list source m None
  unfolding item_list got_list
  in_none e = ap (map (keyed_for m)) (ei ∙ ap (item_list source) e)

  pub in_pair : {i : Item Part} (k : Key) → f ≡ Some i → key_of source fixed_keys k ≡ key_for m (bytes_of source i.key)
      → map (keyed_for m) (pairs_in (bytes_of source p)) ≡ got_list source m (Some (record { key = k; value = i.value; rest = i.rest }))
  unfolding item_list got_list keyed_for
  in_pair {i} k e ek =
      ap (map (keyed_for m)) (ei ∙ ap (item_list source) e)
      ∙ ap (λ (z : Bytes). record { key = z; value = value_of source i.value } ∷ map (keyed_for m) (pairs_in (bytes_of source i.rest))) (sym ek)

-- ---- a body

pairs_of_some : (m s : Bytes) → (length s ≡ 0 → ⊥)
    → body_pairs m s ≡ cond (has_equals s) (map (keyed_for m) (pairs_in s)) (record { key = default_key m; value = s } ∷ [])
unfolding body_pairs
pairs_of_some m [] h = absurd (h refl)
pairs_of_some m (x ∷ s) h = refl

pairs_of_none : (m s : Bytes) → length s ≡ 0 → body_pairs m s ≡ []
unfolding body_pairs
pairs_of_none m [] h = refl
pairs_of_none m (x ∷ s) h = absurd (omega arith)

module _ (source m : Bytes) (body : Part) {s : Bytes} (es : s ≡ part source body.start body.len) where
  pub of_empty : length s ≡ 0 → body_pairs m (bytes_of source body) ≡ got_list source m None
  unfolding got_list
  of_empty h = ap (body_pairs m) (sym es) ∙ pairs_of_none m s h

  module _ (ns : length s ≡ 0 → ⊥) {e : ℕ} (ee : e ≡ find (b "=") s) where
    pub of_pairs : e < length s → (g : Got) → map (keyed_for m) (pairs_in (bytes_of source body)) ≡ got_list source m g
        → body_pairs m (bytes_of source body) ≡ got_list source m g
    unfolding has_equals equals
    of_pairs h g eg = ap (body_pairs m) (sym es) ∙ pairs_of_some m s ns ∙ rw (lt-ltb (find (b "=") s) (length s) (omega arith), es) eg

    pub of_default : length s ≤ e → (k : Part) → bytes_of fixed_keys k ≡ default_key m
        → body_pairs m (bytes_of source body)
        ≡ got_list source m (Some (record { key = Fixed k; value = record { start = body.start; len = body.len; quoted = false }; rest = record { start = body.start; len = 0 } }))
    unfolding has_equals equals got_list key_of value_of shown
    of_default h k ek =
        ap (body_pairs m) (sym es)
        ∙ pairs_of_some m s ns
        ∙ rw (le-ltb (find (b "=") s) (length s) (omega arith), es, ek, pairs-nil)

-- ---- the body of an Attribute

module _ (s : Bytes) {t : Bool} (et : t ≡ begins (b "|") s) where
  pub bar_some : t ≡ true → (1 ≤ length s) × (drop 1 s ≡ strip 124 s)
  unfolding strip
  bar_some h = (begins-fits (b "|") s (sym et ∙ h), rw (sym et ∙ h))

  pub bar_none : t ≡ false → (0 ≤ length s) × (drop 0 s ≡ strip 124 s)
  unfolding strip
  bar_none h = (omega arith, rw (sym et ∙ h))

module _ (s : Bytes) {bar w : ℕ} {f : Bytes} (eb : (bar ≤ length s) × (drop bar s ≡ strip 124 s)) (ef : f ≡ drop bar s) (ew : w ≡ white_len Unicode f) where
  pub body_starts : bar + w ≤ length s
  body_starts = omega (arith, eb.0, ap length ef, length-drop bar s, white-le Unicode f)

  pub body-found : {u : Bytes} {n : ℕ} → u ≡ drop (bar + w) s → n ≡ length (trim_end Unicode u) → Spot s (record { start = bar + w; len = n }) (attribute_body s)
  unfolding attribute_body trim
  body-found {u} {n} eu en =
      record {
        inside = omega (arith, body_starts, ap length eu, length-drop (bar + w) s, trim_end_le Unicode u);
        here = ap (take n) (sym eu) ∙ ap (λ (k : ℕ). take k u) en ∙ sym (trim_end_take Unicode u) ∙ ap (trim_end Unicode) (eu ∙ starts);
      }
    where
      starts : drop (bar + w) s ≡ trim_start Unicode (strip 124 s)
      starts =
          sym (drop-drop w bar s)
          ∙ ap (drop w) (sym ef)
          ∙ ap (λ (k : ℕ). drop k f) ew
          ∙ sym (trim_start_drop Unicode f)
          ∙ ap (trim_start Unicode) (ef ∙ eb.1)

pub body_placed : (t : Tape) (k : ℕ) {n : Node} {x : Bytes} {body : Part} {a : ℕ} → n ≡ node_at t k → x ≡ text_at_of t k → Spot x body (attribute_body x) → a ≡ n.start
    → bytes_of t.source (record { start = a + body.start; len = body.len }) ≡ attribute_body (text_at_of t k)
unfolding text_at_of
body_placed t k {n} {x} {body} {a} en ex sp ea =
    rw (ea, en) (sym (part-part t.source (node_at t k).start (node_at t k).len body.start body.len (rw ex at sp.inside)))
    ∙ ap (λ (z : Bytes). bytes_of z body) (sym ex)
    ∙ sp.here
    ∙ ap attribute_body ex

-- ---- a node

module _ (t : Tape) (m : Bytes) (k : ℕ) {z : Kind} (ez : z.code ≡ kind_at t k) where
  pub at_other : (z.code ≡ 2 → ⊥) → pairs_at t m k ≡ got_list t.source m None
  unfolding pairs_at got_list
  at_other h = rw (ne_eqb (kind_at t k) 2 (λ e. h (ez ∙ e)))

  pub at_attribute : z.code ≡ 2 → {s : Bytes} (body : Part) (g : Got) → s ≡ t.source → bytes_of t.source body ≡ attribute_body (text_at_of t k)
      → body_pairs m (bytes_of s body) ≡ got_list s m g → pairs_at t m k ≡ got_list t.source m g
  unfolding pairs_at
  at_attribute h {s} body g es eb eg = rw (eq-eqb (kind_at t k) 2 (sym ez ∙ h), ← eb) (rw es at eg)

-- ---- the nodes from a step on

module _ (t : Tape) (m : Bytes) {s : Step} {ps : List Pair} (inv : pairs_along t m (walk_from t s) ≡ ps) where
  pub along_end : s ≡ None → ps ≡ next_list t m None
  unfolding pairs_along next_list
  along_end e = sym inv ∙ ap (pairs_along t m) (walk_end t e)

  module _ {c : Cursor} (ec : s ≡ Some c) {n : Step} (en : n ≡ next_sibling t c.at) (g : Got) (eg : pairs_at t m c.at ≡ got_list t.source m g) where
    behind : ps ≡ got_list t.source m g ++ pairs_along t m (walk_from t n)
    unfolding pairs_along
    behind = sym inv ∙ ap (pairs_along t m) (walk_turn t c ec en) ∙ rw eg

    pub along_on : g ≡ None → pairs_along t m (walk_from t n) ≡ ps
    unfolding got_list
    along_on e = sym (behind ∙ rw e)

    pub along-found : {i : Item Key} {a : Attribute} → g ≡ Some i → a ≡ record { key = i.key; value = i.value; left = record { rest = i.rest; next = n } } → ps ≡ next_list t m (Some a)
    unfolding got_list next_list remaining
    along-found e ea = behind ∙ rw (e, ea)

-- ---- the walk itself

pub walk_starts : (t : Tape) (k : ℕ) {s : Step} → s ≡ first_child t k → (m : Bytes) → remaining t m (record { rest = record { start = 0; len = 0 }; next = s }) ≡ attributes_of t k m
unfolding remaining attributes_of
walk_starts t k es m = rw pairs-nil (ap (pairs_along t m) (children_walk t k es))

module _ (t : Tape) (m : Bytes) (a : Attrs) {s : Bytes} (g : Got) (es : s ≡ t.source) (eg : map (keyed_for m) (pairs_in (bytes_of s a.rest)) ≡ got_list s m g) where
  got_here : remaining t m a ≡ got_list t.source m g ++ pairs_along t m (walk_from t a.next)
  unfolding remaining
  got_here = ap (λ (ps : List Pair). ps ++ pairs_along t m (walk_from t a.next)) (rw es at eg)

  pub next-along : g ≡ None → (r : Next) → pairs_along t m (walk_from t a.next) ≡ next_list t m r → remaining t m a ≡ next_list t m r
  unfolding got_list
  next-along e r er = got_here ∙ rw e er

  pub next-found : {i : Item Key} {r : Attribute} → g ≡ Some i → r ≡ record { key = i.key; value = i.value; left = record { rest = i.rest; next = a.next } } → remaining t m a ≡ next_list t m (Some r)
  unfolding got_list next_list remaining
  next-found e er = got_here ∙ rw (e, er)

-- ---- one answer of the walk

module _ (t : Tape) (m : Bytes) (a : Attrs) {n : Next} (en : remaining t m a ≡ next_list t m n) where
  pub next_end : n ≡ None → remaining t m a ≡ []
  unfolding next_list
  next_end e = en ∙ ap (next_list t m) e

  module _ {x : Attribute} (e : n ≡ Some x) where
    pub next_listed : remaining t m a ≡ record { key = key_of t.source fixed_keys x.key; value = value_of t.source x.value } ∷ remaining t m x.left
    unfolding next_list
    next_listed = en ∙ ap (next_list t m) e

    pub next_less : length (remaining t m x.left) < length (remaining t m a)
    next_less = rw next_listed (omega arith)

-- ---- the first with a key

module _ (t : Tape) (m key : Bytes) (a : Attrs) {n : Next} (en : remaining t m a ≡ next_list t m n) where
  pub sought_none : n ≡ None → (k : ℕ) (a₀ : Attrs) → ((m : Bytes) → remaining t m a₀ ≡ attributes_of t k m)
      → first_of key (remaining t m a) ≡ first_of key (remaining t m a₀) → sought_of t.source None ≡ first_of key (attributes_of t k m)
  unfolding first_of sought_of
  sought_none e k a₀ all inv = sym (ap (first_of key) (next_end t m a en e)) ∙ inv ∙ ap (first_of key) (all m)

  module _ {x : Attribute} (e : n ≡ Some x) where
    module _ {s : Bytes} {h : Bool} (es : s ≡ t.source) (eh : h ≡ same (key_of s fixed_keys x.key) key) where
      tested : same (key_of t.source fixed_keys x.key) key ≡ h
      tested = sym (eh ∙ ap (λ (z : Bytes). same (key_of z fixed_keys x.key) key) es)

      pub sought_found : h ≡ true → (k : ℕ) (a₀ : Attrs) → ((m : Bytes) → remaining t m a₀ ≡ attributes_of t k m)
          → first_of key (remaining t m a) ≡ first_of key (remaining t m a₀) → sought_of t.source (Some x.value) ≡ first_of key (attributes_of t k m)
      unfolding first_of sought_of
      sought_found y k a₀ all inv = sym (ap (first_of key) (next_listed t m a en e) ∙ rw (tested ∙ y)) ∙ inv ∙ ap (first_of key) (all m)

      pub sought_on : h ≡ false → (ps : List Pair) → first_of key (remaining t m a) ≡ first_of key ps → first_of key (remaining t m x.left) ≡ first_of key ps
      unfolding first_of
      sought_on y ps inv = sym (ap (first_of key) (next_listed t m a en e) ∙ rw (tested ∙ y)) ∙ inv
