-- What the events of a node and of inline children may cost.
use mathlib.Core.Path.{◌≡◌, refl}
use mathlib.Core.Bool.{Bool, true, false, cond}
use mathlib.Core.List.{List, [], ◌∷◌, ◌++◌}
use mathlib.Core.Option.{Option, none, some}
use Prim.Native.Nat.{ℕ, zero, suc, ◌+◌, ◌*◌, ◌≤◌}
use native.Mathlib.Omega.{arith}
use lib.ListN.{length}
use lib.Dec.{eqb}
use Rattle.parts.specs.Bytes.{Bytes, b}
use Rattle.texts.specs.Text.{body_of, has_break, written, segments}
use Rattle.texts.specs.declared.Normalized.{Normalized}
use Rattle.words.specs.declared.Set.TheVariants.{Unicode}
use Rattle.tape.specs.File.{Tape, tape_of, kind_at, text_at_of, number_at}
use Rattle.tape.specs.Tree.{children, first_child, found}
use Rattle.tape.specs.Name.{marker_name}
use Rattle.tape.specs.Found.{Step}
use Rattle.std.specs.Prelude.{None, Some}
use Rattle.render.specs.Shape.{is_open, is_chapter_of, is_verse_of}
use Rattle.render.specs.Follow.{followed}
use Rattle.render.specs.Label.{label_of}
use Rattle.render.specs.Note.{note_caller_of, remainder, written_category, book_code_of, book_rest_of}
use Rattle.attrs.specs.Attr.{attributes_of}
use Rattle.attrs.specs.Walk.{first_of}
use Rattle.fold.specs.Fold.{fold_at}
use Rattle.figure.specs.Figure.{legacy_at, legacy_pairs, caption_of, field_at}
use Rattle.tags.specs.Items.{Attr, empty, text, bytes_of}
use Rattle.admit.specs.Refusal.{Kept₇}
use Rattle.events.specs.Event.{Event, item, chapter, verse, book, rawly, escaped, perhaps, collected, element}
use Rattle.events.specs.Walk.{unbroken, breaks, segmented, broken, style, styled, unclosed, Manner, as_inline, as_note, Role, unknown_block, unknown_inline, unwritten, figure, ref, id, note, ms, char, para, role_of, can_link, link_of, linked, figure_as, marker_as, node_in_of, Child, anchor, words, passed, marker, child_of, note_child_of, Turn, normalized, inline_turn, inline_from, inline_all, note_text, note_turn_of, note_all, inside, NoteChild, direct, left_out, entered, Noted}
use Rattle.bounds.proofs.Items.{attr_cost, attrs_cost, attrs_append, empty_most, text_most}
use Rattle.bounds.proofs.Light.{size_or, Light, nil, more, light_most, light_append, light_item, light_one, light_element, light_asided, perhaps_most}
use Rattle.bounds.proofs.Mass.{cost, cost_least, cost_most, under, cost-under, under_most, size_of, sizes, mass, mass_is, size_some, inner_size}
use Rattle.bounds.proofs.Lengths.{weigh, after_most, written_most, segments-weigh}
use Rattle.bounds.proofs.Parts.{text_limit, label_limit, code_limit, rest_limit, caller_limit, category_limit, field_limit, legacy_limit, attributes_limit, first_limit, style_limit, unclosed_limit, fold_limit}

-- ---- texts

unbroken_light : (s : Bytes) (n : Normalized) → length s ≤ 4194304 → Light 8000000000 (unbroken s n)
unfolding unbroken
unbroken_light s n h = go n.shows
  where
    go : (x : Bool) → Light 8000000000 (cond x (item (text (written s n)) ∷ []) [])
    go true = light_item (text (written s n)) (omega (arith, text_most (written s n), written_most s n))
    go false = nil

breaks_light : (gs : List Bytes) → Light (400 * weigh gs) (breaks gs)
unfolding breaks weigh attrs_cost
breaks_light [] = nil
breaks_light (g ∷ gs) =
    let e : length (bytes_of (empty 15 [])) ≤ 200 = omega (arith, empty_most 15 []) in
    more 200 (6 * length g + 400 * weigh gs) (400 * (length g + 1 + weigh gs)) e
    (more (6 * length g) (400 * weigh gs) (6 * length g + 400 * weigh gs) (text_most g) (breaks_light gs) (omega arith)) (omega arith)

segmented_light : (gs : List Bytes) → Light (400 * weigh gs) (segmented gs)
unfolding segmented weigh
segmented_light [] = nil
segmented_light (g ∷ gs) = more (6 * length g) (400 * weigh gs) (400 * (length g + 1 + weigh gs)) (text_most g) (breaks_light gs) (omega arith)

broken_light : (s : Bytes) (n : Normalized) → length s ≤ 4194304 → Light 8000000000 (broken s n)
unfolding broken
broken_light s n h = go (has_break (body_of s))
  where
    go : (x : Bool) → Light 8000000000 (cond x (segmented (segments s)) (unbroken s n))
    go true = light_most (segmented_light (segments s)) (omega (arith, segments-weigh s))
    go false = unbroken_light s n h

-- ---- attributes

pub two-cost : (a c : Attr) → attrs_cost (a ∷ c ∷ []) ≡ attr_cost a + attr_cost c
unfolding attrs_cost
two-cost a c = omega arith

pub one_cost : (a : Attr) → attrs_cost (a ∷ []) ≡ attr_cost a
unfolding attrs_cost
one_cost a = omega arith

pub more-cost : (a : Attr) (qs : List Attr) → attrs_cost (a ∷ qs) ≡ attr_cost a + attrs_cost qs
unfolding attrs_cost
more-cost a qs = refl

pub escaped-cost : (key value : Bytes) → attr_cost (escaped key value) ≡ 4 + length key + 6 * length value
unfolding attr_cost escaped
escaped-cost key value = refl

fig-cost : attrs_cost (styled (b "fig")) ≤ 100
unfolding styled attrs_cost attr_cost rawly
fig-cost = omega arith

module _ (file : Bytes) (z : Kept₇ file) where
  abbrev t : Tape
  t = tape_of file

  -- what children may cost a node that has them
  abbrev inner : ℕ → ℕ
  inner k = sizes t (children t k)

  -- ---- one node

  module _ (d : ℕ) (f : Manner → ℕ → Bool → List Event) (light : (m : Manner) (k : ℕ) (outer : Bool) → Light (under d (inner k)) (f m k outer)) where
    linked_light : (k : ℕ) (v : Option Bytes) → size_or v ≤ 50000000 * inner k → {n : ℕ} {es : List Event} → Light n es → Light (1000 + 300000000 * inner k + n) (linked v es)
    unfolding linked size_or
    linked_light k none h l = light_most l (omega arith)
    linked_light k (some loc) h l =
        light_element 16 (escaped (b "loc") loc ∷ []) l (omega (arith, one_cost (escaped (b "loc") loc), escaped-cost (b "loc") loc))

    figure_light : (k : ℕ) (outer : Bool) (s : Step) → Light (1000000000 + 1000000000 * inner k + under d (inner k)) (figure_as f t k outer s)
    unfolding figure_as caption_of
    figure_light k outer (Some a) =
        light_asided
        (light_element {m = 6 * length (field_at t a.at 4)} 9 (styled (b "fig") ++ collected (legacy_pairs t k a.at)) (light_item (text (field_at t a.at 4)) (text_most (field_at t a.at 4)))
        (omega (arith, fig-cost, legacy_limit file z k a.at, field_limit file z a.at 4, attrs_append (styled (b "fig")) (collected (legacy_pairs t k a.at)))))
    figure_light k outer None =
        light_asided
        (light_element 9 (styled (b "fig") ++ collected (attributes_of t k (b "fig"))) (light as_inline k outer)
        (omega (arith, fig-cost, attributes_limit file z k (b "fig"), attrs_append (styled (b "fig")) (collected (attributes_of t k (b "fig"))))))

    link_limit : (k : ℕ) → size_or (link_of t k) ≤ 50000000 * inner k
    unfolding link_of size_or
    link_limit k = go (can_link t k)
      where
        go : (x : Bool) → size_or (cond x (first_of (b "href") (attributes_of t k (marker_name t k))) none) ≤ 50000000 * inner k
        go true = first_limit file z (b "href") k (marker_name t k)
        go false = omega arith

    unknown-cost : (k : ℕ) → attrs_cost (style t k ∷ escaped (b "status") (b "unknown") ∷ []) ≤ 40000000
    unknown-cost k = omega (arith, two-cost (style t k) (escaped (b "status") (b "unknown")), escaped-cost (b "status") (b "unknown"), style_limit file z k)

    marker_light : (k : ℕ) (outer : Bool) (r : Role) → Light (1000000000 + 1000000000 * inner k + under d (inner k)) (marker_as f t k outer r)
    unfolding marker_as
    marker_light k outer unknown_block =
        light_element 5 (style t k ∷ escaped (b "status") (b "unknown") ∷ []) (light as_inline k outer) (omega (arith, unknown-cost k))
    marker_light k outer unknown_inline =
        light_element 6 (style t k ∷ escaped (b "status") (b "unknown") ∷ []) (light as_inline k outer) (omega (arith, unknown-cost k))
    marker_light k outer unwritten = nil
    marker_light k outer figure = figure_light k outer (legacy_at t k)
    marker_light k outer ref =
        let v = first_of (b "loc") (attributes_of t k (b "ref")) in
        light_element 16 (perhaps (b "loc") v) (light as_inline k outer) (omega (arith, perhaps_most (b "loc") v, first_limit file z (b "loc") k (b "ref")))
    marker_light k outer id =
        light_one {e = book (book_code_of t k) (book_rest_of t k)} (code_limit file z k, omega (arith, rest_limit file z k))
    marker_light k outer note =
        let c = escaped (b "caller") (note_caller_of t k) in
        let q = perhaps (b "category") (written_category t k) in
        light_asided
        (light_element 7 (c ∷ style t k ∷ q) (light as_note k outer)
        (omega (
          arith,
          more-cost c (style t k ∷ q),
          more-cost (style t k) q,
          escaped-cost (b "caller") (note_caller_of t k),
          caller_limit file z k,
          style_limit file z k,
          perhaps_most (b "category") (written_category t k),
          category_limit file z k,
        )))
    marker_light k outer ms =
        let q = collected (attributes_of t k (marker_name t k)) in
        light_item (empty 8 (style t k ∷ q)) (omega (arith, empty_most 8 (style t k ∷ q), more-cost (style t k) q, style_limit file z k, attributes_limit file z k (marker_name t k)))
    marker_light k outer char =
        let q = collected (attributes_of t k (marker_name t k)) in
        light_element 6 (style t k ∷ (unclosed t k ++ q)) (linked_light k (link_of t k) (link_limit k) (light as_inline k outer))
        (omega (arith, more-cost (style t k) (unclosed t k ++ q), attrs_append (unclosed t k) q, style_limit file z k, unclosed_limit file z k, attributes_limit file z k (marker_name t k)))
    marker_light k outer para = go (found (first_child t k))
      where
        go : (x : Bool) → Light (1000000000 + 1000000000 * inner k + under d (inner k)) (cond x (element 5 (style t k ∷ []) (f as_inline k outer)) (item (empty 5 (style t k ∷ [])) ∷ []))
        go true = light_element 5 (style t k ∷ []) (light as_inline k outer) (omega (arith, one_cost (style t k), style_limit file z k))
        go false = light_item (empty 5 (style t k ∷ [])) (omega (arith, empty_most 5 (style t k ∷ []), one_cost (style t k), style_limit file z k))

    -- what a node and its children may cost is what its nodes may cost
    pub own_cost : (k : ℕ) → 8000000000 + 8000000000 * inner k + under d (inner k) ≤ cost d (size_of t k)
    own_cost k =
        omega (arith, inner_size file z k, cost_most d (inner k + 1) (size_of t k) (inner_size file z k), cost-under d (inner k + 1), under_most d (inner k) (inner k + 1) (omega arith))

    none_size : size_or none ≡ 0
    unfolding size_or
    none_size = refl

    pub node_light : (k : ℕ) (outer : Bool) → Light (cost d (size_of t k)) (node_in_of f t k outer)
    unfolding node_in_of
    node_light k outer = go (is_chapter_of t k) (is_verse_of t k) (is_open t k)
      where
        go : (x y w : Bool)
            → Light (cost d (size_of t k)) (cond x (chapter (number_at t k) none none ∷ []) (cond y (verse (label_of t k) none none ∷ []) (cond w (marker_as f t k outer (role_of t k)) [])))
        go true y w = light_one {e = chapter (number_at t k) none none} (omega (arith, own_cost k, none_size))
        go false true w = light_one {e = verse (label_of t k) none none} (label_limit file z k, omega (arith, own_cost k, none_size))
        go false false true = light_most (marker_light k outer (role_of t k)) (omega (arith, own_cost k))
        go false false false = nil

  -- ---- children

  pub mass-more : (d k : ℕ) (ks : List ℕ) → mass t d (k ∷ ks) ≡ cost d (size_of t k) + mass t d ks
  unfolding mass
  mass-more d k ks = refl

  -- a node may cost a text
  pub text-cost : (d k : ℕ) → 8000000000 ≤ cost d (size_of t k)
  text-cost d k = omega (arith, cost_least d (size_of t k), size_some file z k)

  module _ (d : ℕ) (node : ℕ → Bool → List Event) (light : (k : ℕ) (outer : Bool) → Light (cost d (size_of t k)) (node k outer)) (behind : Bool) where
    -- one turn: what is written, and what the list that is left may still cost
    record Turned (k : ℕ) (ks : List ℕ) (r : Turn) : Type 0 where
      weight : ℕ
      written : Light weight r.written
      left : weight + mass t d r.rest ≤ mass t d (k ∷ ks)

    turn_light : (trim : Bool) (k : ℕ) (ks : List ℕ) (c : Child) → Turned k ks (inline_turn node t behind trim k ks c)
    unfolding inline_turn
    turn_light trim k ks anchor =
        let f = fold_at t 7 ks in
        record {
          weight = 400000000 + 6 * (size_or f.alt + size_or f.published);
          written = light_one {e = verse (label_of t k) f.alt f.published} (label_limit file z k, omega arith);
          left = omega (arith, mass-more d k ks, text-cost d k, fold_limit file z d 7 ks);
        }
    turn_light trim k ks words =
        record {
          weight = 8000000000;
          written = broken_light (text_at_of t k) (normalized t k (text_at_of t k) trim behind) (text_limit file z k);
          left = omega (arith, mass-more d k ks, text-cost d k);
        }
    turn_light trim k ks passed = record { weight = 0; written = nil; left = omega (arith, mass-more d k ks) }
    turn_light trim k ks marker = record { weight = cost d (size_of t k); written = light k behind; left = omega (arith, mass-more d k ks) }

    from_light : (n : ℕ) (trim : Bool) (ks : List ℕ) → Light (mass t d ks) (inline_from node t behind n trim ks)
    unfolding inline_from
    from_light zero trim ks = nil
    from_light (suc n) trim [] = nil
    from_light (suc n) trim (k ∷ ks) =
        let r : Turn = inline_turn node t behind trim k ks (child_of (kind_at t k)) in
        let l = turn_light trim k ks (child_of (kind_at t k)) in
        light_append l.written (from_light n r.trim r.rest) l.left

    pub inline_light : (trim : Bool) (ks : List ℕ) → Light (mass t d ks) (inline_all node t behind trim ks)
    unfolding inline_all
    inline_light trim ks = from_light (length ks) trim ks

    note-text : (first k : ℕ) → length (note_text t first k) ≤ 4194304
    unfolding note_text remainder
    note-text first k = go (eqb k first)
      where
        go : (x : Bool) → length (cond x (remainder (text_at_of t k)) (text_at_of t k)) ≤ 4194304
        go true = omega (arith, after_most Unicode (text_at_of t k), text_limit file z k)
        go false = text_limit file z k

    note-turn : (first : ℕ) (trim : Bool) (k : ℕ) (c : NoteChild) → Light (cost d (size_of t k)) (note_turn_of node t first behind trim k c).written
    unfolding note_turn_of
    note-turn first trim k direct =
        light_most (unbroken_light (note_text t first k) (normalized t k (note_text t first k) trim behind) (note-text first k)) (text-cost d k)
    note-turn first trim k left_out = nil
    note-turn first trim k entered = light k behind

    pub note_light : (first : ℕ) (trim : Bool) (ks : List ℕ) → Light (mass t d ks) (note_all node t first behind trim ks)
    unfolding note_all
    note_light first trim [] = nil
    note_light first trim (k ∷ ks) =
        let r : Noted = note_turn_of node t first behind trim k (note_child_of t k) in
        light_append (note-turn first trim k (note_child_of t k)) (note_light first r.trim ks) (omega (arith, mass-more d k ks))

  -- ---- by depth

  pub under_next : (d : ℕ) (ks : List ℕ) → mass t d ks ≡ under (suc d) (sizes t ks)
  unfolding under
  under_next d ks = mass_is t d ks

  pub inside_light : (d : ℕ) (m : Manner) (k : ℕ) (outer : Bool) → Light (under d (inner k)) (inside t d m k outer)
  unfolding inside
  inside_light zero m k outer = nil
  inside_light (suc d) as_inline k outer =
      light_most (inline_light d (node_in_of (inside t d) t) (node_light d (inside t d) (inside_light d)) (followed t k outer) true (children t k)) (omega (arith, under_next d (children t k)))
  inside_light (suc d) as_note k outer =
      light_most (note_light d (node_in_of (inside t d) t) (node_light d (inside t d) (inside_light d)) (followed t k outer) (k + 1) true (children t k))
      (omega (arith, under_next d (children t k)))
