-- How long the names, labels and numbers of an admitted file's nodes are.
use mathlib.Core.Path.{◌≡◌, refl}
use mathlib.Core.Bool.{Bool, true, false, cond}
use mathlib.Core.List.{List, [], ◌∷◌, ◌++◌}
use mathlib.Core.Option.{Option, none, some}
use Prim.Native.Nat.{ℕ, ◌+◌, ◌*◌, ◌≤◌}
use native.Mathlib.Omega.{arith}
use lib.ListN.{length, drop, get_or, length-append, length-drop}
use lib.Dec.{eqb}
use Rattle.parts.specs.Bytes.{Bytes, b}
use Rattle.words.specs.Words.{words, joined}
use Rattle.words.specs.declared.Set.TheVariants.{Ascii, Unicode}
use Rattle.tape.specs.File.{Tape, tape_of, node_at, kind_at, text_at_of, info_at, is_synthetic, base_len}
use Rattle.tape.specs.Tree.{children, first_child}
use Rattle.tape.specs.Name.{strip, marker_name}
use Rattle.tape.specs.Found.{Step}
use Rattle.std.specs.Prelude.{None, Some}
use Rattle.render.specs.Shape.{is_text}
use Rattle.render.specs.Children.{first_text_of}
use Rattle.render.specs.Label.{label_of}
use Rattle.render.specs.Note.{lead_text, caller_or, note_caller_of, trimmed_at, category_text_of, written_category, step_text, first_words, book_code_of, book_rest_of, unless_empty, periph_alt}
use Rattle.attrs.specs.Attr.{attributes_of}
use Rattle.attrs.specs.Walk.{first_of}
use Rattle.figure.specs.Figure.{split, field_at, trimmed_text, described_by, valued, legacy_pairs}
use Rattle.fold.specs.Fold.{own_text, texts_of, number_in, claim_of, Folded, is_some, fold_from, fold_at}
use Rattle.fold.specs.declared.Claim.{Claim}
use Rattle.fold.specs.declared.Claim.TheVariants.{Blank, Alt, Pub, Stops}
use Rattle.fold.proofs.Folding.{fold_blank, fold_alt, fold_pub, fold_stops, fold_nil}
use Rattle.admit.specs.Refusal.{Kept₇}
use Rattle.admit.proofs.Gives.{text-length, span_good, source_limit}
use Rattle.events.specs.Event.{rawly, escaped, collected}
use Rattle.events.specs.Walk.{style, unclosed}
use Rattle.bounds.proofs.Items.{attr_cost, attrs_cost}
use Rattle.bounds.proofs.Light.{size_or}
use Rattle.bounds.proofs.Mass.{cost, cost_least, size_of, sizes, mass, count_most, inner_size}
use Rattle.bounds.proofs.Lengths.{weigh, words-weigh, first_most, second_most, joined_most, behind_most, get_most, trim_most, strip_most, split-weigh, name_most}
use Rattle.bounds.proofs.Attributes.{along-cost, first-cost, collected-append}

valued_most : (key value : Bytes) → attrs_cost (collected (valued key value)) ≤ 4 + length key + 6 * length value
unfolding valued collected attrs_cost attr_cost escaped
valued_most key [] = omega arith
valued_most key (x ∷ value) = omega arith

unless_most : (s : Bytes) → size_or (unless_empty s) ≤ length s
unfolding unless_empty size_or
unless_most [] = omega arith
unless_most (x ∷ s) = omega arith

module _ (file : Bytes) (z : Kept₇ file) where
  abbrev t : Tape
  t = tape_of file

  pub text_limit : (k : ℕ) → length (text_at_of t k) ≤ 4194304
  text_limit k = omega (arith, text-length file z k, (span_good file z k).inside, source_limit file z)

  pub name_limit : (k : ℕ) → length (marker_name t k) ≤ 4194304
  unfolding marker_name
  name_limit k = omega (arith, name_most (text_at_of t k), text_limit k)

  pub label_limit : (k : ℕ) → length (label_of t k) ≤ 9000000
  unfolding label_of
  label_limit k =
      let n = marker_name t k in
      let o = drop (base_len (info_at t k)) n in
      omega (arith, second_most o (words Unicode (text_at_of t k)), words-weigh Unicode (text_at_of t k), text_limit k, name_limit k, length-drop (base_len (info_at t k)) n)

  -- ---- words of a first text

  under_limit : (s : Step) → length (step_text t s) ≤ 4194304
  unfolding step_text
  under_limit None = omega arith
  under_limit (Some c) = text_limit c.at

  words_limit : (k : ℕ) → weigh (first_words t k) ≤ 4194305
  unfolding first_words
  words_limit k = omega (arith, words-weigh Unicode (step_text t (first_text_of t k)), under_limit (first_text_of t k))

  pub code_limit : (k : ℕ) → length (book_code_of t k) ≤ 9000000
  unfolding book_code_of
  code_limit k = omega (arith, first_most [] (first_words t k), words_limit k)

  pub rest_limit : (k : ℕ) → length (book_rest_of t k) ≤ 9000000
  unfolding book_rest_of
  rest_limit k = omega (arith, joined_most (drop 1 (first_words t k)), behind_most (first_words t k), words_limit k)

  pub alt_limit : (k : ℕ) → size_or (periph_alt t k) ≤ 9000000
  unfolding periph_alt
  alt_limit k = omega (arith, unless_most (joined (first_words t k)), joined_most (first_words t k), words_limit k)

  lead_limit : (s : Step) → length (lead_text t s) ≤ 4194304
  unfolding lead_text
  lead_limit None = omega arith
  lead_limit (Some c) = go (is_text t c.at)
    where
      go : (x : Bool) → length (cond x (text_at_of t c.at) []) ≤ 4194304
      go true = text_limit c.at
      go false = omega arith

  pub caller_limit : (k : ℕ) → length (note_caller_of t k) ≤ 9000000
  unfolding note_caller_of caller_or
  caller_limit k =
      let s = lead_text t (first_child t k) in
      omega (arith, first_most (b "+") (words Unicode s), words-weigh Unicode s, lead_limit (first_child t k))

  trimmed_limit : (s : Step) → size_or (trimmed_at t s) ≤ 4194304
  unfolding trimmed_at size_or
  trimmed_limit None = omega arith
  trimmed_limit (Some c) = omega (arith, trim_most Unicode (text_at_of t c.at), text_limit c.at)

  pub category_limit : (k : ℕ) → size_or (written_category t k) ≤ 9000000
  unfolding written_category
  category_limit k = omega (arith, trimmed_limit (category_text_of t k))

  -- ---- figures of old

  pub field_limit : (a n : ℕ) → length (field_at t a n) ≤ 4194305
  unfolding field_at
  field_limit a n =
      let s = strip 124 (text_at_of t a) in
      omega (arith, trim_most Unicode (get_or (split 124 s) n []), get_most (split 124 s) n, (split-weigh 124 s).1, strip_most 124 (text_at_of t a), text_limit a)

  described_limit : (s : Step) → length (trimmed_text t s) ≤ 4194304
  unfolding trimmed_text
  described_limit None = omega arith
  described_limit (Some c) = omega (arith, trim_most Unicode (text_at_of t c.at), text_limit c.at)

  by_limit : (k : ℕ) → length (described_by t k) ≤ 4194304
  unfolding described_by
  by_limit k = described_limit (first_text_of t k)

  field_cost : (key : Bytes) (a n : ℕ) → attrs_cost (collected (valued key (field_at t a n))) ≤ 26000000 + length key
  field_cost key a n = omega (arith, valued_most key (field_at t a n), field_limit a n)

  pub legacy_limit : (k a : ℕ) → attrs_cost (collected (legacy_pairs t k a)) ≤ 200000000
  unfolding legacy_pairs
  legacy_limit k a =
      let file = valued (b "file") (field_at t a 0) in
      let size = valued (b "size") (field_at t a 1) in
      let loc = valued (b "loc") (field_at t a 2) in
      let copy = valued (b "copy") (field_at t a 3) in
      let ref = valued (b "ref") (field_at t a 5) in
      omega (
        arith,
        valued_most (b "alt") (described_by t k),
        by_limit k,
        field_cost (b "file") a 0,
        field_cost (b "size") a 1,
        field_cost (b "loc") a 2,
        field_cost (b "copy") a 3,
        field_cost (b "ref") a 5,
        collected-append (valued (b "alt") (described_by t k)) (file ++ (size ++ (loc ++ (copy ++ ref)))),
        collected-append file (size ++ (loc ++ (copy ++ ref))),
        collected-append size (loc ++ (copy ++ ref)),
        collected-append loc (copy ++ ref),
        collected-append copy ref,
      )

  -- ---- attributes

  pub attributes_limit : (k : ℕ) (m : Bytes) → attrs_cost (collected (attributes_of t k m)) ≤ 50000000 * sizes t (children t k)
  unfolding attributes_of
  attributes_limit k m = omega (arith, along-cost t m text_limit (children t k), count_most file z (children t k))

  pub first_limit : (key : Bytes) (k : ℕ) (m : Bytes) → size_or (first_of key (attributes_of t k m)) ≤ 50000000 * sizes t (children t k)
  first_limit key k m = omega (arith, first-cost key (attributes_of t k m), attributes_limit k m)

  pub style_limit : (k : ℕ) → attr_cost (style t k) ≤ 30000000
  unfolding style rawly attr_cost
  style_limit k = omega (arith, name_limit k)

  pub unclosed_limit : (k : ℕ) → attrs_cost (unclosed t k) ≤ 100
  unfolding unclosed escaped attrs_cost attr_cost
  unclosed_limit k = go (is_synthetic t (node_at t k).link)
    where
      go : (x : Bool) → attrs_cost (cond x (escaped (b "closed") (b "false") ∷ []) []) ≤ 100
      go true = omega arith
      go false = omega arith

  -- ---- folded numbers

  piece_limit : (k : ℕ) → length (own_text t k) ≤ 4194304
  unfolding own_text
  piece_limit k = go (eqb (kind_at t k) 1)
    where
      go : (x : Bool) → length (cond x (text_at_of t k) []) ≤ 4194304
      go true = text_limit k
      go false = omega arith

  pieces_limit : (ks : List ℕ) → length (texts_of t ks) ≤ 4194304 * length ks
  unfolding texts_of
  pieces_limit [] = omega arith
  pieces_limit (k ∷ ks) = omega (arith, pieces_limit ks, piece_limit k, length-append (own_text t k) (texts_of t ks))

  number_limit : (k : ℕ) → length (number_in t k) ≤ 4194304 * size_of t k
  unfolding number_in
  number_limit k =
      let s = texts_of t (children t k) in
      omega (arith, joined_most (words Ascii s), words-weigh Ascii s, pieces_limit (children t k), count_most file z (children t k), inner_size file z k)

  some_size : (s : Bytes) → size_or (some s) ≡ length s
  unfolding size_or
  some_size s = refl

  none_size : size_or none ≡ 0
  unfolding size_or
  none_size = refl

  mass-more : (d k : ℕ) (ks : List ℕ) → mass t d (k ∷ ks) ≡ cost d (size_of t k) + mass t d ks
  unfolding mass
  mass-more d k ks = refl

  -- numbers cost no more than the nodes that are folded
  fold_most : (d kind : ℕ) (alt published : Option Bytes) (ks : List ℕ)
      → 6 * (size_or (fold_from t kind alt published ks).alt + size_or (fold_from t kind alt published ks).published) + mass t d (fold_from t kind alt published ks).rest
      ≤ 6 * (size_or alt + size_or published) + mass t d ks
  fold_most d kind alt published [] = rw (fold_nil t kind alt published) (omega arith)
  fold_most d kind alt published (k ∷ ks) = go (claim_of t kind (is_some alt) (is_some published) k) refl (λ a p. fold_most d kind a p ks)
    where
      Most : Folded → Option Bytes → Option Bytes → List ℕ → Type 0
      Most f a p ks = 6 * (size_or f.alt + size_or f.published) + mass t d f.rest ≤ 6 * (size_or a + size_or p) + mass t d ks

      go : (c : Claim) → c ≡ claim_of t kind (is_some alt) (is_some published) k
          → ((a p : Option Bytes) → Most (fold_from t kind a p ks) a p ks) → Most (fold_from t kind alt published (k ∷ ks)) alt published (k ∷ ks)
      go Blank e h = rw (fold_blank t kind alt published k ks e refl) (omega (arith, h alt published, mass-more d k ks))
      go Alt e h =
          rw (fold_alt t kind alt published k ks e refl)
          (omega (arith, h (some (number_in t k)) published, mass-more d k ks, some_size (number_in t k), number_limit k, cost_least d (size_of t k)))
      go Pub e h =
          rw (fold_pub t kind alt published k ks e refl)
          (omega (arith, h alt (some (number_in t k)), mass-more d k ks, some_size (number_in t k), number_limit k, cost_least d (size_of t k)))
      go Stops e h = rw (fold_stops t kind alt published k ks e refl) (omega arith)

  pub fold_limit : (d kind : ℕ) (ks : List ℕ) → 6 * (size_or (fold_at t kind ks).alt + size_or (fold_at t kind ks).published) + mass t d (fold_at t kind ks).rest ≤ mass t d ks
  unfolding fold_at
  fold_limit d kind ks = omega (arith, fold_most d kind none none ks, none_size)
