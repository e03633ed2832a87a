-- What a node is at block level, and the turns that enter no sidebar and no periph.
use mathlib.Core.Path.{◌≡◌, refl, sym, ap, ◌∙◌}
use mathlib.Core.Bool.{Bool, true, false, cond, ◌||◌}
use mathlib.Core.List.{List, [], ◌∷◌, ◌++◌}
use Prim.Native.Nat.{ℕ, ◌≤◌, ◌<◌}
use native.Mathlib.Omega.{arith}
use Rattle.parts.specs.Bytes.{Bytes, b}
use Rattle.tape.specs.File.{Tape, kind_at, info_at, number_at}
use Rattle.tape.specs.Tree.{next_sibling, up_to, left, from_first}
use Rattle.tape.specs.declared.Cursor.{Cursor}
use Rattle.tape.specs.declared.kinds.Kind.{Kind}
use Rattle.tape.specs.Found.{Step}
use Rattle.std.specs.Prelude.{Some}
use Rattle.tape.proofs.Walk.{left-turn, up_to_go}
use Rattle.render.specs.Shape.{is_row, is_chapter_of, is_verse_of, is_element_of, is_top_level_block_of}
use Rattle.render.proofs.Shapes.{kind_is, kind_not}
use Rattle.fold.specs.Fold.{Folded, fold_at, folded_number}
use Rattle.lists.specs.Span.{nodes_in, member_of_of, folded_in, cut_by, run_end_of, folds_at}
use Rattle.lists.specs.declared.Span.{Span}
use Rattle.lists.specs.declared.Member.TheVariants.{Listed}
use Rattle.lists.specs.declared.Stop.TheVariants.{Block, NoRow}
use Rattle.lists.specs.declared.Folds.{Folds}
use Rattle.lists.proofs.Nodes.{nodes_go}
use Rattle.tags.specs.Items.{start, close, line}
use Rattle.events.specs.Event.{Event, item, chapter, rawly, element}
use Rattle.events.specs.Walk.{styled, Place, a_row_of, a_chapter_of, a_sidebar_of, a_periph_of, a_block, a_verse_of, dropped, place_of, is_figure, node_in_of, inside, inline_all, table_e, block_turn, blocks_all_of, blocks_on}
use Rattle.events.specs.Emit.{Desk, emit, emit_all}
use Rattle.events.proofs.Emits.{between, then, besides_on}
use Rattle.events.proofs.Turns.{blocks_turn}
use Rattle.desk.specs.Desk.{desk_of}
use Rattle.desk.specs.Stroke.{opens, key, piece, end_value_of, ends, closes, strokes_of_attr, strokes_of_attrs, strokes_of, Drew}
use Rattle.desk.proofs.Strokes.{drew_two, drew_item}
use Rattle.inline_turns.specs.Turn.{behind_of}
use Rattle.inline_turns.specs.declared.Behind.TheVariants.{Ends}
use Rattle.tables.specs.Rows.{is_no_row}
use Rattle.tables.proofs.Spans.{up-row}
use Rattle.blocks.specs.Blocks.{holder_of, run_opens, run_in, uncut, step_behind}
use Rattle.blocks.specs.declared.Holder.TheVariants.{Sidebar, Periph, Neither}
use Rattle.desk.specs.declared.Desk.{Desk as Held}

-- ---- places

no_side : Neither ≡ Sidebar → ⊥
no_side e = let no_way : ◌≡◌ {A = ℕ} 0 1 = cc in omega arith

no_peri : Neither ≡ Periph → ⊥
no_peri e = let no_way : ◌≡◌ {A = ℕ} 0 1 = cc in omega arith

not_both : Periph ≡ Sidebar → ⊥
not_both e = let no_way : ◌≡◌ {A = ℕ} 0 1 = cc in omega arith

module _ (t : Tape) (k : ℕ) where
  abbrev others : Place
  others = cond (is_top_level_block_of t k) a_block (cond (is_verse_of t k) a_verse_of dropped)

  pub place_side : holder_of t k ≡ Sidebar → place_of t k ≡ a_sidebar_of
  unfolding holder_of place_of
  place_side e = go (is_row t k) (is_chapter_of t k) (is_element_of 1 (info_at t k)) (is_element_of 2 (info_at t k)) e
    where
      go : (r c p q : Bool) → cond (r || c) Neither (cond p Sidebar (cond q Periph Neither)) ≡ Sidebar
          → cond r a_row_of (cond c a_chapter_of (cond p a_sidebar_of (cond q a_periph_of others))) ≡ a_sidebar_of
      go true c p q h = absurd (no_side h)
      go false true p q h = absurd (no_side h)
      go false false true q h = refl
      go false false false true h = absurd (not_both h)
      go false false false false h = absurd (no_side h)

  pub place_peri : holder_of t k ≡ Periph → place_of t k ≡ a_periph_of
  unfolding holder_of place_of
  place_peri e = go (is_row t k) (is_chapter_of t k) (is_element_of 1 (info_at t k)) (is_element_of 2 (info_at t k)) e
    where
      go : (r c p q : Bool) → cond (r || c) Neither (cond p Sidebar (cond q Periph Neither)) ≡ Periph
          → cond r a_row_of (cond c a_chapter_of (cond p a_sidebar_of (cond q a_periph_of others))) ≡ a_periph_of
      go true c p q h = absurd (no_peri h)
      go false true p q h = absurd (no_peri h)
      go false false true q h = absurd (not_both (sym h))
      go false false false true h = refl
      go false false false false h = absurd (no_peri h)

  place_others : is_row t k ≡ false → is_chapter_of t k ≡ false → holder_of t k ≡ Neither → place_of t k ≡ others
  unfolding holder_of place_of
  place_others nr nc e = go (is_row t k) (is_chapter_of t k) (is_element_of 1 (info_at t k)) (is_element_of 2 (info_at t k)) nr nc e
    where
      go : (r c p q : Bool) → r ≡ false → c ≡ false → cond (r || c) Neither (cond p Sidebar (cond q Periph Neither)) ≡ Neither
          → cond r a_row_of (cond c a_chapter_of (cond p a_sidebar_of (cond q a_periph_of others))) ≡ others
      go true c p q hr hc h = absurd (let no_way : ◌≡◌ {A = ℕ} 0 1 = cc in omega arith)
      go false true p q hr hc h = absurd (let no_way : ◌≡◌ {A = ℕ} 0 1 = cc in omega arith)
      go false false true q hr hc h = absurd (no_side (sym h))
      go false false false true hr hc h = absurd (no_peri (sym h))
      go false false false false hr hc h = refl

  place_row : is_row t k ≡ true → place_of t k ≡ a_row_of
  unfolding place_of
  place_row h = rw h

  place_chapter : is_row t k ≡ false → is_chapter_of t k ≡ true → place_of t k ≡ a_chapter_of
  unfolding place_of
  place_chapter hr h = rw (hr, h)

-- ---- a chapter

pub chapter-turn : (t : Tape) (span : Span) (k d level : ℕ) {z : Kind} {n : Step} (f : Folds) {m : ℕ} → z.code ≡ 6 → n ≡ next_sibling t k
    → folded_in t span f ≡ fold_at t z.code (nodes_in t span n) → (at a : ℕ) (desk da : Held) (out mid : Bytes) {r : Desk}
    → ((source : Bytes) → desk_of source da mid ≡ emit (desk_of source desk out) (item (line level))) → m ≡ number_at t k
    → r ≡ emit (desk_of t.source da mid) (chapter m (folded_number t f.alt) (folded_number t f.published))
    → (B : List ℕ → List Event)
    → emit_all r (blocks_all_of B t d level (nodes_in t span f.rest)) ≡ emit_all (desk_of t.source desk out) (blocks_on B t d level k (nodes_in t span (next_sibling t k)) a_chapter_of)
unfolding blocks_on block_turn folded_in emit_all
chapter-turn t span k d level {z} {n} f {m} ez en ef at a desk da out mid {r} ea em er B =
    let g : Folded = fold_at t 6 (nodes_in t span (next_sibling t k)) in
    let same : folded_in t span f ≡ g = ef ∙ rw (ez, en) in
    let s : Desk = desk_of t.source desk out in
    ap (λ (u : Desk). emit_all u (blocks_all_of B t d level (nodes_in t span f.rest)))
    (er ∙ ap (λ (u : Desk). emit u (chapter m (folded_number t f.alt) (folded_number t f.published))) (ea t.source))
    ∙ ap (λ (i : ℕ). emit_all (emit (emit s (item (line level))) (chapter i (folded_number t f.alt) (folded_number t f.published))) (blocks_all_of B t d level (nodes_in t span f.rest))) em
    ∙ ap (λ (h : Folded). emit_all (emit (emit s (item (line level))) (chapter (number_at t k) h.alt h.published)) (blocks_all_of B t d level h.rest)) same

pub left-past : (t : Tape) (c : Cursor) {n : Step} (r : Step) → n ≡ next_sibling t c.at → left t r ≤ left t n → left t r < left t (Some c)
left-past t c r en h = omega (arith, left-turn t c refl en)

pub left-next : (t : Tape) (c : Cursor) {n : Step} → n ≡ next_sibling t c.at → left t n < left t (Some c)
left-next t c en = left-turn t c refl en

-- ---- a block

pub block-step : (t : Tape) (span : Span) (k d level : ℕ) {e : ℕ} {n : Step} → (at a : ℕ) (desk da : Held) (out mid : Bytes) {r : Desk}
    → ((source : Bytes) → desk_of source da mid ≡ emit (desk_of source desk out) (item (line level)))
    → e ≡ d → r ≡ emit_all (desk_of t.source da mid) (node_in_of (inside t e) t k false) → n ≡ next_sibling t k
    → (B : List ℕ → List Event) → emit_all r (blocks_all_of B t d level (nodes_in t span n)) ≡ emit_all (desk_of t.source desk out) (blocks_on B t d level k (nodes_in t span (next_sibling t k)) a_block)
unfolding blocks_on block_turn emit_all
block-step t span k d level {n = n} at a desk da out mid {r} ea ed er en B =
    ap (λ (u : Step). emit_all r (blocks_all_of B t d level (nodes_in t span u))) en
    ∙ then (desk_of t.source da mid) (node_in_of (inside t d) t k false) (blocks_all_of B t d level (nodes_in t span (next_sibling t k)))
    (er ∙ ap (λ (j : ℕ). emit_all (desk_of t.source da mid) (node_in_of (inside t j) t k false)) ed)
    ∙ ap (λ (u : Desk). emit_all u (node_in_of (inside t d) t k false ++ blocks_all_of B t d level (nodes_in t span (next_sibling t k)))) (ea t.source)
    ∙ besides_on (desk_of t.source desk out) (is_figure t (info_at t k)) (item (line level) ∷ node_in_of (inside t d) t k false) (blocks_all_of B t d level (nodes_in t span (next_sibling t k)))

-- ---- a verse

run-nodes : (t : Tape) (sifted : Bool) (c : Cursor) → member_of_of t (uncut sifted) c.at ≡ Listed → is_top_level_block_of t c.at ≡ false
    → nodes_in t (record { cut = true; sifted = sifted }) (Some c) ≡ c.at ∷ up_to (is_top_level_block_of t) (nodes_in t (uncut sifted) (next_sibling t c.at))
unfolding nodes_in cut_by
run-nodes t sifted c hm hb =
    ap (up_to (is_top_level_block_of t)) (nodes_go t (uncut sifted) refl (sym hm) refl refl)
    ∙ up_to_go (is_top_level_block_of t) c.at (nodes_in t (uncut sifted) (next_sibling t c.at)) hb

pub run_opened : (l at : ℕ) (d d₁ d₂ d₃ : Held) (out : Bytes) {o₁ o₂ last : Bytes} → ((source : Bytes) → desk_of source d₁ o₁ ≡ emit (desk_of source d out) (item (line l)))
    → Drew d₁ o₁ (opens 5 ∷ key (b "style") ∷ piece true (b "p") ∷ end_value_of ∷ []) d₂ o₂ → Drew d₂ o₂ (ends ∷ []) d₃ last
    → (source : Bytes) → desk_of source d₃ last ≡ emit_all (desk_of source d out) (run_opens l)
unfolding run_opens emit_all strokes_of strokes_of_attrs strokes_of_attr styled rawly
run_opened l at d d₁ d₂ d₃ out ea e₁ e₂ source =
    drew_item d₁ d₃ (start 5 (styled (b "p"))) (drew_two d₁ d₂ d₃ e₁ e₂) source ∙ ap (λ (u : Desk). emit u (item (start 5 (styled (b "p"))))) (ea source)

pub run_whole : (t : Tape) (sifted : Bool) (c : Cursor) (d level : ℕ) {j : ℕ} (at a e r : ℕ) (desk da de dr : Held) (out mid now last : Bytes)
    → ((source : Bytes) → desk_of source da mid ≡ emit_all (desk_of source desk out) (run_opens level)) → j ≡ d
    → desk_of t.source de now ≡ emit_all (desk_of t.source da mid) (inline_all (node_in_of (inside t j) t) t (behind_of t c false Ends) true (nodes_in t (record { cut = true; sifted = sifted }) (Some c)))
    → Drew de now (closes 5 ∷ []) dr last
    → member_of_of t (uncut sifted) c.at ≡ Listed → is_top_level_block_of t c.at ≡ false
    → desk_of t.source dr last ≡ emit_all (desk_of t.source desk out) (run_in t d level c.at (nodes_in t (uncut sifted) (next_sibling t c.at)))
unfolding run_opens run_in element emit_all behind_of strokes_of
run_whole t sifted c d level at a e r desk da de dr out mid now last ea ed ee er hm hb =
    between (desk_of t.source desk out) (run_opens level) (inline_all (node_in_of (inside t d) t) t false true (c.at ∷ up_to (is_top_level_block_of t) (nodes_in t (uncut sifted) (next_sibling t c.at)))) (item (close 5) ∷ [])
    (ea t.source)
    (ee ∙ ap (λ (i : ℕ). emit_all (desk_of t.source da mid) (inline_all (node_in_of (inside t i) t) t false true (nodes_in t (record { cut = true; sifted = sifted }) (Some c)))) ed
    ∙ ap (λ (is : List ℕ). emit_all (desk_of t.source da mid) (inline_all (node_in_of (inside t d) t) t false true is)) (run-nodes t sifted c hm hb))
    (drew_item de dr (close 5) er t.source)

pub verse-turn : (t : Tape) (sifted : Bool) (c : Cursor) (d level : ℕ) (s r : Desk)
    → (member_of_of t (uncut sifted) c.at ≡ Listed → is_top_level_block_of t c.at ≡ false → r ≡ emit_all s (run_in t d level c.at (nodes_in t (uncut sifted) (next_sibling t c.at))))
    → {n : Step} → n ≡ next_sibling t c.at → (m : Step) → nodes_in t (uncut sifted) m ≡ from_first (is_top_level_block_of t) (nodes_in t (uncut sifted) n)
    → member_of_of t (uncut sifted) c.at ≡ Listed → is_top_level_block_of t c.at ≡ false → (B : List ℕ → List Event)
    → emit_all r (blocks_all_of B t d level (nodes_in t (uncut sifted) m)) ≡ emit_all s (blocks_on B t d level c.at (nodes_in t (uncut sifted) (next_sibling t c.at)) a_verse_of)
unfolding blocks_on block_turn run_in
verse-turn t sifted c d level s r er {n} en m em hm hb B =
    ap (λ (is : List ℕ). emit_all r (blocks_all_of B t d level is)) (em ∙ ap (λ (u : Step). from_first (is_top_level_block_of t) (nodes_in t (uncut sifted) u)) en)
    ∙ then s (run_in t d level c.at (nodes_in t (uncut sifted) (next_sibling t c.at))) (blocks_all_of B t d level (from_first (is_top_level_block_of t) (nodes_in t (uncut sifted) (next_sibling t c.at)))) (er hm hb)

-- ---- a turn by its place

turn_at : (t : Tape) (span : Span) (c : Cursor) (d level : ℕ) (B : List ℕ → List Event) (p : Place) → member_of_of t span c.at ≡ Listed → place_of t c.at ≡ p
    → blocks_all_of B t d level (nodes_in t span (Some c)) ≡ blocks_on B t d level c.at (nodes_in t span (next_sibling t c.at)) p
turn_at t span c d level B p hm hp =
    ap (blocks_all_of B t d level) (nodes_go t span refl (sym hm) refl refl)
    ∙ blocks_turn B t d level c.at (nodes_in t span (next_sibling t c.at))
    ∙ ap (blocks_on B t d level c.at (nodes_in t span (next_sibling t c.at))) hp

-- the same with what a turn wrote
pub turn_by : (t : Tape) (span : Span) (c : Cursor) (d level : ℕ) (B : List ℕ → List Event) (p : Place) (s : Desk) {x : Desk} → member_of_of t span c.at ≡ Listed → place_of t c.at ≡ p
    → x ≡ emit_all s (blocks_on B t d level c.at (nodes_in t span (next_sibling t c.at)) p) → x ≡ emit_all s (blocks_all_of B t d level (nodes_in t span (Some c)))
turn_by t span c d level B p s hm hp ex = ex ∙ ap (emit_all s) (sym (turn_at t span c d level B p hm hp))

module _ (t : Tape) (span : Span) (c : Cursor) (d level : ℕ) (s : Desk) {x : Bool} (ex : x ≡ is_row t c.at) where
  pub row_step : x ≡ true → {r : Desk} {n : Step} (m : Step) → r ≡ emit_all s (table_e t d level (up_to (is_no_row t) (nodes_in t span (Some c)))) → n ≡ next_sibling t c.at
      → nodes_in t span m ≡ from_first (is_no_row t) (nodes_in t span n)
      → member_of_of t span c.at ≡ Listed → holder_of t c.at ≡ Neither → (B : List ℕ → List Event)
      → emit_all r (blocks_all_of B t d level (nodes_in t span m)) ≡ emit_all s (blocks_all_of B t d level (nodes_in t span (Some c)))
  unfolding blocks_on block_turn
  row_step hx {r} {n} m er en em hm hn B = turn_by t span c d level B a_row_of s hm (place_row t c.at (sym ex ∙ hx)) body
    where
      rows : up_to (is_no_row t) (nodes_in t span (Some c)) ≡ c.at ∷ up_to (is_no_row t) (nodes_in t span (next_sibling t c.at))
      rows = ap (up_to (is_no_row t)) (nodes_go t span refl (sym hm) refl refl) ∙ up-row t c.at (nodes_in t span (next_sibling t c.at)) (sym ex ∙ hx)

      body : emit_all r (blocks_all_of B t d level (nodes_in t span m)) ≡ emit_all s (blocks_on B t d level c.at (nodes_in t span (next_sibling t c.at)) a_row_of)
      body =
          ap (λ (ks : List ℕ). emit_all r (blocks_all_of B t d level ks)) (em ∙ ap (λ (u : Step). from_first (is_no_row t) (nodes_in t span u)) en)
          ∙ then s (table_e t d level (c.at ∷ up_to (is_no_row t) (nodes_in t span (next_sibling t c.at)))) (blocks_all_of B t d level (from_first (is_no_row t) (nodes_in t span (next_sibling t c.at))))
          (er ∙ ap (λ (ks : List ℕ). emit_all s (table_e t d level ks)) rows)

  module _ (hx : x ≡ false) {z : Kind} (ek : z.code ≡ kind_at t c.at) (r : Desk) (m : Step) where
    pub chapter-step : z.code ≡ 6
        → ((B : List ℕ → List Event) → emit_all r (blocks_all_of B t d level (nodes_in t span m)) ≡ emit_all s (blocks_on B t d level c.at (nodes_in t span (next_sibling t c.at)) a_chapter_of))
        → member_of_of t span c.at ≡ Listed → holder_of t c.at ≡ Neither → (B : List ℕ → List Event)
        → emit_all r (blocks_all_of B t d level (nodes_in t span m)) ≡ emit_all s (blocks_all_of B t d level (nodes_in t span (Some c)))
    chapter-step h er hm hn B = turn_by t span c d level B a_chapter_of s hm (place_chapter t c.at (sym ex ∙ hx) (kind_is t c.at ek 6 h)) (er B)

    module _ (n₆ : z.code ≡ 6 → ⊥) {y : Bool} (ey : y ≡ is_top_level_block_of t c.at) where
      other_place : holder_of t c.at ≡ Neither → {p : Place} → cond (is_top_level_block_of t c.at) a_block (cond (is_verse_of t c.at) a_verse_of dropped) ≡ p → place_of t c.at ≡ p
      other_place hn e = place_others t c.at (sym ex ∙ hx) (kind_not t c.at ek 6 n₆) hn ∙ e

      pub block-found : y ≡ true
          → ((B : List ℕ → List Event) → emit_all r (blocks_all_of B t d level (nodes_in t span m)) ≡ emit_all s (blocks_on B t d level c.at (nodes_in t span (next_sibling t c.at)) a_block))
          → member_of_of t span c.at ≡ Listed → holder_of t c.at ≡ Neither → (B : List ℕ → List Event)
          → emit_all r (blocks_all_of B t d level (nodes_in t span m)) ≡ emit_all s (blocks_all_of B t d level (nodes_in t span (Some c)))
      block-found h er hm hn B = turn_by t span c d level B a_block s hm (other_place hn (rw (sym ey ∙ h))) (er B)

      pub verse-step : y ≡ false → z.code ≡ 7
          → (member_of_of t span c.at ≡ Listed → is_top_level_block_of t c.at ≡ false → (B : List ℕ → List Event)
          → emit_all r (blocks_all_of B t d level (nodes_in t span m)) ≡ emit_all s (blocks_on B t d level c.at (nodes_in t span (next_sibling t c.at)) a_verse_of))
          → member_of_of t span c.at ≡ Listed → holder_of t c.at ≡ Neither → (B : List ℕ → List Event)
          → emit_all r (blocks_all_of B t d level (nodes_in t span m)) ≡ emit_all s (blocks_all_of B t d level (nodes_in t span (Some c)))
      verse-step hy h er hm hn B =
          turn_by t span c d level B a_verse_of s hm (other_place hn (rw (sym ey ∙ hy, kind_is t c.at ek 7 h))) (er hm (sym ey ∙ hy) B)

  pub drop-step : x ≡ false → {z : Kind} → z.code ≡ kind_at t c.at → (z.code ≡ 6 → ⊥) → {y : Bool} → y ≡ is_top_level_block_of t c.at → y ≡ false
      → (z.code ≡ 7 → ⊥) → {m : Step} → m ≡ next_sibling t c.at
      → member_of_of t span c.at ≡ Listed → holder_of t c.at ≡ Neither → (B : List ℕ → List Event)
      → emit_all s (blocks_all_of B t d level (nodes_in t span m)) ≡ emit_all s (blocks_all_of B t d level (nodes_in t span (Some c)))
  unfolding blocks_on block_turn
  drop-step hx ek n₆ ey hy n₇ {m} em hm hn B =
      turn_by t span c d level B dropped s hm
      (place_others t c.at (sym ex ∙ hx) (kind_not t c.at ek 6 n₆) hn ∙ rw (sym ey ∙ hy, kind_not t c.at ek 7 n₇)) body
    where
      body : emit_all s (blocks_all_of B t d level (nodes_in t span m)) ≡ emit_all s (blocks_on B t d level c.at (nodes_in t span (next_sibling t c.at)) dropped)
      body = ap (λ (u : Step). emit_all s (blocks_all_of B t d level (nodes_in t span u))) em

-- ---- the step behind a node

pub behind-chapter : (t : Tape) (span : Span) (k : ℕ) {z : Kind} → z.code ≡ 6 → {n : Step} → n ≡ next_sibling t k → (f : Folds) → f ≡ folds_at t span z.code n
    → f.rest ≡ step_behind t span k a_chapter_of
unfolding step_behind
behind-chapter t span k ez en f e = ap (λ (h : Folds). h.rest) e ∙ rw (ez, en)

module _ (t : Tape) (span : Span) (k : ℕ) {n : Step} (en : n ≡ next_sibling t k) where
  pub behind-run : {m : Step} → m ≡ run_end_of t span Block n → m ≡ step_behind t span k a_verse_of
  unfolding step_behind
  behind-run e = e ∙ rw en

  pub behind-block : n ≡ step_behind t span k a_block
  unfolding step_behind
  behind-block = en

module _ (t : Tape) (span : Span) (k : ℕ) {x : Bool} (ex : x ≡ is_row t k) where
  pub row-behind : x ≡ true → {n m : Step} → n ≡ next_sibling t k → m ≡ run_end_of t span NoRow n → holder_of t k ≡ Neither → m ≡ step_behind t span k (place_of t k)
  unfolding step_behind
  row-behind hx en em hn = rw (place_row t k (sym ex ∙ hx)) (em ∙ rw en)

  module _ (hx : x ≡ false) {z : Kind} (ek : z.code ≡ kind_at t k) {m : Step} where
    pub chapter-behind : z.code ≡ 6 → m ≡ step_behind t span k a_chapter_of → holder_of t k ≡ Neither → m ≡ step_behind t span k (place_of t k)
    chapter-behind h em hn = rw (place_chapter t k (sym ex ∙ hx) (kind_is t k ek 6 h)) em

    module _ (n₆ : z.code ≡ 6 → ⊥) {y : Bool} (ey : y ≡ is_top_level_block_of t k) where
      pub block-behind : y ≡ true → m ≡ step_behind t span k a_block → holder_of t k ≡ Neither → m ≡ step_behind t span k (place_of t k)
      block-behind hy em hn = rw (place_others t k (sym ex ∙ hx) (kind_not t k ek 6 n₆) hn, sym ey ∙ hy) em

      pub verse-behind : y ≡ false → z.code ≡ 7 → m ≡ step_behind t span k a_verse_of → holder_of t k ≡ Neither → m ≡ step_behind t span k (place_of t k)
      verse-behind hy h em hn = rw (place_others t k (sym ex ∙ hx) (kind_not t k ek 6 n₆) hn, sym ey ∙ hy, kind_is t k ek 7 h) em

      pub drop-behind : y ≡ false → (z.code ≡ 7 → ⊥) → m ≡ next_sibling t k → holder_of t k ≡ Neither → m ≡ step_behind t span k (place_of t k)
      unfolding step_behind
      drop-behind hy n₇ em hn = rw (place_others t k (sym ex ∙ hx) (kind_not t k ek 6 n₆) hn, sym ey ∙ hy, kind_not t k ek 7 n₇) em
