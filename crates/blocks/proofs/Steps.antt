-- What a sidebar or periph, the blocks inside it and a turn along blocks emit.
use mathlib.Core.Path.{◌≡◌, refl, sym, ap, ◌∙◌}
use mathlib.Core.Bool.{Bool, true, false, cond}
use mathlib.Core.List.{List, [], ◌∷◌, ◌++◌}
use Prim.Native.Nat.{ℕ, zero, suc, ◌+◌, ◌-◌}
use native.Mathlib.Omega.{arith}
use Rattle.parts.specs.Bytes.{Bytes}
use Rattle.tape.specs.File.{Tape}
use Rattle.tape.specs.Tree.{next_sibling, first_child, children}
use Rattle.tape.specs.declared.Cursor.{Cursor}
use Rattle.tape.specs.Found.{Step}
use Rattle.std.specs.Prelude.{None, Some}
use Rattle.render.specs.First.{any}
use Rattle.lists.specs.Span.{nodes_in, member_of_of, cut_by, filtered}
use Rattle.lists.specs.declared.Span.{Span}
use Rattle.lists.specs.declared.Member.{Member}
use Rattle.lists.specs.declared.Member.TheVariants.{End, Skipped, Listed}
use Rattle.lists.proofs.Nodes.{nodes_done, nodes-cut, nodes_skip}
use Rattle.tags.specs.Items.{start, empty, close, line}
use Rattle.events.specs.Event.{Event, item}
use Rattle.events.specs.Walk.{holder, sidebar_in, periph_in, blocks_e, a_sidebar_of, a_periph_of, block_turn, blocks_all_of, blocks_on}
use Rattle.events.specs.Emit.{Desk, emit, emit_all}
use Rattle.events.proofs.Turns.{blocks_none}
use Rattle.events.proofs.Emits.{between, then}
use Rattle.desk.specs.Desk.{desk_of}
use Rattle.tables.specs.Rows.{depth_at}
use Rattle.holders.specs.Holders.{is_block_or_row, sidebar_attrs, periph_attrs, attrs_of, element_no}
use Rattle.blocks.specs.Blocks.{uncut, holder_of, below, holder_in}
use Rattle.blocks.specs.declared.Holder.{Holder}
use Rattle.blocks.specs.declared.Holder.TheVariants.{Sidebar, Periph, Neither}
use Rattle.blocks.proofs.Places.{place_side, place_peri, turn_by}
use Rattle.desk.specs.declared.Desk.{Desk as Held}

-- ---- by depth

blocks_all : (t : Tape) (d level : ℕ) (ks : List ℕ) → blocks_all_of (below t d level) t d level ks ≡ blocks_e t d level ks
unfolding blocks_all_of blocks_e below
blocks_all t zero level ks = refl
blocks_all t (suc d) level ks = refl

module _ (t : Tape) (ks : List ℕ) (s : Desk) (level : ℕ) {d : ℕ} (ed : d ≡ depth_at level) where
  pub inner-zero : d ≡ 0 → s ≡ emit_all s (below t (depth_at level) level ks)
  unfolding below emit_all
  inner-zero h = rw (sym ed ∙ h)

  pub inner_deep : (d ≡ 0 → ⊥) → {r : Desk} → r ≡ emit_all s (blocks_e t (depth_at (level + 1)) (level + 1) ks) → r ≡ emit_all s (below t (depth_at level) level ks)
  unfolding below
  inner_deep h er =
      let deeper : 65 - level ≡ suc (65 - (level + 1)) = omega arith in
      er ∙ sym (ap (λ (j : ℕ). emit_all s (below t j level ks)) deeper)

-- ---- a sidebar or periph

-- its blocks between its tags
pub held_whole : (t : Tape) (k d level : ℕ) (sidebar : Bool) (s : Desk) {a : Desk} {first : Step} (de dr : Held) (mid last : Bytes)
    → a ≡ emit s (item (start (element_no sidebar) (attrs_of t k sidebar))) → first ≡ first_child t k
    → desk_of t.source de mid ≡ emit_all a (below t d level (nodes_in t (uncut sidebar) first))
    → ((source : Bytes) → desk_of source dr last ≡ emit_all (desk_of source de mid) (item (line level) ∷ item (close (element_no sidebar)) ∷ []))
    → desk_of t.source dr last
    ≡ emit_all s (item (start (element_no sidebar) (attrs_of t k sidebar)) ∷ (below t d level (nodes_in t (uncut sidebar) (first_child t k)) ++ (item (line level) ∷ item (close (element_no sidebar)) ∷ [])))
unfolding emit_all
held_whole t k d level sidebar s {a} {first} de dr mid last ea ef ee er =
    between s (item (start (element_no sidebar) (attrs_of t k sidebar)) ∷ []) (below t d level (nodes_in t (uncut sidebar) (first_child t k))) (item (line level) ∷ item (close (element_no sidebar)) ∷ [])
    ea (ee ∙ ap (λ (u : Step). emit_all a (below t d level (nodes_in t (uncut sidebar) u))) ef)
    (er t.source)

emit_one : (a : Desk) {r : Desk} (e : Event) → r ≡ emit a e → r ≡ emit_all a (e ∷ [])
unfolding emit_all
emit_one a e h = h

held_by : (t : Tape) (d level : ℕ) (sidebar : Bool) (k : ℕ) → holder_in t d level sidebar k
    ≡ cond (any (is_block_or_row t) (nodes_in t (uncut sidebar) (first_child t k)))
    (item (start (element_no sidebar) (attrs_of t k sidebar)) ∷ (below t d level (nodes_in t (uncut sidebar) (first_child t k)) ++ (item (line level) ∷ item (close (element_no sidebar)) ∷ [])))
    (item (empty (element_no sidebar) (attrs_of t k sidebar)) ∷ [])
unfolding holder_in sidebar_in periph_in holder element_no attrs_of sidebar_attrs periph_attrs nodes_in cut_by filtered children is_block_or_row
held_by t d level true k = refl
held_by t d level false k = refl

module _ (t : Tape) (k d level : ℕ) (sidebar : Bool) (a : ℕ) (desk da : Held) (out mid : Bytes)
    (ea : (source : Bytes) → desk_of source da mid ≡ emit (desk_of source desk out) (item (line level))) {first : Step} (ef : first ≡ first_child t k) {x : Bool}
    (ex : x ≡ any (is_block_or_row t) (nodes_in t (uncut sidebar) first)) where
  on_its_line : {r : Desk} (es : List Event) → r ≡ emit_all (desk_of t.source da mid) es → r ≡ emit_all (desk_of t.source desk out) (item (line level) ∷ es)
  unfolding emit_all
  on_its_line es er =
      er ∙ ap (λ (u : Desk). emit_all u es) (ea t.source)

  test : any (is_block_or_row t) (nodes_in t (uncut sidebar) (first_child t k)) ≡ x
  test = sym (ex ∙ ap (λ (u : Step). any (is_block_or_row t) (nodes_in t (uncut sidebar) u)) ef)

  pub held_full : x ≡ true → {r : Desk}
      → r ≡ emit_all (desk_of t.source da mid) (item (start (element_no sidebar) (attrs_of t k sidebar)) ∷ (below t d level (nodes_in t (uncut sidebar) (first_child t k)) ++ (item (line level) ∷ item (close (element_no sidebar)) ∷ [])))
      → r ≡ emit_all (desk_of t.source desk out) (item (line level) ∷ holder_in t d level sidebar k)
  held_full h er = on_its_line (holder_in t d level sidebar k) (er ∙ ap (emit_all (desk_of t.source da mid)) (sym (held_by t d level sidebar k ∙ rw (test ∙ h))))

  pub held_bare : x ≡ false → {r : Desk} → r ≡ emit (desk_of t.source da mid) (item (empty (element_no sidebar) (attrs_of t k sidebar)))
      → r ≡ emit_all (desk_of t.source desk out) (item (line level) ∷ holder_in t d level sidebar k)
  held_bare h er = on_its_line (holder_in t d level sidebar k) (emit_one (desk_of t.source da mid) (item (empty (element_no sidebar) (attrs_of t k sidebar))) er ∙ ap (emit_all (desk_of t.source da mid)) (sym (held_by t d level sidebar k ∙ rw (test ∙ h))))

-- ---- a list of blocks

module _ (t : Tape) (span : Span) (d level : ℕ) (s s₀ : Desk) (step step₀ : Step)
    (inv : emit_all s (blocks_all_of (below t d level) t d level (nodes_in t span step)) ≡ emit_all s₀ (blocks_all_of (below t d level) t d level (nodes_in t span step₀))) where
  all-over : nodes_in t span step ≡ [] → s ≡ emit_all s₀ (blocks_e t d level (nodes_in t span step₀))
  unfolding emit_all
  all-over e =
      sym (ap (emit_all s) (ap (blocks_all_of (below t d level) t d level) e ∙ blocks_none (below t d level) t d level)) ∙ inv ∙ ap (emit_all s₀) (blocks_all t d level (nodes_in t span step₀))

  pub blocks_done : step ≡ None → s ≡ emit_all s₀ (blocks_e t d level (nodes_in t span step₀))
  blocks_done e = all-over (nodes_done t span e)

  module _ {c : Cursor} (ec : step ≡ Some c) {m : Member} (em : m ≡ member_of_of t span c.at) where
    pub blocks_ended : m ≡ End → s ≡ emit_all s₀ (blocks_e t d level (nodes_in t span step₀))
    blocks_ended h = all-over (nodes-cut t span ec em h)

    pub blocks_skipped : m ≡ Skipped → {n : Step} → n ≡ next_sibling t c.at
        → emit_all s (blocks_all_of (below t d level) t d level (nodes_in t span n)) ≡ emit_all s₀ (blocks_all_of (below t d level) t d level (nodes_in t span step₀))
    blocks_skipped h en = sym (ap (λ (ks : List ℕ). emit_all s (blocks_all_of (below t d level) t d level ks)) (nodes_skip t span ec em h en)) ∙ inv

    module _ (hm : m ≡ Listed) {h : Holder} (eh : h ≡ holder_of t c.at) where
      here : emit_all s (blocks_all_of (below t d level) t d level (nodes_in t span (Some c))) ≡ emit_all s₀ (blocks_all_of (below t d level) t d level (nodes_in t span step₀))
      here = ap (λ (u : Step). emit_all s (blocks_all_of (below t d level) t d level (nodes_in t span u))) (sym ec) ∙ inv

      pub blocks_side : h ≡ Sidebar → {u : Desk} {n : Step} → u ≡ emit_all s (item (line level) ∷ holder_in t d level true c.at) → n ≡ next_sibling t c.at
          → emit_all u (blocks_all_of (below t d level) t d level (nodes_in t span n)) ≡ emit_all s₀ (blocks_all_of (below t d level) t d level (nodes_in t span step₀))
      unfolding blocks_on block_turn holder_in
      blocks_side hh {u} {n} eu en = turn_by t span c d level (below t d level) a_sidebar_of s (sym em ∙ hm) (place_side t c.at (sym eh ∙ hh)) (went eu) ∙ here
        where
          went : u ≡ emit_all s (item (line level) ∷ holder_in t d level true c.at)
              → emit_all u (blocks_all_of (below t d level) t d level (nodes_in t span n)) ≡ emit_all s (blocks_on (below t d level) t d level c.at (nodes_in t span (next_sibling t c.at)) a_sidebar_of)
          went e =
              ap (λ (z : Step). emit_all u (blocks_all_of (below t d level) t d level (nodes_in t span z))) en
              ∙ then s (item (line level) ∷ sidebar_in (below t d level) t level c.at) (blocks_all_of (below t d level) t d level (nodes_in t span (next_sibling t c.at))) e

      pub blocks_peri : h ≡ Periph → {u : Desk} {n : Step} → u ≡ emit_all s (item (line level) ∷ holder_in t d level false c.at) → n ≡ next_sibling t c.at
          → emit_all u (blocks_all_of (below t d level) t d level (nodes_in t span n)) ≡ emit_all s₀ (blocks_all_of (below t d level) t d level (nodes_in t span step₀))
      unfolding blocks_on block_turn holder_in
      blocks_peri hh {u} {n} eu en = turn_by t span c d level (below t d level) a_periph_of s (sym em ∙ hm) (place_peri t c.at (sym eh ∙ hh)) (went eu) ∙ here
        where
          went : u ≡ emit_all s (item (line level) ∷ holder_in t d level false c.at)
              → emit_all u (blocks_all_of (below t d level) t d level (nodes_in t span n)) ≡ emit_all s (blocks_on (below t d level) t d level c.at (nodes_in t span (next_sibling t c.at)) a_periph_of)
          went e =
              ap (λ (z : Step). emit_all u (blocks_all_of (below t d level) t d level (nodes_in t span z))) en
              ∙ then s (item (line level) ∷ periph_in (below t d level) t level c.at) (blocks_all_of (below t d level) t d level (nodes_in t span (next_sibling t c.at))) e

      pub blocks_turned : h ≡ Neither → (u : Desk) (n : Step)
          → (member_of_of t span c.at ≡ Listed → holder_of t c.at ≡ Neither → (B : List ℕ → List Event)
          → emit_all u (blocks_all_of B t d level (nodes_in t span n)) ≡ emit_all s (blocks_all_of B t d level (nodes_in t span (Some c))))
          → emit_all u (blocks_all_of (below t d level) t d level (nodes_in t span n)) ≡ emit_all s₀ (blocks_all_of (below t d level) t d level (nodes_in t span step₀))
      blocks_turned hh u n e = e (sym em ∙ hm) (sym eh ∙ hh) (below t d level) ∙ here
