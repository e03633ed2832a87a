-- What a marker, a node, the inside of a container and a turn along a list emit.
use mathlib.Core.Path.{◌≡◌, refl, sym, ap, ◌∙◌, subst}
use mathlib.Core.Bool.{Bool, true, false, cond}
use mathlib.Core.List.{List, ◌++◌}
use Prim.Native.Nat.{ℕ, zero, suc, ◌+◌, ◌-◌}
use native.Mathlib.Omega.{arith}
use borrow.Author.Tests.{eq-eqb, ne_eqb}
use Rattle.tape.specs.File.{Tape, kind_at, number_at}
use Rattle.tape.specs.Tree.{next_sibling, first_child, children, walk_from}
use Rattle.tape.specs.declared.Cursor.{Cursor}
use Rattle.tape.specs.declared.kinds.Kind.{Kind}
use Rattle.tape.specs.Found.{Step}
use Rattle.std.specs.Prelude.{None, Some}
use Rattle.tape.proofs.Walk.{walk_end, children_walk}
use Rattle.render.specs.Shape.{trims_after_of}
use Rattle.render.specs.Follow.{followed, Kept}
use Rattle.render.specs.Label.{label_of}
use Rattle.fold.specs.Fold.{folded_number}
use Rattle.lists.specs.Span.{filtered, cut_by, nodes_in}
use Rattle.lists.specs.declared.Span.{Span}
use Rattle.lists.proofs.Nodes.{nodes_done}
use Rattle.events.specs.Event.{Event, chapter, verse}
use Rattle.events.specs.Walk.{Manner, as_inline, as_note, Role, role_of, marker_as, node_in_of, inside, inline_all, note_all}
use Rattle.events.specs.Emit.{Desk, emit, emit_all}
use Rattle.events.proofs.Emits.{emit-append}
use Rattle.events.proofs.Turns.{inline-none}
use Rattle.parts.specs.Bytes.{Bytes}
use Rattle.desk.specs.Desk.{desk_of}
use Rattle.roles.specs.Roles.{is_whole, manner_of, manner_by}
use Rattle.put_markers.specs.Marker.{marker_opens, marker_closes, leaf_of}
use Rattle.put_markers.proofs.Splits.{marker-split}
use Rattle.inline_turns.specs.Turn.{sort_in_of, note_sort_of, plain_from, onward, note_plain, note_onward, KeptAt, behind_of, learnt, follows_by, behind_by, note_behind_by}
use Rattle.inline_turns.specs.declared.Behind.{Behind}
use Rattle.inline_turns.specs.declared.Behind.TheVariants.{Unasked}
use Rattle.inline_turns.specs.declared.Sort.{Sort}
use Rattle.inline_turns.specs.declared.Sort.TheVariants.{End, Enter, Plain}
use Rattle.inline_turns.specs.declared.Child.{Child}
use Rattle.inline_turns.proofs.Sorts.{sort_turn, note_sort_turn}
use Rattle.inline.specs.Lone.{PutAs, KeepsBehind}
use Rattle.inline.proofs.Alone.{put_written, kept_behind}
use Rattle.inline_turns.proofs.Laws.{asked_same, follows_learnt, turn-same, note_turn_same}
use Rattle.desk.specs.declared.Desk.{Desk as Held}

-- ---- markers

module _ (t : Tape) (d k : ℕ) (outer : Bool) (s : Desk) {role' : Role} (er : role' ≡ role_of t k) {w : Bool} (ew : w ≡ is_whole t k role') where
  pub marker_whole : w ≡ true → {a z r : Desk} (n : Bool) → a ≡ emit_all s (marker_opens t k role') → manner_of role' ≡ manner_by n
      → z ≡ emit_all a (inside t d (manner_by n) k outer) → r ≡ emit_all z (marker_closes t k role')
      → r ≡ emit_all s (marker_as (inside t d) t k outer (role_of t k))
  marker_whole h {a} {z} {r} n ea en ez er' =
      let middle : List Event = inside t d (manner_of role') k outer in
      er'
      ∙ ap (λ (x : Desk). emit_all x (marker_closes t k role')) (ez ∙ ap (λ (m : Manner). emit_all a (inside t d m k outer)) (sym en) ∙ ap (λ (x : Desk). emit_all x middle) ea)
      ∙ sym (emit-append (emit_all s (marker_opens t k role')) middle (marker_closes t k role'))
      ∙ sym (emit-append s (marker_opens t k role') (middle ++ marker_closes t k role'))
      ∙ ap (emit_all s) (sym (marker-split (inside t d) t k outer role' ∙ ap (λ (x : Bool). cond x (marker_opens t k role' ++ (middle ++ marker_closes t k role')) (leaf_of t k role')) (sym ew ∙ h)))
      ∙ ap (λ (x : Role). emit_all s (marker_as (inside t d) t k outer x)) er

  pub marker-leaf : w ≡ false → {r : Desk} → r ≡ emit_all s (leaf_of t k role') → r ≡ emit_all s (marker_as (inside t d) t k outer (role_of t k))
  marker-leaf h er' =
      er'
      ∙ ap (emit_all s) (sym (marker-split (inside t d) t k outer role'
      ∙ ap (λ (x : Bool). cond x (marker_opens t k role' ++ (inside t d (manner_of role') k outer ++ marker_closes t k role')) (leaf_of t k role')) (sym ew ∙ h)))
      ∙ ap (λ (x : Role). emit_all s (marker_as (inside t d) t k outer x)) er

-- ---- nodes

module _ (t : Tape) (d k : ℕ) (outer : Bool) (s : Desk) {z : Kind} (ez : z.code ≡ kind_at t k) where
  pub node-chapter : z.code ≡ 6 → {n : ℕ} → n ≡ number_at t k → {r : Desk} → r ≡ emit s (chapter n (folded_number t None) (folded_number t None)) → r ≡ emit_all s (node_in_of (inside t d) t k outer)
  unfolding node_in_of emit_all folded_number
  node-chapter h en er = rw (eq-eqb (kind_at t k) 6 (sym ez ∙ h), ← en) er

  pub node-verse : (z.code ≡ 6 → ⊥) → z.code ≡ 7 → {r : Desk} → r ≡ emit s (verse (label_of t k) (folded_number t None) (folded_number t None)) → r ≡ emit_all s (node_in_of (inside t d) t k outer)
  unfolding node_in_of emit_all folded_number
  node-verse n₆ h er = rw (ne_eqb (kind_at t k) 6 (λ e. n₆ (ez ∙ e)), eq-eqb (kind_at t k) 7 (sym ez ∙ h)) er

  pub node-marker : (z.code ≡ 6 → ⊥) → (z.code ≡ 7 → ⊥) → z.code ≡ 3 → {r : Desk} → r ≡ emit_all s (marker_as (inside t d) t k outer (role_of t k)) → r ≡ emit_all s (node_in_of (inside t d) t k outer)
  unfolding node_in_of
  node-marker n₆ n₇ h er = rw (ne_eqb (kind_at t k) 6 (λ e. n₆ (ez ∙ e)), ne_eqb (kind_at t k) 7 (λ e. n₇ (ez ∙ e)), eq-eqb (kind_at t k) 3 (sym ez ∙ h)) er

  pub node-other : (z.code ≡ 6 → ⊥) → (z.code ≡ 7 → ⊥) → (z.code ≡ 3 → ⊥) → s ≡ emit_all s (node_in_of (inside t d) t k outer)
  unfolding node_in_of emit_all
  node-other n₆ n₇ n₃ = rw (ne_eqb (kind_at t k) 6 (λ e. n₆ (ez ∙ e)), ne_eqb (kind_at t k) 7 (λ e. n₇ (ez ∙ e)), ne_eqb (kind_at t k) 3 (λ e. n₃ (ez ∙ e)))

-- ---- inside

abbrev all : Span
all = record { cut = false; sifted = false }

all-nodes : (t : Tape) (s : Step) → nodes_in t all s ≡ walk_from t s
unfolding nodes_in cut_by filtered
all-nodes t s = refl

module _ (t : Tape) (k : ℕ) (outer : Bool) (s : Desk) where
  pub inside-zero : {d : ℕ} (m : Manner) → d ≡ 0 → s ≡ emit_all s (inside t d m k outer)
  unfolding inside emit_all
  inside-zero m h = rw h

  inside_deep : (d : ℕ) (m : Manner) → (d ≡ 0 → ⊥) → inside t (suc (d - 1)) m k outer ≡ inside t d m k outer
  inside_deep zero m h = absurd (h refl)
  inside_deep (suc d) m h = ap (λ (j : ℕ). inside t (suc j) m k outer) (omega arith)

  pub inside-inline : {d : ℕ} {note : Bool} {parent : Cursor} {first : Step} {r : Desk} → (d ≡ 0 → ⊥) → parent.at ≡ k → first ≡ first_child t k → note ≡ false
      → r ≡ emit_all s (inline_all (node_in_of (inside t (d - 1)) t) t (behind_of t parent outer Unasked) true (nodes_in t all first)) → r ≡ emit_all s (inside t d (manner_by note) k outer)
  unfolding inside manner_by behind_of
  inside-inline {d} {note} {parent} {first} h ep ef hn er =
      er
      ∙ ap (λ (ks : List ℕ). emit_all s (inline_all (node_in_of (inside t (d - 1)) t) t (followed t parent.at outer) true ks)) (all-nodes t first ∙ children_walk t k ef)
      ∙ ap (λ (i : ℕ). emit_all s (inline_all (node_in_of (inside t (d - 1)) t) t (followed t i outer) true (children t k))) ep
      ∙ ap (emit_all s) (inside_deep d as_inline h)
      ∙ ap (λ (x : Bool). emit_all s (inside t d (manner_by x) k outer)) (sym hn)

  pub inside-note : {d : ℕ} {note : Bool} {parent : Cursor} {first : Step} {r : Desk} → (d ≡ 0 → ⊥) → parent.at ≡ k → first ≡ first_child t k → note ≡ true
      → r ≡ emit_all s (note_all (node_in_of (inside t (d - 1)) t) t (parent.at + 1) (behind_of t parent outer Unasked) true (walk_from t first)) → r ≡ emit_all s (inside t d (manner_by note) k outer)
  unfolding inside manner_by behind_of
  inside-note {d} {note} {parent} {first} h ep ef hn er =
      er
      ∙ ap (λ (ks : List ℕ). emit_all s (note_all (node_in_of (inside t (d - 1)) t) t (parent.at + 1) (followed t parent.at outer) true ks)) (children_walk t k ef)
      ∙ ap (λ (i : ℕ). emit_all s (note_all (node_in_of (inside t (d - 1)) t) t (i + 1) (followed t i outer) true (children t k))) ep
      ∙ ap (emit_all s) (inside_deep d as_note h)
      ∙ ap (λ (x : Bool). emit_all s (inside t d (manner_by x) k outer)) (sym hn)

-- ---- what is kept

kept_for : (t : Tape) {step kept : Step} {c : Cursor} → KeptAt t step kept → step ≡ Some c → Kept t c kept
kept_for t {step} {kept} h e = subst (λ (s : Step). KeptAt t s kept) e h

pub kept_plain : (t : Tape) {step : Step} {c : Cursor} (kept : Step) → step ≡ Some c → KeptAt t step kept → (n k : Step) → (Kept t c kept → KeptAt t n k) → KeptAt t n k
kept_plain t kept e h n k f = f (kept_for t h e)

-- ---- a list of children

module _ (node : ℕ → Bool → List Event) (t : Tape) (span : Span) (parent : Cursor) (outer : Bool) (known : Behind) (trim : Bool) {step : Step} (s : Desk) {s₀ : Desk}
    (inv : emit_all s (inline_all node t (behind_of t parent outer known) trim (nodes_in t span step)) ≡ s₀) where
  pub inline_done : step ≡ None → s ≡ s₀
  unfolding emit_all
  inline_done e = sym (ap (emit_all s) (ap (inline_all node t (behind_of t parent outer known) trim) (nodes_done t span e) ∙ inline-none node t (behind_of t parent outer known) trim)) ∙ inv

  module _ {c : Cursor} (ec : step ≡ Some c) {r : Sort} (er : r ≡ sort_in_of t span c.at) where
    turned : {n : Step} → n ≡ next_sibling t c.at → emit_all s (onward node t (behind_of t parent outer known) trim c.at (nodes_in t span n) r) ≡ s₀
    turned en = ap (emit_all s) (sym (sort_turn node t (behind_of t parent outer known) trim span ec en er)) ∙ inv

    pub inline-ended : r ≡ End → s ≡ s₀
    unfolding onward emit_all
    inline-ended h = ap (λ (z : Sort). emit_all s (onward node t (behind_of t parent outer known) trim c.at (nodes_in t span (next_sibling t c.at)) z)) (sym h) ∙ turned refl

    entered : r ≡ Enter → {u : Desk} {x : Bool} {n : Step} → u ≡ emit_all s (node c.at (behind_of t parent outer known)) → x ≡ trims_after_of t c.at → n ≡ next_sibling t c.at
        → emit_all u (inline_all node t (behind_of t parent outer known) x (nodes_in t span n)) ≡ s₀
    unfolding onward
    entered h {u} {x} {n} eu ex en =
        ap (λ (z : Desk). emit_all z (inline_all node t (behind_of t parent outer known) x (nodes_in t span n))) eu
        ∙ sym (emit-append s (node c.at (behind_of t parent outer known)) (inline_all node t (behind_of t parent outer known) x (nodes_in t span n)))
        ∙ ap (λ (y : Bool). emit_all s (node c.at (behind_of t parent outer known) ++ inline_all node t (behind_of t parent outer known) y (nodes_in t span n))) ex
        ∙ ap (λ (z : Sort). emit_all s (onward node t (behind_of t parent outer known) trim c.at (nodes_in t span n) z)) (sym h)
        ∙ turned en

    pub inline-entered : r ≡ Enter → {later : Behind} {y : Bool} {u : Desk} {x : Bool} {n : Step} → later ≡ learnt (behind_of t parent outer known) → y ≡ follows_by later
        → u ≡ emit_all s (node c.at y) → x ≡ trims_after_of t c.at → n ≡ next_sibling t c.at
        → emit_all u (inline_all node t (behind_of t parent outer later) x (nodes_in t span n)) ≡ s₀
    inline-entered h {later} {y} {u} {x} {n} el ey eu ex en =
        ap (λ (z : Bool). emit_all u (inline_all node t z x (nodes_in t span n))) (ap (behind_of t parent outer) el ∙ asked_same t parent outer (behind_of t parent outer known))
        ∙ entered h (eu ∙ ap (λ (z : Bool). emit_all s (node c.at z)) (follows_learnt (behind_of t parent outer known) el ey)) ex en

    pub inline-plain : {child : Child} → r ≡ Plain child → (kept : Step) → KeptAt t step kept → (u : Desk) (x : Bool) (n : Step) (later : Behind)
        → (Kept t c kept → later ≡ behind_by t parent outer known c.at child)
        → (Kept t c kept → (m : ℕ → Bool → List Event) → emit_all u (inline_all m t (behind_of t parent outer known) x (nodes_in t span n)) ≡ emit_all s (plain_from m t (behind_of t parent outer known) trim c.at (nodes_in t span (next_sibling t c.at)) child))
        → emit_all u (inline_all node t (behind_of t parent outer later) x (nodes_in t span n)) ≡ s₀
    unfolding onward
    inline-plain {child} h kept hk u x n later el e =
        ap (λ (z : Bool). emit_all u (inline_all node t z x (nodes_in t span n))) (ap (behind_of t parent outer) (el (kept_for t hk ec)) ∙ turn-same t parent outer known c.at child)
        ∙ e (kept_for t hk ec) node
        ∙ ap (λ (z : Sort). emit_all s (onward node t (behind_of t parent outer known) trim c.at (nodes_in t span (next_sibling t c.at)) z)) (sym h) ∙ turned refl

  -- one that is written whatever follows the parent
  pub inline_lone : (c : Cursor) (source : Bytes) (d : Held) (out : Bytes) (last-d : Held) (last : Bytes) (p : Bool) → s ≡ desk_of source d out
      → ((y : Bool) → PutAs source d out (node c.at y) last-d last p) → KeepsBehind t c.at p → p ≡ true → step ≡ Some c → {r : Sort} → r ≡ sort_in_of t span c.at → r ≡ Enter
      → {n : Step} → n ≡ next_sibling t c.at → emit_all (desk_of source last-d last) (inline_all node t (behind_of t parent outer known) false (nodes_in t span n)) ≡ s₀
  inline_lone c source d out last-d last p es f k ep ec er h en =
      let y : Bool = behind_of t parent outer known in
      entered ec er h (put_written source d out (node c.at y) last-d last (f y) ep ∙ ap (λ (x : Desk). emit_all x (node c.at y)) (sym es)) (sym (kept_behind t c.at k ep)) en

-- ---- a note's children

module _ (node : ℕ → Bool → List Event) (t : Tape) (first : ℕ) (parent : Cursor) (outer : Bool) (known : Behind) (trim : Bool) {step : Step} (s : Desk) {s₀ : Desk}
    (inv : emit_all s (note_all node t first (behind_of t parent outer known) trim (walk_from t step)) ≡ s₀) where
  pub note_done : step ≡ None → s ≡ s₀
  unfolding emit_all note_all
  note_done e = sym (ap (λ (ks : List ℕ). emit_all s (note_all node t first (behind_of t parent outer known) trim ks)) (walk_end t e)) ∙ inv

  module _ {c : Cursor} (ec : step ≡ Some c) {r : Sort} (er : r ≡ note_sort_of t c.at) where
    note_turned : {n : Step} → n ≡ next_sibling t c.at → emit_all s (note_onward node t (behind_of t parent outer known) trim first c.at (walk_from t n) r) ≡ s₀
    note_turned en = ap (emit_all s) (sym (note_sort_turn node t (behind_of t parent outer known) trim first ec en er)) ∙ inv

    pub note-ended : r ≡ End → s ≡ s₀
    unfolding note_onward emit_all
    note-ended h = ap (λ (z : Sort). emit_all s (note_onward node t (behind_of t parent outer known) trim first c.at (walk_from t (next_sibling t c.at)) z)) (sym h) ∙ note_turned refl

    note_in : r ≡ Enter → {u : Desk} {x : Bool} {n : Step} → u ≡ emit_all s (node c.at (behind_of t parent outer known)) → x ≡ trims_after_of t c.at → n ≡ next_sibling t c.at
        → emit_all u (note_all node t first (behind_of t parent outer known) x (walk_from t n)) ≡ s₀
    unfolding note_onward
    note_in h {u} {x} {n} eu ex en =
        ap (λ (z : Desk). emit_all z (note_all node t first (behind_of t parent outer known) x (walk_from t n))) eu
        ∙ sym (emit-append s (node c.at (behind_of t parent outer known)) (note_all node t first (behind_of t parent outer known) x (walk_from t n)))
        ∙ ap (λ (y : Bool). emit_all s (node c.at (behind_of t parent outer known) ++ note_all node t first (behind_of t parent outer known) y (walk_from t n))) ex
        ∙ ap (λ (z : Sort). emit_all s (note_onward node t (behind_of t parent outer known) trim first c.at (walk_from t n) z)) (sym h)
        ∙ note_turned en

    pub note-entered : r ≡ Enter → {later : Behind} {y : Bool} {u : Desk} {x : Bool} {n : Step} → later ≡ learnt (behind_of t parent outer known) → y ≡ follows_by later
        → u ≡ emit_all s (node c.at y) → x ≡ trims_after_of t c.at → n ≡ next_sibling t c.at
        → emit_all u (note_all node t first (behind_of t parent outer later) x (walk_from t n)) ≡ s₀
    note-entered h {later} {y} {u} {x} {n} el ey eu ex en =
        ap (λ (z : Bool). emit_all u (note_all node t first z x (walk_from t n))) (ap (behind_of t parent outer) el ∙ asked_same t parent outer (behind_of t parent outer known))
        ∙ note_in h (eu ∙ ap (λ (z : Bool). emit_all s (node c.at z)) (follows_learnt (behind_of t parent outer known) el ey)) ex en

    pub note-plain : {child : Child} → r ≡ Plain child → (kept : Step) → KeptAt t step kept → (u : Desk) (x : Bool) (n : Step) (later : Behind)
        → (Kept t c kept → later ≡ note_behind_by t first parent outer known c.at child)
        → (Kept t c kept → (m : ℕ → Bool → List Event) → emit_all u (note_all m t first (behind_of t parent outer known) x (walk_from t n)) ≡ emit_all s (note_plain m t (behind_of t parent outer known) trim first c.at (walk_from t (next_sibling t c.at)) child))
        → emit_all u (note_all node t first (behind_of t parent outer later) x (walk_from t n)) ≡ s₀
    unfolding note_onward
    note-plain {child} h kept hk u x n later el e =
        ap (λ (z : Bool). emit_all u (note_all node t first z x (walk_from t n))) (ap (behind_of t parent outer) (el (kept_for t hk ec)) ∙ note_turn_same t parent outer known c.at first child)
        ∙ e (kept_for t hk ec) node
        ∙ ap (λ (z : Sort). emit_all s (note_onward node t (behind_of t parent outer known) trim first c.at (walk_from t (next_sibling t c.at)) z)) (sym h) ∙ note_turned refl

  -- one that is written whatever follows the parent
  pub note_lone : (c : Cursor) (source : Bytes) (d : Held) (out : Bytes) (last-d : Held) (last : Bytes) (p : Bool) → s ≡ desk_of source d out
      → ((y : Bool) → PutAs source d out (node c.at y) last-d last p) → KeepsBehind t c.at p → p ≡ true → step ≡ Some c → {r : Sort} → r ≡ note_sort_of t c.at → r ≡ Enter
      → {n : Step} → n ≡ next_sibling t c.at → emit_all (desk_of source last-d last) (note_all node t first (behind_of t parent outer known) false (walk_from t n)) ≡ s₀
  note_lone c source d out last-d last p es f k ep ec er h en =
      let y : Bool = behind_of t parent outer known in
      note_in ec er h (put_written source d out (node c.at y) last-d last (f y) ep ∙ ap (λ (x : Desk). emit_all x (node c.at y)) (sym es)) (sym (kept_behind t c.at k ep)) en
