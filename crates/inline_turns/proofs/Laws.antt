-- One law for each return of a turn.
use mathlib.Core.Path.{◌≡◌, refl, sym, ap, ◌∙◌}
use mathlib.Core.Bool.{Bool, true, false, cond, not, ◌&&◌, ◌||◌}
use mathlib.Core.List.{List, ◌++◌}
use Prim.Native.Nat.{ℕ, ◌+◌, ◌-◌, ◌≤◌, ◌<◌}
use native.Mathlib.Omega.{arith}
use lib.ListN.{length, take, drop, length-take}
use lib.Dec.{eqb, ltb}
use borrow.Author.Tests.{eq-eqb, ne_eqb, eqb-true, eqb-false, le-ltb}
use Rattle.parts.specs.Bytes.{Bytes}
use Rattle.texts.specs.Text.{ends_white, normalize_text, written, segments}
use Rattle.texts.specs.declared.Normalized.{Normalized}
use Rattle.put_body.specs.Frame.{Frame, white_front_of, white_back_of, frame_of, framed_text_of, Framed}
use Rattle.texts.proofs.Edges.{trail_unasked}
use Rattle.tape.specs.File.{Tape, tape_in, node_at, text_at_of}
use Rattle.tape.specs.Tree.{next_sibling, walk_from, left}
use Rattle.tape.specs.declared.Sections.{Sections}
use Rattle.tape.specs.declared.kinds.Kind.{Kind}
use Rattle.tape.specs.declared.Cursor.{Cursor}
use Rattle.tape.specs.Found.{Step}
use Rattle.std.specs.Prelude.{None, Some}
use Rattle.tape.proofs.Laws.{text_front}
use Rattle.tape.proofs.Walk.{left-turn}
use Rattle.leading_white.specs.Lean.{lean}
use Rattle.leading_white.proofs.Leans.{normalize_lean, body-lean, ends-lean}
use Rattle.render.specs.Shape.{is_inline_of}
use Rattle.render.specs.Follow.{is_solid, next_solid_of, inline_at_of, inline_follows_of, Kept}
use Rattle.render.specs.Label.{label_of}
use Rattle.render.specs.Note.{remainder}
use Rattle.render.proofs.Follows.{solid_end, solid_here, kept_on, kept_first, behind_far, behind_done, follows_of}
use Rattle.fold.specs.Fold.{Folded, fold_at, folded_number}
use Rattle.lists.specs.Span.{nodes_in, folded_in, folds_at}
use Rattle.lists.specs.declared.Span.{Span}
use Rattle.lists.specs.declared.Folds.{Folds}
use Rattle.events.specs.Event.{Event, verse}
use Rattle.events.specs.Walk.{normalized, unbroken, broken, inline_turn, inline_all, inline_on, note_text, note_turn_of, note_all}
use Rattle.events.specs.Emit.{Desk, emit, emit_all}
use Rattle.events.proofs.Emits.{emit-append}
use Rattle.desk.specs.Desk.{desk_of}
use Rattle.inline_turns.specs.Turn.{plain_from, note_plain, next_by, trim_by, note_trim_by, KeptAt, kept_past, kept_behind_of, kept_by, note_kept_by, behind_of, learnt, follows_by, behind_text, behind_by, note_behind_by, Here}
use Rattle.inline_turns.specs.declared.Behind.{Behind}
use Rattle.inline_turns.specs.declared.Child.{Child}
use Rattle.inline_turns.specs.declared.Going.{Going}
use Rattle.inline_turns.specs.declared.Child.TheVariants.{Skipped, Anchor, Words, Passed}
use Rattle.desk.specs.declared.Desk.{Desk as Held}

-- ---- the solid sibling that is kept

-- a step serves the child that it leads to
pub kept_here : (t : Tape) (next : Step) → KeptAt t next next
kept_here t None = tt
kept_here t (Some c) = kept_first t c refl

module _ (t : Tape) (c : Cursor) where
  -- what is solid behind a child serves the next
  solid_on : (next : Step) {solid : Step} → solid ≡ next_solid_of t c.at → next ≡ next_sibling t c.at → KeptAt t next solid
  solid_on None es en = tt
  solid_on (Some d) es en = kept_on t c.at d (sym en) es

  pub kept_solid : {kept : Step} (next : Step) {solid : Step} → (Kept t c kept → solid ≡ next_solid_of t c.at) → Kept t c kept → next ≡ next_sibling t c.at → KeptAt t next solid
  kept_solid next es h en = solid_on next (es h) en

module _ (c : Cursor) {kept : Step} (next : Step) where
  pub past_done : kept ≡ None → (t : Tape) → Kept t c kept → next ≡ next_sibling t c.at → KeptAt t next kept
  past_done ed t h en = solid_on t c next (ed ∙ behind_done t c ed h) en

  pub past_here : (t : Tape) → Kept t c kept → next ≡ next_sibling t c.at → KeptAt t next next
  past_here t h en = kept_here t next

  pub past_far : (d : Cursor) → kept ≡ Some d → (d.at ≡ c.at → ⊥) → (t : Tape) → Kept t c kept → next ≡ next_sibling t c.at → KeptAt t next (Some d)
  past_far d ed n t h en = solid_on t c next (behind_far t c d ed n h) en

module _ (t : Tape) (c : Cursor) (kept next : Step) {x : Bool} where
  pub behind-solid : x ≡ true → {solid : Step} → (Kept t c kept → solid ≡ next_solid_of t c.at) → (s : Bytes) → x ≡ ends_white s → Kept t c kept → solid ≡ kept_behind_of t s kept c.at next
  unfolding kept_behind_of
  behind-solid h es s ex k = rw (sym ex ∙ h) (es k)

  pub behind-past : x ≡ false → {r : Step} → r ≡ kept_past kept c.at next → (s : Bytes) → x ≡ ends_white s → Kept t c kept → r ≡ kept_behind_of t s kept c.at next
  unfolding kept_behind_of
  behind-past h er s ex k = rw (sym ex ∙ h) er

-- ---- whether inline content follows the parent

-- what was learnt, read back
learnt_back : (b : Bool) → follows_by (learnt b) ≡ b
unfolding learnt follows_by
learnt_back true = refl
learnt_back false = refl

pub follows_learnt : (b : Bool) {behind : Behind} {r : Bool} → behind ≡ learnt b → r ≡ follows_by behind → r ≡ b
follows_learnt b e er = er ∙ ap follows_by e ∙ learnt_back b

-- asking changes nothing of the truth
pub asked_same : (t : Tape) (parent : Cursor) (outer : Bool) (b : Bool) → behind_of t parent outer (learnt b) ≡ b
unfolding behind_of learnt
asked_same t parent outer true = refl
asked_same t parent outer false = refl

module _ (t : Tape) (parent : Cursor) (outer : Bool) (known : Behind) (k : ℕ) where
  text_same : (s : Bytes) → behind_of t parent outer (behind_text t parent outer known k s) ≡ behind_of t parent outer known
  unfolding behind_text
  text_same s = go (ends_white s && not (inline_follows_of t k))
    where
      go : (x : Bool) → behind_of t parent outer (cond x (learnt (behind_of t parent outer known)) known) ≡ behind_of t parent outer known
      go true = asked_same t parent outer (behind_of t parent outer known)
      go false = refl

  pub turn-same : (child : Child) → behind_of t parent outer (behind_by t parent outer known k child) ≡ behind_of t parent outer known
  unfolding behind_by
  turn-same Skipped = refl
  turn-same Anchor = refl
  turn-same Words = text_same (text_at_of t k)
  turn-same Passed = refl

  pub note_turn_same : (first : ℕ) (child : Child) → behind_of t parent outer (note_behind_by t first parent outer known k child) ≡ behind_of t parent outer known
  unfolding note_behind_by
  note_turn_same first Skipped = refl
  note_turn_same first Anchor = refl
  note_turn_same first Words = text_same (note_text t first k)
  note_turn_same first Passed = refl

-- what a look learns
module _ (t : Tape) (parent c : Cursor) (outer : Bool) (known : Behind) (kept : Step) {x : Bool} where
  pub text-solid : x ≡ false → (s : Bytes) → x ≡ ends_white s → Kept t c kept → known ≡ behind_text t parent outer known c.at s
  unfolding behind_text
  text-solid h s ex k = rw (sym ex ∙ h)

  module _ (h : x ≡ true) {solid : Step} (es : Kept t c kept → solid ≡ next_solid_of t c.at) {y : Bool} (ey : y ≡ inline_at_of t solid) where
    pub text-inline : y ≡ true → (s : Bytes) → x ≡ ends_white s → Kept t c kept → known ≡ behind_text t parent outer known c.at s
    unfolding behind_text
    text-inline e s ex k = rw (sym ex ∙ h, sym (follows_of t c.at (es k) ey) ∙ e)

    pub text_asked : y ≡ false → {r : Behind} → r ≡ learnt (behind_of t parent outer known) → (s : Bytes) → x ≡ ends_white s → Kept t c kept → r ≡ behind_text t parent outer known c.at s
    unfolding behind_text
    text_asked e er s ex k = rw (sym ex ∙ h, sym (follows_of t c.at (es k) ey) ∙ e) er

-- ---- a text as it is normalized

module _ (t : Tape) (c : Cursor) (kept : Step) (b : Bool) {e : Bool} where
  pub look_unasked : e ≡ false → (s : Bytes) (trim : Bool) → e ≡ ends_white s → Kept t c kept → normalize_text s (not trim) false ≡ normalized t c.at s trim b
  unfolding normalized
  look_unasked h s trim ex k = trail_unasked s (not trim) false (inline_follows_of t c.at || b) (sym ex ∙ h)

  module _ {solid : Step} (es : Kept t c kept → solid ≡ next_solid_of t c.at) {x : Bool} (ex : x ≡ inline_at_of t solid) where
    pub look_inline : x ≡ true → (s : Bytes) (trim : Bool) → e ≡ ends_white s → Kept t c kept → normalize_text s (not trim) true ≡ normalized t c.at s trim b
    unfolding normalized
    look_inline h s trim ee k = rw (sym (follows_of t c.at (es k) ex) ∙ h)

    pub look_asked : x ≡ false → {y : Bool} → y ≡ b → (s : Bytes) (trim : Bool) → e ≡ ends_white s → Kept t c kept → normalize_text s (not trim) y ≡ normalized t c.at s trim b
    unfolding normalized
    look_asked h ey s trim ee k = rw (sym (follows_of t c.at (es k) ex) ∙ h) (ap (normalize_text s (not trim)) ey)

-- what was looked for behind a text, of the text itself
module _ (t : Tape) (c : Cursor) (kept : Step) (s : Bytes) {e : Bool} (ee : e ≡ ends_white s) where
  pub looked_text : (trim b y : Bool) {n : Normalized} → n ≡ normalize_text s (not trim) y
      → ((s : Bytes) (trim : Bool) → e ≡ ends_white s → Kept t c kept → normalize_text s (not trim) y ≡ normalized t c.at s trim b)
      → Kept t c kept → n ≡ normalized t c.at s trim b
  looked_text trim b y en f k = en ∙ f s trim ee k

  pub looked_kept : (next : Step) {r : Step} → ((s : Bytes) → e ≡ ends_white s → Kept t c kept → r ≡ kept_behind_of t s kept c.at next) → Kept t c kept → r ≡ kept_behind_of t s kept c.at next
  looked_kept next f k = f s ee k

  pub looked_known : (parent : Cursor) (outer : Bool) (known : Behind) {r : Behind}
      → ((s : Bytes) → e ≡ ends_white s → Kept t c kept → r ≡ behind_text t parent outer known c.at s) → Kept t c kept → r ≡ behind_text t parent outer known c.at s
  looked_known parent outer known f k = f s ee k

-- ---- a glance behind a text

module _ (t : Tape) {next : Step} where
  pub runs_done : next ≡ None → false ≡ true → (k : ℕ) → next ≡ next_sibling t k → next_solid_of t k ≡ next
  runs_done ed h k en = solid_end t k (sym en ∙ ed) ∙ sym ed

  module _ (d : Cursor) {x : Bool} (ed : next ≡ Some d) where
    pub runs_solid : (x ≡ true → is_solid t d.at ≡ true) → x ≡ true → (k : ℕ) → next ≡ next_sibling t k → next_solid_of t k ≡ next
    runs_solid f h k en = solid_here t k d (sym en ∙ ed) (f h) ∙ sym ed

    pub runs_inline : (x ≡ true → is_inline_of t d.at ≡ true) → x ≡ true → inline_at_of t next ≡ true
    unfolding inline_at_of
    runs_inline f h = rw ed (f h)

-- where it tells, the step behind the text is the solid one
module _ (t : Tape) (c : Cursor) (kept : Step) {next : Step} {x : Bool} (f : x ≡ true → (k : ℕ) → next ≡ next_sibling t k → next_solid_of t k ≡ next) (h : x ≡ true) where
  told : next ≡ next_sibling t c.at → Kept t c kept → next ≡ next_solid_of t c.at
  told en k = sym (f h c.at en)

  pub glance_kept : {e : Bool} → e ≡ true → next ≡ next_sibling t c.at → (s : Bytes) → e ≡ ends_white s → Kept t c kept → next ≡ kept_behind_of t s kept c.at next
  glance_kept he en = behind-solid t c kept next he (told en)

  module _ (g : x ≡ true → inline_at_of t next ≡ true) where
    pub glance_text : (b : Bool) {e : Bool} → next ≡ next_sibling t c.at → (s : Bytes) (trim : Bool) → e ≡ ends_white s → Kept t c kept → normalize_text s (not trim) true ≡ normalized t c.at s trim b
    glance_text b en = look_inline t c kept b (told en) refl (g h)

    pub glance_known : (parent : Cursor) (outer : Bool) (known : Behind) {e : Bool} → e ≡ true → next ≡ next_sibling t c.at → (s : Bytes) → e ≡ ends_white s → Kept t c kept
        → known ≡ behind_text t parent outer known c.at s
    glance_known parent outer known he en = text-inline t parent c outer known kept he (told en) refl (g h)

-- ---- a text

normalized-lean : (t : Tape) (k : ℕ) (s : Bytes) (trim behind : Bool) → normalized t k (lean s) trim behind ≡ normalized t k s trim behind
unfolding normalized
normalized-lean t k s trim behind = normalize_lean s (not trim) (inline_follows_of t k || behind)

unbroken-lean : (s : Bytes) (n : Normalized) → unbroken (lean s) n ≡ unbroken s n
unfolding unbroken written
unbroken-lean s n = rw (body-lean s)

broken-lean : (s : Bytes) (n : Normalized) → broken (lean s) n ≡ broken s n
unfolding broken segments
broken-lean s n = rw (body-lean s, unbroken-lean s n)

-- what a frame tells of a text
frame_ends : (t : Tape) (k : ℕ) (tail : Bytes) (f : Frame) → Here t k tail f → f.ends ≡ ends_white (text_at_of t k)
frame_ends t k tail f here = here.framed.ends ∙ ap ends_white here.text

framed-text : (t : Tape) (c : Cursor) (trim b : Bool) (kept : Step) (tail : Bytes) (f : Frame) (y : Bool) {n : Normalized} → n ≡ framed_text_of f (not trim) y
    → ((s : Bytes) (trim : Bool) → f.ends ≡ ends_white s → Kept t c kept → normalize_text s (not trim) y ≡ normalized t c.at s trim b)
    → Here t c.at tail f → Kept t c kept → n ≡ normalized t c.at (text_at_of t c.at) trim b
framed-text t c trim b kept tail f y en el here h =
    en ∙ sym (here.framed.edges (not trim) y) ∙ ap (λ (z : Bytes). normalize_text z (not trim) y) here.text ∙ el (text_at_of t c.at) trim (frame_ends t c.at tail f here) h

module _ (c : Sections) (file : Bytes) (k : Cursor) (trim behind : Bool) (kept : Step) (d : Held) (out : Bytes) where
  text-written : {n : Normalized} → n ≡ normalized (tape_in c file) k.at (text_at_of (tape_in c file) k.at) trim behind
      → (last-d : Held) (last : Bytes) → ((source : Bytes) → desk_of source last-d last ≡ emit_all (desk_of source d out) (broken (text_at_of (tape_in c file) k.at) n))
      → {x : Bool} → x ≡ trim && not n.shows → (node : ℕ → Bool → List Event) (ks : List ℕ)
      → emit_all (desk_of (tape_in c file).source last-d last) (inline_all node (tape_in c file) behind x ks)
      ≡ emit_all (desk_of (tape_in c file).source d out) (plain_from node (tape_in c file) behind trim k.at ks Words)
  unfolding plain_from inline_on inline_turn
  text-written {n} is last-d last er {x} ex node ks =
      let t : Tape = tape_in c file in
      let w : Desk = desk_of t.source d out in
      let s : Bytes = text_at_of t k.at in
      ap (λ (z : Desk). emit_all z (inline_all node t behind x ks)) (er t.source)
      ∙ sym (emit-append w (broken s n) (inline_all node t behind x ks))
      ∙ ap (λ (z : Bool). emit_all w (broken s n ++ inline_all node t behind z ks)) ex
      ∙ ap (λ (z : Normalized). emit_all w (broken s z ++ inline_all node t behind (trim && not z.shows) ks)) is

  pub words-written : {s : Bytes} → s ≡ lean (text_at_of (tape_in c file) k.at) → {n : Normalized} → (Kept (tape_in c file) k kept → n ≡ normalized (tape_in c file) k.at s trim behind)
      → (last-d : Held) (last : Bytes) → ((source : Bytes) → desk_of source last-d last ≡ emit_all (desk_of source d out) (broken s n))
      → {x : Bool} → x ≡ trim && not n.shows
      → Kept (tape_in c file) k kept → (node : ℕ → Bool → List Event) (ks : List ℕ)
      → emit_all (desk_of (tape_in c file).source last-d last) (inline_all node (tape_in c file) behind x ks)
      ≡ emit_all (desk_of (tape_in c file).source d out) (plain_from node (tape_in c file) behind trim k.at ks Words)
  words-written {s} es {n} en last-d last er ex h =
      let t : Tape = tape_in c file in
      text-written (en h ∙ ap (λ (z : Bytes). normalized t k.at z trim behind) es ∙ normalized-lean t k.at (text_at_of t k.at) trim behind)
      last-d last
      (λ source. er source ∙ ap (emit_all (desk_of source d out)) (ap (λ (z : Bytes). broken z n) es ∙ broken-lean (text_at_of t k.at) n))
      ex

  -- a text that is told by its frame
  pub framed-written : (tail : Bytes) (front len : ℕ) (ends y : Bool) {n : Normalized} → n ≡ framed_text_of (record { front = front; len = len; ends = ends }) (not trim) y
      → ((s : Bytes) (trim : Bool) → ends ≡ ends_white s → Kept (tape_in c file) k kept → normalize_text s (not trim) y ≡ normalized (tape_in c file) k.at s trim behind)
      → (last-d : Held) (last : Bytes) → ((size : ℕ) (ends : Bool) → Framed tail size (record { front = front; len = len; ends = ends }) → (source : Bytes) → desk_of source last-d last ≡ emit_all (desk_of source d out) (broken (take size tail) n))
      → {x : Bool} → x ≡ trim && not n.shows
      → Here (tape_in c file) k.at tail (record { front = front; len = len; ends = ends }) → Kept (tape_in c file) k kept → (node : ℕ → Bool → List Event) (ks : List ℕ)
      → emit_all (desk_of (tape_in c file).source last-d last) (inline_all node (tape_in c file) behind x ks)
      ≡ emit_all (desk_of (tape_in c file).source d out) (plain_from node (tape_in c file) behind trim k.at ks Words)
  framed-written tail front len ends y {n} en el last-d last er ex here h =
      let t : Tape = tape_in c file in
      text-written (framed-text t k trim behind kept tail (record { front = front; len = len; ends = ends }) y en el here h)
      last-d last
      (λ source. er here.size ends here.framed source ∙ ap (λ (z : Bytes). emit_all (desk_of source d out) (broken z n)) here.text)
      ex

  pub note-written : (parent : Cursor) {s : Bytes} → s ≡ lean (note_text (tape_in c file) (parent.at + 1) k.at) → {n : Normalized}
      → (Kept (tape_in c file) k kept → n ≡ normalized (tape_in c file) k.at s trim behind)
      → (last-d : Held) (last : Bytes) → ((source : Bytes) → desk_of source last-d last ≡ emit_all (desk_of source d out) (unbroken s n))
      → {x : Bool} → x ≡ trim && not n.shows
      → Kept (tape_in c file) k kept → (node : ℕ → Bool → List Event) (ks : List ℕ)
      → emit_all (desk_of (tape_in c file).source last-d last) (note_all node (tape_in c file) (parent.at + 1) behind x ks)
      ≡ emit_all (desk_of (tape_in c file).source d out) (note_plain node (tape_in c file) behind trim (parent.at + 1) k.at ks Words)
  unfolding note_plain note_turn_of
  note-written parent {s} es {n} en last-d last er {x} ex h node ks =
      let t : Tape = tape_in c file in
      let first : ℕ = parent.at + 1 in
      let w : Desk = desk_of t.source d out in
      let is : n ≡ normalized t k.at (note_text t first k.at) trim behind = en h ∙ ap (λ (z : Bytes). normalized t k.at z trim behind) es ∙ normalized-lean t k.at (note_text t first k.at) trim behind in
      ap (λ (z : Desk). emit_all z (note_all node t first behind x ks)) (er t.source)
      ∙ sym (emit-append w (unbroken s n) (note_all node t first behind x ks))
      ∙ ap (λ (z : Bool). emit_all w (unbroken s n ++ note_all node t first behind z ks)) ex
      ∙ ap (λ (es : List Event). emit_all w (es ++ note_all node t first behind (trim && not n.shows) ks)) (ap (λ (z : Bytes). unbroken z n) es ∙ unbroken-lean (note_text t first k.at) n)
      ∙ ap (λ (z : Normalized). emit_all w (unbroken (note_text t first k.at) z ++ note_all node t first behind (trim && not z.shows) ks)) is

-- what the look gives, kept for the next sibling
pub words_kept : (t : Tape) (c : Cursor) (kept : Step) {next : Step} (solid : Step) → next ≡ next_sibling t c.at → (Kept t c kept → next ≡ next_sibling t c.at → KeptAt t next solid)
    → Kept t c kept → KeptAt t next solid
words_kept t c kept solid en e h = e h en

pub look_past : (t : Tape) (c : Cursor) (kept next solid : Step) → ((t : Tape) → Kept t c kept → next ≡ next_sibling t c.at → KeptAt t next solid)
    → Kept t c kept → next ≡ next_sibling t c.at → KeptAt t next solid
look_past t c kept next solid e = e t

pub passed_kept : (t : Tape) (c : Cursor) (kept : Step) {next : Step} (solid : Step) → next ≡ next_sibling t c.at → ((t : Tape) → Kept t c kept → next ≡ next_sibling t c.at → KeptAt t next solid)
    → Kept t c kept → KeptAt t next solid
passed_kept t c kept solid en e h = e t h en

-- the text of a note's child
module _ (parent c : Cursor) where
  pub first_beside : 0 < c.at → eqb (c.at - 1) parent.at ≡ eqb c.at (parent.at + 1)
  first_beside h = go (eqb (c.at - 1) parent.at) refl
    where
      go : (x : Bool) → eqb (c.at - 1) parent.at ≡ x → x ≡ eqb c.at (parent.at + 1)
      go true e = let b = eqb-true (c.at - 1) parent.at e in sym (eq-eqb c.at (parent.at + 1) (omega arith))
      go false e = let n = eqb-false (c.at - 1) parent.at e in sym (ne_eqb c.at (parent.at + 1) (λ z. n (omega arith)))

  pub first_root : c.at ≤ 0 → ltb 0 c.at ≡ eqb c.at (parent.at + 1)
  first_root h = le-ltb 0 c.at h ∙ sym (ne_eqb c.at (parent.at + 1) (λ z. omega arith))

module _ (t : Tape) (parent c : Cursor) {x : Bool} (ex : x ≡ eqb c.at (parent.at + 1)) {s : Bytes} where
  pub first-text : x ≡ true → s ≡ text_at_of t c.at → {r l : Bytes} → r ≡ remainder s → l ≡ lean r → l ≡ lean (note_text t (parent.at + 1) c.at)
  unfolding note_text
  first-text h es er el = rw (sym ex ∙ h) (el ∙ ap lean (er ∙ ap remainder es))

  pub later-text : x ≡ false → s ≡ lean (text_at_of t c.at) → s ≡ lean (note_text t (parent.at + 1) c.at)
  unfolding note_text
  later-text h es = rw (sym ex ∙ h) es

-- ---- a verse

module _ (c : Sections) (file : Bytes) (span : Span) (k : Cursor) (d : Held) (out : Bytes)
    {first : Step} (ef : first ≡ next_sibling (tape_in c file) k.at) {kind : Kind} (ek : kind.code ≡ 7) (f : Folds)
    (e : folded_in (tape_in c file) span f ≡ fold_at (tape_in c file) kind.code (nodes_in (tape_in c file) span first)) where
  pub anchor_written : (last-d : Held) (last : Bytes)
      → desk_of (tape_in c file).source last-d last ≡ emit (desk_of (tape_in c file).source d out) (verse (label_of (tape_in c file) k.at) (folded_number (tape_in c file) f.alt) (folded_number (tape_in c file) f.published))
      → (node : ℕ → Bool → List Event) (behind trim : Bool)
      → emit_all (desk_of (tape_in c file).source last-d last) (inline_all node (tape_in c file) behind true (nodes_in (tape_in c file) span f.rest))
      ≡ emit_all (desk_of (tape_in c file).source d out) (plain_from node (tape_in c file) behind trim k.at (nodes_in (tape_in c file) span (next_sibling (tape_in c file) k.at)) Anchor)
  unfolding plain_from inline_on inline_turn emit_all folded_in
  anchor_written last-d last er node behind trim =
      let t : Tape = tape_in c file in
      let w : Desk = desk_of t.source d out in
      let folded : folded_in t span f ≡ fold_at t 7 (nodes_in t span (next_sibling t k.at)) = e ∙ rw (ek, ef) in
      ap (λ (z : Desk). emit_all z (inline_all node t behind true (nodes_in t span f.rest))) er
      ∙ ap (λ (z : Folded). emit_all (emit w (verse (label_of t k.at) z.alt z.published)) (inline_all node t behind true z.rest)) folded

pub anchor_left : (t : Tape) (k : Cursor) (rest : Step) {first : Step} → first ≡ next_sibling t k.at → left t rest ≤ left t first → left t rest < left t (Some k)
anchor_left t k rest ef h = omega (arith, left-turn t k refl ef)

-- ---- a turn

pub turn-left : (t : Tape) (k : Cursor) {next : Step} → next ≡ next_sibling t k.at → left t next < left t (Some k)
turn-left t k en = left-turn t k refl en

pub anchor_kept : (t : Tape) (k : Cursor) (kept next solid : Step) → KeptAt t next solid → Kept t k kept → KeptAt t next solid
anchor_kept t k kept next solid e h = e

module _ (c : Sections) (file : Bytes) (span : Span) (k : Cursor) (trim behind : Bool) (kept : Step) (d : Held) (out : Bytes) (g : Going) where
  -- what is left to write behind the turn is what was left before it, from such a child on
  abbrev Goes : Held → Bytes → Child → Type 0
  Goes last-d last child =
      Kept (tape_in c file) k kept → (node : ℕ → Bool → List Event)
      → emit_all (desk_of (tape_in c file).source last-d last) (inline_all node (tape_in c file) behind g.trim (nodes_in (tape_in c file) span g.next))
      ≡ emit_all (desk_of (tape_in c file).source d out) (plain_from node (tape_in c file) behind trim k.at (nodes_in (tape_in c file) span (next_sibling (tape_in c file) k.at)) child)

  pub plain_anchor : {child : Child} → child ≡ Anchor → (last-d : Held) (last : Bytes)
      → ((node : ℕ → Bool → List Event) (behind trim : Bool)
      → emit_all (desk_of (tape_in c file).source last-d last) (inline_all node (tape_in c file) behind g.trim (nodes_in (tape_in c file) span g.next))
      ≡ emit_all (desk_of (tape_in c file).source d out) (plain_from node (tape_in c file) behind trim k.at (nodes_in (tape_in c file) span (next_sibling (tape_in c file) k.at)) Anchor))
      → Goes last-d last child
  plain_anchor ec last-d last e h node = rw ec (e node behind trim)

  pub plain-words : {child : Child} → child ≡ Words → (last-d : Held) (last : Bytes)
      → (Kept (tape_in c file) k kept → (node : ℕ → Bool → List Event) (ks : List ℕ)
      → emit_all (desk_of (tape_in c file).source last-d last) (inline_all node (tape_in c file) behind g.trim ks)
      ≡ emit_all (desk_of (tape_in c file).source d out) (plain_from node (tape_in c file) behind trim k.at ks Words))
      → g.next ≡ next_sibling (tape_in c file) k.at → Goes last-d last child
  plain-words ec last-d last e en h node = rw (ec, en) (e h node (nodes_in (tape_in c file) span (next_sibling (tape_in c file) k.at)))

  module _ {child : Child} (et : g.trim ≡ trim) (en : g.next ≡ next_sibling (tape_in c file) k.at) where
    pub plain_passed : child ≡ Passed → Goes d out child
    unfolding plain_from
    plain_passed ec h node = rw (ec, et, en)

    pub plain_skipped : child ≡ Skipped → Goes d out child
    unfolding plain_from
    plain_skipped ec h node = rw (ec, et, en)

-- ---- a turn along a note

module _ (c : Sections) (file : Bytes) (parent k : Cursor) (trim behind : Bool) (kept : Step) (d : Held) (out : Bytes) (g : Going) where
  -- the same for a note
  abbrev NoteGoes : Held → Bytes → Child → Type 0
  NoteGoes last-d last child =
      Kept (tape_in c file) k kept → (node : ℕ → Bool → List Event)
      → emit_all (desk_of (tape_in c file).source last-d last) (note_all node (tape_in c file) (parent.at + 1) behind g.trim (walk_from (tape_in c file) g.next))
      ≡ emit_all (desk_of (tape_in c file).source d out) (note_plain node (tape_in c file) behind trim (parent.at + 1) k.at (walk_from (tape_in c file) (next_sibling (tape_in c file) k.at)) child)

  pub note_turn_words : {child : Child} → child ≡ Words → (last-d : Held) (last : Bytes)
      → (Kept (tape_in c file) k kept → (node : ℕ → Bool → List Event) (ks : List ℕ)
      → emit_all (desk_of (tape_in c file).source last-d last) (note_all node (tape_in c file) (parent.at + 1) behind g.trim ks)
      ≡ emit_all (desk_of (tape_in c file).source d out) (note_plain node (tape_in c file) behind trim (parent.at + 1) k.at ks Words))
      → g.next ≡ next_sibling (tape_in c file) k.at → NoteGoes last-d last child
  note_turn_words ec last-d last e en h node = rw (ec, en) (e h node (walk_from (tape_in c file) (next_sibling (tape_in c file) k.at)))

  module _ {child : Child} (et : g.trim ≡ trim) (en : g.next ≡ next_sibling (tape_in c file) k.at) where
    pub note_turn_passed : child ≡ Passed → NoteGoes d out child
    unfolding note_plain
    note_turn_passed ec h node = rw (ec, et, en)

    pub note_turn_anchor : child ≡ Anchor → NoteGoes d out child
    unfolding note_plain
    note_turn_anchor ec h node = rw (ec, et, en)

    pub note_turn_skipped : child ≡ Skipped → NoteGoes d out child
    unfolding note_plain
    note_turn_skipped ec h node = rw (ec, et, en)

-- ---- where a turn leads, and whether it still trims

pub anchor_next : (t : Tape) (span : Span) (k : ℕ) {first : Step} → first ≡ next_sibling t k → {kind : Kind} → kind.code ≡ 7 → (f : Folds) → f ≡ folds_at t span kind.code first → f.rest ≡ next_by t span k Anchor
unfolding next_by
anchor_next t span k ef ek f e = ap (λ (z : Folds). z.rest) e ∙ rw (ek, ef)

module _ (t : Tape) (span : Span) (k : ℕ) {next : Step} where
  pub next_anchor : {child : Child} → child ≡ Anchor → next ≡ next_by t span k Anchor → next ≡ next_by t span k child
  next_anchor ec e = rw ec e

  module _ {child : Child} (en : next ≡ next_sibling t k) where
    pub next-words : child ≡ Words → next ≡ next_by t span k child
    unfolding next_by
    next-words ec = rw ec en

    pub next_passed : child ≡ Passed → next ≡ next_by t span k child
    unfolding next_by
    next_passed ec = rw ec en

    pub next_skipped : child ≡ Skipped → next ≡ next_by t span k child
    unfolding next_by
    next_skipped ec = rw ec en

module _ (t : Tape) (c : Cursor) (trim behind : Bool) (kept : Step) {x : Bool} where
  -- what a text shows, by what its lean form does
  shown : (u : Bytes) {s : Bytes} → s ≡ lean u → {n : Normalized} → n ≡ normalized t c.at s trim behind → x ≡ trim && not n.shows
      → x ≡ trim && not (normalized t c.at u trim behind).shows
  shown u es en ex =
      ex ∙ ap (λ (z : Normalized). trim && not z.shows) (en ∙ ap (λ (z : Bytes). normalized t c.at z trim behind) es ∙ normalized-lean t c.at u trim behind)

  pub framed-trim : (tail : Bytes) (front len : ℕ) (ends y : Bool) {n : Normalized} → n ≡ framed_text_of (record { front = front; len = len; ends = ends }) (not trim) y
      → ((s : Bytes) (trim : Bool) → ends ≡ ends_white s → Kept t c kept → normalize_text s (not trim) y ≡ normalized t c.at s trim behind)
      → x ≡ trim && not n.shows → Here t c.at tail (record { front = front; len = len; ends = ends }) → Kept t c kept → x ≡ trim_by t behind trim c.at Words
  unfolding trim_by
  framed-trim tail front len ends y en el ex here h = ex ∙ ap (λ (z : Normalized). trim && not z.shows) (framed-text t c trim behind kept tail (record { front = front; len = len; ends = ends }) y en el here h)

  pub words-trim : {s : Bytes} → s ≡ lean (text_at_of t c.at) → {n : Normalized} → (Kept t c kept → n ≡ normalized t c.at s trim behind) → x ≡ trim && not n.shows
      → Kept t c kept → x ≡ trim_by t behind trim c.at Words
  unfolding trim_by
  words-trim es en ex h = shown (text_at_of t c.at) es (en h) ex

  pub note_words_trim : (first : ℕ) {s : Bytes} → s ≡ lean (note_text t first c.at) → {n : Normalized} → (Kept t c kept → n ≡ normalized t c.at s trim behind) → x ≡ trim && not n.shows
      → Kept t c kept → x ≡ note_trim_by t first behind trim c.at Words
  unfolding note_trim_by
  note_words_trim first es en ex h = shown (note_text t first c.at) es (en h) ex

  module _ {child : Child} where
    pub trim_anchor : child ≡ Anchor → x ≡ true → Kept t c kept → x ≡ trim_by t behind trim c.at child
    unfolding trim_by
    trim_anchor ec e h = rw ec e

    pub trim-words : child ≡ Words → (Kept t c kept → x ≡ trim_by t behind trim c.at Words) → Kept t c kept → x ≡ trim_by t behind trim c.at child
    trim-words ec e h = rw ec (e h)

    pub trim_passed : child ≡ Passed → x ≡ trim → Kept t c kept → x ≡ trim_by t behind trim c.at child
    unfolding trim_by
    trim_passed ec e h = rw ec e

    pub trim_skipped : child ≡ Skipped → x ≡ trim → Kept t c kept → x ≡ trim_by t behind trim c.at child
    unfolding trim_by
    trim_skipped ec e h = rw ec e

    pub note_trim_words : (first : ℕ) → child ≡ Words → (Kept t c kept → x ≡ note_trim_by t first behind trim c.at Words)
        → Kept t c kept → x ≡ note_trim_by t first behind trim c.at child
    note_trim_words first ec e h = rw ec (e h)

    pub note_trim_passed : (first : ℕ) → child ≡ Passed → x ≡ trim → Kept t c kept → x ≡ note_trim_by t first behind trim c.at child
    unfolding note_trim_by
    note_trim_passed first ec e h = rw ec e

    pub note_trim_anchor : (first : ℕ) → child ≡ Anchor → x ≡ trim → Kept t c kept → x ≡ note_trim_by t first behind trim c.at child
    unfolding note_trim_by
    note_trim_anchor first ec e h = rw ec e

    pub note_trim_skipped : (first : ℕ) → child ≡ Skipped → x ≡ trim → Kept t c kept → x ≡ note_trim_by t first behind trim c.at child
    unfolding note_trim_by
    note_trim_skipped first ec e h = rw ec e

-- ---- what a turn keeps

module _ (t : Tape) (c : Cursor) (kept : Step) {r : Step} where
  pub framed-keeps : (tail : Bytes) (front len : ℕ) (ends : Bool) (next : Step) → ((s : Bytes) → ends ≡ ends_white s → Kept t c kept → r ≡ kept_behind_of t s kept c.at next)
      → Here t c.at tail (record { front = front; len = len; ends = ends }) → Kept t c kept → r ≡ kept_behind_of t (text_at_of t c.at) kept c.at next
  framed-keeps tail front len ends next er here h = er (text_at_of t c.at) (frame_ends t c.at tail (record { front = front; len = len; ends = ends }) here) h

  -- behind a text, by what its lean form is
  pub words-keeps : (u : Bytes) {s : Bytes} → s ≡ lean u → (next : Step) → (Kept t c kept → r ≡ kept_behind_of t s kept c.at next) → Kept t c kept
      → r ≡ kept_behind_of t u kept c.at next
  unfolding kept_behind_of
  words-keeps u es next er h =
      er h ∙ ap (λ (x : Bool). cond x (next_solid_of t c.at) (kept_past kept c.at next)) (ap ends_white es ∙ ends-lean u)

  module _ (span : Span) {child : Child} {next : Step} where
    pub keeps_anchor : child ≡ Anchor → next ≡ next_by t span c.at Anchor → r ≡ next → Kept t c kept → r ≡ kept_by t span kept c.at child
    unfolding kept_by
    keeps_anchor ec en er h = rw ec (er ∙ en)

    module _ (en : next ≡ next_sibling t c.at) where
      pub keeps-words : child ≡ Words → (Kept t c kept → r ≡ kept_behind_of t (text_at_of t c.at) kept c.at next) → Kept t c kept → r ≡ kept_by t span kept c.at child
      unfolding kept_by
      keeps-words ec er h = rw (ec, ← en) (er h)

      pub keeps_passed : child ≡ Passed → r ≡ kept_past kept c.at next → Kept t c kept → r ≡ kept_by t span kept c.at child
      unfolding kept_by
      keeps_passed ec er h = rw (ec, ← en) er

      pub keeps_skipped : child ≡ Skipped → r ≡ kept_past kept c.at next → Kept t c kept → r ≡ kept_by t span kept c.at child
      unfolding kept_by
      keeps_skipped ec er h = rw (ec, ← en) er

  module _ (first : ℕ) {child : Child} {next : Step} (en : next ≡ next_sibling t c.at) where
    pub note_keeps_words : child ≡ Words → (Kept t c kept → r ≡ kept_behind_of t (note_text t first c.at) kept c.at next) → Kept t c kept
        → r ≡ note_kept_by t first kept c.at child
    unfolding note_kept_by
    note_keeps_words ec er h = rw (ec, ← en) (er h)

    pub note_keeps_passed : child ≡ Passed → r ≡ kept_past kept c.at next → Kept t c kept → r ≡ note_kept_by t first kept c.at child
    unfolding note_kept_by
    note_keeps_passed ec er h = rw (ec, ← en) er

    pub note_keeps_anchor : child ≡ Anchor → r ≡ kept_past kept c.at next → Kept t c kept → r ≡ note_kept_by t first kept c.at child
    unfolding note_kept_by
    note_keeps_anchor ec er h = rw (ec, ← en) er

    pub note_keeps_skipped : child ≡ Skipped → r ≡ kept_past kept c.at next → Kept t c kept → r ≡ note_kept_by t first kept c.at child
    unfolding note_kept_by
    note_keeps_skipped ec er h = rw (ec, ← en) er

-- ---- what a turn learns of the parent

module _ (t : Tape) (parent c : Cursor) (outer : Bool) (known : Behind) (kept : Step) {r : Behind} where
  pub framed-learnt : (tail : Bytes) (front len : ℕ) (ends : Bool) → ((s : Bytes) → ends ≡ ends_white s → Kept t c kept → r ≡ behind_text t parent outer known c.at s)
      → Here t c.at tail (record { front = front; len = len; ends = ends }) → Kept t c kept → r ≡ behind_text t parent outer known c.at (text_at_of t c.at)
  framed-learnt tail front len ends er here h = er (text_at_of t c.at) (frame_ends t c.at tail (record { front = front; len = len; ends = ends }) here) h

  -- behind a text, by what its lean form is
  pub words-learnt : (u : Bytes) {s : Bytes} → s ≡ lean u → (Kept t c kept → r ≡ behind_text t parent outer known c.at s) → Kept t c kept
      → r ≡ behind_text t parent outer known c.at u
  unfolding behind_text
  words-learnt u es er h =
      er h ∙ ap (λ (x : Bool). cond (x && not (inline_follows_of t c.at)) (learnt (behind_of t parent outer known)) known) (ap ends_white es ∙ ends-lean u)

  module _ {child : Child} where
    pub learnt-words : child ≡ Words → (Kept t c kept → r ≡ behind_text t parent outer known c.at (text_at_of t c.at)) → Kept t c kept → r ≡ behind_by t parent outer known c.at child
    unfolding behind_by
    learnt-words ec er h = rw ec (er h)

    pub note_learnt_words : (first : ℕ) → child ≡ Words → (Kept t c kept → r ≡ behind_text t parent outer known c.at (note_text t first c.at)) → Kept t c kept
        → r ≡ note_behind_by t first parent outer known c.at child
    unfolding note_behind_by
    note_learnt_words first ec er h = rw ec (er h)

    module _ (er : r ≡ known) where
      pub learnt_anchor : child ≡ Anchor → Kept t c kept → r ≡ behind_by t parent outer known c.at child
      unfolding behind_by
      learnt_anchor ec h = rw ec er

      pub learnt_passed : child ≡ Passed → Kept t c kept → r ≡ behind_by t parent outer known c.at child
      unfolding behind_by
      learnt_passed ec h = rw ec er

      pub learnt_skipped : child ≡ Skipped → Kept t c kept → r ≡ behind_by t parent outer known c.at child
      unfolding behind_by
      learnt_skipped ec h = rw ec er

      pub note_learnt_passed : (first : ℕ) → child ≡ Passed → Kept t c kept → r ≡ note_behind_by t first parent outer known c.at child
      unfolding note_behind_by
      note_learnt_passed first ec h = rw ec er

      pub note_learnt_anchor : (first : ℕ) → child ≡ Anchor → Kept t c kept → r ≡ note_behind_by t first parent outer known c.at child
      unfolding note_behind_by
      note_learnt_anchor first ec h = rw ec er

      pub note_learnt_skipped : (first : ℕ) → child ≡ Skipped → Kept t c kept → r ≡ note_behind_by t first parent outer known c.at child
      unfolding note_behind_by
      note_learnt_skipped first ec h = rw ec er

-- ---- a text that is told by its frame

-- what is found in what stands from a node on is found of its text
pub here_of : (t : Tape) (k : ℕ) {tail : Bytes} {size front back len : ℕ} {r : Bool} → tail ≡ drop (node_at t k).start t.source → size ≡ length (text_at_of t k)
    → front ≡ white_front_of tail size → back ≡ white_back_of tail front size → len ≡ size - front - back
    → (front ≡ (frame_of tail size).front → len ≡ (frame_of tail size).len → r ≡ true → size ≤ length tail → Framed tail size (frame_of tail size)) → r ≡ true
    → Here t k tail (record { front = front; len = len; ends = ltb 0 back })
unfolding frame_of
here_of t k {tail} {size} {front} {back} et es ef eb el e h =
    let same : take size tail ≡ text_at_of t k = rw (et, es) (text_front t k) in
    let eb' : back ≡ white_back_of tail (white_front_of tail size) size = eb ∙ ap (λ (i : ℕ). white_back_of tail i size) ef in
    let is : record { front = front; len = size - front - back; ends = ltb 0 back } ≡ frame_of tail size = rw (eb', ef) in
    record { size = size; text = same; framed = rw (el, is) (e ef (el ∙ rw (eb', ef)) h (omega (arith, length-take size tail, ap length same, es))) }
