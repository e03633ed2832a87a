-- The whole text: from its parts, measured, written, and shown through a window.
use mathlib.Core.Path.{◌≡◌, refl, sym, ap, ◌∙◌}
use mathlib.Core.Bool.{Bool, false, cond, ◌||◌}
use mathlib.Core.List.{List, [], ◌∷◌, ◌++◌, append_assoc}
use Prim.Native.Nat.{ℕ, zero, suc, ◌+◌, ◌^◌, ◌≤◌, ◌<◌}
use native.Mathlib.Omega.{arith}
use lib.ListN.{length, get_or, take, drop, drop_of_length-le}
use lib.Seq.{take_at}
use lib.Dec.{eqb}
use borrow.Author.Tests.{eq-eqb, ne_eqb, le-leb, lt-leb}
use Rattle.parts.specs.Bytes.{Bytes, b, part}
use Rattle.chars.specs.Escape.{escape, escaped_byte}
use Rattle.window.specs.Page.{Page, page_of, paint}
use Rattle.window.specs.declared.Window.{Window}
use Rattle.window.proofs.Paint.{paint-append, paint_at, paint_front, paint_window}
use Rattle.tape.specs.File.{Tape, tape_in, node_at, kind_at, nowhere}
use Rattle.tape.specs.Tree.{first_child}
use Rattle.tape.specs.declared.Node.{Node}
use Rattle.tape.specs.declared.Sections.{Sections}
use Rattle.tape.specs.declared.kinds.Kind.{Kind}
use Rattle.tape.specs.declared.Cursor.{Cursor}
use Rattle.tape.specs.Found.{Step}
use Rattle.tape.proofs.Walk.{children_walk}
use Rattle.tape.proofs.Laws.{node-count}
use Rattle.tags.specs.Items.{Item, start, close, line, bytes_of, attrs_bytes, attr_bytes, value_of, new_line, render, framed}
use Rattle.tags.specs.Names.{name_of}
use Rattle.tags.proofs.Rendered.{render-append}
use Rattle.lists.specs.Span.{filtered, cut_by, nodes_in}
use Rattle.lists.specs.declared.Span.{Span}
use Rattle.events.specs.Event.{Event, escaped}
use Rattle.events.specs.Pairing.{State, last_ends, paired}
use Rattle.events.specs.Walk.{blocks_e, events_within, events_of}
use Rattle.events.specs.Text.{any_chapter, first_state_of, items_of_tape, text_of, fitting}
use Rattle.events.specs.Profile.{Profile, rust, render_as}
use Rattle.events.specs.Emit.{Desk, lay, emit_all, emitted, after_all}
use Rattle.events.proofs.Emits.{one_profile, paired-emitted, emit_page, emit_state, emit_profile}
use Rattle.usx_state.specs.Mark.{new_marks}
use Rattle.usx_state.specs.declared.Marks.{Marks}
use Rattle.desk.specs.Desk.{chapter_in, verse_in, state_in, profile_of, desk_of, put_on, ended}
use Rattle.desk.specs.Stroke.{strokes_of, strokes_of_attrs, strokes_of_attr, ink, ink_all, strokes, Drew}
use Rattle.walk.specs.Asked.{whole_in, left, Walked}
use Rattle.walk.specs.Shows.{window_of, showing}
use Rattle.walk.specs.declared.Asked.{Asked}
use Rattle.walk.specs.declared.Asked.TheVariants.{Whole, From}
use Rattle.desk.specs.declared.Desk.{Desk as Held}

-- ---- the first number

any_at : (ns : List Node) (i : ℕ) → i < length ns → any_chapter (drop i ns) ≡ eqb (get_or ns i nowhere).kind.code 6 || any_chapter (drop (i + 1) ns)
unfolding any_chapter
any_at [] i h = absurd (omega arith)
any_at (n ∷ ns) zero h = refl
any_at (n ∷ ns) (suc i) h = let e : suc i + 1 ≡ suc (i + 1) = omega arith in rw e (any_at ns i (omega arith))

any-past : (ns : List Node) (i : ℕ) → length ns ≤ i → any_chapter (drop i ns) ≡ false
unfolding any_chapter
any-past ns i h = rw (drop_of_length-le ns h)

-- the chapters that are still to be looked for are those of the tape
pub record Ahead (t : Tape) (i : ℕ) : Type 0 where
  pub same : any_chapter (drop i t.nodes) ≡ any_chapter t.nodes

pub ahead_start : (t : Tape) → Ahead t 0
ahead_start t = record { same = refl }

module _ (c : Sections) (file : Bytes) (i : ℕ) where
  pub ahead_turn : i < c.nodes → {k : Cursor} → k.at ≡ i → {z : Kind} → z.code ≡ kind_at (tape_in c file) k.at → (z.code ≡ 6 → ⊥) → Ahead (tape_in c file) i → Ahead (tape_in c file) (i + 1)
  unfolding node_at
  ahead_turn h ek ez n a =
      record {
        same = sym (any_at (tape_in c file).nodes i (omega (arith, node-count c file)) ∙ ap (λ (x : Bool). x || any_chapter (drop (i + 1) (tape_in c file).nodes)) (ne_eqb (kind_at (tape_in c file) i) 6 (λ e. n (ez ∙ ap (kind_at (tape_in c file)) ek ∙ e)))) ∙ a.same;
      }

  pub number-zero : i < c.nodes → {k : Cursor} → k.at ≡ i → {z : Kind} → z.code ≡ kind_at (tape_in c file) k.at → z.code ≡ 6 → Ahead (tape_in c file) i → 0 ≡ (first_state_of (tape_in c file)).number
  unfolding node_at first_state_of
  number-zero h ek ez e a =
      ap (λ (x : Bool). cond x 0 1)
      (sym (any_at (tape_in c file).nodes i (omega (arith, node-count c file)) ∙ ap (λ (x : Bool). x || any_chapter (drop (i + 1) (tape_in c file).nodes)) (eq-eqb (kind_at (tape_in c file) i) 6 (sym (ez ∙ ap (kind_at (tape_in c file)) ek) ∙ e))) ∙ a.same)

  pub number_one : c.nodes ≤ i → Ahead (tape_in c file) i → 1 ≡ (first_state_of (tape_in c file)).number
  unfolding first_state_of
  number_one h a = ap (λ (x : Bool). cond x 0 1) (sym (any-past (tape_in c file).nodes i (omega (arith, node-count c file))) ∙ a.same)

-- ---- the text by its parts

abbrev opens : Bytes
opens = b "<usx version=\"3.0\">"

abbrev ends : Bytes
ends = b "\n</usx>"

framed_bytes : (is : List Item) → render (framed (is ++ (line 0 ∷ []))) ≡ opens ++ (render is ++ ends)
unfolding render bytes_of name_of attrs_bytes attr_bytes value_of escape escaped_byte new_line
framed_bytes is =
    ap (λ (z : Bytes). opens ++ z)
    (render-append (is ++ (line 0 ∷ [])) (close 1 ∷ [])
    ∙ ap (λ (z : Bytes). z ++ b "</usx>") (render-append is (line 0 ∷ []))
    ∙ append_assoc (render is) (b "\n") (b "</usx>"))

text_parts : (t : Tape) → text_of t ≡ opens ++ (render (emitted (first_state_of t) (events_of t)) ++ (render (last_ends (after_all (first_state_of t) (events_of t))) ++ ends))
unfolding text_of items_of_tape
text_parts t =
    framed_bytes (paired (first_state_of t) (events_of t))
    ∙ ap (λ (z : Bytes). opens ++ (z ++ ends)) (ap render (paired-emitted (first_state_of t) (events_of t)) ∙ render-append (emitted (first_state_of t) (events_of t)) (last_ends (after_all (first_state_of t) (events_of t))))
    ∙ ap (λ (z : Bytes). opens ++ z) (append_assoc (render (emitted (first_state_of t) (events_of t))) (render (last_ends (after_all (first_state_of t) (events_of t)))) ends)

pub text-some : (t : Tape) → 0 < length (text_of t)
text-some t = rw (text_parts t) (omega arith)

-- the desk that a walk starts with
abbrev at_first : Tape → ℕ → Bytes → Desk
at_first t from out = record { page = record { at = 0; from = from; buf = out }; state = first_state_of t; profile = rust }

opened_bytes : (w : Desk) → strokes w (strokes_of (start 1 (escaped (b "version") (b "3.0") ∷ []))) ≡ put_on w opens
unfolding strokes ink_all ink strokes_of strokes_of_attrs strokes_of_attr escaped name_of escape escaped_byte
opened_bytes w = ap (λ (p : Profile). put_on w (ink_all p (strokes_of (start 1 (escaped (b "version") (b "3.0") ∷ []))))) (one_profile w.profile)

closed_bytes : (w : Desk) → lay w (line 0 ∷ close 1 ∷ []) ≡ put_on w ends
unfolding lay put_on render_as render bytes_of new_line name_of
closed_bytes w = ap (λ (p : Profile). put_on w (render_as p (line 0 ∷ close 1 ∷ []))) (one_profile w.profile)

-- what the parts leave, one behind the other
parts_page : (t : Tape) (from : ℕ) (out : Bytes) (a d e z : Desk) → a ≡ put_on (at_first t from out) opens → d ≡ emit_all a (events_of t) → e ≡ ended d → z ≡ put_on e ends → z.page ≡ whole_in t from out
unfolding whole_in put_on ended render_as
parts_page t from out a d e z ea ed ee ez =
    let p : Page = record { at = 0; from = from; buf = out } in
    let s : State = first_state_of t in
    let es : List Event = events_of t in
    let page_a : a.page ≡ paint p opens = ap (λ (x : Desk). x.page) ea in
    let state_a : a.state ≡ s = ap (λ (x : Desk). x.state) ea in
    let profile_a : a.profile ≡ rust = ap (λ (x : Desk). x.profile) ea in
    let page_d : d.page ≡ paint (paint p opens) (render (emitted s es)) =
    ap (λ (x : Desk). x.page) ed ∙ emit_page a es ∙ ap (λ (q : Profile). paint a.page (render_as q (emitted a.state es))) profile_a ∙ ap (λ (q : Page). paint q (render (emitted a.state es))) page_a ∙ ap (λ (u : State). paint (paint p opens) (render (emitted u es))) state_a in
    let state_d : d.state ≡ after_all s es = ap (λ (x : Desk). x.state) ed ∙ emit_state a es ∙ ap (λ (u : State). after_all u es) state_a in
    let profile_d : d.profile ≡ rust = ap (λ (x : Desk). x.profile) ed ∙ emit_profile a es ∙ profile_a in
    let page_e : e.page ≡ paint (paint (paint p opens) (render (emitted s es))) (render (last_ends (after_all s es))) =
    ap (λ (x : Desk). x.page) ee ∙ ap (λ (q : Profile). paint d.page (render_as q (last_ends d.state))) profile_d ∙ ap (λ (q : Page). paint q (render (last_ends d.state))) page_d ∙ ap (λ (u : State). paint (paint (paint p opens) (render (emitted s es))) (render (last_ends u))) state_d in
    ap (λ (x : Desk). x.page) ez
    ∙ ap (λ (q : Page). paint q ends) page_e
    ∙ paint-append (paint (paint p opens) (render (emitted s es))) (render (last_ends (after_all s es))) ends
    ∙ paint-append (paint p opens) (render (emitted s es)) (render (last_ends (after_all s es)) ++ ends)
    ∙ paint-append p opens (render (emitted s es) ++ (render (last_ends (after_all s es)) ++ ends))
    ∙ ap (paint p) (sym (text_parts t))

-- ---- as the code writes it

abbrev all : Span
all = record { cut = false; sifted = false }

events_all : (t : Tape) {s : Step} → s ≡ first_child t 0 → blocks_e t 64 1 (nodes_in t all s) ≡ events_of t
unfolding nodes_in cut_by filtered events_of events_within
events_all t es = ap (blocks_e t 64 1) (children_walk t 0 es)

first_state : (t : Tape) {m : Marks} → m ≡ new_marks (first_state_of t).number → state_in t.source m ≡ first_state_of t
unfolding state_in chapter_in verse_in first_state_of
first_state t em = rw em

module _ (t : Tape) (n : Held) (from m : ℕ) (out : Bytes) (ew : n.window ≡ record { at = 0; from = from }) (en : n.marks ≡ new_marks m) {k : Cursor} (ek : k.at ≡ 0) {s : Step} (es : s ≡ first_child t k.at)
    (da dd de dz : Held) (o₁ o₂ o₃ o₄ : Bytes)
    (ea : Drew n out (strokes_of (start 1 (escaped (b "version") (b "3.0") ∷ []))) da o₁)
    (ed : desk_of t.source dd o₂ ≡ emit_all (desk_of t.source da o₁) (blocks_e t 64 1 (nodes_in t all s)))
    (ee : desk_of t.source de o₃ ≡ ended (desk_of t.source dd o₂))
    (ez : (source : Bytes) → desk_of source dz o₄ ≡ lay (desk_of source de o₃) (line 0 ∷ close 1 ∷ [])) (em : m ≡ (first_state_of t).number) where
  whole_page : (desk_of t.source dz o₄).page ≡ whole_in t from out
  whole_page =
      parts_page t from out (desk_of t.source da o₁) (desk_of t.source dd o₂) (desk_of t.source de o₃) (desk_of t.source dz o₄)
      (ea.on t.source ∙ opened_bytes (desk_of t.source n out)
      ∙ ap (λ (w : Window). put_on (record { page = page_of w out; state = state_in t.source n.marks; profile = profile_of n.profile }) opens) ew
      ∙ ap (λ (u : State). put_on (record { page = record { at = 0; from = from; buf = out }; state = u; profile = profile_of n.profile }) opens) (first_state t (en ∙ ap new_marks em))
      ∙ ap (λ (p : Profile). put_on (record { page = record { at = 0; from = from; buf = out }; state = first_state_of t; profile = p }) opens) (one_profile (profile_of n.profile)))
      (ed ∙ ap (emit_all (desk_of t.source da o₁)) (events_all t (es ∙ ap (first_child t) ek)))
      ee
      (ez t.source ∙ closed_bytes (desk_of t.source de o₃))

  pub whole_length : dz.window.at ≡ (whole_in t from out).at
  whole_length = ap (λ (p : Page). p.at) whole_page

  pub whole_buffer : o₄ ≡ (whole_in t from out).buf
  whole_buffer = ap (λ (p : Page). p.buf) whole_page

-- ---- room or not

measured : (t : Tape) (from : ℕ) (l : Bytes) {n : ℕ} → length (text_of t) < 2 ^ 60 → n ≡ (whole_in t from l).at → n ≡ length (text_of t)
unfolding whole_in
measured t from l h e = e ∙ paint_at (record { at = 0; from = from; buf = l }) (text_of t) (omega arith) ∙ omega arith

-- a walk that found no room
pub no_room : (t : Tape) (l out : Bytes) {k n : ℕ} → (k ≡ (first_state_of t).number → n ≡ (whole_in t 0 l).at) → length out < n → k ≡ (first_state_of t).number → Walked t Whole out n out
unfolding left fitting
no_room t l out {k} {n} f h e = record { counts = λ small. measured t 0 l small (f e); leaves = there }
  where
    there : length (text_of t) < 2 ^ 60 → out ≡ (fitting (text_of t) out).buffer
    there small =
        let is = measured t 0 l small (f e) in
        let over : length out < length (text_of t) = omega (arith, is) in
        rw (lt-leb (length (text_of t)) (length out) over)

-- a walk that wrote the text
pub room : (t : Tape) (l out last : Bytes) {k n : ℕ} → (k ≡ (first_state_of t).number → n ≡ (whole_in t 0 l).at) → n ≤ length out → (k ≡ (first_state_of t).number → last ≡ (whole_in t 0 out).buf)
    → k ≡ (first_state_of t).number → Walked t Whole out n last
unfolding left fitting whole_in
room t l out last {k} {n} f h g e = record { counts = λ small. measured t 0 l small (f e); leaves = there }
  where
    there : length (text_of t) < 2 ^ 60 → last ≡ (fitting (text_of t) out).buffer
    there small =
        let is = measured t 0 l small (f e) in
        let fits : length (text_of t) ≤ length out = omega (arith, is) in
        let front : last ≡ text_of t ++ drop (length (text_of t)) out = g e ∙ paint_front out (text_of t) fits (omega arith) in
        rw (le-leb (length (text_of t)) (length out) fits, front)

-- a text that was written aside and copied
pub copied : (t : Tape) (l aside out last : Bytes) {k n : ℕ} {w : Window} → (k ≡ (first_state_of t).number → n ≡ (whole_in t 0 l).at) → (k ≡ (first_state_of t).number → aside ≡ (whole_in t 0 l).buf)
    → n ≤ length out → n ≤ length l → {s : Bytes} → s ≡ part aside 0 n → page_of w last ≡ paint (record { at = 0; from = 0; buf = out }) s
    → k ≡ (first_state_of t).number → Walked t Whole out n last
unfolding left fitting whole_in
copied t l aside out last {k} {n} f g h hl es ew e = record { counts = λ small. measured t 0 l small (f e); leaves = there }
  where
    there : length (text_of t) < 2 ^ 60 → last ≡ (fitting (text_of t) out).buffer
    there small =
        let is = measured t 0 l small (f e) in
        let fits : length (text_of t) ≤ length out = omega (arith, is) in
        let short : length (text_of t) ≤ length l = omega (arith, is) in
        let front : aside ≡ text_of t ++ drop (length (text_of t)) l = g e ∙ paint_front l (text_of t) short (omega arith) in
        let taken : take n aside ≡ text_of t = ap (λ (m : ℕ). take m aside) is ∙ ap (take (length (text_of t))) front ∙ take_at (text_of t) (drop (length (text_of t)) l) (length (text_of t)) refl in
        let whole : last ≡ text_of t ++ drop (length (text_of t)) out =
        ap (λ (p : Page). p.buf) (ew ∙ ap (paint (record { at = 0; from = 0; buf = out })) (es ∙ taken)) ∙ paint_front out (text_of t) fits (omega arith) in
        rw (le-leb (length (text_of t)) (length out) fits, whole)

-- ---- what was asked

-- a walk through a window
pub window_walked : (t : Tape) (out : Bytes) {asked : Asked} {from : ℕ} → asked ≡ From from → {n : ℕ} {last : Bytes} {k : ℕ}
    → (k ≡ (first_state_of t).number → n ≡ (whole_in t from out).at) → (k ≡ (first_state_of t).number → last ≡ (whole_in t from out).buf) → k ≡ (first_state_of t).number → Walked t asked out n last
unfolding whole_in left showing window_of
window_walked t out {asked} {from} ea f g e =
    record { counts = λ small. measured t from out small (f e); leaves = λ small. rw ea (g e ∙ paint_window from out (text_of t) (omega arith)) }

-- a walk that was asked for the whole text
pub whole_walked : (t : Tape) (out : Bytes) {asked : Asked} → asked ≡ Whole → {n : ℕ} {last : Bytes} → Walked t Whole out n last → Walked t asked out n last
whole_walked t out ea w = rw ea w
