-- Laws of a folded number: collapsing byte by byte, by runs, and along the texts.
use mathlib.Core.Path.{◌≡◌, refl, sym, ap, ◌∙◌}
use mathlib.Core.Bool.{Bool, true, false, ◌&&◌, ◌||◌, or-true, or-false}
use mathlib.Core.List.{List, [], ◌∷◌, ◌++◌, flatten, append-nil}
use Prim.Native.Nat.{ℕ, suc, ◌+◌, ◌-◌, ◌≤◌, ◌<◌, max}
use native.Mathlib.Omega.{arith}
use lib.ListN.{length, take, drop, length-append, length-drop, length-take}
use lib.Seq.{take-take}
use lib.Dec.{ltb}
use borrow.Author.Tests.{lt-ltb, eq-eqb, ne_eqb}
use Rattle.parts.specs.Bytes.{Bytes, part}
use Rattle.parts.proofs.Laws.{part-past}
use Rattle.chars.specs.Utf8.{cut_at}
use Rattle.chars.specs.Space.{is_ascii_white}
use Rattle.words.specs.Words.{chars_of, white, solid, take_while, onto, pieces, nonempty, words, joined, white_len, word_len, trim_start, bytes_of}
use Rattle.words.specs.declared.Set.TheVariants.{Ascii}
use Rattle.words.specs.declared.Part.{Part}
use Rattle.words.proofs.Texts.{white-le, word_le, trim_start_drop, word_none}
use Rattle.words.proofs.Bytes.{ascii_chars, white-more, white-ends}
use Rattle.tape.specs.File.{Tape, node_at, kind_at, text_at_of}
use Rattle.tape.specs.Tree.{first_child, next_sibling, walk_from}
use Rattle.tape.specs.declared.Node.{Node}
use Rattle.tape.specs.declared.Cursor.{Cursor}
use Rattle.tape.specs.Found.{Step}
use Rattle.std.specs.Prelude.{Option, None, Some}
use Rattle.tape.proofs.Walk.{walk_turn, walk_end, children_walk}
use Rattle.fold.specs.Fold.{own_text, texts_of, number_in}
use Rattle.fold.specs.Number.{gap_space, collapse, run_list, to_come, piece_list, word_some, piece_some}
use Rattle.fold.specs.declared.Run.{Run}
use Rattle.fold.specs.declared.Run.TheVariants.{Word, White}
use Rattle.fold.specs.declared.Number.{Number}
use Rattle.fold.specs.declared.Piece.{Piece}

-- ---- collapsing byte by byte is joining the words

spaced : List Bytes → Bytes
spaced [] = []
spaced (w ∷ ws) = 32 ∷ (w ++ spaced ws)

joined-spaced : (w : Bytes) (ws : List Bytes) → joined (w ∷ ws) ≡ w ++ spaced ws
unfolding joined spaced
joined-spaced w [] = sym (append-nil w)
joined-spaced w (v ∷ ws) = ap (λ (z : Bytes). w ++ 32 ∷ z) (joined-spaced v ws)

-- the first piece, and the words behind it
onward : List Bytes → Bytes
onward [] = []
onward (p ∷ ps) = p ++ spaced (nonempty ps)

onto-onward : (x : ℕ) (ps : List Bytes) → onward (onto (x ∷ []) ps) ≡ x ∷ onward ps
unfolding onward onto spaced nonempty
onto-onward x [] = refl
onto-onward x (p ∷ ps) = refl

onto-spaced : (x : ℕ) (ps : List Bytes) → spaced (nonempty (onto (x ∷ []) ps)) ≡ 32 ∷ x ∷ onward ps
unfolding onward onto spaced nonempty
onto-spaced x [] = refl
onto-spaced x (p ∷ ps) = refl

onto-joined : (x : ℕ) (ps : List Bytes) → joined (nonempty (onto (x ∷ []) ps)) ≡ x ∷ onward ps
unfolding onward onto spaced nonempty joined
onto-joined x [] = refl
onto-joined x (p ∷ ps) = joined-spaced (x ∷ p) (nonempty ps)

abbrev cut_up : Bytes → List Bytes
cut_up s = pieces (white Ascii) (chars_of Ascii s)

module _ (x : ℕ) (s : Bytes) where
  cut-white : is_ascii_white x ≡ true → cut_up (x ∷ s) ≡ [] ∷ cut_up s
  unfolding pieces white
  cut-white e = rw (ascii_chars x s, e)

  cut-solid : is_ascii_white x ≡ false → cut_up (x ∷ s) ≡ onto (x ∷ []) (cut_up s)
  unfolding pieces white
  cut-solid e = rw (ascii_chars x s, e)

  module _ (begun gap : Bool) where
    past-white : is_ascii_white x ≡ true → collapse begun gap (x ∷ s) ≡ collapse begun true s
    unfolding collapse
    past-white e = rw (e, collapse)

    past-solid : is_ascii_white x ≡ false → collapse begun gap (x ∷ s) ≡ gap_space (begun && gap) ++ (x ∷ collapse true false s)
    unfolding collapse
    past-solid e = rw (e, collapse)

-- what collapsing gives in each state, by the pieces of the text
record Collapsed (s : Bytes) : Type 0 where
  inside : collapse true false s ≡ onward (cut_up s)
  behind : collapse true true s ≡ spaced (nonempty (cut_up s))
  before : (gap : Bool) → collapse false gap s ≡ joined (nonempty (cut_up s))

collapsed_nil : Collapsed []
unfolding collapse chars_of cut_at pieces nonempty onward spaced joined
collapsed_nil = record { inside = refl; behind = refl; before = λ gap. refl }

module _ (x : ℕ) (s : Bytes) (r : Collapsed s) where
  collapsed_white : is_ascii_white x ≡ true → Collapsed (x ∷ s)
  unfolding onward nonempty
  collapsed_white e =
      record {
        inside = past-white x s true false e ∙ r.behind ∙ ap onward (sym (cut-white x s e));
        behind = past-white x s true true e ∙ r.behind ∙ ap (λ (ps : List Bytes). spaced (nonempty ps)) (sym (cut-white x s e));
        before = λ gap. past-white x s false gap e ∙ r.before true ∙ ap (λ (ps : List Bytes). joined (nonempty ps)) (sym (cut-white x s e));
      }

  collapsed_solid : is_ascii_white x ≡ false → Collapsed (x ∷ s)
  unfolding gap_space
  collapsed_solid e =
      record {
        inside = past-solid x s true false e ∙ ap (λ (z : Bytes). x ∷ z) r.inside ∙ sym (onto-onward x (cut_up s)) ∙ ap onward (sym (cut-solid x s e));
        behind =
            past-solid x s true true e
            ∙ ap (λ (z : Bytes). 32 ∷ x ∷ z) r.inside
            ∙ sym (onto-spaced x (cut_up s))
            ∙ ap (λ (ps : List Bytes). spaced (nonempty ps)) (sym (cut-solid x s e));
        before = λ gap.
            past-solid x s false gap e
            ∙ ap (λ (z : Bytes). x ∷ z) r.inside
            ∙ sym (onto-joined x (cut_up s))
            ∙ ap (λ (ps : List Bytes). joined (nonempty ps)) (sym (cut-solid x s e));
      }

collapsed : (s : Bytes) → Collapsed s
collapsed [] = collapsed_nil
collapsed (x ∷ s) = go (is_ascii_white x) refl (collapsed s)
  where
    go : (t : Bool) → is_ascii_white x ≡ t → Collapsed s → Collapsed (x ∷ s)
    go true e r = collapsed_white x s r e
    go false e r = collapsed_solid x s r e

-- the collapsed text is its words joined by one space
pub collapse-words : (s : Bytes) → collapse false false s ≡ joined (words Ascii s)
unfolding words
collapse-words s = (collapsed s).before false

-- ---- runs at the front of a text, with more behind it

module _ (x : ℕ) (s : Bytes) where
  word_more : is_ascii_white x ≡ false → word_len Ascii (x ∷ s) ≡ suc (word_len Ascii s)
  unfolding word_len take_while solid white flatten
  word_more e = rw (ascii_chars x s, e)

  word_ends : is_ascii_white x ≡ true → word_len Ascii (x ∷ s) ≡ 0
  unfolding word_len take_while solid white flatten
  word_ends e = rw (ascii_chars x s, e)

shut : (z : Bytes) → gap_space (true && false) ++ z ≡ z
unfolding gap_space
shut z = refl

module _ (more : Bytes) where
  white-run : (begun gap : Bool) (s : Bytes) → collapse begun gap (s ++ more) ≡ collapse begun (gap || ltb 0 (white_len Ascii s)) (drop (white_len Ascii s) s ++ more)
  white-run begun gap [] = let n : white_len Ascii [] ≡ 0 = omega (arith, white-le Ascii []) in rw (n, or-false gap)
  white-run begun gap (x ∷ s) = go (is_ascii_white x) refl (white-run begun true s)
    where
      go : (t : Bool) → is_ascii_white x ≡ t → collapse begun true (s ++ more) ≡ collapse begun (true || ltb 0 (white_len Ascii s)) (drop (white_len Ascii s) s ++ more)
          → collapse begun gap (x ∷ (s ++ more)) ≡ collapse begun (gap || ltb 0 (white_len Ascii (x ∷ s))) (drop (white_len Ascii (x ∷ s)) (x ∷ s) ++ more)
      go true e f = past-white x (s ++ more) begun gap e ∙ f ∙ rw (white-more x s e, lt-ltb 0 (suc (white_len Ascii s)) (omega arith), or-true gap)
      go false e f = rw (white-ends x s e, or-false gap)

  word_run : (s : Bytes) → collapse true false (s ++ more) ≡ take (word_len Ascii s) s ++ collapse true false (drop (word_len Ascii s) s ++ more)
  word_run [] = let n : word_len Ascii [] ≡ 0 = omega (arith, word_le Ascii []) in rw n
  word_run (x ∷ s) = go (is_ascii_white x) refl (word_run s)
    where
      go : (t : Bool) → is_ascii_white x ≡ t → collapse true false (s ++ more) ≡ take (word_len Ascii s) s ++ collapse true false (drop (word_len Ascii s) s ++ more)
          → collapse true false (x ∷ (s ++ more)) ≡ take (word_len Ascii (x ∷ s)) (x ∷ s) ++ collapse true false (drop (word_len Ascii (x ∷ s)) (x ∷ s) ++ more)
      go true e f = rw (word_ends x s e)
      go false e f = past-solid x (s ++ more) true false e ∙ shut (x ∷ collapse true false (s ++ more)) ∙ rw (word_more x s e) (ap (λ (z : Bytes). x ∷ z) f)

  word_starts : (begun gap : Bool) (s : Bytes) → 0 < word_len Ascii s → collapse begun gap (s ++ more) ≡ gap_space (begun && gap) ++ collapse true false (s ++ more)
  word_starts begun gap [] h = absurd (omega (arith, word_le Ascii []))
  word_starts begun gap (x ∷ s) h = go (is_ascii_white x) refl
    where
      go : (t : Bool) → is_ascii_white x ≡ t → collapse begun gap (x ∷ (s ++ more)) ≡ gap_space (begun && gap) ++ collapse true false (x ∷ (s ++ more))
      go true e = absurd (omega (arith, word_ends x s e))
      go false e =
          past-solid x (s ++ more) begun gap e
          ∙ ap (λ (z : Bytes). gap_space (begun && gap) ++ z) (sym (past-solid x (s ++ more) true false e ∙ shut (x ∷ collapse true false (s ++ more))))

-- ---- the first run of a part

module _ (source : Bytes) (p : Part) {s f : Bytes} {w n : ℕ} (es : s ≡ part source p.start p.len) (ew : w ≡ white_len Ascii s) (ef : f ≡ drop w s)
    (en : n ≡ word_len Ascii f) where
  sizes : (w ≤ length s) × (n + w ≤ length s) × (length s ≤ p.len) × (p.start + length s ≤ max p.start (length source))
  sizes =
      let a = white-le Ascii s in
      let z = word_le Ascii f in
      let l = ap length ef in
      let d = length-drop w s in
      let e = ap length es in
      let t = length-take p.len (drop p.start source) in
      let o = length-drop p.start source in
      (omega arith, omega arith, omega arith, omega arith)

  pub run_start : p.start + w ≤ max p.start (length source)
  run_start = omega (arith, sizes.0, sizes.3)

  pub run_past : p.start + w + n ≤ max p.start (length source)
  run_past = omega (arith, sizes.1, sizes.3)

  pub run-left : (w ≤ p.len) × (n ≤ p.len - w)
  run-left = let a = sizes.0 in let z = sizes.1 in let l = sizes.2 in (omega arith, omega arith)

  white-past : (begun gap : Bool) {sp : Bool} → sp ≡ gap || ltb 0 w → (more : Bytes) → collapse begun gap (bytes_of source p ++ more) ≡ collapse begun sp (f ++ more)
  white-past begun gap esp more = rw (← es) (white-run more begun gap s ∙ rw (esp, ef, ew))

  pub run-white : (begun gap : Bool) {sp : Bool} → sp ≡ gap || ltb 0 w → n ≡ 0 → (more : Bytes)
      → collapse begun gap (bytes_of source p ++ more) ≡ run_list source begun (White sp) more
  unfolding run_list
  run-white begun gap {sp} esp h more = white-past begun gap esp more ∙ ap (λ (z : Bytes). collapse begun sp (z ++ more)) (nothing ∙ none)
    where
      nothing : f ≡ trim_start Ascii s
      nothing = ef ∙ ap (λ (k : ℕ). drop k s) ew ∙ sym (trim_start_drop Ascii s)

      none : trim_start Ascii s ≡ []
      none = word_none Ascii s (ap (word_len Ascii) (sym nothing) ∙ sym en ∙ h)

  placed : f ≡ part source (p.start + w) (p.len - w)
  placed = ef ∙ ap (drop w) es ∙ part-past source p.start p.len w

  first : take n f ≡ part source (p.start + w) n
  first = ap (take n) placed ∙ take-take n (p.len - w) (drop (p.start + w) source) run-left.1

  rest : drop n f ≡ part source (p.start + w + n) (p.len - w - n)
  rest = ap (drop n) placed ∙ part-past source (p.start + w) (p.len - w) n

  pub run-some : (n ≡ 0 → ⊥) → 0 < length (bytes_of source (record { start = p.start + w; len = n }))
  run-some h = omega (arith, ap length first, length-take n f, en, word_le Ascii f)

  pub run_word : (begun gap : Bool) {sp x : Bool} → sp ≡ gap || ltb 0 w → (n ≡ 0 → ⊥) → x ≡ begun && sp → (more : Bytes)
      → collapse begun gap (bytes_of source p ++ more)
      ≡ run_list source begun (Word (record { start = p.start + w; len = n }) x (record { start = p.start + w + n; len = p.len - w - n })) more
  unfolding run_list
  run_word begun gap {sp} {x} esp h ex more =
      white-past begun gap esp more
      ∙ word_starts more begun sp f (omega (arith, en))
      ∙ ap (λ (z : Bytes). gap_space (begun && sp) ++ z) (word_run more f)
      ∙ rw (← ex, ← en, first, rest)

-- ---- the text of a node

module _ (t : Tape) (k : ℕ) {n : Node} (en : n ≡ node_at t k) where
  coded : n.kind.code ≡ kind_at t k
  coded = ap (λ (m : Node). m.kind.code) en

  pub text_placed : n.kind.code ≡ 1 → {a l : ℕ} → a ≡ n.start → l ≡ n.len → bytes_of t.source (record { start = a; len = l }) ≡ own_text t k
  unfolding own_text text_at_of
  text_placed h ea el = rw (eq-eqb (kind_at t k) 1 (sym coded ∙ h), ea, el) (ap (λ (m : Node). part t.source m.start m.len) en)

  pub text-none : (n.kind.code ≡ 1 → ⊥) → bytes_of t.source (record { start = 0; len = 0 }) ≡ own_text t k
  unfolding own_text
  text-none h = rw (ne_eqb (kind_at t k) 1 (λ e. h (coded ∙ e)))

-- ---- the walk over a number

pub number_starts : (t : Tape) (k : ℕ) {s : Step} → s ≡ first_child t k
    → to_come t (record { rest = record { start = 0; len = 0 }; next = s; begun = false; gap = false }) ≡ number_in t k
unfolding to_come number_in
number_starts t k {s} es = collapse-words (texts_of t (walk_from t s)) ∙ ap (λ (ks : List ℕ). joined (words Ascii (texts_of t ks))) (children_walk t k es)

module _ (t : Tape) (rest : Part) (next : Step) (begun gap : Bool) {z : Bytes} (inv : to_come t (record { rest = rest; next = next; begun = begun; gap = gap }) ≡ z)
    {s : Bytes} (r : Run) (es : s ≡ t.source) (er : (more : Bytes) → collapse begun gap (bytes_of s rest ++ more) ≡ run_list s begun r more) where
  came : z ≡ run_list t.source begun r (texts_of t (walk_from t next))
  unfolding to_come
  came = sym inv ∙ (rw es at (er (texts_of t (walk_from t next))))

  piece_here : {p after : Part} {x : Bool} → r ≡ Word p x after → z ≡ piece_list t (Some (record { part = p; space = x; left = record { rest = after; next = next; begun = true; gap = false } }))
  unfolding run_list piece_list to_come
  piece_here e = came ∙ rw e

  module _ {sp : Bool} (e : r ≡ White sp) where
    none_here : next ≡ None → z ≡ piece_list t None
    unfolding run_list piece_list texts_of collapse
    none_here en = came ∙ rw e (ap (λ (ks : List ℕ). collapse begun sp (texts_of t ks)) (walk_end t en))

    pub number_on : {c : Cursor} → next ≡ Some c → (p : Part) → bytes_of t.source p ≡ own_text t c.at → {n : Step} → n ≡ next_sibling t c.at
        → to_come t (record { rest = p; next = n; begun = begun; gap = sp }) ≡ z
    unfolding run_list to_come texts_of
    number_on {c} ec p ep en =
        sym (came ∙ rw e (ap (λ (ks : List ℕ). collapse begun sp (texts_of t ks)) (walk_turn t c ec en) ∙ rw ep))

-- the same, from the number that the walk was handed
module _ (t : Tape) (n : Number) (rest : Part) (next : Step) (begun gap : Bool)
    (inv : to_come t (record { rest = rest; next = next; begun = begun; gap = gap }) ≡ to_come t (record { rest = n.rest; next = n.next; begun = n.begun; gap = n.gap }))
    {s : Bytes} (r : Run) (es : s ≡ t.source) (er : (more : Bytes) → collapse begun gap (bytes_of s rest ++ more) ≡ run_list s begun r more) where
  handed : to_come t n ≡ to_come t (record { rest = n.rest; next = n.next; begun = n.begun; gap = n.gap })
  unfolding to_come
  handed = refl

  pub number-piece : {p after : Part} {x : Bool} → r ≡ Word p x after → to_come t n ≡ piece_list t (Some (record { part = p; space = x; left = record { rest = after; next = next; begun = true; gap = false } }))
  number-piece e = handed ∙ piece_here t rest next begun gap inv r es er e

  pub number_done : {sp : Bool} → r ≡ White sp → next ≡ None → to_come t n ≡ piece_list t None
  number_done e en = handed ∙ none_here t rest next begun gap inv r es er e en

  pub piece-some : word_some s r → {p after : Part} {x : Bool} → r ≡ Word p x after → 0 < length (bytes_of t.source p)
  piece-some h e = rw es at (rw e at h)

-- each piece leaves less to come
pub number_less : (t : Tape) (n : Number) (r : Option Piece) → to_come t n ≡ piece_list t r → piece_some t r → {p : Piece} → r ≡ Some p
    → length (to_come t p.left) < length (to_come t n)
unfolding piece_list
number_less t n r er h {p} e =
    let size : 0 < length (bytes_of t.source p.part) = rw e at h in
    let whole : to_come t n ≡ gap_space p.space ++ (bytes_of t.source p.part ++ to_come t p.left) = er ∙ rw e in
    omega (arith, ap length whole, length-append (gap_space p.space) (bytes_of t.source p.part ++ to_come t p.left), length-append (bytes_of t.source p.part) (to_come t p.left))
