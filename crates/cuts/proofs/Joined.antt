-- Windows that follow one another, joined, are the text, wherever the cuts lie.
use mathlib.Core.Path.{◌≡◌, refl, sym, ap, ◌∙◌}
use mathlib.Core.Bool.{Bool, true, false}
use mathlib.Core.List.{List, [], ◌∷◌, ◌++◌}
use Prim.Native.Nat.{ℕ, ◌+◌, ◌-◌, ◌≤◌, ◌<◌, min}
use native.Mathlib.Omega.{arith}
use lib.ListN.{length, take, drop, drop_of_length-le}
use lib.Seq.{take_all, take-add, drop-drop, take-append_seam, take-nil}
use lib.Dec.{leb}
use borrow.Author.Tests.{leb-true, leb-false}
use Rattle.parts.specs.Bytes.{Bytes}
use Rattle.tape.specs.File.{tape_of}
use Rattle.admit.specs.Refusal.{Refusal}
use Rattle.admit.proofs.Decide.{refusal_right, refusal_unique}
use Rattle.events.specs.Text.{text_of}
use Rattle.walk.specs.Shows.{window_of, showing}
use Rattle.usx.specs.Shown.{View, view_by, view, shown_bytes, view_of}
use Rattle.usx.proofs.Answers.{window_length}
use Rattle.cuts.specs.Follow.{cut_by, total, Call, Follow, done, next, joined, given, rooms}

-- ---- any text

-- a window and the one behind it are one
pub window_add : (text : Bytes) (from n m : ℕ) → window_of text from n ++ window_of text (from + n) m ≡ window_of text from (n + m)
unfolding window_of
window_add text from n m = ap (λ (z : Bytes). take n (drop from text) ++ take m z) (sym (drop-drop n from text)) ∙ sym (take-add n m (drop from text))

-- a window from the text's first byte on that is long enough is the text
pub window_whole : (text : Bytes) (n : ℕ) → length text ≤ n → window_of text 0 n ≡ text
unfolding window_of
window_whole text n h = take_all n text h

-- behind the text there is nothing
pub window_past : (text : Bytes) (from n : ℕ) → length text ≤ from → window_of text from n ≡ []
unfolding window_of
window_past text from n h = rw (drop_of_length-le text h) (take-nil {A = ℕ} n)

-- windows of any lengths that follow one another, joined, are one window of all their lengths
pub cuts_joined : (text : Bytes) (from : ℕ) (ns : List ℕ) → cut_by text from ns ≡ window_of text from (total ns)
unfolding cut_by total window_of
cuts_joined text from [] = refl
cuts_joined text from (n ∷ ns) = ap (λ (z : Bytes). window_of text from n ++ z) (cuts_joined text (from + n) ns) ∙ window_add text from n (total ns)

-- and the text, where they reach its end
pub cuts_whole : (text : Bytes) (ns : List ℕ) → length text ≤ total ns → cut_by text 0 ns ≡ text
cuts_whole text ns h = cuts_joined text 0 ns ∙ window_whole text (total ns) h

-- ---- calls

-- the next window starts where the text goes on, whether or not the last one was full
window_on : (text : Bytes) (from n m : ℕ) → window_of text (from + min n (length text - from)) m ≡ window_of text (from + n) m
window_on text from n m = go (leb n (length text - from)) refl
  where
    go : (x : Bool) → leb n (length text - from) ≡ x → window_of text (from + min n (length text - from)) m ≡ window_of text (from + n) m
    go true e = let full : min n (length text - from) ≡ n = omega (arith, leb-true n (length text - from) e) in rw full
    go false e =
        let short : length text - from < n = leb-false n (length text - from) e in
        window_past text (from + min n (length text - from)) m (omega (arith, short)) ∙ sym (window_past text (from + n) m (omega (arith, short)))

module _ (file : Bytes) (r : Refusal file 0) where
  abbrev text : Bytes
  text = text_of (tape_of file)

  -- an admitted file is shown
  pub view_admitted : (from : ℕ) (out : Bytes) → view file from out ≡ record { number = 0; given = length (window_of text from (length out)); whole = length text; buffer = showing text from out }
  unfolding view view_by
  view_admitted from out = ap (λ (n : ℕ). view_by n text from out) (refusal_unique (refusal_right file) r)

  module _ (from : ℕ) (k : Call) (e : view_of k.answer k.behind ≡ view file from k.before) where
    -- how many bytes a call gave
    pub call_bytes : shown_bytes k.answer ≡ min (length k.before) (length text - from)
    unfolding view_of
    call_bytes = ap (λ (v : View). v.given) (e ∙ view_admitted from k.before) ∙ window_length text from (length k.before)

    -- and which
    pub call_given : take (shown_bytes k.answer) k.behind ≡ window_of text from (length k.before)
    unfolding view_of showing
    call_given =
        let w : Bytes = window_of text from (length k.before) in
        let bytes : shown_bytes k.answer ≡ length w = ap (λ (v : View). v.given) (e ∙ view_admitted from k.before) in
        let behind : k.behind ≡ showing text from k.before = ap (λ (v : View). v.buffer) (e ∙ view_admitted from k.before) in
        rw (bytes, behind) (take-append_seam w (drop (length w) k.before))

  -- whatever buffers the calls had, what they gave, joined, is one window with all their room
  pub calls_joined : {from : ℕ} {ks : List Call} → Follow file from ks → joined ks ≡ window_of text from (rooms ks)
  unfolding joined rooms window_of
  calls_joined done = refl
  calls_joined {from} (next {k = k} {ks = ks} e f) =
      rw (call_given from k e, calls_joined f, call_bytes from k e)
      (ap (λ (z : Bytes). window_of text from (length k.before) ++ z) (window_on text from (length k.before) (rooms ks)) ∙ window_add text from (length k.before) (rooms ks))

  -- calls from the text's first byte on with room for all of it give the text
  pub calls_whole : {ks : List Call} → Follow file 0 ks → length text ≤ rooms ks → joined ks ≡ text
  calls_whole {ks} f h = calls_joined f ∙ window_whole text (rooms ks) h

  -- a call that has room and gives nothing stands at the text's end or past it
  pub none-given : (from : ℕ) (k : Call) → view_of k.answer k.behind ≡ view file from k.before → 0 < length k.before → shown_bytes k.answer ≡ 0 → length text ≤ from
  none-given from k e some none = omega (arith, some, none, call_bytes from k e)

  -- calls give no more than their buffers hold
  given-fits : {from : ℕ} {ks : List Call} → Follow file from ks → given ks ≤ rooms ks
  unfolding given rooms
  given-fits done = omega arith
  given-fits {from} (next {k = k} {ks = ks} e f) = omega (arith, call_bytes from k e, given-fits f)

  -- reading on until a call that has room gives nothing gives the text
  pub read_to_end : {ks : List Call} → Follow file 0 ks → (k : Call) → view_of k.answer k.behind ≡ view file (given ks) k.before → 0 < length k.before → shown_bytes k.answer ≡ 0
      → joined ks ≡ text
  read_to_end f k e some none = calls_whole f (omega (arith, given-fits f, none-given _ k e some none))
