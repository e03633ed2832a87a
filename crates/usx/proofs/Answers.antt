-- What the walk leaves is what is promised of every file: refused, written, without room, shown.
use mathlib.Core.Path.{◌≡◌, refl, ap, ◌∙◌}
use mathlib.Core.Bool.{Bool, true, false, cond}
use mathlib.Core.List.{◌++◌}
use Prim.Native.Nat.{ℕ, zero, suc, ◌-◌, ◌^◌, ◌≤◌, ◌<◌, min}
use native.Mathlib.Omega.{arith}
use lib.ListN.{length, drop, length-take, length-drop, length-append}
use lib.Dec.{leb}
use borrow.Author.Tests.{leb-true, le-leb, lt-leb}
use Rattle.parts.specs.Bytes.{Bytes}
use Rattle.std.specs.Borrow.{Bor}
use Rattle.std.specs.Prelude.{Result, Ok, Err, IfOk}
use Rattle.tape.specs.File.{contents, tape_of, sections_of}
use Rattle.tape.specs.declared.TapeFile.{TapeFile}
use Rattle.admit.specs.Refusal.{Refusal, refusal_number, reason_number}
use Rattle.admit.specs.Decide.{refusal}
use Rattle.admit.specs.declared.reason.Reason.{Reason}
use Rattle.admit.proofs.Decide.{kept_all, refusal_right, refusal_unique, reason_some}
use Rattle.bounds.proofs.Whole.{text-small}
use Rattle.events.specs.Text.{text_of, Outcome, fitting, outcome_by, outcome}
use Rattle.walk.specs.Shows.{window_of, showing}
use Rattle.walk.specs.Asked.{left, Walked}
use Rattle.walk.specs.declared.Asked.TheVariants.{Whole, From}
use Rattle.usx.specs.Answer.{answer_number, answer_length, outcome_of}
use Rattle.usx.specs.declared.Answer.TheVariants.{Written, Refused, NoRoom}
use Rattle.usx.specs.Shown.{view_by, view, shown_number, shown_bytes, shown_whole, view_of}
use Rattle.usx.specs.declared.Shown.TheVariants.{Given, Refused as Shown-refused}

-- ---- lengths

-- how many bytes a window has
pub window_length : (text : Bytes) (from room : ℕ) → length (window_of text from room) ≡ min room (length text - from)
unfolding window_of
window_length text from room = length-take room (drop from text) ∙ ap (min room) (length-drop from text)

-- a shown buffer keeps its length
pub showing-length : (text : Bytes) (from : ℕ) (out : Bytes) → length (showing text from out) ≡ length out
unfolding showing
showing-length text from out =
    let w : Bytes = window_of text from (length out) in
    length-append w (drop (length w) out) ∙ omega (arith, length-drop (length w) out, window_length text from (length out))

-- and so does one that holds the text or was left alone
fitting-length : (text out : Bytes) → length (fitting text out).buffer ≡ length out
unfolding fitting
fitting-length text out = go (leb (length text) (length out)) refl
  where
    go : (x : Bool) → leb (length text) (length out) ≡ x
        → length (cond {A = Outcome} x (record { number = 0; given = length text; buffer = text ++ drop (length text) out }) (record { number = 8; given = length text; buffer = out })).buffer ≡ length out
    go true e = length-append text (drop (length text) out) ∙ omega (arith, length-drop (length text) out, leb-true (length text) (length out) e)
    go false e = refl

-- what is promised where there is room, and where there is none
room : (text out : Bytes) → length text ≤ length out → record { number = 0; given = length text; buffer = (fitting text out).buffer } ≡ fitting text out
unfolding fitting
room text out h = rw (le-leb (length text) (length out) h)

over : (text out : Bytes) → length out < length text → record { number = 8; given = length text; buffer = (fitting text out).buffer } ≡ fitting text out
unfolding fitting
over text out h = rw (lt-leb (length text) (length out) h)

-- ---- every file

module _ (file : Bor Bytes) {a : Result TapeFile Reason} (en : Refusal file.now (refusal_number a)) where
  -- a refused file has the number of its reason, which is not 0
  refused-by : {A : Type 0} (x f : ℕ → A) → ((k : ℕ) → x (suc k) ≡ f (suc k)) → {e : Reason} → a ≡ Err e → {n : ℕ} → n ≡ reason_number e → x n ≡ f (refusal file.now)
  unfolding refusal_number
  refused-by {A} x f same {e} ea {n} i = go n (rw i (rw ea at en)) (rw i (reason_some e))
    where
      go : (n : ℕ) → Refusal file.now n → 0 < n → x n ≡ f (refusal file.now)
      go zero r h = absurd (omega arith)
      go (suc n) r h = same n ∙ ap f (refusal_unique r (refusal_right file.now))

  pub refused : (out : Bytes) {e : Reason} → a ≡ Err e → {n : ℕ} → n ≡ reason_number e → outcome_of (Refused n) out ≡ outcome file.now out
  unfolding outcome outcome_by outcome_of answer_number answer_length
  refused out = refused-by (λ n. outcome_of (Refused n) out) (λ n. outcome_by n (text_of (tape_of file.now)) out) (λ k. refl)

  pub shown-refused : (from : ℕ) (out : Bytes) {e : Reason} → a ≡ Err e → {n : ℕ} → n ≡ reason_number e → view_of (Shown-refused n) out ≡ view file.now from out
  unfolding view view_by view_of shown_number shown_bytes shown_whole
  shown-refused from out = refused-by (λ n. view_of (Shown-refused n) out) (λ n. view_by n (text_of (tape_of file.now)) from out) (λ k. refl)

  module _ (ef : IfOk a (λ t. t.file ≡ file)) (es : IfOk a (λ t. t.sections ≡ sections_of file.now)) {t : TapeFile} (e : a ≡ Ok t) where
    admitted : Refusal file.now 0
    unfolding refusal_number
    admitted = rw e at en

    number-none : 0 ≡ refusal file.now
    number-none = refusal_unique admitted (refusal_right file.now)

    the_text : text_of (contents t) ≡ text_of (tape_of file.now)
    unfolding tape_of
    the_text = ap text_of (rw (rw e at ef, rw e at es) refl)

    small : length (text_of (contents t)) < 2 ^ 60
    small = rw the_text (text-small file.now (kept_all admitted))

    module _ (out : Bytes) {n : ℕ} {last : Bytes} (w : Walked (contents t) Whole out n last) where
      the_length : n ≡ length (text_of (tape_of file.now))
      the_length = w.counts small ∙ ap length the_text

      the_buffer : last ≡ (fitting (text_of (tape_of file.now)) out).buffer
      unfolding left
      the_buffer = w.leaves small ∙ ap (λ (z : Bytes). (fitting z out).buffer) the_text

      same-room : length last ≡ length out
      same-room = ap length the_buffer ∙ fitting-length (text_of (tape_of file.now)) out

      pub written : n ≤ length last → outcome_of (Written n) last ≡ outcome file.now out
      unfolding outcome outcome_by outcome_of answer_number answer_length
      written h =
          rw (the_length, the_buffer)
          (room (text_of (tape_of file.now)) out (omega (arith, h, the_length, same-room)) ∙ ap (λ (k : ℕ). outcome_by k (text_of (tape_of file.now)) out) number-none)

      pub no_room : length last < n → outcome_of (NoRoom n) last ≡ outcome file.now out
      unfolding outcome outcome_by outcome_of answer_number answer_length
      no_room h =
          rw (the_length, the_buffer)
          (over (text_of (tape_of file.now)) out (omega (arith, h, the_length, same-room)) ∙ ap (λ (k : ℕ). outcome_by k (text_of (tape_of file.now)) out) number-none)

    pub shown : (from : ℕ) (out : Bytes) {n : ℕ} {last : Bytes} → Walked (contents t) (From from) out n last → {r : ℕ} → r ≡ n - from → {k : ℕ} → k ≡ min r (length last)
        → view_of (Given k n) last ≡ view file.now from out
    unfolding left view view_by view_of shown_number shown_bytes shown_whole
    shown from out {n} {last} w {r} er {k} ek =
        let text : Bytes = text_of (tape_of file.now) in
        let whole : n ≡ length text = w.counts small ∙ ap length the_text in
        let window : last ≡ showing text from out = w.leaves small ∙ ap (λ (z : Bytes). showing z from out) the_text in
        let bytes : k ≡ length (window_of text from (length out)) =
        omega (arith, er, ek, whole, ap length window, showing-length text from out, window_length text from (length out)) in
        rw (bytes, whole, window) (ap (λ (m : ℕ). view_by m text from out) number-none)
