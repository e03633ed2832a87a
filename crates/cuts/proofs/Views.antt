-- What is said of every window, and `serialize` as the window from the first byte on.
use mathlib.Core.Path.{◌≡◌, refl, sym, ap, ◌∙◌}
use mathlib.Core.Bool.{Bool, true, false, cond}
use mathlib.Core.List.{[], ◌++◌}
use Prim.Native.Nat.{ℕ, zero, suc, ◌-◌, ◌≤◌, ◌<◌, min}
use native.Mathlib.Omega.{arith}
use lib.ListN.{length, drop}
use lib.Dec.{leb}
use borrow.Author.Tests.{leb-true, le-leb}
use Rattle.parts.specs.Bytes.{Bytes}
use Rattle.tape.specs.File.{tape_of}
use Rattle.admit.specs.Refusal.{Refusal}
use Rattle.admit.specs.Decide.{refusal}
use Rattle.admit.proofs.Decide.{refusal_right}
use Rattle.events.specs.Text.{text_of, Outcome, fitting, outcome_by, outcome}
use Rattle.bounds.proofs.Whole.{fitting-given}
use Rattle.walk.specs.Shows.{window_of, showing}
use Rattle.usx.specs.Answer.{answer_number, answer_length, outcome_of}
use Rattle.usx.specs.declared.Answer.TheVariants.{Written}
use Rattle.usx.specs.Shown.{View, view_by, view, shown_number, shown_bytes, shown_whole, view_of}
use Rattle.usx.specs.declared.Shown.{Shown}
use Rattle.usx.specs.declared.Shown.TheVariants.{Given}
use Rattle.usx.proofs.Answers.{window_length}
use Rattle.usx.proofs.One.{below_eight, one_shown}
use Rattle.cuts.proofs.Joined.{window_whole, window_past}

-- 8 is never given, whatever the buffer
pub never_eight : (file : Bytes) (from : ℕ) (out : Bytes) → (view file from out).number < 8
unfolding view view_by
never_eight file from out = go (refusal file) (refusal_right file)
  where
    go : (n : ℕ) → Refusal file n → (view_by n (text_of (tape_of file)) from out).number < 8
    go zero r = omega arith
    go (suc n) r = below_eight r

-- a start at the text's end or past it gives nothing and writes nothing
pub past_end : (file : Bytes) (from : ℕ) (out : Bytes) → length (text_of (tape_of file)) ≤ from → ((view file from out).given ≡ 0) × ((view file from out).buffer ≡ out)
unfolding view view_by showing
past_end file from out h = go (refusal file)
  where
    go : (n : ℕ) → ((view_by n (text_of (tape_of file)) from out).given ≡ 0) × ((view_by n (text_of (tape_of file)) from out).buffer ≡ out)
    go zero = let none : window_of (text_of (tape_of file)) from (length out) ≡ [] = window_past (text_of (tape_of file)) from (length out) h in (rw none, rw none)
    go (suc n) = (refl, refl)

-- every window, one of no byte too, says the length that `serialize` gives with whatever buffer: measuring is a window of no byte
pub whole_measured : (file : Bytes) (from : ℕ) (out room : Bytes) → (view file from out).whole ≡ (outcome file room).given
unfolding view view_by outcome outcome_by
whole_measured file from out room = go (refusal file)
  where
    go : (n : ℕ) → (view_by n (text_of (tape_of file)) from out).whole ≡ (outcome_by n (text_of (tape_of file)) room).given
    go zero = sym (fitting-given (text_of (tape_of file)) room)
    go (suc n) = refl

-- ---- serialize

-- an outcome as a view of the whole text
abbrev as_view : Outcome → View
as_view o = record { number = o.number; given = o.given; whole = o.given; buffer = o.buffer }

-- where there is room, or a refusal, `serialize` is the window from the first byte on
pub serialize_view : (file out : Bytes) → ((outcome file out).number ≡ 8 → ⊥) → view file 0 out ≡ as_view (outcome file out)
unfolding view view_by showing outcome outcome_by fitting
serialize_view file out = go (refusal file)
  where
    text : Bytes
    text = text_of (tape_of file)

    room : (x : Bool) → leb (length text) (length out) ≡ x
        → ((cond {A = Outcome} x (record { number = 0; given = length text; buffer = text ++ drop (length text) out }) (record { number = 8; given = length text; buffer = out })).number ≡ 8 → ⊥)
        → view_by 0 text 0 out ≡ as_view (cond {A = Outcome} x (record { number = 0; given = length text; buffer = text ++ drop (length text) out }) (record { number = 8; given = length text; buffer = out }))
    room true e ne = rw (window_whole text (length out) (leb-true (length text) (length out) e))
    room false e ne = absurd (ne refl)

    go : (n : ℕ) → ((outcome_by n text out).number ≡ 8 → ⊥) → view_by n text 0 out ≡ as_view (outcome_by n text out)
    go zero ne = room (leb (length text) (length out)) refl ne
    go (suc n) ne = refl

-- so a text that is written is what the window from the first byte on shows, in the same buffer
pub written-shown : (file out : Bytes) (n : ℕ) (last : Bytes) → outcome_of (Written n) last ≡ outcome file out → (s : Shown) (last₂ : Bytes) → view_of s last₂ ≡ view file 0 out
    → (s ≡ Given n n) × (last₂ ≡ last)
unfolding outcome_of answer_number answer_length view_of shown_number shown_bytes shown_whole
written-shown file out n last e s last₂ es =
    let none : 0 ≡ (outcome file out).number = ap (λ (o : Outcome). o.number) e in
    one_shown file 0 out s (Given n n) last₂ last es
    (ap as_view e ∙ sym (serialize_view file out λ eight. absurd (omega (arith, none, eight))))

-- and a window from the first byte on that gives as many bytes as the whole text has is what `serialize` writes: a buffer that was guessed large enough
pub shown-written : (file out : Bytes) (n : ℕ) (last : Bytes) → view_of (Given n n) last ≡ view file 0 out → outcome_of (Written n) last ≡ outcome file out
unfolding view view_by showing outcome outcome_by fitting outcome_of answer_number answer_length view_of shown_number shown_bytes shown_whole
shown-written file out n last = go (refusal file)
  where
    text : Bytes
    text = text_of (tape_of file)

    go : (k : ℕ) → view_of (Given n n) last ≡ view_by k text 0 out → outcome_of (Written n) last ≡ outcome_by k text out
    go zero e =
        let whole : n ≡ length text = ap (λ (v : View). v.whole) e in
        let bytes : n ≡ min (length out) (length text - 0) = ap (λ (v : View). v.given) e ∙ window_length text 0 (length out) in
        let fits : length text ≤ length out = omega (arith, whole, bytes) in
        let is : window_of text 0 (length out) ≡ text = window_whole text (length out) fits in
        let buffer : last ≡ text ++ drop (length text) out = ap (λ (v : View). v.buffer) e ∙ ap (λ (w : Bytes). w ++ drop (length w) out) is in
        rw (le-leb (length text) (length out) fits, whole, buffer)
    go (suc k) e = absurd (let no : 0 ≡ suc k = ap (λ (v : View). v.number) e in omega (arith, no))
