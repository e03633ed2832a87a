-- The contracts of `serialize` and `window` leave one answer and one buffer.
use mathlib.Core.Path.{◌≡◌, sym, ap, ◌∙◌}
use Prim.Native.Nat.{ℕ, zero, suc, ◌<◌}
use native.Mathlib.Omega.{arith}
use Rattle.parts.specs.Bytes.{Bytes}
use Rattle.tape.specs.File.{tape_of}
use Rattle.admit.specs.Decide.{refusal}
use Rattle.admit.specs.Refusal.{Refusal, none, first, second, third, fourth, fifth, sixth, seventh}
use Rattle.admit.proofs.Decide.{refusal_right}
use Rattle.events.specs.Text.{text_of, Outcome, outcome_by, outcome}
use Rattle.bounds.proofs.Whole.{fitting-given}
use Rattle.walk.proofs.Whole.{text-some}
use Rattle.usx.specs.Answer.{answer_number, answer_length, outcome_of}
use Rattle.usx.specs.declared.Answer.{Answer}
use Rattle.usx.specs.declared.Answer.TheVariants.{Written, Refused, NoRoom}
use Rattle.usx.specs.Shown.{View, view_by, view, shown_number, shown_bytes, shown_whole, view_of}
use Rattle.usx.specs.declared.Shown.{Shown}
use Rattle.usx.specs.declared.Shown.TheVariants.{Given, Refused as Shown-refused}

-- admission gives no number above 7
pub below_eight : {file : Bytes} {n : ℕ} → Refusal file n → n < 8
below_eight (none k) = omega arith
below_eight (first f) = omega arith
below_eight (second k f) = omega arith
below_eight (third k f) = omega arith
below_eight (fourth k f) = omega arith
below_eight (fifth k f) = omega arith
below_eight (sixth k d) = omega arith
below_eight (seventh k f) = omega arith

-- the length 0 goes with refusals 1 to 7 alone: no text is empty
refused-given : (file out : Bytes) → (outcome file out).given ≡ 0 → (0 < (outcome file out).number) × ((outcome file out).number < 8)
unfolding outcome outcome_by
refused-given file out = go (refusal file) (refusal_right file)
  where
    go : (n : ℕ) → Refusal file n → (outcome_by n (text_of (tape_of file)) out).given ≡ 0
        → (0 < (outcome_by n (text_of (tape_of file)) out).number) × ((outcome_by n (text_of (tape_of file)) out).number < 8)
    go zero r e = absurd (omega (arith, e, fitting-given (text_of (tape_of file)) out, text-some (tape_of file)))
    go (suc n) r e = (omega arith, below_eight r)

-- an answer is known by its number and its length, if a length of 0 goes with 1 to 7 alone
known : (n g : ℕ) → (g ≡ 0 → (0 < n) × (n < 8)) → (a₁ a₂ : Answer) → answer_number a₁ ≡ n → answer_length a₁ ≡ g → answer_number a₂ ≡ n → answer_length a₂ ≡ g → a₁ ≡ a₂
unfolding answer_number answer_length
known n g f (Written k) (Written l) n₁ g₁ n₂ g₂ = ap Written (g₁ ∙ sym g₂)
known n g f (Refused k) (Refused l) n₁ g₁ n₂ g₂ = ap Refused (n₁ ∙ sym n₂)
known n g f (NoRoom k) (NoRoom l) n₁ g₁ n₂ g₂ = ap NoRoom (g₁ ∙ sym g₂)
known n g f (Written k) (NoRoom l) n₁ g₁ n₂ g₂ = absurd (omega (arith, n₁, n₂))
known n g f (NoRoom k) (Written l) n₁ g₁ n₂ g₂ = absurd (omega (arith, n₁, n₂))
known n g f (Written k) (Refused l) n₁ g₁ n₂ g₂ = absurd (omega (arith, n₁, (f (sym g₂)).0))
known n g f (Refused k) (Written l) n₁ g₁ n₂ g₂ = absurd (omega (arith, n₂, (f (sym g₁)).0))
known n g f (NoRoom k) (Refused l) n₁ g₁ n₂ g₂ = absurd (omega (arith, n₁, (f (sym g₂)).1))
known n g f (Refused k) (NoRoom l) n₁ g₁ n₂ g₂ = absurd (omega (arith, n₂, (f (sym g₁)).1))

-- two results that satisfy the contract of `serialize` for one file and one buffer are equal, the answers and the buffers behind them
pub one_answer : (file out : Bytes) (a₁ a₂ : Answer) (last₁ last₂ : Bytes) → outcome_of a₁ last₁ ≡ outcome file out → outcome_of a₂ last₂ ≡ outcome file out → (a₁ ≡ a₂) × (last₁ ≡ last₂)
unfolding outcome_of
one_answer file out a₁ a₂ last₁ last₂ e₁ e₂ =
    let number : Outcome → ℕ = λ (o : Outcome). o.number in
    let given : Outcome → ℕ = λ (o : Outcome). o.given in
    (known (outcome file out).number (outcome file out).given (refused-given file out) a₁ a₂ (ap number e₁) (ap given e₁) (ap number e₂) (ap given e₂), ap (λ (o : Outcome). o.buffer) (e₁ ∙ sym e₂))

-- ---- windows

-- a text of no byte goes with a refusal alone
refused_whole : (file : Bytes) (from : ℕ) (out : Bytes) → (view file from out).whole ≡ 0 → 0 < (view file from out).number
unfolding view view_by
refused_whole file from out = go (refusal file)
  where
    go : (n : ℕ) → (view_by n (text_of (tape_of file)) from out).whole ≡ 0 → 0 < (view_by n (text_of (tape_of file)) from out).number
    go zero e = absurd (omega (arith, e, text-some (tape_of file)))
    go (suc n) e = omega arith

-- an answer is known by its number and its lengths, if a text of no byte goes with a refusal alone
known_shown : (n g w : ℕ) → (w ≡ 0 → 0 < n) → (a₁ a₂ : Shown) → shown_number a₁ ≡ n → shown_bytes a₁ ≡ g → shown_whole a₁ ≡ w
    → shown_number a₂ ≡ n → shown_bytes a₂ ≡ g → shown_whole a₂ ≡ w → a₁ ≡ a₂
unfolding shown_number shown_bytes shown_whole
known_shown n g w f (Given g₁ w₁) (Given g₂ w₂) en₁ eg₁ ew₁ en₂ eg₂ ew₂ = ap (λ (k : ℕ). Given k w₁) (eg₁ ∙ sym eg₂) ∙ ap (Given g₂) (ew₁ ∙ sym ew₂)
known_shown n g w f (Shown-refused k) (Shown-refused l) en₁ eg₁ ew₁ en₂ eg₂ ew₂ = ap Shown-refused (en₁ ∙ sym en₂)
known_shown n g w f (Given g₁ w₁) (Shown-refused l) en₁ eg₁ ew₁ en₂ eg₂ ew₂ = absurd (omega (arith, en₁, f (sym ew₂)))
known_shown n g w f (Shown-refused k) (Given g₂ w₂) en₁ eg₁ ew₁ en₂ eg₂ ew₂ = absurd (omega (arith, en₂, f (sym ew₁)))

-- two results that satisfy the contract of `window` for one file, one start and one buffer are equal, the answers and the buffers behind them
pub one_shown : (file : Bytes) (from : ℕ) (out : Bytes) (a₁ a₂ : Shown) (last₁ last₂ : Bytes) → view_of a₁ last₁ ≡ view file from out → view_of a₂ last₂ ≡ view file from out → (a₁ ≡ a₂) × (last₁ ≡ last₂)
unfolding view_of
one_shown file from out a₁ a₂ last₁ last₂ e₁ e₂ =
    let number : View → ℕ = λ (v : View). v.number in
    let given : View → ℕ = λ (v : View). v.given in
    let whole : View → ℕ = λ (v : View). v.whole in
    let v : View = view file from out in (
      known_shown v.number v.given v.whole (refused_whole file from out) a₁ a₂ (ap number e₁) (ap given e₁) (ap whole e₁) (ap number e₂) (ap given e₂) (ap whole e₂),
      ap (λ (v : View). v.buffer) (e₁ ∙ sym e₂),
    )
