-- The contract of `serialize_and_check` leaves one result and one buffer.
use mathlib.Core.Path.{◌≡◌, ap, ◌∙◌}
use Prim.Native.Nat.{ℕ}
use native.Mathlib.Omega.{arith}
use Rattle.parts.specs.Bytes.{Bytes}
use Rattle.tape.specs.File.{tape_of}
use Rattle.checker.proofs.Answers.{settled}
use Rattle.events.specs.Text.{text_of, outcome}
use Rattle.usx.specs.Answer.{outcome_of}
use Rattle.usx.proofs.One.{one_answer}
use Rattle.calls.specs.Called.{answer_in, Checked, written}
use Rattle.calls.specs.declared.Called.{Called}
use Rattle.calls.specs.declared.Called.TheVariants.{Written, Refused, NoRoom}

same_call : (file : Bytes) (r₁ r₂ : Called) → answer_in r₁ ≡ answer_in r₂ → Checked file r₁ → Checked file r₂ → r₁ ≡ r₂
unfolding answer_in
same_call file (Written n v) (Written m w) e (written j p) (written k q) =
    let i : n ≡ m = cc in
    ap (λ (x : ℕ). Written x v) i ∙ ap (Written m) (settled (text_of (tape_of file)) v w j k)
same_call file (Refused n) (Refused m) e c d = let i : n ≡ m = cc in ap Refused i
same_call file (NoRoom n) (NoRoom m) e c d = let i : n ≡ m = cc in ap NoRoom i
same_call file (Written n v) (Refused m) e c d = absurd (let no_way : ◌≡◌ {A = ℕ} 0 1 = cc in omega arith)
same_call file (Written n v) (NoRoom m) e c d = absurd (let no_way : ◌≡◌ {A = ℕ} 0 1 = cc in omega arith)
same_call file (Refused n) (Written m v) e c d = absurd (let no_way : ◌≡◌ {A = ℕ} 0 1 = cc in omega arith)
same_call file (Refused n) (NoRoom m) e c d = absurd (let no_way : ◌≡◌ {A = ℕ} 0 1 = cc in omega arith)
same_call file (NoRoom n) (Written m v) e c d = absurd (let no_way : ◌≡◌ {A = ℕ} 0 1 = cc in omega arith)
same_call file (NoRoom n) (Refused m) e c d = absurd (let no_way : ◌≡◌ {A = ℕ} 0 1 = cc in omega arith)

-- two results that satisfy the contract for one file and one buffer are equal, and so are the buffers behind them
pub one_call : (file out : Bytes) (r₁ r₂ : Called) (last₁ last₂ : Bytes) → outcome_of (answer_in r₁) last₁ ≡ outcome file out → outcome_of (answer_in r₂) last₂ ≡ outcome file out
    → Checked file r₁ → Checked file r₂ → (r₁ ≡ r₂) × (last₁ ≡ last₂)
one_call file out r₁ r₂ last₁ last₂ e₁ e₂ c₁ c₂ =
    let o = one_answer file out (answer_in r₁) (answer_in r₂) last₁ last₂ e₁ e₂ in
    (same_call file r₁ r₂ o.0 c₁ c₂, o.1)
