-- What the turns of the loops come nearer to.
use Prim.Native.Nat.{ℕ, ◌+◌, ◌-◌, ◌≤◌, ◌<◌}
use mathlib.Core.Path.{◌≡◌, ap}
use lib.ListN.{length, drop, length-drop}
use native.Mathlib.Omega.{arith}
use Rattle.parts.specs.Bytes.{Bytes}
use Rattle.words.specs.Words.{next_word}
use Rattle.words.specs.declared.Set.{Set}
use Rattle.words.specs.declared.Part.{Part}
use Rattle.words.proofs.Places.{next_start}
use Rattle.words.proofs.Answers.{next-ends}

-- ---- a place in what stands from another on

module _ (s : Bytes) (at : ℕ) {r : Bytes} (er : r ≡ drop at s) {n : ℕ} (h : n < length r) where
  pub piece_in : at + n + 1 ≤ length s
  piece_in = omega (arith, ap length er, length-drop at s)

  pub break_in : at + n + 2 ≤ length s + 1
  break_in = omega (arith, piece_in)

-- ---- words

module _ (set : Set) (s : Bytes) where
  pub first_in : {p : Part} → p ≡ next_word set s 0 → p.start + p.len ≤ length s
  first_in e = next-ends set s 0 e (omega arith)

  module _ (p : Part) (h : p.start + p.len ≤ length s) {q : Part} (e : q ≡ next_word set s (p.start + p.len)) where
    pub next_in : q.start + q.len ≤ length s
    next_in = next-ends set s (p.start + p.len) e h

    pub word_less : 0 < p.len → length s - q.start < length s - p.start
    word_less l = omega (arith, h, l, ap (λ (p : Part). p.start) e, (next_start set s (p.start + p.len)).1)
