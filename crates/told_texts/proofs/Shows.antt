-- What the calls for a text and for a window leave, from what their parts ensure.
use mathlib.Core.Path.{◌≡◌, refl, sym, ap, ◌∙◌}
use mathlib.Core.List.{List}
use Prim.Native.Nat.{ℕ}
use lib.ListN.{set}
use Rattle.parts.specs.Bytes.{Bytes}
use Rattle.events.specs.Text.{Outcome}
use Rattle.usx.specs.declared.Answer.{Answer}
use Rattle.usx.specs.declared.Answer.TheVariants.{Written, Refused as Barred, NoRoom}
use Rattle.usx.specs.Answer.{answer_number, answer_length, outcome_of}
use Rattle.usx.specs.Shown.{View, shown_number, shown_bytes, shown_whole, view_of}
use Rattle.usx.specs.declared.Shown.{Shown}
use Rattle.usx.specs.declared.Shown.TheVariants.{Given, Refused}
use Rattle.told_texts.specs.Told.{Wrote, Showed}

module _ {o : Outcome} {a : Answer} {last : Bytes} (e : outcome_of a last ≡ o) {before after : List ℕ} where
  -- a length told
  wrote : (b : Answer) → a ≡ b → after ≡ set before 0 (answer_length b) → {number : ℕ} → number ≡ answer_number b → Wrote o before number after last
  unfolding outcome_of
  wrote b i ea en =
      let is : outcome_of b last ≡ o = ap (λ (x : Answer). outcome_of x last) (sym i) ∙ e in
      record {
        answer = en ∙ ap (λ (w : Outcome). w.number) is;
        told = ea ∙ ap (λ (w : Outcome). set before 0 w.given) is;
        buffer = ap (λ (w : Outcome). w.buffer) is;
      }

  pub written_wrote : {n : ℕ} → a ≡ Written n → after ≡ set before 0 n → Wrote o before 0 after last
  unfolding answer_number answer_length
  written_wrote {n} i ea = wrote (Written n) i ea refl

  pub refused_wrote : {n number : ℕ} → a ≡ Barred n → after ≡ set before 0 0 → number ≡ n → Wrote o before number after last
  unfolding answer_number answer_length
  refused_wrote {n} i ea en = wrote (Barred n) i ea en

  pub no_room_wrote : {n : ℕ} → a ≡ NoRoom n → after ≡ set before 0 n → Wrote o before 8 after last
  unfolding answer_number answer_length
  no_room_wrote {n} i ea = wrote (NoRoom n) i ea refl

module _ {v : View} {s : Shown} {last : Bytes} (e : view_of s last ≡ v) {before mid after : List ℕ} where
  -- both lengths told, one behind the other
  told : (a : Shown) → s ≡ a → mid ≡ set before 0 (shown_bytes a) → after ≡ set mid 1 (shown_whole a) → {number : ℕ} → number ≡ shown_number a → Showed v before number after last
  unfolding view_of
  told a i em ea en =
      let is : view_of a last ≡ v = ap (λ (x : Shown). view_of x last) (sym i) ∙ e in
      record {
        answer = en ∙ ap (λ (w : View). w.number) is;
        lengths = ea ∙ (λ k. set (em k) 1 (shown_whole a)) ∙ ap (λ (w : View). set (set before 0 w.given) 1 w.whole) is;
        buffer = ap (λ (w : View). w.buffer) is;
      }

  pub given-told : {bytes whole : ℕ} → s ≡ Given bytes whole → mid ≡ set before 0 bytes → after ≡ set mid 1 whole → Showed v before 0 after last
  unfolding shown_number shown_bytes shown_whole
  given-told {bytes} {whole} i em ea = told (Given bytes whole) i em ea refl

  pub refused-told : {n number : ℕ} → s ≡ Refused n → mid ≡ set before 0 0 → after ≡ set mid 1 0 → number ≡ n → Showed v before number after last
  unfolding shown_number shown_bytes shown_whole
  refused-told {n} i em ea en = told (Refused n) i em ea en
