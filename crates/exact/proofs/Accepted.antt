-- What is accepted is sound, so that what is written decides.
use mathlib.Core.Path.{refl, ap, ◌∙◌, subst}
use mathlib.Core.List.{List, [], ◌∷◌, ◌++◌, append_assoc}
use mathlib.Core.Bool.{false}
use mathlib.Core.Logic.{◌↔◌}
use Prim.Native.Nat.{ℕ}
use native.Mathlib.Omega.{arith}
use Rattle.parts.specs.Bytes.{Bytes, b}
use Rattle.chars.proofs.Lists.{all}
use Rattle.tape.specs.File.{Tape}
use Rattle.tags.specs.Names.{IsName}
use Rattle.tags.specs.Items.{Attr, Item, start, close, line, render, framed}
use Rattle.tags.proofs.Rendered.{render-append}
use Rattle.checker.specs.Answer.{accepted}
use Rattle.checker.specs.Words.{Judged, is_0}
use Rattle.checker.specs.Steps.{shut}
use Rattle.events.specs.Event.{escaped}
use Rattle.events.specs.Pairing.{paired}
use Rattle.events.specs.Text.{first_state_of, items_of_tape, text_of}
use Rattle.events.specs.Walk.{events_of}
use Rattle.accepts.specs.Sound.{Sound}
use Rattle.accepts.proofs.Accepted.{sound-accepted}
use Rattle.exact.proofs.Reading.{Reads}
use Rattle.accepts.proofs.Spaces.{but}
use Rattle.accepts.proofs.Keys.{own_known as known}
use Rattle.exact.proofs.Attrs.{none, more}
use Rattle.exact.proofs.Items.{reads_item}
use Rattle.exact.proofs.Wordy.{wordy_escaped, WordyEvents}
use Rattle.exact.proofs.Sound.{read_sound}
use Rattle.exact.proofs.Judged.{form_reads}
use Rattle.exact.proofs.Walked.{walk_wordy}

-- usx around items, and what stands behind them
frame_reads : (is js : List Item) → Reads shut shut (render (framed (is ++ js))) → Reads shut shut (render is ++ (render js ++ render (close 1 ∷ [])))
unfolding render all but escaped
frame_reads is js z =
    let usx : IsName 1 = record { one = omega arith; sixteen = omega arith } in
    let version : Attr = record { key = b "version"; value = b "3.0"; raw = false } in
    let k = reads_item (start 1 (version ∷ [])) (render ((is ++ js) ++ (close 1 ∷ [])))
    (usx, (λ e. omega arith), (λ e. omega arith), more (wordy_escaped (b "version") (b "3.0") (known (b "version") refl)) none) z in
    subst (Reads shut shut) (render-append (is ++ js) (close 1 ∷ []) ∙ ap (λ (s : Bytes). s ++ render (close 1 ∷ [])) (render-append is js) ∙ append_assoc (render is) (render js) (render (close 1 ∷ []))) k.1

-- a tape whose text is read is sound
read_tape : (t : Tape) → WordyEvents (events_of t) → Reads shut shut (text_of t) → Sound t
unfolding text_of items_of_tape first_state_of
read_tape t w z =
    record { events = (read_sound (first_state_of t) (events_of t) (render (line 0 ∷ []) ++ render (close 1 ∷ [])) w (frame_reads (paired (first_state_of t) (events_of t)) (line 0 ∷ []) z)).sound }

-- a tape whose text is accepted is sound
pub accepted-sound : (t : Tape) (c v : ℕ) → Judged (text_of t) (accepted c v) → Sound t
accepted-sound t c v (is_0 ts form low tree demand) = read_tape t (walk_wordy t) (form_reads (text_of t) ts form demand)

-- accepted, with some counts, exactly where what is written is sound
pub accepted_exactly : (t : Tape) → ((c : ℕ) × (v : ℕ) × Judged (text_of t) (accepted c v)) ↔ Sound t
accepted_exactly t = (λ h. accepted-sound t h.0 h.1 h.2, λ s. (_, _, sound-accepted t s))
