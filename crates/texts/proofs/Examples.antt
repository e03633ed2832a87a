-- Examples 5 and 6 of document 01, at this level.
use mathlib.Core.Path.{◌≡◌, refl}
use mathlib.Core.Bool.{true, false}
use mathlib.Core.List.{[], ◌∷◌, flatten}
use Rattle.parts.specs.Bytes.{b}
use Rattle.chars.specs.Range.{within, in_any}
use Rattle.chars.specs.Space.{is_white, is_ascii_white, white_space}
use Rattle.chars.specs.Utf8.{table37, fits, row_len, seq_len, step, cut_at, is_sequence, every, point, code_of}
use Rattle.words.specs.Words.{step_of, chars_of, white, drop_while, keep, drop_end, onto, pieces, nonempty, words, trim_start, trim_end, trim, is_blank_of, joined}
use Rattle.texts.specs.Text.{hard_spaces, body_of, starts_white, ends_white, blank_lead, normalize_text, space_if, written, split_breaks, segments}

-- 5: `a // b ` in a paragraph
five : segments (b "a // b ") ≡ b "a" ∷ b "b" ∷ []
unfolding segments split_breaks body_of hard_spaces joined words nonempty pieces onto chars_of step_of cut_at white is_ascii_white is_white white_space in_any within trim trim_start trim_end drop_while drop_end keep flatten code_of is_sequence seq_len row_len fits table37 point step
five = refl

-- 5: as later direct note text, behind text and with nothing behind it
five_note : written (b "a // b ") (normalize_text (b "a // b ") true false) ≡ b "a // b"
unfolding written space_if normalize_text starts_white ends_white blank_lead is_blank_of every body_of hard_spaces joined words nonempty pieces onto chars_of step_of cut_at white is_ascii_white in_any within
five_note = refl

-- 6: the new U+00A0 is trimmed
six : segments (b "a~//b") ≡ b "a" ∷ b "b" ∷ []
unfolding segments split_breaks body_of hard_spaces joined words nonempty pieces onto chars_of step_of cut_at white is_ascii_white is_white white_space in_any within trim trim_start trim_end drop_while drop_end keep flatten code_of is_sequence seq_len row_len fits table37 point step
six = refl
