-- A text told by its edges.
use Rattle.std.specs.Prelude.{ℕ, ◌-◌, ◌≡◌, Bool, true, false, cond, ◌&&◌, get_or, take, eqb, leb, ltb}
use Rattle.parts.specs.Bytes.{Bytes, part}
use Rattle.chars.specs.Space.{is_ascii_white}
use Rattle.chars.specs.Escape.{escape}
use Rattle.texts.specs.Text.{body_of, has_break, ends_white, normalize_text, written}
use Rattle.texts.specs.declared.Normalized.{Normalized}
use Rattle.put_body.specs.Easy.{edged}

-- a text that is white space, a body and white space, or one space alone, which has no body: where the body starts, how long it is, and whether the text ends with white space
pub record Frame : Type 0 where
  pub front : ℕ
  pub len : ℕ
  pub ends : Bool

-- how many white bytes a text of so many bytes begins with, up to two
unfoldable pub white_front_of : Bytes → ℕ → ℕ
white_front_of s size = cond (ltb size 2) 0 (cond (is_ascii_white (get_or s 0 0)) (cond (is_ascii_white (get_or s 1 0)) 2 1) 0)

-- how many it ends with, up to two, behind its first bytes
unfoldable pub white_back_of : Bytes → ℕ → ℕ → ℕ
white_back_of s front size =
    cond (leb size front) 0 (cond (is_ascii_white (get_or s (size - 1) 0)) (cond (ltb (size - front) 2) 1 (cond (is_ascii_white (get_or s (size - 2) 0)) 2 1)) 0)

-- the frame of the first bytes of a text
unfoldable pub frame_of : Bytes → ℕ → Frame
frame_of s size =
    let front = white_front_of s size in
    let back = white_back_of s front size in
    record { front = front; len = size - front - back; ends = ltb 0 back }

-- the edges of a text that a frame stands for
unfoldable pub framed_text_of : Frame → Bool → Bool → Normalized
framed_text_of f keepLead keepTrail =
    cond (eqb f.len 0)
    (record { lead = keepLead && keepTrail; trail = false; shows = keepLead && keepTrail })
    (record { lead = ltb 0 f.front && keepLead; trail = f.ends && keepTrail; shows = true })

-- what a frame tells of the first bytes of a text: how they end, how they are normalized, that they have no `//`, and that their body is written as it stands
pub record Framed (s : Bytes) (size : ℕ) (f : Frame) : Type 0 where
  pub ends : f.ends ≡ ends_white (take size s)
  pub edges : (a z : Bool) → normalize_text (take size s) a z ≡ framed_text_of f a z
  pub whole : has_break (body_of (take size s)) ≡ false
  pub stands : (n : Normalized) → escape false (written (take size s) n) ≡ edged (part s f.front f.len) n
