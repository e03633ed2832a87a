-- Windows that follow one another: of any text, and as calls of `window` give them.
use Rattle.std.specs.Prelude.{◌≡◌, List, [], ◌∷◌, ◌++◌, ℕ, ◌+◌, length, take}
use Rattle.parts.specs.Bytes.{Bytes}
use Rattle.walk.specs.Shows.{window_of}
use Rattle.usx.specs.Shown.{view, shown_bytes, view_of}
use Rattle.usx.specs.declared.Shown.{Shown}

-- windows of these lengths, each from where the one before it ends, joined
unfoldable pub cut_by : Bytes → ℕ → List ℕ → Bytes
cut_by text from [] = []
cut_by text from (n ∷ ns) = window_of text from n ++ cut_by text (from + n) ns

-- all lengths together
unfoldable pub total : List ℕ → ℕ
total [] = 0
total (n ∷ ns) = n + total ns

-- one call of `window`: the buffer before it, its answer, and the buffer behind it
pub record Call : Type 0 where
  pub before : Bytes
  pub answer : Shown
  pub behind : Bytes

-- calls that keep the contract of `window`: the first shows from a byte of the text on, each other from where the one before it ended
pub data Follow (file : Bytes) : ℕ → List Call → Type 0 where
  done : {from : ℕ} → Follow file from []
  next : {from : ℕ} {k : Call} {ks : List Call} → view_of k.answer k.behind ≡ view file from k.before
      → Follow file (from + shown_bytes k.answer) ks → Follow file from (k ∷ ks)

-- the bytes that the calls gave, joined
unfoldable pub joined : List Call → Bytes
joined [] = []
joined (k ∷ ks) = take (shown_bytes k.answer) k.behind ++ joined ks

-- how many bytes that are
unfoldable pub given : List Call → ℕ
given [] = 0
given (k ∷ ks) = shown_bytes k.answer + given ks

-- the room that their buffers have
unfoldable pub rooms : List Call → ℕ
rooms [] = 0
rooms (k ∷ ks) = length k.before + rooms ks
