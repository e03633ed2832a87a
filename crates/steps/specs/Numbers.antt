-- A state of writing as numbers, and what a call of a step leaves: the contracts.
use Rattle.std.specs.Prelude.{◌≡◌, cond, List, ◌∷◌, ℕ, ◌≤◌, ◌<◌, length, get_or, drop, set, leb}
use Rattle.parts.specs.Bytes.{Bytes}
use Rattle.tape.specs.declared.Entry.{Entry}
use Rattle.draft.specs.Draft.{Act}
use Rattle.layout.specs.declared.Writer.{Writer}
use Rattle.layout.specs.Layout.{finished}
use Rattle.writer.specs.declared.Answer.{Answer}
use Rattle.writer.specs.Steps.{pick, Took}

-- ---- the numbers: 0 phase, 1 nodes, 2 entries, 3 names, 4 source, 5 inner, 6 depth, 7 the length given

-- how many there are
abbrev pub state_len : ℕ
state_len = 8

-- a phase; a number over the last stands for 3, the phase of a state that no step gave
unfoldable pub phase_in_of : ℕ → ℕ
phase_in_of p = cond (leb p finished) p 3

-- the state that the numbers stand for
unfoldable pub writer_in : List ℕ → Writer
writer_in st =
    record {
      phase = phase_in_of (get_or st 0 0);
      nodes = get_or st 1 0;
      entries = get_or st 2 0;
      names = get_or st 3 0;
      source = get_or st 4 0;
      inner = get_or st 5 0;
      depth = get_or st 6 0;
    }

-- the numbers of a state; what stands behind them is as it was
unfoldable pub kept_in : List ℕ → Writer → List ℕ
kept_in st w = w.phase ∷ w.nodes ∷ w.entries ∷ w.names ∷ w.source ∷ w.inner ∷ w.depth ∷ drop 7 st

-- the numbers behind a step: the length given, and the state of a step that is done; a refused one leaves the state as it was
unfoldable pub stored_in : List ℕ → Answer → List ℕ
stored_in st r = set (pick r.number (kept_in st r.writer) st) 7 r.length

-- ---- calls

-- what a call leaves of numbers and a buffer, by what its step leaves of a state and a buffer: the step's number, the numbers behind it, the buffer
pub data Called (st : List ℕ) (buf : Bytes) (Step : Writer → Bytes → Answer → Bytes → Type 0) (number : ℕ) (after : List ℕ) (last : Bytes) : Type 0 where
  -- the step is asked
  asked : (r : Answer) → state_len ≤ length st → Step (writer_in st) buf r last → number ≡ r.number → after ≡ stored_in st r → Called st buf Step number after last
  -- too few numbers: nothing is written
  few : length st < state_len → number ≡ 16 → after ≡ st → last ≡ buf → Called st buf Step number after last

-- what a step that adds leaves
abbrev pub takes : Act → Writer → Bytes → Answer → Bytes → Type 0
takes a w buf r last = Took w buf a r last

-- ---- what callers give

-- an entry of these fields
abbrev pub entry_with : ℕ → ℕ → ℕ → ℕ → Entry
entry_with start len category element =
    record { start = start; len = len; category = record { code = category }; element = record { code = element } }
