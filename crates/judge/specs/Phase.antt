-- The phase of a state, and the numbers of steps: 16 first, then the lowest that the step would cause.
use Rattle.std.specs.Prelude.{Bool, cond, ◌&&◌, ℕ, length, eqb, ltb, leb}
use Rattle.parts.specs.Bytes.{Bytes}
use Rattle.admit.specs.Limits as limits
use Rattle.nest.specs.Nest.{most_open}
use Rattle.draft.specs.Draft.{Act}
use Rattle.draft.specs.Fault.{first, fault}
use Rattle.layout.specs.declared.Writer.{Writer}
use Rattle.layout.specs.Layout.{before_start, at_work_of, finished, top_len, file_len, draft_of}

-- whether the counts of a state are within document 01's limits
unfoldable pub limited : Writer → Bool
limited w =
    ltb w.nodes limits.most_nodes
    && (leb w.entries limits.most_entries
    && (leb w.names limits.most_names
    && (leb w.source limits.most_source
    && (leb w.inner w.nodes
    && (leb w.depth most_open
    && leb w.phase finished)))))

-- whether a state fits a buffer of so many bytes; one that does not was given by no step
unfoldable pub fits : Writer → ℕ → Bool
fits w n = limited w && leb (file_len w) n

-- the phase of a state; one that no step gave counts as before start
unfoldable pub phase_of : Writer → ℕ → ℕ
phase_of w n = cond (fits w n) w.phase before_start

-- ---- numbers

-- the number of a step: 16 unless at work, then what the step would cause
unfoldable pub number_of : Writer → Bytes → Act → ℕ
number_of w buf a = first (eqb (phase_of w (length buf)) at_work_of) 16 (fault (draft_of w buf) a (length buf))

-- the number of a start: 16 for a second one, 8 where the buffer is short of header and Root
unfoldable pub start_number_of : Writer → ℕ → ℕ
start_number_of w n = first (eqb (phase_of w n) before_start) 16 (first (leb top_len n) 8 0)

-- the number of a finish: 16 unless at work, 7 with something open
unfoldable pub finish_number_of : Writer → ℕ → ℕ
finish_number_of w n = first (eqb (phase_of w n) at_work_of) 16 (first (eqb w.depth 0 && eqb w.inner 0) 7 0)
