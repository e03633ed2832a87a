-- The answer of a refused step, and the state of a finished file.
use Rattle.std.specs.Prelude.{cond, ◌&&◌, ℕ, ◌+◌, eqb}
use Rattle.layout.specs.declared.Writer.{Writer}
use Rattle.layout.specs.Layout.{finished, file_len}
use Rattle.judge.specs.Phase.{limited}
use Rattle.writer.specs.declared.Answer.{Answer}

-- the answer of a refused step that would have added so many bytes
unfoldable pub refused_with : ℕ → Writer → ℕ → Answer
refused_with number w more = record { number = number; length = cond (eqb number 8 && limited w) (file_len w + more) 0; writer = w }

-- the state of a finished file
abbrev pub ended : Writer → Writer
ended w =
    record { phase = finished; nodes = w.nodes; entries = w.entries; names = w.names; source = w.source; inner = w.inner; depth = w.depth }
