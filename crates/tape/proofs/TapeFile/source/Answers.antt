use Rattle.tape.proofs.Laws.{source_in, part_short}
use Rattle.parts.proofs.Places.{very_at}
use Rattle.tape.proofs.TapeFile.source.Goals as goal

pub returns : goal.returns
returns c = record { bytes = search source_in; place = search very_at; upper_bound = search part_short }
