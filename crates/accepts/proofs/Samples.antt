-- Every sample holds: each by computation.
use mathlib.Core.Path.{refl}
use Rattle.chars.specs.Escape.{special}
use Rattle.events.proofs.Answered.{answered}
use Rattle.checker.proofs.Example.{computed, judged_by}
use Rattle.accepts.specs.Proviso.{has_special, name_where, is_id, has_code, collects_for, collects_as, keys_of, names_of}
use Rattle.accepts.specs.Samples.{free_row, free_below, keeps, AllHold, samples}

-- identifiers need not be unique; a name that breaks the proviso may be written or not, and the answer goes by what is written
pub samples_hold : AllHold samples
unfolding answered computed special has_special name_where is_id has_code collects_for collects_as keys_of names_of free_row free_below keeps
samples_hold =
    (record { admitted = refl; written = refl; kept = refl; judged = judged_by _ refl }, (record { admitted = refl; written = refl; kept = refl; judged = judged_by _ refl }, (record { admitted = refl; written = refl; kept = refl; judged = judged_by _ refl }, (record { admitted = refl; written = refl; kept = refl; judged = judged_by _ refl }, (record { admitted = refl; written = refl; kept = refl; judged = judged_by _ refl }, (record { admitted = refl; written = refl; kept = refl; judged = judged_by _ refl }, (record { admitted = refl; written = refl; kept = refl; judged = judged_by _ refl }, (record { admitted = refl; written = refl; kept = refl; judged = judged_by _ refl }, tt))))))))
