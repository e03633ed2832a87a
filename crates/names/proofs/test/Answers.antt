use mathlib.Core.Path.{refl}
use Rattle.names.proofs.Places.{test_free, test_broken}
use Rattle.names.proofs.test.Goals as goal

pub returns-then-not-has_special : goal.returns-then-not-has_special
returns-then-not-has_special c = record { tested = search test_free; starts = tt }

pub returns : goal.returns
returns c = record { tested = search test_broken; starts = refl }
