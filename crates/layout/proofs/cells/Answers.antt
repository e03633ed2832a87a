use Rattle.std.proofs.Common.{◌∙◌, refl, rules}
use Rattle.layout.specs.Bytes.{entry_bytes}
use Rattle.layout.proofs.Numbers.{two_bytes}
use Rattle.layout.proofs.cells.Goals as goal

pub returns : goal.returns
unfolding entry_bytes
returns c = rw (c.word.ensures, c.to_le_bytes.ensures ∙ two_bytes c.args.e.len (search rules)) refl
