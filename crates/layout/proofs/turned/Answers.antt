use Rattle.std.proofs.Common.{◌∙◌, refl, rules}
use Rattle.layout.specs.Bytes.{node_bytes_of}
use Rattle.layout.proofs.Numbers.{two_turned}
use Rattle.layout.proofs.turned.Goals as goal

pub returns : goal.returns
unfolding node_bytes_of
returns c = rw (c.drow.ensures, c.drow-2.ensures, c.drow-3.ensures, c.to_be_bytes.ensures ∙ two_turned c.args.node.marker (search rules)) refl
