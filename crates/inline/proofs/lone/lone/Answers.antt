use Rattle.inline.proofs.Alone.{lone_node, lone_keeps}
use Rattle.inline.proofs.lone.lone.Goals as goal

pub returns : goal.returns
returns c = record { put_as = search lone_node; keeps_behind = search lone_keeps }
