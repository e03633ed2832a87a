use Rattle.lists.proofs.Nodes.{stops_block, stops-row}
use Rattle.lists.proofs.stops.Goals as goal

pub returns-in-Block : goal.returns-in-Block
returns-in-Block c = search stops_block

pub returns-in-NoRow : goal.returns-in-NoRow
returns-in-NoRow c = search stops-row
