use Rattle.desk.proofs.Chains.{desk_item}
use Rattle.desk.proofs.Shown.{line_bytes}
use Rattle.desk.proofs.Desk.line.Goals as goal

pub returns : goal.returns
returns c = desk_item _ _ _ (line_bytes _ _ c.put_run.ensures c.put_indent.ensures)
