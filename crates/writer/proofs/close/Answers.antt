use Rattle.writer.proofs.StepRule.{took_closes, close_known, close-node}
use Rattle.writer.proofs.close.Goals as goal

pub returns : goal.returns
returns c = took_closes _ _ _ (close_known c.args.block) (close-node c.args.block c.args.flags c.args.marker c.args.start c.args.len c.close_kind.ensures c.node_of-node.ensures) c.end.ensures.value c.end.ensures.buf_after
