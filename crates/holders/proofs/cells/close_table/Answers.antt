use Rattle.holders.proofs.TableTags.{table_closed}
use Rattle.holders.proofs.cells.close_table.Goals as goal

pub returns : goal.returns
returns c = λ source. table_closed source _ _ _ _ (c.line.ensures source) c.close_tag.ensures
