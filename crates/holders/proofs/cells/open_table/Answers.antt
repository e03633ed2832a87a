use Rattle.holders.proofs.TableTags.{table_opened}
use Rattle.holders.proofs.cells.open_table.Goals as goal

pub returns : goal.returns
returns c = λ source. table_opened source _ _ _ _ (c.line.ensures source) _ c.open_tag.ensures c.end_tag.ensures
