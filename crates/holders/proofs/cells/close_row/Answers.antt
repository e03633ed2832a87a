use Rattle.holders.proofs.TableTags.{row_closed}
use Rattle.holders.proofs.cells.close_row.Goals as goal

pub returns : goal.returns
returns c = λ source. row_closed source _ _ _ _ (c.line.ensures source) c.close_tag.ensures
