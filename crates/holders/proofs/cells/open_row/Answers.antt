use Rattle.holders.proofs.TableTags.{row_opened}
use Rattle.holders.proofs.cells.open_row.Goals as goal

pub returns : goal.returns
returns c = λ source. row_opened source _ _ _ _ (c.line.ensures source) _ c.open_styled.ensures c.end_tag.ensures
