use Rattle.roles.proofs.Roles.{whole_figure, whole_para}
use Rattle.roles.proofs.is_whole.Goals as goal

pub returns-in-Figure : goal.returns-in-Figure
returns-in-Figure c = search whole_figure

pub returns-in-Para : goal.returns-in-Para
returns-in-Para c = search whole_para
