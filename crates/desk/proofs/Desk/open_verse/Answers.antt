use mathlib.Core.Path.{refl}
use Rattle.tags.specs.Names.{name_of}
use Rattle.desk.specs.Stroke.{ink, ink_all}
use Rattle.desk.proofs.Chains.{paint_three}
use Rattle.desk.proofs.Strokes.{drew_run}
use Rattle.desk.proofs.Desk.open_verse.Goals as goal

pub returns : goal.returns
unfolding ink ink_all name_of
returns c = drew_run _ _ _ refl (paint_three _ _ _ _ c.put_run.ensures c.escape_xml_attr.ensures c.put_run-2.ensures)
