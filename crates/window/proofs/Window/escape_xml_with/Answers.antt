use mathlib.Core.Path.{sym, ◌∙◌}
use Rattle.window.proofs.Escape.{plain_whole}
use Rattle.window.proofs.Window.escape_xml_with.Goals as goal

pub returns-then-plain_each-s : goal.returns-then-plain_each-s
returns-then-plain_each-s c = plain_whole _ _ _ (sym c.plain_each.ensures ∙ c.if-plain_each-s.true) c.put_run.ensures
