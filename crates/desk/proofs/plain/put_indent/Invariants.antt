use mathlib.Core.Path.{◌≡◌}
use Rattle.window.specs.Page.{page_of, paint}
use Rattle.desk.specs.Desk.{indent}
use Rattle.desk.proofs.plain.put_indent.Given as goal

abbrev pub invariant-loop : goal.invariant-loop
invariant-loop l = page_of l.w l.out ≡ paint (page_of l.initial.w l.initial.out) (indent l.counter)
