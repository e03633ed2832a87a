use Rattle.checker.proofs.Folds.{room_for}
use borrow.Author.Rules.{rules}
use mathlib.Core.Path.{◌≡◌}
use mir.Val.{to_z, of_z}
use mir.Syntax.{w64}
use Rattle.checker.proofs.State.step.Goals as goal

pub grow-requires : goal.grow-requires
grow-requires c =
    let h : to_z w64 (of_z w64 c.args.self.now.height) ≡ c.args.self.now.height = search rules in
    let r : to_z w64 (of_z w64 c.level-self.result) ≡ c.level-self.result = search rules in
    room_for c.args.self.now _ c.requires.told (λ x. rw h at (c.level-self.ensures x)) (rw (r, r) at c.if-not-self.true)
