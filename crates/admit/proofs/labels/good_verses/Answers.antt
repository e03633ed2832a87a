use Rattle.std.proofs.Common.{refl, sym, rules}
use borrow.Author.Tests.{tests}
use Rattle.tape.specs.File.{contents}
use Rattle.tape.proofs.Laws.{node-count}
use Rattle.admit.specs.Pieces.{SoundNode, GoodVerse}
use Rattle.admit.proofs.All.{all_below, decides_each}
use Rattle.admit.proofs.labels.good_verses.Goals as goal

pub returns : goal.returns
returns c = λ h s.
    let Sound = SoundNode (contents c.args.t.now) in
    let Good = GoodVerse (contents c.args.t.now) in
    decides_each _ Good
    (all_below _ _ _ _ _ (λ k. Sound k → Good k) (λ k. Sound k → Good k → ⊥) c.all.ensures.ran refl (sym (node-count _ _)) (λ x q k. search (rules, tests)) (λ x q k. search (rules, tests)))
    (λ k l y. y (s k l)) (λ k l n. n (s k l))
