use Rattle.std.proofs.Common.{ℕ, refl, sym, rules}
use borrow.Author.Tests.{tests}
use Rattle.tape.specs.File.{contents, entry_at}
use Rattle.tape.proofs.Laws.{entry-count}
use Rattle.admit.specs.Rules.{GoodEntry}
use Rattle.admit.proofs.All.{all_below, decides_each}
use Rattle.admit.proofs.names.good_entries.Goals as goal

pub returns : goal.returns
returns c =
    let Good : ℕ → Type 0 = λ k. GoodEntry (contents c.args.t.now) (entry_at (contents c.args.t.now) k) in
    decides_each _ Good
    (all_below _ _ _ _ _ Good (λ k. Good k → ⊥) c.all.ensures.ran refl (sym (entry-count _ _)) (λ x q k. search (rules, tests)) (λ x q k. search (rules, tests)))
    (λ k l y. y) (λ k l n. n)
