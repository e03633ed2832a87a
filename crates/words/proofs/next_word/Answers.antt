use native.Mathlib.Omega.{arith}
use Rattle.words.proofs.Answers.{start_fits, next-found}
use Rattle.words.proofs.next_word.Goals as goal

pub overflow_add-start : goal.overflow_add-start
overflow_add-start c =
    let args = c.args in
    omega (arith, start_fits args.set args.s.now args.at c.from.ensures.bytes c.white_len.ensures)

pub returns : goal.returns
returns c = search next-found
