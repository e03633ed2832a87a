use Rattle.admit.proofs.Answers.{gives_1, gives_2, gives_3, gives_4, gives_5, gives_6, gives_7, gives_0}
use Rattle.admit.proofs.admit.Goals as goal

pub returns-then-not-laid_out-clause-number : goal.returns-then-not-laid_out-clause-number
returns-then-not-laid_out-clause-number c = search gives_1

pub returns-then-not-small-clause-number : goal.returns-then-not-small-clause-number
returns-then-not-small-clause-number c = search gives_2

pub returns-then-not-is_utf8-clause-number : goal.returns-then-not-is_utf8-clause-number
returns-then-not-is_utf8-clause-number c = search gives_3

pub returns-then-not-good_names-clause-number : goal.returns-then-not-good_names-clause-number
returns-then-not-good_names-clause-number c = search gives_4

pub returns-then-not-good_nodes-clause-number : goal.returns-then-not-good_nodes-clause-number
returns-then-not-good_nodes-clause-number c = search gives_5

pub returns-then-nests-clause-number : goal.returns-then-nests-clause-number
returns-then-nests-clause-number c = search gives_0

pub returns-then-too_deep-clause-number : goal.returns-then-too_deep-clause-number
returns-then-too_deep-clause-number c = search gives_6

pub returns-clause-number : goal.returns-clause-number
returns-clause-number c = search gives_7
