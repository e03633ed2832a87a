use Rattle.told.proofs.Reviews.{checked_told}
use Rattle.told.proofs.check.Goals as goal

pub returns : goal.returns
returns c =
    checked_told _ _ c.check-v.ensures c.place_of-at.ensures c.counts_of-chapters.ensures.chapters c.tell.ensures c.counts_of-chapters.ensures.verses c.tell-2.ensures c.tell-3.ensures c.line_of.ensures c.tell-4.ensures c.number_of.ensures
