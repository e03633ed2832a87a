use Rattle.leading_white.proofs.Found.{text-plain, text-white}
use borrow.Author.Rules.{rules}
use Rattle.leading_white.proofs.lean_text.Goals as goal

pub returns-then-not-is_wide : goal.returns-then-not-is_wide
returns-then-not-is_wide c = text-plain c.text-s.ensures.bytes c.is_wide.ensures (search rules)

pub returns : goal.returns
returns c = text-white _ _ _ c.text-s.ensures.bytes c.is_wide.ensures (search rules) c.white_of.ensures c.past_white.ensures
