use mathlib.Core.Path.{◌≡◌, sym, ◌∙◌}
use borrow.Author.Tests.{not-false}
use denote.Enum.Bare.{sameb, same_true}
use Rattle.std.proofs.Common.{rules}
use Rattle.fold.specs.contracts.Claim.{the_type}
use Rattle.fold.specs.declared.Claim.TheVariants.{Stops}
use Rattle.fold.proofs.claims.Goals.{else-ne-via-then-ne+else-is_plain_text, else-ne-via-else-ne}
use Rattle.fold.proofs.Folding.{claim_blank, claim_other, claim_taken, claim_plain, claim_marked}
use Rattle.fold.proofs.claims.Goals as goal

pub returns-then-is_blank : goal.returns-then-is_blank
returns-then-is_blank c = search claim_blank

pub returns-then-kind-ne-MARKER_OPEN : goal.returns-then-kind-ne-MARKER_OPEN
returns-then-kind-ne-MARKER_OPEN c = search claim_other

pub returns-then-is_plain_text : goal.returns-then-is_plain_text
returns-then-is_plain_text c = search claim_plain

pub returns-else-ne : goal.returns-else-ne
returns-else-ne c =
    elim c.else-ne.branch [
      | else-ne-via-then-ne+else-is_plain_text w ↦ search (claim_marked, w)
      | else-ne-via-else-ne w ↦
          let same = not-false (sameb the_type c.free-claim.result Stops) (sym c.ne.ensures ∙ w.if-ne.false) in
          let stops : c.free-claim.result ≡ Stops = same_true the_type (search rules) _ _ same in
          search (claim_taken, stops)
    ]
