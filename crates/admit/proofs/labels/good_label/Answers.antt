use Rattle.admit.proofs.LabelsRule.{label_clear, label_past, label_short, label_word}
use Rattle.admit.proofs.labels.good_label.Goals as goal
use Rattle.admit.proofs.labels.good_label.Goals.{then-is_boundary-via-then-is_boundary, then-is_boundary-via-else-is_boundary+then-name-base}

pub returns-then-is_boundary : goal.returns-then-is_boundary
returns-then-is_boundary c =
    elim c.then-is_boundary.branch [
      | then-is_boundary-via-then-is_boundary w ↦ search label_clear
      | then-is_boundary-via-else-is_boundary+then-name-base w ↦ search label_past
    ]

pub returns-then-not-name_passes : goal.returns-then-not-name_passes
returns-then-not-name_passes c = search label_short

pub returns-else-not-name_passes : goal.returns-else-not-name_passes
returns-else-not-name_passes c = search label_word
