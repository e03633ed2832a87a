use Rattle.render.proofs.Notes.{lead-none, lead-other, lead-text}
use Rattle.render.proofs.note.lead_text.Goals.{in_default-via-in-Some+else-kind-eq-TEXT, in_default-via-in_default}
use Rattle.render.proofs.note.lead_text.Goals as goal

pub returns-in-Some : goal.returns-in-Some
returns-in-Some c = search lead-text

pub returns-in_default : goal.returns-in_default
returns-in_default c =
    elim c.in_default.branch [
      | in_default-via-in-Some+else-kind-eq-TEXT w ↦ search (lead-other, w)
      | in_default-via-in_default w ↦ search (lead-none, w)
    ]
