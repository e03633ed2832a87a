use Rattle.calls.specs.Called.{refused, no_room}
use Rattle.calls.proofs.Call.{text-refused, text_no_room, text_checked, verdict_checked}
use Rattle.calls.proofs.serialize_and_check.Goals as goal

pub returns-in-Written : goal.returns-in-Written
returns-in-Written c = record { text = search (text_checked, verdict_checked); verdict = search (text_checked, verdict_checked) }

pub returns-in-Refused : goal.returns-in-Refused
returns-in-Refused c = record { text = search (text-refused, refused); verdict = search (text-refused, refused) }

pub returns-in-NoRoom : goal.returns-in-NoRoom
returns-in-NoRoom c = record { text = search (text_no_room, no_room); verdict = search (text_no_room, no_room) }
