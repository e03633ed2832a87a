use Rattle.told_texts.proofs.Shows.{written_wrote, refused_wrote, no_room_wrote}
use Rattle.told_texts.proofs.serialize.Goals as goal

pub returns-in-Written : goal.returns-in-Written
returns-in-Written c = search written_wrote

pub returns-in-Refused : goal.returns-in-Refused
returns-in-Refused c = search refused_wrote

pub returns-in-NoRoom : goal.returns-in-NoRoom
returns-in-NoRoom c = search no_room_wrote
