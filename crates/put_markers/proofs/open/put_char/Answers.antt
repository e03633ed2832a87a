use Rattle.tape.specs.File.{Tape, contents}
use Rattle.attrs.specs.Attr.{attributes_of}
use Rattle.events.specs.Event.{collected}
use Rattle.desk.specs.Stroke.{strokes_of_attrs, Drew}
use Rattle.put_attrs.proofs.Along.{none_drawn}
use Rattle.put_markers.proofs.Written.{drew_met}
use Rattle.put_markers.proofs.Opens.{char_drawn}
use Rattle.put_markers.proofs.open.put_char.Goals as goal
use Rattle.put_markers.proofs.open.put_char.Goals.{then-not-is_bare, else-not-is_bare}

pub returns : goal.returns
returns c =
    let s = c.args in
    let name = c.marker_name-name in
    let two = c.if-not-is_bare in
    let t : Tape = contents s.tape.now in
    let given : Drew c.put_unclosed.new.desk c.put_unclosed.new.out (strokes_of_attrs (collected (attributes_of t s.c.at name.result.now))) two.desk two.out =
    elim two.branch [
      | then-not-is_bare w ↦ drew_met _ _ _ w.put_collected.ensures w.desk-is w.out-is
      | else-not-is_bare w ↦ drew_met _ _ _ (none_drawn _ (c.is_bare.ensures w.if-not-is_bare.false _)) w.desk-is w.out-is
    ] in
    char_drawn t s.c.at _ _ _ _ _ name.ensures.bytes c.open_char.ensures c.put_unclosed.ensures given c.end_tag.ensures
