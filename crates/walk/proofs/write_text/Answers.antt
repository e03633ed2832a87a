use Rattle.walk.proofs.Whole.{whole_length, whole_buffer}
use Rattle.walk.proofs.write_text.Goals as goal

pub returns : goal.returns
returns c =
    record {
      value = whole_length _ _ _ _ _ c.new-desk.ensures.window c.new-desk.ensures.marks c.new.ensures c.first_child-first.ensures _ _ _ _ _ _ _ _ c.open_usx.ensures c.blocks-2.ensures c.last_ends.ensures c.close_usx.ensures;
      out_after = whole_buffer _ _ _ _ _ c.new-desk.ensures.window c.new-desk.ensures.marks c.new.ensures c.first_child-first.ensures _ _ _ _ _ _ _ _ c.open_usx.ensures c.blocks-2.ensures c.last_ends.ensures c.close_usx.ensures;
    }
