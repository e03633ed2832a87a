-- What a search on a tape gives: a node, an entry, or nothing.
use Rattle.std.specs.Prelude.{Option}
use Rattle.tape.specs.declared.Cursor.{Cursor}
use Rattle.tape.specs.declared.Entry.{Entry}

-- where a walk along siblings stands: a node, or past the last
abbrev pub Step : Type 0
Step = Option Cursor

-- what is known of a node's marker: its entry, or nothing
abbrev pub Info : Type 0
Info = Option Entry
