-- What a desk, the buffer beside it and the source stand for.
use Rattle.std.specs.Prelude.{ℕ, ◌*◌, replicate, Option as Maybe, Some, None}
use Rattle.std.proofs.Math.Option.{Option, none, some}
use Rattle.parts.specs.Bytes.{Bytes}
use Rattle.words.specs.Words.{bytes_of}
use Rattle.window.specs.Page.{page_of, paint}
use Rattle.usx_state.specs.declared.Marks.{Marks}
use Rattle.usx_state.specs.declared.OpenChapter.{OpenChapter}
use Rattle.usx_state.specs.declared.OpenVerse.{OpenVerse}
use Rattle.events.specs.Pairing.{State, chapter_id_of, verse_id_of, last_ends}
use Rattle.events.specs.Profile.{Profile, rust, render_as}
use Rattle.events.specs.Emit.{Desk}
use Rattle.desk.specs.declared.Desk.{Desk as Held}
use Rattle.desk.specs.declared.Profile.{Profile as HeldProfile}
use Rattle.desk.specs.declared.Profile.TheVariants.{Rust}

-- the identifier of a chapter that is open
unfoldable pub chapter_in : Bytes → Maybe OpenChapter → Option Bytes
chapter_in source None = none
chapter_in source (Some c) = some (chapter_id_of (bytes_of source c.book) c.number)

-- the identifier of a verse that is open
unfoldable pub verse_in : Bytes → Maybe OpenVerse → Option Bytes
verse_in source None = none
verse_in source (Some v) = some (verse_id_of (bytes_of source v.book) v.number (bytes_of source v.label))

-- the pairing's state that marks stand for
unfoldable pub state_in : Bytes → Marks → State
state_in source m =
    record {
      book = bytes_of source m.book;
      number = m.number;
      chapter = chapter_in source m.chapter;
      verse = verse_in source m.verse;
    }

-- the profile: there is one
unfoldable pub profile_of : HeldProfile → Profile
profile_of Rust = rust

-- ---- the desk

-- the desk that a desk of the code and the buffer beside it stand for
abbrev pub desk_of : Bytes → Held → Bytes → Desk
desk_of source d out = record { page = page_of d.window out; state = state_in source d.marks; profile = profile_of d.profile }

-- bytes more, which open and end nothing
unfoldable pub put_on : Desk → Bytes → Desk
put_on d x = record { page = paint d.page x; state = d.state; profile = d.profile }

-- the ends of what is open are written, and nothing is open any more
unfoldable pub ended : Desk → Desk
ended w =
    record {
      page = paint w.page (render_as w.profile (last_ends w.state));
      state = record { book = w.state.book; number = w.state.number; chapter = none; verse = none };
      profile = w.profile;
    }

-- two spaces a level
unfoldable pub indent : ℕ → Bytes
indent d = replicate (2 * d) 32
