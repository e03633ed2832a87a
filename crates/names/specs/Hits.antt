-- What the code finds among the names of a node.
use Rattle.std.specs.Prelude.{ℕ, ◌≡◌, true, List, Option, None, Some}
use Rattle.parts.specs.Bytes.{Bytes}
use Rattle.words.specs.declared.Part.{Part}
use Rattle.tape.specs.File.{Tape}
use Rattle.attrs.specs.Walk.{Spot}
use Rattle.accepts.specs.Proviso.{has_special, Free, Name, AllFree}
use Rattle.names.specs.declared.What.{What as Said}
use Rattle.names.specs.declared.Hit.{Hit}
use Rattle.names.specs.Finding.{what_of, FirstIn, StandsAt}

-- one name tested: it is free, or its place in the source is given
pub data Tested (source : Bytes) (w : Said) (bytes : Bytes) : Option Hit → Type 0 where
  free : Free bytes → Tested source w bytes None
  broken : {p : Part} → has_special bytes ≡ true → Spot source p bytes → Tested source w bytes (Some (record { what = w; place = p }))

-- what was found starts where a part does
abbrev pub Starts : Part → Option Hit → Type 0
Starts p (Some h) = h.place.start ≡ p.start
Starts p None = Unit {0}

-- the first broken name of a row of a node's names
pub data Hits (t : Tape) (k : ℕ) (ns : List Name) : Option Hit → Type 0 where
  nowhere : AllFree ns → Hits t k ns None
  at : {h : Hit} (n : Name) → FirstIn ns n → what_of h.what ≡ n.what → StandsAt t k n h.place → Hits t k ns (Some h)
