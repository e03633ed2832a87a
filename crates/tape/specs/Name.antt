-- Marker names, as they stand in the source, and the names that decide.
use Rattle.std.specs.Prelude.{ℕ, ◌+◌, ◌-◌, Bool, false, cond, not, ◌||◌, length, drop, eqb, None, Some}
use mathlib.Core.List.{[], ◌∷◌, flatten}
use Rattle.parts.specs.Bytes.{Bytes, same, begins}
use Rattle.chars.specs.Utf8.{characters, code_of}
use Rattle.chars.specs.Space.{is_white}
use Rattle.words.specs.Words.{take_while}
use Rattle.tape.specs.File.{Tape, tape_in, text_at_of, text_start, info_at, entry_name}
use Rattle.tape.specs.declared.Sections.{Sections}
use Rattle.tape.specs.Found.{Info}

-- a text without a byte that it may begin with
unfoldable pub strip : ℕ → Bytes → Bytes
strip x s = cond (begins (x ∷ []) s) (drop 1 s) s

-- a text behind an optional `\` and an optional `+`
unfoldable pub bare : Bytes → Bytes
bare s = strip 43 (strip 92 s)

-- the code points that end a name: white space, `*`, `|` and `\`
unfoldable pub ends_name_of : ℕ → Bool
ends_name_of c = is_white c || (eqb c 42 || (eqb c 124 || eqb c 92))

-- a character that can stand in a name
unfoldable pub in_name_of : Bytes → Bool
in_name_of c = not (ends_name_of (code_of c))

-- how long the name at the front of a text is
unfoldable pub name_len : Bytes → ℕ
name_len s = length (flatten (take_while in_name_of (characters s)))

-- the name in a text: between an optional `\`, an optional `+`, and the first character that ends it
unfoldable pub name_in_of : Bytes → Bytes
name_in_of s = flatten (take_while in_name_of (characters (bare s)))

-- where the name starts in a text: behind an optional `\` and an optional `+`
unfoldable pub name_start : Bytes → ℕ
name_start s = length s - length (bare s)

-- the marker name of a node
unfoldable pub marker_name : Tape → ℕ → Bytes
marker_name t k = name_in_of (text_at_of t k)

-- where the marker name of a node starts in the file: in the node's text, behind an optional `\` and an optional `+`
unfoldable pub marker_start : Sections → Bytes → ℕ → ℕ
marker_start c file k = text_start c file k + name_start (text_at_of (tape_in c file) k)

-- how long it is: to the first white space, `*`, `|` or `\`, else to the node's end
unfoldable pub marker_len : Tape → ℕ → ℕ
marker_len t k = name_len (bare (text_at_of t k))

-- whether an entry has this name; what is unknown has none
unfoldable pub named : Tape → Bytes → Info → Bool
named t name (Some e) = same (entry_name t e) name
named t name None = false

-- whether a node has an entry of this name
unfoldable pub entry_is_of : Tape → ℕ → Bytes → Bool
entry_is_of t k name = named t name (info_at t k)
