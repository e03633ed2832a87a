-- The role of a marker: whether what stands inside is written, and how; what is linked.
use Rattle.std.specs.Prelude.{ℕ, Bool, true, false, not, cond, ◌&&◌, eqb}
use Rattle.parts.specs.Bytes.{Bytes, b, same}
use Rattle.tape.specs.File.{Tape}
use Rattle.tape.specs.Tree.{first_child, found}
use Rattle.figure.specs.Figure.{legacy_at}
use Rattle.events.specs.Walk.{Manner, as_inline, as_note, Role, unknown_block, unknown_inline, unwritten, figure, ref, id, note, ms, char, para, role_of_category}
use Rattle.roles.specs.declared.Role.{Role as Code}
use Rattle.roles.specs.declared.Role.TheVariants.{UnknownBlock, UnknownInline, Unwritten, Figure, Ref, Id, Note, Ms, Char, Para}
use Rattle.tape.specs.Category as categories

-- the role that the code names
unfoldable pub role_in : Code → Role
role_in UnknownBlock = unknown_block
role_in UnknownInline = unknown_inline
role_in Unwritten = unwritten
role_in Figure = figure
role_in Ref = ref
role_in Id = id
role_in Note = note
role_in Ms = ms
role_in Char = char
role_in Para = para

-- behind the names that decide: `id` by its entry's name and category, others by category
unfoldable pub role_of_entry : ℕ → Bytes → Role
role_of_entry category name = cond (eqb category categories.identification && same name (b "id")) id (role_of_category category)

-- how what stands inside is written, as the code says it: in a note or not
unfoldable pub manner_by : Bool → Manner
manner_by true = as_note
manner_by false = as_inline

-- whether the events inside a marker are written: not of a figure of old, nor of a paragraph with no child
unfoldable pub is_whole : Tape → ℕ → Role → Bool
is_whole t k unknown_block = true
is_whole t k unknown_inline = true
is_whole t k unwritten = false
is_whole t k figure = not (found (legacy_at t k))
is_whole t k ref = true
is_whole t k id = false
is_whole t k note = true
is_whole t k ms = false
is_whole t k char = true
is_whole t k para = found (first_child t k)

-- how what stands inside a marker of this role is written
unfoldable pub manner_of : Role → Manner
manner_of unknown_block = as_inline
manner_of unknown_inline = as_inline
manner_of unwritten = as_inline
manner_of figure = as_inline
manner_of ref = as_inline
manner_of id = as_inline
manner_of note = as_note
manner_of ms = as_inline
manner_of char = as_inline
manner_of para = as_inline
