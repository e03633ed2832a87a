-- The tests of a node, from its own fields, the source and the entries.
use Rattle.std.specs.Prelude.{Bool, true, cond, ◌&&◌, ◌||◌, List, ℕ, ◌+◌, length, get_or, eqb, ltb, leb, None, Some}
use Rattle.parts.specs.Bytes.{Bytes, part}
use Rattle.chars.specs.Utf8.{is_boundary}
use Rattle.words.specs.Words.{words}
use Rattle.words.specs.declared.Set.TheVariants.{Unicode}
use Rattle.tape.specs.File.{nameless, element_of, base_len}
use Rattle.tape.specs.Name.{name_in_of}
use Rattle.tape.specs.declared.Node.{Node}
use Rattle.tape.specs.declared.Entry.{Entry}
use Rattle.tape.specs.Found.{Info}
use Rattle.tape.specs.Kind as kinds
use Rattle.tape.specs.Flag as flags
use Rattle.tape.specs.Element as elements

-- what is known of a marker number
unfoldable pub info_of : List Entry → ℕ → Info
info_of entries marker = cond (ltb marker (length entries)) (Some (get_or entries marker nameless)) None

-- 5: flags, and a span in the source with both ends between characters
unfoldable pub good_span : Bytes → Node → Bool
good_span source n =
    leb n.flags.bits flags.all
    && (leb (n.start + n.len) (length source)
    && (is_boundary source n.start
    && is_boundary source (n.start + n.len)))

-- 5: a label that is cut out of a text's marker name is cut between characters
unfoldable pub good_label : Bytes → ℕ → Bool
good_label text base =
    cond (leb (length (words Unicode text)) 1 && ltb base (length (name_in_of text))) (is_boundary (name_in_of text) base) true

-- 5: a Chapter or Verse stands for no element, and a Verse's label is good
unfoldable pub good_marker : Bytes → Node → Info → Bool
good_marker source n info =
    cond (eqb n.kind.code kinds.chapter || eqb n.kind.code kinds.verse) (eqb (element_of info) elements.other) true
    && cond (eqb n.kind.code kinds.verse) (good_label (part source n.start n.len) (base_len info)) true

-- 5: what is asked of a node behind Root
unfoldable pub good_here : Bytes → List Entry → Node → Bool
good_here source entries n = good_span source n && good_marker source n (info_of entries n.marker)
