-- Blocks, and the sidebars and periphs that hold them.
use Rattle.std.specs.Prelude.{ℕ, zero, suc, ◌+◌, List, [], ◌∷◌, Bool, true, false, cond, ◌||◌}
use Rattle.parts.specs.Bytes.{b}
use Rattle.tape.specs.File.{Tape, info_at}
use Rattle.tape.specs.Found.{Step}
use Rattle.tape.specs.Tree.{next_sibling, up_to}
use Rattle.render.specs.Shape.{is_row, is_chapter_of, is_element_of, is_top_level_block_of}
use Rattle.tags.specs.Items.{start, line}
use Rattle.lists.specs.Span.{run_end_of, folds_at}
use Rattle.lists.specs.declared.Span.{Span}
use Rattle.lists.specs.declared.Stop.TheVariants.{Block, NoRow}
use Rattle.events.specs.Event.{Event, item, element}
use Rattle.events.specs.Walk.{styled, unfollowed, trimming, node_in_of, inside, inline_all, sidebar_in, periph_in, Place, a_row_of, a_chapter_of, a_sidebar_of, a_periph_of, a_block, a_verse_of, dropped, blocks_e}
use Rattle.blocks.specs.declared.Holder.{Holder}
use Rattle.blocks.specs.declared.Holder.TheVariants.{Sidebar, Periph, Neither}
use Rattle.tape.specs.Kind as kinds
use Rattle.tape.specs.Element as elements
use Rattle.tags.specs.Element as el

-- a list of blocks has all siblings, without category markers or with them: a sidebar's goes without
abbrev pub uncut : Bool → Span
uncut sifted = record { cut = false; sifted = sifted }

-- what a node holds blocks as, at block level
unfoldable pub holder_of : Tape → ℕ → Holder
holder_of t k =
    cond (is_row t k || is_chapter_of t k) Neither
    (cond (is_element_of elements.sidebar (info_at t k)) Sidebar (cond (is_element_of elements.periph (info_at t k)) Periph Neither))

-- the events of a list of blocks one level down, by the depth that is left above: none where none is left
unfoldable pub below : Tape → ℕ → ℕ → List ℕ → List Event
below t zero level ks = []
below t (suc d) level ks = blocks_e t d (level + 1) ks

-- what a holder writes
unfoldable pub holder_in : Tape → ℕ → ℕ → Bool → ℕ → List Event
holder_in t d level true k = sidebar_in (below t d level) t level k
holder_in t d level false k = periph_in (below t d level) t level k

-- the start of a paragraph around a verse, on its line
unfoldable pub run_opens : ℕ → List Event
run_opens level = item (line level) ∷ item (start el.para (styled (b "p"))) ∷ []

-- a paragraph around a verse and what follows it up to the next block
unfoldable pub run_in : Tape → ℕ → ℕ → ℕ → List ℕ → List Event
run_in t d level k ks = item (line level) ∷ element el.para (styled (b "p")) (inline_all (node_in_of (inside t d) t) t unfollowed trimming (k ∷ up_to (is_top_level_block_of t) ks))

-- the step behind a node at block level, by what it is there: past the rows or the run that it starts, or where its fold stops
unfoldable pub step_behind : Tape → Span → ℕ → Place → Step
step_behind t span k a_row_of = run_end_of t span NoRow (next_sibling t k)
step_behind t span k a_chapter_of = (folds_at t span kinds.chapter (next_sibling t k)).rest
step_behind t span k a_sidebar_of = next_sibling t k
step_behind t span k a_periph_of = next_sibling t k
step_behind t span k a_block = next_sibling t k
step_behind t span k a_verse_of = run_end_of t span Block (next_sibling t k)
step_behind t span k dropped = next_sibling t k
