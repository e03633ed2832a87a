-- The number of a step on a draft: those of document 01 that it would cause, the lowest first, and before them 16 for an entry after the first node.
use Rattle.std.specs.Prelude.{Bool, cond, ◌&&◌, ℕ, length, get_or, eqb, ltb, leb}
use Rattle.parts.specs.Bytes.{Bytes}
use Rattle.chars.specs.Utf8.{is_utf8}
use Rattle.tape.specs.declared.Entry.{Entry}
use Rattle.nest.specs.Nest.{most_open}
use Rattle.admit.specs.Limits as limits
use Rattle.admit.specs.Decide.{all_below, good_byte, good_entry, good_node}
use Rattle.draft.specs.Draft.{Draft, Act, piece, entry, plain, leaf, opens, closes, next_index, after, tape_from, size_of}

-- a number where a test fails, else what follows
abbrev pub first : Bool → ℕ → ℕ → ℕ
first ok k rest = cond ok rest k

-- 2: nodes, with Root
abbrev pub few_nodes : Draft → Bool
few_nodes d = leb (next_index d) limits.most_nodes

-- 2: entries and name bytes
abbrev pub few_names_of : Draft → Bool
few_names_of d = leb (length d.entries) limits.most_entries && leb (length d.names) limits.most_names

-- 2: source bytes
abbrev pub few_source : Draft → Bool
few_source d = leb (length d.source) limits.most_source

-- 4: name bytes, and an entry behind them
unfoldable pub good_name : Draft → Bytes → Entry → Bool
good_name d s e = all_below (λ i. good_byte (get_or s i 0)) (length s) && good_entry (tape_from d) e

-- 5: the last node of a draft
unfoldable pub good_last : Draft → ℕ → Bool
good_last d k = good_node (tape_from d) k

-- 8: the file fits into so many bytes
abbrev pub roomy : Draft → ℕ → Bool
roomy d room = leb (size_of d) room

-- a step that adds a node; nest is 0, or 6 or 7 where the step would break the nesting
unfoldable pub node_fault : Draft → Draft → ℕ → ℕ → ℕ
node_fault d more nest room =
    first (few_nodes more) 2
    (first (good_last more (next_index d)) 5
    (first (eqb nest 0) nest
    (first (roomy more room) 8 0)))

-- 6: a 65th container
abbrev pub open_nest : Draft → ℕ
open_nest d = first (ltb d.depth most_open) 6 0

-- 7: nothing is open
abbrev pub close_nest : Draft → ℕ
close_nest d = first (ltb 0 d.inner && ltb 0 d.depth) 7 0

-- the number of a step, 0 where it is done, in a buffer of so many bytes
unfoldable pub fault : Draft → Act → ℕ → ℕ
fault d (piece s) room =
    first (few_source (after d (piece s))) 2
    (first (is_utf8 s) 3
    (first (roomy (after d (piece s)) room) 8 0))
fault d (entry s e) room =
    first (eqb (length d.nodes) 0) 16
    (first (few_names_of (after d (entry s e))) 2
    (first (good_name (after d (entry s e)) s e) 4
    (first (roomy (after d (entry s e)) room) 8 0)))
fault d (plain n) room = node_fault d (after d (plain n)) 0 room
fault d (leaf n) room = node_fault d (after d (leaf n)) 0 room
fault d (opens n) room = node_fault d (after d (opens n)) (open_nest d) room
fault d (closes n) room = node_fault d (after d (closes n)) (close_nest d) room
