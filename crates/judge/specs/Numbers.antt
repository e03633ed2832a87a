-- The numbers of steps from the counts of a state, as the code tests them.
use Rattle.std.specs.Prelude.{Bool, ◌&&◌, ℕ, ◌+◌, ◌-◌, length, get_or, eqb, ltb, leb}
use Rattle.parts.specs.Bytes.{Bytes}
use Rattle.chars.specs.Utf8.{is_utf8}
use Rattle.tape.specs.declared.Node.{Node}
use Rattle.tape.specs.declared.Entry.{Entry}
use Rattle.tape.specs.Category as categories
use Rattle.tape.specs.Element as elements
use Rattle.admit.specs.Decide.{all_below, good_byte}
use Rattle.admit.specs.Limits as limits
use Rattle.draft.specs.Fault.{first}
use Rattle.layout.specs.declared.Writer.{Writer}
use Rattle.layout.specs.Layout.{at_work_of, file_len, draft_of}
use Rattle.judge.specs.Phase.{phase_of}
use Rattle.judge.specs.Tests.{good_here}

-- a node step; nest is 0, or 6 or 7 where the step would break the nesting
unfoldable pub node_number_of : Writer → Bytes → Node → ℕ → ℕ
node_number_of w buf n nest =
    first (eqb (phase_of w (length buf)) at_work_of) 16
    (first (ltb (w.nodes + 1) limits.most_nodes) 2
    (first (good_here (draft_of w buf).source (draft_of w buf).entries n) 5
    (first (eqb nest 0) nest
    (first (leb (file_len w + 16) (length buf)) 8 0))))

-- a source piece
unfoldable pub piece_number_of : Writer → ℕ → Bytes → ℕ
piece_number_of w n s =
    first (eqb (phase_of w n) at_work_of) 16
    (first (leb (length s) (limits.most_source - w.source)) 2
    (first (is_utf8 s) 3
    (first (leb (length s) (n - file_len w)) 8 0)))

-- 4: name bytes and an entry behind so many names
unfoldable pub good_entry_for : ℕ → Bytes → Entry → Bool
good_entry_for names s e =
    all_below (λ i. good_byte (get_or s i 0)) (length s)
    && (leb (e.start + e.len) (names + length s)
    && (leb e.category.code categories.other
    && leb e.element.code elements.row))

-- an entry
unfoldable pub entry_number_of : Writer → ℕ → Bytes → Entry → ℕ
entry_number_of w n s e =
    first (eqb (phase_of w n) at_work_of) 16
    (first (eqb w.nodes 0) 16
    (first (ltb w.entries limits.most_entries && leb (length s) (limits.most_names - w.names)) 2
    (first (good_entry_for w.names s e) 4
    (first (leb 8 (n - file_len w) && leb (length s) (n - file_len w - 8)) 8 0))))
