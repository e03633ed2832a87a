-- Normalized text: its body, its edges, and the split at `//`.
use Rattle.std.specs.Prelude.{◌-◌, Bool, true, false, cond, ◌&&◌, List, [], ◌∷◌, ◌++◌, map, length, get_or, eqb, ltb}
use Rattle.parts.specs.Bytes.{Bytes, b, find}
use Rattle.chars.specs.Space.{is_ascii_white}
use Rattle.words.specs.Words.{words, joined, trim, is_blank_of as blank, onto}
use Rattle.words.specs.declared.Set.TheVariants.{Ascii, Unicode}
use Rattle.texts.specs.declared.Normalized.{Normalized}

-- ---- the body

-- `~` becomes U+00A0, which is C2 A0
unfoldable pub hard_spaces : Bytes → Bytes
hard_spaces [] = []
hard_spaces (x ∷ s) = elim (eqb x 126) as (λ y. Bytes) [ true ↦ 194 ∷ 160 ∷ hard_spaces s | false ↦ x ∷ hard_spaces s ]

-- a normalized body is its words joined by one space, `~` then becoming U+00A0; ASCII
unfoldable pub body_of : Bytes → Bytes
body_of s = hard_spaces (joined (words Ascii s))

-- words, a space before each
unfoldable pub spaced : List Bytes → Bytes
spaced [] = []
spaced (w ∷ ws) = 32 ∷ (w ++ spaced ws)

-- what follows a word of a body, where this follows it in the text
unfoldable pub body_tail : Bytes → Bytes
body_tail s = hard_spaces (spaced (words Ascii s))

-- ---- the edges

-- whether a text begins with ASCII white space
unfoldable pub starts_white : Bytes → Bool
starts_white s = is_ascii_white (get_or s 0 0)

-- whether a text ends with ASCII white space
unfoldable pub ends_white : Bytes → Bool
ends_white s = is_ascii_white (get_or s (length s - 1) 0)

-- an all-blank text gives one space, a lone lead, only if it has a byte and both sides would keep one
unfoldable pub blank_lead : Bytes → Bool → Bool → Bool
blank_lead s keepLead keepTrail = ltb 0 (length s) && (keepLead && keepTrail)

-- `normalize_text`: edge spaces stay where there is white space and that side keeps it; whether anything is written
unfoldable pub normalize_text : Bytes → Bool → Bool → Normalized
normalize_text s keepLead keepTrail =
    cond (blank Ascii s)
    (record { lead = blank_lead s keepLead keepTrail; trail = false; shows = blank_lead s keepLead keepTrail })
    (record { lead = starts_white s && keepLead; trail = ends_white s && keepTrail; shows = true })

-- one space, or nothing
unfoldable pub space_if : Bool → Bytes
space_if true = 32 ∷ []
space_if false = []

-- `xml_text`, before the escapes: lead, body and trail
unfoldable pub written : Bytes → Normalized → Bytes
written s n = space_if n.lead ++ (body_of s ++ space_if n.trail)

-- ---- the split at `//`

-- whether a text holds `//`
unfoldable pub has_break : Bytes → Bool
has_break s = ltb (find (b "//") s) (length s)

-- a text split at each `//`
unfoldable pub split_breaks : Bytes → List Bytes
split_breaks [] = [] ∷ []
split_breaks (x ∷ []) = (x ∷ []) ∷ []
split_breaks (x ∷ y ∷ s) =
    elim (eqb x 47 && eqb y 47) as (λ z. List Bytes) [ true ↦ [] ∷ split_breaks s | false ↦ onto (x ∷ []) (split_breaks (y ∷ s)) ]

-- a body holding `//` is split there, each segment trimmed (Unicode)
unfoldable pub segments : Bytes → List Bytes
segments s = map (trim Unicode) (split_breaks (body_of s))
