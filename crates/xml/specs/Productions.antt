-- What may stand between tags and in a value in double quotes: productions 10, 14 and 43 of XML 1.0. What they exclude is ASCII, so bytes serve.
use Rattle.std.specs.Prelude.{ℕ, ◌≡◌}
use mathlib.Core.List.{[], ◌∷◌, ◌++◌, Memᴰ}
use Rattle.parts.specs.Bytes.{Bytes, b}
use Rattle.xml.specs.Entities.{Entity, predefined, reference}

-- production 14, CharData: neither `<` nor `&`, and nowhere `]]>`
pub record CharData (s : Bytes) : Type 0 where
  pub no_tag : Memᴰ 60 s → ⊥
  pub no_reference : Memᴰ 38 s → ⊥
  pub no_section_end : (a z : Bytes) → s ≡ a ++ (b "]]>" ++ z) → ⊥

-- production 43, content, where it holds no element: character data, with references between
pub data Content : Bytes → Type 0 where
  data_last : {s : Bytes} → CharData s → Content s
  data_more : {s r : Bytes} (e : Entity) → CharData s → Memᴰ e predefined → Content r → Content (s ++ (reference e ++ r))

-- production 10, AttValue, between its double quotes: no `<`, no `"`, and `&` in references alone
pub data ValueChars : Bytes → Type 0 where
  none : ValueChars []
  a_char : {s : Bytes} (x : ℕ) → (x ≡ 60 → ⊥) → (x ≡ 38 → ⊥) → (x ≡ 34 → ⊥) → ValueChars s → ValueChars (x ∷ s)
  a_reference : {s : Bytes} (e : Entity) → Memᴰ e predefined → ValueChars s → ValueChars (reference e ++ s)

-- production 10, AttValue, in double quotes
pub record AttValue (s : Bytes) : Type 0 where
  pub inner : Bytes
  pub quoted : s ≡ b "\"" ++ (inner ++ b "\"")
  pub chars : ValueChars inner
