-- Bytes, quoted text as bytes, and the parts of a list of bytes.
use Rattle.std.specs.Prelude.{ℕ, suc, List, [], ◌∷◌, Bool, true, false, ◌&&◌, take, drop, eqb}
use Prim.Native.Char.{code}
use Prim.Native.String.{String, [] as []ᵗ, ◌∷◌ as ◌∷ᵗ◌}

-- a text: its bytes, each below 256
abbrev pub Bytes : Type 0
Bytes = List ℕ

-- quoted text as bytes; the text is ASCII
abbrev pub b : String → Bytes
b []ᵗ = []
b (c ∷ᵗ s) = code c ∷ b s

-- the part that starts at a place and is so long, as far as the text reaches
abbrev pub part : Bytes → ℕ → ℕ → Bytes
part s start len = take len (drop start s)

-- whether two texts are equal
unfoldable pub same : Bytes → Bytes → Bool
same [] [] = true
same [] (y ∷ ys) = false
same (x ∷ xs) [] = false
same (x ∷ xs) (y ∷ ys) = eqb x y && same xs ys

-- whether a text begins with a word
unfoldable pub begins : Bytes → Bytes → Bool
begins [] s = true
begins (x ∷ w) [] = false
begins (x ∷ w) (y ∷ s) = eqb x y && begins w s

-- the first place from which the text passes a test; its length where there is none
unfoldable pub first_at : (Bytes → Bool) → Bytes → ℕ
first_at p [] = 0
first_at p (x ∷ s) = elim (p (x ∷ s)) [ true ↦ 0 | false ↦ suc (first_at p s) ]

-- where a word first stands in a text
abbrev pub find : Bytes → Bytes → ℕ
find w s = first_at (begins w) s
