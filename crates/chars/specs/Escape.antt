-- The XML escapes of the text, `escape_xml` and `escape_xml_attr`.
use Rattle.std.specs.Prelude.{ℕ, [], ◌∷◌, ◌++◌, Bool, cond, ◌&&◌, ◌||◌, eqb}
use Rattle.parts.specs.Bytes.{Bytes, b}

-- what a byte is written as: < > & by name, and in an attribute's value the double quote too
unfoldable pub escaped_byte : Bool → ℕ → Bytes
escaped_byte attr x =
    cond (eqb x 60) (b "&lt;")
    (cond (eqb x 62) (b "&gt;") (cond (eqb x 38) (b "&amp;") (cond (attr && eqb x 34) (b "&quot;") (x ∷ []))))

-- a text with its escapes, as text or as a value of an attribute
unfoldable pub escape : Bool → Bytes → Bytes
escape attr [] = []
escape attr (x ∷ s) = escaped_byte attr x ++ escape attr s

-- whether a byte is written by name
unfoldable pub special : Bool → ℕ → Bool
special attr x = eqb x 60 || (eqb x 62 || (eqb x 38 || (attr && eqb x 34)))
