-- Document 01's cases that are marked P, one table: "both sides of each line".
use Rattle.std.specs.Prelude.{List, [], ◌∷◌, ◌++◌, ℕ, zero, suc}
use Rattle.std.proofs.Math.Option.{Option, none, some}
use Rattle.parts.specs.Bytes.{Bytes, b}
use Rattle.admit.specs.Encode.{file}
use Rattle.checker.specs.Answer.{Answer, refused}
use Rattle.checker.specs.Words.{Judged}
use Rattle.events.specs.Tapes.{Piece, words, attribute, verse, leaf, block, inline, usx_of, usx, para, times, p, v, va, w, f, tr, tc, ts, file_of}
use Rattle.events.specs.Rows.{Row, row, Holds}

-- a row, and the checker's answer to its very text where the example gives one
pub record Case : Type 0 where
  pub row : Row
  pub checked : Option Answer

infix 70 ◌checked◌
-- a row and what is said of its text
abbrev pub ◌checked◌ : Row → Option Answer → Case
r checked a = record { row = r; checked = a }

-- the checker's answer to a text, where there is one
abbrev pub Checked : Bytes → Option Answer → Type 0
Checked s none = Unit
Checked s (some a) = Judged s a

-- what a case says: the outcome of its row, and the checker's answer to the text of that row
abbrev pub HoldsCase : Case → Type 0
HoldsCase c = Holds c.row × Checked c.row.text c.checked

-- so many paragraphs inside one another, around what the last one holds
abbrev pub nested_in : ℕ → List Piece → List Piece
nested_in zero ps = ps
nested_in (suc n) ps = block p "\\p" (nested_in n ps)

-- the cases, by document 01's numbers
abbrev pub table : List Case
table =
    -- 1
    row (file_of []) 26 0 26 (usx "") checked none
    ∷ row (file_of []) 25 8 26 [] checked none
    -- 2
    ∷ row [] 300 1 0 [] checked none
    ∷ row (file [] [] [] []) 300 2 0 [] checked none
    -- 3
    ∷ row (file_of (nested_in 64 [])) 2000 0 1496 (usx_of (b "\n  " ++ times 63 (b "<para style=\"p\">") ++ b "<para style=\"p\" />" ++ times 63 (b "</para>"))) checked none
    ∷ row (file_of (nested_in 65 [])) 2000 6 0 [] checked none
    -- 3: a leaf inside the 64th container is written
    ∷ row (file_of (nested_in 64 (leaf ts "\\ts"))) 2000 0 1518 (usx_of (b "\n  " ++ times 64 (b "<para style=\"p\">") ++ b "<ms style=\"ts\" />" ++ times 64 (b "</para>"))) checked none
    -- 4
    ∷ row (file_of (verse v "\\v 3" ++ words " x")) 300 0 114 (usx "\n  <para style=\"p\"><verse number=\"3\" style=\"v\" sid=\" 1:3\" />x</para><verse eid=\" 1:3\" />") checked none
    -- 5
    ∷ row (file_of (block p "\\p" (words "a // b "))) 300 0 66 (para "a<optbreak />b") checked none
    ∷ row (file_of (block p "\\p" (inline f "\\f" (words "+ " ++ words "a // b ")))) 300 0 92 (para "<note caller=\"+\" style=\"f\">a // b</note>") checked none
    -- 6
    ∷ row (file_of (block p "\\p" (words "a~//b"))) 300 0 66 (para "a<optbreak />b") checked none
    -- 7
    ∷ row (file_of (block p "\\p" (words "<\"&>" ++ inline w "\\w" (attribute "|<\"&>")))) 300 0 117 (para "&lt;\"&amp;&gt;<char style=\"w\" lemma=\"&lt;&quot;&amp;&gt;\"></char>") checked none
    -- 8
    ∷ row (file_of (block p "\\p" (inline w "\\w" (attribute "|lemma strong=\"l\"")))) 300 0 86 (para "<char style=\"w\" strong=\"l\"></char>") checked none
    ∷ row (file_of (block p "\\p" (inline w "\\w" (attribute "|=v")))) 300 0 75 (para "<char style=\"w\"></char>") checked none
    -- 9
    ∷ row (file_of (block p "\\p" (inline w "\\w" (attribute "|k=\"x\\\"y\"")))) 300 0 88 (para "<char style=\"w\" k=\"x&quot;y\"></char>") checked none
    ∷ row (file_of (block p "\\p" (inline w "\\w" (attribute "|k=\"x")))) 300 0 81 (para "<char style=\"w\" k=\"x\"></char>") checked none
    -- 10
    ∷ row (file_of (verse v "\\v 1" ++ inline va "\\va" (words " 2") ++ inline va "\\va" (words " 3"))) 300 0 152 (usx "\n  <para style=\"p\"><verse number=\"1\" style=\"v\" altnumber=\"2\" sid=\" 1:1\" /><char style=\"va\">3</char></para><verse eid=\" 1:1\" />") checked none
    -- 11: start sid escaped, eid raw; the checker gives 11
    ∷ row (file_of (verse v "\\v 1\"" ++ words " x")) 300 0 127 (usx "\n  <para style=\"p\"><verse number=\"1&quot;\" style=\"v\" sid=\" 1:1&quot;\" />x</para><verse eid=\" 1:1\"\" />") checked some (refused 11)
    -- 12
    ∷ row (file_of (block tr "\\tr" (inline tc "\\tcr2" (words "a") ++ inline tc "\\thc1" (words "b") ++ inline tc "\\tc1" (words "c")))) 300 0 221 (usx "\n  <table>\n    <row style=\"tr\">\n      <cell style=\"tcr2\" align=\"end\">a</cell>\n      <cell style=\"thc1\" align=\"center\">b</cell>\n      <cell style=\"tc1\" align=\"start\">c</cell>\n    </row>\n  </table>") checked none
    ∷ []
