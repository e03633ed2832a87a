-- Further tapes, whose texts the Rust wrote: one table, each row by computation.
use mathlib.Core.Path.{refl}
use mathlib.Core.List.{List, [], ◌∷◌, ◌++◌}
use Rattle.parts.specs.Bytes.{b}
use Rattle.events.proofs.Answered.{answered}
use Rattle.events.specs.Tapes.{unknown, words, attribute, error, chapter, verse, leaf, block, inline, nested, unclosed, usx_of, usx, para, id, usfm, c, v, p, cp, vb, tr, nd, xt, ref, va, vp, ca, cat, fig, tc, f, ts, esb, periph, file_of}
use Rattle.events.specs.Rows.{Row, row, Holds, Each}

-- ---- rows that hold

-- a row and its proof: a wrong row is refused where it stands
pub record Example : Type 0 where
  pub row : Row
  pub holds : Holds row

infix 70 ◌by◌
abbrev pub ◌by◌ : (r : Row) → Holds r → Example
r by h = record { row = r; holds = h }

abbrev pub rows : List Example → List Row
rows [] = []
rows (e ∷ es) = e.row ∷ rows es

pub each : (es : List Example) → Each Holds (rows es)
each [] = tt
each (e ∷ es) = (e.holds, each es)

-- ---- the table

unfoldable pub more : List Example
unfolding answered
more =
    -- document 01's listing
    row (file_of (block id "\\id" (words " GEN x") ++ chapter c 2 "" ++ block p "\\p" (verse v "\\v 1" ++ words " Sing"))) 800 0 232 (usx "\n  <book code=\"GEN\" style=\"id\">x</book>\n  <chapter number=\"2\" style=\"c\" sid=\"GEN 2\" />\n  <para style=\"p\"><verse number=\"1\" style=\"v\" sid=\"GEN 2:1\" />Sing</para><verse eid=\"GEN 2:1\" /><chapter eid=\"GEN 2\" />") by refl
    -- a later `\id` changes later identifiers only
    ∷ row (file_of (block id "\\id" (words " GEN") ++ chapter c 1 "\\c 1" ++ block p "\\p" (verse v "\\v 1") ++ block id "\\id" (words " EXO") ++ block p "\\p" (verse v "\\v 2"))) 800 0 348 (usx "\n  <book code=\"GEN\" style=\"id\" />\n  <chapter number=\"1\" style=\"c\" sid=\"GEN 1\" />\n  <para style=\"p\"><verse number=\"1\" style=\"v\" sid=\"GEN 1:1\" /></para>\n  <book code=\"EXO\" style=\"id\" />\n  <para style=\"p\"><verse eid=\"GEN 1:1\" /><verse number=\"2\" style=\"v\" sid=\"EXO 1:2\" /></para><verse eid=\"EXO 1:2\" /><chapter eid=\"GEN 1\" />") by refl
    -- a chapter closes an open verse first
    ∷ row (file_of (block p "\\p" (verse v "\\v 1" ++ chapter c 2 "\\c 2" ++ words " x"))) 800 0 175 (usx "\n  <para style=\"p\"><verse number=\"1\" style=\"v\" sid=\" 0:1\" /><verse eid=\" 0:1\" /><chapter number=\"2\" style=\"c\" sid=\" 2\" />x</para><chapter eid=\" 2\" />") by refl
    -- a chapter with its alternate and published numbers
    ∷ row (file_of (chapter c 1 "\\c 1" ++ words "\n" ++ inline ca "\\ca" (words " 2") ++ block cp "\\cp" (words " A") ++ block p "\\p" (words "x"))) 800 0 145 (usx "\n  <chapter number=\"1\" style=\"c\" altnumber=\"2\" pubnumber=\"A\" sid=\" 1\" />\n  <para style=\"p\">x</para><chapter eid=\" 1\" />") by refl
    -- in a verse run the first alternate and published numbers fold
    ∷ row (file_of (verse v "\\v 1" ++ inline vp "\\vp" (words " 1b ") ++ inline va "\\va" (words " 2") ++ inline vp "\\vp" (words " 3"))) 800 0 167 (usx "\n  <para style=\"p\"><verse number=\"1\" style=\"v\" altnumber=\"2\" sid=\" 1:1\" pubnumber=\"1b\" /><char style=\"vp\">3</char></para><verse eid=\" 1:1\" />") by refl
    -- a `va` of category Paragraph cuts the run
    ∷ row (file_of (verse v "\\v 1" ++ block vb "\\va" (words " 2"))) 800 0 141 (usx "\n  <para style=\"p\"><verse number=\"1\" style=\"v\" sid=\" 1:1\" /></para>\n  <para style=\"va\">2</para><verse eid=\" 1:1\" />") by refl
    -- a label glued to its marker
    ∷ row (file_of (verse v "\\v12")) 800 0 116 (usx "\n  <para style=\"p\"><verse number=\"12\" style=\"v\" sid=\" 1:12\" /></para><verse eid=\" 1:12\" />") by refl
    -- a chapter that is not written, and the first number is 0
    ∷ row (file_of (block usfm "\\usfm" (chapter c 1 "\\c 1") ++ verse v "\\v 1")) 800 0 113 (usx "\n  <para style=\"p\"><verse number=\"1\" style=\"v\" sid=\" 0:1\" /></para><verse eid=\" 0:1\" />") by refl
    -- a sidebar with its category
    ∷ row (file_of (block esb "\\esb" (inline cat "\\cat" (words " x ") ++ block p "\\p" (words "a")))) 800 0 105 (usx "\n  <sidebar style=\"esb\" category=\"x\">\n    <para style=\"p\">a</para>\n  </sidebar>") by refl
    -- a sidebar without a block
    ∷ row (file_of (block esb "\\esb" (verse v "\\v 1"))) 800 0 52 (usx "\n  <sidebar style=\"esb\" />") by refl
    -- a periph with its title and attributes
    ∷ row (file_of (block periph "\\periph" (words " Front  page" ++ attribute "|id=\"f\"" ++ block p "\\p" (words "a")))) 800 0 102 (usx "\n  <periph alt=\"Front page\" id=\"f\">\n    <para style=\"p\">a</para>\n  </periph>") by refl
    -- rows that stand together are one table; an empty cell
    ∷ row (file_of (block tr "\\tr" (inline tc "\\tc1" (words "a") ++ inline tc "\\tc2" []) ++ block tr "\\tr" (inline tc "\\tcc1" (words "b")) ++ block p "\\p" (words "c"))) 800 0 275 (usx "\n  <table>\n    <row style=\"tr\">\n      <cell style=\"tc1\" align=\"start\">a</cell>\n      <cell style=\"tc2\" align=\"start\" />\n    </row>\n    <row style=\"tr\">\n      <cell style=\"tcc1\" align=\"center\">b</cell>\n    </row>\n  </table>\n  <para style=\"p\">c</para>") by refl
    -- a note with its caller and category
    ∷ row (file_of (block p "\\p" (words "a" ++ inline f "\\f" (words " - " ++ inline cat "\\cat" (words " k ") ++ inline nd "\\ft" (words "b // c") ++ words " d") ++ words " e"))) 800 0 142 (para "a<note caller=\"-\" style=\"f\" category=\"k\"><char style=\"ft\">b<optbreak />c</char> d</note> e") by refl
    -- example 13: a note whose first child is no text
    ∷ row (file_of (block p "\\p" (inline f "\\f" (inline nd "\\nd" (words "x"))))) 800 0 111 (para "<note caller=\"+\" style=\"f\"><char style=\"nd\">x</char></note>") by refl
    -- a figure of old
    ∷ row (file_of (block p "\\p" (inline fig "\\fig" (words "x" ++ attribute "|d|a.jpg|col|||cap|1.2")))) 800 0 131 (para "<figure style=\"fig\" alt=\"x\" file=\"d\" size=\"a.jpg\" loc=\"col\" ref=\"cap\"></figure>") by refl
    -- a figure
    ∷ row (file_of (block p "\\p" (inline fig "\\fig" (words "cap" ++ attribute "|src=\"a.jpg\" size=\"col\"")))) 800 0 108 (para "<figure style=\"fig\" file=\"a.jpg\" size=\"col\">cap</figure>") by refl
    -- a nested `xt` with `href`, and one that holds a `ref`
    ∷ row (file_of (block p "\\p" (nested xt "\\+xt" (words "see" ++ attribute "|href=\"GEN 1\"")))) 800 0 115 (para "<char style=\"xt\" href=\"GEN 1\"><ref loc=\"GEN 1\">see</ref></char>") by refl
    ∷ row (file_of (block p "\\p" (nested xt "\\+xt" (inline ref "\\ref" (words "a" ++ attribute "|loc=\"EXO 1\" x=\"y\"") ++ attribute "|href=\"GEN 1\"")))) 800 0 113 (para "<char style=\"xt\" href=\"GEN 1\"><ref loc=\"EXO 1\">a</ref></char>") by refl
    -- unknown markers: a block, an inline one, a leaf
    ∷ row (file_of (block unknown "\\y" (words "a" ++ inline unknown "\\z" (words " b ") ++ leaf unknown "\\x" ++ words "c"))) 800 0 112 (usx "\n  <para style=\"y\" status=\"unknown\">a<char style=\"z\" status=\"unknown\">b</char>c</para>") by refl
    -- milestones
    ∷ row (file_of (block p "\\p" (inline ts "\\ts-s" (attribute "|sid=\"x\"") ++ words " a" ++ leaf ts "\\ts"))) 800 0 98 (para "<ms style=\"ts-s\" sid=\"x\" /> a<ms style=\"ts\" />") by refl
    -- spaces at the edges of what is inline
    ∷ row (file_of (block p "\\p" (words " a " ++ inline nd "\\nd" (words " b ") ++ words " c "))) 800 0 82 (para "a <char style=\"nd\">b </char> c") by refl
    -- what is not closed says so; a blank text in front of another
    ∷ row (file_of (block p "\\p" (unclosed nd "\\nd" (words "a") ++ error "!" ++ words " " ++ words "b"))) 800 0 94 (para "<char style=\"nd\" closed=\"false\">a</char> b") by refl
    -- a verse behind a text; an empty paragraph; an inline marker at block level
    ∷ row (file_of (block p "\\p" (words "a " ++ verse v "\\v 1" ++ words " b") ++ block p "\\p" [] ++ inline nd "\\nd" (words "x"))) 800 0 137 (usx "\n  <para style=\"p\">a <verse number=\"1\" style=\"v\" sid=\" 1:1\" />b</para>\n  <para style=\"p\" /><verse eid=\" 1:1\" />") by refl
    -- `~` is U+00A0
    ∷ row (file_of (block p "\\p" (words "a~b"))) 800 0 56 (usx_of (b "\n  <para style=\"p\">a" ++ (194 ∷ 160 ∷ b "b</para>"))) by refl
    ∷ []

pub further : Each Holds (rows more)
further = each more
