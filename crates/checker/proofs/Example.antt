-- The definition at work: both sides of each rule.
use mathlib.Core.Path.{◌≡◌, refl}
use mathlib.Core.List.{List, [], ◌∷◌, ◌++◌}
use Prim.Native.Nat.{ℕ, zero, suc}
use Rattle.parts.specs.Bytes.{Bytes, b, same, begins}
use Rattle.tags.specs.Names.{which, element_at}
use Rattle.tags.specs.Form.{plain, escape_at, key_byte_of, ok, run, pair_at, pairs_at, pairs_row, close_head, open_head_of, text_head, head_at_of, tail_at, ended, tagged, headed, next, tokens_at, tokens_from, tokens}
use Rattle.checker.specs.View.{id_key_of, noted_by, noted, mark_on, view}
use Rattle.checker.specs.Steps.{rise, broke, push, pop, grow_in, grow, turn, missed, chapter_to_of, verse_to, is_shut, is_milestone, pair_up}
use Rattle.checker.specs.Check.{step_on, fold_on, none_open_of, one_tree, paired_off, verdict_of, settle, fold_verdict}
use Rattle.checker.specs.Answer.{Answer, answer_of}
use Rattle.checker.specs.Words.{Judged}
use Rattle.checker.proofs.Answers.{answers_exact}
use Rattle.checker.specs.Place.{is_broken, broken_at, broken_from, broken_place, line_end, line_ends, line_of}

abbrev framed : Bytes → Bytes
framed s = b "<usx version=\"3.0\">" ++ (s ++ b "</usx>")

abbrev nested : ℕ → Bytes
nested zero = []
nested (suc n) = b "<char>" ++ (nested n ++ b "</char>")

-- a text and document 01's answer to it
pub record Row : Type 0 where
  pub text : Bytes
  pub answer : Answer

infix 70 ◌gives◌and◌and◌
abbrev ◌gives◌and◌and◌ : Bytes → ℕ → ℕ → ℕ → Row
s gives n and c and v = record { text = s; answer = record { number = n; chapters = c; verses = v } }

abbrev pub table : List Row
table =
    framed (b "\n  <chapter number=\"2\" style=\"c\" sid=\"GEN 2\" />\n  <para style=\"p\"><verse number=\"1\" style=\"v\" sid=\"GEN 2:1\" />Sing &amp; go</para><verse eid=\"GEN 2:1\" /><chapter eid=\"GEN 2\" />\n") gives 0 and 1 and 1
    ∷ framed (b "<figure /><table><row><cell>a</cell></row></table><optbreak /><ref></ref>") gives 0 and 0 and 0
    ∷ framed (b "a & b") gives 11 and 0 and 0
    ∷ framed (b "<rows>a</rows>") gives 11 and 0 and 0
    ∷ framed (b "<para x=\"&quot\">y</para>") gives 11 and 0 and 0
    ∷ framed (b "<para /=\"&quot;\">y</para>") gives 0 and 0 and 0
    ∷ b "<usx version=\"3.0\"></usx> " gives 11 and 0 and 0
    ∷ framed (nested 159) gives 0 and 0 and 0
    ∷ framed (nested 160) gives 12 and 0 and 0
    ∷ framed (b "<para></char>") gives 13 and 0 and 0
    ∷ framed (b "</usx><usx>") gives 13 and 0 and 0
    ∷ framed (b "<usx />") gives 13 and 0 and 0
    ∷ framed (b "<verse sid=\"a\" /><verse eid=\"b\" />") gives 14 and 0 and 0
    ∷ framed (b "<chapter sid=\"1\" /><verse sid=\"a\" /><chapter eid=\"1\" /><verse eid=\"a\" />") gives 14 and 0 and 0
    ∷ framed (b "<verse eid=\"a\" x=\"\" />") gives 14 and 0 and 0
    ∷ framed (b "<chapter></chapter>") gives 14 and 0 and 0
    ∷ []

-- the answer to a text, by computation: every definition that it rests on is opened by this one name
unfoldable pub computed : Bytes → Answer
unfolding plain escape_at key_byte_of ok run which element_at pair_at pairs_at pairs_row close_head open_head_of text_head head_at_of tail_at ended tagged headed next tokens_at tokens_from tokens noted_by noted mark_on view rise broke push pop grow_in grow turn missed chapter_to_of verse_to is_shut is_milestone pair_up step_on fold_on none_open_of one_tree paired_off verdict_of settle fold_verdict same begins answer_of id_key_of
computed s = answer_of (fold_verdict s)

-- what is computed is document 01's answer
pub judged_by : (s : Bytes) {a : Answer} → computed s ≡ a → Judged s a
unfolding computed
judged_by s e = (answers_exact s _).0 e

abbrev Each : List Row → Type 0
Each [] = Unit {0}
Each (r ∷ rs) = Judged r.text r.answer × Each rs

-- each is judged so by document 01's rules
pub examples : Each table
unfolding computed
examples = (judged_by _ refl, (judged_by _ refl, (judged_by _ refl, (judged_by _ refl, (judged_by _ refl, (judged_by _ refl, (judged_by _ refl, (judged_by _ refl, (judged_by _ refl, (judged_by _ refl, (judged_by _ refl, (judged_by _ refl, (judged_by _ refl, (judged_by _ refl, (judged_by _ refl, (judged_by _ refl, tt))))))))))))))))

-- a text, and the bytes before the place where its first rule breaks, and the line of it
pub record Spot : Type 0 where
  pub text : Bytes
  pub place : ℕ
  pub line : ℕ

infix 70 ◌breaks-at◌in-line◌
abbrev ◌breaks-at◌in-line◌ : Bytes → ℕ → ℕ → Spot
s breaks-at n in-line l = record { text = s; place = n; line = l }

abbrev pub spots : List Spot
spots =
    b "<usx>" breaks-at 0 in-line 1
    ∷ framed (b "\n\na & b") breaks-at 23 in-line 3
    ∷ framed (b "\n<para x=\"&\"></para>") breaks-at 20 in-line 2
    ∷ b "<usx version=\"3.0\"></usx>\n" breaks-at 26 in-line 2
    ∷ framed (b "<para>\n</char>") breaks-at 26 in-line 2
    ∷ framed (b "<para>\n") breaks-at 26 in-line 2
    ∷ framed (b "<verse sid=\"a\" />\n<verse eid=\"b\" />") breaks-at 37 in-line 2
    ∷ framed (b "<verse sid=\"a\" />\n") breaks-at 43 in-line 2
    ∷ []

abbrev EachSpot : List Spot → Type 0
EachSpot [] = Unit {0}
EachSpot (r ∷ rs) =
    (broken_place (fold_verdict r.text) r.text ≡ r.place) × (line_of r.text r.place ≡ r.line) × EachSpot rs

pub places : EachSpot spots
unfolding plain escape_at key_byte_of ok run which element_at pair_at pairs_at pairs_row close_head open_head_of text_head head_at_of tail_at ended tagged headed next tokens_at tokens_from tokens noted_by noted mark_on view rise broke push pop grow_in grow turn missed chapter_to_of verse_to is_shut is_milestone pair_up step_on fold_on none_open_of one_tree paired_off verdict_of settle fold_verdict same begins id_key_of is_broken broken_at broken_from broken_place line_end line_ends line_of
places = (refl, refl, (refl, refl, (refl, refl, (refl, refl, (refl, refl, (refl, refl, (refl, refl, (refl, refl, tt))))))))
