-- Smallest tapes: identifiers that are not unique, and names that break the proviso, written or not.
use Rattle.std.specs.Prelude.{◌≡◌, Bool, true, false, not, ◌&&◌, List, [], ◌∷◌, ◌++◌, ℕ, zero, suc, length}
use Rattle.parts.specs.Bytes.{Bytes}
use Rattle.tape.specs.File.{Tape, tape_of}
use Rattle.admit.specs.Decide.{refusal}
use Rattle.checker.specs.Answer.{Answer, accepted, refused}
use Rattle.checker.specs.Words.{Judged}
use Rattle.events.specs.Tapes.{words, attribute, chapter, verse, block, inline, usx, id, c, v, p, w, file_of}
use Rattle.events.specs.Text.{text_of}
use Rattle.accepts.specs.Proviso.{has_special, Name, names_of}

-- ---- the proviso as a test

-- whether each of a row of names is free
unfoldable pub free_row : List Name → Bool
free_row [] = true
free_row (n ∷ ns) = not (has_special n.bytes) && free_row ns

-- whether all names of the first so many nodes are
unfoldable pub free_below : Tape → ℕ → Bool
free_below t zero = true
free_below t (suc n) = free_row (names_of t n) && free_below t n

-- whether a tape keeps the proviso
unfoldable pub keeps : Tape → Bool
keeps t = free_below t (length t.nodes)

-- ---- the table

-- a file, its text, whether it keeps the proviso, and the checker's answer
pub record Sample : Type 0 where
  pub file : Bytes
  pub text : Bytes
  pub kept : Bool
  pub answer : Answer

-- file, text, proviso, answer
abbrev pub sample : Bytes → Bytes → Bool → Answer → Sample
sample f s k a = record { file = f; text = s; kept = k; answer = a }

-- what a sample says: the file is admitted and has this text, which is judged so
pub record HoldsSample (s : Sample) : Type 0 where
  pub admitted : refusal s.file ≡ 0
  pub written : text_of (tape_of s.file) ≡ s.text
  pub kept : keeps (tape_of s.file) ≡ s.kept
  pub judged : Judged s.text s.answer

-- each of a table
abbrev pub AllHold : List Sample → Type 0
AllHold [] = Unit {0}
AllHold (s ∷ ss) = HoldsSample s × AllHold ss

-- the samples
abbrev pub samples : List Sample
samples =
    -- three verses `GEN 1:3`
    sample (file_of (block id "\\id" (words "GEN") ++ chapter c 1 "\\c 1" ++ verse v "\\v 3" ++ verse v "\\v 3" ++ verse v "\\v 3"))
    (usx "\n  <book code=\"GEN\" style=\"id\" />\n  <chapter number=\"1\" style=\"c\" sid=\"GEN 1\" />\n  <para style=\"p\"><verse number=\"3\" style=\"v\" sid=\"GEN 1:3\" /><verse eid=\"GEN 1:3\" /><verse number=\"3\" style=\"v\" sid=\"GEN 1:3\" /><verse eid=\"GEN 1:3\" /><verse number=\"3\" style=\"v\" sid=\"GEN 1:3\" /></para><verse eid=\"GEN 1:3\" /><chapter eid=\"GEN 1\" />")
    true (accepted 1 3)
    -- two chapters `GEN 1`
    ∷ sample (file_of (block id "\\id" (words "GEN") ++ chapter c 1 "\\c 1" ++ chapter c 1 "\\c 1"))
    (usx "\n  <book code=\"GEN\" style=\"id\" />\n  <chapter number=\"1\" style=\"c\" sid=\"GEN 1\" />\n  <chapter eid=\"GEN 1\" /><chapter number=\"1\" style=\"c\" sid=\"GEN 1\" /><chapter eid=\"GEN 1\" />")
    true (accepted 2 0)
    -- an empty label
    ∷ sample (file_of (verse v "\\v")) (usx "\n  <para style=\"p\"><verse number=\"\" style=\"v\" sid=\" 1:\" /></para><verse eid=\" 1:\" />") true (accepted 0 1)
    -- a label with a double quote: the end's tag is none
    ∷ sample (file_of (verse v "\\v 1\"")) (usx "\n  <para style=\"p\"><verse number=\"1&quot;\" style=\"v\" sid=\" 1:1&quot;\" /></para><verse eid=\" 1:1\"\" />") false (refused 11)
    -- a book code that is an entity: all tags are right, and the end names another verse
    ∷ sample (file_of (block id "\\id" (words "&lt;") ++ verse v "\\v 1"))
    (usx "\n  <book code=\"&lt;\" style=\"id\" />\n  <para style=\"p\"><verse number=\"1\" style=\"v\" sid=\"&amp;lt; 1:1\" /></para><verse eid=\"&lt; 1:1\" />")
    false (refused 14)
    -- the same where no chapter and no verse is written
    ∷ sample (file_of (block id "\\id" (words "&lt;"))) (usx "\n  <book code=\"&lt;\" style=\"id\" />") false (accepted 0 0)
    -- a key with `<`
    ∷ sample (file_of (block p "\\p" (inline w "\\w" (attribute "|k<=1")))) (usx "\n  <para style=\"p\"><char style=\"w\" k<=\"1\"></char></para>") false (refused 11)
    -- the same where no marker writes it
    ∷ sample (file_of (block p "\\p" (words "x" ++ attribute "|k<=1"))) (usx "\n  <para style=\"p\">x</para>") false (accepted 0 0)
    ∷ []
