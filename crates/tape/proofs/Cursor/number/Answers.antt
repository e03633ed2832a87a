use Rattle.tape.proofs.Laws.{number-chapter, number-none, number-verse}
use Rattle.tape.proofs.Cursor.number.Goals as goal

pub returns-then-n-eq-CHAPTER : goal.returns-then-n-eq-CHAPTER
returns-then-n-eq-CHAPTER c = search number-chapter

pub returns-then-n-eq-VERSE : goal.returns-then-n-eq-VERSE
returns-then-n-eq-VERSE c = search number-verse

pub returns : goal.returns
returns c = search number-none
