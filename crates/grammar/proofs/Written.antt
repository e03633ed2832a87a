-- The events of the walk one by one, and which elements they open and close.
use mathlib.Core.List.{List, [], ◌∷◌, ◌++◌}
use Prim.Native.Nat.{ℕ, ◌≤◌}
use native.Mathlib.Omega.{arith}
use Rattle.tape.specs.File.{Tape}
use Rattle.tags.specs.Items.{Attr, close}
use Rattle.tags.specs.Names.{IsName}
use Rattle.events.specs.Event.{Event, item}
use Rattle.events.specs.Walk.{events_of}
use Rattle.grammar.specs.Grammar.{Given, unknown-para, unknown-char, old_figure, a_figure, a_ref, a_link, a_note, an_ms, a_char, a_para, a_run, a_table, a_row, a_cell, a_sidebar, a_periph, a_break, Grown, none, leaf, a_book, around, by_itself, of_book, opening, closing, AllWritten}
use Rattle.grammar.proofs.Walk.{walk_grown}

written-append : (t : Tape) (es fs : List Event) → AllWritten t es → AllWritten t fs → AllWritten t (es ++ fs)
written-append t [] fs h g = g
written-append t (e ∷ es) fs h g = (h.0, written-append t es fs h.1 g)

-- what is grown is written event by event
grown_written : {t : Tape} {h : ℕ} {es : List Event} → Grown t h es → AllWritten t es
grown_written none = tt
grown_written (leaf l g) = (by_itself l, grown_written g)
grown_written (a_book k o r g) = (of_book k o r, grown_written g)
grown_written {t} (around {h} {n} {qs} {es} {fs} a g f) = (opening a, written-append t es (item (close n) ∷ fs) (grown_written g) (closing a, grown_written f))

-- the events of every tape, one by one
pub walk_written : (t : Tape) → AllWritten t (events_of t)
walk_written t = grown_written (walk_grown t)

-- ---- elements

-- none of those that the walk itself opens is usx, a book, a chapter or a verse
pub given_range : {t : Tape} {n : ℕ} {qs : List Attr} → Given t n qs → (5 ≤ n) × (n ≤ 16)
given_range (unknown-para k m) = (omega arith, omega arith)
given_range (unknown-char k m) = (omega arith, omega arith)
given_range (old_figure k a) = (omega arith, omega arith)
given_range (a_figure k) = (omega arith, omega arith)
given_range (a_ref k) = (omega arith, omega arith)
given_range (a_link loc) = (omega arith, omega arith)
given_range (a_note k m) = (omega arith, omega arith)
given_range (an_ms k m) = (omega arith, omega arith)
given_range (a_char k m) = (omega arith, omega arith)
given_range (a_para k m) = (omega arith, omega arith)
given_range a_run = (omega arith, omega arith)
given_range a_table = (omega arith, omega arith)
given_range a_row = (omega arith, omega arith)
given_range (a_cell k m) = (omega arith, omega arith)
given_range (a_sidebar k m) = (omega arith, omega arith)
given_range (a_periph k) = (omega arith, omega arith)
given_range a_break = (omega arith, omega arith)

pub given-name : {t : Tape} {n : ℕ} {qs : List Attr} → Given t n qs → IsName n
given-name a = let r = given_range a in record { one = omega arith; sixteen = omega arith }
