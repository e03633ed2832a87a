-- A text in tag form whose milestones are right is read.
use mathlib.Core.Path.{◌≡◌, refl, ap, subst}
use mathlib.Core.Bool.{true, false, not}
use mathlib.Core.List.{List, [], ◌∷◌, ◌++◌}
use lib.Dec.{eqb}
use borrow.Author.Tests.{eqb-false, not-true}
use Rattle.parts.specs.Bytes.{Bytes}
use Rattle.parts.proofs.Laws.{and-true}
use Rattle.chars.proofs.Lists.{all}
use Rattle.tags.specs.Form.{Token, text, opens, closes, empty}
use Rattle.tags.specs.Write.{write, write_all, Legal, nil, a_text, an_open, a_close, an_empty, TagForm}
use Rattle.checker.specs.View.{View, words, view, views}
use Rattle.checker.specs.Words.{Demand}
use Rattle.checker.specs.Steps.{Held, shut}
use Rattle.checker.specs.Meaning.{since, open_behind, Fits}
use Rattle.checker.proofs.Demands.{demand_exact}
use Rattle.exact.proofs.Reading.{Reads, done, byte, close, tag}
use Rattle.accepts.proofs.Spaces.{but}
use Rattle.exact.proofs.Cuts.{text_no_tag, text_no_end}

-- a text of bytes that may stand in front of what is read
text_reads : {c v : Held} (t r : Bytes) → all (but 60) t ≡ true → all (but 62) t ≡ true → Reads c v r → Reads c v (t ++ r)
unfolding all but
text_reads [] r h g z = z
text_reads (x ∷ t) r h g z =
    let i = and-true (not (eqb x 60)) (all (but 60) t) h in
    let j = and-true (not (eqb x 62)) (all (but 62) t) g in
    byte x (t ++ r) refl (eqb-false x 60 (not-true (eqb x 60) i.0)) (eqb-false x 62 (not-true (eqb x 62) j.0)) (text_reads t r i.1 j.1 z)

-- every tag fits behind those before it
abbrev Places : Held → Held → List View → Type 0
Places c v vs = (a : List View) (w : View) (z : List View) → vs ≡ a ++ w ∷ z → Fits (open_behind 3 c a) (open_behind 4 v a) w

-- the first of a row, and those behind it
first_fits : (c v : Held) (w : View) (vs : List View) → Places c v (w ∷ vs) → Fits c v w
unfolding open_behind
first_fits c v w vs f = f [] w vs refl

behind : (c v : Held) (w : View) (vs : List View) → Places c v (w ∷ vs) → Places (since 3 c w) (since 4 v w) vs
unfolding open_behind
behind c v w vs f a u z e = f (w ∷ a) u z (ap (λ (us : List View). w ∷ us) e)

legal_reads : (c v : Held) (ts : List Token) → Legal ts → Places c v (views ts) → Reads c v (write_all ts)
unfolding write_all write view since
legal_reads c v [] nil f = done refl
legal_reads c v (text t ∷ ts) (a_text n k apart l) f =
    text_reads t (write_all ts) (text_no_tag t k) (text_no_end t k) (legal_reads c v ts l (behind c v words (views ts) f))
legal_reads c v (opens n ps ∷ ts) (an_open h hs l) f =
    tag false n ps (write_all ts) refl h hs (first_fits c v _ (views ts) f) (legal_reads (since 3 c (view (opens n ps))) (since 4 v (view (opens n ps))) ts l (behind c v (view (opens n ps)) (views ts) f))
legal_reads c v (closes n ∷ ts) (a_close h l) f =
    close n (write_all ts) refl h (first_fits c v _ (views ts) f) (legal_reads c v ts l (behind c v (view (closes n)) (views ts) f))
legal_reads c v (empty n ps ∷ ts) (an_empty h hs l) f =
    tag true n ps (write_all ts) refl h hs (first_fits c v _ (views ts) f) (legal_reads (since 3 c (view (empty n ps))) (since 4 v (view (empty n ps))) ts l (behind c v (view (empty n ps)) (views ts) f))

-- from nothing open
pub form_reads : (s : Bytes) (ts : List Token) → TagForm s ts → Demand (views ts) → Reads shut shut s
form_reads s ts form demand = subst (Reads shut shut) form.written (legal_reads shut shut ts form.legal ((demand_exact (views ts)).1 demand).places)
