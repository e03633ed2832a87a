-- Texts as events: whole, and segment by segment.
use mathlib.Core.Path.{◌≡◌, refl, sym, ap, ◌∙◌}
use mathlib.Core.Bool.{Bool, true, false, cond}
use mathlib.Core.List.{List, [], ◌∷◌, map}
use Prim.Native.Nat.{ℕ, ◌+◌, ◌≤◌, ◌<◌}
use native.Mathlib.Omega.{arith}
use lib.ListN.{length, take, drop, length-drop}
use lib.Seq.{drop-drop, take_all, take-length}
use lib.Dec.{ltb}
use borrow.Author.Tests.{lt-ltb, le-ltb, ltb-true, ltb-false}
use Rattle.parts.specs.Bytes.{Bytes, begins, find}
use Rattle.parts.proofs.Laws.{first-le}
use Rattle.chars.specs.Escape.{escape}
use Rattle.words.specs.Words.{trim}
use Rattle.words.specs.declared.Set.TheVariants.{Unicode}
use Rattle.texts.specs.Text.{body_of, written, has_break, split_breaks, segments}
use Rattle.texts.specs.declared.Normalized.{Normalized}
use Rattle.texts.proofs.Segments.{split-last, split-next, segments_bodies}
use Rattle.put_body.specs.Easy.{easy, inner_of, edged}
use Rattle.put_body.specs.Frame.{Framed}
use Rattle.put_body.proofs.Easy.{easy_whole, easy-written}
use Rattle.tags.specs.Items.{text, empty}
use Rattle.events.specs.Event.{Event, item}
use Rattle.events.specs.Walk.{unbroken, breaks, segmented, broken}
use Rattle.events.specs.Emit.{Desk, emit, emit_all}
use Rattle.desk.specs.Desk.{desk_of}
use Rattle.desk.specs.Stroke.{opens, shuts, words, strokes_of_attrs, strokes_of, Drew}
use Rattle.desk.proofs.Strokes.{drew_two, drew_item}
use Rattle.put_texts.specs.Broken.{segment, breaks_from}
use Rattle.desk.specs.declared.Desk.{Desk as Held}

-- ---- whole

module _ (s : Bytes) (n : Normalized) (d : Held) (out : Bytes) where
  pub unbroken_shows : n.shows ≡ true → (last-d : Held) {last : Bytes} → Drew d out (words (written s n) ∷ []) last-d last
      → (source : Bytes) → desk_of source last-d last ≡ emit_all (desk_of source d out) (unbroken s n)
  unfolding unbroken emit_all strokes_of written
  unbroken_shows h last-d e source = rw h (drew_item d last-d (text (written s n)) e source)

  pub unbroken_hidden : n.shows ≡ false → (source : Bytes) → desk_of source d out ≡ emit_all (desk_of source d out) (unbroken s n)
  unfolding unbroken emit_all
  unbroken_hidden h source = rw h

  -- a body that is written as it stands
  module _ {body : Bytes} (eb : body ≡ inner_of s) where
    pub easy_shows : n.shows ≡ true → easy body ≡ true → (last-d : Held) {last : Bytes}
        → ((t : Bytes) → escape false t ≡ edged (take (length body) body) n → Drew d out (words t ∷ []) last-d last)
        → (source : Bytes) → desk_of source last-d last ≡ emit_all (desk_of source d out) (unbroken s n)
    easy_shows h e last-d f source = unbroken_shows h last-d (f (written s n) (easy-written s (rw eb at e) n ∙ rw (← eb, take-length body))) source

    module _ {t : Bool} (et : t ≡ easy body) (h : t ≡ true) (last-d : Held) (last : Bytes)
        (f : (s : Bytes) → body ≡ inner_of s → easy body ≡ true → (source : Bytes) → desk_of source last-d last ≡ emit_all (desk_of source d out) (unbroken s n)) where
      pub unbroken-easy : (source : Bytes) → desk_of source last-d last ≡ emit_all (desk_of source d out) (unbroken s n)
      unbroken-easy source = f s eb (sym et ∙ h) source

      pub broken-easy : (source : Bytes) → desk_of source last-d last ≡ emit_all (desk_of source d out) (broken s n)
      unfolding broken
      broken-easy source = rw (easy_whole s (rw eb at (sym et ∙ h))) (unbroken-easy source)

  module _ {x : Bool} (ex : x ≡ has_break (body_of s)) (last-d : Held) (last : Bytes) where
    pub broken-split : x ≡ true → ((source : Bytes) → desk_of source last-d last ≡ emit_all (desk_of source d out) (segmented (segments s)))
        → (source : Bytes) → desk_of source last-d last ≡ emit_all (desk_of source d out) (broken s n)
    unfolding broken
    broken-split h e source = rw (sym ex ∙ h) (e source)

    pub broken_whole : x ≡ false → ((source : Bytes) → desk_of source last-d last ≡ emit_all (desk_of source d out) (unbroken s n))
        → (source : Bytes) → desk_of source last-d last ≡ emit_all (desk_of source d out) (broken s n)
    unfolding broken
    broken_whole h e source = rw (sym ex ∙ h) (e source)

-- by its frame
module _ (tail : Bytes) (front len : ℕ) (n : Normalized) (d : Held) (out : Bytes) where
  framed_whole : (size : ℕ) (ends : Bool) → Framed tail size (record { front = front; len = len; ends = ends }) → broken (take size tail) n ≡ unbroken (take size tail) n
  unfolding broken
  framed_whole size ends fr = rw fr.whole

  pub framed_shows : n.shows ≡ true → (last-d : Held) {last body : Bytes} → body ≡ drop front tail
      → ((t : Bytes) → escape false t ≡ edged (take len body) n → Drew d out (words t ∷ []) last-d last)
      → (size : ℕ) (ends : Bool) → Framed tail size (record { front = front; len = len; ends = ends }) → (source : Bytes) → desk_of source last-d last ≡ emit_all (desk_of source d out) (broken (take size tail) n)
  framed_shows h last-d eb e size ends fr source =
      unbroken_shows (take size tail) n d out h last-d (e (written (take size tail) n) (fr.stands n ∙ rw eb)) source ∙ ap (emit_all (desk_of source d out)) (sym (framed_whole size ends fr))

  pub framed_hidden : n.shows ≡ false → (size : ℕ) (ends : Bool) → Framed tail size (record { front = front; len = len; ends = ends }) → (source : Bytes) → desk_of source d out ≡ emit_all (desk_of source d out) (broken (take size tail) n)
  framed_hidden h size ends fr source = unbroken_hidden (take size tail) n d out h source ∙ ap (emit_all (desk_of source d out)) (sym (framed_whole size ends fr))

-- ---- segment by segment

pub segment_put : (s : Bytes) (d last-d : Held) {out last : Bytes} → Drew d out (words (trim Unicode (body_of s)) ∷ []) last-d last
    → (source : Bytes) → desk_of source last-d last ≡ emit (desk_of source d out) (item (text (segment s)))
unfolding segment strokes_of
segment_put s d last-d e = drew_item d last-d (text (trim Unicode (body_of s))) e

bodies : (s : Bytes) → segments s ≡ map segment (split_breaks s)
unfolding segment
bodies s = segments_bodies s

pub break_put : (d d₁ d₂ : Held) {out o₁ last : Bytes} → Drew d out (opens 15 ∷ []) d₁ o₁ → Drew d₁ o₁ (shuts ∷ []) d₂ last
    → (source : Bytes) → desk_of source d₂ last ≡ emit (desk_of source d out) (item (empty 15 []))
unfolding strokes_of strokes_of_attrs
break_put d d₁ d₂ e₁ e₂ = drew_item d d₂ (empty 15 []) (drew_two d d₁ d₂ e₁ e₂)

-- the pieces of a text by its first `//`
module _ (s : Bytes) {n : ℕ} (en : n ≡ find (47 ∷ 47 ∷ []) s) where
  pieces_from : (x : Bool) → ltb n (length s) ≡ x → split_breaks s ≡ take n s ∷ cond x (split_breaks (drop (n + 2) s)) []
  pieces_from true e = split-next s en (ltb-true n (length s) e)
  pieces_from false e =
      let past : length s ≤ n = ltb-false n (length s) e in
      split-last s en past ∙ ap (λ (z : Bytes). z ∷ []) (sym (take_all n s past))

  later : (x : Bool) → breaks (map segment (cond x (split_breaks (drop (n + 2) s)) [])) ≡ cond x (breaks (map segment (split_breaks (drop (n + 2) s)))) []
  unfolding breaks
  later true = refl
  later false = refl

  -- the first segment and those behind it
  first_rest : segmented (segments s) ≡ item (text (segment (take n s))) ∷ breaks_from s n
  unfolding segmented breaks_from
  first_rest =
      ap segmented (bodies s ∙ ap (map segment) (pieces_from (ltb n (length s)) refl))
      ∙ ap (λ (es : List Event). item (text (segment (take n s))) ∷ es) (later (ltb n (length s)))

  next-rest : breaks (map segment (split_breaks s)) ≡ item (empty 15 []) ∷ item (text (segment (take n s))) ∷ breaks_from s n
  unfolding breaks breaks_from
  next-rest =
      ap (λ (ps : List Bytes). breaks (map segment ps)) (pieces_from (ltb n (length s)) refl)
      ∙ ap (λ (es : List Event). item (empty 15 []) ∷ item (text (segment (take n s))) ∷ es) (later (ltb n (length s)))

-- behind a `//`: what follows it in the rest is what follows it in the text
shifted : (s : Bytes) (at n : ℕ) → at < length s → breaks_from (drop (at + 2) s) n ≡ breaks_from s (at + 2 + n)
unfolding breaks_from
shifted s at n h = go (ltb n (length (drop (at + 2) s))) refl
  where
    go : (x : Bool) → ltb n (length (drop (at + 2) s)) ≡ x
        → cond (ltb n (length (drop (at + 2) s))) (breaks (map segment (split_breaks (drop (n + 2) (drop (at + 2) s))))) []
        ≡ cond (ltb (at + 2 + n) (length s)) (breaks (map segment (split_breaks (drop (at + 2 + n + 2) s)))) []
    go true e =
        let lt : n < length (drop (at + 2) s) = ltb-true n (length (drop (at + 2) s)) e in
        let far : ltb (at + 2 + n) (length s) ≡ true = lt-ltb (at + 2 + n) (length s) (omega (arith, length-drop (at + 2) s)) in
        let sum : at + 2 + (n + 2) ≡ at + 2 + n + 2 = omega arith in
        rw (e, far, drop-drop (n + 2) (at + 2) s, sum)
    go false e =
        let le : length (drop (at + 2) s) ≤ n = ltb-false n (length (drop (at + 2) s)) e in
        let far : ltb (at + 2 + n) (length s) ≡ false = le-ltb (at + 2 + n) (length s) (omega (arith, length-drop (at + 2) s)) in
        rw (e, far)

pub split-sum : (s : Bytes) (at : ℕ) {rest : Bytes} {n : ℕ} → at < length s → rest ≡ drop (at + 2) s → n ≡ find (47 ∷ 47 ∷ []) rest → at + 2 + n ≤ length s + 1
split-sum s at {rest} {n} h er en = omega (arith, first-le (begins (47 ∷ 47 ∷ [])) rest, length-drop (at + 2) s, ap length er)

from_here : (s : Bytes) (at : ℕ) → at < length s → breaks_from s at ≡ breaks (map segment (split_breaks (drop (at + 2) s)))
unfolding breaks_from
from_here s at h = rw (lt-ltb at (length s) h)

-- a turn: the break, and the segment behind it
pub segments-turn : (s : Bytes) (place : ℕ) (d : Desk) → place < length s → {rest : Bytes} → rest ≡ drop (place + 2) s → {n : ℕ} → n ≡ find (47 ∷ 47 ∷ []) rest
    → {mid : Desk} → mid ≡ emit d (item (empty 15 [])) → {p : Bytes} → p ≡ take n rest → {last : Desk} → last ≡ emit mid (item (text (segment p)))
    → emit_all last (breaks_from s (place + 2 + n)) ≡ emit_all d (breaks_from s place)
unfolding emit_all
segments-turn s place d h {rest} er {n} en em {p} ep el =
    ap (λ (x : Desk). emit_all x (breaks_from s (place + 2 + n))) (el ∙ ap (λ (x : Desk). emit x (item (text (segment p)))) em ∙ ap (λ (q : Bytes). emit (emit d (item (empty 15 []))) (item (text (segment q)))) ep)
    ∙ ap (λ (es : List Event). emit_all (emit (emit d (item (empty 15 []))) (item (text (segment (take n rest))))) es) (sym (ap (λ (q : Bytes). breaks_from q n) er ∙ shifted s place n h))
    ∙ ap (emit_all d) (sym (from_here s place h ∙ ap (λ (q : Bytes). breaks (map segment (split_breaks q))) (sym er) ∙ next-rest rest en))

-- no break is left
pub segments_end : (s : Bytes) (first : ℕ) (d : Desk) → first ≡ find (47 ∷ 47 ∷ []) s → {p : Bytes} → p ≡ take first s → {begun : Desk} → begun ≡ emit d (item (text (segment p)))
    → (place : ℕ) {last : Desk} → emit_all last (breaks_from s place) ≡ emit_all begun (breaks_from s first) → length s ≤ place → last ≡ emit_all d (segmented (segments s))
unfolding emit_all breaks_from
segments_end s first d en ep e place inv h =
    rw (le-ltb place (length s) h) at inv
    ∙ ap (λ (x : Desk). emit_all x (breaks_from s first)) (e ∙ ap (λ (q : Bytes). emit d (item (text (segment q)))) ep)
    ∙ ap (emit_all d) (sym (first_rest s en))
