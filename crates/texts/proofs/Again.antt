-- Request Ten with the edge spaces that are written: they are nothing to the body, and a text that was written is written so again.
use mathlib.Core.Path.{◌≡◌, refl, ap, ◌∙◌}
use mathlib.Core.Bool.{Bool, true, false, ◌&&◌}
use mathlib.Core.List.{[], ◌∷◌, ◌++◌, append-nil}
use Prim.Native.Nat.{◌<◌}
use native.Mathlib.Omega.{arith}
use lib.ListN.{length, length-append}
use lib.Dec.{ltb}
use Rattle.parts.specs.Bytes.{Bytes}
use Rattle.parts.proofs.Laws.{and-true as both_hold}
use Rattle.chars.specs.Range.{in_any, within}
use Rattle.chars.specs.Space.{is_ascii_white}
use Rattle.words.specs.Words.{is_blank_of as blank}
use Rattle.words.specs.declared.Set.TheVariants.{Ascii}
use Rattle.words.proofs.Places.{words-nil}
use Rattle.texts.specs.declared.Normalized.{Normalized}
use Rattle.texts.specs.Text.{body_of, starts_white, ends_white, blank_lead, normalize_text, space_if, written}
use Rattle.texts.proofs.Texts.{body_blank, body-some}
use Rattle.texts.proofs.Edges.{blank_nil, blank_space}
use Rattle.texts.proofs.Bodies.{body_shows, no_word, ends-behind, body_edges}
use Rattle.texts.proofs.Tidy.{body_of_body, body_of_two}

-- the edge spaces of a written text are nothing to its body
pub body_of_written : (s : Bytes) (n : Normalized) → body_of (written s n) ≡ body_of s
unfolding written space_if
body_of_written s n = lead n.lead ∙ trail n.trail ∙ body_of_body s
  where
    nothing : body_of [] ≡ []
    nothing = no_word [] (words-nil Ascii)

    lead : (y : Bool) → body_of (space_if y ++ (body_of s ++ space_if n.trail)) ≡ body_of (body_of s ++ space_if n.trail)
    lead true = (body_of_two [] (body_of s ++ space_if n.trail)).first-empty nothing
    lead false = refl

    trail : (y : Bool) → body_of (body_of s ++ space_if y) ≡ body_of (body_of s)
    trail true = (body_of_two (body_of s) []).second_empty nothing
    trail false = ap body_of (append-nil (body_of s))

-- an edge that has its space keeps it, and no other gets one
lead_kept : {kept : Bool} (y : Bool) (u : Bytes) → starts_white u ≡ false → (y ≡ true → kept ≡ true) → starts_white (space_if y ++ u) && kept ≡ y
unfolding space_if starts_white is_ascii_white in_any within
lead_kept true u e h = h refl
lead_kept false u e h = rw e

trail_kept : {kept : Bool} (y : Bool) (u : Bytes) → ends_white u ≡ false → (y ≡ true → kept ≡ true) → ends_white (u ++ space_if y) && kept ≡ y
unfolding space_if ends_white is_ascii_white in_any within
trail_kept true u e h = rw (ends-behind u (32 ∷ []) (omega arith)) (h refl)
trail_kept false u e h = rw (append-nil u, e)

module _ (before behind : Bool) where
  -- a text as it is written between neighbours that keep a space, or not
  unfoldable tidied : Bytes → Bytes
  tidied s = written s (normalize_text s before behind)

  tidied_blank : (s : Bytes) → blank Ascii s ≡ true → tidied s ≡ space_if (blank_lead s before behind)
  unfolding tidied written normalize_text space_if
  tidied_blank s e = rw (e, body_blank s e) (append-nil (space_if (blank_lead s before behind)))

  tidied-shown : (s : Bytes) → blank Ascii s ≡ false → tidied s ≡ space_if (starts_white s && before) ++ (body_of s ++ space_if (ends_white s && behind))
  unfolding tidied written normalize_text
  tidied-shown s e = rw e

  space_again : (s : Bytes) → tidied (space_if (blank_lead s before behind)) ≡ space_if (blank_lead s before behind)
  unfolding blank_lead space_if
  space_again s = go (ltb 0 (length s) && (before && behind)) refl
    where
      go : (y : Bool) → ltb 0 (length s) && (before && behind) ≡ y → tidied (space_if y) ≡ space_if y
      go true e = tidied_blank (32 ∷ []) blank_space ∙ rw (both_hold (ltb 0 (length s)) (before && behind) e).1
      go false e = tidied_blank [] blank_nil

  shown_again : (s : Bytes) → blank Ascii s ≡ false → tidied (tidied s) ≡ tidied s
  unfolding written
  shown_again s h =
      let l : Bool = starts_white s && before in
      let r : Bool = ends_white s && behind in
      let t : Bytes = body_of s ++ space_if r in
      let long : 0 < length t = omega (arith, body-some s h, length-append (body_of s) (space_if r)) in
      let same : body_of (space_if l ++ t) ≡ body_of s = body_of_written s (record { lead = l; trail = r; shows = true }) in
      let shows : blank Ascii (space_if l ++ t) ≡ false = body_shows (space_if l ++ t) (rw same (body-some s h)) in
      let front : starts_white (space_if l ++ t) && before ≡ l = lead_kept l t ((body_edges s h).0 (space_if r)) (λ e. (both_hold (starts_white s) before e).1) in
      let end : ends_white (space_if l ++ t) && behind ≡ r = rw (ends-behind (space_if l) t long) (trail_kept r (body_of s) (body_edges s h).1 (λ e. (both_hold (ends_white s) behind e).1)) in
      rw (tidied-shown s h) (tidied-shown (space_if l ++ t) shows ∙ rw (front, end, same))

-- a text that was written is written so again, where the same edges are kept
pub written_twice : (s : Bytes) (before behind : Bool)
    → let t = written s (normalize_text s before behind) in written t (normalize_text t before behind) ≡ t
unfolding tidied
written_twice s before behind = go (blank Ascii s) refl
  where
    go : (y : Bool) → blank Ascii s ≡ y → tidied before behind (tidied before behind s) ≡ tidied before behind s
    go true e = rw (tidied_blank before behind s e) (space_again before behind s)
    go false e = shown_again before behind s e
