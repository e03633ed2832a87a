-- Alternate and published numbers behind a chapter or verse, by `fold_alt_pub`.
use Rattle.std.specs.Prelude.{ℕ, List, [], ◌∷◌, ◌++◌, Bool, true, false, cond, ◌&&◌, eqb, None, Some}
use Rattle.std.proofs.Math.Option.{Option, none, some}
use Rattle.parts.specs.Bytes.{Bytes, b, same}
use Rattle.words.specs.Words.{words, joined}
use Rattle.words.specs.declared.Set.TheVariants.{Ascii}
use Rattle.tape.specs.File.{Tape, kind_at, text_at_of}
use Rattle.tape.specs.Name.{marker_name}
use Rattle.tape.specs.Tree.{children}
use Rattle.tape.specs.Found.{Step}
use Rattle.render.specs.Shape.{is_open, is_blank_text}
use Rattle.render.specs.Children.{is_plain_text_of}
use Rattle.fold.specs.declared.Claim.{Claim}
use Rattle.fold.specs.declared.Claim.TheVariants.{Blank, Alt, Pub, Stops}
use Rattle.tape.specs.Kind as kinds

-- what a marker claims by its name: the alternate number, the published one, or neither
unfoldable pub slot_by : Bytes → Bytes → Bytes → Claim
slot_by name alt published = cond (same name alt) Alt (cond (same name published) Pub Stops)

-- `alt_pub_kind`: `ca` and `cp` belong to a Chapter, `va` and `vp` to a Verse
unfoldable pub slot_of : ℕ → Bytes → Claim
slot_of anchor name =
    cond (eqb anchor kinds.chapter) (slot_by name (b "ca") (b "cp")) (cond (eqb anchor kinds.verse) (slot_by name (b "va") (b "vp")) Stops)

-- "one alternate, one published number per anchor": a repeat stops the fold
unfoldable pub free : Bool → Bool → Claim → Claim
free gotAlt gotPub Alt = cond gotAlt Stops Alt
free gotAlt gotPub Pub = cond gotPub Stops Pub
free gotAlt gotPub Blank = Stops
free gotAlt gotPub Stops = Stops

-- what a node behind an anchor is to the fold, with the numbers that the anchor has already
unfoldable pub claim_of : Tape → ℕ → Bool → Bool → ℕ → Claim
claim_of t anchor gotAlt gotPub k =
    cond (is_blank_text t k) Blank
    (cond (is_open t k && is_plain_text_of t k) (free gotAlt gotPub (slot_of anchor (marker_name t k))) Stops)

-- the text that a node adds to a number: a Text its own, others none
unfoldable pub own_text : Tape → ℕ → Bytes
own_text t k = cond (eqb (kind_at t k) kinds.text) (text_at_of t k) []

-- the Text nodes of a list, one text
unfoldable pub texts_of : Tape → List ℕ → Bytes
texts_of t [] = []
texts_of t (k ∷ ks) = own_text t k ++ texts_of t ks

-- `marker_inner_text`: a marker's direct texts, ASCII white space collapsed
unfoldable pub number_in : Tape → ℕ → Bytes
number_in t k = joined (words Ascii (texts_of t (children t k)))

-- both numbers, and where the list goes on
pub record Folded : Type 0 where
  pub alt : Option Bytes
  pub published : Option Bytes
  pub rest : List ℕ

-- whether a number is taken
unfoldable pub is_some : Option Bytes → Bool
is_some none = false
is_some (some s) = true

-- the numbers and what is left behind them, from the numbers so far
unfoldable pub fold_from : Tape → ℕ → Option Bytes → Option Bytes → List ℕ → Folded
fold_from t anchor alt published [] = record { alt = alt; published = published; rest = [] }
fold_from t anchor alt published (k ∷ ks) =
    elim (claim_of t anchor (is_some alt) (is_some published) k) as (λ _. Folded) [
      | Blank ↦ fold_from t anchor alt published ks
      | Alt ↦ fold_from t anchor (some (number_in t k)) published ks
      | Pub ↦ fold_from t anchor alt (some (number_in t k)) ks
      | Stops ↦ record { alt = alt; published = published; rest = k ∷ ks }
    ]

-- the fold over the list behind an anchor of a kind
unfoldable pub fold_at : Tape → ℕ → List ℕ → Folded
fold_at t anchor ks = fold_from t anchor none none ks

-- the number of the marker that a step leads to
unfoldable pub folded_number : Tape → Step → Option Bytes
folded_number t None = none
folded_number t (Some c) = some (number_in t c.at)
