-- Laws of the fold of alternate and published numbers.
use mathlib.Core.Path.{◌≡◌, refl, sym, ap, ◌∙◌}
use mathlib.Core.Bool.{Bool, true, false, cond}
use mathlib.Core.List.{List, [], ◌∷◌}
use mathlib.Core.Option.{Option, some}
use Prim.Native.Nat.{ℕ}
use borrow.Author.Tests.{eq-eqb, ne_eqb}
use Rattle.parts.specs.Bytes.{Bytes, b, same}
use Rattle.tape.specs.File.{Tape, kind_at}
use Rattle.tape.specs.Name.{marker_name}
use Rattle.tape.specs.declared.kinds.Kind.{Kind}
use Rattle.render.specs.Shape.{is_blank_text}
use Rattle.render.specs.Children.{is_plain_text_of}
use Rattle.fold.specs.Fold.{slot_by, slot_of, free, claim_of, number_in, is_some, fold_from}
use Rattle.fold.specs.declared.Claim.{Claim}
use Rattle.fold.specs.declared.Claim.TheVariants.{Blank, Alt, Pub, Stops}

-- ---- slots

module _ (name alt published : Bytes) {a : Bool} (ea : a ≡ same name alt) where
  pub slot_alt : a ≡ true → Alt ≡ slot_by name alt published
  unfolding slot_by
  slot_alt h = rw (sym ea ∙ h)

  module _ (na : a ≡ false) {p : Bool} (ep : p ≡ same name published) where
    pub slot_pub : p ≡ true → Pub ≡ slot_by name alt published
    unfolding slot_by
    slot_pub h = rw (sym ea ∙ na, sym ep ∙ h)

    pub slot_none : p ≡ false → Stops ≡ slot_by name alt published
    unfolding slot_by
    slot_none h = rw (sym ea ∙ na, sym ep ∙ h)

module _ (anchor : ℕ) (name : Bytes) where
  pub slot_chapter : anchor ≡ 6 → {r : Claim} → r ≡ slot_by name (b "ca") (b "cp") → r ≡ slot_of anchor name
  unfolding slot_of
  slot_chapter h e = rw h e

  pub slot_verse : anchor ≡ 7 → {r : Claim} → r ≡ slot_by name (b "va") (b "vp") → r ≡ slot_of anchor name
  unfolding slot_of
  slot_verse h e = rw h e

  pub slot_wrong : (anchor ≡ 6 → ⊥) → (anchor ≡ 7 → ⊥) → Stops ≡ slot_of anchor name
  unfolding slot_of
  slot_wrong n h = rw (ne_eqb anchor 6 n, ne_eqb anchor 7 h)

-- ---- what a node is to the fold

module _ (t : Tape) (anchor : ℕ) (gotAlt gotPub : Bool) (k : ℕ) {x : Bool} (ex : x ≡ is_blank_text t k) where
  pub claim_blank : x ≡ true → Blank ≡ claim_of t anchor gotAlt gotPub k
  unfolding claim_of
  claim_blank h = rw (sym ex ∙ h)

  module _ (nx : x ≡ false) {z : Kind} (ez : z.code ≡ kind_at t k) where
    pub claim_other : (z.code ≡ 3 → ⊥) → Stops ≡ claim_of t anchor gotAlt gotPub k
    unfolding claim_of
    claim_other h = rw (sym ex ∙ nx, ne_eqb (kind_at t k) 3 (λ e. h (ez ∙ e)))

    module _ (hz : z.code ≡ 3) {name : Bytes} {s f : Claim} (en : name ≡ marker_name t k) (es : s ≡ slot_of anchor name) (ef : f ≡ free gotAlt gotPub s) where
      freed : f ≡ free gotAlt gotPub (slot_of anchor (marker_name t k))
      freed = ef ∙ ap (free gotAlt gotPub) (es ∙ ap (slot_of anchor) en)

      pub claim_taken : f ≡ Stops → Stops ≡ claim_of t anchor gotAlt gotPub k
      unfolding claim_of
      claim_taken h = rw (sym ex ∙ nx, eq-eqb (kind_at t k) 3 (sym ez ∙ hz), sym freed ∙ h) (either (is_plain_text_of t k))
        where
          either : (p : Bool) → Stops ≡ cond p Stops Stops
          either true = refl
          either false = refl

      module _ {p : Bool} (ep : p ≡ is_plain_text_of t k) where
        pub claim_plain : p ≡ true → f ≡ claim_of t anchor gotAlt gotPub k
        unfolding claim_of
        claim_plain h = rw (sym ex ∙ nx, eq-eqb (kind_at t k) 3 (sym ez ∙ hz), sym ep ∙ h) freed

        pub claim_marked : p ≡ false → Stops ≡ claim_of t anchor gotAlt gotPub k
        unfolding claim_of
        claim_marked h = rw (sym ex ∙ nx, eq-eqb (kind_at t k) 3 (sym ez ∙ hz), sym ep ∙ h)

-- ---- one step of the fold over any list

module _ (t : Tape) (anchor : ℕ) (alt published : Option Bytes) (k : ℕ) (ks : List ℕ) {c : Claim} (ec : c ≡ claim_of t anchor (is_some alt) (is_some published) k) where
  pub fold_blank : c ≡ Blank → fold_from t anchor alt published (k ∷ ks) ≡ fold_from t anchor alt published ks
  unfolding fold_from
  fold_blank e = rw (sym ec ∙ e, fold_from)

  pub fold_alt : c ≡ Alt → fold_from t anchor alt published (k ∷ ks) ≡ fold_from t anchor (some (number_in t k)) published ks
  unfolding fold_from
  fold_alt e = rw (sym ec ∙ e, fold_from)

  pub fold_pub : c ≡ Pub → fold_from t anchor alt published (k ∷ ks) ≡ fold_from t anchor alt (some (number_in t k)) ks
  unfolding fold_from
  fold_pub e = rw (sym ec ∙ e, fold_from)

  pub fold_stops : c ≡ Stops → fold_from t anchor alt published (k ∷ ks) ≡ record { alt = alt; published = published; rest = k ∷ ks }
  unfolding fold_from
  fold_stops e = rw (sym ec ∙ e, fold_from)

pub fold_nil : (t : Tape) (anchor : ℕ) (alt published : Option Bytes) → fold_from t anchor alt published [] ≡ record { alt = alt; published = published; rest = [] }
unfolding fold_from
fold_nil t anchor alt published = refl
