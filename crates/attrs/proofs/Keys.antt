-- Laws of keys: each test of the code leads to the key that the definition gives.
use mathlib.Core.Path.{◌≡◌, sym, ap, ◌∙◌}
use mathlib.Core.Bool.{Bool, true, false}
use denote.Ref.{Bor}
use Rattle.parts.specs.Bytes.{Bytes, b, part, same, begins}
use Rattle.parts.specs.Place.{VeryPart}
use Rattle.words.specs.declared.Part.{Part}
use Rattle.attrs.specs.Attr.{is_word_marker, default_key}
use Rattle.attrs.specs.Walk.{fixed_keys, key_of, KeyPart}
use Rattle.attrs.specs.declared.Key.{Key}
use Rattle.attrs.specs.declared.Key.TheVariants.{Own, Fixed}

-- ---- default keys

module _ (m : Bytes) {w : Bool} (ew : w ≡ is_word_marker m) where
  pub key_lemma : w ≡ true → b "lemma" ≡ default_key m
  unfolding default_key
  key_lemma h = rw (sym ew ∙ h)

  module _ (nw : w ≡ false) {r : Bool} (er : r ≡ same m (b "rb")) where
    pub key_gloss : r ≡ true → b "gloss" ≡ default_key m
    unfolding default_key
    key_gloss h = rw (sym ew ∙ nw, sym er ∙ h)

    module _ (nr : r ≡ false) {x : Bool} (ex : x ≡ same m (b "xt")) where
      pub key_href : x ≡ true → b "href" ≡ default_key m
      unfolding default_key
      key_href h = rw (sym ew ∙ nw, sym er ∙ nr, sym ex ∙ h)

      module _ (nx : x ≡ false) {f : Bool} (ef : f ≡ same m (b "ref")) where
        pub key_loc : f ≡ true → b "loc" ≡ default_key m
        unfolding default_key
        key_loc h = rw (sym ew ∙ nw, sym er ∙ nr, sym ex ∙ nx, sym ef ∙ h)

        module _ (nf : f ≡ false) {j : Bool} (ej : j ≡ same m (b "jmp")) where
          pub key_link : j ≡ true → b "link-href" ≡ default_key m
          unfolding default_key
          key_link h = rw (sym ew ∙ nw, sym er ∙ nr, sym ex ∙ nx, sym ef ∙ nf, sym ej ∙ h)

          module _ (nj : j ≡ false) {p : Bool} (ep : p ≡ same m (b "periph")) where
            pub key_id : p ≡ true → b "id" ≡ default_key m
            unfolding default_key
            key_id h = rw (sym ew ∙ nw, sym er ∙ nr, sym ex ∙ nx, sym ef ∙ nf, sym ej ∙ nj, sym ep ∙ h)

            module _ (np : p ≡ false) {q : Bool} (eq : q ≡ begins (b "qt") m) where
              pub key_who : q ≡ true → b "who" ≡ default_key m
              unfolding default_key
              key_who h = rw (sym ew ∙ nw, sym er ∙ nr, sym ex ∙ nx, sym ef ∙ nf, sym ej ∙ nj, sym ep ∙ np, sym eq ∙ h)

              pub key_default : q ≡ false → b "default" ≡ default_key m
              unfolding default_key
              key_default h = rw (sym ew ∙ nw, sym er ∙ nr, sym ex ∙ nx, sym ef ∙ nf, sym ej ∙ nj, sym ep ∙ np, sym eq ∙ h)

-- ---- a key as bytes

module _ (source fixed : Bytes) (p : Part) {k : Key} {r : Bytes} where
  pub key_own : k ≡ Own p → r ≡ part source p.start p.len → r ≡ key_of source fixed k
  unfolding key_of
  key_own ek er = rw ek er

  pub key_fixed : k ≡ Fixed p → r ≡ part fixed p.start p.len → r ≡ key_of source fixed k
  unfolding key_of
  key_fixed ek er = rw ek er

module _ (source fixed : Bor Bytes) (p : Part) {k : Key} {r : Bor Bytes} where
  pub own_at : k ≡ Own p → VeryPart source r p.start p.len → KeyPart source fixed k r
  unfolding KeyPart
  own_at ek v = rw ek v

  pub fixed_at : k ≡ Fixed p → VeryPart fixed r p.start p.len → KeyPart source fixed k r
  unfolding KeyPart
  fixed_at ek v = rw ek v

-- ---- a key that is sought

pub key_is : (source key : Bytes) (k : Key) {x : Bytes} {h : Bool} → x ≡ key_of source fixed_keys k → h ≡ same x key → h ≡ same (key_of source fixed_keys k) key
key_is source key k ex eh = eh ∙ ap (λ (z : Bytes). same z key) ex
