-- What admit answers, from what each rule's function said.
use mathlib.Core.Path.{◌≡◌, sym, ◌∙◌}
use mathlib.Core.Bool.{Bool, true, false}
use mathlib.Core.Logic.{◌↔◌}
use Rattle.parts.specs.Bytes.{Bytes}
use Rattle.chars.specs.Utf8.{is_utf8}
use Rattle.tape.specs.File.{tape_in, sections_of, tape_of}
use Rattle.tape.specs.declared.Sections.{Sections}
use Rattle.nest.specs.Nest.{TooDeep, Sound}
use Rattle.nest.proofs.Tape.{clash}
use Rattle.admit.specs.Rules.{LaidOut, Small, GoodNames, GoodNodes}
use Rattle.admit.specs.Refusal.{Kept₁, Kept₂, Kept₃, Kept₄, Kept₅, Refusal, none, first, second, third, fourth, fifth, sixth, seventh, reason_number, refusal_number}
use Rattle.admit.specs.declared.reason.Reason.TheVariants.{Layout, Limits, Source, Names, Nodes, Depth, Nesting}
use Rattle.tape.specs.declared.TapeFile.{TapeFile}
use Rattle.std.specs.Prelude.{Ok, Err}

module _ (file : Bytes) {b₁ : Bool} (a₁ : (b₁ ≡ true) ↔ LaidOut file) where
  pub gives_1 : b₁ ≡ false → Refusal file (refusal_number (Err Layout))
  unfolding refusal_number reason_number
  gives_1 h = first (λ l. clash (a₁.1 l) h)

  module _ {b₂ : Bool} (h₁ : b₁ ≡ true) (a₂ : (b₂ ≡ true) ↔ Small file) where
    kept₁ : Kept₁ file
    kept₁ = record { laid = a₁.0 h₁ }

    pub gives_2 : b₂ ≡ false → Refusal file (refusal_number (Err Limits))
    unfolding refusal_number reason_number
    gives_2 h = second kept₁ (λ l. clash (a₂.1 l) h)

    module _ {t : Sections} {s : Bytes} {b₃ : Bool} (h₂ : b₂ ≡ true) (et : t ≡ sections_of file) (es : s ≡ (tape_in t file).source) (e₃ : b₃ ≡ is_utf8 s) where
      kept₂ : Kept₂ file
      kept₂ = record { kept = kept₁; small = a₂.0 h₂ }

      tape_is : tape_in t file ≡ tape_of file
      unfolding tape_of
      tape_is = rw et

      utf8_is : b₃ ≡ is_utf8 (tape_of file).source
      utf8_is = e₃ ∙ rw (es, tape_is)

      pub gives_3 : b₃ ≡ false → Refusal file (refusal_number (Err Source))
      unfolding refusal_number reason_number
      gives_3 h = third kept₂ (λ u. clash (utf8_is ∙ u) h)

      module _ {b₄ : Bool} (h₃ : b₃ ≡ true) (a₄ : (b₄ ≡ true) ↔ GoodNames (tape_in t file)) where
        kept₃ : Kept₃ file
        kept₃ = record { kept = kept₂; utf8 = sym utf8_is ∙ h₃ }

        pub gives_4 : b₄ ≡ false → Refusal file (refusal_number (Err Names))
        unfolding refusal_number reason_number
        gives_4 h = fourth kept₃ (λ l. clash ((rw tape_is at a₄).1 l) h)

        module _ {b₅ : Bool} (h₄ : b₄ ≡ true) (a₅ : (b₅ ≡ true) ↔ GoodNodes (tape_in t file)) where
          kept₄ : Kept₄ file
          kept₄ = record { kept = kept₃; names = (rw tape_is at a₄).0 h₄ }

          pub gives_5 : b₅ ≡ false → Refusal file (refusal_number (Err Nodes))
          unfolding refusal_number reason_number
          gives_5 h = fifth kept₄ (λ l. clash ((rw tape_is at a₅).1 l) h)

          module _ {b₇ : Bool} (h₅ : b₅ ≡ true) (a₇ : (b₇ ≡ true) ↔ Sound (tape_in t file).nodes) where
            kept₅ : Kept₅ file
            kept₅ = record { kept = kept₄; nodes = (rw tape_is at a₅).0 h₅ }

            sound_is : (b₇ ≡ true) ↔ Sound (tape_of file).nodes
            sound_is = rw tape_is at a₇

            pub gives_0 : (x : TapeFile) → b₇ ≡ true → Refusal file (refusal_number (Ok x))
            unfolding refusal_number reason_number
            gives_0 x h =
                let s = sound_is.0 h in
                none (record { kept = record { kept = kept₅; shallow = s.shallow }; nested = s.nested })

            module _ {b₆ : Bool} (h₇ : b₇ ≡ false) (a₆ : (b₆ ≡ true) ↔ TooDeep (tape_in t file).nodes) where
              deep_is : (b₆ ≡ true) ↔ TooDeep (tape_of file).nodes
              deep_is = rw tape_is at a₆

              pub gives_6 : b₆ ≡ true → Refusal file (refusal_number (Err Depth))
              unfolding refusal_number reason_number
              gives_6 h = sixth kept₅ (deep_is.0 h)

              pub gives_7 : b₆ ≡ false → Refusal file (refusal_number (Err Nesting))
              unfolding refusal_number reason_number
              gives_7 h =
                  let s : TooDeep (tape_of file).nodes → ⊥ = λ d. clash (deep_is.1 d) h in
                  seventh (record { kept = kept₅; shallow = s }) (λ n. clash (sound_is.1 (record { shallow = s; nested = n })) h₇)
