-- Request Ten: tidying twice changes nothing. Its laws hold for any bytes, and so for every UTF-8 text.
use mathlib.Core.Path.{◌≡◌, refl, sym, ap, ◌∙◌}
use mathlib.Core.List.{List, [], ◌∷◌, ◌++◌, append-nil}
use Rattle.parts.specs.Bytes.{Bytes}
use Rattle.words.specs.Words.{words, joined}
use Rattle.words.specs.declared.Set.TheVariants.{Ascii}
use Rattle.words.proofs.Joins.{words-spaced}
use Rattle.texts.specs.Text.{hard_spaces, body_of}
use Rattle.texts.proofs.Texts.{hard-append, hard_space}
use Rattle.texts.proofs.Bodies.{hard-twice, body-words, words_of_body, two-joined, no_word, no_body}

-- ---- the laws of document 02, request Ten

-- "Promise that tidying twice changes nothing. Editors paste text that was already tidied, and support keeps explaining spaces. Show two laws of the normalized body."

-- "The body of a body is that body."
pub body_of_body : (s : Bytes) → body_of (body_of s) ≡ body_of s
unfolding body_of
body_of_body s =
    ap (λ (ws : List Bytes). hard_spaces (joined ws)) (words_of_body s) ∙ sym (ap hard_spaces (body-words s)) ∙ hard-twice (joined (words Ascii s))

-- "The body of two texts joined by one space
pub record BodyOfTwo (s t : Bytes) : Type 0 where
  -- is their bodies joined by one space when neither body is empty;
  pub neither_empty : (body_of s ≡ [] → ⊥) → (body_of t ≡ [] → ⊥) → body_of (s ++ 32 ∷ t) ≡ body_of s ++ 32 ∷ body_of t
  -- if one body is empty, it is the other body."
  pub first-empty : body_of s ≡ [] → body_of (s ++ 32 ∷ t) ≡ body_of t
  pub second_empty : body_of t ≡ [] → body_of (s ++ 32 ∷ t) ≡ body_of s

-- "Both hold for every UTF-8 text, with `~` included."
pub body_of_two : (s t : Bytes) → BodyOfTwo s t
unfolding body_of
body_of_two s t = record {
  neither_empty = λ h k. rw (words-spaced Ascii s t) (go h k (words Ascii s) refl (words Ascii t) refl);
  first-empty = λ e. rw (words-spaced Ascii s t, no_body s e);
  second_empty = λ e. rw (words-spaced Ascii s t, no_body t e, append-nil (words Ascii s));
}
  where
    go : (body_of s ≡ [] → ⊥) → (body_of t ≡ [] → ⊥) → (vs : List Bytes) → words Ascii s ≡ vs → (ws : List Bytes) → words Ascii t ≡ ws
        → hard_spaces (joined (vs ++ ws)) ≡ hard_spaces (joined vs) ++ 32 ∷ hard_spaces (joined ws)
    go h k [] e ws f = absurd (h (no_word s e))
    go h k (v ∷ vs) e [] f = absurd (k (no_word t f))
    go h k (v ∷ vs) e (w ∷ ws) f = rw (two-joined v w vs ws) (hard-append (joined (v ∷ vs)) (32 ∷ joined (w ∷ ws)) ∙ rw (hard_space (joined (w ∷ ws))))
