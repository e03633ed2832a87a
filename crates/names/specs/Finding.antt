-- What `find_names` says of a file: the first name that breaks the proviso, and where it stands.
use Rattle.std.specs.Prelude.{ℕ, ◌<◌, ◌≡◌, true, List, ◌∷◌, ◌++◌}
use Rattle.parts.specs.Bytes.{Bytes}
use Rattle.words.specs.Words.{bytes_of}
use Rattle.words.specs.declared.Part.{Part}
use Rattle.tape.specs.File.{Tape, tape_of, text_at_of}
use Rattle.tape.specs.Name.{name_start, marker_len}
use Rattle.admit.specs.Refusal.{Refusal}
use Rattle.render.specs.Label.{in_source, label_part}
use Rattle.render.specs.Note.{code_part}
use Rattle.attrs.specs.Walk.{Spot}
use Rattle.accepts.specs.Proviso.{has_special, What, code, label, marker, key, Name, names_of, AllFree, Proviso}
use Rattle.names.specs.declared.What.{What as Said}
use Rattle.names.specs.declared.What.TheVariants.{Code, Label, Marker, Key}
use Rattle.names.specs.declared.Found.{Found}
use Rattle.names.specs.declared.Found.TheVariants.{Refused, Kept, Broken}

-- ---- the first broken name

-- what a name is, as the code says it
unfoldable pub what_of : Said → What
what_of Code = code
what_of Label = label
what_of Marker = marker
what_of Key = key

-- the first broken name of a row: those before it are free
pub record FirstIn (ns : List Name) (n : Name) : Type 0 where
  pub before : List Name
  pub after : List Name
  pub here : ns ≡ before ++ n ∷ after
  pub free : AllFree before
  pub broken : has_special n.bytes ≡ true

-- the first broken name of a tape: the names of the nodes before its own are free, and those before it in its node's row
pub record FirstBroken (t : Tape) (k : ℕ) (n : Name) : Type 0 where
  pub earlier : (i : ℕ) → i < k → AllFree (names_of t i)
  pub first : FirstIn (names_of t k) n

-- ---- where it stands in the source

-- the marker name as a part of the source
unfoldable pub marker_part : Tape → ℕ → Part
marker_part t k = in_source t k (record { start = name_start (text_at_of t k); len = marker_len t k })

-- the place of a book code, a label and a marker name is that very part; the place of a key inside an attribute has no definition, so its bytes alone fix it
abbrev pub Placed : Tape → ℕ → What → Part → Type 0
Placed t k code p = p ≡ code_part t k
Placed t k label p = p ≡ label_part t k
Placed t k marker p = p ≡ marker_part t k
Placed t k key p = Unit {0}

-- a part of the source that is a name of a node
pub record StandsAt (t : Tape) (k : ℕ) (n : Name) (p : Part) : Type 0 where
  pub spot : Spot t.source p n.bytes
  pub place : Placed t k n.what p

-- ---- what is said

-- of a tape: every name is kept, or the first that is not
pub data FindsIn (t : Tape) : Found → Type 0 where
  kept : Proviso t → FindsIn t Kept
  broken : {k : ℕ} {w : Said} {p : Part} (n : Name) → FirstBroken t k n → what_of w ≡ n.what → StandsAt t k n p → FindsIn t (Broken k w p)

-- of a file: document 01's number of its refusal, or what is said of its tape
pub data Finds (file : Bytes) : Found → Type 0 where
  refused : {n : ℕ} → Refusal file n → 0 < n → Finds file (Refused n)
  admitted : {r : Found} → Refusal file 0 → FindsIn (tape_of file) r → Finds file r

-- ---- two results

-- two results that say the same of a tape: one case, number, node and kind, equal bytes; the place too unless it is a key
pub data Agree (t : Tape) : Found → Found → Type 0 where
  both_refused : {n : ℕ} → Agree t (Refused n) (Refused n)
  both_kept : Agree t Kept Kept
  both_broken : {k : ℕ} {w : Said} {p q : Part} → bytes_of t.source p ≡ bytes_of t.source q → p.len ≡ q.len → ((what_of w ≡ key → ⊥) → p ≡ q)
      → Agree t (Broken k w p) (Broken k w q)
