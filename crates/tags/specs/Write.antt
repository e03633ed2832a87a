-- Tokens as they are written, and which of them may be: the tag form from the other side.
use Rattle.std.specs.Prelude.{◌≡◌, ℕ, ◌<◌, List, [], ◌∷◌, ◌++◌, length}
use Rattle.parts.specs.Bytes.{Bytes, b}
use Rattle.tags.specs.Names.{name_of, IsName}
use Rattle.tags.specs.Form.{ok, run, Pair, Token, text, opens, closes, empty, opening, closing}
use Rattle.tags.specs.declared.Class.{Class}
use Rattle.tags.specs.declared.Class.TheVariants.{Text, Value, Key}

-- ` key="value"` in front of a text
unfoldable pub write_pair : Pair → Bytes → Bytes
write_pair a r = b " " ++ (a.key ++ (b "=\"" ++ (a.value ++ (b "\"" ++ r))))

-- attributes in a row in front of a text
unfoldable pub write_pairs : List Pair → Bytes → Bytes
write_pairs [] r = r
write_pairs (a ∷ ps) r = write_pair a (write_pairs ps r)

-- a token in front of a text
unfoldable pub write : Token → Bytes → Bytes
write (text t) r = t ++ r
write (opens n ps) r = b "<" ++ (name_of n ++ write_pairs ps (b ">" ++ r))
write (closes n) r = b "</" ++ (name_of n ++ (b ">" ++ r))
write (empty n ps) r = b "<" ++ (name_of n ++ write_pairs ps (b " />" ++ r))

-- tokens one behind the other
unfoldable pub write_all : List Token → Bytes
write_all [] = []
write_all (t ∷ ts) = write t (write_all ts)

-- ---- what may be written

-- every byte may stand, where `&` opens an escape within the run
abbrev pub Clean : Class → Bytes → Type 0
Clean c s = run (ok c) s ≡ length s

-- "a key is one or more bytes", and key and value are clean
pub record CleanPair (a : Pair) : Type 0 where
  pub some : 0 < length a.key
  pub key : Clean Key a.key
  pub value : Clean Value a.value

-- each of a row is clean
pub data CleanPairs : List Pair → Type 0 where
  none : CleanPairs []
  more : {a : Pair} {ps : List Pair} → CleanPair a → CleanPairs ps → CleanPairs (a ∷ ps)

-- no text at the front
abbrev pub Tagged : List Token → Type 0
Tagged [] = Unit {0}
Tagged (text t ∷ ts) = ⊥
Tagged (opens n ps ∷ ts) = Unit {0}
Tagged (closes n ∷ ts) = Unit {0}
Tagged (empty n ps ∷ ts) = Unit {0}

-- sixteen names, clean keys and values, texts that are clean, not empty and not neighbours
pub data Legal : List Token → Type 0 where
  nil : Legal []
  a_text : {t : Bytes} {ts : List Token} → 0 < length t → Clean Text t → Tagged ts → Legal ts → Legal (text t ∷ ts)
  an_open : {n : ℕ} {ps : List Pair} {ts : List Token} → IsName n → CleanPairs ps → Legal ts → Legal (opens n ps ∷ ts)
  a_close : {n : ℕ} {ts : List Token} → IsName n → Legal ts → Legal (closes n ∷ ts)
  an_empty : {n : ℕ} {ps : List Pair} {ts : List Token} → IsName n → CleanPairs ps → Legal ts → Legal (empty n ps ∷ ts)

-- the text is these tokens as they are written, opens with the opening and closes with the closing
pub record TagForm (s : Bytes) (ts : List Token) : Type 0 where
  pub legal : Legal ts
  pub written : write_all ts ≡ s
  pub opened : (r : Bytes) × (s ≡ opening ++ r)
  pub closed : (r : Bytes) × (s ≡ r ++ closing)
