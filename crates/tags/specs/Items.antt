-- Items: what a renderer writes, their bytes, and the tokens that they are.
use Rattle.std.specs.Prelude.{◌≡◌, Bool, true, false, cond, List, [], ◌∷◌, ◌++◌, ℕ, ◌*◌, ◌<◌, length, replicate}
use Rattle.parts.specs.Bytes.{Bytes, b}
use Rattle.chars.specs.Escape.{escape}
use Rattle.tags.specs.Names.{name_of, IsName}
use Rattle.tags.specs.Form.{Pair, Token, text as text_token, opens, closes, empty as empty_token}
use Rattle.tags.specs.Write.{Clean}
use Rattle.tags.specs.declared.Class.TheVariants.{Value, Key}
use Rattle.tags.specs.Element as el

-- a key, its value, and whether the value is written as it is or escaped
pub record Attr : Type 0 where
  pub key : Bytes
  pub value : Bytes
  pub raw : Bool

-- elements by number; a line is a new line and the indent of a depth
pub data Item : Type 0 where
  start empty : ℕ → List Attr → Item
  close : ℕ → Item
  text : Bytes → Item
  line : ℕ → Item

-- ---- bytes

-- a value as it is written
unfoldable pub value_of : Attr → Bytes
value_of a = cond a.raw a.value (escape true a.value)

-- ` key="value"`
unfoldable pub attr_bytes : Attr → Bytes
attr_bytes a = b " " ++ (a.key ++ (b "=\"" ++ (value_of a ++ b "\"")))

-- attributes in a row
unfoldable pub attrs_bytes : List Attr → Bytes
attrs_bytes [] = []
attrs_bytes (a ∷ qs) = attr_bytes a ++ attrs_bytes qs

-- "blocks start on a new line, two spaces a level"
unfoldable pub new_line : ℕ → Bytes
new_line d = 10 ∷ replicate (2 * d) 32

-- an item as it is written
unfoldable pub bytes_of : Item → Bytes
bytes_of (start n qs) = b "<" ++ (name_of n ++ (attrs_bytes qs ++ b ">"))
bytes_of (empty n qs) = b "<" ++ (name_of n ++ (attrs_bytes qs ++ b " />"))
bytes_of (close n) = b "</" ++ (name_of n ++ b ">")
bytes_of (text t) = escape false t
bytes_of (line d) = new_line d

-- items as they are written, one behind the other
unfoldable pub render : List Item → Bytes
render [] = []
render (i ∷ is) = bytes_of i ++ render is

-- ---- tokens

-- a text in front of tokens: none where it is empty, one with a text that follows
unfoldable pub join : Bytes → List Token → List Token
join [] ts = ts
join (x ∷ s) [] = text_token (x ∷ s) ∷ []
join (x ∷ s) (text_token t ∷ ts) = text_token (x ∷ (s ++ t)) ∷ ts
join (x ∷ s) (opens n ps ∷ ts) = text_token (x ∷ s) ∷ opens n ps ∷ ts
join (x ∷ s) (closes n ∷ ts) = text_token (x ∷ s) ∷ closes n ∷ ts
join (x ∷ s) (empty_token n ps ∷ ts) = text_token (x ∷ s) ∷ empty_token n ps ∷ ts

-- attributes as they stand in the text
unfoldable pub pairs_of_of : List Attr → List Pair
pairs_of_of [] = []
pairs_of_of (a ∷ qs) = record { key = a.key; value = value_of a } ∷ pairs_of_of qs

-- the tokens of items: neighbouring texts and lines are one text
unfoldable pub tokens_of : List Item → List Token
tokens_of [] = []
tokens_of (start n qs ∷ is) = opens n (pairs_of_of qs) ∷ tokens_of is
tokens_of (empty n qs ∷ is) = empty_token n (pairs_of_of qs) ∷ tokens_of is
tokens_of (close n ∷ is) = closes n ∷ tokens_of is
tokens_of (text t ∷ is) = join (escape false t) (tokens_of is)
tokens_of (line d ∷ is) = join (new_line d) (tokens_of is)

-- the tokens of items with neighbouring texts and lines apart
unfoldable pub apart : List Item → List Token
apart [] = []
apart (start n qs ∷ is) = opens n (pairs_of_of qs) ∷ apart is
apart (empty n qs ∷ is) = empty_token n (pairs_of_of qs) ∷ apart is
apart (close n ∷ is) = closes n ∷ apart is
apart (text t ∷ is) = text_token t ∷ apart is
apart (line d ∷ is) = text_token (new_line d) ∷ apart is

-- ---- what may be rendered

-- a legal key, and a raw value that may stand as it is
pub record LegalAttr (a : Attr) : Type 0 where
  pub some : 0 < length a.key
  pub key : Clean Key a.key
  pub value : a.raw ≡ true → Clean Value a.value

-- each of a row is legal
pub data LegalAttrs : List Attr → Type 0 where
  none : LegalAttrs []
  more : {a : Attr} {qs : List Attr} → LegalAttr a → LegalAttrs qs → LegalAttrs (a ∷ qs)

-- elements have one of the sixteen names, and legal attributes
pub data LegalItems : List Item → Type 0 where
  nil : LegalItems []
  a_start : {n : ℕ} {qs : List Attr} {is : List Item} → IsName n → LegalAttrs qs → LegalItems is → LegalItems (start n qs ∷ is)
  an_empty : {n : ℕ} {qs : List Attr} {is : List Item} → IsName n → LegalAttrs qs → LegalItems is → LegalItems (empty n qs ∷ is)
  a_close : {n : ℕ} {is : List Item} → IsName n → LegalItems is → LegalItems (close n ∷ is)
  a_text : {t : Bytes} {is : List Item} → LegalItems is → LegalItems (text t ∷ is)
  a_line : {d : ℕ} {is : List Item} → LegalItems is → LegalItems (line d ∷ is)

-- usx around the items
abbrev pub framed : List Item → List Item
framed is = start el.usx (record { key = b "version"; value = b "3.0"; raw = false } ∷ []) ∷ (is ++ (close el.usx ∷ []))
