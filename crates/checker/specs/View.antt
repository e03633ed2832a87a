-- What the rules see of a token: which element it opens or closes, and of a tag ending in ` />` whether it is a start or an end:
-- exactly where `IsStart` and `IsEnd` of Words hold of its attributes (`start-exact`, `end-exact`).
use Rattle.std.specs.Prelude.{ℕ, List, [], ◌∷◌, cond}
use Rattle.parts.specs.Bytes.{Bytes, b, same}
use Rattle.tags.specs.Form.{Pair, Token, text, opens, closes, empty}
use Rattle.checker.specs.declared.IdKey.{IdKey}
use Rattle.checker.specs.declared.IdKey.TheVariants.{Eid, Sid, Another}

-- a tag by its attributes: it has none, none with an identifier, a form that is neither start nor end, or is a start or an end
pub data Mark : Type 0 where
  bare plain other : Mark
  start ends : Bytes → Mark

-- whether a key is `eid`, `sid` or another
unfoldable pub id_key_of : Bytes → IdKey
id_key_of k = cond (same k (b "eid")) Eid (cond (same k (b "sid")) Sid Another)

-- a tag with one attribute more, by its key and its value: `eid` makes an end if it is the only one, the first `sid` a start
unfoldable pub noted_by : Mark → IdKey → Bytes → Mark
noted_by bare Eid v = ends v
noted_by bare Sid v = start v
noted_by bare Another v = plain
noted_by plain Eid v = other
noted_by plain Sid v = start v
noted_by plain Another v = plain
noted_by (start i) Eid v = other
noted_by (start i) Sid v = other
noted_by (start i) Another v = start i
noted_by (ends i) k v = other
noted_by other k v = other

-- a tag with one attribute more
unfoldable pub noted : Mark → Pair → Mark
noted m a = noted_by m (id_key_of a.key) a.value

-- a tag with a row of attributes more
unfoldable pub mark_on : Mark → List Pair → Mark
mark_on m [] = m
mark_on m (a ∷ ps) = mark_on (noted m a) ps

-- a text; a tag by its element: opening, closing, or ending in ` />`
pub data View : Type 0 where
  words : View
  opened closed : ℕ → View
  single : ℕ → Mark → View

-- a token as the rules see it
unfoldable pub view : Token → View
view (text t) = words
view (opens n ps) = opened n
view (closes n) = closed n
view (empty n ps) = single n (mark_on bare ps)

-- a row of tokens as the rules see them
abbrev pub views : List Token → List View
views [] = []
views (t ∷ ts) = view t ∷ views ts
