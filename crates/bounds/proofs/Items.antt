-- How long items are, by their attributes and texts.
use mathlib.Core.Path.{◌≡◌, refl}
use mathlib.Core.Bool.{Bool, true, false, cond}
use mathlib.Core.List.{List, [], ◌∷◌, ◌++◌}
use Prim.Native.Nat.{ℕ, zero, suc, ◌+◌, ◌*◌, ◌≤◌}
use native.Mathlib.Omega.{arith}
use lib.ListN.{length, length-append, get_or, length-replicate}
use Rattle.parts.specs.Bytes.{Bytes, b}
use Rattle.chars.specs.Escape.{escape}
use Rattle.chars.proofs.Escapes.{escape_most}
use Rattle.tags.specs.Names.{names, name_of}
use Rattle.tags.specs.Items.{Attr, Item, start, empty, close, text, line, value_of, attr_bytes, attrs_bytes, new_line, bytes_of, render}

-- ---- names

unfoldable total : List Bytes → ℕ
total [] = 0
total (w ∷ ws) = length w + total ws

get_most : (ws : List Bytes) (n : ℕ) → length (get_or ws n []) ≤ total ws
unfolding total
get_most [] n = omega arith
get_most (w ∷ ws) zero = omega arith
get_most (w ∷ ws) (suc n) = omega (arith, get_most ws n)

names-total : total ([] ∷ names) ≤ 100
unfolding total
names-total = omega arith

pub name_most : (n : ℕ) → length (name_of n) ≤ 100
unfolding name_of
name_most n = omega (arith, get_most ([] ∷ names) n, names-total)

-- ---- attributes

-- what an attribute may cost: its value can be escaped
unfoldable pub attr_cost : Attr → ℕ
attr_cost a = 4 + length a.key + 6 * length a.value

unfoldable pub attrs_cost : List Attr → ℕ
attrs_cost [] = 0
attrs_cost (a ∷ qs) = attr_cost a + attrs_cost qs

pub attrs_append : (ps qs : List Attr) → attrs_cost (ps ++ qs) ≡ attrs_cost ps + attrs_cost qs
unfolding attrs_cost
attrs_append [] qs = omega arith
attrs_append (a ∷ ps) qs = omega (arith, attrs_append ps qs)

value_most : (a : Attr) → length (value_of a) ≤ 6 * length a.value
unfolding value_of
value_most a = go a.raw
  where
    go : (x : Bool) → length (cond x a.value (escape true a.value)) ≤ 6 * length a.value
    go true = omega arith
    go false = escape_most true a.value

attr_most : (a : Attr) → length (attr_bytes a) ≤ attr_cost a
unfolding attr_bytes attr_cost
attr_most a =
    omega (arith, value_most a, length-append a.key (b "=\"" ++ (value_of a ++ b "\"")), length-append (value_of a) (b "\""))

pub attrs_most : (qs : List Attr) → length (attrs_bytes qs) ≤ attrs_cost qs
unfolding attrs_bytes attrs_cost
attrs_most [] = omega arith
attrs_most (a ∷ qs) = omega (arith, attr_most a, attrs_most qs, length-append (attr_bytes a) (attrs_bytes qs))

-- ---- items

pub start_most : (n : ℕ) (qs : List Attr) → length (bytes_of (start n qs)) ≤ 200 + attrs_cost qs
unfolding bytes_of
start_most n qs =
    omega (arith, name_most n, attrs_most qs, length-append (name_of n) (attrs_bytes qs ++ b ">"), length-append (attrs_bytes qs) (b ">"))

pub empty_most : (n : ℕ) (qs : List Attr) → length (bytes_of (empty n qs)) ≤ 200 + attrs_cost qs
unfolding bytes_of
empty_most n qs =
    omega (arith, name_most n, attrs_most qs, length-append (name_of n) (attrs_bytes qs ++ b " />"), length-append (attrs_bytes qs) (b " />"))

pub close_most : (n : ℕ) → length (bytes_of (close n)) ≤ 200
unfolding bytes_of
close_most n = omega (arith, name_most n, length-append (name_of n) (b ">"))

pub text_most : (s : Bytes) → length (bytes_of (text s)) ≤ 6 * length s
unfolding bytes_of
text_most s = escape_most false s

pub line_most : (d : ℕ) → length (bytes_of (line d)) ≤ 1 + 2 * d
unfolding bytes_of new_line
line_most d = omega (arith, length-replicate {A = ℕ} (2 * d) 32)

-- ---- rows of items

unfoldable pub items_cost : List Item → ℕ
items_cost [] = 0
items_cost (i ∷ is) = length (bytes_of i) + items_cost is

pub render_is : (is : List Item) → length (render is) ≡ items_cost is
unfolding render items_cost
render_is [] = refl
render_is (i ∷ is) = omega (arith, render_is is, length-append (bytes_of i) (render is))

pub items_append : (is js : List Item) → items_cost (is ++ js) ≡ items_cost is + items_cost js
unfolding items_cost
items_append [] js = omega arith
items_append (i ∷ is) js = omega (arith, items_append is js)

pub items_one : (i : Item) → items_cost (i ∷ []) ≡ length (bytes_of i)
unfolding items_cost
items_one i = omega arith
