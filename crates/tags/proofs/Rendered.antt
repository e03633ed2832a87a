-- What is rendered is read back: the tokens of the bytes of items are those items.
use mathlib.Core.Path.{◌≡◌, refl, sym, ap, ◌∙◌}
use mathlib.Core.Bool.{Bool, true, false, cond, ◌||◌}
use mathlib.Core.List.{List, [], ◌∷◌, ◌++◌, append_assoc, Memᴰ}
use mathlib.Core.Option.{some}
use Prim.Native.Nat.{ℕ, zero, suc, ◌*◌}
use native.Mathlib.Omega.{arith}
use lib.ListN.{length, replicate}
use lib.Dec.{eqb}
use Rattle.parts.specs.Bytes.{Bytes, b, begins}
use Rattle.chars.specs.Escape.{escaped_byte, escape, special}
use Rattle.tags.specs.Names.{name_of, IsName}
use Rattle.tags.specs.Form.{plain, key_byte_of, escape_at, ok, run, Token, text as text_token, opens, closes, empty as empty_token, tokens_from, closing}
use Rattle.tags.specs.Write.{write_pair, write_pairs, write, write_all, Clean, CleanPairs, none as no_pair, more as more-pairs, Legal, nil as no_token, a_text as text_legal, an_open, a_close as close_legal, an_empty as empty_legal, TagForm}
use Rattle.tags.specs.Items.{Attr, Item, start, empty, close, text, line, value_of, attr_bytes, attrs_bytes, new_line, bytes_of, render, join, pairs_of_of, tokens_of, LegalAttr, LegalAttrs, none, more, LegalItems, nil, a_start, an_empty, a_close, a_text, a_line, framed}
use Rattle.tags.specs.declared.Class.{Class}
use Rattle.tags.specs.declared.Class.TheVariants.{Text, Value}
use Rattle.tags.proofs.ReadBack.{ok-more}
use Rattle.tags.proofs.Exact.{tokens_exact}

-- ---- render

pub render-append : (is js : List Item) → render (is ++ js) ≡ render is ++ render js
unfolding render
render-append [] js = refl
render-append (i ∷ is) js = ap (λ (z : Bytes). bytes_of i ++ z) (render-append is js) ∙ sym (append_assoc (bytes_of i) (render is) (render js))

pub attrs_append : (ps qs : List Attr) → attrs_bytes (ps ++ qs) ≡ attrs_bytes ps ++ attrs_bytes qs
unfolding attrs_bytes
attrs_append [] qs = refl
attrs_append (p ∷ ps) qs =
    ap (λ (z : Bytes). attr_bytes p ++ z) (attrs_append ps qs) ∙ sym (append_assoc (attr_bytes p) (attrs_bytes ps) (attrs_bytes qs))

-- ---- clean bytes

-- clean in front of clean is clean
pub clean_append : (c : Class) (s r : Bytes) → Clean c s → Clean c r → Clean c (s ++ r)
unfolding run
clean_append c [] r h z = z
clean_append c (x ∷ s) r h z = go (ok c (x ∷ s)) refl h (λ i. clean_append c s r i z)
  where
    go : (t : Bool) → ok c (x ∷ s) ≡ t → elim t as (λ t. ℕ) [ true ↦ suc (run (ok c) s) | false ↦ 0 ] ≡ suc (length s)
        → (Clean c s → Clean c (s ++ r)) → Clean c (x ∷ (s ++ r))
    go true e i rest = rw (ok-more c x s r e, run) (ap suc (rest (omega arith)))
    go false e i rest = absurd (omega arith)

-- the class that escaping is for
abbrev class_of : Bool → Class
class_of true = Value
class_of false = Text

plain_is : (x : ℕ) → eqb x 60 ≡ false → eqb x 62 ≡ false → eqb x 38 ≡ false → plain x ≡ true
unfolding plain
plain_is x e f h = rw (e, f, h)

ok-text : (x : ℕ) (s : Bytes) → plain x ≡ true → ok Text (x ∷ s) ≡ true
unfolding ok
ok-text x s e = rw e

ok_value : (x : ℕ) (s : Bytes) → plain x ≡ true → eqb x 34 ≡ false → ok Value (x ∷ s) ≡ true
unfolding ok
ok_value x s e i = rw (e, i)

single_clean : (c : Class) (x : ℕ) → ok c (x ∷ []) ≡ true → Clean c (x ∷ [])
unfolding run
single_clean c x e = rw (e, run)

escaped_clean : (attr : Bool) (x : ℕ) → Clean (class_of attr) (escaped_byte attr x)
unfolding escaped_byte run ok plain escape_at begins
escaped_clean true x = go (eqb x 60) refl (eqb x 62) refl (eqb x 38) refl (eqb x 34) refl
  where
    go : (l : Bool) → eqb x 60 ≡ l → (g : Bool) → eqb x 62 ≡ g → (a : Bool) → eqb x 38 ≡ a → (q : Bool) → eqb x 34 ≡ q
        → Clean Value (cond l (b "&lt;") (cond g (b "&gt;") (cond a (b "&amp;") (cond q (b "&quot;") (x ∷ [])))))
    go true e g f a h q i = refl
    go false e true f a h q i = refl
    go false e false f true h q i = refl
    go false e false f false h true i = refl
    go false e false f false h false i = single_clean Value x (ok_value x [] (plain_is x e f h) i)
escaped_clean false x = go (eqb x 60) refl (eqb x 62) refl (eqb x 38) refl
  where
    go : (l : Bool) → eqb x 60 ≡ l → (g : Bool) → eqb x 62 ≡ g → (a : Bool) → eqb x 38 ≡ a
        → Clean Text (cond l (b "&lt;") (cond g (b "&gt;") (cond a (b "&amp;") (x ∷ []))))
    go true e g f a h = refl
    go false e true f a h = refl
    go false e false f true h = refl
    go false e false f false h = single_clean Text x (ok-text x [] (plain_is x e f h))

-- what is escaped may stand
pub escape_clean : (attr : Bool) (s : Bytes) → Clean (class_of attr) (escape attr s)
unfolding escape run
escape_clean attr [] = refl
escape_clean attr (x ∷ s) = clean_append (class_of attr) (escaped_byte attr x) (escape attr s) (escaped_clean attr x) (escape_clean attr s)

-- bytes that no escape is needed for may stand in a value as they are
one_clean : (x : ℕ) → special true x ≡ false → Clean Value (x ∷ [])
unfolding special
one_clean x e = go (eqb x 60) refl (eqb x 62) refl (eqb x 38) refl (eqb x 34) refl e
  where
    go : (l : Bool) → eqb x 60 ≡ l → (g : Bool) → eqb x 62 ≡ g → (a : Bool) → eqb x 38 ≡ a → (q : Bool) → eqb x 34 ≡ q
        → l || (g || (a || q)) ≡ false → Clean Value (x ∷ [])
    go true i g j a k q m e = absurd (let no_way : ◌≡◌ {A = ℕ} 0 1 = cc in omega arith)
    go false i true j a k q m e = absurd (let no_way : ◌≡◌ {A = ℕ} 0 1 = cc in omega arith)
    go false i false j true k q m e = absurd (let no_way : ◌≡◌ {A = ℕ} 0 1 = cc in omega arith)
    go false i false j false k true m e = absurd (let no_way : ◌≡◌ {A = ℕ} 0 1 = cc in omega arith)
    go false i false j false k false m e = single_clean Value x (ok_value x [] (plain_is x i j k) m)

pub plain_clean : (s : Bytes) → ((x : ℕ) → Memᴰ x s → special true x ≡ false) → Clean Value s
unfolding run
plain_clean [] f = refl
plain_clean (x ∷ s) f =
    clean_append Value (x ∷ []) s (one_clean x (f x (Memᴰ.head refl))) (plain_clean s (λ y m. f y (Memᴰ.tail m)))

spaces_clean : (k : ℕ) → Clean Text (replicate k 32)
unfolding run ok plain
spaces_clean zero = refl
spaces_clean (suc k) = ap suc (spaces_clean k)

line_clean : (d : ℕ) → Clean Text (new_line d)
unfolding new_line run ok plain
line_clean d = ap suc (spaces_clean (2 * d))

-- ---- texts in a row

join_writes : (s : Bytes) (ts : List Token) → write_all (join s ts) ≡ s ++ write_all ts
unfolding join write_all write
join_writes [] ts = refl
join_writes (x ∷ s) [] = refl
join_writes (x ∷ s) (text_token t ∷ ts) = append_assoc (x ∷ s) t (write_all ts)
join_writes (x ∷ s) (opens n ps ∷ ts) = refl
join_writes (x ∷ s) (closes n ∷ ts) = refl
join_writes (x ∷ s) (empty_token n ps ∷ ts) = refl

join_legal : (s : Bytes) (ts : List Token) → Clean Text s → Legal ts → Legal (join s ts)
unfolding join
join_legal [] ts h l = l
join_legal (x ∷ s) [] h l = text_legal {t = x ∷ s} (omega arith) h tt l
join_legal (x ∷ s) (text_token t ∷ ts) h (text_legal n c apart l) = text_legal {t = x ∷ (s ++ t)} (omega arith) (clean_append Text (x ∷ s) t h c) apart l
join_legal (x ∷ s) (opens n ps ∷ ts) h l = text_legal {t = x ∷ s} (omega arith) h tt l
join_legal (x ∷ s) (closes n ∷ ts) h l = text_legal {t = x ∷ s} (omega arith) h tt l
join_legal (x ∷ s) (empty_token n ps ∷ ts) h l = text_legal {t = x ∷ s} (omega arith) h tt l

-- ---- attributes

value_clean : (a : Attr) → LegalAttr a → Clean Value (value_of a)
unfolding value_of
value_clean a h = go a.raw refl
  where
    go : (t : Bool) → a.raw ≡ t → Clean Value (cond t a.value (escape true a.value))
    go true e = h.value e
    go false e = escape_clean true a.value

attrs_clean : (qs : List Attr) → LegalAttrs qs → CleanPairs (pairs_of_of qs)
unfolding pairs_of_of
attrs_clean [] none = no_pair
attrs_clean (a ∷ qs) (more h hs) = more-pairs (record { some = h.some; key = h.key; value = value_clean a h }) (attrs_clean qs hs)

-- attributes as they are written are pairs as they are written
pub attrs_writes : (qs : List Attr) (r : Bytes) → write_pairs (pairs_of_of qs) r ≡ attrs_bytes qs ++ r
unfolding write_pairs write_pair pairs_of_of attrs_bytes attr_bytes
attrs_writes [] r = refl
attrs_writes (a ∷ qs) r = rw (attrs_writes qs r) (simp append_assoc)

-- ---- items

tokens-write : (is : List Item) → write_all (tokens_of is) ≡ render is
unfolding tokens_of render bytes_of write_all write
tokens-write [] = refl
tokens-write (start n qs ∷ is) = rw (attrs_writes qs (b ">" ++ write_all (tokens_of is)), tokens-write is) (simp append_assoc)
tokens-write (empty n qs ∷ is) = rw (attrs_writes qs (b " />" ++ write_all (tokens_of is)), tokens-write is) (simp append_assoc)
tokens-write (close n ∷ is) = rw (tokens-write is) (simp append_assoc)
tokens-write (text t ∷ is) = join_writes (escape false t) (tokens_of is) ∙ ap (λ (z : Bytes). escape false t ++ z) (tokens-write is)
tokens-write (line d ∷ is) = join_writes (new_line d) (tokens_of is) ∙ ap (λ (z : Bytes). new_line d ++ z) (tokens-write is)

pub tokens_legal : (is : List Item) → LegalItems is → Legal (tokens_of is)
unfolding tokens_of
tokens_legal [] nil = no_token
tokens_legal (start n qs ∷ is) (a_start h hs l) = an_open h (attrs_clean qs hs) (tokens_legal is l)
tokens_legal (empty n qs ∷ is) (an_empty h hs l) = empty_legal h (attrs_clean qs hs) (tokens_legal is l)
tokens_legal (close n ∷ is) (a_close h l) = close_legal h (tokens_legal is l)
tokens_legal (text t ∷ is) (a_text l) = join_legal (escape false t) (tokens_of is) (escape_clean false t) (tokens_legal is l)
tokens_legal (line d ∷ is) (a_line l) = join_legal (new_line d) (tokens_of is) (line_clean d) (tokens_legal is l)

-- the tokens of a rendered list of items are those items
pub items_read_back : (is : List Item) → LegalItems is → tokens_from (render is) ≡ some (tokens_of is)
items_read_back is l = (tokens_exact (render is) (tokens_of is)).1 (tokens_legal is l, tokens-write is)

-- ---- the whole

legal_append : (is js : List Item) → LegalItems is → LegalItems js → LegalItems (is ++ js)
legal_append [] js nil h = h
legal_append (start n qs ∷ is) js (a_start i hs l) h = a_start i hs (legal_append is js l h)
legal_append (empty n qs ∷ is) js (an_empty i hs l) h = an_empty i hs (legal_append is js l h)
legal_append (close n ∷ is) js (a_close i l) h = a_close i (legal_append is js l h)
legal_append (text t ∷ is) js (a_text l) h = a_text (legal_append is js l h)
legal_append (line d ∷ is) js (a_line l) h = a_line (legal_append is js l h)

pub framed_legal : (is : List Item) → LegalItems is → LegalItems (framed is)
unfolding run ok plain key_byte_of
framed_legal is l =
    let usx : IsName 1 = record { one = omega arith; sixteen = omega arith } in
    a_start usx (more {a = record { key = b "version"; value = b "3.0"; raw = false }} (record { some = omega arith; key = refl; value = λ e. absurd (let no_way : ◌≡◌ {A = ℕ} 0 1 = cc in omega arith) }) none)
    (legal_append is (close 1 ∷ []) l (a_close usx nil))

-- usx around legal items is in tag form, and its tokens are those items
pub framed_form : (is : List Item) → LegalItems is → TagForm (render (framed is)) (tokens_of (framed is))
unfolding render bytes_of attrs_bytes attr_bytes value_of name_of escape escaped_byte
framed_form is l =
    record {
      legal = tokens_legal (framed is) (framed_legal is l);
      written = tokens-write (framed is);
      opened = (render (is ++ (close 1 ∷ [])), refl);
      closed = (
        bytes_of (start 1 (record { key = b "version"; value = b "3.0"; raw = false } ∷ [])) ++ render is,
        ap (λ (z : Bytes). bytes_of (start 1 (record { key = b "version"; value = b "3.0"; raw = false } ∷ [])) ++ z) (render-append is (close 1 ∷ []))
            ∙ sym (append_assoc (bytes_of (start 1 (record { key = b "version"; value = b "3.0"; raw = false } ∷ []))) (render is) closing),
      );
    }
