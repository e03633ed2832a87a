-- An item that the checker reads: its attributes are legal, and behind it the reading goes on.
use mathlib.Core.Path.{◌≡◌, refl, sym, ap, ◌∙◌, subst}
use mathlib.Core.Bool.{Bool, true, false, not}
use mathlib.Core.List.{List, [], ◌∷◌, ◌++◌, append_assoc}
use Prim.Native.Nat.{ℕ, zero, suc, ◌*◌}
use native.Mathlib.Omega.{arith}
use lib.ListN.{replicate}
use borrow.Author.Tests.{eq-eqb}
use Rattle.parts.specs.Bytes.{Bytes, begins}
use Rattle.parts.proofs.Laws.{and-true}
use Rattle.chars.specs.Escape.{escape}
use Rattle.chars.proofs.Lists.{all}
use Rattle.tags.specs.Names.{name_of, IsName, which, element_at}
use Rattle.tags.specs.Form.{Pair}
use Rattle.tags.specs.Write.{write_pairs, CleanPairs}
use Rattle.tags.specs.Items.{Attr, Item, start, empty, close, text, line, new_line, bytes_of, pairs_of_of, LegalAttrs}
use Rattle.tags.specs.declared.Named.TheVariants.{Unnamed}
use Rattle.tags.proofs.ReadBack.{element-write}
use Rattle.tags.proofs.Rendered.{escape_clean, attrs_writes}
use Rattle.checker.specs.View.{single, bare, view, mark_on}
use Rattle.checker.specs.Steps.{Held}
use Rattle.checker.specs.Meaning.{since, Fits}
use Rattle.checker.proofs.Decides.{since-other, never}
use Rattle.accepts.specs.Sound.{SoundItem}
use Rattle.exact.proofs.Reading.{tailed, tag_of, tag_in, Reads, done, byte, close as close_read, tag, never_read}
use Rattle.accepts.proofs.Spaces.{but}
use Rattle.exact.proofs.Cuts.{text_no_tag}
use Rattle.exact.proofs.Attrs.{WordyAttrs, fits}

-- ---- names

cancel : (a x y : Bytes) → a ++ x ≡ a ++ y → x ≡ y
cancel [] x y e = e
cancel (u ∷ a) x y e = cancel a x y (cc)

-- two names in front of anything
same_name : (m n : ℕ) (x y : Bytes) → IsName m → IsName n → name_of m ++ x ≡ name_of n ++ y → (m ≡ n) × (x ≡ y)
same_name m n x y h i e =
    let f = sym (element-write m x h) ∙ ap element_at e ∙ element-write n y i in
    let j : m ≡ n = cc in
    (j, cancel (name_of n) x y (subst (λ (k : ℕ). name_of k ++ x ≡ name_of n ++ y) j e))

-- no name begins with a slash
no_slash : (n : ℕ) (x y : Bytes) → IsName n → 47 ∷ x ≡ name_of n ++ y → ⊥
unfolding element_at which begins
no_slash n x y h e =
    let f = ap element_at e ∙ element-write n y h in
    let g : element_at (47 ∷ x) ≡ Unnamed = refl in
    let no_way : ◌≡◌ {A = ℕ} 0 1 = cc in omega arith

-- ---- tags

-- the tag that is read where one of this name is written
pub record TagRead (c v : Held) (n : ℕ) (y : Bytes) : Type 0 where
  pub end : Bool
  pub pairs : List Pair
  pub behind : Bytes
  pub written : write_pairs pairs (tailed end behind) ≡ y
  pub clean : CleanPairs pairs
  pub fit : Fits c v (view (tag_of end n pairs))
  pub rest : Reads (since 3 c (view (tag_of end n pairs))) (since 4 v (view (tag_of end n pairs))) behind

pub tag_read : {c v : Held} {s : Bytes} (n : ℕ) (y : Bytes) → IsName n → s ≡ 60 ∷ (name_of n ++ y) → Reads c v s → TagRead c v n y
tag_read n y h e (done f) = absurd (let no_way : ◌≡◌ {A = ℕ} 0 1 = cc in omega arith)
tag_read n y h e (byte x r f g i z) = absurd (g (cc))
tag_read n y h e (close_read m r f i g z) = absurd (no_slash n (name_of m ++ 62 ∷ r) y h (cc))
tag_read {c} {v} n y h e (tag w m ps r f i k g z) =
    let q : name_of m ++ write_pairs ps (tailed w r) ≡ name_of n ++ y = cc in
    let j = same_name m n (write_pairs ps (tailed w r)) y i h q in
    record {
      end = w;
      pairs = ps;
      behind = r;
      written = j.1;
      clean = k;
      fit = subst (λ (u : ℕ). Fits c v (view (tag_of w u ps))) j.0 g;
      rest = subst (λ (u : ℕ). Reads (since 3 c (view (tag_of w u ps))) (since 4 v (view (tag_of w u ps))) r) j.0 z;
    }

-- a tag with wordy attributes is read as it is written
pub reads_tag : {c v : Held} {s : Bytes} (f : Bool) (n : ℕ) (qs : List Attr) (r : Bytes) → IsName n → WordyAttrs qs
    → s ≡ tag_in f n (pairs_of_of qs) r → Reads c v s
    → LegalAttrs qs × Reads (since 3 c (view (tag_of f n (pairs_of_of qs)))) (since 4 v (view (tag_of f n (pairs_of_of qs)))) r
reads_tag {c} {v} f n qs r h w e z = go (tag_read n (write_pairs (pairs_of_of qs) (tailed f r)) h e z)
  where
    go : TagRead c v n (write_pairs (pairs_of_of qs) (tailed f r))
        → LegalAttrs qs × Reads (since 3 c (view (tag_of f n (pairs_of_of qs)))) (since 4 v (view (tag_of f n (pairs_of_of qs)))) r
    go t =
        let i = fits qs t.pairs t.end f t.behind r w t.clean (λ s. never_read false s t.rest) t.written in
        (i.legal, rw (← i.ends, ← i.pairs, ← i.rest) t.rest)

-- ---- closes and texts

reads_close : {c v : Held} {s : Bytes} (n : ℕ) (r : Bytes) → IsName n → s ≡ 60 ∷ 47 ∷ (name_of n ++ 62 ∷ r) → Reads c v s → Reads c v r
reads_close n r h e (done f) = absurd (let no_way : ◌≡◌ {A = ℕ} 0 1 = cc in omega arith)
reads_close n r h e (byte x z f g i k) = absurd (g (cc))
reads_close {c} {v} n r h e (close_read m z f i g k) =
    let q : name_of m ++ 62 ∷ z ≡ name_of n ++ 62 ∷ r = cc in
    let j = (same_name m n (62 ∷ z) (62 ∷ r) i h q).1 in
    let l : z ≡ r = cc in
    subst (Reads c v) l k
reads_close n r h e (tag w m ps z f i k g l) = absurd (no_slash m (name_of n ++ 62 ∷ r) (write_pairs ps (tailed w z)) i (cc))

reads_byte : {c v : Held} {s : Bytes} (x : ℕ) (r : Bytes) → but 60 x ≡ true → s ≡ x ∷ r → Reads c v s → Reads c v r
unfolding but
reads_byte x r h e (done f) = absurd (let no_way : ◌≡◌ {A = ℕ} 0 1 = cc in omega arith)
reads_byte {c} {v} x r h e (byte y z f g i k) =
    let l : z ≡ r = cc in
    subst (Reads c v) l k
reads_byte x r h e (close_read m z f i g k) =
    let l : x ≡ 60 = cc in
    never (sym (ap not (eq-eqb x 60 l)) ∙ h)
reads_byte x r h e (tag w m ps z f i k g q) =
    let l : x ≡ 60 = cc in
    never (sym (ap not (eq-eqb x 60 l)) ∙ h)

-- a text with no `<`
reads_text : {c v : Held} (s r : Bytes) → all (but 60) s ≡ true → Reads c v (s ++ r) → Reads c v r
unfolding all
reads_text [] r h z = z
reads_text (x ∷ s) r h z =
    let both = and-true (but 60 x) (all (but 60) s) h in
    reads_text s r both.1 (reads_byte x (s ++ r) both.0 refl z)

spaces : (k : ℕ) → all (but 60) (replicate k 32) ≡ true
unfolding all but
spaces zero = refl
spaces (suc k) = spaces k

-- ---- items

-- a tag as items write it
abbrev pub item_of : Bool → ℕ → List Attr → Item
item_of false n qs = start n qs
item_of true n qs = empty n qs

pub tag_written : (f : Bool) (n : ℕ) (qs : List Attr) (r : Bytes) → bytes_of (item_of f n qs) ++ r ≡ tag_in f n (pairs_of_of qs) r
unfolding bytes_of
tag_written false n qs r = rw (attrs_writes qs (62 ∷ r)) (simp append_assoc)
tag_written true n qs r = rw (attrs_writes qs (32 ∷ 47 ∷ 62 ∷ r)) (simp append_assoc)

close-written : (n : ℕ) (r : Bytes) → bytes_of (close n) ++ r ≡ 60 ∷ 47 ∷ (name_of n ++ 62 ∷ r)
unfolding bytes_of
close-written n r = ap (λ (x : Bytes). 60 ∷ 47 ∷ x) (append_assoc (name_of n) (62 ∷ []) r)

-- elements but chapter and verse, with wordy attributes
abbrev pub WordyItem : Item → Type 0
WordyItem (start n qs) = IsName n × (n ≡ 3 → ⊥) × (n ≡ 4 → ⊥) × WordyAttrs qs
WordyItem (empty n qs) = IsName n × (n ≡ 3 → ⊥) × (n ≡ 4 → ⊥) × WordyAttrs qs
WordyItem (close n) = IsName n
WordyItem (text t) = Unit {0}
WordyItem (line d) = Unit {0}

pub reads_item : {c v : Held} (i : Item) (r : Bytes) → WordyItem i → Reads c v (bytes_of i ++ r) → SoundItem i × Reads c v r
reads_item {c} {v} (start n qs) r h z = unfold view since in reads_tag false n qs r h.0 h.3 (tag_written false n qs r) z
reads_item {c} {v} (empty n qs) r h z =
    let k = reads_tag true n qs r h.0 h.3 (tag_written true n qs r) z in
    let m = mark_on bare (pairs_of_of qs) in
    let on : Reads (since 3 c (single n m)) (since 4 v (single n m)) r = unfold view in k.1 in
    (k.0, rw (since-other 3 c n m h.1, since-other 4 v n m h.2) at on)
reads_item {c} {v} (close n) r h z = (tt, reads_close n r h (close-written n r) z)
reads_item {c} {v} (text t) r h z = (tt, reads_text (escape false t) r (text_no_tag (escape false t) (escape_clean false t)) (unfold bytes_of in z))
reads_item {c} {v} (line d) r h z = (tt, reads_text (new_line d) r (unfold new_line all but in spaces (2 * d)) (unfold bytes_of in z))
