-- What the lexer reads is legal, and writing it gives the text again: the tag form from both sides.
use mathlib.Core.Path.{◌≡◌, refl, sym, ap, ◌∙◌, subst}
use mathlib.Core.Bool.{Bool, true, false, cond, not, ◌&&◌, ◌||◌}
use mathlib.Core.List.{List, [], ◌∷◌, ◌++◌}
use mathlib.Core.Option.{Option, some, none}
use mathlib.Core.Logic.{◌↔◌}
use Prim.Native.Nat.{ℕ, zero, suc, ◌+◌, ◌-◌, ◌≤◌, ◌<◌}
use native.Mathlib.Omega.{arith}
use lib.ListN.{length, get_or, take, drop, length-append, length-drop, take-append-drop, drop_of_length-le}
use lib.Seq.{drop-drop, length-take-le, drop-append_seam}
use lib.Dec.{ltb, eqb}
use borrow.Author.Tests.{ltb-true, eq-eqb}
use Rattle.parts.specs.Bytes.{Bytes, b, begins}
use Rattle.parts.proofs.Laws.{and-true, begins-fits, begins-split}
use Rattle.tags.specs.Names.{names, name_of, IsName, which, element_at}
use Rattle.tags.specs.Form.{plain, escape_at, ok, run, Row, pair_at, pair_len, pair_of, more_pairs, pairs_at, pairs_row, Token, text, opens, closes, empty, Read, bad, got, close_head, open_head_of, text_head, head_at_of, tail_at, ended, tagged, headed, next, onto, more_tokens, tokens_at, tokens_from, opening, closing, tokens}
use Rattle.tags.specs.Write.{write_pair, write_pairs, write, write_all, Clean, CleanPair, CleanPairs, none as no_pair, more, Tagged, Legal, nil, a_text, an_open, a_close, an_empty, TagForm}
use Rattle.tags.specs.declared.Class.{Class}
use Rattle.tags.specs.declared.Class.TheVariants.{Text, Value, Key}
use Rattle.tags.specs.declared.Named.{Named}
use Rattle.tags.specs.declared.Named.TheVariants.{Name, Unnamed}
use Rattle.std.specs.Prelude.{Option as Optional, Some, None}
use Rattle.tags.specs.declared.Head.TheVariants.{Bad, Words, Closing}
use Rattle.tags.specs.declared.Tail.TheVariants.{Open, Empty, Neither}
use Rattle.tags.proofs.Laws.{run-le, pair_says}
use Rattle.tags.proofs.ReadBack.{ok-more, clean_first, read_back, or-more}

never {ℓ} : {A : Type ℓ} → false ≡ true → A
never e = absurd (let no_way : ◌≡◌ {A = ℕ} 0 1 = cc in omega arith)

-- ---- runs

-- an escapeAt stands in a run as a whole
abbrev Long : Class → Bytes → Bytes → Type 0
Long c w s = begins w s ≡ true → length w ≤ run (ok c) s

long : (c : Class) (w s : Bytes) → ((r : Bytes) → length w ≤ run (ok c) (w ++ r)) → Long c w s
long c w s f e = subst (λ (z : Bytes). length w ≤ run (ok c) z) (sym (begins-split w s e)) (f (drop (length w) s))

lt-text : (s : Bytes) → Long Text (b "&lt;") s
unfolding run ok plain escape_at begins
lt-text s = long Text (b "&lt;") s (λ r. omega arith)

gt-text : (s : Bytes) → Long Text (b "&gt;") s
unfolding run ok plain escape_at begins
gt-text s = long Text (b "&gt;") s (λ r. omega arith)

amp-text : (s : Bytes) → Long Text (b "&amp;") s
unfolding run ok plain escape_at begins
amp-text s = long Text (b "&amp;") s (λ r. omega arith)

lt_value : (s : Bytes) → Long Value (b "&lt;") s
unfolding run ok plain escape_at begins
lt_value s = long Value (b "&lt;") s (λ r. omega arith)

gt_value : (s : Bytes) → Long Value (b "&gt;") s
unfolding run ok plain escape_at begins
gt_value s = long Value (b "&gt;") s (λ r. omega arith)

amp_value : (s : Bytes) → Long Value (b "&amp;") s
unfolding run ok plain escape_at begins
amp_value s = long Value (b "&amp;") s (λ r. omega arith)

quot_value : (s : Bytes) → Long Value (b "&quot;") s
unfolding run ok plain escape_at begins
quot_value s = long Value (b "&quot;") s (λ r. omega arith)

-- a word within the first places is a word of what is cut off there
begins-take : (w s : Bytes) (k : ℕ) → length w ≤ k → begins w s ≡ true → begins w (take k s) ≡ true
unfolding begins
begins-take [] s k h e = refl
begins-take (x ∷ w) [] k h e = never e
begins-take (x ∷ w) (y ∷ s) zero h e = absurd (omega arith)
begins-take (x ∷ w) (y ∷ s) (suc k) h e =
    let both = and-true (eqb x y) (begins w s) e in
    rw both.0 (begins-take w s k (omega arith) both.1)

-- what may stand may stand in what is cut off behind its run
module _ (x : ℕ) (s : Bytes) where
  word_cut : (c : Class) (w : Bytes) → ok c (x ∷ s) ≡ true → Long c w (x ∷ s)
      → begins w (x ∷ s) ≡ true → begins w (x ∷ take (run (ok c) s) s) ≡ true
  unfolding run
  word_cut c w o l e = begins-take w (x ∷ s) (suc (run (ok c) s)) (go (ok c (x ∷ s)) o (l e)) e
    where
      go : (t : Bool) → t ≡ true → length w ≤ elim t as (λ t. ℕ) [ true ↦ suc (run (ok c) s) | false ↦ 0 ] → length w ≤ suc (run (ok c) s)
      go true i h = h
      go false i h = never i

  ok-cut : (c : Class) → ok c (x ∷ s) ≡ true → ok c (x ∷ take (run (ok c) s) s) ≡ true
  unfolding ok escape_at
  ok-cut Text o = go (plain x) o
    where
      z : Bytes
      z = take (run (ok Text) s) s

      cut : (w : Bytes) → Long Text w (x ∷ s) → begins w (x ∷ s) ≡ true → begins w (x ∷ z) ≡ true
      cut w = word_cut Text w o

      go : (y : Bool) → cond y true (escape_at (x ∷ s)) ≡ true → cond y true (escape_at (x ∷ z)) ≡ true
      go true e = refl
      go false e = or-more _ _ _ _ (cut _ (lt-text _)) (or-more _ _ _ _ (cut _ (gt-text _)) (cut _ (amp-text _))) e
  ok-cut Value o = go (plain x) o
    where
      z : Bytes
      z = take (run (ok Value) s) s

      cut : (w : Bytes) → Long Value w (x ∷ s) → begins w (x ∷ s) ≡ true → begins w (x ∷ z) ≡ true
      cut w = word_cut Value w o

      go : (y : Bool) → cond y (not (eqb x 34)) (escape_at (x ∷ s) || begins (b "&quot;") (x ∷ s)) ≡ true
          → cond y (not (eqb x 34)) (escape_at (x ∷ z) || begins (b "&quot;") (x ∷ z)) ≡ true
      go true e = e
      go false e =
          or-more _ _ _ _ (or-more _ _ _ _ (cut _ (lt_value _)) (or-more _ _ _ _ (cut _ (gt_value _)) (cut _ (amp_value _))))
          (cut _ (quot_value _)) e
  ok-cut Key o = o

-- what a run takes is clean
pub run_clean_cut : (c : Class) (s : Bytes) → Clean c (take (run (ok c) s) s)
unfolding run
run_clean_cut c [] = refl
run_clean_cut c (x ∷ s) = go (ok c (x ∷ s)) refl (run_clean_cut c s)
  where
    go : (t : Bool) → ok c (x ∷ s) ≡ t → Clean c (take (run (ok c) s) s)
        → Clean c (take (elim t as (λ t. ℕ) [ true ↦ suc (run (ok c) s) | false ↦ 0 ]) (x ∷ s))
    go true e rest = rw (ok-cut x s c e, run) (ap suc rest)
    go false e rest = refl

-- behind a run no run begins
run-over : (p : Bytes → Bool) (s : Bytes) → run p (drop (run p s) s) ≡ 0
unfolding run
run-over p [] = refl
run-over p (x ∷ s) = go (p (x ∷ s)) refl (run-over p s)
  where
    go : (t : Bool) → p (x ∷ s) ≡ t → run p (drop (run p s) s) ≡ 0
        → run p (drop (elim t as (λ t. ℕ) [ true ↦ suc (run p s) | false ↦ 0 ]) (x ∷ s)) ≡ 0
    go true e rest = rest
    go false e rest = rw (e, run)

-- ---- names

-- a name that is found stands at the front, and its number is in the list
which_says : (k : ℕ) (ws : List Bytes) (s : Bytes) (n l : ℕ) → which k ws s ≡ Name n l
    → (k ≤ n) × (n < k + length ws) × (s ≡ get_or ws (n - k) [] ++ drop l s) × (l ≡ length (get_or ws (n - k) []))
unfolding which
which_says k [] s n l e = absurd (let no_way : ◌≡◌ {A = ℕ} 0 1 = cc in omega arith)
which_says k (w ∷ ws) s n l e = go (begins w s) refl e (which_says (suc k) ws s n l)
  where
    G : Type 0
    G = (k ≤ n) × (n < k + suc (length ws)) × (s ≡ get_or (w ∷ ws) (n - k) [] ++ drop l s) × (l ≡ length (get_or (w ∷ ws) (n - k) []))

    go : (t : Bool) → begins w s ≡ t → cond t (Name k (length w)) (which (suc k) ws s) ≡ Name n l
        → (which (suc k) ws s ≡ Name n l
        → (suc k ≤ n) × (n < suc k + length ws) × (s ≡ get_or ws (n - suc k) [] ++ drop l s) × (l ≡ length (get_or ws (n - suc k) []))) → G
    go true h i rest =
        let ek : k ≡ n = cc in
        let el : length w ≡ l = cc in
        let z : n - k ≡ 0 = omega arith in
        (omega arith, omega arith, rw (z, ← el) (begins-split w s h), rw (z) (sym el))
    go false h i rest =
        let r = rest i in
        let z : n - k ≡ suc (n - suc k) = omega (arith, r.0) in
        (omega (arith, r.0), omega (arith, r.1), rw z r.2, rw z r.3)

element_says : (s : Bytes) (n l : ℕ) → element_at s ≡ Name n l → IsName n × (s ≡ name_of n ++ drop l s) × (l ≡ length (name_of n))
unfolding element_at name_of
element_says s n l e =
    let w = which_says 1 names s n l e in
    let z : n ≡ suc (n - 1) = omega (arith, w.0) in
    let g : get_or ([] ∷ names) n [] ≡ get_or names (n - 1) [] = ap (λ (m : ℕ). get_or ([] ∷ names) m []) z in
    (record { one = w.0; sixteen = omega (arith, w.1) }, rw g w.2, rw g w.3)

-- ---- attributes

module _ (s : Bytes) (k v : ℕ) (e : pair_at s ≡ Some (k, v)) where
  s₁ : Bytes
  s₁ = drop 1 s

  s₂ : Bytes
  s₂ = drop k s₁

  s₃ : Bytes
  s₃ = drop 2 s₂

  s₄ : Bytes
  s₄ = drop v s₃

  third : drop (k + 3) s ≡ s₃
  unfolding s₁ s₂ s₃
  third =
      let n : 1 + k + 2 ≡ k + 3 = omega arith in
      sym (ap (drop 2) (drop-drop k 1 s) ∙ drop-drop 2 (1 + k) s ∙ ap (λ (m : ℕ). drop m s) n)

  last : drop (pair_len k v) s ≡ drop 1 s₄
  unfolding s₄
  last =
      let n : k + 3 + v + 1 ≡ k + v + 4 = omega arith in
      sym (ap (λ (z : Bytes). drop 1 (drop v z)) (sym third) ∙ ap (drop 1) (drop-drop v (k + 3) s) ∙ drop-drop 1 (k + 3 + v) s ∙ ap (λ (m : ℕ). drop m s) n)

  pair-written : write_pair (pair_of s k v) (drop (pair_len k v) s) ≡ s
  unfolding write_pair s₁ s₂ s₃ s₄
  pair-written =
      let p = pair_says s k v e in
      rw (third, last)
      (rw (← begins-split (b "\"") s₄ p.quote, take-append-drop v s₃, ← begins-split (b "=\"") s₂ p.equals, take-append-drop k s₁)
      (sym (begins-split (b " ") s p.space)))

  pair_clean : CleanPair (pair_of s k v)
  unfolding s₁ s₂ s₃
  pair_clean =
      let p = pair_says s k v e in
      let fits : k ≤ length s₁ = omega (arith, run-le (ok Key) s₁, p.key) in
      record {
        some = omega (arith, p.some, length-take-le k s₁ fits);
        key = subst (λ (m : ℕ). Clean Key (take m s₁)) (sym p.key) (run_clean_cut Key s₁);
        value = rw third (subst (λ (m : ℕ). Clean Value (take m s₃)) (sym p.value) (run_clean_cut Value s₃));
      }

pairs_say : (n : ℕ) (s : Bytes) → (write_pairs (pairs_at n s).list (pairs_at n s).rest ≡ s) × CleanPairs (pairs_at n s).list
unfolding pairs_at write_pairs
pairs_say zero s = (refl, no_pair)
pairs_say (suc n) s = go (pair_at s) refl (pairs_say n)
  where
    go : (p : Optional (ℕ × ℕ)) → pair_at s ≡ p → ((r : Bytes) → (write_pairs (pairs_at n r).list (pairs_at n r).rest ≡ r) × CleanPairs (pairs_at n r).list)
        → (write_pairs (more_pairs (pairs_at n) s p).list (more_pairs (pairs_at n) s p).rest ≡ s) × CleanPairs (more_pairs (pairs_at n) s p).list
    go None e rest = (refl, no_pair)
    go (Some (k, v)) e rest =
        let r = rest (drop (pair_len k v) s) in
        (ap (write_pair (pair_of s k v)) r.0 ∙ pair-written s k v e, more (pair_clean s k v e) r.1)

-- ---- tokens

-- what a token is, in front of what follows it
abbrev pub One : Token → Bytes → Type 0
One (text t) r = (0 < length t) × Clean Text t × (run (ok Text) r ≡ 0)
One (opens n ps) r = IsName n × CleanPairs ps
One (closes n) r = IsName n
One (empty n ps) r = IsName n × CleanPairs ps

abbrev pub Says : Bytes → Read → Type 0
Says s bad = Unit {0}
Says s (got t r) = (write t r ≡ s) × One t r

module _ (s : Bytes) (n : ℕ) (r : Bytes) (h : IsName n) (is : b "<" ++ (name_of n ++ r) ≡ s) where
  tag_says : Says s (tagged n r)
  unfolding tagged tail_at ended pairs_row write
  tag_says = go (begins (b ">") z) refl (begins (b " />") z) refl
    where
      ps : Row
      ps = pairs_at (length r) r

      z : Bytes
      z = ps.rest

      all : (write_pairs ps.list z ≡ r) × CleanPairs ps.list
      all = pairs_say (length r) r

      go : (x : Bool) → begins (b ">") z ≡ x → (y : Bool) → begins (b " />") z ≡ y → Says s (ended n ps (cond x Open (cond y Empty Neither)))
      go true e y f = (ap (λ (t : Bytes). b "<" ++ (name_of n ++ write_pairs ps.list t)) (sym (begins-split (b ">") z e)) ∙ ap (λ (t : Bytes). b "<" ++ (name_of n ++ t)) all.0 ∙ is, (h, all.1))
      go false e true f = (ap (λ (t : Bytes). b "<" ++ (name_of n ++ write_pairs ps.list t)) (sym (begins-split (b " />") z f)) ∙ ap (λ (t : Bytes). b "<" ++ (name_of n ++ t)) all.0 ∙ is, (h, all.1))
      go false e false f = tt

open_says : (s : Bytes) (p : Named) → element_at (drop 1 s) ≡ p → begins (b "<") s ≡ true → Says s (headed s (open_head_of p))
unfolding open_head_of headed
open_says s Unnamed e f = tt
open_says s (Name n l) e f =
    let w = element_says (drop 1 s) n l e in
    let one : 1 + l ≡ l + 1 = omega arith in
    let d : drop (l + 1) s ≡ drop l (drop 1 s) = sym (drop-drop l 1 s ∙ ap (λ (m : ℕ). drop m s) one) in
    tag_says s n (drop (l + 1) s) w.0 (ap (λ (z : Bytes). b "<" ++ (name_of n ++ z)) d ∙ ap (λ (z : Bytes). b "<" ++ z) (sym w.1) ∙ sym (begins-split (b "<") s f))

close_says : (s : Bytes) (p : Named) → element_at (drop 2 s) ≡ p → begins (b "</") s ≡ true → Says s (headed s (close_head s p))
unfolding close_head headed write
close_says s Unnamed e f = tt
close_says s (Name n l) e f = go (begins (b ">") (drop (l + 2) s)) refl
  where
    w : IsName n × (drop 2 s ≡ name_of n ++ drop l (drop 2 s)) × (l ≡ length (name_of n))
    w = element_says (drop 2 s) n l e

    d : drop (l + 2) s ≡ drop l (drop 2 s)
    d = let n : 2 + l ≡ l + 2 = omega arith in sym (drop-drop l 2 s ∙ ap (λ (m : ℕ). drop m s) n)

    d₁ : drop (l + 3) s ≡ drop 1 (drop (l + 2) s)
    d₁ = let n : l + 2 + 1 ≡ l + 3 = omega arith in sym (drop-drop 1 (l + 2) s ∙ ap (λ (m : ℕ). drop m s) n)

    go : (z : Bool) → begins (b ">") (drop (l + 2) s) ≡ z → Says s (headed s (cond z (Closing n (l + 3)) Bad))
    go true g = (
      ap (λ (t : Bytes). b "</" ++ (name_of n ++ (b ">" ++ t))) d₁
          ∙ ap (λ (t : Bytes). b "</" ++ (name_of n ++ t)) (sym (begins-split (b ">") (drop (l + 2) s) g) ∙ d)
          ∙ ap (λ (t : Bytes). b "</" ++ t) (sym w.1) ∙ sym (begins-split (b "</") s f),
      w.0,
    )
    go false g = tt

text_says : (s : Bytes) → Says s (headed s (text_head (run (ok Text) s)))
unfolding text_head headed write
text_says s = go (ltb 0 k) refl
  where
    k : ℕ
    k = run (ok Text) s

    go : (z : Bool) → ltb 0 k ≡ z → Says s (headed s (cond z (Words k) Bad))
    go true e = (take-append-drop k s, (omega (arith, ltb-true 0 k e, length-take-le k s (run-le (ok Text) s)), run_clean_cut Text s, run-over (ok Text) s))
    go false e = tt

pub next_says : (s : Bytes) → Says s (next s)
unfolding next head_at_of
next_says s = go (begins (b "</") s) refl (begins (b "<") s) refl
  where
    go : (x : Bool) → begins (b "</") s ≡ x → (y : Bool) → begins (b "<") s ≡ y
        → Says s (headed s (cond x (close_head s (element_at (drop 2 s))) (cond y (open_head_of (element_at (drop 1 s))) (text_head (run (ok Text) s)))))
    go true e y f = close_says s (element_at (drop 2 s)) refl e
    go false e true f = open_says s (element_at (drop 1 s)) refl f
    go false e false f = text_says s

-- ---- the whole

-- what is legal and begins with no run begins with no text
legal_tagged : (ts : List Token) → Legal ts → run (ok Text) (write_all ts) ≡ 0 → Tagged ts
unfolding write_all write
legal_tagged [] nil z = tt
legal_tagged (text [] ∷ ts) (a_text n h apart l) z = absurd (omega arith)
legal_tagged (text (x ∷ t) ∷ ts) (a_text n h apart l) z =
    absurd (go (ok Text (x ∷ (t ++ write_all ts))) (ok-more Text x t (write_all ts) (clean_first x t h)) (unfold run in z))
  where
    go : (y : Bool) → y ≡ true → ◌≡◌ {A = ℕ} (elim y as (λ y. ℕ) [ true ↦ suc (run (ok Text) (t ++ write_all ts)) | false ↦ 0 ]) 0 → ⊥
    go true i e = omega arith
    go false i e = never i
legal_tagged (opens n ps ∷ ts) (an_open h hs l) z = tt
legal_tagged (closes n ∷ ts) (a_close h l) z = tt
legal_tagged (empty n ps ∷ ts) (an_empty h hs l) z = tt

legal_more : (t : Token) (ts : List Token) (r : Bytes) → One t r → write_all ts ≡ r → Legal ts → Legal (t ∷ ts)
legal_more (text t) ts r o e l = a_text o.0 o.1 (legal_tagged ts l (ap (run (ok Text)) e ∙ o.2)) l
legal_more (opens n ps) ts r o e l = an_open o.0 o.1 l
legal_more (closes n) ts r o e l = a_close o l
legal_more (empty n ps) ts r o e l = an_empty o.0 o.1 l

no_tokens {ℓ} : {A : Type ℓ} {ts : List Token} → none ≡ some ts → A
no_tokens e = absurd (let no_way : ◌≡◌ {A = ℕ} 0 1 = cc in omega arith)

at_says : (n : ℕ) (s : Bytes) (ts : List Token) → tokens_at n s ≡ some ts → Legal ts × (write_all ts ≡ s)
unfolding tokens_at write_all
at_says zero [] ts e = let is : [] ≡ ts = cc in subst (λ (us : List Token). Legal us × (write_all us ≡ [])) is (nil, refl)
at_says zero (x ∷ s) ts e = no_tokens e
at_says (suc n) [] ts e = let is : [] ≡ ts = cc in subst (λ (us : List Token). Legal us × (write_all us ≡ [])) is (nil, refl)
at_says (suc n) (x ∷ s) ts e = go (next (x ∷ s)) (next_says (x ∷ s)) e (at_says n)
  where
    Rest : Type 0
    Rest = (r : Bytes) (us : List Token) → tokens_at n r ≡ some us → Legal us × (write_all us ≡ r)

    more_says : (t : Token) (r : Bytes) (o : Option (List Token)) → tokens_at n r ≡ o → Says (x ∷ s) (got t r) → onto t o ≡ some ts → Rest → Legal ts × (write_all ts ≡ x ∷ s)
    more_says t r none i says e back = no_tokens e
    more_says t r (some us) i says e back =
        let is : t ∷ us ≡ ts = cc in
        let rest = back r us i in
        subst (λ (vs : List Token). Legal vs × (write_all vs ≡ x ∷ s)) is
        (legal_more t us r says.1 rest.1 rest.0, ap (write t) rest.1 ∙ says.0)

    go : (p : Read) → Says (x ∷ s) p → more_tokens (tokens_at n) (x ∷ s) p ≡ some ts → Rest → Legal ts × (write_all ts ≡ x ∷ s)
    go bad says e back = no_tokens e
    go (got t r) says e back = more_says t r (tokens_at n r) refl says e back

-- a text has these tokens exactly where they are legal and writing them gives the text
pub tokens_exact : (s : Bytes) (ts : List Token) → (tokens_from s ≡ some ts) ↔ (Legal ts × (write_all ts ≡ s))
tokens_exact s ts = (to, from)
  where
    to : tokens_from s ≡ some ts → Legal ts × (write_all ts ≡ s)
    to e = at_says (length s) s ts (unfold tokens_from in e)

    from : Legal ts × (write_all ts ≡ s) → tokens_from s ≡ some ts
    from h = ap tokens_from (sym h.1) ∙ read_back ts h.0

begins_self : (w r : Bytes) → begins w (w ++ r) ≡ true
unfolding begins
begins_self [] r = refl
begins_self (x ∷ w) r = rw (eq-eqb x x refl) (begins_self w r)

-- and the whole is in tag form exactly where it opens and closes as it must, too
pub form_exact : (s : Bytes) (ts : List Token) → (tokens s ≡ some ts) ↔ TagForm s ts
unfolding tokens
form_exact s ts = (to, from)
  where
    m : ℕ
    m = length s - 6

    to : tokens s ≡ some ts → TagForm s ts
    to e = go (begins opening s && begins closing (drop m s)) refl e
      where
        go : (x : Bool) → (begins opening s && begins closing (drop m s)) ≡ x → cond x (tokens_from s) none ≡ some ts → TagForm s ts
        go false i e = no_tokens e
        go true i e =
            let both = and-true (begins opening s) (begins closing (drop m s)) i in
            let w = (tokens_exact s ts).0 e in
            let six : length (drop m s) ≤ 6 = omega (arith, length-drop m s, begins-fits opening s both.0) in
            let end : drop m s ≡ closing ++ [] = begins-split closing (drop m s) both.1 ∙ ap (λ (z : Bytes). closing ++ z) (drop_of_length-le (drop m s) six) in
            record {
              legal = w.0;
              written = w.1;
              opened = (drop 19 s, begins-split opening s both.0);
              closed = (take m s, sym (take-append-drop m s) ∙ ap (λ (z : Bytes). take m s ++ z) end);
            }

    from : TagForm s ts → tokens s ≡ some ts
    from f =
        let r : Bytes = f.closed.0 in
        let o : begins opening s ≡ true = ap (begins opening) f.opened.1 ∙ begins_self opening f.opened.0 in
        let n : m ≡ length r = omega (arith, ap length f.closed.1, length-append r closing) in
        let c : begins closing (drop m s) ≡ true = ap (λ (k : ℕ). begins closing (drop k s)) n ∙ ap (λ (z : Bytes). begins closing (drop (length r) z)) f.closed.1 ∙ ap (begins closing) (drop-append_seam r closing) ∙ begins_self closing [] in
        rw (o, c) ((tokens_exact s ts).1 (f.legal, f.written))
