-- The lexer reads back what is written.
use mathlib.Core.Path.{◌≡◌, refl, sym, ap, ◌∙◌, subst}
use mathlib.Core.Bool.{Bool, true, false, cond, not, ◌||◌}
use mathlib.Core.List.{List, [], ◌∷◌, ◌++◌}
use mathlib.Core.Option.{some}
use Prim.Native.Nat.{ℕ, zero, suc, ◌+◌, ◌<◌}
use native.Mathlib.Omega.{arith}
use lib.ListN.{length, drop, length-append}
use lib.Seq.{take-append_seam, drop-append_seam, drop-append-add}
use lib.Dec.{eqb}
use borrow.Author.Tests.{lt-ltb, eqb-true}
use Rattle.parts.specs.Bytes.{Bytes, b, begins}
use Rattle.parts.proofs.Laws.{and-true}
use Rattle.tags.specs.Names.{name_of, IsName, which, element_at}
use Rattle.tags.specs.Form.{plain, key_byte_of, escape_at, ok, run, Pair, pair_at, pair_len, pair_of, pairs_row, Token, text, opens, closes, empty, got, close_head, open_head_of, text_head, head_at_of, tail_at, ended, tagged, headed, next, more_tokens, tokens_from}
use Rattle.tags.specs.Write.{write_pair, write_pairs, write, write_all, Clean, CleanPair, CleanPairs, none as no_pair, more, Tagged, Legal, nil, a_text, an_open, a_close, an_empty}
use Rattle.tags.specs.declared.Class.{Class}
use Rattle.tags.specs.declared.Class.TheVariants.{Text, Value, Key}
use Rattle.tags.specs.declared.Named.TheVariants.{Name}
use Rattle.std.specs.Prelude.{Some, None}
use Rattle.tags.proofs.Laws.{pairs-by, pair_got}
use Rattle.tags.proofs.Tokens.{tokens-by}

-- ---- runs

pub begins-more : (w s r : Bytes) → begins w s ≡ true → begins w (s ++ r) ≡ true
unfolding begins
begins-more [] s r e = refl
begins-more (x ∷ w) [] r e = absurd (let no_way : ◌≡◌ {A = ℕ} 0 1 = cc in omega arith)
begins-more (x ∷ w) (y ∷ s) r e =
    let h = and-true (eqb x y) (begins w s) e in
    rw h.0 (begins-more w s r h.1)

pub or-more : (x y x' y' : Bool) → (x ≡ true → x' ≡ true) → (y ≡ true → y' ≡ true) → (x || y) ≡ true → (x' || y') ≡ true
or-more true y x' y' f g e = rw (f refl)
or-more false y true y' f g e = refl
or-more false y false y' f g e = g e

escape-more : (s r : Bytes) → escape_at s ≡ true → escape_at (s ++ r) ≡ true
unfolding escape_at
escape-more s r = or-more _ _ _ _ (begins-more _ s r) (or-more _ _ _ _ (begins-more _ s r) (begins-more _ s r))

-- what may stand may stand in front of anything
pub ok-more : (c : Class) (x : ℕ) (s r : Bytes) → ok c (x ∷ s) ≡ true → ok c (x ∷ (s ++ r)) ≡ true
unfolding ok
ok-more Text x s r = go (plain x)
  where
    go : (z : Bool) → cond z true (escape_at (x ∷ s)) ≡ true → cond z true (escape_at (x ∷ (s ++ r))) ≡ true
    go true e = refl
    go false e = escape-more (x ∷ s) r e
ok-more Value x s r = go (plain x)
  where
    go : (z : Bool) → cond z (not (eqb x 34)) (escape_at (x ∷ s) || begins (b "&quot;") (x ∷ s)) ≡ true
        → cond z (not (eqb x 34)) (escape_at (x ∷ (s ++ r)) || begins (b "&quot;") (x ∷ (s ++ r))) ≡ true
    go true e = e
    go false e = or-more _ _ _ _ (escape-more (x ∷ s) r) (begins-more _ (x ∷ s) r) e
ok-more Key x s r = λ e. e

-- a clean run reads as far as it goes
pub run_clean : (c : Class) (s r : Bytes) → Clean c s → run (ok c) r ≡ 0 → run (ok c) (s ++ r) ≡ length s
unfolding run
run_clean c [] r h z = z
run_clean c (x ∷ s) r h z = go (ok c (x ∷ s)) refl h (run_clean c s r)
  where
    go : (t : Bool) → ok c (x ∷ s) ≡ t → elim t as (λ t. ℕ) [ true ↦ suc (run (ok c) s) | false ↦ 0 ] ≡ suc (length s)
        → (Clean c s → run (ok c) r ≡ 0 → run (ok c) (s ++ r) ≡ length s) → run (ok c) (x ∷ (s ++ r)) ≡ suc (length s)
    go true e i rest = rw (ok-more c x s r e, run) (ap suc (rest (omega arith) z))
    go false e i rest = absurd (omega arith)

-- ---- attributes

stop_key : (r : Bytes) → run (ok Key) (b "=\"" ++ r) ≡ 0
unfolding run ok plain key_byte_of
stop_key r = refl

stop_value : (r : Bytes) → run (ok Value) (b "\"" ++ r) ≡ 0
unfolding run ok plain
stop_value r = refl

pub pair_write : (a : Pair) (r : Bytes) → CleanPair a → pair_at (write_pair a r) ≡ Some (length a.key, length a.value)
unfolding write_pair begins
pair_write a r h =
    let s₃ : Bytes = a.value ++ (b "\"" ++ r) in
    let s₂ : Bytes = b "=\"" ++ s₃ in
    sym (pair_got (write_pair a r) refl refl {s₁ = a.key ++ s₂} refl (sym (run_clean Key a.key s₂ h.key (stop_key s₃))) h.some
    {s₂ = s₂} (sym (drop-append_seam a.key s₂)) refl refl {s₃ = s₃} refl (sym (run_clean Value a.value (b "\"" ++ r) h.value (stop_value r)))
    {s₄ = b "\"" ++ r} (sym (drop-append_seam a.value (b "\"" ++ r))) refl refl)

-- the two texts behind a key and its value
pair_of_write : (a : Pair) (r : Bytes) → pair_of (write_pair a r) (length a.key) (length a.value) ≡ a
unfolding write_pair
pair_of_write a r =
    let X : Bytes = b "=\"" ++ (a.value ++ (b "\"" ++ r)) in
    let e : length a.key + 3 ≡ suc (length a.key + 2) = omega arith in
    rw (e, drop-append-add a.key X 2, take-append_seam a.key X, take-append_seam a.value (b "\"" ++ r))

rest-write : (a : Pair) (r : Bytes) → drop (pair_len (length a.key) (length a.value)) (write_pair a r) ≡ r
unfolding write_pair
rest-write a r =
    let e : length a.key + length a.value + 4 ≡ suc (length a.key + suc (suc (length a.value + 1))) = omega arith in
    rw (e, drop-append-add a.key (b "=\"" ++ (a.value ++ (b "\"" ++ r))) (suc (suc (length a.value + 1))), drop-append-add a.value (b "\"" ++ r) 1)

pub pairs-write : (ps : List Pair) (r : Bytes) → CleanPairs ps → pair_at r ≡ None → pairs_row (write_pairs ps r) ≡ record { list = ps; rest = r }
unfolding write_pairs
pairs-write [] r no_pair e = pairs-by r None e
pairs-write (a ∷ ps) r (more h hs) e =
    pairs-by (write_pair a (write_pairs ps r)) _ (pair_write a (write_pairs ps r) h)
    ∙ rw (pair_of_write a (write_pairs ps r), rest-write a (write_pairs ps r), pairs-write ps r hs e)

-- ---- tokens

stop_text : (r : Bytes) → run (ok Text) (60 ∷ r) ≡ 0
unfolding run ok plain escape_at begins
stop_text r = refl

-- behind a tag no pair stands
shut_open : (r : Bytes) → pair_at (b ">" ++ r) ≡ None
unfolding pair_at begins
shut_open r = refl

shut_empty : (r : Bytes) → pair_at (b " />" ++ r) ≡ None
unfolding pair_at begins run ok plain key_byte_of
shut_empty r = refl

-- the name of each element is read, and `<` in front of it opens no closing tag
each_name : (n : ℕ) (r : Bytes) → IsName n → (element_at (name_of n ++ r) ≡ Name n (length (name_of n))) × (begins (b "</") (60 ∷ (name_of n ++ r)) ≡ false)
unfolding element_at which name_of begins
each_name zero r h = absurd (omega arith)
each_name (suc zero) r h = (refl, refl)
each_name (suc (suc zero)) r h = (refl, refl)
each_name (suc (suc (suc zero))) r h = (refl, refl)
each_name (suc (suc (suc (suc zero)))) r h = (refl, refl)
each_name (suc (suc (suc (suc (suc zero))))) r h = (refl, refl)
each_name (suc (suc (suc (suc (suc (suc zero)))))) r h = (refl, refl)
each_name (suc (suc (suc (suc (suc (suc (suc zero))))))) r h = (refl, refl)
each_name (suc (suc (suc (suc (suc (suc (suc (suc zero)))))))) r h = (refl, refl)
each_name (suc (suc (suc (suc (suc (suc (suc (suc (suc zero))))))))) r h = (refl, refl)
each_name (suc (suc (suc (suc (suc (suc (suc (suc (suc (suc zero)))))))))) r h = (refl, refl)
each_name (suc (suc (suc (suc (suc (suc (suc (suc (suc (suc (suc zero))))))))))) r h = (refl, refl)
each_name (suc (suc (suc (suc (suc (suc (suc (suc (suc (suc (suc (suc zero)))))))))))) r h = (refl, refl)
each_name (suc (suc (suc (suc (suc (suc (suc (suc (suc (suc (suc (suc (suc zero))))))))))))) r h = (refl, refl)
each_name (suc (suc (suc (suc (suc (suc (suc (suc (suc (suc (suc (suc (suc (suc zero)))))))))))))) r h = (refl, refl)
each_name (suc (suc (suc (suc (suc (suc (suc (suc (suc (suc (suc (suc (suc (suc (suc zero))))))))))))))) r h = (refl, refl)
each_name (suc (suc (suc (suc (suc (suc (suc (suc (suc (suc (suc (suc (suc (suc (suc (suc zero)))))))))))))))) r h = (refl, refl)
each_name (suc (suc (suc (suc (suc (suc (suc (suc (suc (suc (suc (suc (suc (suc (suc (suc (suc n))))))))))))))))) r h = absurd (omega arith)

pub element-write : (n : ℕ) (r : Bytes) → IsName n → element_at (name_of n ++ r) ≡ Name n (length (name_of n))
element-write n r h = (each_name n r h).0

no_slash : (n : ℕ) (r : Bytes) → IsName n → begins (b "</") (60 ∷ (name_of n ++ r)) ≡ false
no_slash n r h = (each_name n r h).1

next-close : (n : ℕ) (r : Bytes) → IsName n → next (write (closes n) r) ≡ got (closes n) r
unfolding next head_at_of headed write begins close_head
next-close n r h =
    let e : length (name_of n) + 2 ≡ suc (suc (length (name_of n))) = omega arith in
    let f : length (name_of n) + 3 ≡ suc (suc (length (name_of n) + 1)) = omega arith in
    rw (element-write n (b ">" ++ r) h, e, f) (rw (drop-append_seam (name_of n) (b ">" ++ r), drop-append-add (name_of n) (b ">" ++ r) 1))

open_head : (n : ℕ) (r : Bytes) → IsName n → next (b "<" ++ (name_of n ++ r)) ≡ tagged n r
unfolding next head_at_of headed open_head_of begins
open_head n r h =
    let e : length (name_of n) + 1 ≡ suc (length (name_of n)) = omega arith in
    rw (no_slash n r h, element-write n r h, e) (rw (drop-append_seam (name_of n) r))

next_open : (n : ℕ) (ps : List Pair) (r : Bytes) → IsName n → CleanPairs ps → next (write (opens n ps) r) ≡ got (opens n ps) r
unfolding write tagged tail_at ended begins
next_open n ps r h hs = open_head n (write_pairs ps (b ">" ++ r)) h ∙ rw (pairs-write ps (b ">" ++ r) hs (shut_open r))

next-empty : (n : ℕ) (ps : List Pair) (r : Bytes) → IsName n → CleanPairs ps → next (write (empty n ps) r) ≡ got (empty n ps) r
unfolding write tagged tail_at ended begins
next-empty n ps r h hs = open_head n (write_pairs ps (b " />" ++ r)) h ∙ rw (pairs-write ps (b " />" ++ r) hs (shut_empty r))

first-ok : (x : ℕ) (s : Bytes) → ok Text (x ∷ s) ≡ true → eqb 60 x ≡ false
unfolding ok plain escape_at begins
first-ok x s e = go (eqb 60 x) refl
  where
    go : (t : Bool) → eqb 60 x ≡ t → eqb 60 x ≡ false
    go false h = h
    go true h =
        let bad_first : ok Text (60 ∷ s) ≡ true = subst (λ (z : ℕ). ok Text (z ∷ s) ≡ true) (sym (eqb-true 60 x h)) e in
        absurd (let no_way : ◌≡◌ {A = ℕ} 0 1 = cc in omega arith)

pub clean_first : (x : ℕ) (s : Bytes) → Clean Text (x ∷ s) → ok Text (x ∷ s) ≡ true
unfolding run
clean_first x s h = go (ok Text (x ∷ s)) refl h
  where
    go : (t : Bool) → ok Text (x ∷ s) ≡ t → elim t as (λ t. ℕ) [ true ↦ suc (run (ok Text) s) | false ↦ 0 ] ≡ suc (length s) → ok Text (x ∷ s) ≡ true
    go true e i = e
    go false e i = absurd (omega arith)

next-text : (t r : Bytes) → 0 < length t → Clean Text t → run (ok Text) r ≡ 0 → next (t ++ r) ≡ got (text t) r
unfolding next head_at_of headed begins text_head
next-text [] r n h z = absurd (omega arith)
next-text (x ∷ t) r n h z =
    rw (first-ok x t (clean_first x t h), run_clean Text (x ∷ t) r h z, lt-ltb 0 (suc (length t)) n)
    (rw (take-append_seam (x ∷ t) r, drop-append_seam (x ∷ t) r))

-- what follows a text stops its run
tagged-stops : (ts : List Token) → Tagged ts → run (ok Text) (write_all ts) ≡ 0
unfolding write_all write run
tagged-stops [] h = refl
tagged-stops (text t ∷ ts) h = absurd h
tagged-stops (opens n ps ∷ ts) h = stop_text _
tagged-stops (closes n ∷ ts) h = stop_text _
tagged-stops (empty n ps ∷ ts) h = stop_text _

one_back : (t : Token) (ts : List Token) → next (write t (write_all ts)) ≡ got t (write_all ts) → 0 < length (write t (write_all ts))
    → tokens_from (write_all ts) ≡ some ts → tokens_from (write_all (t ∷ ts)) ≡ some (t ∷ ts)
unfolding write_all
one_back t ts e n back = tokens-by (write t (write_all ts)) ∙ go (write t (write_all ts)) n
  where
    go : (s : Bytes) → 0 < length s → more_tokens tokens_from s (next (write t (write_all ts))) ≡ some (t ∷ ts)
    go [] h = absurd (omega arith)
    go (x ∷ s) h = rw (e, back)

pub read_back : (ts : List Token) → Legal ts → tokens_from (write_all ts) ≡ some ts
unfolding write_all
read_back [] nil = tokens-by []
read_back (text t ∷ ts) (a_text n h apart l) =
    one_back (text t) ts (unfold write in next-text t (write_all ts) n h (tagged-stops ts apart)) (unfold write in omega (arith, length-append t (write_all ts))) (read_back ts l)
read_back (opens n ps ∷ ts) (an_open h hs l) = one_back (opens n ps) ts (next_open n ps (write_all ts) h hs) (unfold write in omega arith) (read_back ts l)
read_back (closes n ∷ ts) (a_close h l) = one_back (closes n) ts (next-close n (write_all ts) h) (unfold write in omega arith) (read_back ts l)
read_back (empty n ps ∷ ts) (an_empty h hs l) = one_back (empty n ps) ts (next-empty n ps (write_all ts) h hs) (unfold write in omega arith) (read_back ts l)
