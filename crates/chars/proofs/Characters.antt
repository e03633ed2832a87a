-- Laws of sequences, of cutting a text, and of characters.
use mathlib.Core.Path.{◌≡◌, refl, sym, ap, ◌∙◌}
use mathlib.Core.Bool.{Bool, true, false, ◌&&◌, and_assoc}
use mathlib.Core.List.Memᴰ
use mathlib.Core.List.{List, [], ◌∷◌, ◌++◌, append-nil, append_assoc, flatten, Memᴰ}
use mathlib.Core.Logic.{◌↔◌, ⊎_elim}
use Prim.Native.Nat.{ℕ, zero, suc, ◌+◌, ◌-◌, ◌≤◌, ◌<◌}
use native.Mathlib.Nat.{max-eq_right}
use native.Mathlib.Omega.{arith}
use lib.ListN.{length, get_or, take, drop, length-append, length-drop, take-append-drop, get_or-append}
use lib.Seq.{drop-drop, length-take-le, take-append_seam, drop-append_seam}
use lib.Dec.{ltb, eqb, eqb-suc-suc, eqb-suc-zero, leb-suc-suc, leb-suc-zero}
use borrow.Author.Tests.{eq-eqb, ne_eqb, lt-ltb, eqb-true, ltb-true, ltb-false}
use Rattle.parts.specs.Bytes.{Bytes}
use Rattle.parts.proofs.Laws.{and-true as both_true}
use Rattle.chars.specs.Range.{Range, within}
use Rattle.chars.specs.Utf8.{tail, table37, fits, seq_len, step, cut_at, cut, characters, is_sequence, every, is_utf8, Sequence, Partition, is_boundary, Between}
use Rattle.chars.proofs.Lists.{all}
use Rattle.chars.proofs.Rows.{row-some, row_first, row-inner, narrow, row-le, row-take, row-narrow, row-found, row_only, table-ordered, fits-append}

-- ---- the first sequence

pub seq_le : (s : Bytes) → seq_len s ≤ length s
unfolding seq_len
seq_le s = row-le table37 s

pub seq_le_four : (s : Bytes) → seq_len s ≤ 4
unfolding seq_len narrow all table37
seq_le_four s = row-narrow 4 table37 s refl

-- a prefix that holds the whole first sequence begins with it too; one that begins with none still begins with none
pub seq_take : (n : ℕ) (s : Bytes) → seq_len s ≤ n → seq_len (take n s) ≡ seq_len s
unfolding seq_len
seq_take n s h = row-take table37 n s h

pub seq_none : (n : ℕ) (s : Bytes) → seq_len s ≡ 0 → seq_len (take n s) ≡ 0
seq_none n s e = seq_take n s (omega arith) ∙ e

-- what follows a sequence does not change it
pub seq_append : (s z : Bytes) → 0 < seq_len s → seq_len (s ++ z) ≡ seq_len s
unfolding seq_len
seq_append s z h =
    let w = row-found table37 s h in
    row_only 0 table37 w.row (s ++ z) table-ordered w.listed (fits-append w.row s z w.fitting) ∙ sym w.same

-- a text that a row fits begins with a sequence as long as the row, whatever follows
pub seq_row : (r : List Range) (s : Bytes) → Memᴰ r table37 → fits r s ≡ true → seq_len s ≡ length r
unfolding seq_len
seq_row r s m e = row_only 0 table37 r s table-ordered m e

-- ---- steps

pub step_seq : (s : Bytes) → 0 < seq_len s → step s ≡ seq_len s
unfolding step
step_seq [] h = absurd (omega (arith, seq_le []))
step_seq (x ∷ s) h = max-eq_right h

pub step_byte : (s : Bytes) → 0 < length s → seq_len s ≡ 0 → step s ≡ 1
unfolding step
step_byte [] h e = absurd (omega arith)
step_byte (x ∷ s) h e = rw e

pub step-some : (s : Bytes) → 0 < length s → 1 ≤ step s
unfolding step
step-some [] h = absurd (omega arith)
step-some (x ∷ s) h = omega arith

pub step-le : (s : Bytes) → step s ≤ length s
unfolding step
step-le [] = omega arith
step-le (x ∷ s) = omega (arith, seq_le (x ∷ s))

-- ---- cutting

cut-drop : (size : Bytes → ℕ) (k : ℕ) (s : Bytes) → cut_at size k s ≡ cut size (drop k s)
unfolding cut_at
cut-drop size zero s = refl
cut-drop size (suc k) [] = refl
cut-drop size (suc k) (x ∷ s) = cut-drop size k s

pub cut-nil : (size : Bytes → ℕ) → cut size [] ≡ []
unfolding cut_at
cut-nil size = refl

-- where the first piece has at least a byte
module _ {size : Bytes → ℕ} (some : (s : Bytes) → 0 < length s → 1 ≤ size s) where
  pub cut-first : (s : Bytes) → 0 < length s → cut size s ≡ take (size s) s ∷ cut size (drop (size s) s)
  unfolding cut_at
  cut-first [] h = absurd (omega arith)
  cut-first (x ∷ s) h = go (size (x ∷ s)) (some (x ∷ s) h)
    where
      go : (n : ℕ) → 1 ≤ n → take n (x ∷ s) ∷ cut_at size (n - 1) s ≡ take n (x ∷ s) ∷ cut size (drop n (x ∷ s))
      go zero h = absurd (omega arith)
      go (suc n) h = let e : suc n - 1 ≡ n = omega arith in rw (e, cut-drop size n s)

  -- one turn of a loop over the pieces
  pub cut_at_lem : (s : Bytes) (i : ℕ) → i < length s
      → cut size (drop i s) ≡ take (size (drop i s)) (drop i s) ∷ cut size (drop (i + size (drop i s)) s)
  cut_at_lem s i h = cut-first (drop i s) (omega (arith, length-drop i s)) ∙ rw (drop-drop (size (drop i s)) i s)

  -- what holds of the empty text, and of a text where it holds behind the first piece, holds of every text
  pub cut_induct : (P : Bytes → Type 0) → P [] → ((s : Bytes) → 0 < length s → P (drop (size s) s) → P s) → (s : Bytes) → P s
  cut_induct P none more s = go (length s) s (omega arith)
    where
      turn : (n : ℕ) → ((s : Bytes) → length s ≤ n → P s) → (s : Bytes) → length s ≤ suc n → P s
      turn n f [] h = none
      turn n f (x ∷ s) h =
          more (x ∷ s) (omega arith)
          (f (drop (size (x ∷ s)) (x ∷ s)) (omega (arith, some (x ∷ s) (omega arith), length-drop (size (x ∷ s)) (x ∷ s))))

      empty : (s : Bytes) → length s ≤ 0 → P s
      empty [] h = none
      empty (x ∷ s) h = absurd (omega arith)

      go : (n : ℕ) (s : Bytes) → length s ≤ n → P s
      go zero s h = empty s h
      go (suc n) s h = turn n (go n) s h

  pub cut_whole : (s : Bytes) → flatten (cut size s) ≡ s
  unfolding flatten cut_at
  cut_whole s =
      cut_induct (λ s. flatten (cut size s) ≡ s) refl (λ s h e. rw (cut-first s h, e) (take-append-drop (size s) s)) s

-- ---- UTF-8

-- the first character of a text that begins with a sequence is that sequence
pub seq_is : (s : Bytes) → 0 < seq_len s → is_sequence (take (seq_len s) s) ≡ true
unfolding is_sequence
seq_is s h = eq-eqb _ _ (seq_take (seq_len s) s (omega arith) ∙ sym (length-take-le (seq_len s) s (seq_le s)))

pub byte_is_not : (s : Bytes) → 0 < length s → seq_len s ≡ 0 → is_sequence (take 1 s) ≡ false
unfolding is_sequence
byte_is_not s h e = rw (seq_none 1 s e, length-take-le 1 s h)

pub utf8_nil : is_utf8 [] ≡ true
unfolding is_utf8 characters every cut_at
utf8_nil = refl

pub utf8_first : (s : Bytes) → 0 < seq_len s → is_utf8 s ≡ is_utf8 (drop (seq_len s) s)
unfolding is_utf8 characters every
utf8_first s h =
    rw (cut-first step-some s (omega (arith, seq_le s)), step_seq s h, seq_is s h)

pub utf8_not : (s : Bytes) → 0 < length s → seq_len s ≡ 0 → is_utf8 s ≡ false
unfolding is_utf8 characters every
utf8_not s h e = rw (cut-first step-some s h, step_byte s h e, byte_is_not s h e)

-- ---- texts made of sequences

-- sequences, none of them empty
abbrev pub Whole : List Bytes → Type 0
Whole [] = Unit {0}
Whole (c ∷ cs) = (0 < length c) × (seq_len c ≡ length c) × Whole cs

-- the characters of a UTF-8 text are sequences
pub utf8_whole : (s : Bytes) → is_utf8 s ≡ true → Whole (characters s)
unfolding is_utf8 characters every is_sequence
utf8_whole s = cut_induct step-some (λ s. every is_sequence (cut step s) ≡ true → Whole (cut step s)) (λ e. nil) more s
  where
    nil : Whole (cut step [])
    nil = rw (cut-nil step) tt

    more : (s : Bytes) → 0 < length s → (every is_sequence (cut step (drop (step s) s)) ≡ true → Whole (cut step (drop (step s) s)))
        → every is_sequence (cut step s) ≡ true → Whole (cut step s)
    more s h f e =
        let b = both_true (eqb (seq_len (take (step s) s)) (length (take (step s) s))) _ (rw (cut-first step-some s h) at e) in
        rw (cut-first step-some s h) (
          omega (arith, step-some s h, length-take-le (step s) s (step-le s)),
          eqb-true (seq_len (take (step s) s)) (length (take (step s) s)) b.0,
          f b.1,
        )

-- a sequence in front is the first character
pub characters_front : (c z : Bytes) → 0 < length c → seq_len c ≡ length c → characters (c ++ z) ≡ c ∷ characters z
unfolding characters
characters_front c z h e =
    let n : step (c ++ z) ≡ length c = step_seq (c ++ z) (omega (arith, seq_append c z (omega arith))) ∙ seq_append c z (omega arith) ∙ e in
    cut-first step-some (c ++ z) (omega (arith, length-append c z)) ∙ rw (n, take-append_seam c z, drop-append_seam c z)

pub characters_whole : (cs : List Bytes) (z : Bytes) → Whole cs → characters (flatten cs ++ z) ≡ cs ++ characters z
unfolding flatten
characters_whole [] z w = refl
characters_whole (c ∷ cs) z w =
    rw (append_assoc c (flatten cs) z)
    (characters_front c (flatten cs ++ z) w.0 w.1 ∙ rw (characters_whole cs z w.2))

pub characters_flatten : (s : Bytes) → flatten (characters s) ≡ s
unfolding characters
characters_flatten s = cut_whole step-some s

pub characters-append : (a z : Bytes) → is_utf8 a ≡ true → characters (a ++ z) ≡ characters a ++ characters z
characters-append a z e =
    ap (λ (x : Bytes). characters (x ++ z)) (sym (characters_flatten a)) ∙ characters_whole (characters a) z (utf8_whole a e)

every_append : (p : Bytes → Bool) (xs ys : List Bytes) → every p (xs ++ ys) ≡ every p xs && every p ys
unfolding every
every_append p [] ys = refl
every_append p (x ∷ xs) ys = rw (every_append p xs ys) (sym (and_assoc (p x) (every p xs) (every p ys)))

-- behind UTF-8 a text is UTF-8 where what follows is
pub utf8_append : (a z : Bytes) → is_utf8 a ≡ true → is_utf8 (a ++ z) ≡ is_utf8 z
unfolding is_utf8
utf8_append a z e = rw (characters-append a z e, every_append is_sequence (characters a) (characters z), e)

-- ---- UTF-8 is what falls apart into well-formed sequences

whole_sequence : (cs : List Bytes) → Whole cs → (c : Bytes) → Memᴰ c cs → Sequence c
unfolding seq_len
whole_sequence [] w c m = absurd (Memᴰ.not-nil m)
whole_sequence (d ∷ cs) w c m =
    ⊎_elim (λ same. rw same (sequence w.0 w.1)) (λ later. whole_sequence cs w.2 c later) (Memᴰ.cases_cons m)
  where
    sequence : 0 < length d → seq_len d ≡ length d → Sequence d
    sequence h e =
        let r = row-found table37 d (omega arith) in
        record { row = r.row; listed = r.listed; long = sym r.same ∙ e; fitting = r.fitting }

sequence_whole : (cs : List Bytes) → ((c : Bytes) → Memᴰ c cs → Sequence c) → Whole cs
sequence_whole [] f = tt
sequence_whole (c ∷ cs) f =
    let q = f c (Memᴰ.head refl) in (
      row-some q.row c q.listed q.fitting,
      seq_row q.row c q.listed q.fitting ∙ q.long,
      sequence_whole cs (λ d m. f d (Memᴰ.tail m)),
    )

whole_every : (cs : List Bytes) → Whole cs → every is_sequence cs ≡ true
unfolding every is_sequence
whole_every [] w = refl
whole_every (c ∷ cs) w = rw (eq-eqb (seq_len c) (length c) w.1, whole_every cs w.2)

utf8_partition : (s : Bytes) → is_utf8 s ≡ true → Partition s
utf8_partition s e =
    record { pieces = characters s; each = whole_sequence (characters s) (utf8_whole s e); whole = characters_flatten s }

partition_utf8 : (s : Bytes) → Partition s → is_utf8 s ≡ true
unfolding is_utf8 characters cut_at
partition_utf8 s p =
    let w = sequence_whole p.pieces p.each in
    let e : characters s ≡ p.pieces =
    ap characters (sym p.whole ∙ sym (append-nil (flatten p.pieces))) ∙ characters_whole p.pieces [] w ∙ append-nil p.pieces in
    rw e (whole_every p.pieces w)

pub utf8_sequences : (s : Bytes) → (is_utf8 s ≡ true) ↔ Partition s
utf8_sequences s = (utf8_partition s, partition_utf8 s)

-- ---- places between characters

boundary_next : (x : ℕ) (s : Bytes) (at : ℕ) → is_boundary (x ∷ s) (suc at) ≡ is_boundary s at
unfolding is_boundary
boundary_next x s at = rw (eqb-suc-suc at (length s), leb-suc-suc (suc at) (length s))

boundary_shift : (c z : Bytes) (at n : ℕ) → n ≡ length c + at → is_boundary (c ++ z) n ≡ is_boundary z at
boundary_shift [] z at n e = let q : n ≡ at = omega arith in rw q
boundary_shift (x ∷ c) z at zero e = absurd (omega arith)
boundary_shift (x ∷ c) z at (suc n) e = boundary_next x (c ++ z) n ∙ boundary_shift c z at n (omega arith)

-- the first byte of a sequence is none of 80..BF
pub seq_lead : (c : Bytes) → 0 < seq_len c → within tail (get_or c 0 0) ≡ false
unfolding seq_len
seq_lead c h = let w = row-found table37 c h in row_first w.row c w.listed w.fitting

-- and those behind it are
pub seq_inner : (c : Bytes) (i : ℕ) → 0 < i → i < seq_len c → within tail (get_or c i 0) ≡ true
unfolding seq_len
seq_inner c i l h =
    let w = row-found table37 c (omega arith) in row-inner w.row c w.listed w.fitting i l (omega (arith, w.same))

module _ (c z : Bytes) (h : 0 < length c) (e : seq_len c ≡ length c) where
  boundary_start : is_boundary (c ++ z) 0 ≡ true
  unfolding is_boundary
  boundary_start =
      rw (
        ne_eqb 0 (length (c ++ z)) (λ (q : 0 ≡ length (c ++ z)). omega (arith, length-append c z)),
        lt-ltb 0 (length (c ++ z)) (omega (arith, length-append c z)),
        get_or-append c z 0 0 h,
        seq_lead c (omega arith),
      )

  boundary_inner : (at : ℕ) → 0 < at → at < length c → is_boundary (c ++ z) at ≡ false
  unfolding is_boundary
  boundary_inner at l k =
      rw (
        ne_eqb at (length (c ++ z)) (λ (q : at ≡ length (c ++ z)). omega (arith, length-append c z)),
        lt-ltb at (length (c ++ z)) (omega (arith, length-append c z)),
        get_or-append c z 0 at k,
        seq_inner c at l (omega arith),
      )

behind : (cs : List Bytes) → Whole cs → (k : ℕ) → is_boundary (flatten cs) (length (flatten (take k cs))) ≡ true
unfolding flatten is_boundary
behind [] w zero = refl
behind [] w (suc k) = refl
behind (c ∷ cs) w zero = boundary_start c (flatten cs) w.0 w.1
behind (c ∷ cs) w (suc k) =
    boundary_shift c (flatten cs) (length (flatten (take k cs))) (length (c ++ flatten (take k cs))) (length-append c (flatten (take k cs)))
    ∙ behind cs w.2 k

boundary_nil : (at : ℕ) → is_boundary [] at ≡ true → at ≡ 0
unfolding is_boundary
boundary_nil zero e = refl
boundary_nil (suc at) e = absurd (let no_way : ◌≡◌ {A = ℕ} 0 1 = cc (eqb-suc-zero at, leb-suc-zero (suc at)) in omega arith)

place : (cs : List Bytes) → Whole cs → (at : ℕ) → is_boundary (flatten cs) at ≡ true → (k : ℕ) × (at ≡ length (flatten (take k cs)))
unfolding flatten
place [] w at e = (0, boundary_nil at e)
place (c ∷ cs) w zero e = (0, refl)
place (c ∷ cs) w (suc at) e = go (ltb (suc at) (length c)) refl (λ n f. place cs w.2 n f)
  where
    go : (t : Bool) → ltb (suc at) (length c) ≡ t
        → ((n : ℕ) → is_boundary (flatten cs) n ≡ true → (k : ℕ) × (n ≡ length (flatten (take k cs))))
        → (k : ℕ) × (suc at ≡ length (flatten (take k (c ∷ cs))))
    go true h f =
        let l = ltb-true (suc at) (length c) h in
        absurd (let no_way : ◌≡◌ {A = ℕ} 0 1 = cc (boundary_inner c (flatten cs) w.0 w.1 (suc at) (omega arith) l) in omega arith)
    go false h f =
        let l = ltb-false (suc at) (length c) h in
        let r = f (suc at - length c) (sym (boundary_shift c (flatten cs) (suc at - length c) (suc at) (omega arith)) ∙ e) in
        (suc r.0, omega (arith, r.1, length-append c (flatten (take r.0 cs))))

-- in UTF-8 the boundaries are the places between characters
pub boundary_between : (s : Bytes) (at : ℕ) → is_utf8 s ≡ true → (is_boundary s at ≡ true) ↔ Between s at
boundary_between s at e = (
  λ h. let r = place (characters s) (utf8_whole s e) at (rw (characters_flatten s) h) in record { passed = r.0; place = r.1 },
  λ p. let b = behind (characters s) (utf8_whole s e) p.passed in rw p.place (rw characters_flatten at b),
)
