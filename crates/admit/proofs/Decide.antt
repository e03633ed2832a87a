-- The computed number is the number of a file, and there is no other.
use mathlib.Core.Path.{◌≡◌, refl, sym, ap, ◌∙◌}
use mathlib.Core.Bool.{Bool, true, false, cond, not, ◌&&◌, ◌||◌}
use mathlib.Core.Logic.{◌↔◌, ◌⊎◌, inl, inr, ⊎_elim}
use Prim.Native.Nat.{ℕ, zero, suc, ◌≤◌, ◌<◌}
use native.Mathlib.Omega.{arith}
use lib.ListN.{length, get_or}
use lib.Dec.{eqb, ltb, leb}
use borrow.Author.Tests.{eqb-true, eqb-false, ltb-true, lt-ltb}
use Rattle.parts.specs.Bytes.{Bytes}
use Rattle.chars.specs.Utf8.{is_utf8}
use Rattle.tape.specs.File.{Tape, tape_of, sections_of, entry_at}
use Rattle.tape.specs.declared.Entry.{Entry}
use Rattle.nest.specs.Nest.{TooDeep, Sound}
use Rattle.nest.specs.Decide.{too_deep, sound}
use Rattle.nest.proofs.Tape.{yes_is, no_is, clash}
use Rattle.nest.proofs.Walk.{by_test}
use Rattle.nest.proofs.Decide.{decides_6, decides_7}
use Rattle.admit.specs.Rules.{LaidOut, Small, GoodEntry, GoodNames, GoodNode, GoodNodes, LabelCut}
use Rattle.admit.specs.Pieces.{GoodByte}
use Rattle.std.specs.Borrow.{Bor}
use Rattle.std.specs.Prelude.{Result, Ok, Err, IfOk}
use Rattle.tape.specs.declared.TapeFile.{TapeFile}
use Rattle.tape.specs.declared.Sections.{Sections}
use Rattle.admit.specs.declared.reason.Reason.{Reason}
use Rattle.admit.specs.declared.reason.Reason.TheVariants.{Layout, Limits, Source, Names, Nodes, Depth, Nesting}
use Rattle.admit.specs.Refusal.{Kept₁, Kept₂, Kept₃, Kept₄, Kept₅, Kept₆, Kept₇, Refusal, none, first, second, third, fourth, fifth, sixth, seventh, reason_number, refusal_number, said_of}
use Rattle.admit.specs.Decide.{all_below, laid_out, small, good_byte, good_entry, good_names, label_cut, good_node, good_nodes, refusal_in, refusal}
use Rattle.admit.proofs.All.{eq_is, le_is, same_is}

-- ---- tests

lt_is : (a b : ℕ) → (ltb a b ≡ true) ↔ (a < b)
lt_is a b = (λ e. ltb-true a b e, λ h. lt-ltb a b h)

le : (a b : ℕ) → (leb a b ≡ true) ↔ (a ≤ b)
le a b = le_is a b (λ h. h) (λ h. h)

eq : (a b : ℕ) → (eqb a b ≡ true) ↔ (a ≡ b)
eq a b = eq_is a b (λ h. h) (λ h. h)

it : (b : Bool) → (b ≡ true) ↔ (b ≡ true)
it b = (λ e. e, λ e. e)

both : {P Q : Type 0} {a b : Bool} → (a ≡ true) ↔ P → (b ≡ true) ↔ Q → ((a && b) ≡ true) ↔ (P × Q)
both {a = true} p q = (λ e. (p.0 refl, q.0 e), λ r. q.1 r.1)
both {a = false} p q = no_is (λ r. clash (p.1 r.0) refl)

either : {P Q : Type 0} {a b : Bool} → (a ≡ true) ↔ P → (b ≡ true) ↔ Q → ((a || b) ≡ true) ↔ (P ⊎ Q)
either {a = true} p q = yes_is (inl (p.0 refl))
either {a = false} p q = (λ e. inr (q.0 e), ⊎_elim (λ r. absurd (clash (p.1 r) refl)) q.1)

-- a test that is asked only where another passes
where_so : {P Q : Type 0} {a b : Bool} → (a ≡ true) ↔ P → (b ≡ true) ↔ Q → (cond a b true ≡ true) ↔ (P → Q)
where_so {a = true} p q = (λ e r. q.0 e, λ f. q.1 (f (p.0 refl)))
where_so {a = false} p q = yes_is (λ r. absurd (clash (p.1 r) refl))

together : {P Q : Type 0} {a b : Bool} → (a ≡ true) ↔ P → (b ≡ true) ↔ Q → (cond a b (not b) ≡ true) ↔ (P ↔ Q)
together {a = true} p q = (λ e. (λ r. q.0 e, λ r. p.0 refl), λ f. q.1 (f.0 (p.0 refl)))
together {a = false} {b = true} p q = no_is (λ f. clash (p.1 (f.1 (q.0 refl))) refl)
together {a = false} {b = false} p q = yes_is (λ r. absurd (clash (p.1 r) refl), λ r. absurd (clash (q.1 r) refl))

-- what fails is false
no : {P : Type 0} {b : Bool} → (b ≡ true) ↔ P → (P → ⊥) → b ≡ false
no {b = b} a n = by_test b (λ e. n (a.0 e))

all_is : (f : ℕ → Bool) (P : ℕ → Type 0) → ((k : ℕ) → (f k ≡ true) ↔ P k) → (n : ℕ) → (all_below f n ≡ true) ↔ ((k : ℕ) → k < n → P k)
unfolding all_below
all_is f P d zero = yes_is (λ k h. absurd (omega arith))
all_is f P d (suc n) = same_is (both (d n) (all_is f P d n)) (λ r. grow r.0 r.1) (λ g. (g n (omega arith), λ k h. g k (omega arith)))
  where
    grow : P n → ((k : ℕ) → k < n → P k) → (k : ℕ) → k < suc n → P k
    grow p g k h = go (eqb k n) refl
      where
        go : (b : Bool) → eqb k n ≡ b → P k
        go true e = rw (eqb-true k n e) p
        go false e = let d : k ≡ n → ⊥ = eqb-false k n e in g k (omega arith)

-- ---- the rules

pub decides_1 : (file : Bytes) → (laid_out file ≡ true) ↔ LaidOut file
unfolding laid_out
decides_1 file =
    same_is (both (le _ _) (both (eq _ _) (both (eq _ _) (both (eq _ _) (both (eq _ _) (both (eq _ _) (eq _ _)))))))
    (λ r.
    record {
      header = r.0;
      format = r.1.0;
      nodes = r.1.1.0;
      entries = r.1.1.1.0;
      names = r.1.1.1.1.0;
      source = r.1.1.1.1.1.0;
      whole = r.1.1.1.1.1.1;
    })
    (λ l. (l.header, (l.format, (l.nodes, (l.entries, (l.names, (l.source, l.whole)))))))

pub decides_2 : (file : Bytes) → (small file ≡ true) ↔ Small file
unfolding small
decides_2 file =
    same_is (both (lt_is _ _) (both (le _ _) (both (le _ _) (both (le _ _) (le _ _)))))
    (λ r. record { some = r.0; nodes = r.1.0; entries = r.1.1.0; names = r.1.1.1.0; source = r.1.1.1.1 })
    (λ l. (l.some, (l.nodes, (l.entries, (l.names, l.source)))))

module _ (t : Tape) where
  entry_is : (e : Entry) → (good_entry t e ≡ true) ↔ GoodEntry t e
  unfolding good_entry
  entry_is e =
      same_is (both (le _ _) (both (le _ _) (le _ _)))
      (λ r. record { inside = r.0; category = r.1.0; element = r.1.1 })
      (λ g. (g.inside, (g.category, g.element)))

  byte_is : (x : ℕ) → (good_byte x ≡ true) ↔ GoodByte x
  unfolding good_byte
  byte_is x = both (le 33 x) (le x 126)

  pub decides_4 : (good_names t ≡ true) ↔ GoodNames t
  unfolding good_names
  decides_4 =
      same_is
      (both (all_is (λ i. good_byte (get_or t.names i 0)) (λ i. GoodByte (get_or t.names i 0)) (λ i. byte_is (get_or t.names i 0)) (length t.names))
      (all_is (λ i. good_entry t (entry_at t i)) (λ i. GoodEntry t (entry_at t i)) (λ i. entry_is (entry_at t i)) (length t.entries)))
      (λ r. record { bytes = r.0; entries = r.1 })
      (λ g. (g.bytes, g.entries))

  cut_is : (k : ℕ) → (label_cut t k ≡ true) ↔ LabelCut t k
  unfolding label_cut
  cut_is k = same_is (both (le _ _) (lt_is _ _)) (λ r. record { single = r.0; longer = r.1 }) (λ l. (l.single, l.longer))

  node_is : (k : ℕ) → (good_node t k ≡ true) ↔ GoodNode t k
  unfolding good_node
  node_is k =
      same_is
      (both (le _ _)
      (both (le _ _)
      (both (together (eq _ _) (eq _ _))
      (both (le _ _)
      (both (it _)
      (both (it _)
      (both (where_so (either (eq _ _) (eq _ _)) (eq _ _))
      (where_so (both (eq _ _) (cut_is k)) (it _)))))))))
      (λ r.
      record {
        kind = r.0;
        flags = r.1.0;
        root = r.1.1.0;
        inside = r.1.1.1.0;
        start = r.1.1.1.1.0;
        end = r.1.1.1.1.1.0;
        plain = r.1.1.1.1.1.1.0;
        label = λ e l. r.1.1.1.1.1.1.1 (e, l);
      })
      (λ g. (g.kind, (g.flags, (g.root, (g.inside, (g.start, (g.end, (g.plain, λ e. g.label e.0 e.1))))))))

  pub decides_5 : (good_nodes t ≡ true) ↔ GoodNodes t
  unfolding good_nodes
  decides_5 = all_is (good_node t) (GoodNode t) node_is (length t.nodes)

-- ---- the number

module _ (file : Bytes) where
  abbrev t : Tape
  t = tape_of file

  -- the number from a rule on, by whether the rule is kept; for 6 by whether the tape is too deep
  abbrev from₇ : Bool → ℕ
  from₇ b = elim b [ false ↦ 7 | true ↦ 0 ]

  abbrev from₆ : Bool → ℕ
  from₆ b = elim b [ true ↦ 6 | false ↦ from₇ (sound t.nodes) ]

  abbrev from₅ : Bool → ℕ
  from₅ b = elim b [ false ↦ 5 | true ↦ from₆ (too_deep t.nodes) ]

  abbrev from₄ : Bool → ℕ
  from₄ b = elim b [ false ↦ 4 | true ↦ from₅ (good_nodes t) ]

  abbrev from₃ : Bool → ℕ
  from₃ b = elim b [ false ↦ 3 | true ↦ from₄ (good_names t) ]

  abbrev from₂ : Bool → ℕ
  from₂ b = elim b [ false ↦ 2 | true ↦ from₃ (is_utf8 t.source) ]

  abbrev from₁ : Bool → ℕ
  from₁ b = elim b [ false ↦ 1 | true ↦ from₂ (small file) ]

  starts : refusal file ≡ from₁ (laid_out file)
  unfolding refusal refusal_in
  starts = refl

  -- what is left to decide where the first rules are kept
  past₁ : Kept₁ file → refusal file ≡ from₂ (small file)
  past₁ k = starts ∙ ap from₁ ((decides_1 file).1 k.laid)

  past₂ : Kept₂ file → refusal file ≡ from₃ (is_utf8 t.source)
  past₂ k = past₁ k.kept ∙ ap from₂ ((decides_2 file).1 k.small)

  past₃ : Kept₃ file → refusal file ≡ from₄ (good_names t)
  past₃ k = past₂ k.kept ∙ ap from₃ k.utf8

  past₄ : Kept₄ file → refusal file ≡ from₅ (good_nodes t)
  past₄ k = past₃ k.kept ∙ ap from₄ ((decides_4 t).1 k.names)

  past₅ : Kept₅ file → refusal file ≡ from₆ (too_deep t.nodes)
  past₅ k = past₄ k.kept ∙ ap from₅ ((decides_5 t).1 k.nodes)

  past₆ : Kept₆ file → refusal file ≡ from₇ (sound t.nodes)
  past₆ k = past₅ k.kept ∙ ap from₆ (no (decides_6 t.nodes) k.shallow)

  -- a number of the file is the one computed
  computed : {n : ℕ} → Refusal file n → refusal file ≡ n
  computed (none k) =
      past₆ k.kept ∙ ap from₇ ((decides_7 t.nodes).1 (record { shallow = k.kept.shallow; nested = k.nested }))
  computed (first d) = starts ∙ ap from₁ (no (decides_1 file) d)
  computed (second k d) = past₁ k ∙ ap from₂ (no (decides_2 file) d)
  computed (third k d) = past₂ k ∙ ap from₃ (no (it _) d)
  computed (fourth k d) = past₃ k ∙ ap from₄ (no (decides_4 t) d)
  computed (fifth k d) = past₄ k ∙ ap from₅ (no (decides_5 t) d)
  computed (sixth k d) = past₅ k ∙ ap from₆ ((decides_6 t.nodes).1 d)
  computed (seventh k d) = past₆ k ∙ ap from₇ (no (decides_7 t.nodes) (λ s. d s.nested))

  -- the number computed is one of the file
  pub refusal_right : Refusal file (refusal file)
  refusal_right = rw starts (go₁ (laid_out file) (decides_1 file))
    where
      go₇ : (b : Bool) → (b ≡ true) ↔ Sound t.nodes → Kept₆ file → Refusal file (from₇ b)
      go₇ true a k = none (record { kept = k; nested = (a.0 refl).nested })
      go₇ false a k = seventh k (λ n. clash (a.1 (record { shallow = k.shallow; nested = n })) refl)

      go₆ : (b : Bool) → (b ≡ true) ↔ TooDeep t.nodes → Kept₅ file → Refusal file (from₆ b)
      go₆ true a k = sixth k (a.0 refl)
      go₆ false a k = go₇ (sound t.nodes) (decides_7 t.nodes) (record { kept = k; shallow = λ d. clash (a.1 d) refl })

      go₅ : (b : Bool) → (b ≡ true) ↔ GoodNodes t → Kept₄ file → Refusal file (from₅ b)
      go₅ true a k = go₆ (too_deep t.nodes) (decides_6 t.nodes) (record { kept = k; nodes = a.0 refl })
      go₅ false a k = fifth k (λ g. clash (a.1 g) refl)

      go₄ : (b : Bool) → (b ≡ true) ↔ GoodNames t → Kept₃ file → Refusal file (from₄ b)
      go₄ true a k = go₅ (good_nodes t) (decides_5 t) (record { kept = k; names = a.0 refl })
      go₄ false a k = fourth k (λ g. clash (a.1 g) refl)

      go₃ : (b : Bool) → is_utf8 t.source ≡ b → Kept₂ file → Refusal file (from₃ b)
      go₃ true e k = go₄ (good_names t) (decides_4 t) (record { kept = k; utf8 = e })
      go₃ false e k = third k (λ u. clash u e)

      go₂ : (b : Bool) → (b ≡ true) ↔ Small file → Kept₁ file → Refusal file (from₂ b)
      go₂ true a k = go₃ (is_utf8 t.source) refl (record { kept = k; small = a.0 refl })
      go₂ false a k = second k (λ g. clash (a.1 g) refl)

      go₁ : (b : Bool) → (b ≡ true) ↔ LaidOut file → Refusal file (from₁ b)
      go₁ true a = go₂ (small file) (decides_2 file) (record { laid = a.0 refl })
      go₁ false a = first (λ g. clash (a.1 g) refl)

-- a file has one number
pub refusal_unique : {file : Bytes} {n m : ℕ} → Refusal file n → Refusal file m → n ≡ m
refusal_unique {file} p q = sym (computed file p) ∙ computed file q

-- a file with the number 0 keeps every rule: it is admitted
pub kept_all : {file : Bytes} → Refusal file 0 → Kept₇ file
kept_all (none k) = k

-- ---- what the contract of admit settles

-- what the contract says of an answer
pub record Right (file : Bor Bytes) (r : Result TapeFile Reason) : Type 0 where
  pub number : Refusal file.now (refusal_number r)
  pub same_file : IfOk r (λ t. t.file ≡ file)
  pub sections : IfOk r (λ t. t.sections ≡ sections_of file.now)

-- the number of an answer is the one computed
pub number-computed : {file : Bor Bytes} {r : Result TapeFile Reason} → Right file r → refusal_number r ≡ refusal file.now
number-computed {file} p = refusal_unique p.number (refusal_right file.now)

-- the reason with a number
reason_with : ℕ → Reason
reason_with n =
    cond (eqb n 1) Layout (cond (eqb n 2) Limits (cond (eqb n 3) Source (cond (eqb n 4) Names (cond (eqb n 5) Nodes (cond (eqb n 6) Depth Nesting)))))

reason_back : (e : Reason) → reason_with (reason_number e) ≡ e
unfolding reason_with reason_number
reason_back Layout = refl
reason_back Limits = refl
reason_back Source = refl
reason_back Names = refl
reason_back Nodes = refl
reason_back Depth = refl
reason_back Nesting = refl

-- no reason has the number of an admitted tape
pub reason_some : (e : Reason) → 0 < reason_number e
unfolding reason_number
reason_some Layout = omega arith
reason_some Limits = omega arith
reason_some Source = omega arith
reason_some Names = omega arith
reason_some Nodes = omega arith
reason_some Depth = omega arith
reason_some Nesting = omega arith

-- two answers that meet the contract are equal
pub one_answer : {file : Bor Bytes} (r s : Result TapeFile Reason) → Right file r → Right file s → r ≡ s
unfolding refusal_number
one_answer (Ok a) (Ok z) p q =
    ap (λ (f : Bor Bytes). Ok (record { file = f; sections = a.sections })) (p.same_file ∙ sym q.same_file)
    ∙ ap (λ (c : Sections). Ok (record { file = z.file; sections = c })) (p.sections ∙ sym q.sections)
one_answer (Ok a) (Err e) p q = absurd (omega (arith, refusal_unique p.number q.number, reason_some e))
one_answer (Err d) (Ok z) p q = absurd (omega (arith, refusal_unique p.number q.number, reason_some d))
one_answer (Err d) (Err e) p q = ap Err (sym (reason_back d) ∙ ap reason_with (refusal_unique p.number q.number) ∙ reason_back e)

-- two answers that meet the contract say the same of the same bytes, whichever slices lend them
pub one_said : {f g : Bor Bytes} (r s : Result TapeFile Reason) → f.now ≡ g.now → Right f r → Right g s → said_of r ≡ said_of s
unfolding refusal_number said_of
one_said (Ok a) (Ok z) h p q = ap Ok (p.sections ∙ ap sections_of h ∙ sym q.sections)
one_said (Ok a) (Err e) h p q = absurd (omega (arith, refusal_unique (rw h at p.number) q.number, reason_some e))
one_said (Err d) (Ok z) h p q = absurd (omega (arith, refusal_unique (rw h at p.number) q.number, reason_some d))
one_said (Err d) (Err e) h p q = ap Err (sym (reason_back d) ∙ ap reason_with (refusal_unique (rw h at p.number) q.number) ∙ reason_back e)
