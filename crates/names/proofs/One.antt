-- The contract of `find_names` leaves one result, but for the place of a key.
use mathlib.Core.Path.{◌≡◌, refl, sym, ap, ◌∙◌, subst}
use mathlib.Core.Bool.{Bool, true, false}
use Prim.Native.Nat.{ℕ, ◌<◌}
use native.Mathlib.Omega.{arith}
use lib.Dec.{ltb}
use borrow.Author.Tests.{ltb-true, ltb-false}
use Rattle.parts.specs.Bytes.{Bytes}
use Rattle.words.specs.declared.Part.{Part}
use Rattle.tape.specs.File.{Tape, tape_of}
use Rattle.admit.proofs.Decide.{refusal_unique}
use Rattle.accepts.specs.Proviso.{What, code, label, marker, key, Name, Proviso}
use Rattle.names.specs.declared.What.{What as Said}
use Rattle.names.specs.declared.What.TheVariants.{Code, Label, Marker, Key}
use Rattle.names.specs.declared.Found.{Found}
use Rattle.names.specs.declared.Found.TheVariants.{Refused, Broken}
use Rattle.names.specs.Finding.{what_of, FirstBroken, Placed, StandsAt, FindsIn, kept, broken, Finds, refused, admitted, Agree, both_refused, both_kept, both_broken}
use Rattle.names.proofs.Places.{spot_len}
use Rattle.names.proofs.Rows.{first_steps, first_one, first-not}

-- ---- one node and one name

not_earlier : (t : Tape) {k l : ℕ} {m n : Name} → FirstBroken t k m → FirstBroken t l n → k < l → ⊥
not_earlier t {k} f g h = first-not (first_steps f.first) (g.earlier k h)

one_node : (t : Tape) {k l : ℕ} {m n : Name} → FirstBroken t k m → FirstBroken t l n → k ≡ l
one_node t {k} {l} f g = go (ltb k l) (ltb l k) refl refl
  where
    go : (y z : Bool) → ltb k l ≡ y → ltb l k ≡ z → k ≡ l
    go true z a b = absurd (not_earlier t f g (ltb-true k l a))
    go false true a b = absurd (not_earlier t g f (ltb-true l k b))
    go false false a b = omega (arith, ltb-false k l a, ltb-false l k b)

-- ---- one kind and one place

said_of : What → Said
said_of code = Code
said_of label = Label
said_of marker = Marker
said_of key = Key

said_again : (w : Said) → said_of (what_of w) ≡ w
unfolding said_of what_of
said_again Code = refl
said_again Label = refl
said_again Marker = refl
said_again Key = refl

one_place : (t : Tape) (k : ℕ) (w : What) {p q : Part} → Placed t k w p → Placed t k w q → (w ≡ key → ⊥) → p ≡ q
one_place t k code a z h = a ∙ sym z
one_place t k label a z h = a ∙ sym z
one_place t k marker a z h = a ∙ sym z
one_place t k key a z h = absurd (h refl)

agree_at : (t : Tape) (k : ℕ) (n : Name) {v w : Said} {p q : Part} → what_of v ≡ n.what → what_of w ≡ n.what → StandsAt t k n p → StandsAt t k n q
    → Agree t (Broken k v p) (Broken k w q)
agree_at t k n {v} {w} {p} {q} ev ew a z =
    let same : v ≡ w = sym (said_again v) ∙ ap said_of (ev ∙ sym ew) ∙ said_again w in
    subst (λ (x : Said). Agree t (Broken k v p) (Broken k x q)) same
    (both_broken (a.spot.here ∙ sym z.spot.here) (sym (spot_len a.spot) ∙ spot_len z.spot)
    (λ h. one_place t k n.what a.place z.place (λ e. h (ev ∙ e))))

agree_broken : (t : Tape) (k l : ℕ) (m n : Name) {v w : Said} {p q : Part} → FirstBroken t k m → FirstBroken t l n → what_of v ≡ m.what → what_of w ≡ n.what
    → StandsAt t k m p → StandsAt t l n q → Agree t (Broken k v p) (Broken l w q)
agree_broken t k l m n {v} {w} {p} {q} f g ev ew a z =
    let ek : k ≡ l = one_node t f g in
    let h : FirstBroken t k n = subst (λ (i : ℕ). FirstBroken t i n) (sym ek) g in
    let en : m ≡ n = first_one (first_steps f.first) (first_steps h.first) in
    let y : StandsAt t k m q = subst (λ (x : Name). StandsAt t k x q) (sym en) (subst (λ (i : ℕ). StandsAt t i n q) (sym ek) z) in
    subst (λ (i : ℕ). Agree t (Broken k v p) (Broken i w q)) ek (agree_at t k m ev (ew ∙ ap (λ (x : Name). x.what) (sym en)) a y)

-- ---- one result

never_both : (t : Tape) {k : ℕ} {n : Name} → Proviso t → FirstBroken t k n → ⊥
never_both t {k} p f = first-not (first_steps f.first) (p.free k)

one_in : (t : Tape) {r s : Found} → FindsIn t r → FindsIn t s → Agree t r s
one_in t (kept p) (kept q) = both_kept
one_in t (kept p) (broken n f e z) = absurd (never_both t p f)
one_in t (broken n f e z) (kept p) = absurd (never_both t p f)
one_in t (broken {k = k} m f ev a) (broken {k = l} n g ew z) = agree_broken t k l m n f g ev ew a z

-- two results that satisfy the contract of `find_names` for one file agree
pub found_one : (file : Bytes) {r s : Found} → Finds file r → Finds file s → Agree (tape_of file) r s
found_one file (refused {n = n} a h) (refused b g) = subst (λ (x : ℕ). Agree (tape_of file) (Refused n) (Refused x)) (refusal_unique a b) both_refused
found_one file (refused a h) (admitted b f) = absurd (omega (arith, refusal_unique a b))
found_one file (admitted a f) (refused b h) = absurd (omega (arith, refusal_unique a b))
found_one file (admitted a f) (admitted b g) = one_in (tape_of file) f g
