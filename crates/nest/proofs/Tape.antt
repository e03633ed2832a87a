-- Laws of the tape: its nodes are what a reader of the bytes finds, and a node plays one part.
use mathlib.Core.Path.{◌≡◌, refl, sym, ap, ◌∙◌, subst}
use mathlib.Core.Bool.{Bool, true, false, cond, not, ◌&&◌, and-false}
use mathlib.Core.List.{List, [], ◌∷◌}
use mathlib.Core.Logic.{◌↔◌, inl, inr, ⊎_elim}
use Prim.Native.Nat.{ℕ, zero, suc, ◌+◌, ◌≤◌, ◌<◌}
use native.Mathlib.Nat.{le_of_suc-le-suc, not-suc-le-zero}
use native.Mathlib.Numerals.{add-one}
use native.Mathlib.Omega.{arith}
use lib.ListN.{length, get_or}
use lib.Dec.{eqb, leb}
use borrow.Author.Tests.{eqb-true, eq-eqb, ne_eqb, leb-true, leb-false}
use Rattle.tape.specs.declared.Node.{Node}
use Rattle.nest.specs.Tape.{kind_at, link_at}
use Rattle.parts.specs.Bytes.{Bytes}
use Rattle.tape.specs.File.{nowhere, tape_in, node_at}
use Rattle.tape.specs.Tree.{is_close}
use Rattle.tape.specs.declared.Sections.{Sections}
use Rattle.tape.specs.declared.Cursor.{Cursor}
use Rattle.tape.proofs.Laws.{node-count}
use Rattle.nest.specs.Nest.{container, close, Container, Close, part_of, count, RootEnds}
use Rattle.nest.specs.declared.Part.{Part}
use Rattle.nest.specs.declared.Part.TheVariants.{Opens, Closes, Leaf}

-- ---- answers

pub yes_is : {P : Type 0} → P → (true ≡ true) ↔ P
yes_is p = (λ e. p, λ q. refl)

pub no_is : {P : Type 0} → (P → ⊥) → (false ≡ true) ↔ P
no_is n = (λ e. absurd (let z : ◌≡◌ {A = ℕ} 0 1 = cc in omega arith), λ p. absurd (n p))

-- ---- parts

pub clash : {b : Bool} → b ≡ true → b ≡ false → ⊥
clash p q = let z : ◌≡◌ {A = ℕ} 0 1 = cc in omega arith

-- what a part says of the two tests
abbrev pub Plays : List Node → ℕ → Part → Type 0
Plays t i (Opens l) = (container t i ≡ true) × (close t i ≡ false) × (l ≡ link_at t i)
Plays t i Closes = (container t i ≡ false) × (close t i ≡ true)
Plays t i Leaf = (container t i ≡ false) × (close t i ≡ false)

pub opens_is : (t : List Node) (i : ℕ) → kind_at t i ≡ 3 → (link_at t i ≡ i → ⊥) → container t i ≡ true
unfolding container
opens_is t i h n = simp (eq-eqb _ _ h, ne_eqb _ _ n)

pub opens_not : (t : List Node) (i : ℕ) → (kind_at t i ≡ 3 → ⊥) → container t i ≡ false
unfolding container
opens_not t i n = simp (ne_eqb _ _ n)

pub opens_self : (t : List Node) (i : ℕ) → link_at t i ≡ i → container t i ≡ false
unfolding container
opens_self t i h = rw (eq-eqb _ _ h) (and-false (eqb (kind_at t i) 3))

pub kind_opens : (t : List Node) (i : ℕ) → Container t i → kind_at t i ≡ 3
unfolding container
kind_opens t i h = go (eqb (kind_at t i) 3) refl h
  where
    go : (b : Bool) → eqb (kind_at t i) 3 ≡ b → (b && not (eqb (link_at t i) i)) ≡ true → kind_at t i ≡ 3
    go true e h = eqb-true _ _ e
    go false e h = absurd (clash h refl)

pub close_4 : (t : List Node) (i : ℕ) → kind_at t i ≡ 4 → close t i ≡ true
unfolding close
close_4 t i h = rw (eq-eqb _ _ h)

pub close_5 : (t : List Node) (i : ℕ) → kind_at t i ≡ 5 → close t i ≡ true
unfolding close
close_5 t i h = rw h

pub close-not : (t : List Node) (i : ℕ) → (kind_at t i ≡ 4 → ⊥) → (kind_at t i ≡ 5 → ⊥) → close t i ≡ false
unfolding close
close-not t i n m = simp (ne_eqb _ _ n, ne_eqb _ _ m)

-- no node is both
pub one_part : (t : List Node) (i : ℕ) → Container t i → close t i ≡ false
one_part t i h = close-not t i (λ e. omega (arith, kind_opens t i h)) (λ e. omega (arith, kind_opens t i h))

pub plays : (t : List Node) (i : ℕ) → Plays t i (part_of t i)
unfolding part_of
plays t i = go (container t i) (close t i) refl refl
  where
    go : (b d : Bool) → container t i ≡ b → close t i ≡ d → Plays t i (cond b (Opens (link_at t i)) (cond d Closes Leaf))
    go true d e f = (e, one_part t i e, refl)
    go false true e f = (e, f)
    go false false e f = (e, f)

pub told : (t : List Node) (i : ℕ) {r p : Part} → r ≡ part_of t i → r ≡ p → Plays t i p
told t i e h = subst (Plays t i) (sym e ∙ h) (plays t i)

-- how kind and link tell the part
pub part_self : (t : List Node) (i : ℕ) {k l : ℕ} → k ≡ kind_at t i → k ≡ 3 → l ≡ link_at t i → l ≡ i → Leaf ≡ part_of t i
unfolding part_of
part_self t i ek hk el hl = rw (opens_self t i (sym el ∙ hl), close-not t i (λ e. omega arith) (λ e. omega arith))

pub part-opens : (t : List Node) (i : ℕ) {k l : ℕ} → k ≡ kind_at t i → k ≡ 3 → l ≡ link_at t i → (l ≡ i → ⊥) → Opens l ≡ part_of t i
unfolding part_of
part-opens t i ek hk el hl = rw (opens_is t i (sym ek ∙ hk) (λ e. hl (el ∙ e))) (ap Opens el)

-- ---- nothing stands outside the tape

pub outside : (t : List Node) (i : ℕ) → length t ≤ i → get_or t i nowhere ≡ nowhere
outside [] i h = refl
outside (x ∷ t) zero h = absurd (not-suc-le-zero h)
outside (x ∷ t) (suc i) h = outside t i (le_of_suc-le-suc h)

pub inside : (t : List Node) (i : ℕ) → (kind_at t i ≡ 8 → ⊥) → i < length t
inside t i n = go (leb (length t) i) refl
  where
    go : (b : Bool) → leb (length t) i ≡ b → i < length t
    go true e = absurd (n (ap (λ (x : Node). x.kind.code) (outside t i (leb-true _ _ e))))
    go false e = leb-false _ _ e

pub opens-inside : (t : List Node) (i : ℕ) → Container t i → i < length t
opens-inside t i h = inside t i (λ e. omega (arith, kind_opens t i h))

pub close-inside : (t : List Node) (i : ℕ) → Close t i → i < length t
close-inside t i h = inside t i (λ e. clash h (close-not t i (λ f. omega arith) (λ f. omega arith)))

-- ---- counts

pub count-more : (f : ℕ → Bool) (i : ℕ) → count f (i + 1) ≡ count f i + cond (f i) 1 0
unfolding count
count-more f i = rw add-one

pub count_yes : (f : ℕ → Bool) (i : ℕ) → f i ≡ true → count f (i + 1) ≡ count f i + 1
count_yes f i h = rw (count-more f i, h)

pub count_no : (f : ℕ → Bool) (i : ℕ) → f i ≡ false → count f (i + 1) ≡ count f i
count_no f i h = rw (count-more f i, h) (omega arith)

-- ---- nodes of a file

module _ (c : Sections) (file : Bytes) where
  abbrev pub nodes_in : List Node
  nodes_in = (tape_in c file).nodes

  pub kind_in : (i : ℕ) {n : Node} → n ≡ node_at (tape_in c file) i → n.kind.code ≡ kind_at nodes_in i
  unfolding node_at
  kind_in i e = ap (λ (m : Node). m.kind.code) e

  pub link_in : (i : ℕ) {n : Node} → n ≡ node_at (tape_in c file) i → n.link ≡ link_at nodes_in i
  unfolding node_at
  link_in i e = ap (λ (m : Node). m.link) e

  -- ---- Root's end

  module _ {e : ℕ} (el : e ≡ link_at nodes_in 0) where
    pub ends_whole : e ≡ c.nodes → (eqb e c.nodes ≡ true) ↔ RootEnds nodes_in
    ends_whole h = let l = node-count c file in (λ q. inl (omega arith), λ r. eq-eqb e c.nodes h)

    pub ends_none : {b : Bool} → (e ≡ c.nodes → ⊥) → (e + 1 ≡ c.nodes → ⊥) → b ≡ false → (b ≡ true) ↔ RootEnds nodes_in
    ends_none d h f =
        let l = node-count c file in
        rw f (no_is (λ r. ⊎_elim {C = ⊥} (λ p. d (omega arith)) (λ p. h (omega (arith, p.0))) r))

    pub ends_last : {z : Node} → e + 1 ≡ c.nodes → z ≡ node_at (tape_in c file) e → (eqb z.kind.code 5 ≡ true) ↔ RootEnds nodes_in
    ends_last {z} h ez =
        let m = node-count c file in
        let same : z.kind.code ≡ kind_at nodes_in (link_at nodes_in 0) = kind_in e ez ∙ ap (kind_at nodes_in) el in (
          λ q. inr (omega arith, sym same ∙ eqb-true z.kind.code 5 q),
          λ r. eq-eqb z.kind.code 5 (⊎_elim {C = z.kind.code ≡ 5} (λ p. absurd (omega arith)) (λ p. same ∙ p.1) r),
        )

  -- ---- the part of a node that a cursor reads

  module _ (i : ℕ) {z : Cursor} (ez : z.at ≡ i) {k : ℕ} (ek : k ≡ (node_at (tape_in c file) z.at).kind.code) where
    kind_is : k ≡ kind_at nodes_in i
    unfolding node_at
    kind_is = ek ∙ ap (kind_at nodes_in) ez

    link_is : {l : ℕ} → l ≡ (node_at (tape_in c file) z.at).link → l ≡ link_at nodes_in i
    unfolding node_at
    link_is el = el ∙ ap (link_at nodes_in) ez

    pub node_self : {l : ℕ} → k ≡ 3 → l ≡ (node_at (tape_in c file) z.at).link → l ≡ i → Leaf ≡ part_of nodes_in i
    node_self hk el hl = part_self nodes_in i kind_is hk (link_is el) hl

    pub node_opens : {l : ℕ} → k ≡ 3 → l ≡ (node_at (tape_in c file) z.at).link → (l ≡ i → ⊥) → Opens l ≡ part_of nodes_in i
    node_opens hk el hl = part-opens nodes_in i kind_is hk (link_is el) hl

    pub node-closes : {x : Bool} → (k ≡ 3 → ⊥) → x ≡ is_close k → x ≡ true → Closes ≡ part_of nodes_in i
    unfolding is_close part_of close
    node-closes hk ex x = rw (opens_not nodes_in i (λ e. hk (kind_is ∙ e)), ← kind_is, ← ex, x)

    pub node-leaf : {x : Bool} → (k ≡ 3 → ⊥) → x ≡ is_close k → x ≡ false → Leaf ≡ part_of nodes_in i
    unfolding is_close part_of close
    node-leaf hk ex x = rw (opens_not nodes_in i (λ e. hk (kind_is ∙ e)), ← kind_is, ← ex, x)
