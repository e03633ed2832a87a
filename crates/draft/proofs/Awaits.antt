-- The closes that a list of nodes awaits, told one node at a time.
use mathlib.Core.Path.{◌≡◌, refl, sym, ap, ◌∙◌}
use mathlib.Core.Bool.{true, cond, not, ◌&&◌}
use mathlib.Core.List.{List, [], ◌∷◌, ◌++◌, append-nil}
use mathlib.Core.Logic.{◌⊎◌, inl, inr}
use mathlib.Core.Option.{Option, some, none}
use Prim.Native.Nat.{ℕ, zero, suc, ◌+◌, ◌≤◌, ◌<◌}
use native.Mathlib.Nat.{add-zero}
use native.Mathlib.Omega.{arith}
use lib.ListN.{length, length-append, get_or-append}
use lib.Seq.{get_or-append_seam, append_snoc}
use lib.Dec.{eqb}
use borrow.Author.Tests.{eq-eqb, ne_eqb}
use Rattle.tape.specs.File.{nowhere}
use Rattle.tape.specs.Tree.{is_close}
use Rattle.tape.specs.declared.Node.{Node}
use Rattle.tape.specs.Kind as kinds
use Rattle.nest.specs.Tape.{link_at}
use Rattle.nest.specs.Nest.{container, close, part_of}
use Rattle.nest.specs.Decide.{awaited, match_from_of, all_matched_of, root_ends_of, sound}
use Rattle.nest.specs.declared.Part.{Part}
use Rattle.nest.specs.declared.Part.TheVariants.{Opens, Closes, Leaf}
use Rattle.nest.proofs.Tape.{clash}
use Rattle.draft.specs.Grown.{PlainKind}

-- the closes that are awaited past the last node
unfoldable pub awaits : List Node → Option (List ℕ)
awaits t = match_from_of t (length t) 0 (some [])

-- what a node does to the nesting at an index
unfoldable pub part_at : ℕ → Node → Part
part_at i n =
    cond (eqb n.kind.code kinds.marker_open && not (eqb n.link i)) (Opens n.link)
    (cond (is_close n.kind.code) Closes Leaf)

-- ---- one node more

part-last : (t : List Node) (n : Node) → part_of (t ++ (n ∷ [])) (length t) ≡ part_at (length t) n
unfolding part_of container close part_at is_close
part-last t n = ap (part_at (length t)) (get_or-append_seam t n [] nowhere)

part-append : (t u : List Node) (i : ℕ) → i < length t → part_of (t ++ u) i ≡ part_of t i
unfolding part_of container close part_at is_close
part-append t u i l = ap (part_at i) (get_or-append t u nowhere i l)

match_append : (t u : List Node) (n i : ℕ) (s : Option (List ℕ)) → i + n ≤ length t → match_from_of (t ++ u) n i s ≡ match_from_of t n i s
unfolding match_from_of
match_append t u zero i s l = refl
match_append t u (suc n) i s l = rw (part-append t u i (omega arith)) (match_append t u n (i + 1) _ (omega arith))

match_more : (t : List Node) (n i : ℕ) (s : Option (List ℕ)) → match_from_of t (suc n) i s ≡ awaited (part_of t (i + n)) (i + n) (match_from_of t n i s)
unfolding match_from_of
match_more t zero i s = rw (add-zero i)
match_more t (suc n) i s =
    let e : i + 1 + n ≡ i + suc n = omega arith in
    match_more t n (i + 1) _ ∙ rw e

-- the last node takes one step
pub awaits-add : (t : List Node) (n : Node) → awaits (t ++ (n ∷ [])) ≡ awaited (part_at (length t) n) (length t) (awaits t)
unfolding awaits
awaits-add t n =
    let e : length (t ++ (n ∷ [])) ≡ suc (length t) = omega (arith, length-append t (n ∷ [])) in
    let z : 0 + length t ≡ length t = omega arith in
    rw (e, match_more, z, part-last, match_append t (n ∷ []) (length t) 0 (some []) (omega arith))

-- where Root links past the last node, the nesting is right if no close is awaited
pub sound_is : (t : List Node) → link_at t 0 ≡ length t → sound t ≡ all_matched_of (awaits t)
unfolding sound root_ends_of awaits
sound_is t l = rw (eq-eqb (link_at t 0) (length t) l, l)

-- ---- the part of a node by its kind

pub part-plain : (i : ℕ) (n : Node) → PlainKind n.kind.code → part_at i n ≡ Leaf
unfolding part_at is_close
part-plain i n (inl h) = rw h
part-plain i n (inr (inl h)) = rw h
part-plain i n (inr (inr (inl h))) = rw h
part-plain i n (inr (inr (inr (inl h)))) = rw h
part-plain i n (inr (inr (inr (inr h)))) = rw h

pub part-leaf : (i : ℕ) (n : Node) → n.kind.code ≡ kinds.marker_open → n.link ≡ i → part_at i n ≡ Leaf
unfolding part_at is_close
part-leaf i n h e = rw (h, eq-eqb _ _ e)

pub part-opens : (i : ℕ) (n : Node) → n.kind.code ≡ kinds.marker_open → (n.link ≡ i → ⊥) → part_at i n ≡ Opens n.link
unfolding part_at
part-opens i n h e = rw (h, ne_eqb _ _ e)

pub part-closes : (i : ℕ) (n : Node) → (n.kind.code ≡ kinds.marker_close) ⊎ (n.kind.code ≡ kinds.block_end_of) → part_at i n ≡ Closes
unfolding part_at is_close
part-closes i n (inl h) = rw h
part-closes i n (inr h) = rw h

-- ---- from the whole back

pub none-some : {A : Type 0} {a : A} → none ≡ some a → ⊥
none-some h = let z : ◌≡◌ {A = ℕ} 0 1 = cc in omega arith

unbroken : (p : Part) (i : ℕ) (o : Option (List ℕ)) {cs : List ℕ} → awaited p i o ≡ some cs → (s : List ℕ) × (o ≡ some s)
unfolding awaited
unbroken p i none h = absurd (none-some h)
unbroken p i (some s) h = (s, refl)

-- the beginning of a row that breaks no rule breaks none
pub awaits_before : (t u : List Node) {all : List ℕ} → awaits (t ++ u) ≡ some all → (cs : List ℕ) × (awaits t ≡ some cs)
awaits_before t [] {all} h = (all, rw append-nil at h)
awaits_before t (n ∷ u) h =
    let more = awaits_before (t ++ (n ∷ [])) u (rw (← append_snoc t n u) at h) in
    unbroken _ _ (awaits t) (sym (awaits-add t n) ∙ more.1)

-- a sound row awaits nothing where Root links past the last node
pub awaits-none : (t : List Node) → sound t ≡ true → link_at t 0 ≡ length t → awaits t ≡ some []
unfolding all_matched_of
awaits-none t h l = go (awaits t) (sym (sound_is t l) ∙ h)
  where
    go : (o : Option (List ℕ)) → all_matched_of o ≡ true → o ≡ some []
    go none e = absurd (clash e refl)
    go (some []) e = refl
    go (some (c ∷ cs)) e = absurd (clash e refl)
