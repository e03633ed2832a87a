-- Good nodes and good names: what of a tape they hang on, and how they stay good on another.
use mathlib.Core.Path.{◌≡◌, refl, ap}
use mathlib.Core.Bool.{Bool, true, false}
use mathlib.Core.List.{List, [], ◌∷◌, ◌++◌}
use Prim.Native.Nat.{ℕ, zero, suc, ◌+◌, ◌≤◌, ◌<◌}
use native.Mathlib.Omega.{arith}
use lib.ListN.{length, get_or, set, take, drop, length-append, length-drop}
use lib.Seq.{take-append-le, drop-append-le}
use lib.Dec.{eqb}
use borrow.Author.Tests.{leb-true, eqb-true, eqb-false}
use Rattle.parts.specs.Bytes.{Bytes, part}
use Rattle.parts.proofs.Laws.{and-true}
use Rattle.chars.specs.Utf8.{characters, is_utf8, is_boundary}
use Rattle.chars.proofs.Characters.{characters-append, boundary_between}
use Rattle.tape.specs.File.{Tape, nowhere, nameless, node_at, entry_at, kind_at, text_at_of, bears_marker, info_at}
use Rattle.tape.specs.Name.{marker_name}
use Rattle.tape.specs.declared.Node.{Node}
use Rattle.tape.specs.declared.Entry.{Entry}
use Rattle.admit.specs.Rules.{GoodEntry, GoodNames, GoodNode}
use Rattle.admit.specs.Pieces.{GoodByte}
use Rattle.admit.specs.Decide.{all_below, good_byte, good_entry, label_cut, good_node}
use Rattle.draft.specs.Draft.{relinked}

-- ---- tests of all indices

-- what passes below n passes at each index below n
pub all-below : (f : ℕ → Bool) (n : ℕ) → all_below f n ≡ true → (k : ℕ) → k < n → f k ≡ true
unfolding all_below
all-below f zero h k l = absurd (omega arith)
all-below f (suc n) h k l = go (eqb k n) refl (all-below f n (and-true (f n) (all_below f n) h).1 k)
  where
    go : (b : Bool) → eqb k n ≡ b → (k < n → f k ≡ true) → f k ≡ true
    go true e g = rw (eqb-true k n e) (and-true (f n) (all_below f n) h).0
    go false e g = let d : k ≡ n → ⊥ = eqb-false k n e in g (omega arith)

-- two tests that say the same below n
pub all_same : {f g : ℕ → Bool} (n : ℕ) → ((k : ℕ) → k < n → f k ≡ g k) → all_below f n ≡ all_below g n
unfolding all_below
all_same zero e = refl
all_same (suc n) e = rw (e n (omega arith), all_same n (λ k h. e k (omega arith)))

-- ---- nodes that are good alike

-- two nodes that differ in link alone, and in the marker of a kind that bears none
pub record Alike (m n : Node) : Type 0 where
  pub kind : m.kind ≡ n.kind
  pub flags : m.flags ≡ n.flags
  pub marker : bears_marker m.kind.code ≡ true → m.marker ≡ n.marker
  pub start : m.start ≡ n.start
  pub len : m.len ≡ n.len

-- a node is good as it was under another link
pub alike_relinked : (n : Node) (to : ℕ) → Alike n (relinked n to)
alike_relinked n to = record { kind = refl; flags = refl; marker = λ h. refl; start = refl; len = refl }

-- and so are the nodes of a list when one of them is linked anew
pub alike_set : (ns : List Node) (i to k : ℕ) → Alike (get_or ns k nowhere) (get_or (set ns i (relinked (get_or ns i nowhere) to)) k nowhere)
alike_set [] i to k = alike_relinked nowhere 0
alike_set (n ∷ ns) zero to zero = alike_relinked n to
alike_set (n ∷ ns) zero to (suc k) = alike_relinked _ (get_or ns k nowhere).link
alike_set (n ∷ ns) (suc i) to zero = alike_relinked n n.link
alike_set (n ∷ ns) (suc i) to (suc k) = alike_set ns i to k

module _ (t z : Tape) (k : ℕ) (a : Alike (node_at t k) (node_at z k)) (es : t.entries ≡ z.entries) where
  -- they have the same entry
  pub info_alike : info_at t k ≡ info_at z k
  unfolding info_at entry_at
  info_alike = go (bears_marker (kind_at t k)) refl
    where
      go : (b : Bool) → bears_marker (kind_at t k) ≡ b → info_at t k ≡ info_at z k
      go true e = cc (a.kind, a.marker e)
      go false e = let d : bears_marker (kind_at z k) ≡ false = cc in rw (e, d)

  -- and one is good where the other is
  pub good_alike : t.source ≡ z.source → good_node t k ≡ good_node z k
  unfolding good_node label_cut marker_name text_at_of
  good_alike e = cc (info_alike, a.kind)

-- ---- a longer source

-- the front of a list is the front of a longer one
front_longer : {A : Type 0} (n : ℕ) (xs ys : List A) → take (length (take n xs)) (xs ++ ys) ≡ take n xs
front_longer zero xs ys = refl
front_longer (suc n) [] ys = refl
front_longer (suc n) (x ∷ xs) ys = ap (λ l. x ∷ l) (front_longer n xs ys)

-- a place between characters stays one where characters follow
boundary_longer : (s z : Bytes) → is_utf8 s ≡ true → is_utf8 (s ++ z) ≡ true → (at : ℕ) → is_boundary s at ≡ true → is_boundary (s ++ z) at ≡ true
boundary_longer s z u w at h =
    let b = (boundary_between s at u).0 h in
    let cs = characters s in
    (boundary_between (s ++ z) at w).1
    (record { passed = length (take b.passed cs); place = rw (characters-append s z u, front_longer b.passed cs (characters z)) b.place })

-- a part of a text is that part of a longer one
part-longer : (s z : Bytes) (a n : ℕ) → a + n ≤ length s → part (s ++ z) a n ≡ part s a n
part-longer s z a n h =
    rw (drop-append-le a s z (omega arith)) (take-append-le n (drop a s) z (omega (arith, length-drop a s)))

-- a tape with more source
abbrev pub longer : Tape → Bytes → Tape
longer t s = record { nodes = t.nodes; entries = t.entries; names = t.names; source = t.source ++ s }

module _ (t : Tape) (s : Bytes) (u : is_utf8 t.source ≡ true) (w : is_utf8 (t.source ++ s) ≡ true) (k : ℕ) (g : GoodNode t k) where
  text-longer : text_at_of (longer t s) k ≡ text_at_of t k
  unfolding text_at_of node_at
  text-longer = part-longer t.source s (node_at t k).start (node_at t k).len g.inside

  name-longer : marker_name (longer t s) k ≡ marker_name t k
  unfolding marker_name
  name-longer = rw text-longer

  -- a good node stays good
  pub good_longer : GoodNode (longer t s) k
  unfolding info_at node_at entry_at
  good_longer =
      record {
        kind = g.kind;
        flags = g.flags;
        root = g.root;
        inside = omega (arith, g.inside, length-append t.source s);
        start = boundary_longer t.source s u w _ g.start;
        end = boundary_longer t.source s u w _ g.end;
        plain = g.plain;
        label = λ e c. rw name-longer (g.label e (record { single = rw text-longer at c.single; longer = rw name-longer at c.longer }));
      }

-- ---- names

-- a byte that passes the test can stand in a name
byte_passes : (x : ℕ) → good_byte x ≡ true → GoodByte x
unfolding good_byte
byte_passes x h = let a = and-true _ _ h in (leb-true _ _ a.0, leb-true _ _ a.1)

-- an entry that passes the test is good
entry-passes : (t : Tape) (e : Entry) → good_entry t e ≡ true → GoodEntry t e
unfolding good_entry
entry-passes t e h =
    let a = and-true _ _ h in
    let b = and-true _ _ a.1 in
    record { inside = leb-true _ _ a.0; category = leb-true _ _ b.0; element = leb-true _ _ b.1 }

-- an entry stays good on a tape with at least as many name bytes
entry_stays : (t z : Tape) (e : Entry) → length t.names ≤ length z.names → GoodEntry t e → GoodEntry z e
entry_stays t z e h g = record { inside = omega arith; category = g.category; element = g.element }

-- what holds of each element of two lists holds of each of both in a row
each_append : {A : Type 0} (P : A → Type 0) (xs ys : List A) (d : A) → ((i : ℕ) → i < length xs → P (get_or xs i d))
    → ((i : ℕ) → i < length ys → P (get_or ys i d)) → (i : ℕ) → i < length (xs ++ ys) → P (get_or (xs ++ ys) i d)
each_append P [] ys d f g i h = g i h
each_append P (x ∷ xs) ys d f g zero h = f 0 (omega arith)
each_append P (x ∷ xs) ys d f g (suc i) h = each_append P xs ys d (λ j l. f (suc j) (omega arith)) g i (omega arith)

each_one : {A : Type 0} (P : A → Type 0) (x d : A) → P x → (i : ℕ) → i < 1 → P (get_or (x ∷ []) i d)
each_one P x d p zero h = p
each_one P x d p (suc i) h = absurd (omega arith)

-- a tape with other nodes and another source
abbrev pub renewed : Tape → List Node → Bytes → Tape
renewed t ns s = record { nodes = ns; entries = t.entries; names = t.names; source = s }

-- its names stay good
pub names-renewed : (t : Tape) (ns : List Node) (s : Bytes) → GoodNames t → GoodNames (renewed t ns s)
unfolding entry_at
names-renewed t ns s g = record { bytes = g.bytes; entries = λ i h. entry_stays t (renewed t ns s) _ (omega arith) (g.entries i h) }

-- a tape with an entry more, and the name bytes that come with it
abbrev pub enriched : Tape → Bytes → Entry → Tape
enriched t s e = record { nodes = t.nodes; entries = t.entries ++ (e ∷ []); names = t.names ++ s; source = t.source }

-- its names stay good where what comes is
pub names-enriched : (t : Tape) (s : Bytes) (e : Entry) → GoodNames t → all_below (λ i. good_byte (get_or s i 0)) (length s) ≡ true
    → good_entry (enriched t s e) e ≡ true → GoodNames (enriched t s e)
unfolding entry_at
names-enriched t s e g b h =
    record {
      bytes = each_append GoodByte t.names s 0 g.bytes (λ i l. byte_passes (get_or s i 0) (all-below (λ i. good_byte (get_or s i 0)) (length s) b i l));
      entries =
          each_append (GoodEntry (enriched t s e)) t.entries (e ∷ []) nameless
          (λ i l. entry_stays t (enriched t s e) _ (omega (arith, length-append t.names s)) (g.entries i l))
          (each_one (GoodEntry (enriched t s e)) e nameless (entry-passes (enriched t s e) e h));
    }
