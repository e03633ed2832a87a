-- What was stored, read back: numbers, nodes, entries, and one more of them behind others.
use mathlib.Core.Path.{◌≡◌, refl, sym, ap, ◌∙◌}
use mathlib.Core.List.{List, [], ◌∷◌, ◌++◌, append-nil}
use Prim.Native.Nat.{ℕ, zero, suc, ◌+◌, ◌-◌, ◌*◌, ◌/◌, ◌%◌, ◌≤◌, ◌<◌}
use native.Mathlib.Nat.{mul-suc, mul-zero}
use native.Mathlib.Numerals.{add-one}
use native.Mathlib.Omega.{arith}
use borrow.Author.Tests.{le-leb}
use lib.ListN.{length, get_or, drop, length-append, length-drop}
use lib.Seq.{drop-append-le, drop-drop}
use Rattle.parts.specs.Bytes.{Bytes}
use Rattle.tape.specs.File.{le16, le32, node_fields_of, entry_fields_of, node_of, entry_of, records_of, nowhere}
use Rattle.tape.specs.declared.Node.{Node}
use Rattle.tape.specs.declared.Entry.{Entry}
use Rattle.tape.proofs.Laws.{Local, node_local, entry_local, records_at}
use Rattle.layout.specs.Bytes.{node_bytes_of, entry_bytes}
use Rattle.layout.specs.Layout.{link_at}

-- ---- what was stored

-- a number in two bytes, and one in four
two_back : (n : ℕ) → n % 256 + 256 * (n / 256) ≡ n
two_back n = omega arith

pub four_back : (n : ℕ) → n % 65536 % 256 + 256 * (n % 65536 / 256) + 65536 * (n / 65536 % 256 + 256 * (n / 65536 / 256)) ≡ n
four_back n = omega arith

-- the fields of a node that was stored
node_fields : (n : Node) (rest : Bytes) → node_fields_of (node_bytes_of n ++ rest) ≡ n
unfolding node_fields_of node_bytes_of le32 le16
node_fields n rest = rw (two_back n.marker, four_back n.link, four_back n.start, four_back n.len)

node-length : (n : Node) → length (node_bytes_of n) ≡ 16
unfolding node_bytes_of
node-length n = refl

-- a node that was stored
pub node_back : (n : Node) (rest : Bytes) → node_of (node_bytes_of n ++ rest) ≡ n
unfolding node_of
node_back n rest =
    rw (le-leb 16 (length (node_bytes_of n ++ rest)) (omega (arith, length-append (node_bytes_of n) rest, node-length n))) (node_fields n rest)

-- the fields of an entry that was stored
entry_fields : (e : Entry) (rest : Bytes) → entry_fields_of (entry_bytes e ++ rest) ≡ e
unfolding entry_fields_of entry_bytes le32 le16
entry_fields e rest = rw (four_back e.start, two_back e.len)

entry_length : (e : Entry) → length (entry_bytes e) ≡ 8
unfolding entry_bytes
entry_length e = refl

-- an entry that was stored
pub entry_back : (e : Entry) (rest : Bytes) → entry_of (entry_bytes e ++ rest) ≡ e
unfolding entry_of
entry_back e rest =
    rw (le-leb 8 (length (entry_bytes e ++ rest)) (omega (arith, length-append (entry_bytes e) rest, entry_length e))) (entry_fields e rest)

-- ---- records

module _ {A : Type 0} (read : Bytes → A) (size : ℕ) (local : Local read size) where
  -- records that stand in front of other bytes
  pub records_front : (n : ℕ) (s t : Bytes) → size * n ≤ length s → records_of read size n (s ++ t) ≡ records_of read size n s
  unfolding records_of
  records_front zero s t h = refl
  records_front (suc n) s t h =
      let step : size * suc n ≡ size * n + size = mul-suc size n in
      let one : size ≤ length s = omega arith in
      (λ i. local s t one i ∷ records_of read size n (drop-append-le size s t one i))
      ∙ ap (λ (l : List A). read s ∷ l) (records_front n (drop size s) t (omega (arith, length-drop size s)))

  -- one record more behind the others
  pub records_snoc : (n : ℕ) (s b : Bytes) → length s ≡ size * n → records_of read size (n + 1) (s ++ b) ≡ records_of read size n s ++ (read b ∷ [])
  unfolding records_of
  records_snoc n s b h = rw (add-one n) (go n s h)
    where
      go : (n : ℕ) (s : Bytes) → length s ≡ size * n → records_of read size (suc n) (s ++ b) ≡ records_of read size n s ++ (read b ∷ [])
      go zero [] h = refl
      go zero (x ∷ s) h = absurd (omega (arith, mul-zero size))
      go (suc n) s h =
          let step : size * suc n ≡ size * n + size = mul-suc size n in
          let one : size ≤ length s = omega arith in
          (λ i. local s b one i ∷ records_of read size (suc n) (drop-append-le size s b one i))
          ∙ ap (λ (l : List A). read s ∷ l) (go n (drop size s) (length-drop size s ∙ omega arith))

  -- one record more whose bytes were stored
  stored_snoc : (n : ℕ) (s b : Bytes) {x : A} → read (b ++ []) ≡ x → length s ≡ size * n → records_of read size (n + 1) (s ++ b) ≡ records_of read size n s ++ (x ∷ [])
  stored_snoc n s b e h = records_snoc n s b h ∙ ap (λ (x : A). records_of read size n s ++ (x ∷ [])) (ap read (sym (append-nil b)) ∙ e)

-- a node that was stored behind the others
pub nodes_snoc : (n : ℕ) (s : Bytes) (x : Node) → length s ≡ 16 * n → records_of node_of 16 (n + 1) (s ++ node_bytes_of x) ≡ records_of node_of 16 n s ++ (x ∷ [])
nodes_snoc n s x = stored_snoc node_of 16 node_local n s (node_bytes_of x) (node_back x [])

-- an entry that was stored behind the others
pub entries_snoc : (n : ℕ) (s : Bytes) (x : Entry) → length s ≡ 8 * n → records_of entry_of 8 (n + 1) (s ++ entry_bytes x) ≡ records_of entry_of 8 n s ++ (x ∷ [])
entries_snoc n s x = stored_snoc entry_of 8 entry_local n s (entry_bytes x) (entry_back x [])

-- the link of the node at an index, Root left out
pub link_back : (n i : ℕ) (s : Bytes) → 16 * n ≤ length s → 0 < i → i ≤ n → (get_or (records_of node_of 16 n s) (i - 1) nowhere).link ≡ le32 (drop (link_at i) s)
unfolding node_of node_fields_of
link_back n i s l pos h =
    ap (λ (x : Node). x.link) (records_at node_of 16 n s (i - 1) nowhere (omega arith))
    ∙ rw (le-leb 16 (length (drop (16 * (i - 1)) s)) (omega (arith, length-drop (16 * (i - 1)) s))) (ap le32 (drop-drop 4 (16 * (i - 1)) s))
