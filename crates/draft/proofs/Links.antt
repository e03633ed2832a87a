-- Open containers of a list of nodes: the chain of their links, and the list with their closes filled in.
use mathlib.Core.Path.{◌≡◌, refl, sym, ap, ◌∙◌, subst}
use mathlib.Core.List.{List, [], ◌∷◌, ◌++◌}
use Prim.Native.Nat.{ℕ, ◌+◌, ◌-◌, ◌≤◌, ◌<◌}
use native.Mathlib.Omega.{arith}
use lib.ListN.{length, get_or, set, length-append, length-set, get_or-append}
use lib.Seq.{set-append_left, set-append_seam, get_or-append_seam, get_or-set_other}
use Rattle.tape.specs.File.{nowhere}
use Rattle.tape.specs.declared.Node.{Node}
use Rattle.nest.specs.Tape.{link_at}
use Rattle.draft.specs.Draft.{relinked}

-- the nodes with the link of one of them set anew
unfoldable pub relink : List Node → ℕ → ℕ → List Node
relink t k to = set t k (relinked (get_or t k nowhere) to)

-- the nodes with the links of open containers set to their closes
unfoldable pub fill : List Node → List ℕ → List ℕ → List Node
fill t [] cs = t
fill t (k ∷ s) [] = t
fill t (k ∷ s) (c ∷ cs) = fill (relink t k c) s cs

-- open containers before a node, the innermost first: each links to the one around it, the last to 0
abbrev pub Chain : List Node → ℕ → ℕ → List ℕ → Type 0
Chain t m top [] = top ≡ 0
Chain t m top (k ∷ s) = (top ≡ k) × (0 < k) × (k < m) × Chain t k (link_at t k) s

-- ---- lengths

length-relink : (t : List Node) (k to : ℕ) → length (relink t k to) ≡ length t
unfolding relink
length-relink t k to = simp length-set

pub length-fill : (t : List Node) (s cs : List ℕ) → length (fill t s cs) ≡ length t
unfolding fill
length-fill t [] cs = refl
length-fill t (k ∷ s) [] = refl
length-fill t (k ∷ s) (c ∷ cs) = length-fill (relink t k c) s cs ∙ length-relink t k c

-- ---- chains

-- a chain is told by the links before its node
chain_same : (t u : List Node) (m top : ℕ) (s : List ℕ) → ((i : ℕ) → i < m → link_at t i ≡ link_at u i) → Chain t m top s → Chain u m top s
chain_same t u m top [] e h = h
chain_same t u m top (k ∷ s) e h =
    (h.0, h.1, h.2, subst (λ (l : ℕ). Chain u k l s) (e k h.2) (chain_same t u k _ s (λ i l. e i (omega arith)) h.3))

chain_up : (t : List Node) (m n top : ℕ) (s : List ℕ) → m ≤ n → Chain t m top s → Chain t n top s
chain_up t m n top [] l h = h
chain_up t m n top (k ∷ s) l h = (h.0, h.1, omega arith, h.3)

chain_append : (t u : List Node) (m top : ℕ) (s : List ℕ) → m ≤ length t → Chain t m top s → Chain (t ++ u) m top s
chain_append t u m top s l h =
    chain_same t (t ++ u) m top s (λ i b. ap (λ (n : Node). n.link) (sym (get_or-append t u nowhere i (omega arith)))) h

chain_longer : (t u : List Node) (m top : ℕ) (s : List ℕ) → m ≤ length t → Chain t m top s → Chain (t ++ u) (length (t ++ u)) top s
chain_longer t u m top s l h = chain_up (t ++ u) m _ top s (omega (arith, length-append t u)) (chain_append t u m top s l h)

chain_relink : (t : List Node) (k to m top : ℕ) (s : List ℕ) → m ≤ k → Chain t m top s → Chain (relink t k to) m top s
unfolding relink
chain_relink t k to m top s l h =
    chain_same t (relink t k to) m top s (λ i b. ap (λ (n : Node). n.link) (sym (get_or-set_other t k i _ nowhere (λ e. omega arith)))) h

-- ---- one node more

relink-append : (t u : List Node) (k to : ℕ) → k < length t → relink (t ++ u) k to ≡ relink t k to ++ u
unfolding relink
relink-append t u k to l = rw (get_or-append t u nowhere k l, set-append_left t u k _ l)

relink-last : (t : List Node) (n : Node) (to : ℕ) → relink (t ++ (n ∷ [])) (length t) to ≡ t ++ (relinked n to ∷ [])
unfolding relink
relink-last t n to = rw (get_or-append_seam t n [] nowhere, set-append_seam t n [] _)

-- what stands behind does not matter
fill-append : (t u : List Node) (m top : ℕ) (s cs : List ℕ) → m ≤ length t → Chain t m top s → fill (t ++ u) s cs ≡ fill t s cs ++ u
unfolding fill
fill-append t u m top [] cs l h = refl
fill-append t u m top (k ∷ s) [] l h = refl
fill-append t u m top (k ∷ s) (c ∷ cs) l h =
    rw (relink-append t u k c (omega arith))
    (fill-append (relink t k c) u k _ s cs (omega (arith, length-relink t k c)) (chain_relink t k c k _ s (omega arith) h.3))

-- ---- what is open after one node more

-- the open containers of a list of nodes, the innermost first: how deep it stands
pub record Opened (t : List Node) (top depth : ℕ) (s : List ℕ) : Type 0 where
  pub chain : Chain t (length t) top s
  pub height : depth ≡ length s

module _ {t : List Node} {top depth : ℕ} {s : List ℕ} (n : Node) where
  -- a node that opens and closes nothing
  pub opened_plain : Opened t top depth s → Opened (t ++ (n ∷ [])) top depth s
  opened_plain o = record { chain = chain_longer t (n ∷ []) (length t) top s (omega arith) o.chain; height = o.height }

  -- a container
  pub opened_more : 0 < length t → Opened t top depth s → Opened (t ++ (relinked n top ∷ [])) (length t) (depth + 1) (length t ∷ s)
  opened_more l o =
      record {
        chain = (
          refl,
          l,
          omega (arith, length-append t (relinked n top ∷ [])),
          rw (get_or-append_seam t (relinked n top) [] nowhere, link_at) (chain_append t (relinked n top ∷ []) (length t) top s (omega arith) o.chain),
        );
        height = omega (arith, o.height);
      }

  pub fill-plain : (cs : List ℕ) → Opened t top depth s → fill (t ++ (n ∷ [])) s cs ≡ fill t s cs ++ (n ∷ [])
  fill-plain cs o = fill-append t (n ∷ []) (length t) top s cs (omega arith) o.chain

  pub fill_more : (c : ℕ) (cs : List ℕ) → Opened t top depth s → fill (t ++ (n ∷ [])) (length t ∷ s) (c ∷ cs) ≡ fill t s cs ++ (relinked n c ∷ [])
  unfolding fill
  fill_more c cs o = rw (relink-last t n c) (fill-append t (relinked n c ∷ []) (length t) top s cs (omega arith) o.chain)

module _ {t : List Node} {top depth k : ℕ} {s : List ℕ} (to : ℕ) (n : Node) (o : Opened t top depth (k ∷ s)) where
  inner_chain : Chain (relink t k to) k (link_at t k) s
  inner_chain = chain_relink t k to k _ s (omega arith) o.chain.3

  -- the close of the innermost
  pub opened_less : Opened (relink t k to ++ (n ∷ [])) (link_at t k) (depth - 1) s
  opened_less =
      record {
        chain = chain_longer (relink t k to) (n ∷ []) k _ s (omega (arith, length-relink t k to)) inner_chain;
        height = omega (arith, o.height);
      }

  pub fill_less : (cs : List ℕ) → fill (relink t k to ++ (n ∷ [])) s cs ≡ fill t (k ∷ s) (to ∷ cs) ++ (n ∷ [])
  unfolding fill
  fill_less cs = fill-append (relink t k to) (n ∷ []) k _ s cs (omega (arith, length-relink t k to)) inner_chain
