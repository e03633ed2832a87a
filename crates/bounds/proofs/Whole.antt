-- No admitted tape's text comes near 2^64.
use mathlib.Core.Path.{◌≡◌, refl}
use mathlib.Core.Bool.{Bool, true, false, cond}
use mathlib.Core.List.{List, [], ◌∷◌, ◌++◌}
use mathlib.Core.Logic.{⊎_elim}
use Prim.Native.Nat.{ℕ, zero, suc, ◌+◌, ◌^◌, ◌≤◌, ◌<◌}
use native.Mathlib.Omega.{arith}
use lib.ListN.{length, drop}
use lib.Dec.{leb}
use Rattle.parts.specs.Bytes.{Bytes, b}
use Rattle.tape.specs.File.{Tape, tape_of}
use Rattle.tape.specs.Tree.{children}
use Rattle.nest.specs.Tape.{link_at}
use Rattle.tags.specs.Items.{Attr, Item, start, close, line, bytes_of, framed}
use Rattle.admit.specs.Refusal.{Kept₇, Refusal}
use Rattle.admit.specs.Decide.{refusal}
use Rattle.admit.proofs.Decide.{kept_all, refusal_right}
use Rattle.admit.proofs.Gives.{node_limit}
use Rattle.events.specs.Pairing.{paired}
use Rattle.events.specs.Walk.{events_within, events_of}
use Rattle.events.specs.Text.{first_state_of, items_of_tape, text_of, Outcome, fitting, outcome_by, outcome}
use Rattle.bounds.proofs.Items.{attr_cost, attrs_cost, start_most, close_most, line_most, items_cost, render_is, items_append, items_one}
use Rattle.bounds.proofs.Light.{size_or, Light, light_most, Small, paired_most}
use Rattle.bounds.proofs.Mass.{cost_deep, sizes, mass_is, root_size}
use Rattle.bounds.proofs.Blocks.{blocks_light}

first_small : (t : Tape) → Small (first_state_of t)
unfolding first_state_of size_or
first_small t = record { book = omega arith; chapter = omega arith; verse = omega arith }

abbrev version : List Attr
version = record { key = b "version"; value = b "3.0"; raw = false } ∷ []

version-cost : attrs_cost version ≤ 100
unfolding attrs_cost attr_cost
version-cost = omega arith

more_items : (i : Item) (is : List Item) → items_cost (i ∷ is) ≡ length (bytes_of i) + items_cost is
unfolding items_cost
more_items i is = refl

-- usx around items
framed_most : (is : List Item) → items_cost (framed (is ++ (line 0 ∷ []))) ≤ 1000 + items_cost is
framed_most is =
    let js = is ++ (line 0 ∷ []) in
    omega (
      arith,
      more_items (start 1 version) (js ++ (close 1 ∷ [])),
      start_most 1 version,
      version-cost,
      items_append js (close 1 ∷ []),
      items_append is (line 0 ∷ []),
      items_one (close 1),
      items_one (line 0),
      close_most 1,
      line_most 0,
    )

module _ (file : Bytes) (z : Kept₇ file) where
  abbrev t : Tape
  t = tape_of file

  root_limit : link_at t.nodes 0 ≤ 262144
  root_limit = let n = (node_limit file z).1 in ⊎_elim (λ e. omega arith) (λ e. omega (arith, e.0)) z.nested.root

  events_light : Light 138412032000000000 (events_of t)
  unfolding events_of events_within
  events_light =
      let n = sizes t (children t 0) in
      light_most (blocks_light file z 64 1 (omega arith) (children t 0)) (omega (arith, mass_is t 65 (children t 0), cost_deep n, root_size file z, root_limit))

  items_most : items_cost (items_of_tape t) ≤ 138412033000000000
  unfolding items_of_tape
  items_most =
      omega (arith, framed_most (paired (first_state_of t) (events_of t)), paired_most (first_state_of t) (first_small t) (events_of t) events_light)

  -- the text of an admitted tape is shorter than 2^60 bytes
  pub text-small : length (text_of t) < 2 ^ 60
  unfolding text_of
  text-small = omega (arith, render_is (items_of_tape t), items_most)

-- ---- every call

pub fitting-given : (s out : Bytes) → (fitting s out).given ≡ length s
unfolding fitting
fitting-given s out = go (leb (length s) (length out))
  where
    go : (x : Bool)
        → ◌≡◌ {A = ℕ} (cond {A = Outcome} x (record { number = 0; given = length s; buffer = s ++ drop (length s) out }) (record { number = 8; given = length s; buffer = out })).given (length s)
    go true = refl
    go false = refl

-- the length that any call gives, whatever the file and the buffer
pub given-small : (file out : Bytes) → (outcome file out).given < 2 ^ 60
unfolding outcome outcome_by
given-small file out = go (refusal file) (refusal_right file)
  where
    go : (n : ℕ) → Refusal file n → (outcome_by n (text_of (tape_of file)) out).given < 2 ^ 60
    go zero r = omega (arith, fitting-given (text_of (tape_of file)) out, text-small file (kept_all r))
    go (suc n) r = omega arith
