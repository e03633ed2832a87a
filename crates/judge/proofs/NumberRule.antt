-- The numbers of steps: each answer from the tests that led there, and what a step has passed by its number.
use mathlib.Core.Path.{◌≡◌, refl, sym, ◌∙◌}
use mathlib.Core.Bool.{Bool, true, false, ◌&&◌, cond}
use Prim.Native.Nat.{ℕ, ◌+◌, ◌-◌, ◌≤◌, ◌<◌}
use native.Mathlib.Omega.{arith}
use lib.ListN.{length}
use lib.Dec.{eqb, ltb, leb}
use borrow.Author.Tests.{ltb-true, leb-true, eqb-true, eqb-false, eq-eqb}
use Rattle.parts.specs.Bytes.{Bytes}
use Rattle.parts.proofs.Laws.{and-true}
use Rattle.chars.specs.Utf8.{is_utf8}
use Rattle.tape.specs.declared.Node.{Node}
use Rattle.tape.specs.declared.Entry.{Entry}
use Rattle.draft.specs.Fault.{first}
use Rattle.draft.proofs.Kept.{passed}
use Rattle.layout.specs.declared.Writer.{Writer}
use Rattle.layout.specs.Layout.{Fits, file_len, draft_of}
use Rattle.judge.specs.Phase.{limited, fits, phase_of, finish_number_of}
use Rattle.judge.specs.Tests.{good_here}
use Rattle.judge.specs.Numbers.{node_number_of, piece_number_of, good_entry_for, entry_number_of}

-- ---- the limits

-- a state within the limits fits where its file does
pub limited-fits : (w : Writer) (n : ℕ) → limited w ≡ true → file_len w ≤ n → Fits w n
unfolding limited
limited-fits w n e₀ room =
    let e₁ = and-true _ _ e₀ in
    let e₂ = and-true _ _ e₁.1 in
    let e₃ = and-true _ _ e₂.1 in
    let e₄ = and-true _ _ e₃.1 in
    let e₅ = and-true _ _ e₄.1 in
    let e₆ = and-true _ _ e₅.1 in
    record {
      room = room;
      nodes = ltb-true _ _ e₁.0;
      entries = leb-true _ _ e₂.0;
      names = leb-true _ _ e₃.0;
      source = leb-true _ _ e₄.0;
      inner = leb-true _ _ e₅.0;
      depth = leb-true _ _ e₆.0;
    }

-- it fits a buffer as long as its file
pub limits_of : (w : Writer) → limited w ≡ true → Fits w (file_len w)
limits_of w e = limited-fits w (file_len w) e (omega arith)

pub limited-by : (w : Writer) {t : Bool} → t ≡ limited w → t ≡ true → limited w ≡ true
limited-by w e h = sym e ∙ h

-- a state that is at work on a buffer of so many bytes
pub record AtWork (w : Writer) (n : ℕ) : Type 0 where
  pub fits : Fits w n
  pub phase : w.phase ≡ 1
  pub limited : limited w ≡ true

pub at_work : (w : Writer) (n : ℕ) → eqb (phase_of w n) 1 ≡ true → AtWork w n
unfolding phase_of fits
at_work w n = go (fits w n) refl
  where
    go : (b : Bool) → fits w n ≡ b → eqb (cond b w.phase 0) 1 ≡ true → AtWork w n
    go true e h =
        let a = and-true (limited w) _ e in
        record { fits = limited-fits w n a.0 (leb-true _ _ a.1); phase = eqb-true _ _ h; limited = a.0 }
    go false e h = absurd (let no_way : ◌≡◌ {A = ℕ} 0 1 = cc in omega arith)

module _ (w : Writer) (n : ℕ) {k : ℕ} (ek : k ≡ phase_of w n) where
  module _ (h : k ≡ 1) where
    busy : eqb (phase_of w n) 1 ≡ true
    busy = eq-eqb (phase_of w n) 1 (sym ek ∙ h)

    -- at work it is within the limits and fits
    pub busy_limited : limited w ≡ true
    busy_limited = (at_work w n busy).limited

    pub busy_fits : Fits w n
    busy_fits = (at_work w n busy).fits

    pub busy_room : {z : ℕ} → z ≡ file_len w → z ≤ n
    busy_room e = omega (arith, busy_fits.room)

    pub busy_source : w.source ≤ 4194304
    busy_source = busy_fits.source

    pub busy_names : w.names ≤ 16384
    busy_names = busy_fits.names

    pub busy_named : (m : ℕ) → m ≤ 16384 - w.names → w.names + m ≤ 16384
    busy_named m l = omega (arith, busy_names)

-- ---- what a step has passed

-- a number that is none of a test's own comes behind it
past : (ok : Bool) {no rest k : ℕ} → (no ≡ k → ⊥) → first ok no rest ≡ k → (ok ≡ true) × (rest ≡ k)
past true h e = (refl, e)
past false h e = absurd (h e)

-- with a number below 16 a state is at work
pub working : (w : Writer) (n : ℕ) {rest k : ℕ} → k < 16 → first (eqb (phase_of w n) 1) 16 rest ≡ k → AtWork w n × (rest ≡ k)
working w n l e = let a = past (eqb (phase_of w n) 1) (λ h. omega arith) e in (at_work w n a.0, a.1)

-- a finish that is done had nothing open
pub record FinishPassed (w : Writer) (n : ℕ) : Type 0 where
  pub work : AtWork w n
  pub depth : w.depth ≡ 0
  pub inner : w.inner ≡ 0

module _ (w : Writer) (n : ℕ) where
  pub finish_passed : finish_number_of w n ≡ 0 → FinishPassed w n
  unfolding finish_number_of
  finish_passed e₀ =
      let e₁ = working w n (omega arith) e₀ in
      let e₂ = passed (eqb w.depth 0 && eqb w.inner 0) (omega arith) e₁.1 in
      let e₃ = and-true _ _ e₂.0 in
      record { work = e₁.0; depth = eqb-true _ _ e₃.0; inner = eqb-true _ _ e₃.1 }

  -- a finish is never short of room
  pub finish_not_eight : finish_number_of w n ≡ 8 → ⊥
  unfolding finish_number_of
  finish_not_eight e₀ =
      let e₁ = working w n (omega arith) e₀ in
      let e₂ = past (eqb w.depth 0 && eqb w.inner 0) (λ h. omega arith) e₁.1 in
      omega (arith, e₂.1)

-- a node that is added had room, and broke no nesting
pub record NodePassed (w : Writer) (n nest : ℕ) : Type 0 where
  pub work : AtWork w n
  pub room : file_len w + 16 ≤ n
  pub nested : nest ≡ 0

nest_passed : (nest : ℕ) {rest : ℕ} → first (eqb nest 0) nest rest ≡ 0 → (nest ≡ 0) × (rest ≡ 0)
nest_passed nest {rest} = go (eqb nest 0) refl
  where
    go : (b : Bool) → eqb nest 0 ≡ b → first b nest rest ≡ 0 → (nest ≡ 0) × (rest ≡ 0)
    go true h e = (eqb-true nest 0 h, e)
    go false h e = absurd (eqb-false nest 0 h e)

module _ (w : Writer) (buf : Bytes) (n : Node) (nest : ℕ) where
  pub node_passed : node_number_of w buf n nest ≡ 0 → NodePassed w (length buf) nest
  unfolding node_number_of
  node_passed e₀ =
      let e₁ = working w (length buf) (omega arith) e₀ in
      let e₂ = passed (ltb (w.nodes + 1) 262144) (omega arith) e₁.1 in
      let e₃ = passed (good_here (draft_of w buf).source (draft_of w buf).entries n) (omega arith) e₂.1 in
      let e₄ = nest_passed nest e₃.1 in
      let e₅ = passed (leb (file_len w + 16) (length buf)) (omega arith) e₄.1 in
      record { work = e₁.0; room = leb-true _ _ e₅.0; nested = e₄.0 }

  -- a node that is short of room alone: its state is within the limits
  pub node_short : node_number_of w buf n nest ≡ 8 → limited w ≡ true
  unfolding node_number_of
  node_short e = (working w (length buf) (omega arith) e).0.limited

-- a piece that is added had room, and stayed within the limits
pub record PiecePassed (w : Writer) (n k : ℕ) : Type 0 where
  pub work : AtWork w n
  pub room : file_len w + k ≤ n
  pub source : w.source + k ≤ 4194304

module _ (w : Writer) (n : ℕ) (s : Bytes) where
  pub piece_passed : piece_number_of w n s ≡ 0 → PiecePassed w n (length s)
  unfolding piece_number_of
  piece_passed e₀ =
      let e₁ = working w n (omega arith) e₀ in
      let e₂ = passed (leb (length s) (4194304 - w.source)) (omega arith) e₁.1 in
      let e₃ = passed (is_utf8 s) (omega arith) e₂.1 in
      let e₄ = passed (leb (length s) (n - file_len w)) (omega arith) e₃.1 in
      let a : length s ≤ 4194304 - w.source = leb-true _ _ e₂.0 in
      let b : length s ≤ n - file_len w = leb-true _ _ e₄.0 in
      let f : Fits w n = e₁.0.fits in
      record { work = e₁.0; room = omega arith; source = omega arith }

  -- a piece that is short of room alone is within the limits itself
  pub piece_short : piece_number_of w n s ≡ 8 → (limited w ≡ true) × (length s ≤ 4194304)
  unfolding piece_number_of
  piece_short e₀ =
      let e₁ = working w n (omega arith) e₀ in
      let e₂ = past (leb (length s) (4194304 - w.source)) (λ h. omega arith) e₁.1 in
      let a : length s ≤ 4194304 - w.source = leb-true _ _ e₂.0 in
      (e₁.0.limited, omega arith)

-- an entry that is added came before the nodes, had room, and stayed within the limits
pub record EntryPassed (w : Writer) (n k : ℕ) : Type 0 where
  pub work : AtWork w n
  pub bare : w.nodes ≡ 0
  pub room : file_len w + 8 + k ≤ n
  pub entries : w.entries < 1024
  pub names : w.names + k ≤ 16384

-- one entry more and so many name bytes are within the limits
few_names : (w : Writer) (k : ℕ) → ltb w.entries 1024 && leb k (16384 - w.names) ≡ true → (w.entries < 1024) × (k ≤ 16384 - w.names)
few_names w k e = let a = and-true (ltb w.entries 1024) _ e in (ltb-true _ _ a.0, leb-true _ _ a.1)

module _ (w : Writer) (n : ℕ) (s : Bytes) (e : Entry) where
  pub entry_passed : entry_number_of w n s e ≡ 0 → EntryPassed w n (length s)
  unfolding entry_number_of
  entry_passed e₀ =
      let e₁ = working w n (omega arith) e₀ in
      let e₂ = passed (eqb w.nodes 0) (omega arith) e₁.1 in
      let e₃ = passed (ltb w.entries 1024 && leb (length s) (16384 - w.names)) (omega arith) e₂.1 in
      let e₄ = passed (good_entry_for w.names s e) (omega arith) e₃.1 in
      let e₅ = passed (leb 8 (n - file_len w) && leb (length s) (n - file_len w - 8)) (omega arith) e₄.1 in
      let few = few_names w (length s) e₃.0 in
      let left = and-true (leb 8 (n - file_len w)) _ e₅.0 in
      let a : 8 ≤ n - file_len w = leb-true _ _ left.0 in
      let b : length s ≤ n - file_len w - 8 = leb-true _ _ left.1 in
      let f : Fits w n = e₁.0.fits in
      record { work = e₁.0; bare = eqb-true _ _ e₂.0; room = omega arith; entries = few.0; names = omega arith }

  -- an entry that is short of room alone has its name bytes within the limits
  pub entry_short : entry_number_of w n s e ≡ 8 → (limited w ≡ true) × (length s ≤ 16384)
  unfolding entry_number_of
  entry_short e₀ =
      let e₁ = working w n (omega arith) e₀ in
      let e₂ = past (eqb w.nodes 0) (λ h. omega arith) e₁.1 in
      let e₃ = past (ltb w.entries 1024 && leb (length s) (16384 - w.names)) (λ h. omega arith) e₂.1 in
      let few = few_names w (length s) e₃.0 in
      (e₁.0.limited, omega arith)
