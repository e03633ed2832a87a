-- The fold over a text, and the verdict that it comes to.
use Rattle.std.specs.Prelude.{ℕ, ◌≡◌, List, [], ◌∷◌, Bool, true, false, cond, not, ◌&&◌, ◌||◌, ℤ, pos}
use Rattle.std.proofs.Math.Option.{Option, some, none}
use Rattle.std.specs.Int.Signed.{lt_z}
use Rattle.parts.specs.Bytes.{Bytes}
use Rattle.tags.specs.Form.{Token, tokens}
use Rattle.checker.specs.View.{View, view}
use Rattle.checker.specs.Words.{highest}
use Rattle.checker.specs.Steps.{rise, Trunk, grow, shut, Pairs, pair_up, is_shut}
use Rattle.checker.specs.declared.Verdict.{Verdict}
use Rattle.checker.specs.declared.Verdict.TheVariants.{Accepted, NotTags, TooHigh, NoTree, BadMarks}

-- the height here, whether one was over 160, the tree so far, the milestones so far
pub record Run : Type 0 where
  pub height : ℤ
  pub high : Bool
  pub trunk : Trunk
  pub pairs : Pairs

-- one token more
unfoldable pub step_on : Run → View → Run
step_on r v =
    record {
      height = rise r.height v;
      high = r.high || lt_z (pos highest) (rise r.height v);
      trunk = grow r.trunk v;
      pairs = pair_up r.pairs v;
    }

-- a row of tokens more
unfoldable pub fold_on : Run → List Token → Run
fold_on r [] = r
fold_on r (t ∷ ts) = fold_on (step_on r (view t)) ts

-- at the start of a text
abbrev pub at_start : Run
at_start =
    record {
      height = pos 0;
      high = false;
      trunk = record { stack = []; seen = false; done = false; broken = false };
      pairs = record { chapter = shut; verse = shut; chapters = 0; verses = 0; amiss = false };
    }

-- whether no element is open
unfoldable pub none_open_of : List ℕ → Bool
none_open_of [] = true
none_open_of (n ∷ ns) = false

-- whether the tree so far is one usx tree
unfoldable pub one_tree : Trunk → Bool
one_tree t = not t.broken && (t.seen && none_open_of t.stack)

-- whether the milestones so far are right, and none is open
unfoldable pub paired_off : Pairs → Bool
paired_off p = not p.amiss && (is_shut p.chapter && is_shut p.verse)

-- the verdict at the end of a text
unfoldable pub verdict_of : Run → Verdict
verdict_of r =
    cond r.high TooHigh
    (cond (one_tree r.trunk) (cond (paired_off r.pairs) (Accepted r.pairs.chapters r.pairs.verses) BadMarks) NoTree)

-- the verdict on what is left to read, where it has tag form or none
unfoldable pub settle : Run → Option (List Token) → Verdict
settle r none = NotTags
settle r (some ts) = verdict_of (fold_on r ts)

-- the verdict on a text
unfoldable pub fold_verdict : Bytes → Verdict
fold_verdict s = settle at_start (tokens s)

-- two runs are the same, but for the tree once a height was over 160: the verdict is 12 whatever it is
pub record Alike (p q : Run) : Type 0 where
  pub height : p.height ≡ q.height
  pub high : p.high ≡ q.high
  pub trunk : q.high ≡ false → p.trunk ≡ q.trunk
  pub pairs : p.pairs ≡ q.pairs
