use Rattle.std.proofs.Common.{ℕ, ◌≡◌, ◌≤◌, ◌+◌, ◌∙◌, List, ◌++◌, length, take, arith, ap, subst, length-take-le}
use Rattle.std.proofs.lemmas.List.{take-append-le}
use Rattle.std.proofs.Math.Seq.{take-append-add}
use Rattle.std.proofs.KnownBytes.{Consumes-trans}
use borrow.Rule.Slice.PartMut.{put_mid, post_of}
use Rattle.streams.proofs.read_full.Goals as goal

-- the bytes before a place, and those that a part from there on begins with
take-put_mid_in : (a k n : ℕ) (xs ys : List ℕ) → a ≤ length xs → n ≤ length ys → take (a + n) (put_mid a k xs ys) ≡ take a xs ++ take n ys
take-put_mid_in a k n xs ys h l =
    subst (λ (m : ℕ). take (m + n) (put_mid a k xs ys) ≡ take a xs ++ take n ys) (length-take-le a xs h)
    (take-append-add (take a xs) (ys ++ post_of a k xs) n ∙ ap (λ (zs : List ℕ). take a xs ++ zs) (take-append-le n ys (post_of a k xs) l))

pub loop-done-preserved : goal.loop-done-preserved
loop-done-preserved g c = record {
  within = omega (arith, c.in_ok-n.ensures.bound.0, c.read.auto.buf);
  bytes = rw (take-put_mid_in c.loop-done.done _ c.in_ok-n.n c.loop-done.space c.read.new.buf (omega arith) c.in_ok-n.ensures.bound.0) (Consumes-trans _ _ _ _ _ c.loop-done.invariant.bytes c.in_ok-n.ensures.bytes.0);
}
