-- Laws of the four bytes.
use mathlib.Core.Path.{◌≡◌, refl, ap}
use mathlib.Core.Bool.{Bool, true, false, ◌||◌}
use mathlib.Core.List.{[], ◌∷◌}
use Prim.Native.Nat.{ℕ, zero, suc, ◌<◌}
use native.Mathlib.Omega.{arith}
use lib.ListN.{length, take, drop}
use Rattle.parts.specs.Bytes.{Bytes, part}
use Rattle.parts.proofs.Laws.{or_both}
use Rattle.std.specs.List.{list_any}
use Rattle.chars.specs.Escape.{special}
use Rattle.accepts.specs.Proviso.{has_special, Free}

-- a text holds one of the four where any of its bytes is one
pub special_any : (s : Bytes) → list_any (special true) s ≡ has_special s
unfolding has_special
special_any [] = refl
special_any (x ∷ s) = ap (λ (t : Bool). special true x || t) (special_any s)

-- ---- free texts

pub some-length : (s : Bytes) → has_special s ≡ true → 0 < length s
unfolding has_special
some-length [] h = absurd (let no_way : ◌≡◌ {A = ℕ} 0 1 = cc in omega arith)
some-length (x ∷ s) h = omega arith

pub never : (s : Bytes) → has_special s ≡ false → has_special s ≡ true → ⊥
never s f h = let no_way : ◌≡◌ {A = ℕ} 0 1 = cc in omega arith

free-take : (n : ℕ) (s : Bytes) → Free s → Free (take n s)
unfolding has_special
free-take zero s h = refl
free-take (suc n) [] h = refl
free-take (suc n) (x ∷ s) h =
    let (e, r) = or_both (special true x) (has_special s) h in
    rw (e, free-take n s r)

free-drop : (n : ℕ) (s : Bytes) → Free s → Free (drop n s)
unfolding has_special
free-drop zero s h = h
free-drop (suc n) [] h = refl
free-drop (suc n) (x ∷ s) h = free-drop n s (or_both (special true x) (has_special s) h).1

pub free_part : (s : Bytes) (start len : ℕ) → Free s → Free (part s start len)
free_part s start len h = free-take len (drop start s) (free-drop start s h)
