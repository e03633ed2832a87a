-- What the attributes make a chapter or verse tag, in document 01's words.
use mathlib.Core.Path.{◌≡◌, refl, sym, ap, ◌∙◌}
use mathlib.Core.Bool.{Bool, true, false, cond}
use mathlib.Core.List.{List, [], ◌∷◌, ◌++◌}
use mathlib.Core.Logic.{◌↔◌}
use Prim.Native.Nat.{ℕ}
use native.Mathlib.Omega.{arith}
use Rattle.parts.specs.Bytes.{Bytes, b, same}
use Rattle.parts.proofs.Laws.{same_true, same_refl}
use Rattle.tags.specs.Form.{Pair}
use Rattle.checker.specs.View.{Mark, bare, plain, other, start, ends, id_key_of, noted_by, noted, mark_on}
use Rattle.checker.specs.declared.IdKey.{IdKey}
use Rattle.checker.specs.declared.IdKey.TheVariants.{Eid, Sid, Another}
use Rattle.checker.specs.Words.{No, none, more, IsEnd, IsStart}

-- a key by two tests
abbrev by : Bool → Bool → IdKey
by x y = cond x Eid (cond y Sid Another)

key_not : (a : Pair) (k : Bytes) → same a.key k ≡ false → a.key ≡ k → ⊥
key_not a k e i = let no_way : ◌≡◌ {A = ℕ} 0 1 = cc (sym e ∙ ap (λ (z : Bytes). same z k) i ∙ same_refl k) in omega arith

key_other : (a : Pair) (k : Bytes) → (a.key ≡ k → ⊥) → same a.key k ≡ false
key_other a k h = go (same a.key k) refl
  where
    go : (t : Bool) → same a.key k ≡ t → same a.key k ≡ false
    go false e = e
    go true e = absurd (h (same_true a.key k e))

other_stays : (ps : List Pair) → mark_on other ps ≡ other
unfolding mark_on noted noted_by id_key_of
other_stays [] = refl
other_stays (a ∷ ps) = other_stays ps

-- ---- behind a start

start_says : (j i : Bytes) (ps : List Pair) → mark_on (start j) ps ≡ start i → (j ≡ i) × No (b "sid") ps × No (b "eid") ps
unfolding mark_on noted noted_by id_key_of
start_says j i [] e = let k : j ≡ i = cc in (k, none, none)
start_says j i (a ∷ ps) e = go (same a.key (b "eid")) refl (same a.key (b "sid")) refl e (start_says j i ps)
  where
    go : (x : Bool) → same a.key (b "eid") ≡ x → (y : Bool) → same a.key (b "sid") ≡ y → mark_on (noted_by (start j) (by x y) a.value) ps ≡ start i
        → (mark_on (start j) ps ≡ start i → (j ≡ i) × No (b "sid") ps × No (b "eid") ps) → (j ≡ i) × No (b "sid") (a ∷ ps) × No (b "eid") (a ∷ ps)
    go true p y q e f = absurd (let no_way : ◌≡◌ {A = ℕ} 0 1 = cc (other_stays ps) in omega arith)
    go false p true q e f = absurd (let no_way : ◌≡◌ {A = ℕ} 0 1 = cc (other_stays ps) in omega arith)
    go false p false q e f =
        let w = f e in
        (w.0, more (key_not a (b "sid") q) w.1, more (key_not a (b "eid") p) w.2)

start_keeps : (i : Bytes) (ps : List Pair) → No (b "sid") ps → No (b "eid") ps → mark_on (start i) ps ≡ start i
unfolding mark_on noted noted_by id_key_of
start_keeps i [] none none = refl
start_keeps i (a ∷ ps) (more s ss) (more e es) = rw (key_other a (b "eid") e, key_other a (b "sid") s) (start_keeps i ps ss es)

-- ---- a start

sid_first : (a : Pair) (i : Bytes) (ps : List Pair) → same a.key (b "sid") ≡ true → mark_on (start a.value) ps ≡ start i → IsStart (a ∷ ps) i
sid_first a i ps q e =
    let w = start_says a.value i ps e in
    let k : a.key ≡ b "sid" = same_true a.key (b "sid") q in
    record {
      before = [];
      after = ps;
      here = ap (λ (z : Bytes). record { key = z; value = a.value } ∷ ps) k ∙ ap (λ (z : Bytes). record { key = b "sid"; value = z } ∷ ps) w.0;
      one = (none, w.1);
      no_end = (none, w.2);
    }

one_more : (a : Pair) (i : Bytes) (ps : List Pair) → same a.key (b "eid") ≡ false → same a.key (b "sid") ≡ false → IsStart ps i → IsStart (a ∷ ps) i
one_more a i ps p q w =
    record {
      before = a ∷ w.before;
      after = w.after;
      here = ap (λ (l : List Pair). a ∷ l) w.here;
      one = (more (key_not a (b "sid") q) w.one.0, w.one.1);
      no_end = (more (key_not a (b "eid") p) w.no_end.0, w.no_end.1);
    }

plain_start : (i : Bytes) (ps : List Pair) → mark_on plain ps ≡ start i → IsStart ps i
unfolding mark_on noted noted_by id_key_of
plain_start i [] e = absurd (let no_way : ◌≡◌ {A = ℕ} 0 1 = cc in omega arith)
plain_start i (a ∷ ps) e = go (same a.key (b "eid")) refl (same a.key (b "sid")) refl e (plain_start i ps)
  where
    go : (x : Bool) → same a.key (b "eid") ≡ x → (y : Bool) → same a.key (b "sid") ≡ y → mark_on (noted_by plain (by x y) a.value) ps ≡ start i
        → (mark_on plain ps ≡ start i → IsStart ps i) → IsStart (a ∷ ps) i
    go true p y q e f = absurd (let no_way : ◌≡◌ {A = ℕ} 0 1 = cc (other_stays ps) in omega arith)
    go false p true q e f = sid_first a i ps q e
    go false p false q e f = one_more a i ps p q (f e)

end_says : (j : Bytes) (ps : List Pair) (m : Mark) → mark_on (ends j) ps ≡ m → (m ≡ other → ⊥) → (ps ≡ []) × (ends j ≡ m)
unfolding mark_on noted noted_by id_key_of
end_says j [] m e h = (refl, e)
end_says j (a ∷ ps) m e h = absurd (h (sym e ∙ other_stays ps))

start_no_end : (i j : Bytes) (ps : List Pair) → mark_on (start j) ps ≡ ends i → ⊥
unfolding mark_on noted noted_by id_key_of
start_no_end i j [] e = let no_way : ◌≡◌ {A = ℕ} 0 1 = cc in omega arith
start_no_end i j (a ∷ ps) e = go (same a.key (b "eid")) (same a.key (b "sid")) e (start_no_end i j ps)
  where
    go : (x y : Bool) → mark_on (noted_by (start j) (by x y) a.value) ps ≡ ends i → (mark_on (start j) ps ≡ ends i → ⊥) → ⊥
    go true y e f = let no_way : ◌≡◌ {A = ℕ} 0 1 = cc (other_stays ps) in omega arith
    go false true e f = let no_way : ◌≡◌ {A = ℕ} 0 1 = cc (other_stays ps) in omega arith
    go false false e f = f e

plain_no_end : (i : Bytes) (ps : List Pair) → mark_on plain ps ≡ ends i → ⊥
unfolding mark_on noted noted_by id_key_of
plain_no_end i [] e = let no_way : ◌≡◌ {A = ℕ} 0 1 = cc in omega arith
plain_no_end i (a ∷ ps) e = go (same a.key (b "eid")) (same a.key (b "sid")) e (plain_no_end i ps)
  where
    go : (x y : Bool) → mark_on (noted_by plain (by x y) a.value) ps ≡ ends i → (mark_on plain ps ≡ ends i → ⊥) → ⊥
    go true y e f = let no_way : ◌≡◌ {A = ℕ} 0 1 = cc (other_stays ps) in omega arith
    go false true e f = start_no_end i a.value ps e
    go false false e f = f e

quiet_plain : (a : Pair) → (a.key ≡ b "sid" → ⊥) → (a.key ≡ b "eid" → ⊥) → noted plain a ≡ plain
unfolding noted noted_by id_key_of
quiet_plain a s e = rw (key_other a (b "eid") e, key_other a (b "sid") s)

quiet_bare : (a : Pair) → (a.key ≡ b "sid" → ⊥) → (a.key ≡ b "eid" → ⊥) → noted bare a ≡ plain
unfolding noted noted_by id_key_of
quiet_bare a s e = rw (key_other a (b "eid") e, key_other a (b "sid") s)

plain-keeps : (i : Bytes) (c z : List Pair) → No (b "sid") c → No (b "eid") c → No (b "sid") z → No (b "eid") z
    → mark_on plain (c ++ (record { key = b "sid"; value = i } ∷ z)) ≡ start i
unfolding mark_on noted noted_by id_key_of same
plain-keeps i [] z none none s e = start_keeps i z s e
plain-keeps i (a ∷ c) z (more s ss) (more e es) sz ez =
    ap (λ (m : Mark). mark_on m (c ++ (record { key = b "sid"; value = i } ∷ z))) (quiet_plain a s e) ∙ plain-keeps i c z ss es sz ez

-- a start: exactly where it has one `sid` and no `eid`
pub start_exact : (ps : List Pair) (i : Bytes) → (mark_on bare ps ≡ start i) ↔ IsStart ps i
unfolding mark_on noted noted_by id_key_of same
start_exact ps i = (to ps, from)
  where
    to : (ps : List Pair) → mark_on bare ps ≡ start i → IsStart ps i
    to [] e = absurd (let no_way : ◌≡◌ {A = ℕ} 0 1 = cc in omega arith)
    to (a ∷ ps) e = go (same a.key (b "eid")) refl (same a.key (b "sid")) refl e
      where
        go : (x : Bool) → same a.key (b "eid") ≡ x → (y : Bool) → same a.key (b "sid") ≡ y → mark_on (noted_by bare (by x y) a.value) ps ≡ start i → IsStart (a ∷ ps) i
        go true p y q e =
            let w = end_says a.value ps (start i) e (λ h. let no_way : ◌≡◌ {A = ℕ} 0 1 = cc in omega arith) in
            absurd (let no_way : ◌≡◌ {A = ℕ} 0 1 = cc in omega arith)
        go false p true q e = sid_first a i ps q e
        go false p false q e = one_more a i ps p q (plain_start i ps e)

    from : IsStart ps i → mark_on bare ps ≡ start i
    from w = ap (mark_on bare) w.here ∙ first w.before w.one.0 w.no_end.0
      where
        first : (c : List Pair) → No (b "sid") c → No (b "eid") c → mark_on bare (c ++ (record { key = b "sid"; value = i } ∷ w.after)) ≡ start i
        first [] none none = start_keeps i w.after w.one.1 w.no_end.1
        first (a ∷ c) (more s ss) (more e es) =
            ap (λ (m : Mark). mark_on m (c ++ (record { key = b "sid"; value = i } ∷ w.after))) (quiet_bare a s e)
            ∙ plain-keeps i c w.after ss es w.one.1 w.no_end.1

-- an end: exactly where `eid` is its one attribute
pub end_exact : (ps : List Pair) (i : Bytes) → (mark_on bare ps ≡ ends i) ↔ IsEnd ps i
unfolding mark_on noted noted_by id_key_of same
end_exact ps i = (to ps, from)
  where
    to : (ps : List Pair) → mark_on bare ps ≡ ends i → IsEnd ps i
    to [] e = absurd (let no_way : ◌≡◌ {A = ℕ} 0 1 = cc in omega arith)
    to (a ∷ ps) e = go (same a.key (b "eid")) refl (same a.key (b "sid")) e
      where
        go : (x : Bool) → same a.key (b "eid") ≡ x → (y : Bool) → mark_on (noted_by bare (by x y) a.value) ps ≡ ends i → IsEnd (a ∷ ps) i
        go true p y e =
            let w = end_says a.value ps (ends i) e (λ h. let no_way : ◌≡◌ {A = ℕ} 0 1 = cc in omega arith) in
            let k : a.key ≡ b "eid" = same_true a.key (b "eid") p in
            let v : a.value ≡ i = cc in
            ap (λ (l : List Pair). a ∷ l) w.0 ∙ ap (λ (z : Bytes). record { key = z; value = a.value } ∷ []) k
            ∙ ap (λ (z : Bytes). record { key = b "eid"; value = z } ∷ []) v
        go false p true e = absurd (start_no_end i a.value ps e)
        go false p false e = absurd (plain_no_end i ps e)

    from : IsEnd ps i → mark_on bare ps ≡ ends i
    from h = ap (mark_on bare) h
