-- Runs of characters that pass a test, and the pieces between them: laws on lists, whatever the test.
use mathlib.Core.Path.{◌≡◌, refl, sym, ap, ◌∙◌}
use mathlib.Core.Bool.{Bool, true, false, not, cond}
use mathlib.Core.List.{List, [], ◌∷◌, ◌++◌, flatten, append-nil}
use Prim.Native.Nat.{ℕ}
use native.Mathlib.Omega.{arith}
use borrow.Author.Tests.{not-true}
use Rattle.parts.specs.Bytes.{Bytes}
use Rattle.parts.proofs.Laws.{and-true}
use Rattle.chars.specs.Utf8.{every}
use Rattle.words.specs.Words.{take_while, drop_while, keep, drop_end, onto, pieces, nonempty}

-- a piece in front of words, if it is a word
abbrev pub word_in : Bytes → List Bytes → List Bytes
word_in [] ws = ws
word_in (x ∷ w) ws = (x ∷ w) ∷ ws

pub nonempty-cons : (w : Bytes) (ws : List Bytes) → nonempty (w ∷ ws) ≡ word_in w (nonempty ws)
unfolding nonempty
nonempty-cons [] ws = refl
nonempty-cons (x ∷ w) ws = refl

pub nonempty-append : (vs ws : List Bytes) → nonempty (vs ++ ws) ≡ nonempty vs ++ nonempty ws
unfolding nonempty
nonempty-append [] ws = refl
nonempty-append ([] ∷ vs) ws = nonempty-append vs ws
nonempty-append ((x ∷ v) ∷ vs) ws = rw (nonempty-append vs ws)

module _ (p : Bytes → Bool) where
  -- ---- runs

  pub take_drop_while : (cs : List Bytes) → take_while p cs ++ drop_while p cs ≡ cs
  unfolding take_while drop_while
  take_drop_while [] = refl
  take_drop_while (c ∷ cs) = go (p c) (take_drop_while cs)
    where
      go : (t : Bool) → take_while p cs ++ drop_while p cs ≡ cs → cond t (c ∷ take_while p cs) [] ++ cond t (drop_while p cs) (c ∷ cs) ≡ c ∷ cs
      go true e = rw e
      go false e = refl

  pub every_take_while : (cs : List Bytes) → every p (take_while p cs) ≡ true
  unfolding take_while every
  every_take_while [] = refl
  every_take_while (c ∷ cs) = go (p c) refl (every_take_while cs)
    where
      go : (t : Bool) → p c ≡ t → every p (take_while p cs) ≡ true → every p (cond t (c ∷ take_while p cs) []) ≡ true
      go true e h = rw (e, h)
      go false e h = refl

  -- a run ends where the test fails
  pub drop_while_stops : (cs : List Bytes) → take_while p (drop_while p cs) ≡ []
  unfolding take_while drop_while
  drop_while_stops [] = refl
  drop_while_stops (c ∷ cs) = go (p c) refl (drop_while_stops cs)
    where
      go : (t : Bool) → p c ≡ t → take_while p (drop_while p cs) ≡ [] → take_while p (cond t (drop_while p cs) (c ∷ cs)) ≡ []
      go true e h = h
      go false e h = rw e

  pub drop_while_all : (cs : List Bytes) → every p cs ≡ true → drop_while p cs ≡ []
  unfolding drop_while every
  drop_while_all [] e = refl
  drop_while_all (c ∷ cs) e = let both = and-true (p c) (every p cs) e in rw both.0 (drop_while_all cs both.1)

  pub all_drop_while : (cs : List Bytes) → drop_while p cs ≡ [] → every p cs ≡ true
  all_drop_while cs e =
      let t : take_while p cs ≡ cs = sym (append-nil (take_while p cs)) ∙ sym (rw e) ∙ take_drop_while cs in
      sym (ap (every p) t) ∙ every_take_while cs

  -- where the first fails the test, nothing is dropped
  pub drop_while_none : (cs : List Bytes) → take_while p cs ≡ [] → drop_while p cs ≡ cs
  drop_while_none cs e = sym (rw e) ∙ take_drop_while cs

  -- ---- the end

  -- what is left out at the end: characters that pass
  pub end_split : (cs : List Bytes) → (es : List Bytes) × (drop_end p cs ++ es ≡ cs) × (every p es ≡ true)
  unfolding drop_end keep every
  end_split [] = ([], refl, refl)
  end_split (c ∷ cs) = go (drop_end p cs) (p c) refl (end_split cs)
    where
      go : (ds : List Bytes) (t : Bool) → p c ≡ t → ((es : List Bytes) × (ds ++ es ≡ cs) × (every p es ≡ true))
          → (es : List Bytes) × (keep p c ds ++ es ≡ c ∷ cs) × (every p es ≡ true)
      go [] true e (es, h, k) = (c ∷ es, rw (e, h), rw (e, k))
      go [] false e (es, h, k) = (es, rw (e, h), k)
      go (d ∷ ds) true e (es, h, k) = (es, rw (← h), k)
      go (d ∷ ds) false e (es, h, k) = (es, rw (← h), k)

  -- where the last fails the test, nothing is left out
  pub end_solid : (cs : List Bytes) (c : Bytes) → p c ≡ false → drop_end p (cs ++ (c ∷ [])) ≡ cs ++ (c ∷ [])
  unfolding drop_end keep
  end_solid [] c e = rw e
  end_solid (d ∷ cs) c e = rw (end_solid cs c e) (go cs)
    where
      go : (ds : List Bytes) → keep p d (ds ++ (c ∷ [])) ≡ d ∷ (ds ++ (c ∷ []))
      go [] = refl
      go (b ∷ ds) = refl

  -- where it passes, it is left out
  pub end_passes : (cs : List Bytes) (c : Bytes) → p c ≡ true → drop_end p (cs ++ (c ∷ [])) ≡ drop_end p cs
  unfolding drop_end keep
  end_passes [] c e = rw e
  end_passes (d ∷ cs) c e = rw (end_passes cs c e)

  pub end_twice : (cs : List Bytes) → drop_end p (drop_end p cs) ≡ drop_end p cs
  unfolding drop_end keep
  end_twice [] = refl
  end_twice (c ∷ cs) = go (drop_end p cs) (p c) refl (end_twice cs)
    where
      go : (ds : List Bytes) (t : Bool) → p c ≡ t → drop_end p ds ≡ ds → drop_end p (keep p c ds) ≡ keep p c ds
      go [] true e h = rw e
      go [] false e h = rw (e, e)
      go (d ∷ ds) t e h = rw h

  -- the first fails the test still, whatever is left out at the end
  pub end_starts : (cs : List Bytes) → take_while p cs ≡ [] → take_while p (drop_end p cs) ≡ []
  unfolding take_while drop_end keep
  end_starts [] e = refl
  end_starts (c ∷ cs) e = go (drop_end p cs) (p c) refl e
    where
      go : (ds : List Bytes) (t : Bool) → p c ≡ t → cond t (c ∷ take_while p cs) [] ≡ [] → take_while p (keep p c ds) ≡ []
      go [] true h e = rw h
      go [] false h e = rw (h, h)
      go (d ∷ ds) true h e = absurd (let no_way : ◌≡◌ {A = ℕ} 0 1 = cc in omega arith)
      go (d ∷ ds) false h e = rw h

  -- ---- pieces

  pub pieces-some : (cs : List Bytes) → pieces p cs ≡ [] → ⊥
  unfolding pieces onto
  pieces-some [] e = let no_way : ◌≡◌ {A = ℕ} 0 1 = cc in omega arith
  pieces-some (c ∷ cs) e = go (p c) (pieces p cs) e
    where
      go : (t : Bool) (ws : List Bytes) → cond t ([] ∷ ws) (onto c ws) ≡ [] → ⊥
      go true ws e = let no_way : ◌≡◌ {A = ℕ} 0 1 = cc in omega arith
      go false [] e = let no_way : ◌≡◌ {A = ℕ} 0 1 = cc in omega arith
      go false (w ∷ ws) e = let no_way : ◌≡◌ {A = ℕ} 0 1 = cc in omega arith

  -- no words in what passes the test, before others or behind them
  pub words-behind : (cs ds : List Bytes) → every p cs ≡ true → nonempty (pieces p (cs ++ ds)) ≡ nonempty (pieces p ds)
  unfolding every pieces nonempty
  words-behind [] ds e = refl
  words-behind (c ∷ cs) ds e = let both = and-true (p c) (every p cs) e in rw both.0 (words-behind cs ds both.1)

  onto-append : (c : Bytes) (vs ws : List Bytes) → (vs ≡ [] → ⊥) → onto c (vs ++ ws) ≡ onto c vs ++ ws
  unfolding onto
  onto-append c [] ws h = absurd (h refl)
  onto-append c (v ∷ vs) ws h = refl

  pieces_before : (cs ds : List Bytes) → every p ds ≡ true
      → (ws : List Bytes) × (pieces p (cs ++ ds) ≡ pieces p cs ++ ws) × (nonempty ws ≡ [])
  unfolding every pieces nonempty
  pieces_before [] [] e = ([], refl, refl)
  pieces_before [] (d ∷ ds) e =
      let both = and-true (p d) (every p ds) e in
      (pieces p ds, rw both.0, sym (ap (λ (z : List Bytes). nonempty (pieces p z)) (append-nil ds)) ∙ words-behind ds [] both.1)
  pieces_before (c ∷ cs) ds e = go (p c) (pieces_before cs ds e)
    where
      go : (t : Bool) → ((ws : List Bytes) × (pieces p (cs ++ ds) ≡ pieces p cs ++ ws) × (nonempty ws ≡ []))
          → (ws : List Bytes) × (cond t ([] ∷ pieces p (cs ++ ds)) (onto c (pieces p (cs ++ ds))) ≡ cond t ([] ∷ pieces p cs) (onto c (pieces p cs)) ++ ws) × (nonempty ws ≡ [])
      go true (ws, h, k) = (ws, rw h, k)
      go false (ws, h, k) = (ws, rw h (onto-append c (pieces p cs) ws (pieces-some cs)), k)

  pub words_before : (cs ds : List Bytes) → every p ds ≡ true → nonempty (pieces p (cs ++ ds)) ≡ nonempty (pieces p cs)
  words_before cs ds e =
      let (ws, h, k) = pieces_before cs ds e in
      rw h (nonempty-append (pieces p cs) ws ∙ rw k (append-nil (nonempty (pieces p cs))))

  pieces-apart : (cs ds : List Bytes) (c : Bytes) → p c ≡ true → pieces p (cs ++ c ∷ ds) ≡ pieces p cs ++ pieces p ds
  unfolding pieces
  pieces-apart [] ds c e = rw e
  pieces-apart (b ∷ cs) ds c e = go (p b) (pieces-apart cs ds c e)
    where
      go : (t : Bool) → pieces p (cs ++ c ∷ ds) ≡ pieces p cs ++ pieces p ds
          → cond t ([] ∷ pieces p (cs ++ c ∷ ds)) (onto b (pieces p (cs ++ c ∷ ds))) ≡ cond t ([] ∷ pieces p cs) (onto b (pieces p cs)) ++ pieces p ds
      go true h = rw h
      go false h = rw h (onto-append b (pieces p cs) (pieces p ds) (pieces-some cs))

  -- the words before one that passes the test, and those behind it
  pub words-apart : (cs ds : List Bytes) (c : Bytes) → p c ≡ true → nonempty (pieces p (cs ++ c ∷ ds)) ≡ nonempty (pieces p cs) ++ nonempty (pieces p ds)
  words-apart cs ds c e = rw (pieces-apart cs ds c e) (nonempty-append (pieces p cs) (pieces p ds))

-- ---- a run of characters that fail the test

abbrev pub fails : (Bytes → Bool) → Bytes → Bool
fails p c = not (p c)

module _ (p : Bytes → Bool) where
  run-pieces : (cs ds : List Bytes) → every (fails p) cs ≡ true → take_while (fails p) ds ≡ []
      → (ws : List Bytes) × (pieces p (cs ++ ds) ≡ flatten cs ∷ ws) × (nonempty ws ≡ nonempty (pieces p ds))
  unfolding every take_while pieces nonempty flatten onto
  run-pieces [] [] e h = ([], refl, refl)
  run-pieces [] (d ∷ ds) e h = go (p d) refl h
    where
      go : (t : Bool) → p d ≡ t → cond (not t) (d ∷ take_while (fails p) ds) [] ≡ []
          → (ws : List Bytes) × (cond t ([] ∷ pieces p ds) (onto d (pieces p ds)) ≡ [] ∷ ws) × (nonempty ws ≡ nonempty (cond t ([] ∷ pieces p ds) (onto d (pieces p ds))))
      go true e h = (pieces p ds, refl, refl)
      go false e h = absurd (let no_way : ◌≡◌ {A = ℕ} 0 1 = cc in omega arith)
  run-pieces (c ∷ cs) ds e h =
      let both = and-true (fails p c) (every (fails p) cs) e in go (not-true (p c) both.0) (run-pieces cs ds both.1 h)
    where
      go : p c ≡ false → ((ws : List Bytes) × (pieces p (cs ++ ds) ≡ flatten cs ∷ ws) × (nonempty ws ≡ nonempty (pieces p ds)))
          → (ws : List Bytes) × (pieces p (c ∷ (cs ++ ds)) ≡ (c ++ flatten cs) ∷ ws) × (nonempty ws ≡ nonempty (pieces p ds))
      go f (ws, l, k) = (ws, rw (f, l), k)

  -- such a run, up to one that passes, is a word
  pub words-run : (cs ds : List Bytes) → every (fails p) cs ≡ true → take_while (fails p) ds ≡ []
      → nonempty (pieces p (cs ++ ds)) ≡ word_in (flatten cs) (nonempty (pieces p ds))
  words-run cs ds e h =
      let (ws, l, k) = run-pieces cs ds e h in
      rw l (nonempty-cons (flatten cs) ws ∙ rw k)

  pub none_left : (cs : List Bytes) → take_while p cs ≡ [] → take_while (fails p) cs ≡ [] → cs ≡ []
  unfolding take_while
  none_left [] e h = refl
  none_left (c ∷ cs) e h = go (p c) e h
    where
      go : (t : Bool) → cond t (c ∷ take_while p cs) [] ≡ [] → cond (not t) (c ∷ take_while (fails p) cs) [] ≡ [] → c ∷ cs ≡ []
      go true e h = absurd (let no_way : ◌≡◌ {A = ℕ} 0 1 = cc in omega arith)
      go false e h = absurd (let no_way : ◌≡◌ {A = ℕ} 0 1 = cc in omega arith)
