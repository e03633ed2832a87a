-- Lists of siblings, cut or filtered: one turn along them, and the fold.
use mathlib.Core.Path.{◌≡◌, refl, sym, ap, ◌∙◌}
use mathlib.Core.Bool.{Bool, true, false, ◌&&◌, not}
use mathlib.Core.List.{List, [], ◌∷◌}
use Prim.Native.Nat.{ℕ, ◌≤◌}
use native.Mathlib.Omega.{arith}
use Rattle.tape.specs.File.{Tape}
use Rattle.tape.specs.Tree.{next_sibling, walk_from, up_to, without, left, found, from_first}
use Rattle.tape.specs.declared.Cursor.{Cursor}
use Rattle.tape.specs.Found.{Step}
use Rattle.std.specs.Prelude.{None, Some}
use Rattle.tape.proofs.Walk.{walk_turn, walk_end, left-turn}
use Rattle.render.specs.Shape.{is_top_level_block_of, is_category_marker_of, is_row}
use Rattle.fold.specs.Fold.{claim_of, Folded, is_some, fold_from, fold_at, folded_number}
use Rattle.fold.specs.declared.Claim.{Claim}
use Rattle.fold.specs.declared.Claim.TheVariants.{Blank, Alt, Pub, Stops}
use Rattle.fold.proofs.Folding.{fold_blank, fold_alt, fold_pub, fold_stops, fold_nil}
use Rattle.lists.specs.Span.{filtered, cut_by, nodes_in, member_of_of, listed_by, folded_in, stops_at_of}
use Rattle.lists.specs.declared.Span.{Span}
use Rattle.lists.specs.declared.Member.{Member}
use Rattle.lists.specs.declared.Member.TheVariants.{End, Skipped, Listed}
use Rattle.lists.specs.declared.Stop.{Stop}
use Rattle.lists.specs.declared.Stop.TheVariants.{Block, NoRow}

true-false : true ≡ false → ⊥
true-false e = let no_way : ◌≡◌ {A = ℕ} 0 1 = cc in omega arith

-- ---- one turn

filter_skip : (t : Tape) (sifted : Bool) (k : ℕ) (ks : List ℕ) → sifted && is_category_marker_of t k ≡ true → filtered t sifted (k ∷ ks) ≡ filtered t sifted ks
unfolding filtered without
filter_skip t true k ks h = rw h
filter_skip t false k ks h = absurd (true-false (sym h))

filter_keep : (t : Tape) (sifted : Bool) (k : ℕ) (ks : List ℕ) → sifted && is_category_marker_of t k ≡ false → filtered t sifted (k ∷ ks) ≡ k ∷ filtered t sifted ks
unfolding filtered without
filter_keep t true k ks h = rw h
filter_keep t false k ks h = refl

cut-ends : (t : Tape) (cut : Bool) (k : ℕ) (ks : List ℕ) → cut && is_top_level_block_of t k ≡ true → cut_by t cut (k ∷ ks) ≡ []
unfolding cut_by up_to
cut-ends t true k ks h = rw h
cut-ends t false k ks h = absurd (true-false (sym h))

cut_on : (t : Tape) (cut : Bool) (k : ℕ) (ks : List ℕ) → cut && is_top_level_block_of t k ≡ false → cut_by t cut (k ∷ ks) ≡ k ∷ cut_by t cut ks
unfolding cut_by up_to
cut_on t true k ks h = rw h
cut_on t false k ks h = refl

module _ (t : Tape) (span : Span) where
  pub nodes_done : {s : Step} → s ≡ None → nodes_in t span s ≡ []
  unfolding nodes_in cut_by filtered up_to without
  nodes_done es = ap (λ (ks : List ℕ). cut_by t span.cut (filtered t span.sifted ks)) (walk_end t es) ∙ none_left span.cut span.sifted
    where
      none_left : (x y : Bool) → cut_by t x (filtered t y []) ≡ []
      none_left true true = refl
      none_left true false = refl
      none_left false true = refl
      none_left false false = refl

  by-node : (k : ℕ) (ks : List ℕ) (x y : Bool) → span.sifted && is_category_marker_of t k ≡ x → span.cut && is_top_level_block_of t k ≡ y
      → cut_by t span.cut (filtered t span.sifted (k ∷ ks)) ≡ listed_by (member_of_of t span k) k (cut_by t span.cut (filtered t span.sifted ks))
  unfolding member_of_of listed_by
  by-node k ks true y ex ey = ap (cut_by t span.cut) (filter_skip t span.sifted k ks ex) ∙ rw ex
  by-node k ks false true ex ey =
      ap (cut_by t span.cut) (filter_keep t span.sifted k ks ex) ∙ cut-ends t span.cut k (filtered t span.sifted ks) ey ∙ rw (ex, ey)
  by-node k ks false false ex ey =
      ap (cut_by t span.cut) (filter_keep t span.sifted k ks ex) ∙ cut_on t span.cut k (filtered t span.sifted ks) ey ∙ rw (ex, ey)

  -- a list from a node on, by what the node is to it
  pub nodes-turn : {c : Cursor} {s n : Step} {m : Member} → s ≡ Some c → n ≡ next_sibling t c.at → m ≡ member_of_of t span c.at
      → nodes_in t span s ≡ listed_by m c.at (nodes_in t span n)
  unfolding nodes_in
  nodes-turn {c} {s} {n} {m} es en em =
      ap (λ (ks : List ℕ). cut_by t span.cut (filtered t span.sifted ks)) (walk_turn t c es en)
      ∙ by-node c.at (walk_from t n) (span.sifted && is_category_marker_of t c.at) (span.cut && is_top_level_block_of t c.at) refl refl
      ∙ ap (λ (z : Member). listed_by z c.at (cut_by t span.cut (filtered t span.sifted (walk_from t n)))) (sym em)

-- by what a node is to its list

module _ (t : Tape) (span : Span) {c : Cursor} {s : Step} (es : s ≡ Some c) {m : Member} (em : m ≡ member_of_of t span c.at) where
  pub nodes-cut : m ≡ End → nodes_in t span s ≡ []
  unfolding listed_by
  nodes-cut h = nodes-turn t span es refl em ∙ rw h

  pub nodes_skip : {n : Step} → m ≡ Skipped → n ≡ next_sibling t c.at → nodes_in t span s ≡ nodes_in t span n
  unfolding listed_by
  nodes_skip h en = nodes-turn t span es en em ∙ rw h

  pub nodes_go : {n : Step} → m ≡ Listed → n ≡ next_sibling t c.at → nodes_in t span s ≡ c.at ∷ nodes_in t span n
  unfolding listed_by
  nodes_go h en = nodes-turn t span es en em ∙ rw h

-- ---- past a run

module _ (t : Tape) (k : ℕ) {stop : Stop} {x : Bool} where
  pub stops_block : stop ≡ Block → x ≡ is_top_level_block_of t k → x ≡ stops_at_of t stop k
  stops_block h e = rw h e

  pub stops-row : stop ≡ NoRow → x ≡ is_row t k → not x ≡ stops_at_of t stop k
  stops-row h e = rw h (ap not e)

module _ (p : ℕ → Bool) where
  from_yes : (k : ℕ) (ks : List ℕ) → p k ≡ true → from_first p (k ∷ ks) ≡ k ∷ ks
  unfolding from_first
  from_yes k ks h = rw h

  from_no : (k : ℕ) (ks : List ℕ) → p k ≡ false → from_first p (k ∷ ks) ≡ from_first p ks
  unfolding from_first
  from_no k ks h = rw h

  from_none : {ks : List ℕ} → ks ≡ [] → ks ≡ from_first p ks
  unfolding from_first
  from_none h = rw h

module _ (p : ℕ → Bool) (t : Tape) (span : Span) (s₀ s : Step) (inv : from_first p (nodes_in t span s) ≡ from_first p (nodes_in t span s₀)) where
  pub run-over : s ≡ None → nodes_in t span s ≡ from_first p (nodes_in t span s₀)
  run-over e = from_none p (nodes_done t span e) ∙ inv

  module _ {c : Cursor} (es : s ≡ Some c) {m : Member} (em : m ≡ member_of_of t span c.at) where
    pub run-cut : m ≡ End → nodes_in t span (Some c) ≡ from_first p (nodes_in t span s₀)
    run-cut h = ap (nodes_in t span) (sym es) ∙ from_none p (nodes-cut t span es em h) ∙ inv

    pub run_skipped : {n : Step} → m ≡ Skipped → n ≡ next_sibling t c.at → from_first p (nodes_in t span n) ≡ from_first p (nodes_in t span s₀)
    run_skipped h en = ap (from_first p) (sym (nodes_skip t span es em h en)) ∙ inv

    module _ (h : m ≡ Listed) {x : Bool} (ex : x ≡ p c.at) where
      pub run-found : x ≡ true → nodes_in t span (Some c) ≡ from_first p (nodes_in t span s₀)
      run-found hx =
          ap (nodes_in t span) (sym es) ∙ nodes_go t span es em h refl
          ∙ sym (ap (from_first p) (nodes_go t span es em h refl) ∙ from_yes p c.at (nodes_in t span (next_sibling t c.at)) (sym ex ∙ hx)) ∙ inv

      pub run_past : {n : Step} → x ≡ false → n ≡ next_sibling t c.at → from_first p (nodes_in t span n) ≡ from_first p (nodes_in t span s₀)
      run_past {n} hx en =
          sym (ap (from_first p) (nodes_go t span es em h en) ∙ from_no p c.at (nodes_in t span n) (sym ex ∙ hx)) ∙ inv

-- ---- the fold

some_at : (t : Tape) (s : Step) → is_some (folded_number t s) ≡ found s
unfolding is_some folded_number
some_at t None = refl
some_at t (Some c) = refl

module _ (t : Tape) (span : Span) (anchor : ℕ) (alt published rest : Step) where
  -- what the fold still gives
  unfoldable pub onward : Folded
  onward = fold_from t anchor (folded_number t alt) (folded_number t published) (nodes_in t span rest)

pub fold_starts : (t : Tape) (span : Span) (anchor : ℕ) (rest : Step) → onward t span anchor None None rest ≡ fold_at t anchor (nodes_in t span rest)
unfolding onward fold_at folded_number
fold_starts t span anchor rest = refl

module _ (t : Tape) (span : Span) (anchor : ℕ) (alt published rest : Step) {f : Folded} (inv : onward t span anchor alt published rest ≡ f) where
  -- where no node is left
  over : nodes_in t span rest ≡ [] → folded_in t span (record { alt = alt; published = published; rest = rest }) ≡ f
  unfolding onward folded_in
  over e =
      ap (λ (ks : List ℕ). record { alt = folded_number t alt; published = folded_number t published; rest = ks }) e
      ∙ sym (ap (fold_from t anchor (folded_number t alt) (folded_number t published)) e ∙ fold_nil t anchor (folded_number t alt) (folded_number t published))
      ∙ inv

  ended : rest ≡ None → folded_in t span (record { alt = alt; published = published; rest = rest }) ≡ f
  ended e = over (nodes_done t span e)

  module _ {c : Cursor} (ec : rest ≡ Some c) {n : Step} (en : n ≡ next_sibling t c.at) {m : Member} (em : m ≡ member_of_of t span c.at) where
    cut_off : m ≡ End → folded_in t span (record { alt = alt; published = published; rest = rest }) ≡ f
    cut_off h = over (nodes-cut t span ec em h)

    pub fold_skipped : m ≡ Skipped → onward t span anchor alt published n ≡ f
    unfolding onward
    fold_skipped h = sym (ap (fold_from t anchor (folded_number t alt) (folded_number t published)) (nodes_skip t span ec em h en)) ∙ inv

    module _ (hm : m ≡ Listed) {a p : Bool} {r : Claim} (ea : a ≡ found alt) (ep : p ≡ found published) (er : r ≡ claim_of t anchor a p c.at) where
      listed : nodes_in t span rest ≡ c.at ∷ nodes_in t span n
      listed = nodes_go t span ec em hm en

      claimed : r ≡ claim_of t anchor (is_some (folded_number t alt)) (is_some (folded_number t published)) c.at
      claimed = er ∙ rw (ea, ep, some_at t alt, some_at t published)

      this : fold_from t anchor (folded_number t alt) (folded_number t published) (c.at ∷ nodes_in t span n) ≡ f
      unfolding onward
      this = sym (ap (fold_from t anchor (folded_number t alt) (folded_number t published)) listed) ∙ inv

      stopped : r ≡ Stops → folded_in t span (record { alt = alt; published = published; rest = rest }) ≡ f
      unfolding folded_in
      stopped e =
          ap (λ (ks : List ℕ). record { alt = folded_number t alt; published = folded_number t published; rest = ks }) listed
          ∙ sym (fold_stops t anchor (folded_number t alt) (folded_number t published) c.at (nodes_in t span n) claimed e)
          ∙ this

      pub fold_passed : r ≡ Blank → onward t span anchor alt published n ≡ f
      unfolding onward
      fold_passed e = sym (fold_blank t anchor (folded_number t alt) (folded_number t published) c.at (nodes_in t span n) claimed e) ∙ this

      pub fold_took_alt : r ≡ Alt → onward t span anchor (Some c) published n ≡ f
      unfolding onward folded_number
      fold_took_alt e = sym (fold_alt t anchor (folded_number t alt) (folded_number t published) c.at (nodes_in t span n) claimed e) ∙ this

      pub fold_took_pub : r ≡ Pub → onward t span anchor alt (Some c) n ≡ f
      unfolding onward folded_number
      fold_took_pub e = sym (fold_pub t anchor (folded_number t alt) (folded_number t published) c.at (nodes_in t span n) claimed e) ∙ this

-- the whole, from what the fold started with
module _ (t : Tape) (span : Span) (anchor : ℕ) (rest₀ : Step) (alt published rest : Step)
    (inv : onward t span anchor alt published rest ≡ onward t span anchor None None rest₀) where
  all : onward t span anchor alt published rest ≡ fold_at t anchor (nodes_in t span rest₀)
  all = inv ∙ fold_starts t span anchor rest₀

  pub fold_ended : rest ≡ None → folded_in t span (record { alt = alt; published = published; rest = rest }) ≡ fold_at t anchor (nodes_in t span rest₀)
  fold_ended e = ended t span anchor alt published rest all e

  pub fold_cut : {c : Cursor} → rest ≡ Some c → {m : Member} → m ≡ member_of_of t span c.at → m ≡ End
      → folded_in t span (record { alt = alt; published = published; rest = rest }) ≡ fold_at t anchor (nodes_in t span rest₀)
  fold_cut ec em h = cut_off t span anchor alt published rest all ec refl em h

  pub fold_stopped : {c : Cursor} → rest ≡ Some c → {m : Member} → m ≡ member_of_of t span c.at → m ≡ Listed → {a p : Bool} {r : Claim} → a ≡ found alt → p ≡ found published
      → r ≡ claim_of t anchor a p c.at → r ≡ Stops
      → folded_in t span (record { alt = alt; published = published; rest = rest }) ≡ fold_at t anchor (nodes_in t span rest₀)
  fold_stopped ec em hm ea ep er h = stopped t span anchor alt published rest all ec refl em hm ea ep er h

-- a walk that goes on has fewer steps left than where it started
pub left_on : (t : Tape) {c : Cursor} {s : Step} (s₀ : Step) {n : Step} → s ≡ Some c → n ≡ next_sibling t c.at → left t s ≤ left t s₀ → left t n ≤ left t s₀
left_on t {c} {s} s₀ {n} es en h = omega (arith, left-turn t c es en)

pub left_here : (t : Tape) {c : Cursor} {s : Step} (s₀ : Step) → s ≡ Some c → left t s ≤ left t s₀ → left t (Some c) ≤ left t s₀
left_here t s₀ es h = rw es at h
