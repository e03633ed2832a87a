-- Parts turned around in place: exchanging two neighbours, and the order of the finished file.
use mathlib.Core.Path.{◌≡◌, refl, sym, ap, ◌∙◌}
use mathlib.Core.List.{[], ◌∷◌, ◌++◌, append_assoc, append-nil}
use Prim.Native.Nat.{ℕ, ◌+◌, ◌-◌, ◌*◌, ◌≤◌}
use native.Mathlib.Omega.{arith}
use lib.ListN.{length, get_or, take, drop, length-append, length-drop, take-append-drop, length-reverse}
use lib.Seq.{take_at, drop_at, drop-drop, length-take-le}
use Rattle.parts.proofs.Laws.{drop-take}
use Rattle.parts.specs.Bytes.{Bytes, part}
use Rattle.std.specs.Prelude.{reverse}
use Rattle.std.proofs.lemmas.List.{reverse-append, reverse-reverse, take-take}
use Rattle.layout.specs.declared.Writer.{Writer}
use Rattle.admit.specs.Encode.{four}
use Rattle.layout.specs.Bytes.{over, reversed, exchange, node_bytes_of}
use Rattle.layout.specs.Layout.{Held, Fits, file_len, held_in, head_of, free_of, laid, header_bytes, top_of, file_of, behind_of}
use Rattle.layout.specs.Steps.{enter}
use Rattle.layout.proofs.Laid.{cut, part_length, part-past, part_front, over-mid, split, free-length, source-length, head_length, nodes-length, entries-length, names-length}

pub length_rev : (s : Bytes) → length (reverse s) ≡ length s
length_rev s = length-reverse s

-- a part given back turned around
pub turned_part : (s : Bytes) (f t : ℕ) {x : Bytes} → f ≤ t → x ≡ reverse (take (t - f) (drop f s)) → take f s ++ (x ++ drop (t - f) (drop f s)) ≡ reversed s f t
turned_part s f t {x} h e =
    let same : f + (t - f) ≡ t = omega arith in
    let all : drop (t - f) (drop f s) ≡ drop t s = drop-drop (t - f) f s ∙ rw same in
    let here : drop f (take t s) ≡ take (t - f) (drop f s) = drop-take f t s in
    rw (e, all, here)

-- reversing the second of three parts
pub reversed_parts : (p q z : Bytes) {k l : ℕ} → length p ≡ k → k + length q ≡ l → reversed (p ++ (q ++ z)) k l ≡ p ++ (reverse q ++ z)
reversed_parts p q z {k} {l} e₁ e₂ =
    let w : p ++ (q ++ z) ≡ (p ++ q) ++ z = sym (append_assoc p q z) in
    let n : length (p ++ q) ≡ l = length-append p q ∙ omega arith in
    let t : take l (p ++ (q ++ z)) ≡ p ++ q = ap (take l) w ∙ take_at (p ++ q) z l n in
    let s : drop k (take l (p ++ (q ++ z))) ≡ q = ap (drop k) t ∙ drop_at p q k e₁ in
    let d : drop l (p ++ (q ++ z)) ≡ z = ap (drop l) w ∙ drop_at (p ++ q) z l n in
    λ i. take_at p (q ++ z) k e₁ i ++ (reverse (s i) ++ d i)

reverse_both : (x y : Bytes) → reverse (reverse x ++ reverse y) ≡ y ++ x
reverse_both x y = reverse-append (reverse x) (reverse y) ∙ rw (reverse-reverse x, reverse-reverse y)

-- three reversals exchange two parts
pub exchanged_parts : (p x y z : Bytes) {lo mid hi : ℕ} → length p ≡ lo → lo + length x ≡ mid → mid + length y ≡ hi
    → reversed (reversed (reversed (p ++ (x ++ (y ++ z))) lo mid) mid hi) lo hi ≡ p ++ (y ++ (x ++ z))
exchanged_parts p x y z {lo} {mid} {hi} e₁ e₂ e₃ =
    let lx : length (reverse x) ≡ length x = length_rev x in
    let ly : length (reverse y) ≡ length y = length_rev y in
    let px : length (p ++ reverse x) ≡ mid = length-append p (reverse x) ∙ omega arith in
    let xy : lo + length (reverse x ++ reverse y) ≡ hi = ap (λ (n : ℕ). lo + n) (length-append (reverse x) (reverse y)) ∙ omega arith in
    ap (λ (w : Bytes). reversed (reversed w mid hi) lo hi) (reversed_parts p x (y ++ z) e₁ e₂)
    ∙ ap (λ (w : Bytes). reversed (reversed w mid hi) lo hi) (sym (append_assoc p (reverse x) (y ++ z)))
    ∙ ap (λ (w : Bytes). reversed w lo hi) (reversed_parts (p ++ reverse x) y z px e₃)
    ∙ ap (λ (w : Bytes). reversed w lo hi) (simp append_assoc)
    ∙ reversed_parts p (reverse x ++ reverse y) z e₁ xy
    ∙ ap (λ (w : Bytes). p ++ (w ++ z)) (reverse_both x y)
    ∙ ap (λ (w : Bytes). p ++ w) (append_assoc y x z)

pub exchange_parts : (p x y z : Bytes) {lo mid hi : ℕ} → length p ≡ lo → lo + length x ≡ mid → mid + length y ≡ hi
    → exchange (p ++ (x ++ (y ++ z))) lo mid hi ≡ p ++ (y ++ (x ++ z))
unfolding exchange
exchange_parts p x y z {lo} {mid} {hi} e₁ e₂ e₃ =
    let a : part (p ++ (x ++ (y ++ z))) lo (mid - lo) ≡ x = part-past p (x ++ (y ++ z)) lo 0 (mid - lo) (omega arith) ∙ part_front x (y ++ z) (mid - lo) (omega arith) in
    let b : part (p ++ (x ++ (y ++ z))) mid (hi - mid) ≡ y =
    part-past p (x ++ (y ++ z)) mid (length x) (hi - mid) (omega arith) ∙ part-past x (y ++ z) (length x) 0 (hi - mid) (omega arith) ∙ part_front y z (hi - mid) (omega arith) in
    let w : p ++ (x ++ (y ++ z)) ≡ (p ++ (x ++ y)) ++ z = simp append_assoc in
    let n : length (p ++ (x ++ y)) ≡ hi = simp length-append (omega arith) in
    let c : drop hi (p ++ (x ++ (y ++ z))) ≡ z = ap (drop hi) w ∙ drop_at (p ++ (x ++ y)) z hi n in
    λ i. take_at p (x ++ (y ++ z)) lo e₁ i ++ (b i ++ (a i ++ c i))

-- any list as four parts
pub quarters : (s : Bytes) (lo mid hi : ℕ) → lo ≤ mid → mid ≤ hi → s ≡ take lo s ++ (part s lo (mid - lo) ++ (part s mid (hi - mid) ++ drop hi s))
quarters s lo mid hi h₁ h₂ =
    sym (take-append-drop lo s) ∙ ap (λ (z : Bytes). take lo s ++ z)
    (cut s lo (mid - lo) {j = mid} (omega arith) ∙ ap (λ (z : Bytes). part s lo (mid - lo) ++ z) (cut s mid (hi - mid) {j = hi} (omega arith)))

-- what three calls of `reverse` leave
pub exchanged : (s : Bytes) (lo mid hi : ℕ) {b c e : Bytes} → lo ≤ mid → mid ≤ hi → hi ≤ length s → b ≡ reversed s lo mid → c ≡ reversed b mid hi → e ≡ reversed c lo hi
    → e ≡ exchange s lo mid hi
unfolding exchange
exchanged s lo mid hi h₁ h₂ h₃ eb ec ee =
    let p : Bytes = take lo s in
    let x : Bytes = part s lo (mid - lo) in
    let y : Bytes = part s mid (hi - mid) in
    let lx : length x ≡ mid - lo = part_length s lo (mid - lo) (omega arith) in
    let ly : length y ≡ hi - mid = part_length s mid (hi - mid) (omega arith) in
    ee ∙ ap (λ (w : Bytes). reversed w lo hi) (ec ∙ ap (λ (w : Bytes). reversed w mid hi) (eb ∙ ap (λ (w : Bytes). reversed w lo mid) (quarters s lo mid hi h₁ h₂)))
    ∙ exchanged_parts p x y (drop hi s) {lo = lo} {mid = mid} {hi = hi} (length-take-le lo s (omega arith)) (omega arith) (omega arith)

-- what `rotate_left` leaves
pub rotated : (s : Bytes) (lo mid hi : ℕ) {x : Bytes} → lo ≤ mid → mid ≤ hi → hi ≤ length s
    → x ≡ drop (mid - lo) (take (hi - lo) (drop lo s)) ++ take (mid - lo) (take (hi - lo) (drop lo s))
    → take lo s ++ (x ++ drop (hi - lo) (drop lo s)) ≡ exchange s lo mid hi
unfolding exchange
rotated s lo mid hi {x} h₁ h₂ h₃ e =
    let n : hi - lo - (mid - lo) ≡ hi - mid = omega arith in
    let m : lo + (mid - lo) ≡ mid = omega arith in
    let k : lo + (hi - lo) ≡ hi = omega arith in
    let second : drop (mid - lo) (take (hi - lo) (drop lo s)) ≡ part s mid (hi - mid) =
    drop-take (mid - lo) (hi - lo) (drop lo s) ∙ rw (drop-drop (mid - lo) lo s, n, m) refl in
    let first : take (mid - lo) (take (hi - lo) (drop lo s)) ≡ part s lo (mid - lo) =
    take-take (mid - lo) (hi - lo) (drop lo s) (omega arith) in
    let behind : drop (hi - lo) (drop lo s) ≡ drop hi s = drop-drop (hi - lo) lo s ∙ rw k refl in
    rw (e, second, first, behind) (ap (λ (w : Bytes). take lo s ++ w) (append_assoc (part s mid (hi - mid)) (part s lo (mid - lo)) (drop hi s)))

-- ---- finish

-- source, turned nodes and table become nodes, table, source
pub filed_parts : (h s n t z : Bytes) {at last_at end : ℕ} → length h ≡ 52 → 52 + length n ≡ at → 52 + (length s + length n) ≡ last_at → last_at + length t ≡ end
    → reversed (reversed (reversed (h ++ (s ++ (reverse n ++ (t ++ z)))) 52 last_at) at end) at (at + length t) ≡ h ++ (n ++ (t ++ (s ++ z)))
filed_parts h s n t z {at} {last_at} {end} eh ea el ee =
    let ln : length (reverse n) ≡ length n = length_rev n in
    let ls : length (reverse s) ≡ length s = length_rev s in
    let lt : length (reverse t) ≡ length t = length_rev t in
    let m₁ : 52 + length (s ++ reverse n) ≡ last_at = simp length-append (omega arith) in
    let t₁ : reverse (s ++ reverse n) ≡ n ++ reverse s = reverse-append s (reverse n) ∙ ap (λ (x : Bytes). x ++ reverse s) (reverse-reverse n) in
    let hn : length (h ++ n) ≡ at = length-append h n ∙ omega arith in
    let m₂ : at + length (reverse s ++ t) ≡ end = ap (λ (x : ℕ). at + x) (length-append (reverse s) t) ∙ omega arith in
    let t₂ : reverse (reverse s ++ t) ≡ reverse t ++ s = reverse-append (reverse s) t ∙ ap (λ (x : Bytes). reverse t ++ x) (reverse-reverse s) in
    ap (λ (x : Bytes). reversed (reversed (reversed x 52 last_at) at end) at (at + length t)) (group₁ h s (reverse n) (t ++ z))
    ∙ ap (λ (x : Bytes). reversed (reversed x at end) at (at + length t))
    (reversed_parts h (s ++ reverse n) (t ++ z) eh m₁ ∙ ap (λ (x : Bytes). h ++ (x ++ (t ++ z))) t₁ ∙ group₂ h n (reverse s) t z)
    ∙ ap (λ (x : Bytes). reversed x at (at + length t)) (reversed_parts (h ++ n) (reverse s ++ t) z hn m₂ ∙ ap (λ (x : Bytes). (h ++ n) ++ (x ++ z)) t₂ ∙ group₃ (h ++ n) (reverse t) s z)
    ∙ reversed_parts (h ++ n) (reverse t) (s ++ z) hn (omega arith)
    ∙ ap (λ (x : Bytes). (h ++ n) ++ (x ++ (s ++ z))) (reverse-reverse t)
    ∙ append_assoc h n (t ++ (s ++ z))
  where
    group₁ : (h s m y : Bytes) → h ++ (s ++ (m ++ y)) ≡ h ++ ((s ++ m) ++ y)
    group₁ h s m y = simp append_assoc

    group₂ : (h n r t z : Bytes) → h ++ ((n ++ r) ++ (t ++ z)) ≡ (h ++ n) ++ ((r ++ t) ++ z)
    group₂ h n r t z = simp append_assoc

    group₃ : (p r s z : Bytes) → p ++ ((r ++ s) ++ z) ≡ p ++ (r ++ (s ++ z))
    group₃ p r s z = simp append_assoc

pub top_length : (w : Writer) → length (top_of w) ≡ 52
unfolding top_of header_bytes node_bytes_of
top_length w = refl

-- what close_up leaves, from what gather left
pub filed : (w : Writer) (buf : Bytes) {a e top last : Bytes} {source end : ℕ} → Fits w (length buf) → a ≡ laid (head_of buf) (held_in w buf) [] ++ behind_of w (free_of w buf)
    → source ≡ 52 + 16 * w.nodes + (8 * w.entries + w.names) → end ≡ source + w.source
    → e ≡ reversed (reversed (reversed a 52 (end - (8 * w.entries + w.names))) (52 + 16 * w.nodes) end) (52 + 16 * w.nodes) source
    → top ≡ top_of w → last ≡ over e 0 top → last ≡ file_of w (held_in w buf) ++ behind_of w (free_of w buf)
unfolding file_of laid
filed w buf {a} {e} {top} {last} {source} {end} f ea es en ee et el =
    let d : Held = held_in w buf in
    let z : Bytes = behind_of w (free_of w buf) in
    let t : Bytes = d.entries ++ d.names in
    let sl : length d.source ≡ w.source = source-length w buf f in
    let hl : length (head_of buf) ≡ 52 = head_length w buf f in
    let nl : length d.nodes ≡ 16 * w.nodes = nodes-length w buf f in
    let gl : length t ≡ 8 * w.entries + w.names = length-append d.entries d.names ∙ (λ i. entries-length w buf f i + names-length w buf f i) in
    let at : ℕ = 52 + 16 * w.nodes in
    let table : ℕ = 8 * w.entries + w.names in
    let whole : e ≡ head_of buf ++ (d.nodes ++ (t ++ (d.source ++ z))) =
    ee ∙ rw (ea, es ∙ ap (λ (k : ℕ). at + k) (sym gl))
    (ap (λ (s : Bytes). reversed (reversed (reversed s 52 (end - table)) at end) at (at + length t)) (group (head_of buf) d.source (reverse d.nodes) t z)
    ∙ filed_parts (head_of buf) d.source d.nodes t z {at = at} {last_at = end - table} {end = end} hl (omega arith) (omega arith) (omega arith)) in
    let tl : length top ≡ 52 = ap length et ∙ top_length w in
    el ∙ ap (λ (s : Bytes). over s 0 top) whole
    ∙ over-mid [] (head_of buf) (d.nodes ++ (t ++ (d.source ++ z))) top refl (hl ∙ sym tl)
    ∙ rw et (simp append_assoc)
  where
    group : (h s m t z : Bytes) → (h ++ (s ++ ([] ++ (m ++ t)))) ++ z ≡ h ++ (s ++ (m ++ (t ++ z)))
    group h s m t z = simp append_assoc

-- ---- an entry more

pub entered-laid : (w : Writer) (buf entry name : Bytes) {b c last : Bytes} {at m e : ℕ} → Fits w (length buf) → w.nodes ≡ 0 → file_len w + 8 + length name ≤ length buf → length entry ≡ 8
    → at ≡ length buf - (8 * w.entries + w.names) - (8 + length name) → m ≡ at + 8 * w.entries → e ≡ m + w.names
    → b ≡ over buf at entry → c ≡ over b (at + 8) name → last ≡ exchange (exchange c at (at + (8 + length name)) (length c)) m e (e + 8)
    → last ≡ laid (head_of buf) (enter (held_in w buf) entry name) (take (length (free_of w buf) - (8 + length name)) (free_of w buf))
unfolding laid enter
entered-laid w buf entry name {b} {c} {last} {at} {m} {e} f none room l8 ea em ee eb ec el =
    let d : Held = held_in w buf in
    let z : Bytes = free_of w buf in
    let r : file_len w ≤ length buf = f.room in
    let fl : length z ≡ length buf - file_len w = free-length w buf f in
    let sl : length d.source ≡ w.source = source-length w buf f in
    let hl : length (head_of buf) ≡ 52 = head_length w buf f in
    let gl : length d.entries ≡ 8 * w.entries = entries-length w buf f in
    let ml : length d.names ≡ w.names = names-length w buf f in
    let k : ℕ = length z - (8 + length name) in
    let x : Bytes = take k z in
    let y₁ : Bytes = part z k 8 in
    let y₂ : Bytes = drop (k + 8) z in
    let xl : length x ≡ k = length-take-le k z (omega arith) in
    let l₁ : length y₁ ≡ length entry = part_length z k 8 (omega arith) ∙ sym l8 in
    let l₂ : length y₂ ≡ length name = length-drop (k + 8) z ∙ omega arith in
    let zs : z ≡ x ++ (y₁ ++ y₂) = sym (take-append-drop k z) ∙ ap (λ (s : Bytes). x ++ s) (cut z k 8 refl) in
    let p : Bytes = head_of buf ++ (d.source ++ x) in
    let pl : length p ≡ at = simp length-append (omega arith) in
    let bare : reverse d.nodes ≡ [] = empty (reverse d.nodes) (length_rev d.nodes ∙ nodes-length w buf f ∙ omega arith) in
    let E : Bytes = d.entries in
    let M : Bytes = d.names in
    let w₀ : laid (head_of buf) d z ≡ p ++ (y₁ ++ (y₂ ++ (E ++ M))) =
    (λ i. head_of buf ++ (d.source ++ (zs i ++ (bare i ++ (E ++ M))))) ∙ regroup (head_of buf) d.source x y₁ y₂ (E ++ M) in
    let e₁ : b ≡ p ++ (entry ++ (y₂ ++ (E ++ M))) = eb ∙ ap (λ (s : Bytes). over s at entry) (split w buf f ∙ w₀) ∙ over-mid p y₁ (y₂ ++ (E ++ M)) entry pl l₁ in
    let pe : length (p ++ entry) ≡ at + 8 = length-append p entry ∙ omega arith in
    let e₂ : c ≡ p ++ ((entry ++ name) ++ ((E ++ M) ++ [])) =
    ec ∙ ap (λ (s : Bytes). over s (at + 8) name) (e₁ ∙ sym (append_assoc p entry (y₂ ++ (E ++ M)))) ∙ over-mid (p ++ entry) y₂ (E ++ M) name pe l₂ ∙ simp (append_assoc, append-nil) in
    let en : length (entry ++ name) ≡ 8 + length name = length-append entry name ∙ omega arith in
    let em' : length (E ++ M) ≡ 8 * w.entries + w.names = length-append E M ∙ omega arith in
    let cl : length c ≡ length buf = ap length e₂ ∙ simp length-append (omega arith) in
    let e₃ : exchange c at (at + (8 + length name)) (length c) ≡ (p ++ E) ++ (M ++ (entry ++ name)) =
    (λ i. exchange (e₂ i) at (at + (8 + length name)) (cl i))
    ∙ exchange_parts p (entry ++ name) (E ++ M) [] {lo = at} {mid = at + (8 + length name)} {hi = length buf} pl (omega arith) (omega arith) ∙ simp (append_assoc, append-nil) in
    let pm : length (p ++ E) ≡ m = length-append p E ∙ omega arith in
    el ∙ ap (λ (s : Bytes). exchange s m e (e + 8)) e₃
    ∙ exchange_parts (p ++ E) M entry name {lo = m} {mid = e} {hi = e + 8} pm (omega arith) (omega arith)
    ∙ rw bare (simp append_assoc)
  where
    regroup : (h s u y₁ y₂ t : Bytes) → h ++ (s ++ ((u ++ (y₁ ++ y₂)) ++ ([] ++ t))) ≡ (h ++ (s ++ u)) ++ (y₁ ++ (y₂ ++ t))
    regroup h s u y₁ y₂ t = simp append_assoc

    empty : (s : Bytes) → length s ≡ 0 → s ≡ []
    empty [] h = refl
    empty (a ∷ s) h = absurd (omega arith)

pub settled : (s : Bytes) (at behind m e : ℕ) {b last : Bytes} → b ≡ exchange s at behind (length s) → last ≡ exchange b m e (e + 8)
    → last ≡ exchange (exchange s at behind (length s)) m e (e + 8)
settled s at behind m e eb el = el ∙ ap (λ (z : Bytes). exchange z m e (e + 8)) eb

-- ---- header and Root

pub top_made : (w : Writer) {a b c d f g h : Bytes} → a ≡ four (w.nodes + 1) → b ≡ four w.entries → c ≡ four (36 + 16 * (w.nodes + 1)) → d ≡ four w.names
    → f ≡ four (36 + 16 * (w.nodes + 1) + 8 * w.entries) → g ≡ four w.source → h ≡ four (36 + 16 * (w.nodes + 1) + 8 * w.entries + w.names)
    → ◌≡◌ {A = Bytes} (1 ∷ 0 ∷ 0 ∷ 0 ∷ get_or a 0 0 ∷ get_or a 1 0 ∷ get_or a 2 0 ∷ get_or a 3 0 ∷ 36 ∷ 0 ∷ 0 ∷ 0 ∷ get_or b 0 0 ∷ get_or b 1 0 ∷ get_or b 2 0 ∷ get_or b 3 0 ∷ get_or c 0 0 ∷ get_or c 1 0 ∷ get_or c 2 0 ∷ get_or c 3 0 ∷ get_or d 0 0 ∷ get_or d 1 0 ∷ get_or d 2 0 ∷ get_or d 3 0 ∷ get_or f 0 0 ∷ get_or f 1 0 ∷ get_or f 2 0 ∷ get_or f 3 0 ∷ get_or g 0 0 ∷ get_or g 1 0 ∷ get_or g 2 0 ∷ get_or g 3 0 ∷ get_or h 0 0 ∷ get_or h 1 0 ∷ get_or h 2 0 ∷ get_or h 3 0 ∷ 0 ∷ 1 ∷ 255 ∷ 255 ∷ get_or a 0 0 ∷ get_or a 1 0 ∷ get_or a 2 0 ∷ get_or a 3 0 ∷ 0 ∷ 0 ∷ 0 ∷ 0 ∷ 0 ∷ 0 ∷ 0 ∷ 0 ∷ []) (top_of w)
unfolding top_of header_bytes node_bytes_of
top_made w ea eb ec ed ef eg eh = rw (ea, eb, ec, ed, ef, eg, eh)

pub turned_over : (s : Bytes) (f₁ t₁ f₂ t₂ t₃ : ℕ) {b c last : Bytes} → b ≡ reversed s f₁ t₁ → c ≡ reversed b f₂ t₂ → last ≡ reversed c f₂ t₃
    → last ≡ reversed (reversed (reversed s f₁ t₁) f₂ t₂) f₂ t₃
turned_over s f₁ t₁ f₂ t₂ t₃ eb ec el = el ∙ ap (λ (z : Bytes). reversed z f₂ t₃) (ec ∙ ap (λ (z : Bytes). reversed z f₂ t₂) eb)
