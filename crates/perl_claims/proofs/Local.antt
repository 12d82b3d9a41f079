-- A reading is decided by the bytes up to and with the one at its place: whatever stands further on is not looked at.
use Rattle.std.specs.Prelude.{if◌then◌else◌}
use Prim.Native.Nat.{ℕ, zero, suc, ◌+◌, ◌-◌, ◌≤◌, ◌<◌}
use native.Mathlib.Omega.{arith}
use mathlib.Core.Path.{◌≡◌, refl, sym, ap, ◌∙◌, subst}
use mathlib.Core.Bool.{Bool, true, false, ◌&&◌, ◌||◌}
use mathlib.Core.List.{List, [], ◌∷◌, ◌++◌}
use lib.Dec.{eqb, ltb}
use lib.ListN.{length, take, drop}
use Rattle.perl.specs.declared.tokens.Letter.{Letter}
use Rattle.std.specs.declared.option.Option.{Option}
use Rattle.std.specs.declared.option.Option.TheVariants.{Some, None}
use Rattle.perl.specs.Tokens.{max_template_count, max_depth, max_repeat, letter_of, continues, with_digit, number_in, digits_in}
use Rattle.perl.specs.Template.{Template, Item, ReadTo, read, stray, letter_at, group_at, item_at, Piece, space, close, item, bad, piece_from, piece_at, piece_extra, is_item, and_then, piece_then, sequence}
use Rattle.perl.proofs.readers.Readings.{Ends, StepEnds, ends, step_from, extra-within}

-- the place after what was read, or of the stray byte
unfoldable pub read_end : {A : Type 0} → ReadTo A → ℕ
read_end (read a e) = e
read_end (stray p) = p

-- ---- a reading's place is not before its start

place-then : (i : Item) (r : ReadTo Template) → read_end (and_then i r) ≡ read_end r
unfolding read_end
place-then i (read t e) = refl
place-then i (stray p) = refl

not-before : (depth at end : ℕ) (r : ReadTo Template) → Ends depth at end r → at ≤ read_end r
unfolding read_end
not-before depth at end (read t e) h = h.0
not-before depth at end (stray p) h = h.0

pub starts : (cs : List ℕ) (depth : ℕ) (filled : Bool) (at n : ℕ) → n ≤ length cs → at + n ≤ read_end (sequence depth filled at n cs)
starts cs depth filled at n h = not-before depth (at + n) (at + length cs) (sequence depth filled at n cs) (ends cs depth filled at n h)

-- ---- two texts agree on their first k bytes, which both have

abbrev pub Agree : ℕ → List ℕ → List ℕ → Type 0
Agree zero cs ds = Unit {0}
Agree (suc k) [] ds = ⊥
Agree (suc k) (c ∷ cs) [] = ⊥
Agree (suc k) (c ∷ cs) (d ∷ ds) = (c ≡ d) × Agree k cs ds

pub agree-take : (k : ℕ) (cs more : List ℕ) → k ≤ length cs → Agree k cs (take k cs ++ more)
agree-take zero cs more h = tt
agree-take (suc k) [] more h = absurd (omega arith)
agree-take (suc k) (c ∷ cs) more h = (refl, agree-take k cs more (omega arith))

pub agree_less : (j k : ℕ) (cs ds : List ℕ) → j ≤ k → Agree k cs ds → Agree j cs ds
agree_less zero k cs ds h a = tt
agree_less (suc j) zero cs ds h a = absurd (omega arith)
agree_less (suc j) (suc k) [] ds h a = a
agree_less (suc j) (suc k) (c ∷ cs) [] h a = a
agree_less (suc j) (suc k) (c ∷ cs) (d ∷ ds) h a = (a.0, agree_less j k cs ds (omega arith) a.1)

agree-drop : (j k : ℕ) (cs ds : List ℕ) → Agree (j + k) cs ds → Agree k (drop j cs) (drop j ds)
agree-drop zero k cs ds a = subst (λ (m : ℕ). Agree m cs ds) (let e : 0 + k ≡ k = omega arith in e) a
agree-drop (suc j) k cs ds a = go cs ds (subst (λ (m : ℕ). Agree m cs ds) (let e : suc j + k ≡ suc (j + k) = omega arith in e) a) (agree-drop j k)
  where
    go : (cs ds : List ℕ) → Agree (suc (j + k)) cs ds → ((cs ds : List ℕ) → Agree (j + k) cs ds → Agree k (drop j cs) (drop j ds)) → Agree k (drop (suc j) cs) (drop (suc j) ds)
    go [] ds a ih = absurd a
    go (c ∷ cs) [] a ih = absurd a
    go (c ∷ cs) (d ∷ ds) a ih = ih cs ds a.1

-- ---- numbers

abbrev pub SameNumber : ℕ → ℕ → List ℕ → List ℕ → Type 0
SameNumber limit v cs ds = (digits_in limit v ds ≡ digits_in limit v cs) × (number_in limit v ds ≡ number_in limit v cs) × (take (digits_in limit v cs) ds ≡ take (digits_in limit v cs) cs)

-- one digit further
pub same-cons : (c : ℕ) (cs ds : List ℕ) (limit v k : ℕ) → (digits_in limit (with_digit v c) cs < k → SameNumber limit (with_digit v c) cs ds) → digits_in limit v (c ∷ cs) < suc k
    → SameNumber limit v (c ∷ cs) (c ∷ ds)
unfolding digits_in number_in
same-cons c cs ds limit v k ih h = go (continues limit v c) h
  where
    go : (t : Bool) → (if t then suc (digits_in limit (with_digit v c) cs) else 0) < suc k
        → ((if t then suc (digits_in limit (with_digit v c) ds) else 0) ≡ (if t then suc (digits_in limit (with_digit v c) cs) else 0))
        × ((if t then number_in limit (with_digit v c) ds else v) ≡ (if t then number_in limit (with_digit v c) cs else v))
        × (take (if t then suc (digits_in limit (with_digit v c) cs) else 0) (c ∷ ds) ≡ take (if t then suc (digits_in limit (with_digit v c) cs) else 0) (c ∷ cs))
    go true m = let s = ih (omega arith) in (ap suc s.0, s.1, ap (λ (x : List ℕ). c ∷ x) s.2)
    go false m = (refl, refl, refl)

number-local : (cs ds : List ℕ) (limit v k : ℕ) → digits_in limit v cs < k → Agree k cs ds → SameNumber limit v cs ds
number-local cs ds limit v zero h a = absurd (omega arith)
number-local [] ds limit v (suc k) h a = absurd a
number-local (c ∷ cs) [] limit v (suc k) h a = absurd a
number-local (c ∷ cs) (d ∷ ds) limit v (suc k) h a =
    subst (λ (x : ℕ). SameNumber limit v (c ∷ cs) (x ∷ ds)) a.0 (same-cons c cs ds limit v k (λ m. number-local cs ds limit (with_digit v c) k m a.1) h)

-- ---- items

letter-local : (at : ℕ) (l : Option Letter) (cs ds : List ℕ) (j : ℕ) → suc at + j ≡ suc (read_end (letter_at at l cs)) → Agree j cs ds → letter_at at l ds ≡ letter_at at l cs
unfolding letter_at read_end
letter-local at (Some l) cs ds j e a =
    let s : SameNumber max_template_count 0 cs ds = number-local cs ds max_template_count 0 j (omega arith) a in
    rw (s.0, s.2)
letter-local at None cs ds j e a = refl

-- the inner readings agree where the texts do
abbrev Inner : ℕ → List ℕ → List ℕ → ReadTo Template → ReadTo Template → Type 0
Inner at cs ds r₁ r₂ = (k : ℕ) → suc at + k ≡ suc (read_end r₁) → Agree k cs ds → r₂ ≡ r₁

group-local : (at : ℕ) (cs ds : List ℕ) (r₁ r₂ : ReadTo Template) → suc at ≤ read_end r₁ → Inner at cs ds r₁ r₂ → (j : ℕ) → suc at + j ≡ suc (read_end (group_at at cs r₁)) → Agree j cs ds
    → group_at at ds r₂ ≡ group_at at cs r₁
unfolding group_at read_end
group-local at cs ds (read t e) r₂ h ih j q a =
    let d : ℕ = digits_in max_repeat 0 (drop (e - at) cs) in
    let same : r₂ ≡ read t e = ih (e - at) (omega arith) (agree_less (e - at) j cs ds (omega arith) a) in
    let split : j ≡ (e - at) + suc d = omega arith in
    let s : SameNumber max_repeat 0 (drop (e - at) cs) (drop (e - at) ds) = number-local (drop (e - at) cs)
    (drop (e - at) ds) max_repeat 0 (suc d) (omega arith) (agree-drop (e - at) (suc d) cs ds
    (subst (λ (m : ℕ). Agree m cs ds) split a)) in
    ap (group_at at ds) same ∙ (rw (s.0, s.1))
group-local at cs ds (stray p) r₂ h ih j q a = ap (group_at at ds) (ih j q a)

item-local : (depth at c : ℕ) (cs ds : List ℕ) (in₁ in₂ : Unit {0} → ReadTo Template) → suc at ≤ read_end (in₁ tt) → Inner at cs ds (in₁ tt) (in₂ tt)
    → (j : ℕ) → suc at + j ≡ suc (read_end (item_at depth at c cs in₁)) → Agree j cs ds → item_at depth at c ds in₂ ≡ item_at depth at c cs in₁
unfolding item_at
item-local depth at c cs ds in₁ in₂ h ih j q a = go (eqb c 40 && ltb depth max_depth) q
  where
    go : (t : Bool) → suc at + j ≡ suc (read_end {A = Item} (elim t [ true ↦ group_at at cs (in₁ tt) | false ↦ letter_at at (letter_of c) cs ]))
        → ◌≡◌ {A = ReadTo Item} (elim t [ true ↦ group_at at ds (in₂ tt) | false ↦ letter_at at (letter_of c) ds ]) (elim t [ true ↦ group_at at cs (in₁ tt) | false ↦ letter_at at (letter_of c) cs ])
    go true q = group-local at cs ds (in₁ tt) (in₂ tt) h ih j q a
    go false q = letter-local at (letter_of c) cs ds j q a

-- ---- steps and sequences

-- the place that a step reaches
abbrev reached : ℕ → Piece → ℕ
reached at space = at
reached at close = at
reached at (item i e) = e
reached at (bad p) = p

reached-item : (at : ℕ) (r : ReadTo Item) → reached at (piece_from r) ≡ read_end r
unfolding read_end
reached-item at (read i e) = refl
reached-item at (stray p) = refl

step_local : (depth : ℕ) (filled : Bool) (at c : ℕ) (cs ds : List ℕ) (in₁ in₂ : Unit {0} → ReadTo Template) → suc at ≤ read_end (in₁ tt) → Inner at cs ds (in₁ tt) (in₂ tt)
    → (j : ℕ) → suc at + j ≡ suc (reached at (piece_at depth filled at c cs in₁)) → Agree j cs ds → piece_at depth filled at c ds in₂ ≡ piece_at depth filled at c cs in₁
unfolding piece_at
step_local depth filled at c cs ds in₁ in₂ h ih j q a = go (eqb c 32) (eqb c 41) q
  where
    go : (s t : Bool) → suc at + j ≡ suc (reached at (if s then space else if t then (if ltb 0 depth && filled then close else bad at) else piece_from (item_at depth at c cs in₁)))
        → (if s then space else if t then (if ltb 0 depth && filled then close else bad at) else piece_from
        (item_at depth at c ds in₂)) ≡ (if s then space else if t then (if ltb 0 depth && filled then close else bad
        at) else piece_from (item_at depth at c cs in₁))
    go true t q = refl
    go false true q = refl
    go false false q = ap piece_from (item-local depth at c cs ds in₁ in₂ h ih j (q ∙ ap suc (reached-item at (item_at depth at c cs in₁))) a)

-- what follows an item ends at the item's place or later
reached-before : (at end : ℕ) (s : Piece) (r : ReadTo Template) → StepEnds at end s → suc at + piece_extra at s ≤ read_end r → reached at s ≤ read_end (piece_then at s r)
unfolding read_end
reached-before at end space r h k = omega arith
reached-before at end close r h k = omega arith
reached-before at end (item i e) r h k = let p : read_end (and_then i r) ≡ read_end r = place-then i r in omega arith
reached-before at end (bad p) r h k = omega arith

-- where the rest is looked at, it decides the place
rest-same : (at : ℕ) (s : Piece) (r₁ r₂ : ReadTo Template) (k : ℕ) → at + suc k ≡ suc (read_end (piece_then at s r₁)) → (suc at + k ≡ suc (read_end r₁) → r₂ ≡ r₁) → piece_then at s r₂ ≡ piece_then at s r₁
rest-same at space r₁ r₂ k q ih = ih (omega arith)
rest-same at close r₁ r₂ k q ih = refl
rest-same at (item i e) r₁ r₂ k q ih = let p : read_end (and_then i r₁) ≡ read_end r₁ = place-then i r₁ in ap (and_then i) (ih (omega arith))
rest-same at (bad p) r₁ r₂ k q ih = refl

-- a reading of cs is the same of every text that agrees with it up to and with the byte at the reading's place
abbrev Local : List ℕ → Type 0
Local cs = (depth : ℕ) (filled : Bool) (at n : ℕ) (ds : List ℕ) (k : ℕ) → n ≤ length cs → at + k ≡ suc (read_end (sequence depth filled at n cs)) → Agree k cs ds
    → sequence depth filled at n ds ≡ sequence depth filled at n cs

lowest : (at end : ℕ) (s : Piece) → StepEnds at end s → at ≤ reached at s
lowest at end space h = omega arith
lowest at end close h = omega arith
lowest at end (item i e) h = omega arith
lowest at end (bad p) h = h.0

module _ (c : ℕ) (cs : List ℕ) (ih : Local cs) (depth : ℕ) (filled : Bool) (at : ℕ) where
  local-skip : (n : ℕ) (ds : List ℕ) (k : ℕ) → suc n ≤ length (c ∷ cs) → at + k ≡ suc (read_end (sequence depth filled at (suc n) (c ∷ cs))) → Agree k (c ∷ cs) ds
      → sequence depth filled at (suc n) ds ≡ sequence depth filled at (suc n) (c ∷ cs)
  unfolding sequence
  local-skip n ds zero h q a = absurd (omega (arith, starts cs depth filled (suc at) n (omega arith)))
  local-skip n [] (suc k) h q a = absurd a
  local-skip n (d ∷ ds) (suc k) h q a = ih depth filled (suc at) n ds k (omega arith) (omega arith) a.1

  local-step : (ds : List ℕ) (k : ℕ) → at + k ≡ suc (read_end (sequence depth filled at 0 (c ∷ cs))) → Agree k (c ∷ cs) ds
      → sequence depth filled at 0 ds ≡ sequence depth filled at 0 (c ∷ cs)
  unfolding sequence
  local-step ds zero q a = absurd (omega (arith, starts (c ∷ cs) depth filled at 0 (omega arith)))
  local-step [] (suc k) q a = absurd a
  local-step (d ∷ ds) (suc k) q a =
      let in₁ : Unit {0} → ReadTo Template = λ _. sequence (suc depth) false (suc at) 0 cs in
      let in₂ : Unit {0} → ReadTo Template = λ _. sequence (suc depth) false (suc at) 0 ds in
      let s : Piece = piece_at depth filled at c cs in₁ in
      let r : ReadTo Template = sequence depth (filled || is_item s) (suc at) (piece_extra at s) cs in
      let w : StepEnds at (suc at + length cs) s = step_from c cs depth filled at in
      let m : piece_extra at s ≤ length cs = extra-within at (length cs) s w in
      let begin : suc at + 0 ≤ read_end (in₁ tt) = starts cs (suc depth) false (suc at) 0 (omega arith) in
      let far : reached at s ≤ read_end (piece_then at s r) = reached-before at (suc at + length cs) s r w (starts cs depth (filled || is_item s) (suc at) (piece_extra at s) m) in
      let low : at ≤ reached at s = lowest at (suc at + length cs) s w in
      let step : piece_at depth filled at c ds in₂ ≡ s = step_local depth filled at c cs ds in₁ in₂ (omega arith)
      (λ i p g. ih (suc depth) false (suc at) 0 ds i (omega arith) p g) (reached at s - at) (omega arith)
      (agree_less (reached at s - at) k cs ds (omega arith) a.1) in
      ap (λ (x : ℕ). piece_then at (piece_at depth filled at x ds in₂)
      (sequence depth (filled || is_item (piece_at depth filled at x ds in₂)) (suc at)
      (piece_extra at (piece_at depth filled at x ds in₂)) ds)) (sym a.0)
      ∙ ap (λ (x : Piece). piece_then at x (sequence depth (filled || is_item x) (suc at) (piece_extra at x) ds)) step
      ∙ rest-same at s r (sequence depth (filled || is_item s) (suc at) (piece_extra at s) ds) k q (λ p. ih depth (filled || is_item s) (suc at) (piece_extra at s) ds k m p a.1)

pub local : (cs : List ℕ) → Local cs
local [] depth filled at n ds zero h q a = absurd (omega (arith, starts [] depth filled at n h))
local [] depth filled at n ds (suc k) h q a = absurd a
local (c ∷ cs) depth filled at zero ds k h q a = local-step c cs (local cs) depth filled at ds k q a
local (c ∷ cs) depth filled at (suc n) ds k h q a = local-skip c cs (local cs) depth filled at n ds k h q a
