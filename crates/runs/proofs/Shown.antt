-- The slots of values just put into a table show those values: each stands in the area where its slot says.
use Rattle.std.specs.Prelude.{if◌then◌else◌}
use Prim.Native.Nat.{ℕ, zero, suc, ◌+◌, ◌-◌, ◌*◌, ◌%◌, ◌^◌, ◌≤◌, ◌<◌}
use native.Mathlib.Nat.{not-suc-le-zero, mod-lt, one-le-pow, pow-le-pow_right}
use native.Mathlib.Omega.{arith}
use mathlib.Core.Path.{◌≡◌, refl, sym, ap, ap₂, ◌∙◌}
use mathlib.Core.Bool.{Bool, true, false, true≢false, ◌||◌}
use mathlib.Core.List.{List, [], ◌∷◌, ◌++◌, map, append_assoc}
use lib.ListN.{length, get_or, take, drop}
use lib.Seq.{take_at, drop_at, drop-drop, length-take-le}
use lib.Dec.{eqb, ltb}
use Rattle.record.specs.Bytes.{join, store_at}
use Rattle.record.specs.Table.{slots_of, slot_width, no_position, Value, integer_size, integer_bytes, integers_in, area_bytes, shown, slot_numbers, value_bytes}
use Rattle.record.specs.Slots.{slot_at}
use Rattle.record.specs.Reading.{put_into, widened}
use Rattle.record.proofs.Bytes.{All}
use Rattle.record.proofs.NumberLaws.{numbers-back}

-- an integer fits eight bytes
abbrev pub Proper : Value → Type 0
Proper v = eqb v.kind 1 ≡ false → All (λ x. x < 2 ^ 64) v.items

abbrev pub AllProper : List Value → Type 0
AllProper [] = Unit {0}
AllProper (v ∷ vs) = Proper v × AllProper vs

-- a slot shows the value whose bytes stand at its start
pub shows-one : (area rest : List ℕ) (start position : ℕ) (v : Value) → Proper v → drop start area ≡ area_bytes v ++ rest
    → shown area (record { kind = v.kind; start = start; len = length v.items; position = position }) ≡ v
unfolding shown area_bytes
shows-one area rest start position v h e = rw e (ap (λ (xs : List ℕ). record { kind = v.kind; items = xs }) (by_kind (eqb v.kind 1) h))
  where
    by_kind : (t : Bool) → (t ≡ false → All (λ x. x < 2 ^ 64) v.items)
        → (if t then take (length v.items) ((if t then v.items else integer_bytes v.items) ++ rest)
        else integers_in (length v.items) ((if t then v.items else integer_bytes v.items) ++ rest)) ≡ v.items
    by_kind true k = take_at v.items rest (length v.items) refl
    by_kind false k = numbers-back integer_size v.items rest (k refl)

shows-from : (vs : List Value) → AllProper vs → (at area rest more : List ℕ) (start : ℕ) → drop start area ≡ value_bytes vs ++ rest
    → map (shown area) (take (length vs) (slots_of (slot_numbers start at vs ++ more))) ≡ vs
unfolding slot_numbers value_bytes slots_of join
shows-from [] h at area rest more start e = refl
shows-from (v ∷ vs) h at area rest more start e =
    let tail : List ℕ = value_bytes vs ++ rest in
    let here : drop start area ≡ area_bytes v ++ tail = e ∙ append_assoc (area_bytes v) (value_bytes vs) rest in
    let later : drop (start + length (area_bytes v)) area ≡ tail =
    sym (drop-drop (length (area_bytes v)) start area) ∙ ap (drop (length (area_bytes v))) here ∙ drop_at (area_bytes v) tail (length (area_bytes v)) refl in
    ap₂ (λ (x : Value) (xs : List Value). x ∷ xs) (shows-one area tail start (get_or at 0 no_position) v h.0 here)
    (shows-from vs h.1 (drop 1 at) area rest more (start + length (area_bytes v)) later)

-- the table that a reading leaves shows the values that were put into it
pub shows-put : (slots area : List ℕ) (mark : ℕ) (at : List ℕ) (vs : List Value) → AllProper vs → mark ≤ length area
    → map (shown (put_into slots area mark at vs).area) (take (length vs) (slots_of (put_into slots area mark at vs).slots)) ≡ vs
unfolding put_into
shows-put slots area mark at vs h k =
    let after : List ℕ = drop (mark + length (value_bytes vs)) area in
    shows-from vs h at (store_at area mark (value_bytes vs)) after _ mark
    (ap (drop mark) (append_assoc (take mark area) (value_bytes vs) after) ∙ drop_at (take mark area) (value_bytes vs ++ after) mark (length-take-le mark area k))

-- ---- positions: those of the values are looked at, and no more

next-position : (at : List ℕ) (i : ℕ) → get_or (drop 1 at) i no_position ≡ get_or at (suc i) no_position
next-position [] i = refl
next-position (p ∷ at) i = refl

slots_same : (start : ℕ) (vs : List Value) (ps qs : List ℕ) → ((i : ℕ) → i < length vs → get_or ps i no_position ≡ get_or qs i no_position) → slot_numbers start ps vs ≡ slot_numbers start qs vs
unfolding slot_numbers
slots_same start [] ps qs h = refl
slots_same start (v ∷ vs) ps qs h =
    rw (h 0 (omega arith))
    (ap (λ (r : List ℕ). v.kind ∷ start ∷ length v.items ∷ get_or qs 0 no_position ∷ r)
    (slots_same (start + length (area_bytes v)) vs (drop 1 ps) (drop 1 qs) (λ i l. next-position ps i ∙ h (suc i) (omega arith) ∙ sym (next-position qs i))))

pub put_same : (slots area : List ℕ) (mark : ℕ) (vs : List Value) (ps qs : List ℕ) → ((i : ℕ) → i < length vs → get_or ps i no_position ≡ get_or qs i no_position)
    → put_into slots area mark ps vs ≡ put_into slots area mark qs vs
unfolding put_into
put_same slots area mark vs ps qs h = rw (slots_same mark vs ps qs h)

position_at : (start : ℕ) (at : List ℕ) (vs : List Value) (rest : List ℕ) (i : ℕ) → i < length vs → get_or (slot_numbers start at vs ++ rest) (slot_width * i + 3) 0 ≡ get_or at i no_position
unfolding slot_numbers
position_at start at [] rest i h = absurd (not-suc-le-zero h)
position_at start at (v ∷ vs) rest zero h = refl
position_at start at (v ∷ vs) rest (suc i) h =
    let e : slot_width * suc i + 3 ≡ suc (suc (suc (suc (slot_width * i + 3)))) = omega arith in
    rw e (position_at (start + length (area_bytes v)) (drop 1 at) vs rest i (omega arith) ∙ next-position at i)

pub position-put : (slots area : List ℕ) (mark : ℕ) (at : List ℕ) (vs : List Value) (i : ℕ) → i < length vs → (slot_at (put_into slots area mark at vs).slots i).position ≡ get_or at i no_position
unfolding put_into slot_at
position-put slots area mark at vs i h = position_at mark at vs (drop (slot_width * length vs) slots) i h

-- ---- what makes a value proper

pub true-false {ℓ} : {X : Type ℓ} → true ≡ false → X
true-false e = absurd (true≢false e)

pub widened-fits : (w : ℕ) (u : Bool) (x : ℕ) → w ≤ 8 → widened w u (x % 256 ^ w) < 2 ^ 64
unfolding widened
widened-fits w u x h = by_sign (u || ltb (2 * (x % 256 ^ w)) (256 ^ w))
  where
    low : x % 256 ^ w < 256 ^ w
    low = mod-lt x (one-le-pow w 256 (omega arith))

    top : 256 ^ w ≤ 256 ^ 8
    top = pow-le-pow_right (omega arith) h

    by_sign : (t : Bool) → (if t then x % 256 ^ w else (x % 256 ^ w + (2 ^ 64 - 256 ^ w))) < 2 ^ 64
    by_sign true = omega (arith, low, top)
    by_sign false = omega (arith, low, top)
