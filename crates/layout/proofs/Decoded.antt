-- The fields of the codes: what a loop over the codes goes by, and what a caller of `parse` learns.
use Rattle.std.specs.Prelude.{if◌then◌else◌}
use Prim.Native.Nat.{ℕ, suc, ◌+◌, ◌/◌, ◌%◌, ◌^◌, ◌≤◌, ◌<◌, min}
use native.Mathlib.Numerals.{add-one}
use native.Mathlib.Omega.{arith}
use mathlib.Core.Path.{◌≡◌, refl, sym, ap, ◌∙◌}
use mathlib.Core.Bool.{Bool, true, false}
use mathlib.Core.List.{List, [], ◌∷◌, ◌++◌, map, map-append}
use lib.ListN.{length, get_or, drop, take, set, length-map, length-take, drop_of_length-le, get_or-map}
use lib.Seq.{drop-cons, get_or-take, take-suc-set, length-take-le, take-length}
use Rattle.layout.specs.declared.Role.TheVariants.{Data}
use Rattle.layout.specs.declared.Field.{Field}
use Rattle.layout.specs.declared.Fields.{Fields}
use Rattle.layout.specs.declared.Refused.{Refused}
use Rattle.std.specs.declared.result.Result as Std
use Rattle.std.specs.declared.result.Result.TheVariants.{Ok, Err}
use Rattle.layout.specs.Refusals.{Result, ok, refused}
use Rattle.layout.specs.Layout.{max_layout, takes_slot, to_nat, slot_count, slots_taken}
use Rattle.layout.specs.Codes.{last_data, count_from, field_of, code_for, flag_unit, count_unit}
use Rattle.layout.specs.inside.Parsing.{shape_numbered, FieldOf, decoded, Parses, slots_numbered}
use Rattle.layout.proofs.Steps.{bit_le, field_fits}
use Rattle.layout.proofs.Numbered.{data-role, move-role, slot-numbered}

pub decoded-length : (n : ℕ) (ws : List ℕ) → n ≤ length ws → length (decoded n ws) ≡ n
unfolding decoded
decoded-length n ws h = length-map (take n ws) field_of ∙ length-take-le n ws h

-- the codes at the front hold their fields alone
pub decoded-front : (n : ℕ) (ws : List ℕ) → decoded n ws ≡ decoded (length (take n ws)) (take n ws)
unfolding decoded
decoded-front n ws = ap (map field_of) (sym (take-length (take n ws)))

-- a code more is a field more
pub decoded-more : (n w : ℕ) (ws : List ℕ) → n < length ws → decoded (n + 1) (set ws n w) ≡ decoded n ws ++ (field_of w ∷ [])
unfolding decoded
decoded-more n w ws h = rw (add-one, take-suc-set ws n w h) (map-append field_of (take n ws) (w ∷ []))

-- and the codes are those of the fields
pub plan-more : (n w : ℕ) (ws : List ℕ) → n < length ws → map code_for (decoded n ws) ≡ take n ws → code_for (field_of w) ≡ w
    → map code_for (decoded (n + 1) (set ws n w)) ≡ take (n + 1) (set ws n w)
plan-more n w ws h e q =
    ap (map code_for) (decoded-more n w ws h) ∙ map-append code_for (decoded n ws) (field_of w ∷ []) ∙ (rw (add-one, take-suc-set ws n w h, e, q))

-- the slots of joined fields
pub count-append : (fs gs : List Field) → slot_count (fs ++ gs) ≡ slot_count fs + slot_count gs
unfolding slot_count
count-append [] gs = omega arith
count-append (f ∷ fs) gs = step (takes_slot f.role) (count-append fs gs)
  where
    step : (t : Bool) → slot_count (fs ++ gs) ≡ slot_count fs + slot_count gs
        → (if t then suc (slot_count (fs ++ gs)) else slot_count (fs ++ gs)) ≡ (if t then suc (slot_count fs) else slot_count fs) + slot_count gs
    step true h = omega arith
    step false h = h

pub slots-more : (fs : List Field) (f : Field) → slot_count (fs ++ (f ∷ [])) ≡ slot_count fs + slots_taken f
unfolding slot_count
slots-more fs f = count-append fs (f ∷ []) ∙ ap (λ (n : ℕ). slot_count fs + n) (one (takes_slot f.role))
  where
    one : (t : Bool) → (if t then 1 else 0) ≡ to_nat t
    one true = refl
    one false = refl

pub slots-le : (f : Field) → slots_taken f ≤ 1
slots-le f = bit_le (takes_slot f.role)

-- ---- a code's field by the number of its type

module _ (w : ℕ) where
  pub code-count : (field_of w).count ≡ count_from (w / count_unit)
  unfolding field_of
  code-count = refl

  pub code_shape : w % flag_unit ≤ last_data → (field_of w).role ≡ Data (shape_numbered (w % flag_unit))
  unfolding field_of
  code_shape h = data-role (w % flag_unit) h

  pub code-slotless : last_data < w % flag_unit → slots_taken (field_of w) ≡ 0
  unfolding field_of
  code-slotless h = rw (move-role (w % flag_unit) h)

  pub code-slots : slots_numbered (w % flag_unit) ≡ slots_taken (field_of w)
  unfolding field_of
  code-slots = ap to_nat (slot-numbered (w % flag_unit))

-- what a code of 32 bits tells before it is decoded: its field keeps to the limits, and takes r slots
pub record SlotsIn (w r : ℕ) : Type 0 where
  pub field : FieldOf w (field_of w)
  pub taken : r ≡ slots_taken (field_of w)

pub code-told : (w r : ℕ) → w < 2 ^ 32 → r ≡ slots_numbered (w % flag_unit) → SlotsIn w r
code-told w r h e = record { field = field_fits w (field_of w) h refl; taken = e ∙ code-slots w }

-- the fields from the i-th on
module _ (n : ℕ) (ws : List ℕ) (h : n ≤ length ws) where
  pub next_field : (i : ℕ) → i < n → drop i (decoded n ws) ≡ field_of (get_or ws i 0) ∷ drop (i + 1) (decoded n ws)
  unfolding decoded
  next_field i k =
      let l : i < length (map field_of (take n ws)) = rw (length-map (take n ws) field_of, length-take-le n ws h) k in
      let e : get_or (map field_of (take n ws)) i (field_of 0) ≡ field_of (get_or ws i 0) = get_or-map field_of (take n ws) i 0 ∙ ap field_of (get_or-take n ws i 0 k) in
      drop-cons (map field_of (take n ws)) i (field_of 0) l ∙ (rw (e, add-one))

  pub no_field : (i : ℕ) → n ≤ i → drop i (decoded n ws) ≡ []
  no_field i k = let l : length (decoded n ws) ≤ i = omega (arith, decoded-length n ws h) in drop_of_length-le (decoded n ws) l

-- ---- what a caller of `parse` learns from either answer

pub record Learnt (o : Result (List Field)) (n slots : ℕ) (ws : List ℕ) : Type 0 where
  pub fields : o ≡ ok (decoded n ws)
  pub taken : slots ≡ slot_count (decoded n ws)
  pub few : n ≤ length ws
  pub room : length ws ≤ max_layout

pub parsed-fields : (o : Result (List Field)) (r : Std.Result Fields Refused) (f : Fields) (ws : List ℕ) → Parses o r ws → r ≡ Ok f → Learnt o f.count f.slots ws
unfolding decoded
parsed-fields (ok fs) r f ws p e =
    let same : f ≡ record { count = length fs; slots = slot_count fs } = cc p.answer in
    let l : f.count ≡ length fs = ap (λ (g : Fields). g.count) same in
    let k : f.slots ≡ slot_count fs = ap (λ (g : Fields). g.slots) same in
    let d : decoded f.count ws ≡ fs = ap (λ (i : ℕ). decoded i ws) l ∙ p.codes in
    let m : min f.count (length ws) ≡ f.count = sym (length-map (take f.count ws) field_of ∙ length-take f.count ws) ∙ ap length d ∙ sym l in
    record { fields = ap ok (sym d); taken = k ∙ ap slot_count (sym d); few = omega arith; room = p.room }
parsed-fields (refused why p) r f ws q e = let z : ◌≡◌ {A = ℕ} 0 1 = cc q.answer in absurd (omega arith)

-- the codes at the front hold the fields by themselves
pub learnt-front : {o : Result (List Field)} {n taken : ℕ} {ws : List ℕ} → Learnt o n taken ws → Learnt o (length (take n ws)) taken (take n ws)
learnt-front {n = n} {ws = ws} l =
    let same = decoded-front n ws in
    record { fields = l.fields ∙ ap ok same; taken = l.taken ∙ ap slot_count same; few = omega arith; room = omega (arith, length-take n ws, l.room) }

-- and that the codes are those of the fields
pub parsed-plan : (o : Result (List Field)) (r : Std.Result Fields Refused) (f : Fields) (ws : List ℕ) → Parses o r ws → r ≡ Ok f → map code_for (decoded f.count ws) ≡ take f.count ws
parsed-plan (ok fs) r f ws p e =
    let same : f ≡ record { count = length fs; slots = slot_count fs } = cc p.answer in
    let l : f.count ≡ length fs = ap (λ (g : Fields). g.count) same in
    let d : decoded f.count ws ≡ fs = ap (λ (i : ℕ). decoded i ws) l ∙ p.codes in
    rw (d, l) p.plan
parsed-plan (refused why p) r f ws q e = let z : ◌≡◌ {A = ℕ} 0 1 = cc q.answer in absurd (omega arith)

pub parsed-refused : (o : Result (List Field)) (r : Std.Result Fields Refused) (e : Refused) (ws : List ℕ) → Parses o r ws → r ≡ Err e → o ≡ refused e.why e.place
parsed-refused (ok fs) r e ws q h = let z : ◌≡◌ {A = ℕ} 0 1 = cc q.answer in absurd (omega arith)
parsed-refused (refused why p) r e ws q h =
    let same : e ≡ record { why = why; place = p } = cc q.answer in
    rw same refl
