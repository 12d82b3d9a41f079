-- A reading looks at the number of the slots that it is lent, and not at what they hold: it sets the first of them, and
-- the others stay.
use Rattle.std.specs.Prelude.{if◌then◌else◌}
use Prim.Native.Nat.{ℕ, suc, ◌+◌, ◌-◌, ◌*◌, ◌/◌, ◌≤◌}
use native.Mathlib.Nat.{zero-add, mul_comm}
use native.Mathlib.Omega.{arith}
use mathlib.Core.Path.{◌≡◌, refl, sym, ap, ◌∙◌, subst}
use mathlib.Core.Bool.{Bool, true, false}
use mathlib.Core.List.{List, [], ◌∷◌, ◌++◌}
use lib.Dec.{eqb, leb}
use lib.ListN.{length, take, drop}
use lib.Seq.{take_at, drop_at}
use borrow.Author.Tests.{ne_eqb, leb-true}
use Rattle.layout.specs.declared.Role.{Role}
use Rattle.layout.specs.declared.Role.TheVariants.{Data, Move}
use Rattle.layout.specs.declared.Count.{Count}
use Rattle.layout.specs.declared.Field.{Field}
use Rattle.layout.specs.declared.Refusal.TheVariants.{NoRoom}
use Rattle.layout.specs.Refusals.{number_of, Result, ok, refused}
use Rattle.layout.specs.Layout.{fields_of, slot_count}
use Rattle.layout.proofs.Laws.{bound, demanded, ok-inj, no-number-zero}
use Rattle.record.specs.declared.Answer.{Answer}
use Rattle.record.specs.Bytes.{part, store_at}
use Rattle.record.specs.Table.{max_slots, slot_width, slots_of, Value, area_bytes, slot_numbers, value_bytes}
use Rattle.record.specs.Geometry.{amount, bytes_for, items_in, moved_in, lengths_fit}
use Rattle.record.specs.Reading.{Read, loaded, values_from, reads_fields, put_into, read_effect, positions_of, read, read_steps, left_of, read_fields}
use Rattle.record.proofs.Bytes.{and-true}
use Rattle.record.proofs.Tables.{length-slots}
use Rattle.record.proofs.Sizes.{Sized, sized}

-- ---- no field shows a value but those that take a slot

few-if : (t : Bool) (v : Value) (vs : List Value) (k : ℕ) → length vs ≤ k → length (if t then v ∷ vs else []) ≤ suc k
few-if true v vs k h = omega arith
few-if false v vs k h = omega arith

few-step : (bs : List ℕ) (at : ℕ) (k : Role) (u : Bool) (n : Count) (fs : List Field) → ((to : ℕ) → length (values_from bs to fs) ≤ slot_count fs)
    → length (values_from bs at (record { role = k; unsigned = u; count = n } ∷ fs)) ≤ slot_count (record { role = k; unsigned = u; count = n } ∷ fs)
unfolding values_from slot_count
few-step bs at (Data s) u n fs h =
    let left = length bs - at in
    let k = amount n (items_in s left) in
    let b = bytes_for s k in
    few-if (leb b left) (loaded s u k (part bs at b)) (values_from bs (at + b) fs) (slot_count fs) (h (at + b))
few-step bs at (Move m) u n fs h = h (moved_in (length bs) m n at)

pub values-few : (bs : List ℕ) (at : ℕ) (fs : List Field) → length (values_from bs at fs) ≤ slot_count fs
unfolding values_from slot_count
values-few bs at [] = omega arith
values-few bs at (f ∷ fs) = few-step bs at f.role f.unsigned f.count fs (λ to. values-few bs to fs)

-- ---- a reading sets no more slots than it is lent, nor than a call may be lent

pub record Few (slots : List ℕ) (n : ℕ) : Type 0 where
  pub lent : n * slot_width ≤ length slots
  pub most : n ≤ max_slots

few-by : (slots : List ℕ) (k n : ℕ) → length slots ≤ slot_width * max_slots → k ≤ length (slots_of slots) → n ≤ k → Few slots n
few-by slots k n within enough few = let l : length (slots_of slots) ≡ length slots / slot_width = length-slots slots in record { lent = omega arith; most = omega arith }

reads-few : (size : ℕ) (o : Result (List Field)) (bs slots area : List ℕ) (mark : ℕ) (vs : List Value) → reads_fields size o bs slots area mark ≡ ok vs → Few slots (length vs)
unfolding reads_fields
reads-few size o bs slots area mark vs e =
    let (fit, e₁) = demanded _ _ _ _ vs e in
    let (fs, _, e₂) = bound o _ vs e₁ in
    let (enough, e₃) = demanded _ _ _ _ vs e₂ in
    let shown : List Value = values_from bs 0 fs in
    let (_, e₄) = demanded (leb (mark + length (value_bytes shown)) (length area)) NoRoom 0 (λ _. ok shown) vs e₃ in
    let all : Sized size (length slots) (length bs) (length area) = sized (and-true (lengths_fit size (length slots) (length bs) (length area)) (leb mark (length area)) fit).0 in
    few-by slots (slot_count fs) (length vs) all.lent.table (leb-true (slot_count fs) (length (slots_of slots)) enough)
    (subst (λ (ws : List Value). length ws ≤ slot_count fs) {x = shown} (ok-inj e₄) (values-few bs 0 fs))

-- ---- what stood in the slots does not count

pub length-slot-numbers : (start : ℕ) (at : List ℕ) (vs : List Value) → length (slot_numbers start at vs) ≡ slot_width * length vs
unfolding slot_numbers
length-slot-numbers start at [] = refl
length-slot-numbers start at (v ∷ vs) = omega (arith, length-slot-numbers (start + length (area_bytes v)) (drop 1 at) vs)

-- what a reading leaves, over the slots ys: those that it set, and the others of ys
abbrev pub over : List ℕ → Read → Read
over ys r =
    record {
      answer = r.answer;
      slots = if eqb r.answer.number 0 then store_at ys 0 (take (r.answer.first * slot_width) r.slots) else ys;
      area = r.area;
    }

module _ (xs area : List ℕ) (mark : ℕ) (at : List ℕ) where
  module _ (vs : List Value) where
    long : length (slot_numbers mark at vs) ≡ length vs * slot_width
    long = length-slot-numbers mark at vs ∙ mul_comm slot_width (length vs)

    set-over : (ys : List ℕ) → slot_numbers mark at vs ++ drop (slot_width * length vs) ys ≡ store_at ys 0 (take (length vs * slot_width) (slot_numbers mark at vs ++ drop (slot_width * length vs) xs))
    set-over ys = rw (take_at (slot_numbers mark at vs) (drop (slot_width * length vs) xs) (length vs * slot_width) long, zero-add, length-slot-numbers mark at vs)

    unset-same : drop (length vs * slot_width) (slot_numbers mark at vs ++ drop (slot_width * length vs) xs) ≡ drop (length vs * slot_width) xs
    unset-same = drop_at (slot_numbers mark at vs) (drop (slot_width * length vs) xs) (length vs * slot_width) long ∙ ap (λ (n : ℕ). drop n xs) (mul_comm slot_width (length vs))

  effect-over : (ys : List ℕ) (r : Result (List Value)) → read_effect ys area mark at r ≡ over ys (read_effect xs area mark at r)
  unfolding put_into
  effect-over ys (ok vs) = ap (λ (s : List ℕ). record { answer = (put_into ys area mark at vs).answer; slots = s; area = (put_into ys area mark at vs).area }) (set-over vs ys)
  effect-over ys (refused why place) = rw (ne_eqb (number_of why) 0 (λ z. no-number-zero why z))

  effect-unset : (r : Result (List Value)) → (read_effect xs area mark at r).answer.number ≡ 0
      → drop ((read_effect xs area mark at r).answer.first * slot_width) (read_effect xs area mark at r).slots ≡ drop ((read_effect xs area mark at r).answer.first * slot_width) xs
  unfolding put_into
  effect-unset (ok vs) z = unset-same vs
  effect-unset (refused why place) z = no-number-zero why z

  effect-few : (r : Result (List Value)) → ((vs : List Value) → r ≡ ok vs → Few xs (length vs))
      → (read_effect xs area mark at r).answer.number ≡ 0 → Few xs (read_effect xs area mark at r).answer.first
  unfolding put_into
  effect-few (ok vs) h z = h vs refl
  effect-few (refused why place) h z = no-number-zero why z

-- ---- by fields that stand in a run of `size` bytes or numbers

module _ (size : ℕ) (o : Result (List Field)) (bs area : List ℕ) (mark : ℕ) (xs : List ℕ) where
  -- any slots will do in the place of ys, if they are as many
  module _ (ys : List ℕ) (same : length xs ≡ length ys) where
    reads_same : reads_fields size o bs ys area mark ≡ reads_fields size o bs xs area mark
    unfolding reads_fields
    reads_same = rw (length-slots ys, length-slots xs, same)

    pub fields-over : left_of (read_fields size o bs ys area mark) ≡ over ys (left_of (read_fields size o bs xs area mark))
    unfolding read_fields
    fields-over = rw reads_same (effect-over xs area mark (positions_of (length bs) o) ys (reads_fields size o bs xs area mark))

    pub fields-steps : (read_fields size o bs ys area mark).answer.steps ≡ (read_fields size o bs xs area mark).answer.steps
    unfolding read_fields
    fields-steps = rw reads_same

  module _ (z : (read_fields size o bs xs area mark).answer.answer.number ≡ 0) where
    -- the slots after those that are set stay as lent
    pub fields-unset :
        drop ((read_fields size o bs xs area mark).answer.answer.first * slot_width) (read_fields size o bs xs area mark).slots
        ≡ drop ((read_fields size o bs xs area mark).answer.answer.first * slot_width) xs
    unfolding read_fields
    fields-unset = effect-unset xs area mark (positions_of (length bs) o) (reads_fields size o bs xs area mark) z

    pub fields-few : Few xs (read_fields size o bs xs area mark).answer.answer.first
    unfolding read_fields
    fields-few = effect-few xs area mark (positions_of (length bs) o) (reads_fields size o bs xs area mark) (reads-few size o bs xs area mark) z

  -- what a call left has room for the slots that it set
  pub fields-set : {a : Answer} {xs' area' : List ℕ}
      → record { answer = a; slots = xs'; area = area' } ≡ left_of (read_fields size o bs xs area mark) → a.number ≡ 0
      → length xs' ≡ length xs → a.first * slot_width ≤ length xs'
  fields-set {a} p z e =
      let same : (read_fields size o bs xs area mark).answer.answer ≡ a = ap (λ (r : Read). r.answer) (sym p) in
      let few : Few xs (read_fields size o bs xs area mark).answer.answer.first = fields-few (rw same z) in
      rw e (rw same at few).lent

-- ---- and by a layout

module _ (layout bs area : List ℕ) (mark : ℕ) (xs : List ℕ) where
  module _ (ys : List ℕ) (same : length xs ≡ length ys) where
    pub read-over : read layout bs ys area mark ≡ over ys (read layout bs xs area mark)
    unfolding read read_fields
    read-over = fields-over (length layout) (fields_of false layout) bs area mark xs ys same

    pub steps-same : read_steps layout bs ys area mark ≡ read_steps layout bs xs area mark
    unfolding read_steps read_fields
    steps-same = fields-steps (length layout) (fields_of false layout) bs area mark xs ys same

  module _ (z : (read layout bs xs area mark).answer.number ≡ 0) where
    pub read-unset : drop ((read layout bs xs area mark).answer.first * slot_width) (read layout bs xs area mark).slots ≡ drop ((read layout bs xs area mark).answer.first * slot_width) xs
    unfolding read read_fields
    read-unset = fields-unset (length layout) (fields_of false layout) bs area mark xs z

    pub read-few : Few xs (read layout bs xs area mark).answer.first
    unfolding read read_fields
    read-few = fields-few (length layout) (fields_of false layout) bs area mark xs z

  pub set-few : {a : Answer} {xs' area' : List ℕ} → record { answer = a; slots = xs'; area = area' } ≡ read layout bs xs
      area mark → a.number ≡ 0 → length xs' ≡ length xs → a.first * slot_width ≤ length xs'
  unfolding read read_fields
  set-few p z e = fields-set (length layout) (fields_of false layout) bs area mark xs p z e
