-- Laws of tables and entries: a table's slots as entries, and entries put into a table.
use Rattle.std.specs.Prelude.{if◌then◌else◌}
use Prim.Native.Nat.{ℕ, zero, suc, ◌+◌, ◌-◌, ◌*◌, ◌/◌, ◌%◌, ◌≤◌}
use native.Mathlib.Nat.{suc-mul, mul-one}
use native.Mathlib.Omega.{arith}
use mathlib.Core.Path.{◌≡◌, refl, sym, ap, ap₂, ◌∙◌}
use mathlib.Core.Bool.{Bool, true, false, ◌&&◌, ◌||◌}
use mathlib.Core.List.{List, [], ◌∷◌, ◌++◌, map, append_assoc}
use borrow.Author.Tests.{le-leb, leb-true, eqb-true}
use lib.Dec.{eqb, leb}
use lib.ListN.{length, take, drop, length-append}
use lib.Seq.{take_at, drop_at, take-take, drop-drop}
use Rattle.layout.specs.declared.Refusal.TheVariants.{BadSlot}
use Rattle.layout.specs.Refusals.{ok}
use Rattle.layout.proofs.Laws.{demanded}
use Rattle.record.specs.Bytes.{part, store_at, join, pieces, big_endian_in}
use Rattle.record.specs.declared.slots.Slot.{Slot}
use Rattle.record.specs.Slots.{value_end}
use Rattle.record.specs.Table.{max_kind, slots_of, slot_width, no_position, item_size, Value, integers_in, shown}
use Rattle.record.proofs.Bytes.{and-true, drop-take}
use Rattle.record.proofs.Stores.{length_part, store-store}
use Rattle.sheet.specs.Entries.{Entry, whole_items, entry_values}
use Rattle.sheet.specs.Sheet.{value_size, entry_of, entries_of, slot_writable, slots_writable, entries_numbers}
use Rattle.sheet.specs.Claims.{seen}
use Rattle.sheet.proofs.Entries.{Sound, AllSound}

-- ---- items and bytes

-- whole items fill their bytes
whole-size : (kind n : ℕ) → whole_items kind n ≡ true → (if eqb kind 0 then 0 else n / item_size kind * item_size kind) ≡ n
whole-size kind n h = go (eqb kind 0) (eqb kind 1) h
  where
    go : (z o : Bool) → (if z then eqb n 0 else eqb (n % (if o then 1 else 8)) 0) ≡ true → (if z then 0 else n / (if o then 1 else 8) * (if o then 1 else 8)) ≡ n
    go true o h = sym (eqb-true n 0 h)
    go false true h = let e : n / 1 * 1 ≡ n = omega arith in e
    go false false h = let r : n % 8 ≡ 0 = eqb-true (n % 8) 0 h in let e : n / 8 * 8 ≡ n = omega arith in e

size-whole : (kind len : ℕ) → whole_items kind (if eqb kind 0 then 0 else len * item_size kind) ≡ true
size-whole kind len = go (eqb kind 0) (eqb kind 1)
  where
    go : (z o : Bool) → (if z then eqb (if z then 0 else len * (if o then 1 else 8)) 0 else eqb ((if z then 0 else len * (if o then 1 else 8)) % (if o then 1 else 8)) 0) ≡ true
    go true o = refl
    go false true = let e : len * 1 % 1 ≡ 0 = omega arith in rw e
    go false false = let e : len * 8 % 8 ≡ 0 = omega arith in rw e

-- ---- a slot as an entry

module _ (area : List ℕ) (s : Slot) (fits : slot_writable (length area) s ≡ true) where
  pub slot-kind : s.kind ≤ max_kind
  slot-kind = go (eqb s.kind 0) refl fits
    where
      go : (z : Bool) → eqb s.kind 0 ≡ z → (z || (leb s.kind max_kind && leb (value_end s) (length area))) ≡ true → s.kind ≤ max_kind
      go true e h = let none : s.kind ≡ 0 = eqb-true s.kind 0 e in omega arith
      go false e h = leb-true s.kind max_kind (and-true (leb s.kind max_kind) (leb (value_end s) (length area)) h).0

  -- a value that is there lies inside the area
  pub slot-inside : eqb s.kind 0 ≡ false → s.start + s.len * item_size s.kind ≤ length area
  slot-inside e = leb-true _ (length area) (and-true (leb s.kind max_kind) (leb (value_end s) (length area)) (rw e at fits)).1

  pub length-value : length (entry_of area s).value ≡ value_size s
  unfolding entry_of
  length-value = go (eqb s.kind 0) slot-inside
    where
      go : (z : Bool) → (z ≡ false → s.start + s.len * item_size s.kind ≤ length area)
          → length (part area s.start (if z then 0 else s.len * item_size s.kind)) ≡ (if z then 0 else s.len * item_size s.kind)
      go true h = refl
      go false h = length_part (s.len * item_size s.kind) s.start area (h refl)

  pub slot-sound : Sound (entry_of area s)
  unfolding entry_of
  slot-sound = record { kind = slot-kind; whole = rw length-value (size-whole s.kind s.len) }

pub slots-sound : (area : List ℕ) (i : ℕ) (ts : List Slot) → slots_writable area i ts ≡ ok tt → AllSound (entries_of area ts)
unfolding slots_writable entries_of
slots-sound area i [] h = tt
slots-sound area i (t ∷ ts) h =
    let d = demanded (slot_writable (length area) t) BadSlot i (λ _. slots_writable area (suc i) ts) tt h in
    (slot-sound area t d.0, slots-sound area (suc i) ts d.1)

-- ---- what an entry shows

-- the first integers need no more than their own bytes
pieces-take : (k n : ℕ) (l : List ℕ) → pieces k n (take (n * k) l) ≡ pieces k n l
unfolding pieces
pieces-take k zero l = refl
pieces-take k (suc n) l =
    let size : suc n * k ≡ k + n * k = rw suc-mul (omega arith) in
    let left : k + n * k - k ≡ n * k = omega arith in
    rw size
    (ap₂ (λ (a : List ℕ) (r : List (List ℕ)). a ∷ r) (take-take k (k + n * k) l (omega arith)) (rw (drop-take k (k + n * k) l, left) (pieces-take k n (drop k l))))

-- the value in an entry
value_in : Entry → Value
value_in e = record { kind = e.kind; items = if eqb e.kind 1 then e.value else integers_in (length e.value / 8) e.value }

seen_entry : (area : List ℕ) (s : Slot) → slot_writable (length area) s ≡ true → seen area s ≡ value_in (entry_of area s)
unfolding seen shown value_in entry_of big_endian_in pieces
seen_entry area s fits = go (eqb s.kind 0) (eqb s.kind 1) refl refl (slot-inside area s fits)
  where
    bs : List ℕ
    bs = drop s.start area

    go : (z o : Bool) → eqb s.kind 0 ≡ z → eqb s.kind 1 ≡ o → (z ≡ false → s.start + s.len * (if o then 1 else 8) ≤ length area)
        → ◌≡◌ {A = Value} (if z then record { kind = 0; items = [] } else record { kind = s.kind; items = if o then take s.len bs else integers_in s.len bs })
        (record {
          kind = s.kind;
          items =
              if o then take (if z then 0 else s.len * (if o then 1 else 8)) bs else integers_in
              (length (take (if z then 0 else s.len * (if o then 1 else 8)) bs) / 8)
              (take (if z then 0 else s.len * (if o then 1 else 8)) bs);
        })
    go true true e f h = let a : s.kind ≡ 0 = eqb-true s.kind 0 e in let b : s.kind ≡ 1 = eqb-true s.kind 1 f in absurd (omega arith)
    go true false e f h = let a : s.kind ≡ 0 = eqb-true s.kind 0 e in rw a
    go false true e f h = rw mul-one
    go false false e f h =
        let long : length (take (s.len * 8) bs) ≡ s.len * 8 = length_part (s.len * 8) s.start area (h refl) in
        let count : s.len * 8 / 8 ≡ s.len = omega arith in
        rw (long, count, pieces-take 8 s.len bs)

-- slots that are the same entries show the same values
seen-entries : (area : List ℕ) (i : ℕ) (ts : List Slot) → slots_writable area i ts ≡ ok tt → map (seen area) ts ≡ map value_in (entries_of area ts)
unfolding slots_writable entries_of
seen-entries area i [] h = refl
seen-entries area i (t ∷ ts) h =
    let d = demanded (slot_writable (length area) t) BadSlot i (λ _. slots_writable area (suc i) ts) tt h in
    ap₂ (λ (v : Value) (vs : List Value). v ∷ vs) (seen_entry area t d.0) (seen-entries area (suc i) ts d.1)

pub same_seen : (area₁ area₂ : List ℕ) (ts₁ ts₂ : List Slot) → slots_writable area₁ 0 ts₁ ≡ ok tt → slots_writable area₂ 0 ts₂ ≡ ok tt
    → entries_of area₁ ts₁ ≡ entries_of area₂ ts₂ → map (seen area₁) ts₁ ≡ map (seen area₂) ts₂
same_seen area₁ area₂ ts₁ ts₂ h k e = seen-entries area₁ 0 ts₁ h ∙ ap (map value_in) e ∙ sym (seen-entries area₂ 0 ts₂ k)

-- ---- entries put into a table

pub length-slot-numbers : (start : ℕ) (es : List Entry) → length (entries_numbers start es) ≡ slot_width * length es
unfolding entries_numbers
length-slot-numbers start [] = refl
length-slot-numbers start (e ∷ es) = omega (arith, length-slot-numbers (start + length e.value) es)

-- the slot that an entry becomes
slot_for : ℕ → Entry → Slot
slot_for start e = record { kind = e.kind; start = if eqb e.kind 0 then 0 else start; len = length e.value / item_size e.kind; position = no_position }

no_bytes : (bs : List ℕ) → length bs ≡ 0 → [] ≡ bs
no_bytes [] h = refl
no_bytes (b ∷ bs) h = absurd (omega arith)

module _ (start : ℕ) (e : Entry) (sound : Sound e) where
  slot-size : value_size (slot_for start e) ≡ length e.value
  unfolding slot_for
  slot-size = whole-size e.kind (length e.value) sound.whole

  put-entry : (area rest : List ℕ) → drop start area ≡ e.value ++ rest → entry_of area (slot_for start e) ≡ e
  unfolding slot_for entry_of
  put-entry area rest h = rw slot-size (ap (λ (v : List ℕ). record { kind = e.kind; value = v }) (go (eqb e.kind 0) sound.whole))
    where
      go : (z : Bool) → (if z then eqb (length e.value) 0 else eqb (length e.value % item_size e.kind) 0) ≡ true → part area (if z then 0 else start) (length e.value) ≡ e.value
      go true k = let z : length e.value ≡ 0 = eqb-true (length e.value) 0 k in rw z (no_bytes e.value z)
      go false k = rw h (take_at e.value rest (length e.value) refl)

  put_fit : (area : List ℕ) → start + length e.value ≤ length area → slot_writable (length area) (slot_for start e) ≡ true
  unfolding slot_for
  put_fit area h = go (eqb e.kind 0) slot-size
    where
      go : (z : Bool) → (if z then 0 else length e.value / item_size e.kind * item_size e.kind) ≡ length e.value
          → (z || (leb e.kind max_kind && leb ((if z then 0 else start) + length e.value / item_size e.kind * item_size e.kind) (length area))) ≡ true
      go true k = refl
      go false k = rw (k, le-leb e.kind max_kind sound.kind, le-leb (start + length e.value) (length area) h)

pub entries-put : (area rest : List ℕ) (start : ℕ) (es : List Entry) → AllSound es → drop start area ≡ entry_values es ++ rest → entries_of area (slots_of (entries_numbers start es)) ≡ es
unfolding entries_of slots_of entries_numbers entry_values join slot_for
entries-put area rest start [] s h = refl
entries-put area rest start (e ∷ es) s h =
    let tail : List ℕ = entry_values es ++ rest in
    let here : drop start area ≡ e.value ++ tail = h ∙ append_assoc e.value (entry_values es) rest in
    let later : drop (start + length e.value) area ≡ tail = sym (drop-drop (length e.value) start area) ∙ ap (drop (length e.value)) here ∙ drop_at e.value tail (length e.value) refl in
    ap₂ (λ (x : Entry) (xs : List Entry). x ∷ xs) (put-entry start e s.0 area tail here) (entries-put area rest (start + length e.value) es s.1 later)

pub put-fits : (area : List ℕ) (start i : ℕ) (es : List Entry) → AllSound es → start + length (entry_values es) ≤ length area → slots_writable area i (slots_of (entries_numbers start es)) ≡ ok tt
unfolding slots_writable slots_of entries_numbers entry_values join slot_for
put-fits area start i [] s h = refl
put-fits area start i (e ∷ es) s h =
    let sum : length (e.value ++ entry_values es) ≡ length e.value + length (entry_values es) = length-append e.value (entry_values es) in
    rw (put_fit start e s.0 area (omega (arith, h))) (put-fits area (start + length e.value) (suc i) es s.1 (omega (arith, h)))

-- ---- runs one after the other

-- two runs stored side by side are one, wherever the second is said to start
pub store-next : (d : List ℕ) (at : ℕ) (s t : List ℕ) (to : ℕ) → to ≡ at + length s → at + length s + length t ≤ length d → store_at (store_at d at s) to t ≡ store_at d at (s ++ t)
store-next d at s t to e h = rw e (store-store d at s t h)

pub values-append : (es fs : List Entry) → entry_values (es ++ fs) ≡ entry_values es ++ entry_values fs
unfolding entry_values join
values-append [] fs = refl
values-append (d ∷ es) fs = ap (λ (r : List ℕ). d.value ++ r) (values-append es fs) ∙ sym (append_assoc d.value (entry_values es) (entry_values fs))

-- the entries so far take no more than all of them
pub front-few : (es fs all : List Entry) → es ++ fs ≡ all → (length es ≤ length all) × (length (entry_values es) ≤ length (entry_values all))
front-few es fs all e =
    let l : length es + length fs ≡ length all = sym (length-append es fs) ∙ ap length e in
    let b : length (entry_values es) + length (entry_values fs) ≡ length (entry_values all) =
    sym (length-append (entry_values es) (entry_values fs)) ∙ ap length (sym (values-append es fs)) ∙ ap (λ (x : List Entry). length (entry_values x)) e in
    (omega arith, omega arith)
