-- What the sizes of the lent runs decide, and what the guard of a call lets through.
use Rattle.std.specs.Prelude.{if◌then◌else◌}
use Prim.Native.Nat.{ℕ, ◌*◌, ◌/◌, ◌%◌, ◌≤◌, ◌<◌}
use native.Mathlib.Omega.{arith}
use mathlib.Core.Path.{◌≡◌, refl}
use mathlib.Core.Bool.{Bool, true, false, ◌&&◌}
use mathlib.Core.List.{List}
use borrow.Author.Tests.{le-leb, leb-true, eq-eqb, eqb-true}
use lib.Dec.{eqb, leb}
use lib.ListN.{length, take}
use lib.Seq.{length-take-le}
use Rattle.record.proofs.Bytes.{and-true}
use Rattle.record.specs.Table.{max_slots, slot_width}
use Rattle.record.proofs.Fields.{split}
use Rattle.host.specs.Numbers.{number_size, numbers_in}
use Rattle.host.proofs.numbers.NumberLaws.{length-numbers_in}
use Rattle.host.specs.Host.{slot_size, guarded}
use Rattle.host.specs.inside.Small.{slot_bytes_fit}

-- ---- the sizes of the runs

pub and-false : (a : Bool) → a && false ≡ false
and-false true = refl
and-false false = refl

-- slot bytes that are served
pub record Fit (size : ℕ) : Type 0 where
  pub few : size ≤ slot_size * max_slots
  pub whole : size % slot_size ≡ 0

pub fit : (size : ℕ) → slot_bytes_fit size ≡ true → Fit size
fit size h =
    let (few, whole) = and-true (leb size (slot_size * max_slots)) (eqb (size % slot_size) 0) h in
    record { few = leb-true size (slot_size * max_slots) few; whole = eqb-true (size % slot_size) 0 whole }

-- the numbers of such a run fill the part of a longer one that is lent for them
pub room_for : {size : ℕ} (room : List ℕ) → Fit size → size / number_size ≤ length room → size ≡ length (take (size / number_size) room) * number_size
room_for {size} room f h = rw (length-take-le (size / number_size) room h) (omega (arith, f.whole))

-- and they are those of whole slots
pub room_whole : {size : ℕ} (room : List ℕ) → Fit size → size / number_size ≤ length room → length (take (size / number_size) room) % slot_width ≡ 0
room_whole {size} room f h = rw (length-take-le (size / number_size) room h) (omega (arith, f.whole))

-- whole slots that are not served are too many
pub too_many : (size : ℕ) → slot_bytes_fit size ≡ false → eqb (size % slot_size) 0 ≡ true → slot_width * max_slots < size / number_size
too_many size bad whole =
    split size (slot_size * max_slots)
    (λ few. let no_way : true ≡ false = rw (le-leb size (slot_size * max_slots) few, whole) at bad in
    let z : ◌≡◌ {A = ℕ} 0 1 = cc in
    absurd (omega arith))
    (λ over. omega (arith, eqb-true (size % slot_size) 0 whole))

-- ---- what the calls share

otherwise : {A : Type 0} (b : Bool) {refused served : A} → (b ≡ true → refused ≡ served) → refused ≡ (if b then served else refused)
otherwise true e = e refl
otherwise false e = refl

module _ {A : Type 0} (size : ℕ) (reply slots : List ℕ) (unwritten refused served : A) where
  pub guarded-unwritten : eqb (length reply) size ≡ false → unwritten ≡ guarded size reply slots unwritten refused served
  guarded-unwritten h = rw h

  module _ (sized : eqb (length reply) size ≡ true) where
    pub guarded-refused : slot_bytes_fit (length slots) ≡ false → (slot_width * max_slots < length (numbers_in slots) → refused ≡ served) → refused ≡ guarded size reply slots unwritten refused served
    guarded-refused bad many =
        rw sized
        (otherwise (eqb (length slots % slot_size) 0) (λ whole. many (rw length-numbers_in (too_many (length slots) bad whole))))

    pub guarded-served : Fit (length slots) → served ≡ guarded size reply slots unwritten refused served
    guarded-served f = rw (sized, eq-eqb (length slots % slot_size) 0 f.whole)
