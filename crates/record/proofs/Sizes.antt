-- What the tests of the sizes say, whose failure is refused with 1: each limit holds, or one is passed.
use Prim.Native.Nat.{ℕ, ◌*◌, ◌%◌, ◌≤◌, ◌<◌}
use mathlib.Core.Path.{◌≡◌, refl}
use mathlib.Core.Bool.{Bool, true, false, ◌&&◌}
use lib.Dec.{eqb, leb}
use borrow.Author.Tests.{eq-eqb, eqb-true, le-leb, leb-true, lt-leb}
use Rattle.layout.specs.Layout.{max_layout}
use Rattle.record.specs.Table.{slot_width, max_slots, max_record, max_area}
use Rattle.record.specs.Geometry.{record_fits, table_fits, lengths_fit}
use Rattle.record.proofs.Bytes.{and-true}

pub record TableSized (slots area : ℕ) : Type 0 where
  pub table : slots ≤ slot_width * max_slots
  pub rows : slots % slot_width ≡ 0
  pub limit : area ≤ max_area

pub record Sized (layout slots bytes area : ℕ) : Type 0 where
  pub text : layout ≤ max_layout
  pub whole : bytes ≤ max_record
  pub lent : TableSized slots area

pub table-sized : {slots area : ℕ} → table_fits slots area ≡ true → TableSized slots area
table-sized {slots} {area} h =
    let (first, last) = and-true (leb slots (slot_width * max_slots) && eqb (slots % slot_width) 0) (leb area max_area) h in
    let (few, rows) = and-true (leb slots (slot_width * max_slots)) (eqb (slots % slot_width) 0) first in
    record { table = leb-true slots (slot_width * max_slots) few; rows = eqb-true (slots % slot_width) 0 rows; limit = leb-true area max_area last }

pub sized : {layout slots bytes area : ℕ} → lengths_fit layout slots bytes area ≡ true → Sized layout slots bytes area
sized {layout} {slots} {bytes} {area} h =
    let (fits, lent) = and-true (record_fits layout bytes) (table_fits slots area) h in
    let (text, whole) = and-true (leb layout max_layout) (leb bytes max_record) fits in
    record { text = leb-true layout max_layout text; whole = leb-true bytes max_record whole; lent = table-sized lent }

pub sized-fits : {layout slots bytes area : ℕ} → Sized layout slots bytes area → lengths_fit layout slots bytes area ≡ true
sized-fits {layout} {slots} {bytes} {area} h =
    rw (
      le-leb layout max_layout h.text,
      le-leb bytes max_record h.whole,
      le-leb slots (slot_width * max_slots) h.lent.table,
      eq-eqb (slots % slot_width) 0 h.lent.rows,
      le-leb area max_area h.lent.limit,
    )

and-false : (t : Bool) → (t && false) ≡ false
and-false true = refl
and-false false = refl

-- more slots than a call may be lent
pub too_many : (layout slots bytes area : ℕ) → slot_width * max_slots < slots → lengths_fit layout slots bytes area ≡ false
too_many layout slots bytes area many = rw (lt-leb slots (slot_width * max_slots) many) (and-false (record_fits layout bytes))
