-- A writing followed by a reading: the sheet lies in the buffer, and the claim of the two calls.
use Prim.Native.Nat.{ℕ, ◌≤◌}
use native.Mathlib.Omega.{arith}
use mathlib.Core.Path.{◌≡◌, sym, ap, subst}
use mathlib.Core.List.{List}
use lib.ListN.{length, take, length-append}
use borrow.Author.Tests.{eq-eqb, ne_eqb}
use Rattle.layout.specs.Refusals.{Result, ok, refused}
use Rattle.layout.proofs.Laws.{no-number-zero}
use Rattle.record.specs.declared.Answer.{Answer}
use Rattle.record.specs.Packing.{Packed, pack_effect}
use Rattle.sheet.specs.Sheet.{writes_sheet, write_sheet, read_sheet}
use Rattle.sheet.specs.Claims.{Stored, KeepsValues, Kept, then_read_sheet, read_part, kept}
use Rattle.sheet.proofs.Claims.{table_kept}

effect-room : (output : List ℕ) (r : Result (List ℕ)) → (pack_effect output r).answer.number ≡ 0 → (pack_effect output r).answer.first ≤ length (pack_effect output r).output
effect-room output (ok bs) e = rw length-append (omega arith)
effect-room output (refused why place) e = no-number-zero why e

module _ (slots area buffer table values : List ℕ) (mark : ℕ) where
  abbrev both : Kept
  both = kept slots area buffer table values mark

  module _ (a : Answer) (out : List ℕ) (called : record { answer = a; output = out } ≡ write_sheet slots area buffer) where
    -- an accepted sheet lies in the buffer
    pub sheet-room : a.number ≡ 0 → a.first ≤ length out
    unfolding write_sheet
    sheet-room = subst (λ (p : Packed). p.answer.number ≡ 0 → p.answer.first ≤ length p.output) (sym called) (effect-room buffer (writes_sheet slots area buffer))

    pub then-refused : (a.number ≡ 0 → ⊥) → record { answer = a; buffer = out; slots = table; area = values } ≡ both
    unfolding kept
    then-refused h = rw (← called, ne_eqb a.number 0 h)

    pub then-read : a.number ≡ 0 → (r : Answer) (table' values' : List ℕ) → record { answer = r; slots = table'; area = values' } ≡ read_sheet (take a.first out) table values mark
        → record { answer = r; buffer = out; slots = table'; area = values' } ≡ both
    unfolding kept
    then-read h r table' values' e = rw (← called, eq-eqb a.number 0 h) (ap (then_read_sheet (record { answer = a; output = out })) e)

  both-keep : Stored slots area buffer table values mark → KeepsValues slots area table values mark (read_part both)
  unfolding kept
  both-keep s = rw (eq-eqb (write_sheet slots area buffer).answer.number 0 s.writing) (table_kept slots area buffer table values mark s)

  -- so the effect of the calls has both parts of the promise
  pub promised : (k : Kept) → k ≡ both → (k ≡ both) × (Stored slots area buffer table values mark → KeepsValues slots area table values mark (read_part k))
  promised k e = (e, λ s. subst (λ (x : Kept). KeepsValues slots area table values mark (read_part x)) (sym e) (both-keep s))
