-- A reading looks at the number of the slots that it is lent, and not at what they hold: it sets the first of them, and
-- the others stay.
use Prim.Native.Nat.{ℕ, ◌*◌, ◌≤◌}
use native.Mathlib.Nat.{zero-add, mul_comm}
use native.Mathlib.Omega.{arith}
use mathlib.Core.Path.{◌≡◌, sym, ap, ◌∙◌}
use mathlib.Core.List.{List, ◌++◌}
use lib.ListN.{length, take, drop}
use lib.Seq.{take_at}
use borrow.Author.Tests.{ne_eqb}
use Rattle.layout.specs.Refusals.{Result, ok, refused, number_of}
use Rattle.layout.proofs.Laws.{no-number-zero}
use Rattle.record.specs.declared.Answer.{Answer}
use Rattle.record.specs.Bytes.{store_at}
use Rattle.record.specs.Table.{slot_width}
use Rattle.record.specs.Reading.{Read}
use Rattle.record.proofs.Tables.{length-slots}
use Rattle.record.proofs.Readings.{over}
use Rattle.sheet.specs.Entries.{Entry}
use Rattle.sheet.specs.Sheet.{width_in, entries_numbers, put_entries, sheet_read_effect, reads_sheet, read_sheet, entries_at}
use Rattle.sheet.proofs.Tables.{length-slot-numbers}
use Rattle.sheet.proofs.Calls.{ReadIt, read-it, read-put}

module _ (xs ys area : List ℕ) (mark : ℕ) where
  pub set-over : (es : List Entry) → entries_numbers mark es ++ drop (slot_width * length es) ys ≡ store_at ys 0 (take (length es * slot_width) (entries_numbers mark es ++ drop (slot_width * length es) xs))
  set-over es =
      let long : length (entries_numbers mark es) ≡ length es * slot_width = length-slot-numbers mark es ∙ mul_comm slot_width (length es) in
      rw (take_at (entries_numbers mark es) (drop (slot_width * length es) xs) (length es * slot_width) long, zero-add, length-slot-numbers mark es)

  effect-over : (r : Result (List Entry)) → sheet_read_effect ys area mark r ≡ over ys (sheet_read_effect xs area mark r)
  unfolding put_entries
  effect-over (ok es) = ap (λ (s : List ℕ). record { answer = (put_entries ys area mark es).answer; slots = s; area = (put_entries ys area mark es).area }) (set-over es)
  effect-over (refused why place) = rw (ne_eqb (number_of why) 0 (λ z. no-number-zero why z))

module _ (sheet area : List ℕ) (mark : ℕ) (xs : List ℕ) where
  -- any slots will do in the place of ys, if they are as many
  pub read-over : (ys : List ℕ) → length xs ≡ length ys → read_sheet sheet ys area mark ≡ over ys (read_sheet sheet xs area mark)
  unfolding read_sheet reads_sheet
  read-over ys same =
      let as_many : reads_sheet sheet ys area mark ≡ reads_sheet sheet xs area mark = rw (length-slots ys, length-slots xs, same) in
      rw as_many (effect-over xs ys area mark (reads_sheet sheet xs area mark))

  -- what a call left has room for the slots that it set
  pub set-few : {a : Answer} {xs' area' : List ℕ} → record { answer = a; slots = xs'; area = area' } ≡ read_sheet sheet
      xs area mark → a.number ≡ 0 → length xs' ≡ length xs → a.first * slot_width ≤ length xs'
  unfolding put_entries
  set-few {a} p z e =
      let same : (read_sheet sheet xs area mark).answer ≡ a = ap (λ (r : Read). r.answer) (sym p) in
      let got : ReadIt sheet xs area mark = read-it sheet xs area mark (rw same z) in
      let is : read_sheet sheet xs area mark ≡ put_entries xs area mark (entries_at (width_in sheet) sheet) = sym
      (read-put sheet xs area mark got.opened got.whole got.needed got.rows got.room) in
      let first : a.first ≡ length (entries_at (width_in sheet) sheet) = ap (λ (r : Read). r.answer.first) (p ∙ is) in
      omega (arith, got.rows, length-slots xs)
