-- What a caller may rely on that lends slots and report in another form and writes back what a call left: which slots
-- stay, and that the report's length counts only up to the findings that there can be. An accepted call sets no slot
-- past those of its fields, of which there are no more than slots.
use Rattle.std.specs.Prelude.{if◌then◌else◌}
use Prim.Native.Nat.{ℕ, ◌+◌, ◌-◌, ◌*◌, ◌≤◌, min}
use native.Mathlib.Omega.{arith}
use mathlib.Core.Path.{◌≡◌, refl, sym, ap, ◌∙◌, subst}
use mathlib.Core.Bool.{false}
use mathlib.Core.List.{List, ◌++◌, map}
use borrow.Author.Tests.{le-leb, lt-leb, leb-true, ne_eqb}
use lib.Dec.{eqb, leb}
use lib.ListN.{length, take, drop, length-append, length-drop}
use lib.Seq.{take_at, drop-drop, drop-append-add}
use Rattle.layout.specs.declared.Field.{Field}
use Rattle.layout.specs.Layout.{fields_of, slot_count}
use Rattle.layout.specs.Refusals.{number_of, Result, ok, refused}
use Rattle.layout.proofs.Laws.{no-number-zero}
use Rattle.record.specs.Table.{slot_width, max_slots, Value, area_bytes, slot_numbers}
use Rattle.record.specs.Reading.{reads, put_into}
use Rattle.record.proofs.Readings.{values-few, length-slot-numbers}
use Rattle.record.proofs.Fields.{split}
use Rattle.compare.specs.Difference.{report_width}
use Rattle.compare.specs.Report.{findings}
use Rattle.compare.specs.Comparing.{Shown, compares, compare_effect, Compared, compare}
use Rattle.compare.proofs.report.Findings.{length-findings}
use Rattle.compare.proofs.Calls.{accepted-reads, accepted-call, left}

-- a table after a call: as long as before, and the slots from number n on as lent
pub record Kept (n : ℕ) (before after : List ℕ) : Type 0 where
  pub lent : slot_width * n ≤ length before
  pub long : length after ≡ length before
  pub rest : drop (slot_width * n) after ≡ drop (slot_width * n) before

put-kept : (slots area at : List ℕ) (vs : List Value) (n : ℕ) → length vs ≤ n → slot_width * n ≤ length slots → Kept n slots (put_into slots area 0 at vs).slots
unfolding put_into
put-kept slots area at vs n few lent =
    let front : List ℕ = slot_numbers 0 at vs in
    let m : ℕ = slot_width * length vs in
    let l : length front ≡ m = length-slot-numbers 0 at vs in
    let r : length (drop m slots) ≡ length slots - m = length-drop m slots in
    record {
      lent = lent;
      long = length-append front (drop m slots) ∙ omega arith;
      rest =
          let past : ℕ = slot_width * n - m in
          let e : slot_width * n ≡ length front + past = omega arith in
          let f : m + past ≡ slot_width * n = omega arith in
          ap (λ (k : ℕ). drop k (front ++ drop m slots)) e ∙ drop-append-add front (drop m slots) past ∙ drop-drop past m slots ∙ ap (λ (k : ℕ). drop k slots) f;
    }

reads_kept : (layout bs slots area at : List ℕ) (vs : List Value) (fs : List Field) → reads layout bs slots area 0 ≡ ok vs → fields_of false layout ≡ ok fs
    → Kept (slot_count fs) slots (put_into slots area 0 at vs).slots
reads_kept layout bs slots area at vs fs e f =
    let r = accepted-reads layout bs slots area vs e in
    let same : r.fs ≡ fs = cc r.fields in
    let few : length vs ≤ slot_count r.fs = subst (λ (ws : List Value). length ws ≤ slot_count r.fs) r.shown (values-few bs 0 r.fs) in
    subst (λ (gs : List Field). Kept (slot_count gs) slots (put_into slots area 0 at vs).slots) same (put-kept slots area at vs (slot_count r.fs) few r.lent)

-- what an accepted call leaves
pub record Settled (slots slots' report : List ℕ) (c : Compared) : Type 0 where
  pub first : Kept c.answer.first slots c.first_slots
  pub second : Kept c.answer.first slots' c.second_slots
  pub findings : report_width * c.answer.first ≤ length report
  pub long : length c.report ≡ length report

module _ (layout first second slots area slots' area' report : List ℕ) where
  pub settled : (compare layout first second slots area slots' area' report).answer.number ≡ 0 → Settled slots slots' report (compare layout first second slots area slots' area' report)
  unfolding compare_effect
  settled z =
      let a = accepted-call layout first second slots area slots' area' report z in
      let n : ℕ = slot_count a.fs in
      let xs : List (List ℕ) = map area_bytes a.vs in
      let ys : List (List ℕ) = map area_bytes a.ws in
      let room : report_width * n ≤ length report = leb-true (report_width * n) (length report) a.fits in
      rw (left layout first second slots area slots' area' report a)
      (record {
        first = reads_kept layout first slots area _ a.vs a.fs a.one a.fields;
        second = reads_kept layout second slots' area' _ a.ws a.fs a.two a.fields;
        findings = room;
        long = length-append (findings n xs ys) (drop (report_width * n) report) ∙ rw (length-findings n xs ys, length-drop) (omega arith);
      })

-- ---- a report of another length

-- what a call left, over the report R: the findings that it wrote, and the rest of R
abbrev pub report_over : List ℕ → Compared → Compared
report_over R c =
    record {
      answer = c.answer;
      first_slots = c.first_slots;
      first_area = c.first_area;
      second_slots = c.second_slots;
      second_area = c.second_area;
      report = if eqb c.answer.number 0 then take (report_width * c.answer.first) c.report ++ drop (report_width * c.answer.first) R else R;
    }

effect-over : (slots area slots' area' R S : List ℕ) (o : Result Shown) → compare_effect slots area slots' area' R o ≡ report_over R (compare_effect slots area slots' area' S o)
unfolding compare_effect
effect-over slots area slots' area' R S (ok s) =
    let xs : List (List ℕ) = map area_bytes s.first in
    let ys : List (List ℕ) = map area_bytes s.second in
    let n : ℕ = s.fields in
    rw (take_at (findings n xs ys) (drop (report_width * n) S) (report_width * n) (length-findings n xs ys))
effect-over slots area slots' area' R S (refused why place) = rw (ne_eqb (number_of why) 0 (λ z. no-number-zero why z))

module _ (layout first second slots area slots' area' R S : List ℕ) (short : length S ≡ min (length R) (report_width * max_slots)) where
  same-room : (n : ℕ) → n ≤ max_slots → leb (report_width * n) (length R) ≡ leb (report_width * n) (length S)
  same-room n few =
      split (report_width * n) (length R)
      (λ fits. le-leb _ _ fits ∙ sym (le-leb (report_width * n) (length S) (omega arith)))
      (λ over. lt-leb _ _ over ∙ sym (lt-leb (report_width * n) (length S) (omega arith)))

  by-second : {vs : List Value} → reads layout first slots area 0 ≡ ok vs → (o : Result (List Value)) → reads layout second slots' area' 0 ≡ o
      → compares layout first second slots area slots' area' R ≡ compares layout first second slots area slots' area' S
  unfolding compares
  by-second e (refused why place) d = rw (e, d)
  by-second e (ok ws) d =
      let q = accepted-reads layout second slots' area' ws d in
      let few : slot_count q.fs ≤ max_slots = omega (arith, q.lent, q.room.table) in
      rw (e, d, q.fields, same-room (slot_count q.fs) few)

  by_first : (o : Result (List Value)) → reads layout first slots area 0 ≡ o → compares layout first second slots area slots' area' R ≡ compares layout first second slots area slots' area' S
  unfolding compares
  by_first (refused why place) e = rw e
  by_first (ok vs) e = by-second e (reads layout second slots' area' 0) refl

  pub report-over : compare layout first second slots area slots' area' R ≡ report_over R (compare layout first second slots area slots' area' S)
  unfolding compare
  report-over = rw (by_first (reads layout first slots area 0) refl) (effect-over slots area slots' area' R S (compares layout first second slots area slots' area' S))
