-- A rescue looks at the number of the slots that it is lent, and not at what they hold: it sets one for each leg, and
-- the others stay.
use Rattle.std.specs.Prelude.{if◌then◌else◌}
use Prim.Native.Nat.{ℕ, ◌*◌, ◌≤◌}
use native.Mathlib.Omega.{arith}
use mathlib.Core.Path.{◌≡◌, refl, sym, ap, ◌∙◌}
use mathlib.Core.List.{List}
use borrow.Author.Tests.{ne_eqb}
use lib.Dec.{eqb}
use lib.ListN.{length, take, length-take}
use Rattle.layout.specs.Refusals.{Result, ok, refused, number_of}
use Rattle.layout.proofs.Laws.{no-number-zero}
use Rattle.record.specs.Bytes.{store_at}
use Rattle.record.specs.Table.{slot_width}
use Rattle.record.proofs.Tables.{length-slots}
use Rattle.sheet.specs.Entries.{Entry}
use Rattle.sheet.specs.Sheet.{width_in, put_entries}
use Rattle.sheet.proofs.Unset.{set-over}
use Rattle.rescue.specs.declared.fill.Rescued.{Rescued}
use Rattle.rescue.specs.Rescue.{kept_in, filled_up, Outcome, keeping, rescues, rescue_effect, rescue}
use Rattle.rescue.proofs.fill.Calls.{rescue-put, rescued-it}
use Rattle.rescue.proofs.fill.Filled.{length-filled}

-- what a rescue leaves, over the slots ys: those of the legs, and the others of ys
abbrev pub over : ℕ → List ℕ → Outcome → Outcome
over legs ys o =
    record {
      answer = o.answer;
      slots = if eqb o.answer.number 0 then store_at ys 0 (take (legs * slot_width) o.slots) else ys;
      area = o.area;
    }

module _ (sheet : List ℕ) (legs : ℕ) (area : List ℕ) (mark : ℕ) (xs : List ℕ) where
  -- no more is kept than there are legs
  kept-few : (es : List Entry) → rescues sheet legs xs area mark ≡ ok es → length es ≤ legs
  unfolding rescue kept_in
  kept-few es e =
      let is : rescue sheet legs xs area mark ≡ keeping sheet legs xs area mark es = ap (rescue_effect sheet legs xs area mark) e in
      let got = rescued-it sheet legs xs area mark (ap (λ (o : Outcome). o.answer.number) is) in
      let done = rescue-put sheet legs xs area mark got.sizes got.versions got.rows got.room in
      let count : length (kept_in (width_in sheet) legs sheet) ≡ length es = ap (λ (o : Outcome). o.answer.first) (done ∙ is) in
      rw (← count, length-take) (omega arith)

  module _ (ys : List ℕ) where
    keeping-over : (es : List Entry) → length es ≤ legs → keeping sheet legs ys area mark es ≡ over legs ys (keeping sheet legs xs area mark es)
    unfolding put_entries
    keeping-over es few =
        let put : List ℕ = (put_entries xs area mark (filled_up legs es)).slots in
        let set : (put_entries ys area mark (filled_up legs es)).slots ≡ store_at ys 0 (take (legs * slot_width) put) =
        set-over xs ys area mark (filled_up legs es) ∙ ap (λ (n : ℕ). store_at ys 0 (take (n * slot_width) put)) (length-filled legs es few) in
        ap (λ (s : List ℕ). record { answer = (keeping sheet legs ys area mark es).answer; slots = s; area = (keeping sheet legs ys area mark es).area }) set

    effect-over : (r : Result (List Entry)) → ((es : List Entry) → r ≡ ok es → length es ≤ legs) → rescue_effect sheet legs ys area mark r ≡ over legs ys (rescue_effect sheet legs xs area mark r)
    effect-over (ok es) few = keeping-over es (few es refl)
    effect-over (refused why place) few = rw (ne_eqb (number_of why) 0 (λ z. no-number-zero why z))

    -- any slots will do in the place of ys, if they are as many
    pub rescue-over : length xs ≡ length ys → rescue sheet legs ys area mark ≡ over legs ys (rescue sheet legs xs area mark)
    unfolding rescue rescues
    rescue-over same =
        let as_many : rescues sheet legs ys area mark ≡ rescues sheet legs xs area mark = rw (length-slots ys, length-slots xs, same) in
        rw as_many (effect-over (rescues sheet legs xs area mark) kept-few)

  -- what a call left has room for the slots that it set
  pub legs-there : {a : Rescued} {xs' area' : List ℕ} → record { answer = a; slots = xs'; area = area' } ≡ rescue sheet
      legs xs area mark → a.number ≡ 0 → length xs' ≡ length xs → legs * slot_width ≤ length xs'
  legs-there {a} p z e =
      let same : (rescue sheet legs xs area mark).answer ≡ a = ap (λ (o : Outcome). o.answer) (sym p) in
      let got = rescued-it sheet legs xs area mark (rw same z) in
      omega (arith, got.rows, length-slots xs)
