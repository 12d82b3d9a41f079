-- What each way out of a call leaves is what the definition gives.
use Rattle.std.specs.Prelude.{if◌then◌else◌}
use Prim.Native.Nat.{ℕ, ◌*◌, ◌≤◌, ◌<◌}
use native.Mathlib.Omega.{arith}
use mathlib.Core.Path.{◌≡◌, refl, sym, ap, ◌∙◌}
use mathlib.Core.Bool.{Bool, true, false}
use mathlib.Core.List.{List}
use borrow.Author.Tests.{eq-eqb, ne_eqb, eqb-true, eqb-false}
use lib.Dec.{eqb}
use lib.ListN.{length, take}
use Rattle.layout.specs.declared.Field.{Field}
use Rattle.layout.specs.declared.Refusal.TheVariants.{BadSize}
use Rattle.layout.specs.Refusals.{number_of, Result}
use Rattle.layout.specs.Layout.{fields_of}
use Rattle.record.specs.declared.Answer.{Answer}
use Rattle.record.specs.declared.ReadAnswer.{ReadAnswer}
use Rattle.record.specs.Bytes.{store_at}
use Rattle.record.proofs.Bytes.{All}
use Rattle.record.specs.Table.{max_slots, slot_width}
use Rattle.record.specs.Packing.{refusal}
use Rattle.record.specs.Reading.{Read, ReadAll, left_of, read_all, read_fields}
use Rattle.record.proofs.Sizes.{too_many}
use Rattle.record.proofs.Readings.{over, fields-over, fields-steps, fields-set}
use Rattle.record.proofs.ByFields.{read-fields}
use Rattle.host.specs.Numbers.{number_size, numbers_in, numbers_bytes}
use Rattle.host.proofs.numbers.NumberLaws.{length-numbers_in}
use Rattle.host.specs.Host.{long_reply_size, long_reply, ReadCall, read_call}
use Rattle.host.specs.inside.Small.{slot_bytes_fit}
use Rattle.host.proofs.Guards.{Fit, guarded-unwritten, guarded-refused, guarded-served}
use Rattle.host.proofs.Calls as host
use Rattle.host_record.specs.Reading.{steps_call, curlew_read}
use Rattle.host_record.specs.inside.Steps.{written_back}

-- more slots than a call may be lent are refused with 1
pub fields-many : (size : ℕ) (o : Result (List Field)) (ns bytes area : List ℕ) → slot_width * max_slots < length ns → (mark : ℕ)
    → record { answer = record { answer = refusal BadSize 0; steps = 0 }; slots = ns; area = area } ≡ read_fields size o bytes ns area mark
unfolding read_fields
fields-many size o ns bytes area many mark = rw (too_many size (length ns) (length bytes) (length area) many)

-- what a refusal leaves, and an accepted reading
module _ (slots ns : List ℕ) (a : Answer) where
  pub left_back : (a.number ≡ 0 → ⊥) → slots ≡ written_back slots ns a
  unfolding written_back
  left_back h = rw (ne_eqb a.number 0 h)

  pub set_back : {slots' : List ℕ} → a.number ≡ 0 → slots' ≡ store_at slots 0 (numbers_bytes (take (a.first * slot_width) ns)) → slots' ≡ written_back slots ns a
  unfolding written_back
  set_back h s = rw (eq-eqb a.number 0 h) s

-- ---- by fields that stand in a run of `size` bytes or numbers

module _ (size : ℕ) (o : Result (List Field)) (bytes : List ℕ) where
  -- what a call left has room for the slots that it set
  pub fields-room : (area : List ℕ) (mark : ℕ) (ns : List ℕ) {ns' area' : List ℕ} {a : ReadAnswer} → record { answer = a; slots = ns'; area = area' } ≡ read_fields size o bytes ns area mark
      → length ns' ≡ length ns → a.answer.number ≡ 0 → a.answer.first * slot_width ≤ length ns'
  fields-room area mark ns p e h = fields-set size o bytes area mark ns (ap left_of p) h e

  module _ (slots area : List ℕ) (mark : ℕ) (ns : List ℕ) {ns' area' slots' reply' : List ℕ} {a : ReadAnswer} {r : ℕ} (long : length slots ≡ length ns * number_size)
      (p : record { answer = a; slots = ns'; area = area' } ≡ read_fields size o bytes ns area mark) (q : (r ≡ a.answer.number) × (reply' ≡ long_reply a.answer a.steps) × (slots' ≡ written_back slots ns' a.answer)) where
    same : length ns ≡ length (numbers_in slots)
    same = rw length-numbers_in (omega arith)

    -- the numbers lent for the slots may be any
    lent : left_of (read_fields size o bytes (numbers_in slots) area mark) ≡ over (numbers_in slots) (record { answer = a.answer; slots = ns'; area = area' })
    lent = fields-over size o bytes area mark ns (numbers_in slots) same ∙ ap (λ (x : ReadAll). over (numbers_in slots) (left_of x)) (sym p)

    steps : (read_fields size o bytes (numbers_in slots) area mark).answer.steps ≡ a.steps
    steps = fields-steps size o bytes area mark ns (numbers_in slots) same ∙ ap (λ (x : ReadAll). x.answer.steps) (sym p)

    -- and the reply has the steps after the answer
    replied : {c : ReadCall} → c ≡ read_call slots (left_of (read_fields size o bytes (numbers_in slots) area mark))
        → record { returned = c.returned; slots = c.slots; area = c.area; reply = reply' } ≡ steps_call slots (read_fields size o bytes (numbers_in slots) area mark)
    unfolding steps_call
    replied e =
        let answer : (read_fields size o bytes (numbers_in slots) area mark).answer.answer ≡ a.answer = ap (λ (x : Read). x.answer) lent in
        let reply : reply' ≡ long_reply (read_fields size o bytes (numbers_in slots) area mark).answer.answer
        (read_fields size o bytes (numbers_in slots) area mark).answer.steps = q.1 ∙ rw (answer, steps) in
        rw (reply, e)

    by_answer : (b : Bool) → eqb a.answer.number 0 ≡ b → slots' ≡ (if b then store_at slots 0 (numbers_bytes (take (a.answer.first * slot_width) ns')) else slots) → All (λ b. b < 256) slots
        → record { returned = r; slots = slots'; area = area'; reply = reply' } ≡ steps_call slots (read_fields size o bytes (numbers_in slots) area mark)
    by_answer true e s below = replied (host.read_set (q.0, refl) slots ns' lent (eqb-true a.answer.number 0 e) (omega arith) below s)
    by_answer false e s below = rw s (replied (host.read_left (q.0, refl) slots ns' lent (eqb-false a.answer.number 0 e)))

    pub fields-replied : All (λ b. b < 256) slots → record { returned = r; slots = slots'; area = area'; reply = reply' } ≡ steps_call slots (read_fields size o bytes (numbers_in slots) area mark)
    unfolding written_back
    fields-replied below = by_answer (eqb a.answer.number 0) refl q.2 below

-- ---- by a layout

pub set_room : (layout bytes area : List ℕ) (mark : ℕ) (ns : List ℕ) {ns' area' : List ℕ} {a : ReadAnswer} → record { answer = a; slots = ns'; area = area' } ≡ read_all layout bytes ns area mark
    → length ns' ≡ length ns → a.answer.number ≡ 0 → a.answer.first * slot_width ≤ length ns'
set_room layout bytes area mark ns p e h = fields-room (length layout) (fields_of false layout) bytes area mark ns (p ∙ read-fields layout bytes ns area mark) e h

module _ (layout bytes slots area : List ℕ) (mark : ℕ) where
  pub read-replied : (ns : List ℕ) {ns' area' slots' reply' : List ℕ} {a : ReadAnswer} {r : ℕ} → length slots ≡ length ns * number_size
      → record { answer = a; slots = ns'; area = area' } ≡ read_all layout bytes ns area mark
      → (r ≡ a.answer.number) × (reply' ≡ long_reply a.answer a.steps)
      × (slots' ≡ written_back slots ns' a.answer)
      → All (λ b. b < 256) slots → record { returned = r; slots = slots'; area = area'; reply = reply' } ≡ steps_call slots (read_all layout bytes (numbers_in slots) area mark)
  read-replied ns long p q below =
      fields-replied (length layout) (fields_of false layout) bytes slots area mark ns long (p ∙ read-fields layout bytes ns area mark) q below
      ∙ ap (steps_call slots) (sym (read-fields layout bytes (numbers_in slots) area mark))

  module _ (reply : List ℕ) where
    pub read-unwritten : eqb (length reply) long_reply_size ≡ false → record { returned = number_of BadSize; slots = slots; area = area; reply = reply } ≡ curlew_read layout bytes slots area mark reply
    unfolding curlew_read
    read-unwritten h = guarded-unwritten long_reply_size reply slots _ _ _ h

    module _ (sized : eqb (length reply) long_reply_size ≡ true) where
      pub read-refused : {a : Answer} {r : ℕ} {reply' : List ℕ} → slot_bytes_fit (length slots) ≡ false → a ≡ refusal BadSize 0 → (r ≡ a.number) × (reply' ≡ long_reply a 0)
          → record { returned = r; slots = slots; area = area; reply = reply' } ≡ curlew_read layout bytes slots area mark reply
      unfolding curlew_read steps_call read_call
      read-refused {a} {r} {reply'} bad e q =
          let here : record { returned = r; slots = slots; area = area; reply = reply' } ≡ steps_call slots
          (record {
            answer = record { answer = refusal BadSize 0; steps = 0 };
            slots = numbers_in slots;
            area = area;
          }) = rw (q.0, q.1, e) in
          here ∙ guarded-refused long_reply_size reply slots _ _ _ sized bad (λ many.
          ap (steps_call slots)
          (fields-many (length layout) (fields_of false layout) (numbers_in slots) bytes area many mark ∙ sym (read-fields layout bytes (numbers_in slots) area mark)))

      pub read-served : {r : ℕ} {slots' area' reply' : List ℕ} → Fit (length slots)
          → record { returned = r; slots = slots'; area = area'; reply = reply' } ≡ steps_call slots (read_all layout bytes (numbers_in slots) area mark)
          → record { returned = r; slots = slots'; area = area'; reply = reply' } ≡ curlew_read layout bytes slots area mark reply
      unfolding curlew_read
      read-served f e = e ∙ guarded-served long_reply_size reply slots _ _ _ sized f
