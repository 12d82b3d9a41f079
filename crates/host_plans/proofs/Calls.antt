-- What each way out of a call leaves is what the definition gives.
use Prim.Native.Nat.{ℕ, ◌*◌, ◌/◌, ◌≤◌, ◌<◌}
use native.Mathlib.Omega.{arith}
use mathlib.Core.Path.{◌≡◌, sym, ap, ◌∙◌}
use borrow.Author.Tests.{ne_eqb, leb-true}
use mathlib.Core.Bool.{true, false}
use mathlib.Core.List.{List}
use lib.Dec.{eqb, leb}
use lib.ListN.{length, take, length-take}
use Rattle.layout.specs.declared.Refusal.{Refusal}
use Rattle.layout.specs.declared.Refusal.TheVariants.{BadSize, BadSlots}
use Rattle.layout.specs.declared.Fields.{Fields}
use Rattle.layout.specs.declared.Refused.{Refused}
use Rattle.std.specs.declared.result.Result as Std
use Rattle.std.specs.declared.result.Result.TheVariants.{Ok, Err}
use Rattle.layout.specs.Refusals.{number_of, refused}
use Rattle.layout.specs.Layout.{max_layout}
use Rattle.layout.proofs.Laws.{no-number-zero}
use Rattle.layout.proofs.Decoded.{Learnt, parsed-fields, parsed-refused, decoded-front, learnt-front}
use Rattle.record.specs.declared.Answer.{Answer}
use Rattle.record.specs.declared.ReadAnswer.{ReadAnswer}
use Rattle.record.specs.Table.{max_slots, slot_width, max_record}
use Rattle.record.specs.Geometry.{lengths_fit}
use Rattle.record.specs.Packing.{Packed, refusal}
use Rattle.record.specs.Reading.{ReadAll}
use Rattle.record.proofs.Bytes.{All}
use Rattle.record.proofs.Sizes.{Sized, sized, too_many}
use Rattle.pack_check.specs.inside.measuring.{Prepared}
use Rattle.packer.specs.inside.passes.{finishes}
use Rattle.packer.proofs.WholeLaws as whole
use Rattle.reader.specs.inside.Sizes.{read_lent_fits}
use Rattle.reader.proofs.checking.Calls.{Fit as Lent, fit as lent, sizes-refuse-fields, fields-refuse}
use Rattle.reader.specs.inside.passes.{ReadReady, read_codes}
use Rattle.reader.proofs.passes.Whole as codes
use Rattle.host.specs.Numbers.{number_size, numbers_in}
use Rattle.host.proofs.numbers.NumberLaws.{length-numbers_in}
use Rattle.host.specs.Host.{slot_size, reply_size, long_reply_size, reply_of, long_reply, pack_call, read_call}
use Rattle.host.specs.inside.Small.{slot_bytes_fit, few_numbers}
use Rattle.host.proofs.Guards.{Fit, guarded-unwritten, guarded-refused, guarded-served}
use Rattle.host.proofs.Calls as host
use Rattle.host_record.specs.Reading.{steps_call}
use Rattle.host_record.specs.inside.Steps.{written_back}
use Rattle.host_record.proofs.read.Calls.{fields-many, fields-room, fields-replied}
use Rattle.plans.specs.Plans.{plan_fields, prepare, pack_plan, read_plan}
use Rattle.plans.proofs.Calls.{plan-inside, plan-sizes, plan-refused, plan-codes}
use Rattle.host_plans.specs.Calls.{curlew_prepare, curlew_pack_plan, curlew_read_plan}
use Rattle.host_plans.specs.inside.Steps.{PackJudged, Packable, PlanPacks, ReadJudged, PlanReady}

-- ---- a layout prepared

module _ (layout run reply : List ℕ) where
  pub prepare-unwritten : eqb (length reply) reply_size ≡ false → record { returned = number_of BadSize; plan = run; reply = reply } ≡ curlew_prepare layout run reply
  unfolding curlew_prepare
  prepare-unwritten h = rw h

  pub prepare-replied : {run' reply' : List ℕ} {a : Answer} {r : ℕ} → eqb (length reply) reply_size ≡ true
      → record { answer = a; plan = run' } ≡ prepare layout run → (r ≡ a.number) × (reply' ≡ reply_of a)
      → record { returned = r; plan = run'; reply = reply' } ≡ curlew_prepare layout run reply
  unfolding curlew_prepare
  prepare-replied h p q = rw (h, ← p, q.0, q.1)

-- ---- the numbers of the slots

pub few-numbers : {size : ℕ} → leb size (few_numbers * number_size) ≡ true → size ≤ few_numbers * number_size
few-numbers {size} h = leb-true size (few_numbers * number_size) h

-- ---- packing by a plan

-- more slots than a call may be lent are refused with 1
pack-many : (plan ns out area : List ℕ) → slot_width * max_slots < length ns → record { answer = refusal BadSize 0; output = out } ≡ pack_plan plan ns area out
unfolding pack_plan
pack-many plan ns out area many = rw (too_many (length plan) (length ns) (length out) (length area) many)

module _ (plan slots area out : List ℕ) where
  module _ (reply : List ℕ) where
    pub pack-unwritten : eqb (length reply) reply_size ≡ false → record { returned = number_of BadSize; output = out; reply = reply } ≡ curlew_pack_plan plan slots area out reply
    unfolding curlew_pack_plan
    pack-unwritten h = guarded-unwritten reply_size reply slots _ _ _ h

    module _ (sized : eqb (length reply) reply_size ≡ true) where
      pub pack-refused : {a : Answer} {r : ℕ} {reply' : List ℕ} → slot_bytes_fit (length slots) ≡ false → a ≡ refusal BadSize 0 → (r ≡ a.number) × (reply' ≡ reply_of a)
          → record { returned = r; output = out; reply = reply' } ≡ curlew_pack_plan plan slots area out reply
      unfolding curlew_pack_plan pack_call
      pack-refused {a} {r} {reply'} bad e q =
          let here : record { returned = r; output = out; reply = reply' } ≡ pack_call (record { answer = refusal BadSize 0; output = out }) = rw (q.0, q.1, e) in
          here ∙ guarded-refused reply_size reply slots _ _ _ sized bad (λ many. ap pack_call (pack-many plan (numbers_in slots) out area many))

      pub pack-served : {a : Answer} {out' reply' : List ℕ} {r : ℕ} → Fit (length slots) → record { answer = a; output = out' } ≡ pack_plan plan (numbers_in slots) area out
          → (r ≡ a.number) × (reply' ≡ reply_of a) → record { returned = r; output = out'; reply = reply' } ≡ curlew_pack_plan plan slots area out reply
      unfolding curlew_pack_plan
      pack-served f p q = host.pack-replied q p ∙ guarded-served reply_size reply slots _ _ _ sized f

      -- sizes that do not fit
      pub pack-unfit : {a : Answer} {r : ℕ} {reply' : List ℕ} → Fit (length slots) → lengths_fit (length plan) (length slots / number_size) (length out) (length area) ≡ false → a ≡ refusal BadSize 0
          → (r ≡ a.number) × (reply' ≡ reply_of a) → record { returned = r; output = out; reply = reply' } ≡ curlew_pack_plan plan slots area out reply
      pack-unfit f bad e q =
          let left : record { answer = refusal BadSize 0; output = out } ≡ pack_plan plan (numbers_in slots) area out = plan-sizes plan (numbers_in slots) area out (rw length-numbers_in bad) in
          pack-served f (rw e left) q

-- once the plan is judged
module _ {p : Std.Result Fields Refused} {plan slots area out : List ℕ} (j : PackJudged p plan slots area out) where
  fine : lengths_fit (length plan) (length (numbers_in slots)) (length out) (length area) ≡ true
  fine = rw length-numbers_in j.fine

  limits : Sized (length plan) (length (numbers_in slots)) (length out) (length area)
  limits = sized fine

  pub all-numbers : length slots ≤ slot_width * max_slots * number_size
  all-numbers = omega (arith, limits.lent.table, length-numbers_in slots, j.whole)

  pub pack-place : {e : Refused} → p ≡ Err e → e.place < max_layout
  pack-place h = omega (arith, limits.text, plan-inside true plan _ _ (parsed-refused (plan_fields true plan) p _ plan j.parsed h))

  pub pack-bad : {e : Refused} {a : Answer} → p ≡ Err e → a ≡ refusal e.why e.place → record { answer = a; output = out } ≡ pack_plan plan (numbers_in slots) area out
  unfolding pack_plan
  pack-bad h q =
      rw q
      (whole.pack-refused (length plan) (plan_fields true plan) (numbers_in slots) area out fine _ _ (parsed-refused (plan_fields true plan) p _ plan j.parsed h))

  module _ {f : Fields} (e : p ≡ Ok f) where
    learnt : Learnt (plan_fields true plan) f.count f.slots plan
    learnt = parsed-fields (plan_fields true plan) p f plan j.parsed e

    pub pack-slots : {a : Answer} → (length slots / slot_size ≡ f.slots → ⊥) → a ≡ refusal BadSlots 0 → record { answer = a; output = out } ≡ pack_plan plan (numbers_in slots) area out
    unfolding pack_plan
    pack-slots h q =
        let other : length (numbers_in slots) / slot_width ≡ f.slots → ⊥ = λ s. h (omega (arith, length-numbers_in slots, s)) in
        rw q
        (whole.pack-slots (length plan) (plan_fields true plan) (numbers_in slots) area out fine _ learnt.fields
        (whole.other-slots (numbers_in slots) f.slots _ learnt.taken other))

    module _ (enough : length slots / slot_size ≡ f.slots) where
      same : length (numbers_in slots) / slot_width ≡ f.slots
      same = omega (arith, length-numbers_in slots)

      pub packable : Packable (take f.count plan) slots out
      packable =
          record {
            whole = j.whole;
            prepared = record {
              room = omega (arith, learnt.room, length-take f.count plan);
              slots = rw (← decoded-front f.count plan) (omega (arith, learnt.taken, same));
              limit = limits.lent.table;
            };
            room = limits.whole;
          }

      pub pack-fields : {a : Answer} {out' : List ℕ} → PlanPacks (take f.count plan) slots area out out' a → record { answer = a; output = out' } ≡ pack_plan plan (numbers_in slots) area out
      unfolding pack_plan
      pack-fields q =
          q
          ∙ rw (← decoded-front f.count plan)
          (whole.pack-finish (length plan) (plan_fields true plan) (numbers_in slots) area out fine _ learnt.fields
          (whole.same-slots (numbers_in slots) f.slots _ learnt.taken same))

-- the numbers that were decoded
module _ (plan slots area out ns : List ℕ) (e : ns ≡ numbers_in slots) where
  pub decoded-ready : Packable plan slots out → Prepared plan ns × (length out ≤ max_record)
  decoded-ready k = (rw e k.prepared, k.room)

  pub decoded-pack : {x : Packed} → x ≡ finishes plan ns area out → x ≡ finishes plan (numbers_in slots) area out
  decoded-pack q = q ∙ ap (λ (l : List ℕ). finishes plan l area out) e

-- ---- reading by a plan

-- what a call left has room for the slots that it set
pub set_room : (plan bytes area : List ℕ) (mark : ℕ) (ns : List ℕ) {ns' area' : List ℕ} {a : ReadAnswer} → record { answer = a; slots = ns'; area = area' } ≡ read_plan plan bytes ns area mark
    → length ns' ≡ length ns → a.answer.number ≡ 0 → a.answer.first * slot_width ≤ length ns'
unfolding read_plan
set_room plan bytes area mark ns p e h = fields-room (length plan) (plan_fields false plan) bytes area mark ns p e h

-- a refusal leaves slots and area
left-refused : (slots area : List ℕ) (why : Refusal) (place : ℕ) {a : Answer} {r : ℕ} {reply' : List ℕ} → a ≡ refusal why place → (r ≡ a.number) × (reply' ≡ long_reply a 0)
    → record { returned = r; slots = slots; area = area; reply = reply' } ≡ steps_call slots (record { answer = record { answer = a; steps = 0 }; slots = numbers_in slots; area = area })
unfolding steps_call read_call
left-refused slots area why place {a} e q =
    let bad : a.number ≡ 0 → ⊥ = λ z. no-number-zero why (sym (ap (λ (x : Answer). x.number) e) ∙ z) in
    rw (ne_eqb a.number 0 bad, q.0, q.1)

module _ (plan bytes slots area : List ℕ) (mark : ℕ) where
  pub read-replied : (ns : List ℕ) {ns' area' slots' reply' : List ℕ} {a : ReadAnswer} {r : ℕ} → length slots ≡ length ns * number_size
      → record { answer = a; slots = ns'; area = area' } ≡ read_plan plan bytes ns area mark
      → (r ≡ a.answer.number) × (reply' ≡ long_reply a.answer a.steps)
      × (slots' ≡ written_back slots ns' a.answer)
      → All (λ b. b < 256) slots → record { returned = r; slots = slots'; area = area'; reply = reply' } ≡ steps_call slots (read_plan plan bytes (numbers_in slots) area mark)
  unfolding read_plan
  read-replied ns long p q below = fields-replied (length plan) (plan_fields false plan) bytes slots area mark ns long p q below

  module _ (reply : List ℕ) where
    pub read-unwritten : eqb (length reply) long_reply_size ≡ false → record { returned = number_of BadSize; slots = slots; area = area; reply = reply } ≡ curlew_read_plan plan bytes slots area mark reply
    unfolding curlew_read_plan
    read-unwritten h = guarded-unwritten long_reply_size reply slots _ _ _ h

    module _ (sized : eqb (length reply) long_reply_size ≡ true) where
      many : slot_width * max_slots < length (numbers_in slots)
          → record { answer = record { answer = refusal BadSize 0; steps = 0 }; slots = numbers_in slots; area = area } ≡ read_plan plan bytes (numbers_in slots) area mark
      unfolding read_plan
      many h = fields-many (length plan) (plan_fields false plan) (numbers_in slots) bytes area h mark

      pub read-refused : {a : Answer} {r : ℕ} {reply' : List ℕ} → slot_bytes_fit (length slots) ≡ false → a ≡ refusal BadSize 0 → (r ≡ a.number) × (reply' ≡ long_reply a 0)
          → record { returned = r; slots = slots; area = area; reply = reply' } ≡ curlew_read_plan plan bytes slots area mark reply
      unfolding curlew_read_plan steps_call read_call
      read-refused {a} {r} {reply'} bad e q =
          let here : record { returned = r; slots = slots; area = area; reply = reply' } ≡ steps_call slots
          (record {
            answer = record { answer = refusal BadSize 0; steps = 0 };
            slots = numbers_in slots;
            area = area;
          }) = rw (q.0, q.1, e) in
          here ∙ guarded-refused long_reply_size reply slots _ _ _ sized bad (λ h. ap (steps_call slots) (many h))

      pub read-served : {r : ℕ} {slots' area' reply' : List ℕ} → Fit (length slots)
          → record { returned = r; slots = slots'; area = area'; reply = reply' } ≡ steps_call slots (read_plan plan bytes (numbers_in slots) area mark)
          → record { returned = r; slots = slots'; area = area'; reply = reply' } ≡ curlew_read_plan plan bytes slots area mark reply
      unfolding curlew_read_plan
      read-served f e = e ∙ guarded-served long_reply_size reply slots _ _ _ sized f

      -- sizes that do not fit
      pub read-unfit : {a : Answer} {r : ℕ} {reply' : List ℕ} → Fit (length slots)
          → read_lent_fits (length plan) (length slots / number_size) (length bytes) (length area) mark ≡ false
          → a ≡ refusal BadSize 0
          → (r ≡ a.number) × (reply' ≡ long_reply a 0) → record { returned = r; slots = slots; area = area; reply = reply' } ≡ curlew_read_plan plan bytes slots area mark reply
      read-unfit {a} {r} {reply'} f bad e q =
          let unfit : read_lent_fits (length plan) (length (numbers_in slots)) (length bytes) (length area) mark ≡ false = rw length-numbers_in bad in
          let left : record { answer = record { answer = refusal BadSize 0; steps = 0 }; slots = numbers_in slots; area = area } ≡ read_plan plan bytes (numbers_in slots) area mark =
          plan-refused plan bytes (numbers_in slots) area mark (sizes-refuse-fields (length plan) (plan_fields false plan) bytes (numbers_in slots) area mark unfit) in
          read-served f (left-refused slots area BadSize 0 e q ∙ ap (steps_call slots) (rw e left))

-- once the plan is judged
module _ {p : Std.Result Fields Refused} {plan bytes slots area : List ℕ} {mark : ℕ} {reply : List ℕ} (j : ReadJudged p plan bytes slots area mark reply) where
  sizes : Lent (length plan) (length (numbers_in slots)) (length bytes) (length area) mark
  sizes = lent (rw length-numbers_in j.fine)

  pub all-lent : length slots ≤ slot_width * max_slots * number_size
  all-lent = omega (arith, sizes.table, length-numbers_in slots, j.whole)

  pub read-place : {e : Refused} → p ≡ Err e → e.place < max_layout
  read-place h = omega (arith, sizes.text, plan-inside false plan _ _ (parsed-refused (plan_fields false plan) p _ plan j.parsed h))

  pub read-bad : {e : Refused} {r : ℕ} {a : Answer} {reply' : List ℕ} → p ≡ Err e → a ≡ refusal e.why e.place → (r ≡ a.number) × (reply' ≡ long_reply a 0)
      → record { returned = r; slots = slots; area = area; reply = reply' } ≡ steps_call slots (read_plan plan bytes (numbers_in slots) area mark)
  read-bad {e} {r} {a} {reply'} h k q =
      let bad : plan_fields false plan ≡ refused e.why e.place = parsed-refused (plan_fields false plan) p e plan j.parsed h in
      let left : record { answer = record { answer = refusal e.why e.place; steps = 0 }; slots = numbers_in slots; area = area } ≡ read_plan plan bytes (numbers_in slots) area mark =
      plan-refused plan bytes (numbers_in slots) area mark (fields-refuse (length plan) (plan_fields false plan) bytes (numbers_in slots) area mark sizes bad) in
      left-refused slots area e.why e.place k q ∙ ap (steps_call slots) (rw k left)

  pub readable : {f : Fields} → p ≡ Ok f → PlanReady f plan bytes slots area mark reply
  readable {f} e =
      let l : Learnt (plan_fields false plan) f.count f.slots plan = parsed-fields (plan_fields false plan) p f plan j.parsed e in
      record { sized = j.sized; whole = j.whole; fine = j.fine; fields = l.fields; count = l.taken; few = l.few }

-- with room for the slots' numbers, whatever it holds
module _ {f : Fields} {plan bytes slots area : List ℕ} {mark : ℕ} {reply : List ℕ} (k : PlanReady f plan bytes slots area mark reply) where
  room-fit : Lent (length plan) (length slots / number_size) (length bytes) (length area) mark
  room-fit = lent k.fine

  pub mark-inside : mark ≤ length area
  mark-inside = room-fit.start

  pub sure-sizes : (length (take f.count plan) ≤ max_layout) × (length bytes ≤ max_record)
  sure-sizes = (omega (arith, length-take f.count plan, room-fit.text), room-fit.whole)

  learnt-by : Learnt (plan_fields false plan) (length (take f.count plan)) f.slots (take f.count plan)
  learnt-by = learnt-front (record { fields = k.fields; taken = k.count; few = k.few; room = room-fit.text })

  module _ (ns : List ℕ) (long : length slots ≡ length ns * number_size) where
    here : Lent (length plan) (length ns) (length bytes) (length area) mark
    here = let e : length slots / number_size ≡ length ns = omega arith in rw e at room-fit

    pub room-ready : ReadReady (length (take f.count plan)) f.slots (take f.count plan) bytes ns area mark
    room-ready = codes.ready (length plan) (plan_fields false plan) bytes ns area mark here learnt-by

    pub room-read : {x : ReadAll} → x ≡ read_codes (length (take f.count plan)) f.slots (take f.count plan) bytes ns area mark → x ≡ read_plan plan bytes ns area mark
    room-read q = plan-codes plan bytes ns area mark here learnt-by q
