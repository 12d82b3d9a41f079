-- What each way out of a call leaves is what the definition gives.
use Rattle.std.specs.Prelude.{if◌then◌else◌}
use Prim.Native.Nat.{ℕ, suc, ◌+◌, ◌/◌, ◌%◌, ◌≤◌, ◌<◌}
use native.Mathlib.Omega.{arith}
use mathlib.Core.Path.{◌≡◌}
use mathlib.Core.Bool.{Bool, true, false}
use mathlib.Core.List.{List, [], ◌∷◌, ◌++◌}
use lib.ListN.{length, take, drop}
use borrow.Author.Tests.{le-leb, lt-leb}
use Rattle.layout.specs.declared.Field.{Field}
use Rattle.layout.specs.declared.Refusal.{Refusal}
use Rattle.layout.specs.declared.Refusal.TheVariants.{BadSize, BadType, BadCount, BadMove, NoRoom}
use Rattle.std.specs.declared.result.Result as Std
use Rattle.std.specs.declared.result.Result.TheVariants.{Ok}
use Rattle.layout.specs.declared.Fields.{Fields}
use Rattle.layout.specs.declared.Refused.{Refused}
use Rattle.layout.specs.Refusals.{Result, ok, refused, ◌>>=◌, demand}
use Rattle.layout.specs.Layout.{max_layout, takes_slot, fields_of, slot_count, in_limit, has_meaning}
use Rattle.layout.specs.Codes.{count_unit, flag_unit, count_from, field_of}
use Rattle.layout.specs.inside.Parsing.{decoded, Parses}
use Rattle.layout.proofs.Decoded.{Learnt, parsed-fields, parsed-plan, decoded-length}
use Rattle.record.specs.declared.Answer.{Answer}
use Rattle.record.specs.Geometry.{lengths_fit}
use Rattle.record.specs.Packing.{accepted, refusal}
use Rattle.record.specs.Reading.{reads_fields, ReadAll}
use Rattle.reader.proofs.checking.Calls.{Fit}
use Rattle.reader.specs.inside.passes.{read_codes}
use Rattle.reader.proofs.passes.Whole as whole
use Rattle.packer.specs.inside.Whole.{FieldsRead, PacksAsRead}
use Rattle.packer.proofs.WholeLaws.{pack-sizes}
use Rattle.plans.specs.Plans.{is_type, planned_field, planned_from, plan_fields, prepares, prepare, pack_plan, read_plan}

-- ---- no more slots than fields

pub slots-few : (fs : List Field) → slot_count fs ≤ length fs
unfolding slot_count
slots-few [] = omega arith
slots-few (f ∷ fs) = by-role (takes_slot f.role) (slots-few fs)
  where
    by-role : (t : Bool) → slot_count fs ≤ length fs → (if t then suc (slot_count fs) else slot_count fs) ≤ suc (length fs)
    by-role true h = omega arith
    by-role false h = omega arith

pub taken-few : {o : Result (List Field)} {n taken : ℕ} {ws : List ℕ} → Learnt o n taken ws → taken ≤ n
taken-few {n = n} {ws = ws} l = omega (arith, l.taken, slots-few (decoded n ws), decoded-length n ws l.few)

-- ---- a layout prepared

module _ (layout run : List ℕ) where
  pub prepare-size : max_layout < length layout → record { answer = refusal BadSize 0; plan = run } ≡ prepare layout run
  unfolding prepare prepares
  prepare-size h = rw (lt-leb (length layout) max_layout h)

  module _ (short : length layout ≤ max_layout) where
    pub prepare-refused : (why : Refusal) (place : ℕ) → fields_of false layout ≡ refused why place → record { answer = refusal why place; plan = run } ≡ prepare layout run
    unfolding prepare prepares
    prepare-refused why place e = rw (le-leb (length layout) max_layout short, e)

    module _ {p : Std.Result Fields Refused} {f : Fields} {ws : List ℕ} (parsed : Parses (fields_of false layout) p ws) (e : p ≡ Ok f) where
      abbrev n : ℕ
      n = f.count

      abbrev taken : ℕ
      taken = f.slots

      learnt : Learnt (fields_of false layout) n taken ws
      learnt = parsed-fields (fields_of false layout) p f ws parsed e

      long : length (decoded n ws) ≡ n
      long = decoded-length n ws learnt.few

      pub prepare-room : length run < n → record { answer = refusal NoRoom 0; plan = run } ≡ prepare layout run
      unfolding prepare prepares
      prepare-room h =
          let over : length run < length (decoded n ws) = omega (arith, long) in
          rw (le-leb (length layout) max_layout short, learnt.fields, lt-leb (length (decoded n ws)) (length run) over)

      pub prepare-done : n ≤ length run → {run' : List ℕ} → run' ≡ take n ws ++ drop n run → record { answer = accepted n taken; plan = run' } ≡ prepare layout run
      unfolding prepare prepares
      prepare-done h q =
          let room : length (decoded n ws) ≤ length run = omega (arith, long) in
          rw (
            le-leb (length layout) max_layout short,
            learnt.fields,
            le-leb (length (decoded n ws)) (length run) room,
            q,
            parsed-plan (fields_of false layout) p f ws parsed e,
            long,
            learnt.taken,
          )

-- ---- the place of a refusal is the number of a field

abbrev Below : {A : Type 0} → ℕ → Result A → Type 0
Below end (ok a) = Unit {0}
Below end (refused why place) = place < end

field_below : (i end : ℕ) (a b c : Bool) (f : Field) → i < end
    → Below end (demand a BadType i >>= (λ _. demand b BadCount i >>= (λ _. demand c BadMove i >>= (λ _. ok f))))
field_below i end false b c f h = h
field_below i end true false c f h = h
field_below i end true true false f h = h
field_below i end true true true f h = tt

rest_below : (end : ℕ) (f : Field) (o : Result (List Field)) → Below end o → Below end (o >>= (λ fs. ok (f ∷ fs)))
rest_below end f (ok fs) h = tt
rest_below end f (refused why place) h = h

both_below : (end : ℕ) (o : Result Field) (rest : Result (List Field)) → Below end o → Below end rest → Below end (o >>= (λ f. rest >>= (λ fs. ok (f ∷ fs))))
both_below end (ok f) rest h k = rest_below end f rest k
both_below end (refused why place) rest h k = h

from-below : (packing : Bool) (ws : List ℕ) (i end : ℕ) → i + length ws ≡ end → Below end (planned_from packing i ws)
unfolding planned_from planned_field
from-below packing [] i end e = tt
from-below packing (w ∷ ws) i end e =
    both_below end (planned_field packing i w) (planned_from packing (suc i) ws)
    (field_below i end (is_type (w % flag_unit)) (in_limit (count_from (w / count_unit))) (has_meaning packing (field_of w).role (field_of w).count) (field_of w) (omega arith))
    (from-below packing ws (suc i) end (omega arith))

pub plan-inside : (packing : Bool) (plan : List ℕ) (why : Refusal) (place : ℕ) → plan_fields packing plan ≡ refused why place → place < length plan
unfolding plan_fields
plan-inside packing plan why place e =
    let h : Below (length plan) (planned_from packing 0 plan) = from-below packing plan 0 (length plan) (omega arith) in
    rw e at h

-- ---- packing by a plan

module _ (plan slots area output : List ℕ) where
  pub plan-sizes : lengths_fit (length plan) (length slots) (length output) (length area) ≡ false
      → record { answer = refusal BadSize 0; output = output } ≡ pack_plan plan slots area output
  unfolding pack_plan
  plan-sizes h = pack-sizes (length plan) (plan_fields true plan) slots area output h

  module _ {p : Std.Result Fields Refused} (fine : lengths_fit (length plan) (length slots) (length output) (length area) ≡ true) (parsed : Parses (plan_fields true plan) p plan) where
    pub plan-read : FieldsRead p plan slots area output (length plan) (plan_fields true plan)
    plan-read = record { fine = fine; parsed = parsed; inside = plan-inside true plan }

    pub plan-packed : {r : Answer} {out : List ℕ} → PacksAsRead p plan slots area output r out → record { answer = r; output = out } ≡ pack_plan plan slots area output
    unfolding pack_plan
    plan-packed h = h (length plan) (plan_fields true plan) plan-read

-- ---- reading by a plan

module _ (plan bs slots area : List ℕ) (mark : ℕ) where
  pub plan-refused : {why : Refusal} {p : ℕ} → reads_fields (length plan) (plan_fields false plan) bs slots area mark ≡ refused why p
      → record { answer = record { answer = refusal why p; steps = 0 }; slots = slots; area = area } ≡ read_plan plan bs slots area mark
  unfolding read_plan
  plan-refused e = whole.fields-refused (length plan) (plan_fields false plan) bs slots area mark e

  -- a reading by the fields of the codes is the reading by the plan
  pub plan-codes : Fit (length plan) (length slots) (length bs) (length area) mark → {n taken : ℕ} {ws : List ℕ} → Learnt (plan_fields false plan) n taken ws
      → {e : ReadAll} → e ≡ read_codes n taken ws bs slots area mark → e ≡ read_plan plan bs slots area mark
  unfolding read_plan
  plan-codes sizes l q = whole.fields_read (length plan) (plan_fields false plan) bs slots area mark sizes l q
