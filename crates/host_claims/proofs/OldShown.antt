-- Of a call that is served the slots agree with those of the call on numbers, of which the claim is proved; any other
-- call leaves slots and area as they were.
use Rattle.std.specs.Prelude.{if◌then◌else◌}
use Prim.Native.Nat.{ℕ, ◌%◌, ◌≤◌, ◌<◌}
use native.Mathlib.Omega.{arith}
use mathlib.Core.Path.{◌≡◌, refl, ap, ◌∙◌}
use mathlib.Core.Bool.{Bool, true, false}
use mathlib.Core.List.{List, [], ◌∷◌}
use borrow.Author.Tests.{eqb-true}
use lib.Dec.{eqb}
use lib.ListN.{length, get_or}
use Rattle.record.specs.Slots.{slot_at}
use Rattle.record.specs.Reading.{Read, read, read_steps, read_all}
use Rattle.record.proofs.Readings.{read-few}
use Rattle.runs.specs.OldValues.{slots_set as numbers_set, Old as NumbersOld}
use Rattle.runs.proofs.OldValues.{old-values}
use Rattle.host.specs.Numbers.{numbers_in}
use Rattle.host.specs.Host.{slot_size, long_reply_size, long_reply, ReadCall, read_call}
use Rattle.host_record.specs.Reading.{steps_call, curlew_read}
use Rattle.host_record.specs.Claims.{slots_set_by_call}
use Rattle.host_claims.specs.Seen.{Lends, replied}
use Rattle.host_claims.specs.OldShown.{HostOld, HostOldValues}
use Rattle.host_claims.proofs.Laws.{read-served, replied-number}
use Rattle.host_claims.proofs.Agreeing.{read-agrees}

module _ (layout bytes slots area : List ℕ) (mark : ℕ) (reply : List ℕ) (i : ℕ) where
  c : ReadCall
  c = curlew_read layout bytes slots area mark reply

  r : Read
  r = read layout bytes (numbers_in slots) area mark

  steps : ℕ
  steps = read_steps layout bytes (numbers_in slots) area mark

  -- the reply's count is the answer's
  count_by : (t : Bool) → (t ≡ true → r.answer.number ≡ 0)
      → (if t then replied 1 (long_reply r.answer steps) else 0) ≡ (if t then r.answer.first else 0)
  unfolding r long_reply
  count_by true z =
      replied-number (r.answer.number ∷ r.answer.first ∷ r.answer.second ∷ steps ∷ []) 1 (omega arith)
      (omega (arith, (read-few layout bytes area mark (numbers_in slots) (z refl)).most))
  count_by false z = refl

  module _ (l : Lends slots reply long_reply_size) where
    as_read : c ≡ steps_call slots (read_all layout bytes (numbers_in slots) area mark)
    unfolding c
    as_read = read-served slots reply layout bytes area mark l

    count : slots_set_by_call c ≡ numbers_set r
    unfolding r steps steps_call read_call
    count = ap slots_set_by_call as_read ∙ count_by (eqb r.answer.number 0) (eqb-true r.answer.number 0)

    old-served : slots_set_by_call c ≤ i → HostOld slots area mark i c
    unfolding c r steps_call read_call
    old-served h =
        let old : NumbersOld (numbers_in slots) area mark i r =
        old-values layout bytes (numbers_in slots) area mark i (rw count at h) in
        let same : numbers_in c.slots ≡ r.slots = (read-agrees layout bytes slots area mark reply l).same in
        let left : c.area ≡ r.area = ap (λ (x : ReadCall). x.area) as_read in
        record {
          slot = ap (λ (ns : List ℕ). slot_at ns i) same ∙ old.slot;
          value = λ below. rw (same, left) (old.value below);
        }

  old-by : (s w : Bool) → ((j : ℕ) → get_or slots j 0 < 256) → eqb (length reply) long_reply_size ≡ s
      → eqb (length slots % slot_size) 0 ≡ w
      → slots_set_by_call c ≤ i → HostOld slots area mark i c
  unfolding c curlew_read steps_call read_call
  old-by false w below p q h = rw p (record { slot = refl; value = λ under. refl })
  old-by true false below p q h = rw (p, q) (record { slot = refl; value = λ under. refl })
  old-by true true below p q h =
      old-served
      (record {
        are-slots = record { whole = eqb-true (length slots % slot_size) 0 q; bytes = below };
        reply-size = eqb-true (length reply) long_reply_size p;
      })
      h

pub host-old-values : HostOldValues
unfolding c
host-old-values layout bytes slots area mark reply i below h =
    old-by layout bytes slots area mark reply i (eqb (length reply) long_reply_size)
    (eqb (length slots % slot_size) 0) below refl refl h
