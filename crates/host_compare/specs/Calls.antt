-- Comparing two copies of a record for a C host (02, M-102; 01, Slot tables). THE EFFECT OF A CALL is `curlew_compare`,
-- at the end.
use Rattle.std.specs.Prelude.{ℕ, ◌*◌, ◌%◌, ◌≡◌, Bool, List, ◌++◌, eqb, length, take, drop, if◌then◌else◌}
use Rattle.layout.specs.declared.Refusal.TheVariants.{BadSize}
use Rattle.layout.specs.Refusals.{number_of, Result, ◌>>=◌, demand}
use Rattle.record.specs.Reading.{reads}
use Rattle.compare.specs.Difference.{report_width}
use Rattle.compare.specs.Comparing.{Shown, compares, compare_effect, Compared, compare}
use Rattle.host.specs.Numbers.{number_size, numbers_in, numbers_bytes}
use Rattle.host.specs.Host.{slot_size, reply_size, reply_of}

-- the bytes of a finding of the report
abbrev pub finding_size : ℕ
finding_size = number_size * report_width

-- the slots of a run of bytes are whole
abbrev pub whole_slots : List ℕ → Bool
whole_slots slots = eqb (length slots % slot_size) 0

-- the two readings, or the first refusal: slots that are not whole are refused with 1 by the reading that they are lent
-- to
unfoldable pub compares_lent : List ℕ → List ℕ → List ℕ → List ℕ → List ℕ → List ℕ → List ℕ → List ℕ → Result Shown
unfolding reads numbers_in compares
compares_lent layout first second first_slots first_area second_slots second_area report = do
  _ ← demand (whole_slots first_slots) BadSize 0
  _ ← reads layout first (numbers_in first_slots) first_area 0
  _ ← demand (whole_slots second_slots) BadSize 0
  compares layout first second (numbers_in first_slots) first_area (numbers_in second_slots) second_area (numbers_in report)

-- all that a call leaves: the number that it returns, and every byte of both tables, both areas, the report and the
-- reply
pub record CompareCall : Type 0 where
  pub returned : ℕ
  pub first_slots : List ℕ
  pub first_area : List ℕ
  pub second_slots : List ℕ
  pub second_area : List ℕ
  pub report : List ℕ
  pub reply : List ℕ

-- what a comparison on numbers leaves, as a C host sees it: a refusal writes the reply alone, and bytes of the report
-- that no finding covers stay
unfoldable pub compare_call : List ℕ → List ℕ → List ℕ → Compared → CompareCall
unfolding numbers_bytes reply_of
compare_call first_slots second_slots report c =
    let accepted = eqb c.answer.number 0 in
    let n = c.answer.first in
    record {
      returned = c.answer.number;
      first_slots = if accepted then numbers_bytes c.first_slots else first_slots;
      first_area = c.first_area;
      second_slots = if accepted then numbers_bytes c.second_slots else second_slots;
      second_area = c.second_area;
      report =
          if accepted
          then numbers_bytes (take (report_width * n) c.report) ++ drop (finding_size * n) report
          else report;
      reply = reply_of c.answer;
    }

-- the call; a reply of another size than the call's own: nothing is written
unfoldable pub curlew_compare : List ℕ → List ℕ → List ℕ → List ℕ → List ℕ → List ℕ → List ℕ → List ℕ → List ℕ
    → CompareCall
unfolding compare_call numbers_in compare_effect compares_lent
curlew_compare layout first second first_slots first_area second_slots second_area report reply =
    if eqb (length reply) reply_size
    then compare_call first_slots second_slots report
    (compare_effect (numbers_in first_slots) first_area (numbers_in second_slots) second_area (numbers_in report)
    (compares_lent layout first second first_slots first_area second_slots second_area report))
    else record {
      returned = number_of BadSize;
      first_slots = first_slots;
      first_area = first_area;
      second_slots = second_slots;
      second_area = second_area;
      report = report;
      reply = reply;
    }

-- what a call left that returned r
abbrev pub compare_left : List ℕ → List ℕ → List ℕ → List ℕ → List ℕ → List ℕ → List ℕ → List ℕ → List ℕ → List ℕ → List ℕ → List ℕ → ℕ → CompareCall
compare_left first_slots first_slots' first_area first_area' second_slots second_slots' second_area second_area' report report' reply reply' r =
    record {
      returned = r;
      first_slots = first_slots';
      first_area = first_area';
      second_slots = second_slots';
      second_area = second_area';
      report = report';
      reply = reply';
    }

-- what a call promises that returned r; and what it promises where the reply is written and the slots are whole
abbrev pub HostCompares : List ℕ → List ℕ → List ℕ → List ℕ → List ℕ → List ℕ → List ℕ → List ℕ → List ℕ → List ℕ → List ℕ → List ℕ → List ℕ → List ℕ → List ℕ → ℕ → Type 0
HostCompares layout first second first_slots first_slots' first_area first_area' second_slots second_slots' second_area second_area' report report' reply reply' r =
    compare_left first_slots first_slots' first_area first_area' second_slots second_slots' second_area second_area' report report' reply reply' r
    ≡ curlew_compare layout first second first_slots first_area
    second_slots second_area report reply

abbrev pub CompareServed : List ℕ → List ℕ → List ℕ → List ℕ → List ℕ → List ℕ → List ℕ → List ℕ → List ℕ → List ℕ → List ℕ → List ℕ → List ℕ → List ℕ → List ℕ → ℕ → Type 0
CompareServed layout first second first_slots first_slots' first_area first_area' second_slots second_slots' second_area second_area' report report' reply reply' r =
    compare_left first_slots first_slots' first_area first_area' second_slots second_slots' second_area second_area' report report' reply reply' r
    ≡ compare_call first_slots second_slots report
    (compare layout first second (numbers_in first_slots) first_area
    (numbers_in second_slots) second_area (numbers_in report))
