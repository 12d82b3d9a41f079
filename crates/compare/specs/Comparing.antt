-- Two copies of one record compared, value field by value field (02, M-102): THE EFFECT OF A CALL is `compare`, at the
-- end.
use Rattle.std.specs.Prelude.{ℕ, ◌*◌, ◌≡◌, false, List, ◌++◌, map, length, drop, leb}
use Rattle.layout.specs.declared.Refusal.TheVariants.{NoRoom}
use Rattle.layout.specs.Refusals.{Result, ok, refused, ◌>>=◌, demand}
use Rattle.layout.specs.Layout.{fields_of, slot_count}
use Rattle.record.specs.declared.Answer.{Answer}
use Rattle.record.specs.Table.{Value, area_bytes}
use Rattle.record.specs.Packing.{accepted, refusal}
use Rattle.record.specs.Reading.{reads, positions_from, put_into}
use Rattle.compare.specs.Difference.{report_width}
use Rattle.compare.specs.Report.{findings}

-- the value fields of a layout, the values that the two readings set, and the positions of their fields
pub record Shown : Type 0 where
  pub fields : ℕ
  pub first : List Value
  pub second : List Value
  pub first_at : List ℕ
  pub second_at : List ℕ

-- the two readings, each from mark 0, or the first refusal: those of the first, then those of the second, then 11 for
-- the report
unfoldable pub compares : List ℕ → List ℕ → List ℕ → List ℕ → List ℕ → List ℕ → List ℕ → List ℕ → Result Shown
unfolding reads positions_from fields_of slot_count
compares layout first second first_slots first_area second_slots second_area report = do
  vs ← reads layout first first_slots first_area 0
  ws ← reads layout second second_slots second_area 0
  fs ← fields_of false layout
  _ ← demand (leb (report_width * slot_count fs) (length report)) NoRoom 0
  ok
      (record {
        fields = slot_count fs;
        first = vs;
        second = ws;
        first_at = positions_from (length first) 0 fs;
        second_at = positions_from (length second) 0 fs;
      })

-- all that a call leaves: its answer, both tables with their areas, and the report
pub record Compared : Type 0 where
  pub answer : Answer
  pub first_slots : List ℕ
  pub first_area : List ℕ
  pub second_slots : List ℕ
  pub second_area : List ℕ
  pub report : List ℕ

-- each table and area as its reading leaves it, and what the findings do not cover of the report as lent; a refusal
-- changes nothing
unfoldable pub compare_effect : List ℕ → List ℕ → List ℕ → List ℕ → List ℕ → Result Shown → Compared
unfolding put_into findings area_bytes
compare_effect first_slots first_area second_slots second_area report (ok s) =
    let p = put_into first_slots first_area 0 s.first_at s.first in
    let q = put_into second_slots second_area 0 s.second_at s.second in
    record {
      answer = accepted s.fields 0;
      first_slots = p.slots;
      first_area = p.area;
      second_slots = q.slots;
      second_area = q.area;
      report =
          findings s.fields (map area_bytes s.first) (map area_bytes s.second)
          ++ drop (report_width * s.fields) report;
    }
compare_effect first_slots first_area second_slots second_area report (refused why place) =
    record {
      answer = refusal why place;
      first_slots = first_slots;
      first_area = first_area;
      second_slots = second_slots;
      second_area = second_area;
      report = report;
    }

unfoldable pub compare : List ℕ → List ℕ → List ℕ → List ℕ → List ℕ → List ℕ → List ℕ → List ℕ → Compared
unfolding compares compare_effect
compare layout first second first_slots first_area second_slots second_area report =
    compare_effect first_slots first_area second_slots second_area report
    (compares layout first second first_slots first_area second_slots second_area report)

-- what a call promises that answered r
abbrev pub Compares : List ℕ → List ℕ → List ℕ → List ℕ → List ℕ → List ℕ → List ℕ → List ℕ → List ℕ → List ℕ → List ℕ → List ℕ → List ℕ → Answer → Type 0
Compares layout first second first_slots first_slots' first_area first_area' second_slots second_slots' second_area second_area' report report' r =
    record {
      answer = r;
      first_slots = first_slots';
      first_area = first_area';
      second_slots = second_slots';
      second_area = second_area';
      report = report';
    }
    ≡ compare layout first second first_slots first_area
    second_slots second_area report
