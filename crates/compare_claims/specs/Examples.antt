-- Examples of comparing (02, M-102), computed from the definitions; one statement, proved in proofs/Examples.antt.
use Rattle.std.specs.Prelude.{ℕ, ◌*◌, Bool, true, false, ◌&&◌, List, [], ◌∷◌, replicate, eqb, if◌then◌else◌}
use Prim.Native.String.{String}
use Rattle.layout.specs.Quoted.{bytes}
use Rattle.record.specs.Table.{slot_width}
use Rattle.record.specs.Reading.{Read, read}
use Rattle.compare.specs.Comparing.{compare}

-- Layout, the two copies, the slots lent to each, the bytes of each area, how many numbers the report has (sevens, as
-- lent); then the answer's three numbers and the report.
pub record Example : Type 0 where
  pub layout : List ℕ
  pub first : List ℕ
  pub second : List ℕ
  pub slots : ℕ × ℕ
  pub areas : ℕ × ℕ
  pub numbers : ℕ
  pub answer : List ℕ
  pub report : List ℕ

equal : List ℕ → List ℕ → Bool
equal [] [] = true
equal [] (y ∷ ys) = false
equal (x ∷ xs) [] = false
equal (x ∷ xs) (y ∷ ys) = eqb x y && equal xs ys

-- tables and areas are those that the readings leave
left_by : Read → List ℕ → List ℕ → Bool
unfolding equal
left_by r slots area = equal slots r.slots && equal area r.area

holds : Example → Bool
unfolding compare left_by equal read
holds e =
    let slots : List ℕ = replicate (slot_width * e.slots.0) 9 in
    let slots' : List ℕ = replicate (slot_width * e.slots.1) 9 in
    let area : List ℕ = replicate e.areas.0 170 in
    let area' : List ℕ = replicate e.areas.1 170 in
    let c = compare e.layout e.first e.second slots area slots' area' (replicate e.numbers 7) in
    equal (c.answer.number ∷ c.answer.first ∷ c.answer.second ∷ []) e.answer
    && equal c.report e.report
    && (if eqb c.answer.number 0
    then left_by (read e.layout e.first slots area 0) c.first_slots c.first_area && left_by (read e.layout e.second slots' area' 0) c.second_slots c.second_area
    else equal c.first_slots slots && equal c.first_area area && equal c.second_slots slots' && equal c.second_area area')

unfoldable pub all : List Example → Bool
unfolding holds
all [] = true
all (e ∷ es) = holds e && all es

-- both copies with three slots and 64 bytes, a report of ten numbers
both : String → List ℕ → List ℕ → List ℕ → List ℕ → Example
both layout first second answer report = record {
  layout = bytes layout;
  first = first;
  second = second;
  slots = (3, 3);
  areas = (64, 64);
  numbers = 10;
  answer = answer;
  report = report;
}

unfoldable pub examples : List Example
unfolding both
examples =
    -- same; the rest of the report stays
    both "a3" (bytes "abc") (bytes "abc") (0 ∷ 1 ∷ 0 ∷ []) (0 ∷ 0 ∷ 0 ∷ replicate 7 7)
    -- `c` and `d` differ in three bits: 01100011, 01100100; a move has no finding
    ∷ both "a2xa" (bytes "abxc") (bytes "abyd") (0 ∷ 2 ∷ 0 ∷ []) (0 ∷ 0 ∷ 0 ∷ 4 ∷ 0 ∷ 3 ∷ replicate 4 7)
    -- one begins the other: the shorter length, and no bit
    ∷ both "A*" (bytes "ab  ") (bytes "abc ") (0 ∷ 1 ∷ 0 ∷ []) (4 ∷ 2 ∷ 0 ∷ replicate 7 7)
    -- an integer is eight bytes: 5 and 7 part at the last of them, in one bit; 1 and -1 at the first, in 63
    ∷ both "cc" (5 ∷ 1 ∷ []) (7 ∷ 255 ∷ []) (0 ∷ 2 ∷ 0 ∷ []) (4 ∷ 7 ∷ 1 ∷ 4 ∷ 0 ∷ 63 ∷ replicate 4 7)
    -- one of the copies is too short, the other one, both
    ∷ both "s2cc" (1 ∷ 0 ∷ 2 ∷ 0 ∷ 9 ∷ []) (1 ∷ 0 ∷ 2 ∷ 0 ∷ []) (0 ∷ 3 ∷ 0 ∷ []) (0 ∷ 0 ∷ 0 ∷ 1 ∷ 0 ∷ 0 ∷ 3 ∷ 0 ∷ 0 ∷ 7 ∷ [])
    ∷ both "ca2" (1 ∷ []) (1 ∷ 65 ∷ 66 ∷ []) (0 ∷ 2 ∷ 0 ∷ []) (0 ∷ 0 ∷ 0 ∷ 2 ∷ 0 ∷ 0 ∷ replicate 4 7)
    -- an empty value is in both, or parts from another at 0
    ∷ both "a0s*" [] (65 ∷ []) (0 ∷ 2 ∷ 0 ∷ []) (0 ∷ 0 ∷ 0 ∷ 0 ∷ 0 ∷ 0 ∷ replicate 4 7)
    -- no value field: no finding, and the report may be empty
    ∷ both "x" [] [] (0 ∷ 0 ∷ 0 ∷ []) (replicate 10 7)
    -- a report with two numbers for one field; what reading the first and the second refuse comes before
    ∷ record { layout = bytes "c"; first = 1 ∷ []; second = []; slots = (1, 1); areas = (8, 0); numbers = 2; answer = 11 ∷ 0 ∷ 0 ∷ []; report = replicate 2 7 }
    ∷ record { layout = bytes "c"; first = 1 ∷ []; second = []; slots = (1, 1); areas = (8, 0); numbers = 3; answer = 0 ∷ 1 ∷ 0 ∷ []; report = 1 ∷ 0 ∷ 0 ∷ [] }
    ∷ record { layout = bytes "c"; first = 1 ∷ []; second = []; slots = (1, 0); areas = (8, 0); numbers = 2; answer = 5 ∷ 0 ∷ 0 ∷ []; report = replicate 2 7 }
    ∷ record { layout = bytes "c"; first = 1 ∷ []; second = []; slots = (1, 65); areas = (7, 0); numbers = 0; answer = 11 ∷ 0 ∷ 0 ∷ []; report = [] }
    ∷ record { layout = bytes "c"; first = 1 ∷ []; second = []; slots = (1, 65); areas = (8, 0); numbers = 0; answer = 1 ∷ 0 ∷ 0 ∷ []; report = [] }
    ∷ record { layout = bytes "c z"; first = []; second = []; slots = (1, 65); areas = (8, 0); numbers = 0; answer = 2 ∷ 2 ∷ 0 ∷ []; report = [] }
    ∷ []
