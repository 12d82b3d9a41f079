-- The leg of one slot, on plain values.
use Rattle.std.specs.Prelude.{Ok, Err, if◌then◌else◌}
use Prim.Native.Nat.{ℕ, ◌≤◌}
use mathlib.Core.Path.{◌≡◌, refl, sym, ◌∙◌}
use mathlib.Core.Bool.{Bool, true, false}
use mathlib.Core.List.{List}
use borrow.Author.Tests.{leb-true, eqb-true}
use lib.Dec.{eqb, leb}
use lib.ListN.{length}
use Rattle.layout.specs.declared.Refusal.{Refusal}
use Rattle.record.specs.declared.Answer.{Answer}
use Rattle.record.specs.Packing.{refusal}
use Rattle.layout.specs.declared.Refusal.TheVariants.{BadSlot, WrongKind, BadList, BadMark}
use Rattle.layout.specs.Refusals.{Result, ok, refused, ◌>>=◌, demand}
use Rattle.layout.proofs.Laws.{demanded, ok-inj}
use Rattle.record.specs.Bytes.{pieces, big_endian_in, number_at}
use Rattle.record.specs.declared.slots.Slot.{Slot}
use Rattle.record.specs.Table.{unset as kind_unset, is_integers, integer_size, shown}
use Rattle.record.specs.Slots.{is_inside}
use Rattle.record.proofs.Tables.{integers-kind}
use Rattle.mean.specs.declared.marks.Tally.{Tally}
use Rattle.mean.specs.Mean.{Leg, unset, marked, max_mark, mark_in, leg_of}
use Rattle.mean.specs.inside.Walk.{counted, turn_of}

-- ---- the tests of a slot as truth values

record Tests : Type 0 where
  blank : Bool
  inside : Bool
  integers : Bool
  one : Bool
  small : Bool

abbrev tests_of : List ℕ → Slot → Tests
tests_of area s =
    record {
      blank = eqb s.kind kind_unset;
      inside = is_inside s (length area);
      integers = is_integers s.kind;
      one = eqb s.len 1;
      small = leb (mark_in area s) max_mark;
    }

-- the leg by its tests and its mark; the slot's number is nothing but the place of a refusal
leg_by : Tests → ℕ → ℕ → Result Leg
leg_by x m i =
    if x.blank then ok unset else do
      _ ← demand x.inside BadSlot i
      _ ← demand x.integers WrongKind i
      _ ← demand x.one BadList i
      _ ← demand x.small BadMark i
      ok (marked m)

leg-by : (area : List ℕ) (i : ℕ) (s : Slot) → leg_of area i s ≡ leg_by (tests_of area s) (mark_in area s) i
unfolding leg_of leg_by
leg-by area i s = refl

-- ---- a slot that shows one integer: it stands at the slot's start

pub mark-at : (area : List ℕ) (s : Slot) → is_integers s.kind ≡ true → eqb s.len 1 ≡ true → mark_in area s ≡ number_at integer_size area s.start
unfolding mark_in shown big_endian_in pieces number_at
mark-at area s integers one = simp (integers-kind s.kind integers, eqb-true s.len 1 one)

-- ---- what a step's answer says of the leg

pub turn-next : (t u : Tally) (o : Result Leg) → Ok u ≡ turn_of t o → (l : Leg) × (o ≡ ok l) × (u ≡ counted t l)
turn-next t u (ok l) e = (l, refl, cc)
turn-next t u (refused why place) e = cc

pub turn-stop : (t : Tally) (a : Answer) (o : Result Leg) → Err a ≡ turn_of t o → (why : Refusal) × (place : ℕ) × (o ≡ refused why place) × (a ≡ refusal why place)
turn-stop t a (ok l) e = cc
turn-stop t a (refused why place) e = (why, place, refl, cc)

-- two answers are the same but for the place
abbrev pub Alike : Result Leg → Result Leg → Type 0
Alike (ok l) (ok m) = l ≡ m
Alike (ok l) (refused w p) = ⊥
Alike (refused v q) (ok m) = ⊥
Alike (refused v q) (refused w p) = v ≡ w

abbrev tests : Bool → Bool → Bool → Bool → Bool → Tests
tests a b c d e = record { blank = a; inside = b; integers = c; one = d; small = e }

alike-by : (a b c d e : Bool) (m i j : ℕ) → Alike (leg_by (tests a b c d e) m i) (leg_by (tests a b c d e) m j)
unfolding leg_by
alike-by true b c d e m i j = refl
alike-by false false c d e m i j = refl
alike-by false true false d e m i j = refl
alike-by false true true false e m i j = refl
alike-by false true true true false m i j = refl
alike-by false true true true true m i j = refl

pub leg-alike : (area : List ℕ) (i j : ℕ) (s : Slot) → Alike (leg_of area i s) (leg_of area j s)
leg-alike area i j s =
    let x = tests_of area s in
    rw (leg-by area i s, leg-by area j s) (alike-by x.blank x.inside x.integers x.one x.small (mark_in area s) i j)

place-by : (a b c d e : Bool) (m i : ℕ) (why : Refusal) (place : ℕ) → leg_by (tests a b c d e) m i ≡ refused why place → place ≡ i
unfolding leg_by
place-by true b c d e m i why place h = cc
place-by false false c d e m i why place h = cc
place-by false true false d e m i why place h = cc
place-by false true true false e m i why place h = cc
place-by false true true true false m i why place h = cc
place-by false true true true true m i why place h = cc

-- a refusal's place is the slot's number
pub leg-place : (area : List ℕ) (i : ℕ) (s : Slot) (why : Refusal) (place : ℕ) → leg_of area i s ≡ refused why place → place ≡ i
leg-place area i s why place h =
    let x = tests_of area s in
    place-by x.blank x.inside x.integers x.one x.small (mark_in area s) i why place (sym (leg-by area i s) ∙ h)

-- a leg that is accepted is in range
abbrev pub InRange : Leg → Type 0
InRange unset = Unit {0}
InRange (marked m) = m ≤ max_mark

range-by : (a b c d : Bool) (m i : ℕ) (l : Leg) → leg_by (tests a b c d (leb m max_mark)) m i ≡ ok l → InRange l
unfolding leg_by
range-by true b c d m i l h = rw (← ok-inj h) tt
range-by false b c d m i l h =
    let x₁ = demanded b BadSlot i _ l h in
    let x₂ = demanded c WrongKind i _ l x₁.1 in
    let x₃ = demanded d BadList i _ l x₂.1 in
    let x₄ = demanded (leb m max_mark) BadMark i _ l x₃.1 in
    rw (← ok-inj x₄.1) (leb-true m max_mark x₄.0)

pub leg-range : (area : List ℕ) (i : ℕ) (s : Slot) (l : Leg) → leg_of area i s ≡ ok l → InRange l
leg-range area i s l h =
    let x = tests_of area s in
    range-by x.blank x.inside x.integers x.one (mark_in area s) i l (sym (leg-by area i s) ∙ h)
