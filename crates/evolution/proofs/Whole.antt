-- Records as their fields' bytes, and what is due where nothing is cut: every field ends at or before the record's end,
-- and an added field that takes a slot fills a byte after the end of the old ones.
use Prim.Native.Nat.{ℕ, suc, ◌+◌, ◌*◌, ◌≤◌, ◌<◌}
use native.Mathlib.Omega.{arith}
use mathlib.Core.Path.{◌≡◌, refl, ap, ◌∙◌}
use mathlib.Core.Bool.{Bool}
use mathlib.Core.List.{List, [], ◌∷◌, ◌++◌, append_assoc}
use lib.ListN.{length, take, drop, length-append}
use lib.Seq.{take_at, drop_at, length-take-le}
use borrow.Author.Tests.{le-leb, lt-leb}
use Rattle.layout.specs.declared.Role.{Role}
use Rattle.layout.specs.declared.Role.TheVariants.{Data, Move}
use Rattle.layout.specs.declared.Motion.TheVariants.{Skip, Back, Goto}
use Rattle.layout.specs.declared.Count.{Count}
use Rattle.layout.specs.declared.Field.{Field}
use Rattle.layout.specs.Layout.{slot_count}
use Rattle.record.specs.declared.slots.Slot.{Slot}
use Rattle.record.specs.Table.{slot_width, Value, slot_numbers, value_bytes}
use Rattle.record.specs.Geometry.{amount, bytes_for}
use Rattle.record.specs.Packing.{Filled, filled}
use Rattle.record.specs.Reading.{put_into}
use Rattle.runs.specs.Ends.{fills, end_of}
use Rattle.runs.proofs.Joined.{bytes_of, joined}
use Rattle.record.proofs.Fields.{fills-some, split}
use Rattle.record.proofs.Readings.{length-slot-numbers}
use Rattle.evolution.specs.Claim.{record_bytes, read_back, all_back, set_by, AsLent}
use Rattle.evolution.proofs.Run.{Good, AllGood, one, fields_in, past-due}

-- ---- the bytes of a record

joined_step : (rest : List Filled) → joined rest ≡ record_bytes rest → (k : Role) (u : Bool) (n : Count) (xs : List ℕ) → Good k n xs
    → joined (one k u n xs ∷ rest) ≡ record_bytes (one k u n xs ∷ rest)
unfolding joined bytes_of record_bytes fills
joined_step rest e (Data s) u n xs h = rw (h.3 (length xs), e)
joined_step rest e (Move Skip) u n xs h = rw e
joined_step rest e (Move Back) u n xs h = absurd h
joined_step rest e (Move Goto) u n xs h = absurd h

pub joined_bytes : (fs : List Filled) → AllGood fs → joined fs ≡ record_bytes fs
unfolding joined record_bytes
joined_bytes [] h = refl
joined_bytes (a ∷ rest) h = joined_step rest (joined_bytes rest h.1) a.field.role a.field.unsigned a.field.count a.items h.0

-- ---- the values due are the first of all values

abbrev First : ℕ → ℕ → List Filled → Type 0
First cut before fs = set_by cut before fs ≡ take (length (set_by cut before fs)) (all_back fs)

first_step : (cut before : ℕ) (rest : List Filled) → ((b : ℕ) → First cut b rest) → (k : Role) (u : Bool) (n : Count) (xs : List ℕ) → First cut before (one k u n xs ∷ rest)
unfolding set_by all_back fills
first_step cut before rest ih (Data s) u n xs =
    let end : ℕ = before + bytes_for s (amount n 0) in
    split end cut
    (λ (h : end ≤ cut). rw (le-leb end cut h) (ap (λ (vs : List Value). read_back s u (amount n 0) xs ∷ vs) (ih end)))
    (λ (h : cut < end). rw (lt-leb end cut h, past-due cut end rest h))
first_step cut before rest ih (Move m) u n xs = ih (before + fills (Move m) n)

pub due-first : (cut before : ℕ) (fs : List Filled) → First cut before fs
unfolding set_by all_back
due-first cut before [] = refl
due-first cut before (a ∷ rest) = first_step cut before rest (λ b. due-first cut b rest) a.field.role a.field.unsigned a.field.count a.items

-- ---- where all end at or before the cut, all are due

all-step : (cut before : ℕ) (rest : List Filled) → ((b : ℕ) → b + end_of (fields_in rest) ≤ cut → set_by cut b rest ≡ all_back rest)
    → (k : Role) (u : Bool) (n : Count) (xs : List ℕ) → before + (fills k n + end_of (fields_in rest)) ≤ cut → set_by cut before (one k u n xs ∷ rest) ≡ all_back (one k u n xs ∷ rest)
unfolding set_by all_back fills
all-step cut before rest ih (Data s) u n xs h =
    let end : ℕ = before + bytes_for s (amount n 0) in
    rw (le-leb end cut (omega arith)) (ap (λ (vs : List Value). read_back s u (amount n 0) xs ∷ vs) (ih end (omega arith)))
all-step cut before rest ih (Move m) u n xs h = ih (before + fills (Move m) n) (omega arith)

pub all-due : (cut before : ℕ) (fs : List Filled) → before + end_of (fields_in fs) ≤ cut → set_by cut before fs ≡ all_back fs
unfolding set_by all_back fields_in end_of
all-due cut before [] h = refl
all-due cut before (a ∷ rest) h = all-step cut before rest (λ b. all-due cut b rest) a.field.role a.field.unsigned a.field.count a.items h

-- ---- past the cut no value is due

none-step : (cut before : ℕ) (rest : List Filled) → ((b : ℕ) → cut ≤ b → set_by cut b rest ≡ [])
    → (k : Role) (u : Bool) (n : Count) (xs : List ℕ) → Good k n xs → cut ≤ before → set_by cut before (one k u n xs ∷ rest) ≡ []
unfolding set_by fills
none-step cut before rest ih (Data s) u n xs g h =
    let end : ℕ = before + bytes_for s (amount n 0) in
    let some : 0 < bytes_for s (amount n 0) = fills-some s (amount n 0) g.0 g.2 in
    rw (lt-leb end cut (omega arith)) (ih end (omega arith))
none-step cut before rest ih (Move m) u n xs g h = ih (before + fills (Move m) n) (omega arith)

pub none-due : (cut before : ℕ) (fs : List Filled) → AllGood fs → cut ≤ before → set_by cut before fs ≡ []
unfolding set_by
none-due cut before [] g h = refl
none-due cut before (a ∷ rest) g h =
    none-step cut before rest (λ b k. none-due cut b rest g.1 k) a.field.role a.field.unsigned a.field.count a.items g.0 h

-- ---- of fields one after the other

abbrev Both : ℕ → ℕ → List Filled → List Filled → Type 0
Both cut before fs gs = set_by cut before (fs ++ gs) ≡ set_by cut before fs ++ set_by cut (before + end_of (fields_in fs)) gs

both-step : (cut before : ℕ) (fs gs : List Filled) → ((b : ℕ) → Both cut b fs gs) → (k : Role) (u : Bool) (n : Count) (xs : List ℕ)
    → set_by cut before (one k u n xs ∷ (fs ++ gs)) ≡ set_by cut before (one k u n xs ∷ fs) ++ set_by cut (before + (fills k n + end_of (fields_in fs))) gs
unfolding set_by fills
both-step cut before fs gs ih (Data s) u n xs =
    let end : ℕ = before + bytes_for s (amount n 0) in
    let e : end + end_of (fields_in fs) ≡ before + (bytes_for s (amount n 0) + end_of (fields_in fs)) = omega arith in
    let on : set_by cut end (fs ++ gs) ≡ set_by cut end fs ++ set_by cut (before + (bytes_for s (amount n 0) + end_of (fields_in fs))) gs = rw e at (ih end) in
    split end cut
    (λ (h : end ≤ cut). rw (le-leb end cut h) (ap (λ (vs : List Value). read_back s u (amount n 0) xs ∷ vs) on))
    (λ (h : cut < end). rw (lt-leb end cut h) on)
both-step cut before fs gs ih (Move m) u n xs =
    let e : before + fills (Move m) n + end_of (fields_in fs) ≡ before + (fills (Move m) n + end_of (fields_in fs)) = omega arith in
    rw e at (ih (before + fills (Move m) n))

pub due-both : (cut before : ℕ) (fs gs : List Filled) → Both cut before fs gs
unfolding set_by fields_in end_of
due-both cut before [] gs = let e : before + 0 ≡ before = omega arith in rw e
due-both cut before (a ∷ fs) gs = both-step cut before fs gs (λ b. due-both cut b fs gs) a.field.role a.field.unsigned a.field.count a.items

pub good-behind : (fs gs : List Filled) → AllGood (fs ++ gs) → AllGood gs
good-behind [] gs h = h
good-behind (a ∷ fs) gs h = good-behind fs gs h.1

-- ---- a value for each field that takes a slot

count-step : (area : List ℕ) (fs : List Field) → ((ts : List Slot) → length (all_back (filled area ts fs)) ≡ slot_count fs) → (ts : List Slot) (k : Role) (u : Bool) (n : Count)
    → length (all_back (filled area ts (record { role = k; unsigned = u; count = n } ∷ fs))) ≡ slot_count (record { role = k; unsigned = u; count = n } ∷ fs)
unfolding all_back filled slot_count
count-step area fs ih ts (Data s) u n = ap suc (ih (drop 1 ts))
count-step area fs ih ts (Move m) u n = ih ts

pub count-back : (area : List ℕ) (ts : List Slot) (fs : List Field) → length (all_back (filled area ts fs)) ≡ slot_count fs
unfolding all_back filled slot_count
count-back area ts [] = refl
count-back area ts (f ∷ fs) = count-step area fs (λ us. count-back area us fs) ts f.role f.unsigned f.count

-- ---- what stays as lent

pub rest-stays : (slots area : List ℕ) (mark : ℕ) (at : List ℕ) (vs : List Value) → mark ≤ length area
    → AsLent slots area mark (length vs) (length (value_bytes vs)) (put_into slots area mark at vs)
unfolding put_into
rest-stays slots area mark at vs h =
    let bs : List ℕ = value_bytes vs in
    let behind : List ℕ = drop (mark + length bs) area in
    let front : length (take mark area) ≡ mark = length-take-le mark area h in
    let both : length (take mark area ++ bs) ≡ mark + length bs = length-append (take mark area) bs ∙ ap (λ (n : ℕ). n + length bs) front in
    record {
      slots-after = drop_at (slot_numbers mark at vs) (drop (slot_width * length vs) slots) (slot_width * length vs) (length-slot-numbers mark at vs);
      area-before = ap (take mark) (append_assoc (take mark area) bs behind) ∙ take_at (take mark area) (bs ++ behind) mark front;
      area-after = drop_at (take mark area ++ bs) behind (mark + length bs) both;
    }
