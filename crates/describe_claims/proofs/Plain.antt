-- The slots are counted field by field; and in a plain layout, where the cursor only goes forward by what each field
-- fills, the positions are the ends of the fields before. A reading begins its fields there as long as the record has
-- bytes for them.
use Rattle.std.specs.declared.option.Option.TheVariants.{Some}
use Prim.Native.Nat.{ℕ, zero, suc, ◌+◌, ◌-◌, ◌≤◌, ◌<◌, min}
use native.Mathlib.Nat.{add-zero}
use native.Mathlib.Numerals.{add-one}
use native.Mathlib.Omega.{arith}
use mathlib.Core.Path.{◌≡◌, refl, sym, ap, ◌∙◌}
use mathlib.Core.Bool.{Bool, ◌&&◌}
use mathlib.Core.List.{List, [], ◌∷◌}
use lib.ListN.{length, take, length-map}
use lib.Dec.{T, leb}
use borrow.Author.Tests.{ne_eqb, le-leb, lt-leb, leb-true}
use Rattle.layout.specs.declared.Role.{Role}
use Rattle.layout.specs.declared.Role.TheVariants.{Data, Move}
use Rattle.layout.specs.declared.Motion.TheVariants.{Skip, Back, Goto}
use Rattle.layout.specs.declared.Count.{Count}
use Rattle.layout.specs.declared.Count.TheVariants.{Absent, Star, Times}
use Rattle.layout.specs.declared.Field.{Field}
use Rattle.layout.specs.Layout.{max_layout, slot_count}
use Rattle.layout.proofs.Laws.{AllSound}
use Rattle.record.specs.Geometry.{amount, bytes_for, items_in}
use Rattle.record.specs.Reading.{positions_from}
use Rattle.record.proofs.Bytes.{both}
use Rattle.record.proofs.Fields.{fills-some, split}
use Rattle.runs.specs.Ends.{plain_role, plain_count, fills, end_of}
use Rattle.runs.specs.OneRun.{run}
use Rattle.runs.proofs.Calls.{T→true}
use Rattle.evolution.specs.Claim.{plain, starts_from}
use Rattle.describe.specs.Placed.{Placed, fields_in}
use Rattle.describe.specs.declared.fields.Track.{Track}
use Rattle.describe.specs.Rows.{Extent, none, filling, onward, track_start, rows_from, rows_of}
use Rattle.describe_claims.specs.Claim.{takers, slots_shown, positions, count_up}

-- ---- slots

slots-from : (ps : List Placed) (k : ℕ) (t : Track) → k + length ps ≤ max_layout
    → slots_shown (rows_from k t ps) ≡ count_up k (slot_count (fields_in ps))
unfolding rows_from takers count_up slot_count
slots-from [] k t few = refl
slots-from (p ∷ ps) k t few = step p.what.role refl (λ j u l. slots-from ps j u l)
  where
    step : (c : Role) → p.what.role ≡ c
        → ((j : ℕ) (u : Track) → j + length ps ≤ max_layout → slots_shown (rows_from j u ps) ≡ count_up j (slot_count (fields_in ps)))
        → slots_shown (rows_from k t (p ∷ ps)) ≡ count_up k (slot_count (fields_in (p ∷ ps)))
    step (Data s) e ih =
        rw (e, ne_eqb k none (λ z. omega arith), add-one) (ap (λ (xs : List ℕ). k ∷ xs) (ih (suc k) (onward t (Data s) p.what.count) (omega arith)))
    step (Move m) e ih = rw (e, add-zero) (ih k (onward t (Move m) p.what.count) (omega arith))

pub rows-slots : (ps : List Placed) → length ps ≤ max_layout
    → slots_shown (rows_of ps) ≡ count_up 0 (slot_count (fields_in ps))
unfolding rows_of
rows-slots ps few = slots-from ps 0 track_start (omega arith)

length_up : (k n : ℕ) → length (count_up k n) ≡ n
unfolding count_up
length_up k zero = refl
length_up k (suc n) = ap suc (length_up (suc k) n)

pub rows_taken : (ps : List Placed) → length ps ≤ max_layout → slot_count (fields_in ps) ≡ length (takers (rows_of ps))
rows_taken ps few =
    sym (length_up 0 (slot_count (fields_in ps))) ∙ ap length (sym (rows-slots ps few)) ∙ length-map (takers (rows_of ps)) (λ r. r.slot)

-- ---- a plain field

-- how far it goes, in packing and in reading
abbrev Plain : Role → Count → Type 0
Plain (Data s) n =
    (filling (Data s) n ≡ Some (fills (Data s) n)) × (0 < amount n 0) × ((all : ℕ) → amount n all ≡ amount n 0)
Plain (Move Skip) n = (filling (Move Skip) n ≡ Some (fills (Move Skip) n)) × ((all : ℕ) → amount n all ≡ amount n 0)
Plain (Move Back) n = ⊥
Plain (Move Goto) n = ⊥

plain-field : (k : Role) (n : Count) → T (plain_role k) → T (plain_count n) → Plain k n
unfolding fills
plain-field (Data s) Absent h l = (refl, omega arith, λ all. refl)
plain-field (Data s) Star h l = absurd l
plain-field (Data s) (Times n) h l = (refl, leb-true 1 n (T→true (leb 1 n) l), λ all. refl)
plain-field (Move Skip) Absent h l = (refl, λ all. refl)
plain-field (Move Skip) Star h l = absurd l
plain-field (Move Skip) (Times n) h l = (refl, λ all. refl)
plain-field (Move Back) n h l = absurd h
plain-field (Move Goto) n h l = absurd h

abbrev AllPlain : List Field → Type 0
AllPlain [] = Unit {0}
AllPlain (f ∷ fs) = Plain f.role f.count × AllPlain fs

pub all_plain : (fs : List Field) → T (plain fs) → AllPlain fs
unfolding plain
all_plain [] h = tt
all_plain (f ∷ fs) h =
    let (own, others) = both (plain_role f.role && plain_count f.count) (plain fs) h in
    let (role, count) = both (plain_role f.role) (plain_count f.count) own in
    (plain-field f.role f.count role count, all_plain fs others)

-- ---- positions

abbrev Begin : List Placed → Type 0
Begin ps =
    (k a : ℕ) (h : Extent) → k + length ps ≤ max_layout → AllPlain (fields_in ps) → positions (rows_from k (record { at = Some a; highest = h }) ps) ≡ starts_from a (fields_in ps)

begin-step : (ps : List Placed) → Begin ps → (c : Role) (u : Bool) (n : Count) (place letter size : ℕ)
    → Begin (record { what = record { role = c; unsigned = u; count = n }; place = place; letter = letter; size = size } ∷ ps)
unfolding rows_from takers starts_from fills
begin-step ps ih (Data s) u n place letter size k a h few l =
    rw (ne_eqb k none (λ z. omega arith), l.0.0) (ap (λ (xs : List ℕ). a ∷ xs) (ih (k + 1) (a + fills (Data s) n) _ (omega arith) l.1))
begin-step ps ih (Move Skip) u n place letter size k a h few l =
    rw l.0.0 (ih (k + 0) (a + fills (Move Skip) n) _ (omega arith) l.1)
begin-step ps ih (Move Back) u n place letter size k a h few l = absurd l.0
begin-step ps ih (Move Goto) u n place letter size k a h few l = absurd l.0

begin : (ps : List Placed) → Begin ps
unfolding rows_from takers starts_from
begin [] k a h few l = refl
begin (p ∷ ps) k a h few l =
    begin-step ps (begin ps) p.what.role p.what.unsigned p.what.count p.place p.letter p.size k a h few l

pub rows-begin : (ps : List Placed) → length ps ≤ max_layout → T (plain (fields_in ps))
    → positions (rows_of ps) ≡ starts_from 0 (fields_in ps)
unfolding rows_of
rows-begin ps few h = begin ps 0 0 (Some 0) (omega arith) (all_plain (fields_in ps) h)

-- ---- a reading of a record that is long enough

abbrev Whole : ℕ → List Field → Type 0
Whole size fs = (at : ℕ) → at + end_of fs ≤ size → AllPlain fs → positions_from size at fs ≡ starts_from at fs

whole-step : (size : ℕ) (fs : List Field) → Whole size fs → (c : Role) (u : Bool) (n : Count) → Whole size (record { role = c; unsigned = u; count = n } ∷ fs)
unfolding positions_from starts_from fills end_of
whole-step size fs ih (Data s) u n at h l =
    rw (l.0.2 (items_in s (size - at))) (ap (λ (xs : List ℕ). at ∷ xs) (ih (at + bytes_for s (amount n 0)) (omega arith) l.1))
whole-step size fs ih (Move Skip) u n at h l =
    let here : min (at + amount n size) size ≡ at + amount n 0 = omega (arith, l.0.1 size) in
    rw here (ih (at + amount n 0) (omega arith) l.1)
whole-step size fs ih (Move Back) u n at h l = absurd l.0
whole-step size fs ih (Move Goto) u n at h l = absurd l.0

whole : (size : ℕ) (fs : List Field) → Whole size fs
unfolding positions_from starts_from
whole size [] at h l = refl
whole size (f ∷ fs) at h l = whole-step size fs (whole size fs) f.role f.unsigned f.count at h l

pub reads_whole : (fs : List Field) → T (plain fs) → (size : ℕ) → end_of fs ≤ size
    → positions_from size 0 fs ≡ starts_from 0 fs
reads_whole fs h size k = whole size fs 0 (omega arith) (all_plain fs h)

-- ---- and of a shorter one

module _ (bs : List ℕ) where
  -- at its end nothing is found
  abbrev Nothing : List Field → Type 0
  Nothing fs =
      AllPlain fs → AllSound fs → ((run bs (length bs) fs).values ≡ []) × ((run bs (length bs) fs).positions ≡ [])

  nothing-step : (fs : List Field) → Nothing fs → (c : Role) (u : Bool) (n : Count) → Nothing (record { role = c; unsigned = u; count = n } ∷ fs)
  unfolding run
  nothing-step fs ih (Data s) u n l y =
      let some : length bs - length bs < bytes_for s (amount n 0) =
      omega (arith, fills-some s (amount n 0) y.0 l.0.1) in
      rw (l.0.2 (items_in s (length bs - length bs)), lt-leb (bytes_for s (amount n 0)) (length bs - length bs) some) (refl, refl)
  nothing-step fs ih (Move Skip) u n l y =
      let end : min (length bs + amount n (length bs)) (length bs) ≡ length bs = omega arith in rw end (ih l.1 y.1)
  nothing-step fs ih (Move Back) u n l y = absurd l.0
  nothing-step fs ih (Move Goto) u n l y = absurd l.0

  nothing-found : (fs : List Field) → Nothing fs
  unfolding run
  nothing-found [] l y = (refl, refl)
  nothing-found (f ∷ fs) l y = nothing-step fs (nothing-found fs) f.role f.unsigned f.count l y

  abbrev Cut : List Field → Type 0
  Cut fs =
      (at : ℕ) → at ≤ length bs → AllPlain fs → AllSound fs → (run bs at fs).positions ≡ take (length (run bs at fs).values) (starts_from at fs)

  cut_step : (fs : List Field) → Cut fs → (c : Role) (u : Bool) (n : Count) → Cut (record { role = c; unsigned = u; count = n } ∷ fs)
  unfolding run starts_from fills
  cut_step fs ih (Data s) u n at w l y =
      let need : ℕ = bytes_for s (amount n 0) in
      rw (l.0.2 (items_in s (length bs - at)))
      (split need (length bs - at)
      (λ (h : need ≤ length bs - at). rw (le-leb need (length bs - at) h) (ap (λ (xs : List ℕ). at ∷ xs) (ih (at + need) (omega arith) l.1 y.1)))
      (λ (h : length bs - at < need). rw (lt-leb need (length bs - at) h)))
  cut_step fs ih (Move Skip) u n at w l y =
      let to : ℕ = min (at + amount n (length bs)) (length bs) in
      let same : amount n (length bs) ≡ amount n 0 = l.0.1 (length bs) in
      split (at + amount n 0) (length bs)
      (λ (h : at + amount n 0 ≤ length bs). let here : to ≡ at + amount n 0 = omega arith in rw here (ih (at + amount n 0) h l.1 y.1))
      (λ (h : length bs < at + amount n 0).
      let end : to ≡ length bs = omega arith in
      let (values, none-there) = nothing-found fs l.1 y.1 in
      rw (end, values, none-there))
  cut_step fs ih (Move Back) u n at w l y = absurd l.0
  cut_step fs ih (Move Goto) u n at w l y = absurd l.0

  cut : (fs : List Field) → Cut fs
  unfolding run starts_from
  cut [] at w l y = refl
  cut (f ∷ fs) at w l y = cut_step fs (cut fs) f.role f.unsigned f.count at w l y

  pub reads-cut : (fs : List Field) → T (plain fs) → AllSound fs
      → (run bs 0 fs).positions ≡ take (length (run bs 0 fs).values) (starts_from 0 fs)
  reads-cut fs h y = cut fs 0 (omega arith) (all_plain fs h) y
