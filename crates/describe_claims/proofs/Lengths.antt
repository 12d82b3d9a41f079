-- Where no value is starred, the fields reach as far as the pass of the description does: each field takes the highest
-- position to just where its row says.
use Rattle.std.specs.declared.option.Option.TheVariants.{Some}
use Rattle.std.specs.Prelude.{if◌then◌else◌}
use Prim.Native.Nat.{ℕ, ◌+◌, ◌≤◌, max}
use native.Mathlib.Omega.{arith}
use mathlib.Core.Path.{◌≡◌, refl, sym, ◌∙◌}
use mathlib.Core.Bool.{true, ◌&&◌, true≢false}
use mathlib.Core.List.{List, [], ◌∷◌}
use lib.Dec.{T, eqb, ltb}
use borrow.Author.Tests.{lt-ltb, leb-true}
use Rattle.layout.specs.declared.Role.{Role}
use Rattle.layout.specs.declared.Role.TheVariants.{Data, Move}
use Rattle.layout.specs.declared.Motion.TheVariants.{Skip, Back, Goto}
use Rattle.layout.specs.declared.Count.{Count}
use Rattle.layout.specs.declared.Count.TheVariants.{Absent, Star, Times}
use Rattle.layout.specs.declared.Field.{Field}
use Rattle.layout.specs.Layout.{max_count, in_limit, has_meaning, slots_taken}
use Rattle.record.specs.declared.Cursor.{Cursor}
use Rattle.pack_check.specs.inside.measuring.{advance}
use Rattle.pack_check.proofs.measuring.Bounds.{advance-within}
use Rattle.describe.specs.Claim.{no_star, starless}
use Rattle.record.specs.inside.Cursor.{origin}
use Rattle.record.proofs.Bytes.{both}
use Rattle.describe.specs.Description.{least_length}
use Rattle.describe.specs.inside.Measure.{passed}
use Rattle.describe.proofs.Passing.{passed_length}
use Rattle.describe.specs.Placed.{Placed, fields_in}
use Rattle.describe.proofs.Counts.{AllKept}
use Rattle.describe.specs.declared.fields.Track.{Track}
use Rattle.describe.specs.Rows.{filling, onward, star, count_shown, number_shown, row_of, rows_from, rows_of}
use Rattle.describe_claims.specs.Claim.{reach, furthest}
use Rattle.describe_claims.proofs.Letters.{is_goto, AllLetters}

-- ---- one field

-- the track of a cursor that is fixed
abbrev fixed_at : Cursor → Track
fixed_at c = record { at = Some c.at; highest = Some c.end }

-- a value without a star
abbrev Unstarred : Role → Count → Type 0
Unstarred (Data s) n = T (no_star n)
Unstarred (Move m) n = Unit {0}

same-track : {a b x y : ℕ} → a ≡ b → x ≡ y → ◌≡◌ {A = Track} (record { at = Some a; highest = Some x }) (record { at = Some b; highest = Some y })
same-track e f = cc

fixed_on : (c : Cursor) (k : Role) (n : Count) → c.at ≤ c.end → Unstarred k n → has_meaning true k n ≡ true
    → onward (fixed_at c) k n ≡ fixed_at (advance c k n 0)
fixed_on c (Data s) Absent w u m = refl
fixed_on c (Data s) Star w u m = absurd u
fixed_on c (Data s) (Times n) w u m = refl
fixed_on c (Move Skip) Absent w u m = refl
fixed_on c (Move Skip) Star w u m = absurd (true≢false (sym m))
fixed_on c (Move Skip) (Times n) w u m = refl
fixed_on c (Move Back) Absent w u m = same-track refl (omega arith)
fixed_on c (Move Back) Star w u m = same-track (omega arith) (omega arith)
fixed_on c (Move Back) (Times n) w u m = same-track refl (omega arith)
fixed_on c (Move Goto) n w u m = moved n
  where
    moved : (n : Count) → onward (fixed_at c) (Move Goto) n ≡ fixed_at (advance c (Move Goto) n 0)
    moved Absent = refl
    moved Star = refl
    moved (Times n) = refl

-- how far a field reaches, by its type
abbrev reach_of : Cursor → Role → Count → ℕ
reach_of c k n = if is_goto k && ltb (count_shown n) star then count_shown n else (c.at + number_shown (filling k n))

reach-on : (c : Cursor) (k : Role) (n : Count) → c.at ≤ c.end → Unstarred k n → in_limit n ≡ true
    → has_meaning true k n ≡ true → max c.end (reach_of c k n) ≡ (advance c k n 0).end
reach-on c (Data s) Absent w u l m = refl
reach-on c (Data s) Star w u l m = absurd u
reach-on c (Data s) (Times n) w u l m = refl
reach-on c (Move Skip) Absent w u l m = refl
reach-on c (Move Skip) Star w u l m = absurd (true≢false (sym m))
reach-on c (Move Skip) (Times n) w u l m = refl
reach-on c (Move Back) n w u l m = omega arith
reach-on c (Move Goto) Absent w u l m = absurd (true≢false (sym m))
reach-on c (Move Goto) Star w u l m = omega arith
reach-on c (Move Goto) (Times n) w u l m = rw (lt-ltb n star (omega (arith, leb-true n max_count l)))

-- ---- all fields

starless-split : (f : Field) (fs : List Field) → T (starless (f ∷ fs))
    → Unstarred f.role f.count × T (starless fs)
unfolding starless
starless-split f fs h = step f.role h
  where
    step : (k : Role) → T (elim k [ Data s ↦ no_star f.count && starless fs | Move m ↦ starless fs ])
        → Unstarred k f.count × T (starless fs)
    step (Data s) h = both (no_star f.count) (starless fs) h
    step (Move m) h = (tt, h)

reach_far : (ps : List Placed) (k : ℕ) (c : Cursor) → c.at ≤ c.end → T (starless (fields_in ps))
    → AllKept true (fields_in ps) → AllLetters ps
    → max c.end (furthest (rows_from k (fixed_at c) ps)) ≡ (passed c (fields_in ps)).end
unfolding rows_from furthest passed
reach_far [] k c w s l y = omega arith
reach_far (p ∷ ps) k c w s l y =
    let f : Field = p.what in
    let (u, rest) = starless-split f (fields_in ps) s in
    let d : Cursor = advance c f.role f.count 0 in
    let letter : eqb p.letter 64 ≡ is_goto f.role = y.0.goto in
    let here : reach (row_of k (fixed_at c) p) ≡ reach_of c f.role f.count = rw letter in
    let one : max c.end (reach_of c f.role f.count) ≡ d.end =
    reach-on c f.role f.count w u l.0.0 l.0.1 in
    let on : onward (fixed_at c) f.role f.count ≡ fixed_at d = fixed_on c f.role f.count w u l.0.1 in
    let ih : max d.end (furthest (rows_from (k + slots_taken f) (fixed_at d) ps)) ≡ (passed d (fields_in ps)).end =
    reach_far ps (k + slots_taken f) d (advance-within c f.role f.count 0 w) rest l.1 y.1 in
    rw (here, on) (three c.end (reach_of c f.role f.count) _ d.end _ one ih)
  where
    three : (a b x d y : ℕ) → max a b ≡ d → max d x ≡ y → max a (max b x) ≡ y
    three a b x d y e f = omega arith

pub rows-reach : (ps : List Placed) → T (starless (fields_in ps)) → AllKept true (fields_in ps) → AllLetters ps
    → least_length (fields_in ps) ≡ furthest (rows_of ps)
unfolding rows_of
rows-reach ps s l y =
    sym (passed_length (fields_in ps)) ∙ sym (reach_far ps 0 origin (omega arith) s l y) ∙ (omega arith)
