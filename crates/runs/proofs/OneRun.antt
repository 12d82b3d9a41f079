-- The recursions over the fields make the same turns: each goes on from the same place, and stops at the same field. So
-- each is a part of the run, field by field; of the positions a table takes no more than there are values.
use Prim.Native.Nat.{ℕ, suc, ◌+◌, ◌-◌, ◌≤◌, ◌<◌}
use mathlib.Core.Path.{◌≡◌, refl, sym, ap}
use mathlib.Core.Bool.{Bool, true, false, ◌&&◌}
use mathlib.Core.List.{List, [], ◌∷◌}
use lib.ListN.{length}
use lib.Seq.{get_or-take}
use lib.Dec.{leb}
use borrow.Author.Tests.{le-leb, lt-leb}
use Rattle.layout.specs.declared.Role.{Role}
use Rattle.layout.specs.declared.Role.TheVariants.{Data, Move}
use Rattle.layout.specs.declared.Count.{Count}
use Rattle.layout.specs.declared.Field.{Field}
use Rattle.layout.specs.declared.Refusal.{Refusal}
use Rattle.layout.specs.Refusals.{Result, ok, refused}
use Rattle.layout.specs.Layout.{fields_of, slot_count}
use Rattle.record.specs.Table.{slots_of, Value, value_bytes}
use Rattle.record.specs.Geometry.{bytes_for, items_of, moved_in, sizes_fit}
use Rattle.record.specs.Reading.{value_at, values_from, positions_from, steps_from, reads, put_into, with_steps, read, read_steps}
use Rattle.record.proofs.Fields.{split}
use Rattle.runs.specs.OneRun.{run, PartsOf, OneRun, finds, ReadsByRun}
use Rattle.runs.proofs.Shown.{put_same}

-- ---- the parts

module _ (bs : List ℕ) (fs : List Field) (ih : (to : ℕ) → PartsOf bs to fs) (at : ℕ) where
  parts-step : (k : Role) (u : Bool) (n : Count) → PartsOf bs at (record { role = k; unsigned = u; count = n } ∷ fs)
  unfolding values_from positions_from steps_from run
  parts-step (Data s) u n =
      let left : ℕ = length bs - at in
      let need : ℕ = bytes_for s (items_of s n left) in
      let v : Value = value_at bs at s u (items_of s n left) in
      let x : PartsOf bs (at + need) fs = ih (at + need) in
      split need left
      (λ (h : need ≤ left).
      record {
        values = rw (le-leb need left h) (ap (λ (vs : List Value). v ∷ vs) x.values);
        positions = rw (le-leb need left h) (ap (λ (ps : List ℕ). at ∷ ps) x.positions);
        steps = rw (le-leb need left h) (ap suc x.steps);
        pairs = rw (le-leb need left h) (ap suc x.pairs);
      })
      (λ (h : left < need).
      record {
        values = rw (lt-leb need left h);
        positions = rw (lt-leb need left h);
        steps = rw (lt-leb need left h);
        pairs = rw (lt-leb need left h);
      })
  parts-step (Move m) u n =
      let x : PartsOf bs (moved_in (length bs) m n at) fs = ih (moved_in (length bs) m n at) in
      record { values = x.values; positions = x.positions; steps = ap suc x.steps; pairs = x.pairs }

pub one-run : OneRun
unfolding values_from positions_from steps_from run
one-run bs at [] = record { values = refl; positions = refl; steps = refl; pairs = refl }
one-run bs at (f ∷ fs) = parts-step bs fs (λ to. one-run bs to fs) at f.role f.unsigned f.count

-- ---- the call

module _ (bs slots area : List ℕ) (mark : ℕ) (fs : List Field) where
  -- an accepted one
  same_left : with_steps (put_into slots area mark (positions_from (length bs) 0 fs) (values_from bs 0 fs)) (steps_from (length bs) 0 fs)
      ≡ with_steps (put_into slots area mark (run bs 0 fs).positions (run bs 0 fs).values) (run bs 0 fs).steps
  same_left =
      let x : PartsOf bs 0 fs = one-run bs 0 fs in
      let ps : List ℕ = positions_from (length bs) 0 fs in
      rw (put_same slots area mark (values_from bs 0 fs) ps (run bs 0 fs).positions (λ i l. sym (rw (← x.positions) (get_or-take _ _ _ _ l))), x.values, x.steps)

-- the tests, one after the other
told {ℓ} : {X : Type ℓ} (t : Bool) → (t ≡ true → X) → (t ≡ false → X) → X
told true a b = a refl
told false a b = b refl

given {ℓ} : {A : Type 0} {X : Type ℓ} (r : Result A) → ((x : A) → r ≡ ok x → X) → ((why : Refusal) (place : ℕ) → r ≡ refused why place → X) → X
given (ok x) a b = a x refl
given (refused why place) a b = b why place refl

pub reads-by-run : ReadsByRun
unfolding read read_steps reads finds
reads-by-run layout bs slots area mark =
    told (sizes_fit layout slots bs area && leb mark (length area))
    (λ s.
    given (fields_of false layout)
    (λ fs f.
    let x : PartsOf bs 0 fs = one-run bs 0 fs in
    told (leb (slot_count fs) (length (slots_of slots)))
    (λ c.
    told (leb (mark + length (value_bytes (values_from bs 0 fs))) (length area))
    (λ r. let r' : leb (mark + length (value_bytes (run bs 0 fs).values)) (length area) ≡ true = rw x.values at r in rw (s, f, c, r, r') (same_left bs slots area mark fs))
    (λ r. let r' : leb (mark + length (value_bytes (run bs 0 fs).values)) (length area) ≡ false = rw x.values at r in rw (s, f, c, r, r')))
    (λ c. rw (s, f, c)))
    (λ why place f. rw (s, f)))
    (λ s. rw s)
