-- Laws of the code: what the loop keeps, and each way out of the call.
use Rattle.std.specs.Prelude.{if◌then◌else◌}
use Prim.Native.Nat.{ℕ, suc, ◌+◌, ◌*◌, ◌≤◌, ◌<◌}
use native.Mathlib.Omega.{arith}
use mathlib.Core.Path.{◌≡◌, refl, ap, ◌∙◌}
use mathlib.Core.Bool.{Bool, true, false}
use mathlib.Core.List.{List, [], ◌∷◌}
use lib.ListN.{length, get_or, take, drop, length-take}
use borrow.Author.Tests.{le-leb, lt-leb}
use Rattle.layout.specs.declared.Field.{Field}
use Rattle.layout.specs.declared.Refusal.{Refusal}
use Rattle.layout.specs.declared.Refusal.TheVariants.{BadSize}
use Rattle.layout.specs.Refusals.{Result, ok, refused}
use Rattle.layout.specs.Layout.{max_layout, takes_slot, fields_of, slot_count}
use Rattle.layout.specs.Codes.{field_of}
use Rattle.layout.specs.inside.Parsing.{decoded}
use Rattle.layout.proofs.Laws.{AllSound, packed-reads}
use Rattle.describe.proofs.Counts.{AllCounted, counts-limited}
use Rattle.layout.proofs.Decoded.{decoded-front, Learnt, next_field, no_field}
use Rattle.record.specs.declared.Cursor.{Cursor}
use Rattle.record.specs.inside.Cursor.{origin}
use Rattle.record.specs.Packing.{accepted, refusal}
use Rattle.pack_check.specs.inside.measuring.{advance}
use Rattle.pack_check.proofs.measuring.Bounds.{advance-within}
use Rattle.describe.specs.Description.{field_reach, described}
use Rattle.describe.specs.inside.Measure.{passed, Holds, Least}
use Rattle.describe.proofs.Passing.{passed_length, advance-near}

-- ---- the loop, in front of field i

pub record Passing (n : ℕ) (ws : List ℕ) (i : ℕ) (c : Cursor) : Type 0 where
  pub few : i ≤ n
  pub within : c.at ≤ c.end
  pub near : c.end ≤ i * field_reach
  pub sound : AllSound (drop i (decoded n ws))
  pub counted : AllCounted (drop i (decoded n ws))
  pub same : passed c (drop i (decoded n ws)) ≡ passed origin (decoded n ws)

module _ (n : ℕ) (ws : List ℕ) (h : Holds n ws) where
  pub passing-none : Passing n ws 0 origin
  passing-none = record {
    few = omega arith;
    within = omega arith;
    near = omega arith;
    sound = (packed-reads h.text (decoded n ws) h.fields).1;
    counted = counts-limited true h.text (decoded n ws) h.fields;
    same = refl;
  }

  module _ (i : ℕ) (c : Cursor) (p : Passing n ws i c) where
    -- the cursor is far from wrapping
    pub passing-near : c.at < 1152921504606846976
    passing-near = omega (arith, p.within, p.near, p.few, h.few, h.room)

    pub passing-next : i < n → (f : Field) → f ≡ field_of (get_or ws i 0) → (d : Cursor) → d ≡ advance c f.role f.count 0 → Passing n ws (i + 1) d
    unfolding passed
    passing-next l f found d e =
        let here : drop i (decoded n ws) ≡ f ∷ drop (i + 1) (decoded n ws) = rw found (next_field n ws h.few i l) in
        let sound : AllSound (f ∷ drop (i + 1) (decoded n ws)) = rw here at p.sound in
        let counted : AllCounted (f ∷ drop (i + 1) (decoded n ws)) = rw here at p.counted in
        let one : d.end ≤ c.end + field_reach = rw e (advance-near c f.role f.count sound.0 counted.0 p.within) in
        record {
          few = omega arith;
          within = rw e (advance-within c f.role f.count 0 p.within);
          near = omega (arith, p.near);
          sound = sound.1;
          counted = counted.1;
          same = ap (λ (x : Cursor). passed x (drop (i + 1) (decoded n ws))) e ∙ (rw here at p.same);
        }

    pub passing-done : n ≤ i → Least (decoded n ws) c.end
    unfolding passed
    passing-done l = record {
      same = ap (λ (x : Cursor). x.end) (rw (no_field n ws h.few i l) at p.same) ∙ passed_length (decoded n ws);
      small = omega (arith, p.near, p.few, h.few, h.room);
    }

-- ---- the call

-- no more slots than fields
pub slots-few : (fs : List Field) → slot_count fs ≤ length fs
unfolding slot_count
slots-few [] = omega arith
slots-few (f ∷ fs) = step (takes_slot f.role) (slots-few fs)
  where
    step : (t : Bool) → slot_count fs ≤ length fs → (if t then suc (slot_count fs) else slot_count fs) ≤ suc (length fs)
    step true h = omega arith
    step false h = omega arith

module _ (layout : List ℕ) where
  pub too_long : max_layout < length layout → refusal BadSize 0 ≡ described layout
  unfolding described
  too_long h = rw (lt-leb (length layout) max_layout h)

  pub refused-fields : length layout ≤ max_layout → (why : Refusal) (place : ℕ) → fields_of true layout ≡ refused why place → refusal why place ≡ described layout
  unfolding described
  refused-fields h why place e = rw (le-leb (length layout) max_layout h, e)

  pub told : length layout ≤ max_layout → (fs : List Field) → fields_of true layout ≡ ok fs → (slots least : ℕ) → slots ≡ slot_count fs → Least fs least
      → accepted slots least ≡ described layout
  unfolding described
  told h fs e slots least s l = rw (le-leb (length layout) max_layout h, e, s, l.same)
