-- The bytes of the area that values take at most, by the fields alone.
use Prim.Native.Nat.{ℕ, ◌+◌, ◌-◌, ◌*◌, ◌/◌, ◌%◌, ◌≤◌, ◌<◌}
use native.Mathlib.Nat.{le_refl, le_trans, le-div_iff_mul-le, div-mul-le_self, mul-le-mul}
use native.Mathlib.Omega.{arith}
use mathlib.Core.Path.{◌≡◌, refl, ap, ◌∙◌}
use mathlib.Core.Bool.{Bool, true, false}
use mathlib.Core.List.{List, [], ◌∷◌, map}
use lib.Dec.{leb}
use lib.ListN.{length, take}
use lib.Seq.{take-length}
use Rattle.std.specs.List.{sum_by}
use Rattle.std.proofs.lemmas.List.Sums.{sum_by-cons}
use Rattle.layout.specs.declared.Role.{Role}
use Rattle.layout.specs.declared.Role.TheVariants.{Data, Move}
use Rattle.layout.specs.declared.Shape.{Shape}
use Rattle.layout.specs.declared.Shape.TheVariants.{Text, Digits, Integers, Reals}
use Rattle.layout.specs.declared.Count.{Count}
use Rattle.layout.specs.declared.Count.TheVariants.{Absent, Star, Times}
use Rattle.layout.specs.declared.Field.{Field}
use Rattle.layout.specs.Layout.{takes_slot, to_nat}
use Rattle.layout.specs.Codes.{last_text, last_digits, last_integers, last_data, field_of, count_from, flag_unit, count_unit}
use Rattle.layout.specs.inside.Parsing.{shape_numbered, decoded, FitRole}
use Rattle.layout.proofs.Decoded.{code_shape, code-count, code-slotless}
use Rattle.layout.proofs.Numbered.{shape-text, shape-digits, shape-integers, shape-reals}
use Rattle.record.specs.Bytes.{part, join}
use Rattle.record.specs.Table.{area_bytes, value_bytes}
use Rattle.record.specs.Geometry.{per_byte, bytes_for, items_of, moved_in}
use Rattle.record.specs.Reading.{value_at, values_from}
use Rattle.record.proofs.Fields.{split}
use Rattle.reading.proofs.value.Loads.{text-bytes, digits-bytes, integers-eight, reals-eight, eights-size}
use Rattle.reading.proofs.measure.Room.{part-short, text-short, digits-short, code_fits, found-room}
use Rattle.reading.specs.inside.Bounds.{room_for, field_bound, value_bound}

-- ---- the bound of a code's field

no_slot : (bytes : ℕ) (k : Role) (n : Count) → to_nat (takes_slot k) ≡ 0 → field_bound bytes k n ≡ 0
no_slot bytes (Data s) n e = absurd (omega arith)
no_slot bytes (Move m) n e = refl

string-room : (d n : ℕ) → d ≤ last_digits → room_for (shape_numbered d) n ≡ n
string-room d n h = split d last_text (λ k. rw (shape-text d k)) (λ k. rw (shape-digits d k h))

number-room : (d n : ℕ) → last_digits < d → d ≤ last_data → room_for (shape_numbered d) n ≡ 8 * n
number-room d n l h = split d last_integers (λ k. rw (shape-integers d l k)) (λ k. rw (shape-reals d k h))

module _ (bytes w : ℕ) where
  pub bound-moved : last_data < w % flag_unit → 0 ≡ field_bound bytes (field_of w).role (field_of w).count
  bound-moved h = let e = no_slot bytes (field_of w).role (field_of w).count (code-slotless w h) in rw e

  module _ (h : w % flag_unit ≤ last_data) {k : ℕ} (items : k ≡ items_of (shape_numbered (w % flag_unit)) (count_from (w / count_unit)) bytes) where
    pub bound-string : w % flag_unit ≤ last_digits → k ≡ field_bound bytes (field_of w).role (field_of w).count
    bound-string l = rw (code_shape w h, code-count w, ← items, string-room (w % flag_unit) k l)

    pub bound-numbers : last_digits < w % flag_unit → 8 * k ≡ field_bound bytes (field_of w).role (field_of w).count
    bound-numbers l = rw (code_shape w h, code-count w, ← items, number-room (w % flag_unit) k l h)

-- ---- a value takes no more

value-bound : (bs : List ℕ) (at : ℕ) (s : Shape) (u : Bool) (n : ℕ) → FitRole (Data s) → length (area_bytes (value_at bs at s u n)) ≤ room_for s n
value-bound bs at (Text pad) u n h = rw (text-bytes pad u n (part bs at n)) (text-short pad n (part bs at n) (part-short n at bs))
value-bound bs at (Digits hex high) u n h =
    let fs : List ℕ = part bs at (bytes_for (Digits hex high) n) in
    rw (digits-bytes hex high u n fs) (digits-short hex high n fs)
value-bound bs at (Integers w big) u n h = omega (arith, eights-size (integers-eight w big h) u n (part bs at (n * w)))
value-bound bs at (Reals single big) u n h = omega (arith, eights-size (reals-eight single big) u n (part bs at (bytes_for (Reals single big) n)))

-- and the more bytes there are, the more may stand in them
whole-grow : {a b : ℕ} (w : ℕ) → 0 < w → a ≤ b → a / w ≤ b / w
whole-grow {a = a} {b = b} w p h = (le-div_iff_mul-le p).1 (le_trans (div-mul-le_self a w) h)

starred-grow : (s : Shape) {a b : ℕ} → FitRole (Data s) → a ≤ b → room_for s (items_of s Star a) ≤ room_for s (items_of s Star b)
starred-grow (Text pad) f h = h
starred-grow (Digits hex high) f h = mul-le-mul h (le_refl (per_byte hex))
starred-grow (Integers w big) {a} {b} f h = omega (arith, whole-grow {a = a} {b = b} w f.0 h)
starred-grow (Reals true big) f h = omega arith
starred-grow (Reals false big) f h = omega arith

bound-grow : (s : Shape) (n : Count) {a b : ℕ} → FitRole (Data s) → a ≤ b → room_for s (items_of s n a) ≤ field_bound b (Data s) n
bound-grow s Absent f h = le_refl _
bound-grow s Star f h = starred-grow s f h
bound-grow s (Times k) f h = le_refl _

-- ---- nor do the values of the run

step-bound : (bs : List ℕ) (at : ℕ) (k : Role) (u : Bool) (n : Count) (fs : List Field) (m : ℕ) → FitRole k → ((to : ℕ) → length (value_bytes (values_from bs to fs)) ≤ m)
    → length (value_bytes (values_from bs at (record { role = k; unsigned = u; count = n } ∷ fs))) ≤ field_bound (length bs) k n + m
unfolding values_from
step-bound bs at (Data s) u n fs m f h =
    let i : ℕ = items_of s n (length bs - at) in
    found-room (leb (bytes_for s i) (length bs - at)) (value_at bs at s u i) (values_from bs (at + bytes_for s i) fs) (field_bound (length bs) (Data s) n) m
    (λ t. le_trans (value-bound bs at s u i f) (bound-grow s n f (omega arith))) (h (at + bytes_for s i))
step-bound bs at (Move g) u n fs m f h = omega (arith, h (moved_in (length bs) g n at))

codes-bound : (bs : List ℕ) (at : ℕ) (ws : List ℕ) → length (value_bytes (values_from bs at (map field_of ws))) ≤ value_bound (length bs) (map field_of ws)
unfolding values_from value_bytes join value_bound
codes-bound bs at [] = omega arith
codes-bound bs at (w ∷ ws) =
    let f : Field = field_of w in
    step-bound bs at f.role f.unsigned f.count (map field_of ws) (value_bound (length bs) (map field_of ws)) (code_fits w) (λ to. codes-bound bs to ws)

-- the values of n fields take no more bytes of the area than their bound
pub values-bound : (n : ℕ) (ws bs : List ℕ) → length (value_bytes (values_from bs 0 (decoded n ws))) ≤ value_bound (length bs) (decoded n ws)
unfolding decoded
values-bound n ws bs = codes-bound bs 0 (take n ws)

-- ---- the sum over the codes

abbrev bound-of : ℕ → ℕ → ℕ
bound-of bytes w = field_bound bytes (field_of w).role (field_of w).count

sum-each : (bytes : ℕ) (ws : List ℕ) → sum_by (bound-of bytes) ws ≡ value_bound bytes (map field_of ws)
unfolding value_bound
sum-each bytes [] = refl
sum-each bytes (w ∷ ws) = sum_by-cons (bound-of bytes) w ws ∙ ap (λ n. bound-of bytes w + n) (sum-each bytes ws)

pub sum-bound : (bytes : ℕ) (ws : List ℕ) → sum_by (λ w. field_bound bytes (field_of w).role (field_of w).count) ws ≡ value_bound bytes (decoded (length ws) ws)
unfolding decoded
sum-bound bytes ws = rw (take-length ws) (sum-each bytes ws)
