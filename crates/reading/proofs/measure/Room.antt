-- The area that a reading needs at most: a value takes no more than eight bytes of it for each byte of its field.
use Rattle.std.specs.Prelude.{if◌then◌else◌}
use Prim.Native.Nat.{ℕ, suc, ◌+◌, ◌-◌, ◌*◌, ◌%◌, ◌≤◌}
use native.Mathlib.Nat.{suc-mul, mul-le-mul, le_refl}
use native.Mathlib.Omega.{arith}
use mathlib.Core.Path.{◌≡◌, refl}
use mathlib.Core.Bool.{Bool, true, false}
use mathlib.Core.List.{List, [], ◌∷◌, map}
use borrow.Author.Tests.{leb-true}
use lib.Dec.{eqb, leb}
use lib.ListN.{length, take, length-take, length-drop, length-append}
use Rattle.layout.specs.declared.Role.{Role}
use Rattle.layout.specs.declared.Role.TheVariants.{Data, Move}
use Rattle.layout.specs.declared.Shape.{Shape}
use Rattle.layout.specs.declared.Shape.TheVariants.{Text, Digits, Integers, Reals}
use Rattle.layout.specs.declared.Count.{Count}
use Rattle.layout.specs.declared.Field.{Field}
use Rattle.layout.specs.Codes.{type_numbered, field_of, flag_unit}
use Rattle.layout.specs.inside.Parsing.{decoded, FitRole}
use Rattle.layout.proofs.Steps.{type-fits, known-fits}
use Rattle.record.specs.Bytes.{part, join}
use Rattle.record.specs.Table.{Value, area_bytes, value_bytes}
use Rattle.record.specs.Geometry.{bytes_for, items_of, moved_in}
use Rattle.record.specs.Reading.{is_blank, trimmed, loaded, value_at, values_from}
use Rattle.reading.proofs.value.Loads.{text-bytes, digits-bytes, items-few, integers-eight, reals-eight, eights-size}

-- ---- one value

pub part-short : (n at : ℕ) (bs : List ℕ) → length (part bs at n) ≤ n
part-short n at bs = simp (length-take, length-drop) (omega arith)

trimmed-by : (c : ℕ) (cs ds : List ℕ) → trimmed cs ≡ ds → length ds ≤ length cs → length (trimmed (c ∷ cs)) ≤ suc (length cs)
unfolding trimmed
trimmed-by c cs [] e h = rw e (one (is_blank c))
  where
    one : (t : Bool) → length (if t then [] else (c ∷ [])) ≤ suc (length cs)
    one true = omega arith
    one false = omega arith
trimmed-by c cs (d ∷ ds) e h = rw e (omega arith)

trimmed-short : (cs : List ℕ) → length (trimmed cs) ≤ length cs
unfolding trimmed
trimmed-short [] = omega arith
trimmed-short (c ∷ cs) = trimmed-by c cs (trimmed cs) refl (trimmed-short cs)

pub text-short : (pad n : ℕ) (bs : List ℕ) → length bs ≤ n → length (loaded (Text pad) false n bs).items ≤ n
unfolding loaded
text-short pad n bs h = kept (eqb pad 32)
  where
    kept : (t : Bool) → length (if t then trimmed bs else bs) ≤ n
    kept true = omega (arith, trimmed-short bs)
    kept false = h

pub digits-short : (hex high : Bool) (n : ℕ) (bs : List ℕ) → length (loaded (Digits hex high) false n bs).items ≤ n
unfolding loaded
digits-short hex high n bs = simp length-take (omega arith)

pub value_room : (bs : List ℕ) (at : ℕ) (s : Shape) (u : Bool) (n : ℕ) → FitRole (Data s) → length (area_bytes (value_at bs at s u n)) ≤ 8 * bytes_for s n
value_room bs at (Text pad) u n h = rw (text-bytes pad u n (part bs at n)) (omega (arith, text-short pad n (part bs at n) (part-short n at bs)))
value_room bs at (Digits hex high) u n h =
    let fs : List ℕ = part bs at (bytes_for (Digits hex high) n) in
    rw (digits-bytes hex high u n fs) (omega (arith, digits-short hex high n fs, items-few (Digits hex high) n h))
value_room bs at (Integers w big) u n h =
    let x = integers-eight w big h in
    omega (arith, eights-size x u n (part bs at (n * w)), x.few n)
value_room bs at (Reals single big) u n h =
    let x = reals-eight single big in
    omega (arith, eights-size x u n (part bs at (bytes_for (Reals single big) n)), x.few n)

-- ---- the values of the run

pub code_fits : (w : ℕ) → FitRole (field_of w).role
unfolding field_of
code_fits w = known-fits (type_numbered (w % flag_unit)) (type-fits (w % flag_unit))

pub found-room : (t : Bool) (v : Value) (vs : List Value) (k m : ℕ) → (t ≡ true → length (area_bytes v) ≤ k) → length (value_bytes vs) ≤ m → length (value_bytes (if t then v ∷ vs else [])) ≤ k + m
unfolding value_bytes join
found-room true v vs k m h l = rw length-append (omega (arith, h refl))
found-room false v vs k m h l = omega arith

step_room : (bs : List ℕ) (at : ℕ) (k : Role) (u : Bool) (n : Count) (fs : List Field) (m : ℕ) → FitRole k → ((to : ℕ) → length (value_bytes (values_from bs to fs)) ≤ m)
    → length (value_bytes (values_from bs at (record { role = k; unsigned = u; count = n } ∷ fs))) ≤ 8 * length bs + m
unfolding values_from
step_room bs at (Data s) u n fs m f h =
    let i : ℕ = items_of s n (length bs - at) in
    found-room (leb (bytes_for s i) (length bs - at)) (value_at bs at s u i) (values_from bs (at + bytes_for s i) fs) (8 * length bs) m
    (λ t. omega (arith, leb-true (bytes_for s i) (length bs - at) t, value_room bs at s u i f)) (h (at + bytes_for s i))
step_room bs at (Move g) u n fs m f h = omega (arith, h (moved_in (length bs) g n at))

codes-room : (bs : List ℕ) (at : ℕ) (ws : List ℕ) → length (value_bytes (values_from bs at (map field_of ws))) ≤ 8 * (length ws * length bs)
unfolding values_from value_bytes join
codes-room bs at [] = omega arith
codes-room bs at (w ∷ ws) =
    let f : Field = field_of w in
    let all : suc (length ws) * length bs ≡ length ws * length bs + length bs = suc-mul (length ws) (length bs) in
    omega (arith, step_room bs at f.role f.unsigned f.count (map field_of ws) (8 * (length ws * length bs)) (code_fits w) (λ to. codes-room bs to ws))

-- the values of n fields take no more than eight bytes each for every byte of the record
pub values-room : (n : ℕ) (ws bs : List ℕ) → length (value_bytes (values_from bs 0 (decoded n ws))) ≤ 8 * (n * length bs)
unfolding decoded
values-room n ws bs =
    let few : length (take n ws) ≤ n = simp length-take (omega arith) in
    let all : length (take n ws) * length bs ≤ n * length bs = mul-le-mul few (le_refl (length bs)) in
    omega (arith, codes-room bs 0 (take n ws))
