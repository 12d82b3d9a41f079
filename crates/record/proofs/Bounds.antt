-- Bounds of the numbers that code computes from a field's geometry.
use Rattle.std.specs.Prelude.{if◌then◌else◌}
use Prim.Native.Nat.{ℕ, ◌*◌, ◌/◌, ◌%◌, ◌^◌, ◌≤◌, ◌<◌}
use native.Mathlib.Nat.{mul-le-mul, mod-eq_of_lt}
use native.Mathlib.Omega.{arith}
use mathlib.Core.Path.{◌≡◌}
use mathlib.Core.Bool.{Bool, true, false}
use lib.Dec.{eqb}
use lib.Pow.{pow_mono}
use borrow.Author.Tests.{le-leb, lt-leb}
use Rattle.layout.specs.declared.Role.TheVariants.{Data}
use Rattle.layout.specs.declared.Shape.{Shape}
use Rattle.layout.specs.declared.Shape.TheVariants.{Text, Digits, Integers, Reals}
use Rattle.layout.specs.Codes.{last_digits, last_integers, last_data}
use Rattle.layout.specs.inside.Parsing.{size_numbered, shape_numbered, FitRole}
use Rattle.layout.specs.Layout.{real_size}
use Rattle.layout.proofs.Numbered.{shape-integers, shape-reals}
use Rattle.record.specs.Bytes.{ceil_div}
use Rattle.record.specs.Geometry.{per_byte, bytes_for, items_in}
use Rattle.record.specs.inside.Bounds.{items_limit, u64_limit}
use Rattle.record.specs.Table.{item_size}
use Rattle.record.proofs.Fields.{split}

pub product_small : (a b x y : ℕ) → a ≤ x → b ≤ y → a * b ≤ x * y
product_small a b x y h k = mul-le-mul h k

pub per-byte-small : (hex : Bool) → (2 ≤ per_byte hex) × (per_byte hex ≤ 8)
per-byte-small true = (omega arith, omega arith)
per-byte-small false = (omega arith, omega arith)

pub real-small : (single : Bool) → real_size single ≤ 8
real-small true = omega arith
real-small false = omega arith

-- an item fills at most eight bytes
pub bytes_small : (s : Shape) (n : ℕ) → FitRole (Data s) → bytes_for s n ≤ n * 8
bytes_small (Text pad) n h = omega arith
bytes_small (Digits true high) n h = omega arith
bytes_small (Digits false high) n h = omega arith
bytes_small (Integers w big) n h = product_small n w n 8 (omega arith) h.1
bytes_small (Reals true big) n h = omega arith
bytes_small (Reals false big) n h = omega arith

-- m bytes hold no more than eight times as many digits
pub few-digits : (hex : Bool) (n m : ℕ) → ceil_div n (per_byte hex) ≤ m → n ≤ m * 8
few-digits true n m h = omega arith
few-digits false n m h = omega arith

pub item-small : (kind : ℕ) → item_size kind ≤ 8
item-small kind = chosen (eqb kind 1)
  where
    chosen : (t : Bool) → (if t then 1 else 8) ≤ 8
    chosen true = omega arith
    chosen false = omega arith

-- the types of integers and reals, by number: each item has as many bytes
pub sized-bytes : (d n : ℕ) → last_digits < d → d ≤ last_data → bytes_for (shape_numbered d) n ≡ n * size_numbered d
sized-bytes d n l h =
    split d last_integers
    (λ k. rw (shape-integers d l k, le-leb d last_integers k))
    (λ k. rw (shape-reals d k h, lt-leb d last_integers k))

pub sized-items : (d left : ℕ) → last_digits < d → d ≤ last_data → items_in (shape_numbered d) left ≡ left / size_numbered d
sized-items d left l h =
    split d last_integers
    (λ k. rw (shape-integers d l k, le-leb d last_integers k))
    (λ k. rw (shape-reals d k h, lt-leb d last_integers k))

-- items of 2 ^ k bytes each, by a shift that does not wrap
pub shifted-bytes : (n k w : ℕ) → 2 ^ k ≡ w → k ≤ 3 → n < items_limit → n * 2 ^ k % u64_limit ≡ n * w
shifted-bytes n k w p l h =
    let small : 2 ^ k ≤ 2 ^ 3 = pow_mono l in
    let m : n * w ≤ items_limit * 8 = product_small n w items_limit 8 (omega arith) (rw (← p) small) in
    rw p (mod-eq_of_lt (omega arith))
