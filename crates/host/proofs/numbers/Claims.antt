-- A number below 256 ^ 4 is made of its four bytes; and a run of whole numbers is cut into fours without looking at
-- what follows it.
use Prim.Native.Nat.{ℕ, zero, suc, ◌+◌, ◌*◌, ◌/◌, ◌≤◌}
use native.Mathlib.Nat.{zero-add, suc-add}
use native.Mathlib.Omega.{arith}
use mathlib.Core.Path.{◌≡◌, ap}
use mathlib.Core.List.{List, [], ◌∷◌, ◌++◌, map-append, append-nil}
use lib.ListN.{length, take, drop, length-drop, length-append}
use lib.Seq.{take-append-le, drop-append-le}
use Rattle.record.specs.Bytes.{pieces, big_endian, big_endian_in}
use Rattle.record.proofs.Bytes.{all-below}
use Rattle.record.proofs.NumberLaws.{length-big_endian, numbers-back}
use Rattle.host.specs.Numbers.{number_size, numbers_in, numbers_bytes}
use Rattle.host.specs.Claims.{NumbersBack, BytesBack, NumbersJoined, BytesJoined}
use Rattle.host.proofs.numbers.NumberLaws.{bytes-append, bytes_back}

pub numbers-of-bytes : NumbersBack
unfolding numbers_in numbers_bytes
numbers-of-bytes xs small =
    let n : length (big_endian number_size xs) / number_size ≡ length xs = rw length-big_endian (omega arith) in
    rw (n, ← append-nil (big_endian number_size xs)) (numbers-back number_size xs [] (all-below xs small))

pub bytes-of-numbers : BytesBack
bytes-of-numbers bs whole below = bytes_back bs whole (all-below bs below)

pub bytes-joined : BytesJoined
bytes-joined xs ys = bytes-append xs ys

-- ---- joined

pieces-joined : (k m n : ℕ) (bs cs : List ℕ) → length bs ≡ m * k
    → pieces k (m + n) (bs ++ cs) ≡ pieces k m bs ++ pieces k n cs
unfolding pieces
pieces-joined k zero n [] cs h = rw zero-add
pieces-joined k zero n (a ∷ bs) cs h = absurd (omega arith)
pieces-joined k (suc m) n bs cs h =
    let few : k ≤ length bs = omega arith in
    rw (suc-add, take-append-le k bs cs few, drop-append-le k bs cs few)
    (ap (λ (r : List (List ℕ)). take k bs ∷ r) (pieces-joined k m n (drop k bs) cs (omega (arith, length-drop k bs))))

pub numbers-joined : NumbersJoined
unfolding numbers_in big_endian_in
numbers-joined bs cs whole =
    let m : ℕ = length bs / number_size in
    let n : ℕ = length cs / number_size in
    let all : length (bs ++ cs) / number_size ≡ m + n = rw length-append (omega arith) in
    rw (all, pieces-joined number_size m n bs cs (omega arith), map-append)
