-- Laws of many doubles of which none is a NaN.
use Prim.Native.Nat.{ℕ, suc, ◌+◌, ◌-◌, ◌*◌, ◌≤◌, ◌<◌}
use native.Mathlib.Omega.{arith}
use mathlib.Core.Path.{◌≡◌, sym, ap, ◌∙◌}
use mathlib.Core.Bool.{Bool, true, false, ◌&&◌, not}
use mathlib.Core.List.{List}
use lib.ListN.{drop}
use lib.Seq.{drop-drop}
use Rattle.real.specs.Patterns.{is_nan}
use Rattle.record.specs.Bytes.{pieces, number_at, big_endian_in}
use Rattle.record.specs.Table.{integers_in}
use Rattle.record.specs.Packing.{no_nan}

-- ---- no NaN

-- what decides from the double number i on
abbrev pub from : List ℕ → ℕ → ℕ → ℕ → Bool
from area start n i = no_nan (integers_in (n - i) (drop (start + i * 8) area))

from_next : (area : List ℕ) (start n i : ℕ) → i < n → from area start n i ≡ (not (is_nan (number_at 8 area (start + i * 8))) && from area start n (i + 1))
unfolding no_nan big_endian_in pieces number_at
from_next area start n i h =
    let here : n - i ≡ suc (n - (i + 1)) = omega arith in
    let there : start + i * 8 + 8 ≡ start + (i + 1) * 8 = omega arith in
    rw (here, drop-drop 8 (start + i * 8) area, there)

pub from_start : (area : List ℕ) (start n : ℕ) → no_nan (integers_in n (drop start area)) ≡ from area start n 0
from_start area start n = let e : start + 0 * 8 ≡ start = omega arith in let f : n - 0 ≡ n = omega arith in rw (e, f)

module _ (area : List ℕ) (start n i : ℕ) {d : ℕ} {t : Bool} (h : i < n) (ed : d ≡ number_at 8 area (start + i * 8)) (et : t ≡ is_nan d) where
  pub stops_at : t ≡ true → false ≡ from area start n i
  stops_at e = let nan : is_nan (number_at 8 area (start + i * 8)) ≡ true = ap is_nan (sym ed) ∙ sym et ∙ e in sym (from_next area start n i h ∙ rw nan)

  pub goes-past : t ≡ false → from area start n i ≡ from area start n (i + 1)
  goes-past e = let number : is_nan (number_at 8 area (start + i * 8)) ≡ false = ap is_nan (sym ed) ∙ sym et ∙ e in from_next area start n i h ∙ rw number

pub from_end : (area : List ℕ) (start n i : ℕ) → n ≤ i → true ≡ from area start n i
unfolding no_nan big_endian_in pieces
from_end area start n i h = let e : n - i ≡ 0 = omega arith in rw e
