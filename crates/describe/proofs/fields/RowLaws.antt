-- The row of a field, and the rows as a loop over the text writes them.
use Prim.Native.Nat.{ℕ, suc, ◌+◌, ◌-◌, ◌*◌, ◌≤◌, ◌<◌}
use native.Mathlib.Omega.{arith}
use mathlib.Core.Path.{◌≡◌, refl, ap, ◌∙◌}
use mathlib.Core.Bool.{Bool, true, false}
use mir.Val.{bool_byte}
use mathlib.Core.List.{List}
use lib.ListN.{length, get_or, drop}
use Rattle.layout.specs.declared.Field.{Field}
use Rattle.layout.specs.Layout.{max_layout, to_nat}
use Rattle.layout.specs.inside.Parsing.{TailAt}
use Rattle.record.specs.Bytes.{store_at, number_bytes, big_endian}
use Rattle.record.proofs.NumberLaws.{length-number_bytes, big-endian-runs}
use Rattle.record.proofs.Stores.{runs, Wrote, wrote-more}
use Rattle.describe.specs.inside.Texts.{tail_length, placed_at}
use Rattle.describe.proofs.Places.{next_place, tail-inside}
use Rattle.describe.specs.declared.fields.Track.{Track}
use Rattle.describe.specs.Rows.{Extent, filling, count_shown, slot_shown, number_shown, row_of, number_size}

-- ---- one row

pub bit_number : (b : Bool) → bool_byte b ≡ to_nat b
bit_number true = refl
bit_number false = refl

module _ (text : List ℕ) (at : ℕ) (b v e : ℕ) (tail : TailAt text (at + 1) b v e) where
  pub size_is : e - at ≡ suc (tail_length (drop (suc at) text))
  size_is = omega (arith, next_place text at b v e tail)

  pub size_small : at < length text → length text ≤ max_layout → e - at ≤ max_layout
  size_small h k = omega (arith, next_place text at b v e tail, tail-inside text at h)

  pub row_is : (f : Field) (k : ℕ) (t : Track) (flag count slot position bytes : ℕ) (fill : Extent)
      → flag ≡ to_nat f.unsigned → count ≡ count_shown f.count
      → slot ≡ slot_shown f.role k → position ≡ number_shown t.at → fill ≡ filling f.role f.count
      → bytes ≡ number_shown fill
      → record { place = at; size = e - at; letter = get_or text at 0; flag = flag; count = count; slot = slot; position = position; bytes = bytes } ≡ row_of k t (placed_at text at f)
  row_is f k t flag count slot position bytes fill a b c d g h = rw (size_is, a, b, c, d, h, g)

-- ---- numbers one after the other

-- number j as bytes
abbrev pub bytes_at : List ℕ → ℕ → List ℕ
bytes_at xs j = number_bytes number_size (get_or xs j 0)

pub put_next : {d₀ d d' : List ℕ} (at : ℕ) (xs : List ℕ) {j : ℕ} → Wrote d₀ at (bytes_at xs) d j → j < length xs
    → at + length xs * number_size ≤ length d₀
    → d' ≡ store_at d (at + j * number_size) (bytes_at xs j) → Wrote d₀ at (bytes_at xs) d' (j + 1)
put_next at xs {j} w h room e =
    wrote-more {to = at + j * number_size} number_size (λ i. length-number_bytes number_size _) w (omega arith) (omega arith) e

pub put_all : {d₀ d : List ℕ} {at : ℕ} (xs : List ℕ) {j : ℕ} → Wrote d₀ at (bytes_at xs) d j → j ≡ length xs
    → d ≡ store_at d₀ at (big_endian number_size xs)
put_all {d₀} {d} {at} xs {j} w all =
    let runs-all : runs j (bytes_at xs) ≡ big_endian number_size xs = rw all (big-endian-runs number_size xs) in
    w.is ∙ ap (store_at d₀ at) runs-all
