-- Every number of a row fits four bytes, so that the bytes say just these numbers.
use Rattle.std.specs.declared.option.Option.TheVariants.{Some, None}
use Prim.Native.Nat.{ℕ, ◌+◌, ◌*◌, ◌^◌, ◌≤◌, ◌<◌}
use native.Mathlib.Omega.{arith}
use mathlib.Core.Path.{◌≡◌, refl, sym, ap, ◌∙◌}
use mathlib.Core.Bool.{Bool, true}
use mathlib.Core.List.{List, [], ◌∷◌, ◌++◌, map}
use lib.ListN.{length, length-append}
use borrow.Author.Tests.{leb-true}
use Rattle.layout.specs.declared.Role.{Role}
use Rattle.layout.specs.declared.Role.TheVariants.{Data, Move}
use Rattle.layout.specs.declared.Count.{Count}
use Rattle.layout.specs.declared.Count.TheVariants.{Absent, Star, Times}
use Rattle.layout.specs.Layout.{max_layout, max_count, in_limit, takes_slot, slots_taken}
use Rattle.layout.proofs.Steps.{bit_le}
use Rattle.record.specs.Bytes.{join, big_endian, big_endian_in}
use Rattle.record.proofs.Bytes.{All, all_append}
use Rattle.record.proofs.NumberLaws.{big-endian-append, numbers-back}
use Rattle.record.proofs.Stores.{add-run}
use Rattle.describe.specs.Placed.{Placed, fields_in}
use Rattle.describe.specs.Places.{MadeOf}
use Rattle.describe.proofs.Counts.{AllKept}
use Rattle.describe.specs.declared.fields.Track.{Track}
use Rattle.describe.specs.declared.fields.Row.{Row}
use Rattle.describe.specs.Rows.{Extent, filling, onward, track_start, count_shown, slot_shown, number_shown, row_of, rows_from, rows_of, number_size, row_numbers, row_bytes}
use Rattle.describe.specs.inside.Walk.{AtMost, field_reach, layout_reach}
use Rattle.describe.proofs.fields.Moves.{most-more, filling-most, Near, onward_near}
use Rattle.describe_claims.proofs.Letters.{AllLetters}

-- ---- the numbers of a row

abbrev pub Fits : ℕ → Type 0
Fits x = x < 256 ^ number_size

count_fits : (n : Count) → in_limit n ≡ true → Fits (count_shown n)
count_fits Absent l = omega arith
count_fits Star l = omega arith
count_fits (Times n) l = omega (arith, leb-true n max_count l)

slot-fits : (c : Role) (k : ℕ) → k ≤ max_layout → Fits (slot_shown c k)
slot-fits (Data s) k h = omega arith
slot-fits (Move m) k h = omega arith

number_fits : (e : Extent) → AtMost layout_reach e → Fits (number_shown e)
number_fits (Some n) h = omega arith
number_fits None h = omega arith

eight : {a b c d e f g h : ℕ} → Fits a → Fits b → Fits c → Fits d → Fits e → Fits f → Fits g → Fits h
    → All Fits (a ∷ b ∷ c ∷ d ∷ e ∷ f ∷ g ∷ h ∷ [])
eight a b c d e f g h = (a, (b, (c, (d, (e, (f, (g, (h, tt))))))))

-- ---- all rows

module _ (packing : Bool) (text : List ℕ) (short : length text ≤ max_layout) where
  all_fit : (ps : List Placed) (i k : ℕ) (t : Track) (at : ℕ) → Near (i * field_reach) t → i + length ps ≤ max_layout
      → k ≤ i → MadeOf packing text at ps → AllLetters ps
      → AllKept packing (fields_in ps) → All Fits (join (map row_numbers (rows_from k t ps)))
  unfolding rows_from join
  all_fit [] i k t at near few under made letters kept = tt
  all_fit (p ∷ ps) i k t at near few under made letters kept =
      let inside : p.place + p.size ≤ length text = made.0.inside in
      let c : Role = p.what.role in
      let n : Count = p.what.count in
      let reached : AtMost layout_reach t.at =
      most-more (i * field_reach) layout_reach t.at (omega arith) near.0 in
      let filled : AtMost layout_reach (filling c n) =
      most-more field_reach layout_reach (filling c n) (omega arith) (filling-most c n letters.0.fit kept.0.0) in
      let on : Near ((i + 1) * field_reach) (onward t c n) =
      rw (add-run i field_reach) (onward_near (i * field_reach) t near n kept.0.0 c letters.0.fit) in
      all_append (λ x. Fits x) (row_numbers (row_of k t p)) (join (map row_numbers (rows_from (k + slots_taken p.what) (onward t c n) ps)))
      (eight (omega arith) (omega arith) (omega (arith, letters.0.small)) (omega (arith, bit_le p.what.unsigned)) (count_fits n kept.0.0) (slot-fits c k (omega arith))
      (number_fits t.at reached) (number_fits (filling c n) filled))
      (all_fit ps (i + 1) (k + slots_taken p.what) (onward t c n) (p.place + p.size) on (omega arith) (omega (arith, bit_le (takes_slot c))) made.1 letters.1 kept.1)

  pub rows_fit : (ps : List Placed) → length ps ≤ max_layout → MadeOf packing text 0 ps → AllLetters ps
      → AllKept packing (fields_in ps) → All Fits (join (map row_numbers (rows_of ps)))
  unfolding rows_of
  rows_fit ps few made letters kept =
      all_fit ps 0 0 track_start 0 (omega arith, omega arith) (omega arith) (omega arith) made letters kept

-- ---- the bytes

row-bytes : (rs : List Row) → row_bytes rs ≡ big_endian number_size (join (map row_numbers rs))
unfolding row_bytes join big_endian
row-bytes [] = refl
row-bytes (r ∷ rs) =
    ap (λ (bs : List ℕ). big_endian number_size (row_numbers r) ++ bs) (row-bytes rs) ∙ sym (big-endian-append number_size (row_numbers r) (join (map row_numbers rs)))

count-numbers : (rs : List Row) → length (join (map row_numbers rs)) ≡ length rs * 8
unfolding join
count-numbers [] = refl
count-numbers (r ∷ rs) = length-append (row_numbers r) (join (map row_numbers rs)) ∙ (omega (arith, count-numbers rs))

pub rows-numbers : (rs : List Row) → All Fits (join (map row_numbers rs)) → (rest : List ℕ)
    → big_endian_in number_size (length rs * 8) (row_bytes rs ++ rest) ≡ join (map row_numbers rs)
rows-numbers rs h rest =
    rw (row-bytes rs, ← count-numbers rs) (numbers-back number_size (join (map row_numbers rs)) rest h)
