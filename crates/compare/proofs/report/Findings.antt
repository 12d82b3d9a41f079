-- Laws of what a table shows: slot by slot, and finding by finding.
use Rattle.std.specs.Prelude.{if◌then◌else◌}
use Prim.Native.Nat.{ℕ, zero, suc, ◌+◌, ◌*◌, ◌≤◌, ◌<◌}
use native.Mathlib.Nat.{not-suc-le-zero}
use native.Mathlib.Omega.{arith}
use mathlib.Core.Path.{◌≡◌, refl, sym, ap, ◌∙◌}
use mathlib.Core.Bool.{Bool, true, false}
use mathlib.Core.List.{List, [], ◌∷◌, ◌++◌, map, append_assoc}
use lib.ListN.{length, take, drop, length-append, length-take, length-map, drop_of_length-le}
use lib.Seq.{drop-drop}
use Rattle.record.specs.Bytes.{store_at}
use Rattle.record.specs.declared.slots.Slot.{Slot}
use Rattle.record.specs.Table.{slot_width, slots_of}
use Rattle.record.specs.Packing.{next_slot}
use Rattle.record.specs.Slots.{slot_at, value_end}
use Rattle.record.proofs.SlotLaws.{next-slot}
use Rattle.record.proofs.Stores.{runs, runs-first, Wrote, wrote-more}
use Rattle.record.proofs.Tables.{length-slots}
use Rattle.compare.specs.Difference.{report_width, same_bytes, first_difference, differing_bits, both_same, both_differ, plain_finding, both_finding}
use Rattle.compare.specs.Report.{finding_of, findings}
use Rattle.compare.specs.inside.Shown.{size_of, bytes_shown, shown_bytes, Shows}
use borrow.Rule.Slice.PartMut.{put_mid}

put-part : (at k : ℕ) (d s : List ℕ) → length s ≡ k → put_mid at k d s ≡ store_at d at s
put-part at k d s e = rw (drop-drop k at d, ← e) (sym (append_assoc (take at d) s (drop (at + length s) d)))

-- ---- the findings one by one

abbrev pub finding_at : List (List ℕ) → List (List ℕ) → ℕ → List ℕ
finding_at xs ys i = finding_of (drop i xs) (drop i ys)

runs_as : (n : ℕ) (f g : ℕ → List ℕ) → ((i : ℕ) → f i ≡ g i) → runs n f ≡ runs n g
unfolding runs
runs_as zero f g e = refl
runs_as (suc n) f g e = rw (runs_as n f g e, e n)

pub findings-runs : (n : ℕ) (xs ys : List (List ℕ)) → runs n (finding_at xs ys) ≡ findings n xs ys
unfolding findings runs
findings-runs zero xs ys = refl
findings-runs (suc n) xs ys =
    let next : (i : ℕ) → finding_at xs ys (suc i) ≡ finding_at (drop 1 xs) (drop 1 ys) i = λ i. let e : 1 + i ≡ suc i = omega arith in rw (drop-drop i 1 xs, drop-drop i 1 ys, e) in
    runs-first n (finding_at xs ys) ∙ ap (λ (l : List ℕ). finding_of xs ys ++ l) (runs_as n (λ i. finding_at xs ys (suc i))
    (finding_at (drop 1 xs) (drop 1 ys)) next ∙ findings-runs n (drop 1 xs) (drop 1 ys))

length_both : (xs ys : List ℕ) → length (both_finding xs ys) ≡ report_width
unfolding both_finding
length_both xs ys = go (same_bytes xs ys)
  where
    go : (t : Bool) → length (if t then plain_finding both_same else (both_differ ∷ first_difference xs ys ∷ differing_bits xs ys ∷ [])) ≡ report_width
    go true = refl
    go false = refl

length-finding : (xs ys : List (List ℕ)) → length (finding_of xs ys) ≡ report_width
unfolding finding_of
length-finding [] [] = refl
length-finding (x ∷ xs) [] = refl
length-finding [] (y ∷ ys) = refl
length-finding (x ∷ xs) (y ∷ ys) = length_both x y

pub length-findings : (n : ℕ) (xs ys : List (List ℕ)) → length (findings n xs ys) ≡ report_width * n
unfolding findings
length-findings zero xs ys = refl
length-findings (suc n) xs ys = length-append (finding_of xs ys) (findings n (drop 1 xs) (drop 1 ys)) ∙ rw (length-finding xs ys, length-findings n (drop 1 xs) (drop 1 ys)) (omega arith)

-- one finding more
pub finding-more : {d₀ d : List ℕ} (xs ys : List (List ℕ)) {i : ℕ} {numbers : List ℕ} (k : ℕ) → Wrote d₀ 0 (finding_at xs ys) d i → report_width * i + report_width ≤ length d₀
    → numbers ≡ finding_at xs ys i → k ≡ 3 → Wrote d₀ 0 (finding_at xs ys) (put_mid (report_width * i) k d numbers) (i + 1)
finding-more {d = d} xs ys {i} {numbers} k w h e q =
    let long : length numbers ≡ k = ap length e ∙ length-finding (drop i xs) (drop i ys) ∙ sym q in
    wrote-more {to = report_width * i} report_width (λ j. length-finding (drop j xs) (drop j ys)) w (omega arith) (omega arith)
    (put-part (report_width * i) k d numbers long ∙ ap (λ (x : List ℕ). store_at d (report_width * i) x) e)

-- ---- what the first n slots show from slot i on

from-here : (area : List ℕ) (ts : List Slot) (n i : ℕ) → i < n → i < length ts
    → drop i (map (bytes_shown area) (take n ts)) ≡ bytes_shown area (next_slot (drop i ts)) ∷ drop (suc i)
    (map (bytes_shown area) (take n ts))
from-here area [] n i h k = absurd (not-suc-le-zero k)
from-here area (t ∷ ts) zero i h k = absurd (not-suc-le-zero h)
from-here area (t ∷ ts) (suc n) zero h k = refl
from-here area (t ∷ ts) (suc n) (suc i) h k = from-here area ts n i (omega arith) (omega arith)

module _ (slots area : List ℕ) (n i : ℕ) where
  pub shown-none : n ≤ i → drop i (shown_bytes slots area n) ≡ []
  unfolding shown_bytes
  shown-none h =
      let l : length (map (bytes_shown area) (take n (slots_of slots))) ≤ i = rw (length-map, length-take) (omega arith) in
      drop_of_length-le (map (bytes_shown area) (take n (slots_of slots))) l

  module _ (h : Shows slots area n) (k : i < n) where
    lent : slot_width * i + slot_width ≤ length slots
    lent = omega (arith, h.lent)

    shown-here : drop i (shown_bytes slots area n) ≡ bytes_shown area (slot_at slots i) ∷ drop (suc i) (shown_bytes slots area n)
    unfolding shown_bytes
    shown-here =
        let few : i < length (slots_of slots) = omega (arith, length-slots slots, lent) in
        from-here area (slots_of slots) n i k few ∙ ap (λ (s : Slot). bytes_shown area s ∷ drop (suc i) (map (bytes_shown area) (take n (slots_of slots)))) (next-slot slots i lent)

    inside-at : value_end (slot_at slots i) ≤ length area
    inside-at = rw (← next-slot slots i lent) (h.values i k)

-- what is shown for field i, where its slot is set and where it is not
module _ (slots area : List ℕ) (n i : ℕ) where
  pub value-shown : Shows slots area n → i < n → {s : Slot} → s ≡ slot_at slots i → (s.start + size_of s ≤ length area) × (drop i (shown_bytes slots area n) ≡ bytes_shown area s ∷ drop (suc i) (shown_bytes slots area n))
  value-shown h k e = rw e (inside-at slots area n i h k, shown-here slots area n i h k)
