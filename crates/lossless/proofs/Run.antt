-- Reading a record that its fields fill sets every slot; the slots serve the fields, and the values make the record
-- again.
use Prim.Native.Nat.{ℕ, suc, ◌+◌, ◌-◌, ◌≤◌}
use native.Mathlib.Omega.{arith}
use mathlib.Core.Path.{◌≡◌, refl, sym, ap, ap₂, ◌∙◌}
use mathlib.Core.Bool.{Bool, ◌&&◌}
use mathlib.Core.List.{List, [], ◌∷◌, ◌++◌, append_assoc}
use lib.ListN.{length, get_or, drop, length-append, drop_of_length-le, take-append-drop}
use lib.Seq.{drop_at, drop-drop}
use lib.Dec.{T}
use borrow.Author.Tests.{le-leb}
use Rattle.layout.specs.declared.Role.{Role}
use Rattle.layout.specs.declared.Role.TheVariants.{Data, Move}
use Rattle.layout.specs.declared.Shape.{Shape}
use Rattle.layout.specs.declared.Count.{Count}
use Rattle.layout.specs.declared.Count.TheVariants.{Absent, Star, Times}
use Rattle.layout.specs.declared.Field.{Field}
use Rattle.layout.specs.Refusals.{ok}
use Rattle.layout.specs.Layout.{slot_count}
use Rattle.layout.specs.inside.Parsing.{FitRole}
use Rattle.layout.proofs.Laws.{AllSound}
use Rattle.record.specs.Bytes.{part, join}
use Rattle.record.specs.Table.{slots_of, no_position, Value, shown, area_bytes, slot_numbers, value_bytes}
use Rattle.record.specs.Geometry.{amount, bytes_for, items_in}
use Rattle.record.specs.Packing.{filled, arguments_fit}
use Rattle.record.specs.Reading.{loaded, values_from}
use Rattle.record.proofs.Bytes.{All, all_take, all_drop, both}
use Rattle.record.proofs.Stores.{length_part}
use Rattle.runs.specs.Ends.{plain_count, plain_role, fills, end_of}
use Rattle.runs.proofs.Joined.{ForwardFields, bytes_of, joined}
use Rattle.runs.proofs.Shown.{Proper, AllProper, shows-one}
use Rattle.lossless.specs.Claim.{shows_all, lossless_role, lossless}
use Rattle.lossless.proofs.Fields.{Byte, again, loaded-proper, serves}

abbrev made : Role → Bool → Count → Field
made k u n = record { role = k; unsigned = u; count = n }

-- ---- what a lossless field is

abbrev Lossless : Role → Count → Type 0
Lossless (Data s) n = T (shows_all s (amount n 0)) × FitRole (Data s) × T (plain_count n) × ((all : ℕ) → amount n all ≡ amount n 0)
Lossless (Move m) n = ⊥

abbrev pub AllLossless : List Field → Type 0
AllLossless [] = Unit {0}
AllLossless (f ∷ fs) = Lossless f.role f.count × AllLossless fs

same-amount : (n : Count) → T (plain_count n) → (all : ℕ) → amount n all ≡ amount n 0
same-amount Absent h all = refl
same-amount Star h all = absurd h
same-amount (Times n) h all = refl

is-lossless : (k : Role) (n : Count) → T (lossless_role k n) → T (plain_count n) → FitRole k → Lossless k n
is-lossless (Data s) n h p k = (h, k, p, same-amount n p)
is-lossless (Move m) n h p k = absurd h

pub all-lossless : (fs : List Field) → T (lossless fs) → AllSound fs → AllLossless fs
unfolding lossless
all-lossless [] h k = tt
all-lossless (f ∷ fs) h k =
    let (x, rest) = both (lossless_role f.role f.count && plain_count f.count) (lossless fs) h in
    let (c, n) = both (lossless_role f.role f.count) (plain_count f.count) x in
    (is-lossless f.role f.count c n k.0, all-lossless fs rest k.1)

-- such fields are all forward
pub are-forward : (fs : List Field) → AllLossless fs → ForwardFields fs
are-forward [] h = tt
are-forward (f ∷ fs) h = (one f.role f.count h.0, are-forward fs h.1)
  where
    one : (k : Role) (n : Count) → Lossless k n → T (plain_role k)
    one (Data s) n h = tt
    one (Move m) n h = absurd h

-- ---- the record that values make

unfoldable pub restored : List Field → List Value → List ℕ
unfolding bytes_of
restored [] vs = []
restored (f ∷ fs) [] = []
restored (f ∷ fs) (v ∷ vs) = bytes_of f.role f.count v.items ++ restored fs vs

-- ---- all that a reading from the place `at` on is good for

pub record Again (bs : List ℕ) (at : ℕ) (fs : List Field) (vs : List Value) : Type 0 where
  pub proper : AllProper vs
  pub count : length vs ≡ slot_count fs
  pub restores : restored fs vs ≡ drop at bs
  -- slots that show the values one after the other from `start` on serve the fields, and the values are the arguments
  pub fits :
      (at area rest more : List ℕ) (start i : ℕ) → drop start area ≡ value_bytes vs ++ rest → start + length (value_bytes vs) ≤ length area
      → (arguments_fit area i (slots_of (slot_numbers start at vs ++ more)) fs ≡ ok tt) × (joined (filled area (slots_of (slot_numbers start at vs ++ more)) fs) ≡ restored fs vs)

module _ (bs : List ℕ) (are-bytes : All Byte bs) where
  module _ (fs : List Field) (at : ℕ) (s : Shape) (u : Bool) (n : Count) (h : Lossless (Data s) n) where
    abbrev need : ℕ
    need = bytes_for s (amount n 0)

    abbrev value : Value
    value = loaded s u (amount n 0) (part bs at need)

    one_more : at + need ≤ length bs → values_from bs at (made (Data s) u n ∷ fs) ≡ value ∷ values_from bs (at + need) fs
    unfolding values_from
    one_more k = rw (h.3 (items_in s (length bs - at)), le-leb need (length bs - at) (omega arith))

    module _ (inside : at + need ≤ length bs) (vs : List Value) (ih : Again bs (at + need) fs vs) where
      long : length (part bs at need) ≡ need
      long = length_part need at bs inside

      own-bytes : All Byte (part bs at need)
      own-bytes = all_take Byte need (drop at bs) (all_drop Byte at bs are-bytes)

      is-proper : Proper value
      is-proper = loaded-proper s u (amount n 0) (part bs at need) h.0 h.1 long own-bytes

      restores-more : restored (made (Data s) u n ∷ fs) (value ∷ vs) ≡ drop at bs
      unfolding restored bytes_of
      restores-more =
          rw (h.3 (length value.items))
          (ap₂ (λ (x y : List ℕ). x ++ y) (again s u (amount n 0) (part bs at need) h.0 h.1 long own-bytes) (ih.restores ∙ sym (drop-drop need at bs))
          ∙ take-append-drop need (drop at bs))

      fits_more : (places area rest more : List ℕ) (start i : ℕ) → drop start area ≡ value_bytes (value ∷ vs) ++ rest → start + length (value_bytes (value ∷ vs)) ≤ length area
          → (arguments_fit area i (slots_of (slot_numbers start places (value ∷ vs) ++ more)) (made (Data s) u n ∷ fs) ≡ ok tt)
          × (joined (filled area (slots_of (slot_numbers start places (value ∷ vs) ++ more)) (made (Data s) u n ∷ fs)) ≡ restored (made (Data s) u n ∷ fs) (value ∷ vs))
      unfolding arguments_fit filled slots_of slot_numbers value_bytes join joined restored
      fits_more places area rest more start i e room =
          let tail : List ℕ = value_bytes vs ++ rest in
          let size : length (area_bytes value ++ value_bytes vs) ≡ length (area_bytes value) + length (value_bytes vs) = length-append (area_bytes value) (value_bytes vs) in
          let here : drop start area ≡ area_bytes value ++ tail = e ∙ append_assoc (area_bytes value) (value_bytes vs) rest in
          let next : ℕ = start + length (area_bytes value) in
          let later : drop next area ≡ tail =
          sym (drop-drop (length (area_bytes value)) start area) ∙ ap (drop (length (area_bytes value))) here ∙ drop_at (area_bytes value) tail (length (area_bytes value)) refl in
          let shows : shown area (record {
            kind = value.kind;
            start = start;
            len = length value.items;
            position = get_or places 0 no_position;
          }) ≡ value = shows-one area tail start (get_or places 0 no_position)
          value is-proper here in
          let served = serves area start (get_or places 0 no_position) i n h.2 h.3 s u (part bs at need) h.0 long (omega arith) shows in
          let (fit, same) = ih.fits (drop 1 places) area rest more next (suc i) later (omega arith) in
          (rw served fit, ap₂ (λ (v : Value) (r : List ℕ). bytes_of (Data s) n v.items ++ r) shows same)

      more-again : Again bs at (made (Data s) u n ∷ fs) (value ∷ vs)
      unfolding slot_count
      more-again = record { proper = (is-proper, ih.proper); count = ap suc ih.count; restores = restores-more; fits = fits_more }

  again-step : (fs : List Field) → ((at : ℕ) → at + end_of fs ≡ length bs → Again bs at fs (values_from bs at fs))
      → (at : ℕ) (k : Role) (u : Bool) (n : Count) → Lossless k n → at + (fills k n + end_of fs) ≡ length bs → Again bs at (made k u n ∷ fs) (values_from bs at (made k u n ∷ fs))
  unfolding fills
  again-step fs ih at (Data s) u n h e =
      let inside : at + bytes_for s (amount n 0) ≤ length bs = omega arith in
      rw (one_more fs at s u n h inside) (more-again fs at s u n h inside (values_from bs (at + bytes_for s (amount n 0)) fs) (ih (at + bytes_for s (amount n 0)) (omega arith)))
  again-step fs ih at (Move m) u n h e = absurd h

  pub again-from : (fs : List Field) → AllLossless fs → (at : ℕ) → at + end_of fs ≡ length bs → Again bs at fs (values_from bs at fs)
  unfolding values_from end_of slot_count restored arguments_fit filled joined
  again-from [] h at e = record { proper = tt; count = refl; restores = sym (drop_of_length-le bs {i = at} (omega arith)); fits = λ at area rest more start i d r. (refl, refl) }
  again-from (f ∷ fs) h at e = again-step fs (λ at e. again-from fs h.1 at e) at f.role f.unsigned f.count h.0 e
