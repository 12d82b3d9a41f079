-- Where the cursor only goes forward every field stores its bytes at the end, so packing joins the fields' bytes.
use Prim.Native.Nat.{ℕ, ◌+◌, ◌<◌}
use native.Mathlib.Omega.{arith}
use mathlib.Core.Path.{◌≡◌, refl, sym, ap, ap₂, ◌∙◌}
use mathlib.Core.Bool.{Bool}
use mathlib.Core.List.{List, [], ◌∷◌, ◌++◌, append-nil, append_assoc}
use lib.ListN.{length, drop, replicate, length-append, drop_of_length-le}
use lib.Seq.{take-length}
use lib.Dec.{T, leb→le}
use Rattle.layout.specs.declared.Role.{Role}
use Rattle.layout.specs.declared.Role.TheVariants.{Data, Move}
use Rattle.layout.specs.declared.Motion.TheVariants.{Skip, Back, Goto}
use Rattle.layout.specs.declared.Count.{Count}
use Rattle.layout.specs.declared.Count.TheVariants.{Absent, Star, Times}
use Rattle.layout.specs.declared.Field.{Field}
use Rattle.record.specs.declared.slots.Slot.{Slot}
use Rattle.record.specs.Geometry.{amount}
use Rattle.record.specs.Packing.{stored, Run, store, Filled, pack_one, pack_all, packed, filled}
use Rattle.runs.specs.Ends.{plain_role, plain_count}

-- ---- a plain count

-- it is some, and does not ask for all
pub plain-amount : (n : Count) → T (plain_count n) → (0 < amount n 0) × ((all : ℕ) → amount n all ≡ amount n 0)
plain-amount Absent h = (omega arith, λ all. refl)
plain-amount Star h = absurd h
plain-amount (Times n) h = (leb→le 1 n h, λ all. refl)

-- ---- a field with its argument

-- the bytes that it stores
unfoldable pub bytes_of : Role → Count → List ℕ → List ℕ
bytes_of (Data s) n xs = stored s (amount n (length xs)) xs
bytes_of (Move Skip) n xs = replicate (amount n 0) 0
bytes_of (Move Back) n xs = []
bytes_of (Move Goto) n xs = []

unfoldable pub joined : List Filled → List ℕ
unfolding bytes_of
joined [] = []
joined (a ∷ rest) = bytes_of a.field.role a.field.count a.items ++ joined rest

-- ---- packing where the cursor only goes forward: no `X`, no `@`; stars are allowed

abbrev pub ForwardFields : List Field → Type 0
ForwardFields [] = Unit {0}
ForwardFields (f ∷ fs) = T (plain_role f.role) × ForwardFields fs

abbrev pub Forward : List Filled → Type 0
Forward [] = Unit {0}
Forward (a ∷ rest) = T (plain_role a.field.role) × Forward rest

-- a store at the end appends
store-end : (out bs : List ℕ) → store (record { out = out; at = length out }) bs ≡ record { out = out ++ bs; at = length (out ++ bs) }
store-end out bs = simp (take-length, length-append, drop_of_length-le out {i = length out + length bs} (omega arith), append-nil)

pack_one_lem : (out : List ℕ) (k : Role) (n : Count) (xs : List ℕ) → T (plain_role k)
    → pack_one (record { out = out; at = length out }) k n xs ≡ record { out = out ++ bytes_of k n xs; at = length (out ++ bytes_of k n xs) }
unfolding pack_one bytes_of
pack_one_lem out (Data s) n xs h = store-end out (stored s (amount n (length xs)) xs)
pack_one_lem out (Move Skip) n xs h = store-end out (replicate (amount n 0) 0)
pack_one_lem out (Move Back) n xs h = absurd h
pack_one_lem out (Move Goto) n xs h = absurd h

pack-all : (out : List ℕ) (fs : List Filled) → Forward fs
    → pack_all (record { out = out; at = length out }) fs ≡ record { out = out ++ joined fs; at = length (out ++ joined fs) }
unfolding pack_all joined
pack-all out [] h = rw append-nil
pack-all out (a ∷ rest) h =
    let bs : List ℕ = bytes_of a.field.role a.field.count a.items in
    ap (λ (r : Run). pack_all r rest) (pack_one_lem out a.field.role a.field.count a.items h.0)
    ∙ pack-all (out ++ bs) rest h.1
    ∙ ap (λ (o : List ℕ). record { out = o; at = length o }) (append_assoc out bs (joined rest))

pub packed-joined : (fs : List Filled) → Forward fs → packed fs ≡ joined fs
unfolding packed
packed-joined fs h = ap (λ (r : Run). r.out) (pack-all [] fs h)

pub joined-append : (fs gs : List Filled) → joined (fs ++ gs) ≡ joined fs ++ joined gs
unfolding joined
joined-append [] gs = refl
joined-append (a ∷ fs) gs = ap (λ (r : List ℕ). bytes_of a.field.role a.field.count a.items ++ r)
    (joined-append fs gs) ∙ sym (append_assoc (bytes_of a.field.role a.field.count a.items) (joined fs)
    (joined gs))

forward-both : (fs gs : List Filled) → Forward fs → Forward gs → Forward (fs ++ gs)
forward-both [] gs h k = k
forward-both (a ∷ fs) gs h k = (h.0, forward-both fs gs h.1 k)

pub packed-append : (fs gs : List Filled) → Forward fs → Forward gs → packed (fs ++ gs) ≡ packed fs ++ packed gs
packed-append fs gs h k =
    packed-joined (fs ++ gs) (forward-both fs gs h k) ∙ joined-append fs gs ∙ sym (ap₂ (λ (x y : List ℕ). x ++ y) (packed-joined fs h) (packed-joined gs k))

-- what the fields say of the cursor holds of them with their arguments
forward-step : (area : List ℕ) (fs : List Field) → ((ts : List Slot) → Forward (filled area ts fs)) → (ts : List Slot) (k : Role) (u : Bool) (n : Count) → T (plain_role k)
    → Forward (filled area ts (record { role = k; unsigned = u; count = n } ∷ fs))
unfolding filled
forward-step area fs ih ts (Data s) u n h = (h, ih (drop 1 ts))
forward-step area fs ih ts (Move m) u n h = (h, ih ts)

pub forward-filled : (area : List ℕ) (fs : List Field) → ForwardFields fs → (ts : List Slot) → Forward (filled area ts fs)
unfolding filled
forward-filled area [] h ts = tt
forward-filled area (f ∷ fs) h ts = forward-step area fs (λ us. forward-filled area fs h.1 us) ts f.role f.unsigned f.count h.0
