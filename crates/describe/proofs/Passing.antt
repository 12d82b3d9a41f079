-- The pass over the fields with starred values empty: it is the packing run over the fewest items, it stays below the
-- pass of every packing that is accepted, and each field takes it no further than a fixed reach.
use Prim.Native.Nat.{ℕ, zero, suc, ◌+◌, ◌*◌, ◌≤◌}
use native.Mathlib.Nat.{mul-le-mul}
use native.Mathlib.Omega.{arith}
use mathlib.Core.Path.{◌≡◌, refl, sym, ap, ◌∙◌, subst}
use mathlib.Core.Bool.{Bool, true, false}
use mathlib.Core.List.{List, [], ◌∷◌, map}
use lib.ListN.{length, drop, replicate, length-replicate}
use lib.Seq.{take_all}
use lib.Dec.{T, eqb}
use borrow.Author.Tests.{leb-true, eqb-true}
use Rattle.layout.specs.declared.Role.{Role}
use Rattle.layout.specs.declared.Role.TheVariants.{Data, Move}
use Rattle.layout.specs.declared.Motion.TheVariants.{Skip, Back, Goto}
use Rattle.layout.specs.declared.Shape.{Shape}
use Rattle.layout.specs.declared.Shape.TheVariants.{Text, Digits, Integers, Reals}
use Rattle.layout.specs.declared.Count.{Count}
use Rattle.layout.specs.declared.Count.TheVariants.{Absent, Star, Times}
use Rattle.layout.specs.declared.Field.{Field}
use Rattle.layout.specs.Refusals.{ok}
use Rattle.layout.specs.Layout.{max_count, in_limit, slots_taken}
use Rattle.layout.specs.inside.Parsing.{FitRole}
use Rattle.layout.proofs.Laws.{bound, ok-inj, AllSound}
use Rattle.describe.proofs.Counts.{AllCounted}
use Rattle.record.specs.declared.Cursor.{Cursor}
use Rattle.record.specs.declared.slots.Slot.{Slot}
use Rattle.record.specs.Geometry.{amount, bytes_for}
use Rattle.record.specs.inside.Cursor.{origin, past, cursor_of}
use Rattle.record.specs.Packing.{Run, start, stored, pack_one, pack_all, packed, all_digits, next_slot}
use Rattle.record.proofs.Bytes.{both}
use Rattle.runs.proofs.Calls.{T→true}
use Rattle.record.proofs.Bounds.{bytes_small}
use Rattle.record.proofs.Fields.{Served, length-stored}
use Rattle.record.proofs.Moves.{Within, pack-within, cursor-store, cursor-goto}
use Rattle.pack_check.specs.inside.measuring.{advance, field_checked, arguments_checked}
use Rattle.pack_check.proofs.measuring.Bounds.{advance-within}
use Rattle.pack_check.proofs.measuring.MeasureLaws.{stepped-advance}
use Rattle.describe.specs.Description.{fewest, least_length, field_reach}
use Rattle.describe.specs.Claim.{empty_star, stars_empty, starless}
use Rattle.describe.specs.inside.Measure.{passed}

-- ---- the packing run over the fewest items

-- a count asks for no more than it was given
amount-again : (n : Count) → amount n (amount n 0) ≡ amount n 0
amount-again Absent = refl
amount-again Star = refl
amount-again (Times n) = refl

zeros-digits : (hex : Bool) (n : ℕ) → T (all_digits hex (replicate n 48))
unfolding all_digits
zeros-digits true zero = tt
zeros-digits true (suc n) = zeros-digits true n
zeros-digits false zero = tt
zeros-digits false (suc n) = zeros-digits false n

pub served-fewest : (s : Shape) (n : ℕ) → Served s n (replicate n 48)
served-fewest (Text pad) n = tt
served-fewest (Digits hex high) n =
    let zeros : List ℕ = replicate n 48 in
    rw (take_all n zeros (omega (arith, length-replicate {A = ℕ} n 48))) (zeros-digits hex n)
served-fewest (Integers w big) n = omega (arith, length-replicate {A = ℕ} n 48)
served-fewest (Reals single big) n = omega (arith, length-replicate {A = ℕ} n 48)

one_field : (r : Run) (k : Role) (n : Count) → Within r → advance (cursor_of r) k n 0 ≡ cursor_of (pack_one r k n (replicate (amount n 0) 48))
unfolding pack_one
one_field r (Data s) n w =
    let m : ℕ = amount n 0 in
    let xs : List ℕ = replicate m 48 in
    let many : amount n (length xs) ≡ m = ap (amount n) (length-replicate {A = ℕ} m 48) ∙ amount-again n in
    let bytes : length (stored s m xs) ≡ bytes_for s m = length-stored s m xs (served-fewest s m) in
    rw many (ap (past (cursor_of r)) (sym bytes) ∙ sym (cursor-store r (stored s m xs) w))
one_field r (Move Skip) n w =
    let zs : List ℕ = replicate (amount n 0) 0 in
    ap (past (cursor_of r)) (sym (length-replicate (amount n 0) 0)) ∙ sym (cursor-store r zs w)
one_field r (Move Back) n w = refl
one_field r (Move Goto) n w = sym (cursor-goto r n)

all-fields : (fs : List Field) (r : Run) → Within r → passed (cursor_of r) fs ≡ cursor_of (pack_all r (map fewest fs))
unfolding passed pack_all
all-fields [] r w = refl
all-fields (f ∷ fs) r w =
    ap (λ (c : Cursor). passed c fs) (one_field r f.role f.count w)
    ∙ all-fields fs (pack_one r f.role f.count (fewest f).items) (pack-within r f.role f.count (fewest f).items w)

pub passed_length : (fs : List Field) → (passed origin fs).end ≡ least_length fs
unfolding least_length packed
passed_length fs = ap (λ (c : Cursor). c.end) (all-fields fs start (omega arith))

-- ---- with starred values empty the pass comes no further than a packing does

abbrev Below : Cursor → Cursor → Type 0
Below c d = (c.at ≤ d.at) × (c.end ≤ d.end)

amount-least : (n : Count) (all : ℕ) → amount n 0 ≤ amount n all
amount-least Absent all = omega arith
amount-least Star all = omega arith
amount-least (Times n) all = omega arith

bytes-more : (s : Shape) (m n : ℕ) → m ≤ n → bytes_for s m ≤ bytes_for s n
bytes-more (Text pad) m n h = h
bytes-more (Digits true high) m n h = omega arith
bytes-more (Digits false high) m n h = omega arith
bytes-more (Integers w big) m n h = mul-le-mul h (omega arith)
bytes-more (Reals single big) m n h = mul-le-mul h (omega arith)

advance-below : (c d : Cursor) (k : Role) (n : Count) (have : ℕ) → Below c d → Below (advance c k n 0) (advance d k n have)
advance-below c d (Data s) n have h =
    let more : bytes_for s (amount n 0) ≤ bytes_for s (amount n have) = bytes-more s (amount n 0) (amount n have) (amount-least n have) in
    (omega arith, omega arith)
advance-below c d (Move Skip) n have h = (omega arith, omega arith)
advance-below c d (Move Back) Absent have h = (omega arith, omega arith)
advance-below c d (Move Back) Star have h = (omega arith, omega arith)
advance-below c d (Move Back) (Times n) have h = (omega arith, omega arith)
advance-below c d (Move Goto) Absent have h = (omega arith, omega arith)
advance-below c d (Move Goto) Star have h = (omega arith, omega arith)
advance-below c d (Move Goto) (Times n) have h = (omega arith, omega arith)

module _ (area : List ℕ) where
  pub never-behind : (fs : List Field) (k : ℕ) (ts : List Slot) (c d e : Cursor) → Below c d → arguments_checked area k ts fs d ≡ ok e → Below (passed c fs) e
  unfolding passed arguments_checked
  never-behind [] k ts c d e h l = subst (Below c) (ok-inj l) h
  never-behind (f ∷ fs) k ts c d e h l =
      let (d', l₁, l₂) = bound (field_checked area k (next_slot ts) d f.role f.count) (arguments_checked area (k + slots_taken f) (drop (slots_taken f) ts) fs) e l in
      let at : d' ≡ advance d f.role f.count (next_slot ts).len = stepped-advance area k (next_slot ts) d f.role f.count d' l₁ in
      never-behind fs (k + slots_taken f) (drop (slots_taken f) ts) (advance c f.role f.count 0) d' e
      (subst (Below (advance c f.role f.count 0)) (sym at) (advance-below c d f.role f.count (next_slot ts).len h)) l₂

  -- ---- and the same where every starred value is empty

  empty-amount : (n : Count) (have : ℕ) → T (empty_star n have) → amount n have ≡ amount n 0
  empty-amount Absent have h = refl
  empty-amount Star have h = eqb-true have 0 (T→true (eqb have 0) h)
  empty-amount (Times n) have h = refl

  abbrev Same : List Field → Type 0
  Same fs = (k : ℕ) (ts : List Slot) (c e : Cursor) → T (stars_empty ts fs) → arguments_checked area k ts fs c ≡ ok e → e ≡ passed c fs

  same-field : (fs : List Field) → Same fs → (role : Role) (u : Bool) (n : Count) → Same (record { role = role; unsigned = u; count = n } ∷ fs)
  unfolding passed arguments_checked stars_empty
  same-field fs ih (Data s) u n k ts c e h l =
      let t : Slot = next_slot ts in
      let (empty, rest) = both (empty_star n t.len) (stars_empty (drop 1 ts) fs) h in
      let (d, l₁, l₂) = bound (field_checked area k t c (Data s) n) (arguments_checked area (k + 1) (drop 1 ts) fs) e l in
      let at : d ≡ advance c (Data s) n 0 =
      stepped-advance area k t c (Data s) n d l₁ ∙ ap (λ (m : ℕ). past c (bytes_for s m)) (empty-amount n t.len empty) in
      ih (k + 1) (drop 1 ts) d e rest l₂ ∙ ap (λ (x : Cursor). passed x fs) at
  same-field fs ih (Move m) u n k ts c e h l =
      let (d, l₁, l₂) = bound (field_checked area k (next_slot ts) c (Move m) n) (arguments_checked area (k + 0) ts fs) e l in
      ih (k + 0) ts d e h l₂ ∙ ap (λ (x : Cursor). passed x fs) (stepped-advance area k (next_slot ts) c (Move m) n d l₁)

  pub just-there : (fs : List Field) → Same fs
  unfolding passed arguments_checked
  just-there [] k ts c e h l = sym (ok-inj l)
  just-there (f ∷ fs) k ts c e h l = same-field fs (just-there fs) f.role f.unsigned f.count k ts c e h l

-- values without stars are no starred values
abbrev Emptied : List Field → Type 0
Emptied fs = T (starless fs) → (ts : List Slot) → T (stars_empty ts fs)

emptied-field : (fs : List Field) → Emptied fs → (role : Role) (u : Bool) (n : Count) → Emptied (record { role = role; unsigned = u; count = n } ∷ fs)
unfolding starless stars_empty
emptied-field fs ih (Data s) u Absent h ts = ih h (drop 1 ts)
emptied-field fs ih (Data s) u Star h ts = absurd h
emptied-field fs ih (Data s) u (Times n) h ts = ih h (drop 1 ts)
emptied-field fs ih (Move m) u n h ts = ih h ts

pub starless-empty : (fs : List Field) → Emptied fs
unfolding starless stars_empty
starless-empty [] h ts = tt
starless-empty (f ∷ fs) h ts = emptied-field fs (starless-empty fs) f.role f.unsigned f.count h ts

-- ---- how far a field reaches

amount-limited : (n : Count) (all : ℕ) → in_limit n ≡ true → amount n all ≤ max_count + all
amount-limited Absent all h = omega arith
amount-limited Star all h = omega arith
amount-limited (Times n) all h = omega (arith, leb-true n max_count h)

pub advance-near : (c : Cursor) (k : Role) (n : Count) → FitRole k → in_limit n ≡ true → c.at ≤ c.end → (advance c k n 0).end ≤ c.end + field_reach
advance-near c (Data s) n f l w = omega (arith, bytes_small s (amount n 0) f, amount-limited n 0 l)
advance-near c (Move Skip) n f l w = omega (arith, amount-limited n 0 l)
advance-near c (Move Back) n f l w = omega arith
advance-near c (Move Goto) n f l w = omega (arith, amount-limited n c.end l)

pub passed-near : (fs : List Field) (c : Cursor) → AllSound fs → AllCounted fs → c.at ≤ c.end → (passed c fs).end ≤ c.end + length fs * field_reach
unfolding passed
passed-near [] c s l w = omega arith
passed-near (f ∷ fs) c s l w =
    let one : (advance c f.role f.count 0).end ≤ c.end + field_reach = advance-near c f.role f.count s.0 l.0 w in
    omega (arith, passed-near fs (advance c f.role f.count 0) s.1 l.1 (advance-within c f.role f.count 0 w))
