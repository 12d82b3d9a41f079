-- The track of a layout follows the cursor of every packing: what it fixes is where the cursor is, and how far it has
-- been.
use Rattle.std.specs.declared.option.Option.TheVariants.{Some, None}
use Prim.Native.Nat.{ℕ, suc, ◌+◌, ◌-◌, ◌≤◌, max}
use native.Mathlib.Omega.{arith}
use mathlib.Core.Path.{◌≡◌, refl, sym, ap, ◌∙◌, subst}
use mathlib.Core.Bool.{Bool}
use mathlib.Core.List.{List, [], ◌∷◌, map}
use mathlib.Core.Logic.{◌⊎◌, inl, inr}
use lib.ListN.{length, drop, replicate, length-replicate}
use lib.Dec.{T}
use Rattle.layout.specs.declared.Role.{Role}
use Rattle.layout.specs.declared.Role.TheVariants.{Data, Move}
use Rattle.layout.specs.declared.Motion.TheVariants.{Skip, Back, Goto}
use Rattle.layout.specs.declared.Count.{Count}
use Rattle.layout.specs.declared.Count.TheVariants.{Absent, Star, Times}
use Rattle.layout.specs.declared.Shape.{Shape}
use Rattle.layout.specs.declared.Field.{Field}
use Rattle.layout.specs.Refusals.{ok}
use Rattle.layout.proofs.Laws.{bound}
use Rattle.record.specs.Table.{shown}
use Rattle.record.specs.declared.Cursor.{Cursor}
use Rattle.record.specs.declared.slots.Slot.{Slot}
use Rattle.layout.specs.Layout.{slots_taken}
use Rattle.record.specs.Geometry.{amount, bytes_for}
use Rattle.record.specs.Packing.{Run, stored, pack_one, Filled, next_slot, argument_fits, arguments_fit, filled}
use Rattle.record.specs.inside.Cursor.{cursor_of}
use Rattle.record.proofs.Fields.{Served, length-stored}
use Rattle.record.proofs.Moves.{Within, cursor-store, cursor-goto, pack-within}
use Rattle.runs.specs.Ends.{plain_role}
use Rattle.pack_check.specs.inside.measuring.{advance}
use Rattle.pack_check.proofs.arguments.ArgumentLaws.{Checked, checked-argument}
use Rattle.pack_store.proofs.stores.StoreLaws.{length-shown, served}
use Rattle.describe.specs.declared.fields.Track.{Track}
use Rattle.describe.specs.Placed.{Placed, fields_in}
use Rattle.describe.specs.Rows.{Extent, plus, highest, less, asked, filling, back, onward, none, number_shown, row_of, rows_from}
use Rattle.describe_claims.specs.Claim.{Met, AllMet}

-- a number that is fixed is this one
abbrev pub Is : Extent → ℕ → Type 0
Is (Some n) m = n ≡ m
Is None m = Unit {0}

is-plus : (a b : Extent) (x y : ℕ) → Is a x → Is b y → Is (plus a b) (x + y)
is-plus (Some a) (Some b) x y h k = omega arith
is-plus (Some a) None x y h k = tt
is-plus None b x y h k = tt

is-highest : (a b : Extent) (x y : ℕ) → Is a x → Is b y → Is (highest a b) (max x y)
is-highest (Some a) (Some b) x y h k = omega arith
is-highest (Some a) None x y h k = tt
is-highest None b x y h k = tt

is-less : (a : Extent) (n x : ℕ) → Is a x → Is (less a n) (x - n)
is-less (Some a) n x h = omega arith
is-less None n x h = tt

is-back : (a : Extent) (n : Count) (x : ℕ) → Is a x → Is (back a n) (x - amount n x)
is-back a Absent x h = is-less a 1 x h
is-back a Star x h = omega arith
is-back a (Times n) x h = is-less a n x h

is-asked : (n : Count) (all : Extent) (x : ℕ) → Is all x → Is (asked n all) (amount n x)
is-asked Absent all x h = refl
is-asked Star all x h = h
is-asked (Times n) all x h = refl

-- the bytes that a field fills where its value has `have` items
abbrev pub fills_of : Role → Count → ℕ → ℕ
fills_of (Data s) n have = bytes_for s (amount n have)
fills_of (Move m) n have = amount n 0

is-filling : (k : Role) (n : Count) (have : ℕ) → T (plain_role k) → Is (filling k n) (fills_of k n have)
is-filling (Data s) Absent have h = refl
is-filling (Data s) Star have h = tt
is-filling (Data s) (Times n) have h = refl
is-filling (Move Skip) n have h = is-asked n None 0 tt
is-filling (Move Back) n have h = absurd h
is-filling (Move Goto) n have h = absurd h

-- ---- one field

abbrev pub Follows : Track → Cursor → Type 0
Follows t c = Is t.at c.at × Is t.highest c.end

module _ (t : Track) (c : Cursor) (n : Count) (h : Follows t c) where
  forward : (k : Role) (have : ℕ) → T (plain_role k) → Is (plus t.at (filling k n)) (c.at + fills_of k n have)
  forward k have l = is-plus t.at (filling k n) c.at (fills_of k n have) h.0 (is-filling k n have l)

  -- the highest position, where the cursor goes on to y
  up : (b : Extent) (y : ℕ) → Is b y → Is (highest t.highest b) (max c.end y)
  up b y k = is-highest t.highest b c.end y h.1 k

  pub follows_on : (k : Role) (have : ℕ) → c.at ≤ c.end → Follows (onward t k n) (advance c k n have)
  follows_on (Data s) have w = let there = forward (Data s) have tt in (there, up _ _ there)
  follows_on (Move Skip) have w = let there = forward (Move Skip) have tt in (there, up _ _ there)
  follows_on (Move Back) have w =
      let there : Is (back t.at n) (c.at - amount n c.at) = is-back t.at n c.at h.0 in
      let top : max c.end (c.at - amount n c.at) ≡ c.end = omega arith in
      (there, rw top at (up (back t.at n) (c.at - amount n c.at) there))
  follows_on (Move Goto) have w =
      let there : Is (asked n t.highest) (amount n c.end) = is-asked n t.highest c.end h.1 in
      (there, up _ _ there)

-- ---- the cursor of the run is that of the passes

-- the items serve their field
abbrev pub ServedBy : Role → Count → List ℕ → Type 0
ServedBy (Data s) n xs = Served s (amount n (length xs)) xs
ServedBy (Move m) n xs = Unit {0}

pub packs-on : (r : Run) (k : Role) (n : Count) (xs : List ℕ) → Within r → ServedBy k n xs
    → cursor_of (pack_one r k n xs) ≡ advance (cursor_of r) k n (length xs)
unfolding pack_one
packs-on r (Data s) n xs w h =
    cursor-store r (stored s (amount n (length xs)) xs) w ∙ rw (length-stored s (amount n (length xs)) xs h)
packs-on r (Move Skip) n xs w h =
    cursor-store r (replicate (amount n 0) 0) w ∙ rw (length-replicate {A = ℕ} (amount n 0) 0)
packs-on r (Move Back) n xs w h = refl
packs-on r (Move Goto) n xs w h = cursor-goto r n

-- ---- every packing meets the rows

-- a field with its argument's items
abbrev pub Serves : Filled → Type 0
Serves f = ServedBy f.field.role f.field.count f.items

abbrev pub AllServe : List Filled → Type 0
AllServe [] = Unit {0}
AllServe (f ∷ fs) = Serves f × AllServe fs

fixed-or : (a : Extent) (x : ℕ) → Is a x → (number_shown a ≡ none) ⊎ (number_shown a ≡ x)
fixed-or (Some a) x h = inr h
fixed-or None x h = inl refl

fixed-sum : (a : Extent) (x y z : ℕ) → Is a x → y ≡ z + x → (number_shown a ≡ none) ⊎ (y ≡ z + number_shown a)
fixed-sum (Some a) x y z h e = inr (omega arith)
fixed-sum None x y z h e = inl refl

goes_by : (c : Cursor) (k : Role) (n : Count) (have : ℕ) → T (plain_role k)
    → (advance c k n have).at ≡ c.at + fills_of k n have
goes_by c (Data s) n have h = refl
goes_by c (Move Skip) n have h = refl
goes_by c (Move Back) n have h = absurd h
goes_by c (Move Goto) n have h = absurd h

module _ (r : Run) (f : Filled) (w : Within r) (s : Serves f) where
  abbrev pub next : Run
  next = pack_one r f.field.role f.field.count f.items

  pub next-within : Within next
  next-within = pack-within r f.field.role f.field.count f.items w

  pub next-follows : (t : Track) → Follows t (cursor_of r)
      → Follows (onward t f.field.role f.field.count) (cursor_of next)
  next-follows t h =
      subst (Follows (onward t f.field.role f.field.count)) (sym (packs-on r f.field.role f.field.count f.items w s))
      (follows_on t (cursor_of r) f.field.count h f.field.role (length f.items) w)

  further : T (plain_role f.field.role)
      → (number_shown (filling f.field.role f.field.count) ≡ none) ⊎ (next.at ≡ r.at + number_shown (filling f.field.role f.field.count))
  further l =
      let k : Role = f.field.role in
      let n : Count = f.field.count in
      let by : next.at ≡ r.at + fills_of k n (length f.items) =
      ap (λ (c : Cursor). c.at) (packs-on r k n f.items w s) ∙ goes_by (cursor_of r) k n (length f.items) l in
      fixed-sum (filling k n) (fills_of k n (length f.items)) next.at r.at (is-filling k n (length f.items) l) by

  one-met : (k : ℕ) (t : Track) (p : Placed) → f.field ≡ p.what → Follows t (cursor_of r) → Met r f (row_of k t p)
  one-met k t p e h = record { position = fixed-or t.at r.at h.0; bytes = λ l. rw (← e) (further l) }

abbrev pub fields_on : List Filled → List Field
fields_on fs = map (λ f. f.field) fs

pub all-met : (ps : List Placed) (fs : List Filled) (k : ℕ) (t : Track) (r : Run) → fields_on fs ≡ fields_in ps
    → AllServe fs → Within r → Follows t (cursor_of r)
    → AllMet r fs (rows_from k t ps)
unfolding rows_from
all-met [] [] k t r e s w h = tt
all-met [] (f ∷ fs) k t r e s w h = let z : ◌≡◌ {A = ℕ} 0 1 = cc in absurd (omega arith)
all-met (p ∷ ps) [] k t r e s w h = let z : ◌≡◌ {A = ℕ} 0 1 = cc in absurd (omega arith)
all-met (p ∷ ps) (f ∷ fs) k t r e s w h =
    let first : f.field ≡ p.what = cc in
    let rest : fields_on fs ≡ fields_in ps = cc in
    let on : Follows (onward t p.what.role p.what.count) (cursor_of (next r f w s.0)) = rw (← first) (next-follows r f w s.0 t h) in (
      one-met r f w s.0 k t p first h,
      all-met ps fs (k + slots_taken p.what) (onward t p.what.role p.what.count) (next r f w s.0) rest s.1 (next-within r f w s.0) on,
    )

-- ---- the arguments of an accepted packing serve their fields

module _ (area : List ℕ) where
  pub fields-filled : (fs : List Field) (ts : List Slot) → fields_on (filled area ts fs) ≡ fs
  unfolding filled
  fields-filled [] ts = refl
  fields-filled (f ∷ fs) ts = step f.role f.unsigned f.count (λ us. fields-filled fs us)
    where
      step : (c : Role) (u : Bool) (n : Count) → ((us : List Slot) → fields_on (filled area us fs) ≡ fs)
          → fields_on (filled area ts (record { role = c; unsigned = u; count = n } ∷ fs)) ≡ record { role = c; unsigned = u; count = n } ∷ fs
      step (Data s) u n ih =
          ap (λ (gs : List Field). record { role = Data s; unsigned = u; count = n } ∷ gs) (ih (drop 1 ts))
      step (Move m) u n ih = ap (λ (gs : List Field). record { role = Move m; unsigned = u; count = n } ∷ gs) (ih ts)

  served-items : (s : Shape) (n : Count) (i : ℕ) (t : Slot) → argument_fits area s n i t ≡ ok tt
      → ServedBy (Data s) n (shown area t).items
  served-items s n i t e =
      let c : Checked area s n t = checked-argument area s n i t e in
      rw (length-shown area t c.inside) (served area s n t c)

  pub all-serve : (fs : List Field) (i : ℕ) (ts : List Slot) → arguments_fit area i ts fs ≡ ok tt
      → AllServe (filled area ts fs)
  unfolding arguments_fit filled
  all-serve [] i ts e = tt
  all-serve (f ∷ fs) i ts e = step f.role f.unsigned f.count (λ j us k. all-serve fs j us k) e
    where
      step : (c : Role) (u : Bool) (n : Count)
          → ((j : ℕ) (us : List Slot) → arguments_fit area j us fs ≡ ok tt → AllServe (filled area us fs))
          → arguments_fit area i ts (record { role = c; unsigned = u; count = n } ∷ fs) ≡ ok tt
          → AllServe (filled area ts (record { role = c; unsigned = u; count = n } ∷ fs))
      step (Data s) u n ih k =
          let (x, k₁, k₂) =
          bound (argument_fits area s n i (next_slot ts)) (λ _. arguments_fit area (suc i) (drop 1 ts) fs) tt k in
          (served-items s n i (next_slot ts) k₁, ih (suc i) (drop 1 ts) k₂)
      step (Move m) u n ih k = (tt, ih i ts k)
