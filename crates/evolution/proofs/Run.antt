-- Reading what is left of the joined bytes of a plain layout after a cut shows what `set_by` says.
use Prim.Native.Nat.{ℕ, zero, suc, ◌+◌, ◌-◌, ◌≤◌, ◌<◌, min}
use native.Mathlib.Omega.{arith}
use mathlib.Core.Path.{◌≡◌, refl, sym, ap, ap₂, ◌∙◌}
use mathlib.Core.Bool.{Bool}
use mathlib.Core.List.{List, [], ◌∷◌, ◌++◌, append_assoc}
use lib.ListN.{length, get_or, take, drop, replicate, length-append, length-replicate}
use lib.Seq.{length-take-le, take_at, drop_at, take-take, drop-drop}
use lib.Dec.{T}
use borrow.Author.Tests.{le-leb, lt-leb}
use Rattle.layout.specs.declared.Role.{Role}
use Rattle.layout.specs.declared.Role.TheVariants.{Data, Move}
use Rattle.layout.specs.declared.Motion.TheVariants.{Skip, Back, Goto}
use Rattle.layout.specs.declared.Count.{Count}
use Rattle.layout.specs.declared.Field.{Field}
use Rattle.layout.specs.inside.Parsing.{FitRole}
use Rattle.record.specs.Table.{no_position, Value}
use Rattle.record.specs.Geometry.{amount, bytes_for, items_in}
use Rattle.record.specs.Packing.{stored, Filled}
use Rattle.record.specs.Reading.{loaded, values_from, positions_from, steps_from}
use Rattle.runs.specs.Ends.{plain_role, fills, end_of}
use Rattle.runs.proofs.Joined.{bytes_of, joined, Forward}
use Rattle.evolution.specs.Claim.{set_by, starts_from, carried_out}
use Rattle.record.proofs.Bytes.{drop-take}
use Rattle.record.proofs.Fields.{Served, length-stored, fills-some, split}
use Rattle.evolution.proofs.Fields.{back}

-- ---- a field with its argument, in a plain layout that the packer accepts

abbrev pub Good : Role → Count → List ℕ → Type 0
Good (Data s) n xs = FitRole (Data s) × Served s (amount n 0) xs × (0 < amount n 0) × ((all : ℕ) → amount n all ≡ amount n 0)
Good (Move Skip) n xs = (all : ℕ) → amount n all ≡ amount n 0
Good (Move Back) n xs = ⊥
Good (Move Goto) n xs = ⊥

abbrev pub AllGood : List Filled → Type 0
AllGood [] = Unit {0}
AllGood (a ∷ rest) = Good a.field.role a.field.count a.items × AllGood rest

goes-forward : (k : Role) (n : Count) (xs : List ℕ) → Good k n xs → T (plain_role k)
goes-forward (Data s) n xs h = tt
goes-forward (Move Skip) n xs h = tt
goes-forward (Move Back) n xs h = h
goes-forward (Move Goto) n xs h = h

pub all-forward : (fs : List Filled) → AllGood fs → Forward fs
all-forward [] h = tt
all-forward (a ∷ rest) h = (goes-forward a.field.role a.field.count a.items h.0, all-forward rest h.1)

pub length-bytes : (k : Role) (n : Count) (xs : List ℕ) → Good k n xs → length (bytes_of k n xs) ≡ fills k n
unfolding bytes_of fills
length-bytes (Data s) n xs h = rw (h.3 (length xs)) (length-stored s (amount n 0) xs h.1)
length-bytes (Move Skip) n xs h = length-replicate (amount n 0) 0
length-bytes (Move Back) n xs h = absurd h
length-bytes (Move Goto) n xs h = absurd h

-- ---- reading a cut

-- n bytes from a on are those of the whole where they end at or before the cut
within : (a n k : ℕ) (l : List ℕ) → a + n ≤ k → take n (drop a (take k l)) ≡ take n (drop a l)
within a n k l h = ap (take n) (drop-take a k l) ∙ take-take n (k - a) (drop a l) (omega arith)

unfoldable pub fields_in : List Filled → List Field
fields_in [] = []
fields_in (a ∷ rest) = a.field ∷ fields_in rest

pub length-joined : (fs : List Filled) → AllGood fs → length (joined fs) ≡ end_of (fields_in fs)
unfolding joined fields_in end_of
length-joined [] h = refl
length-joined (a ∷ rest) h = rw (length-append, length-bytes a.field.role a.field.count a.items h.0, length-joined rest h.1)

abbrev pub one : Role → Bool → Count → List ℕ → Filled
one k u n xs = record { field = record { role = k; unsigned = u; count = n }; items = xs }

-- past the cut nothing is due
past-due-step : (cut before : ℕ) (rest : List Filled) → ((b : ℕ) → cut < b → set_by cut b rest ≡ []) → cut < before
    → (k : Role) (u : Bool) (n : Count) (xs : List ℕ) → set_by cut before (one k u n xs ∷ rest) ≡ []
unfolding set_by
past-due-step cut before rest ih h (Data s) u n xs = rw (lt-leb (before + bytes_for s (amount n 0)) cut (omega arith)) (ih _ (omega arith))
past-due-step cut before rest ih h (Move m) u n xs = ih _ (omega arith)

pub past-due : (cut before : ℕ) (fs : List Filled) → cut < before → set_by cut before fs ≡ []
unfolding set_by
past-due cut before [] h = refl
past-due cut before (a ∷ rest) h =
    past-due-step cut before rest (λ b k. past-due cut b rest k) h a.field.role a.field.unsigned a.field.count a.items

-- at the end of the bytes nothing is read
at-end-step : (bs : List ℕ) (fs : List Field) → values_from bs (length bs) fs ≡ []
    → (k : Role) (u : Bool) (n : Count) (xs : List ℕ) → Good k n xs → values_from bs (length bs) (record { role = k; unsigned = u; count = n } ∷ fs) ≡ []
unfolding values_from
at-end-step bs fs ih (Data s) u n xs h =
    rw (h.3 (items_in s (length bs - length bs)), lt-leb (bytes_for s (amount n 0)) (length bs - length bs) (omega (arith, fills-some s (amount n 0) h.0 h.2)))
at-end-step bs fs ih (Move Skip) u n xs h = let e : min (length bs + amount n (length bs)) (length bs) ≡ length bs = omega arith in rw e ih
at-end-step bs fs ih (Move Back) u n xs h = absurd h
at-end-step bs fs ih (Move Goto) u n xs h = absurd h

at-end : (bs : List ℕ) (fs : List Filled) → AllGood fs → values_from bs (length bs) (fields_in fs) ≡ []
unfolding values_from fields_in
at-end bs [] h = refl
at-end bs (a ∷ rest) h =
    at-end-step bs (fields_in rest) (at-end bs rest h.1) a.field.role a.field.unsigned a.field.count a.items h.0

-- Before the cut the reader stands where the packer stood: `whole` has the bytes of fs and then `after` from `at` on
module _ (whole : List ℕ) (cut : ℕ) (inside : cut ≤ length whole) where
  size : length (take cut whole) ≡ cut
  size = length-take-le cut whole inside

  abbrev Agree : List Filled → Type 0
  Agree fs = (at : ℕ) (after : List ℕ) → at ≤ cut → drop at whole ≡ joined fs ++ after → values_from (take cut whole) at (fields_in fs) ≡ set_by cut at fs

  next : (at : ℕ) (bs rest after : List ℕ) (n : ℕ) → length bs ≡ n → drop at whole ≡ (bs ++ rest) ++ after → drop (at + n) whole ≡ rest ++ after
  next at bs rest after n len e = sym (drop-drop n at whole) ∙ ap (drop n) (e ∙ append_assoc bs rest after) ∙ drop_at bs (rest ++ after) n len

  agree-step : (rest : List Filled) → AllGood rest → Agree rest → (k : Role) (u : Bool) (n : Count) (xs : List ℕ) → Good k n xs → Agree (one k u n xs ∷ rest)
  unfolding values_from set_by fields_in joined bytes_of
  agree-step rest hs ih (Data s) u n xs h at after le e =
      let bs : List ℕ = stored s (amount n 0) xs in
      let need : ℕ = bytes_for s (amount n 0) in
      let len : length bs ≡ need = length-stored s (amount n 0) xs h.1 in
      let left : length (take cut whole) ≡ cut = size in
      let e' : drop at whole ≡ (bs ++ joined rest) ++ after = rw (h.3 (length xs)) at e in
      rw (h.3 (items_in s (length (take cut whole) - at)))
      (split (at + need) cut
      (λ (k : at + need ≤ cut).
      rw (le-leb need (length (take cut whole) - at) (omega arith), le-leb (at + need) cut k)
      (ap₂ (λ (v : Value) (r : List Value). v ∷ r)
      (ap (loaded s u (amount n 0)) (within at need cut whole k ∙ ap (take need) (e' ∙ append_assoc bs (joined rest)
      after) ∙ take_at bs (joined rest ++ after) need len) ∙ back s u (amount n 0) xs h.1)
      (ih (at + need) after k (next at bs (joined rest) after need len e'))))
      (λ (k : cut < at + need).
      rw (lt-leb need (length (take cut whole) - at) (omega arith), lt-leb (at + need) cut k) (sym (past-due cut (at + need) rest k))))
  agree-step rest hs ih (Move Skip) u n xs h at after le e =
      let zeros : List ℕ = replicate (amount n 0) 0 in
      let len : length zeros ≡ amount n 0 = length-replicate (amount n 0) 0 in
      let left : length (take cut whole) ≡ cut = size in
      rw (h (length (take cut whole)))
      (split (at + amount n 0) cut
      (λ (k : at + amount n 0 ≤ cut).
      let here : min (at + amount n 0) (length (take cut whole)) ≡ at + amount n 0 = omega arith in
      rw here (ih (at + amount n 0) after k (next at zeros (joined rest) after (amount n 0) len e)))
      (λ (k : cut < at + amount n 0).
      let end : min (at + amount n 0) (length (take cut whole)) ≡ length (take cut whole) = omega arith in
      rw end (at-end (take cut whole) rest hs ∙ sym (past-due cut (at + amount n 0) rest k))))
  agree-step rest hs ih (Move Back) u n xs h at after le e = absurd h
  agree-step rest hs ih (Move Goto) u n xs h at after le e = absurd h

  pub agree : (fs : List Filled) → AllGood fs → Agree fs
  unfolding values_from set_by fields_in
  agree [] h = λ at after le e. refl
  agree (a ∷ rest) h = agree-step rest h.1 (agree rest h.1) a.field.role a.field.unsigned a.field.count a.items h.0

-- ---- where fields begin: as long as there are values, the reader begins each field where the packer did; gs are any
-- fields that follow

module _ (bs : List ℕ) (gs : List Field) where
  abbrev Begun : List Filled → Type 0
  Begun fs =
      (at : ℕ) → at ≤ length bs → (i : ℕ) → i < length (values_from bs at (fields_in fs))
      → get_or (positions_from (length bs) at (fields_in fs)) i no_position ≡ get_or (starts_from at (fields_in fs ++ gs)) i no_position

  later : (at n : ℕ) (ps qs : List ℕ) → ((i : ℕ) → i < n → get_or ps i no_position ≡ get_or qs i no_position) → (i : ℕ) → i < suc n → get_or (at ∷ ps) i no_position ≡ get_or (at ∷ qs) i no_position
  later at n ps qs h zero l = refl
  later at n ps qs h (suc i) l = h i (omega arith)

  -- by other names of the values and positions
  named : {vs ws : List Value} {ps qs : List ℕ} (rs : List ℕ) → vs ≡ ws → ps ≡ qs → ((i : ℕ) → i < length ws → get_or qs i no_position ≡ get_or rs i no_position)
      → (i : ℕ) → i < length vs → get_or ps i no_position ≡ get_or rs i no_position
  named rs e f h i l = ap (λ (ps : List ℕ). get_or ps i no_position) f ∙ h i (rw e at l)

  none : (i : ℕ) → i < 0 → (x y : ℕ) → x ≡ y
  none i l x y = omega arith

  begun-step : (rest : List Filled) → AllGood rest → Begun rest → (k : Role) (u : Bool) (n : Count) (xs : List ℕ) → Good k n xs → Begun (one k u n xs ∷ rest)
  unfolding values_from positions_from starts_from fills fields_in
  begun-step rest hs ih (Data s) u n xs h at le =
      let need : ℕ = bytes_for s (amount n 0) in
      let fs : List Field = fields_in rest in
      let starts : List ℕ = starts_from (at + need) (fs ++ gs) in
      let places : at ∷ positions_from (length bs) (at + bytes_for s (amount n (items_in s (length bs - at)))) fs ≡ at
      ∷ positions_from (length bs) (at + need) fs = rw (h.3 (items_in s (length bs - at))) in
      split need (length bs - at)
      (λ (k : need ≤ length bs - at).
      let values : values_from bs at (record { role = Data s; unsigned = u; count = n } ∷ fs) ≡ loaded s u (amount n 0) (take need (drop at bs)) ∷ values_from bs (at + need) fs =
      rw (h.3 (items_in s (length bs - at)), le-leb need (length bs - at) k) in
      named (at ∷ starts) values places (later at (length (values_from bs (at + need) fs)) (positions_from (length bs) (at + need) fs) starts (ih (at + need) (omega arith))))
      (λ (k : length bs - at < need).
      let values : values_from bs at (record { role = Data s; unsigned = u; count = n } ∷ fs) ≡ [] = rw (h.3 (items_in s (length bs - at)), lt-leb need (length bs - at) k) in
      named (at ∷ starts) values places (λ i l. none i l _ _))
  begun-step rest hs ih (Move Skip) u n xs h at le =
      let fs : List Field = fields_in rest in
      let starts : List ℕ = starts_from (at + amount n 0) (fs ++ gs) in
      let to : ℕ = min (at + amount n (length bs)) (length bs) in
      let same : amount n (length bs) ≡ amount n 0 = h (length bs) in
      split (at + amount n 0) (length bs)
      (λ (k : at + amount n 0 ≤ length bs).
      let here : to ≡ at + amount n 0 = omega arith in
      named starts (ap (λ (m : ℕ). values_from bs m fs) here) (ap (λ (m : ℕ). positions_from (length bs) m fs) here) (ih (at + amount n 0) k))
      (λ (k : length bs < at + amount n 0).
      let end : to ≡ length bs = omega arith in
      named starts (ap (λ (m : ℕ). values_from bs m fs) end ∙ at-end bs rest hs) (ap (λ (m : ℕ). positions_from (length bs) m fs) end) (λ i l. none i l _ _))
  begun-step rest hs ih (Move Back) u n xs h at le = absurd h
  begun-step rest hs ih (Move Goto) u n xs h at le = absurd h

  pub begun : (fs : List Filled) → AllGood fs → Begun fs
  unfolding values_from fields_in
  begun [] h = λ at le i l. none i l _ _
  begun (a ∷ rest) h = begun-step rest h.1 (begun rest h.1) a.field.role a.field.unsigned a.field.count a.items h.0

-- ---- steps: the reader takes as many as are due, also where an `x` has taken it to the cut

module _ (cut : ℕ) where
  -- at the cut, with fields due past it
  at-cut-step : (rest : List Filled) → ((b : ℕ) → cut < b → steps_from cut cut (fields_in rest) ≡ carried_out cut b (fields_in rest))
      → (k : Role) (u : Bool) (n : Count) (xs : List ℕ) → Good k n xs → (b : ℕ) → cut < b → steps_from cut cut (fields_in (one k u n xs ∷ rest)) ≡ carried_out cut b (fields_in (one k u n xs ∷ rest))
  unfolding steps_from carried_out fills fields_in
  at-cut-step rest ih (Data s) u n xs h b l =
      rw (h.3 (items_in s (cut - cut)), lt-leb (bytes_for s (amount n 0)) (cut - cut) (omega (arith, fills-some s (amount n 0) h.0 h.2)), lt-leb (b + bytes_for s (amount n 0)) cut (omega arith))
  at-cut-step rest ih (Move Skip) u n xs h b l = let e : min (cut + amount n cut) cut ≡ cut = omega arith in rw e (ap suc (ih (b + amount n 0) (omega arith)))
  at-cut-step rest ih (Move Back) u n xs h b l = absurd h
  at-cut-step rest ih (Move Goto) u n xs h b l = absurd h

  at_cut : (fs : List Filled) → AllGood fs → (b : ℕ) → cut < b → steps_from cut cut (fields_in fs) ≡ carried_out cut b (fields_in fs)
  unfolding steps_from carried_out fields_in
  at_cut [] h = λ b l. refl
  at_cut (a ∷ rest) h = at-cut-step rest (at_cut rest h.1) a.field.role a.field.unsigned a.field.count a.items h.0

  carried_step : (rest : List Filled) → AllGood rest → ((at : ℕ) → at ≤ cut → steps_from cut at (fields_in rest) ≡ carried_out cut at (fields_in rest))
      → (k : Role) (u : Bool) (n : Count) (xs : List ℕ) → Good k n xs → (at : ℕ) → at ≤ cut → steps_from cut at (fields_in (one k u n xs ∷ rest)) ≡ carried_out cut at (fields_in (one k u n xs ∷ rest))
  unfolding steps_from carried_out fills fields_in
  carried_step rest hs ih (Data s) u n xs h at le =
      let need : ℕ = bytes_for s (amount n 0) in
      rw (h.3 (items_in s (cut - at)))
      (split (at + need) cut
      (λ (k : at + need ≤ cut). rw (le-leb need (cut - at) (omega arith), le-leb (at + need) cut k) (ap suc (ih (at + need) k)))
      (λ (k : cut < at + need). rw (lt-leb need (cut - at) (omega arith), lt-leb (at + need) cut k)))
  carried_step rest hs ih (Move Skip) u n xs h at le =
      rw (h cut)
      (split (at + amount n 0) cut
      (λ (k : at + amount n 0 ≤ cut). let here : min (at + amount n 0) cut ≡ at + amount n 0 = omega arith in rw here (ap suc (ih (at + amount n 0) k)))
      (λ (k : cut < at + amount n 0). let end : min (at + amount n 0) cut ≡ cut = omega arith in rw end (ap suc (at_cut rest hs (at + amount n 0) k))))
  carried_step rest hs ih (Move Back) u n xs h at le = absurd h
  carried_step rest hs ih (Move Goto) u n xs h at le = absurd h

  pub carried : (fs : List Filled) → AllGood fs → (at : ℕ) → at ≤ cut → steps_from cut at (fields_in fs) ≡ carried_out cut at (fields_in fs)
  unfolding steps_from carried_out fields_in
  carried [] h = λ at le. refl
  carried (a ∷ rest) h = carried_step rest h.1 (carried rest h.1) a.field.role a.field.unsigned a.field.count a.items h.0
