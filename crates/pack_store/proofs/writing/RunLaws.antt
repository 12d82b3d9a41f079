-- The passes compute what the definition of packing says: the measuring pass the checks and the length, the writing
-- pass the bytes.
use Prim.Native.Nat.{ℕ, suc, ◌+◌, ◌-◌, ◌≤◌, max}
use native.Mathlib.Nat.{add-zero}
use native.Mathlib.Numerals.{add-one}
use native.Mathlib.Omega.{arith}
use mathlib.Core.Path.{◌≡◌, refl, sym, ap, ◌∙◌}
use mathlib.Core.Bool.{Bool}
use mathlib.Core.List.{List, [], ◌∷◌, ◌++◌, append-nil}
use lib.ListN.{length, drop, replicate, length-append, length-replicate, drop_of_length-le}
use lib.Seq.{take_all}
use Rattle.layout.specs.declared.Role.{Role}
use Rattle.layout.specs.declared.Role.TheVariants.{Data, Move}
use Rattle.layout.specs.declared.Motion.{Motion}
use Rattle.layout.specs.declared.Motion.TheVariants.{Skip, Back, Goto}
use Rattle.layout.specs.declared.Shape.{Shape}
use Rattle.layout.specs.declared.Count.{Count}
use Rattle.layout.specs.declared.Field.{Field}
use Rattle.layout.specs.Refusals.{Result, ok, refused, ◌>>=◌}
use Rattle.layout.specs.Layout.{slots_taken}
use Rattle.record.specs.declared.Cursor.{Cursor}
use Rattle.record.specs.Bytes.{store_at}
use Rattle.record.specs.declared.slots.Slot.{Slot}
use Rattle.record.specs.Table.{shown}
use Rattle.record.specs.Geometry.{amount, bytes_for, goto_in}
use Rattle.record.specs.Packing.{Run, store, goto, stored, pack_one, pack_all, filled, next_slot, argument_fits, arguments_fit}
use Rattle.record.specs.inside.Cursor.{cursor_of, past, moved}
use Rattle.record.proofs.Fields.{length-stored}
use Rattle.record.proofs.Moves.{Within, length-store, pack-within, held, store-held}
use Rattle.pack_check.specs.inside.measuring.{advance, field_checked, arguments_checked, HasRoom}
use Rattle.pack_store.specs.inside.writing.{put_move, put, written}
use Rattle.pack_check.proofs.arguments.ArgumentLaws.{Checked, checked-argument}
use Rattle.pack_store.proofs.stores.StoreLaws.{length-shown, served}
use Rattle.pack_check.proofs.measuring.MeasureLaws.{stepped-advance}

-- ---- one field

cursor-store : (r : Run) (bs : List ℕ) (n : ℕ) → Within r → length bs ≡ n → past (cursor_of r) n ≡ cursor_of (store r bs)
cursor-store r bs n w e = rw (← e) (ap (λ (m : ℕ). record { at = r.at + length bs; end = m }) (sym (length-store r bs w)))

cursor-goto : (r : Run) (n : Count) → moved (cursor_of r) Goto n ≡ cursor_of (goto r n)
cursor-goto r n =
    let e : max (length r.out) (goto_in (length r.out) n) ≡ length (goto r n).out = rw (length-append, length-replicate) (omega arith) in
    ap (λ (m : ℕ). record { at = goto_in (length r.out) n; end = m }) e

-- a store at the end is an extension
store-end : (out zs : List ℕ) → store_at out (length out) zs ≡ out ++ zs
store-end out zs =
    let d : drop (length out + length zs) out ≡ [] = drop_of_length-le out {i = length out + length zs} (omega arith) in
    rw (take_all (length out) out (omega arith), d, append-nil)

held-goto : (r : Run) (n : Count) (lent : List ℕ) → put_move (held r lent) (cursor_of r) Goto n ≡ held (goto r n) lent
held-goto r n lent =
    let zs : List ℕ = replicate (goto_in (length r.out) n - length r.out) 0 in
    store-held (record { out = r.out; at = length r.out }) zs lent (omega arith)
    ∙ ap (λ (l : List ℕ). l ++ drop (length l) lent) (store-end r.out zs)

-- the items of a field's argument
abbrev items_of : List ℕ → Slot → Role → List ℕ
items_of area t (Data s) = (shown area t).items
items_of area t (Move m) = []

-- the buffer and the cursor after a field are those of the run
pub record Packs (area : List ℕ) (t : Slot) (r : Run) (role : Role) (n : Count) : Type 0 where
  pub cursor : advance (cursor_of r) role n t.len ≡ cursor_of (pack_one r role n (items_of area t role))
  pub bytes : (lent : List ℕ) → put area t (held r lent) (cursor_of r) role n ≡ held (pack_one r role n (items_of area t role)) lent

packs-data : (area : List ℕ) (t : Slot) (r : Run) (s : Shape) (n : Count) → Within r → Checked area s n t → Packs area t r (Data s) n
unfolding pack_one put
packs-data area t r s n w c =
    let xs : List ℕ = (shown area t).items in
    let have : length xs ≡ t.len = length-shown area t c.inside in
    let bs : List ℕ = stored s (amount n t.len) xs in
    let long : length bs ≡ bytes_for s (amount n t.len) = length-stored s (amount n t.len) xs (served area s n t c) in
    record {
      cursor = rw have (cursor-store r bs (bytes_for s (amount n t.len)) w long);
      bytes = λ lent. rw have (store-held r bs lent w);
    }

packs-move : (area : List ℕ) (t : Slot) (r : Run) (m : Motion) (n : Count) → Within r → Packs area t r (Move m) n
unfolding pack_one put
packs-move area t r Skip n w =
    let zs : List ℕ = replicate (amount n 0) 0 in
    record { cursor = cursor-store r zs (amount n 0) w (length-replicate (amount n 0) 0); bytes = λ lent. store-held r zs lent w }
packs-move area t r Back n w = record { cursor = refl; bytes = λ lent. refl }
packs-move area t r Goto n w = record { cursor = cursor-goto r n; bytes = λ lent. held-goto r n lent }

-- ---- all fields: the measuring pass is the checks, and then the cursor of the whole run

abbrev MeasuredAs : List ℕ → List Field → Type 0
MeasuredAs area fs =
    (k : ℕ) (ts : List Slot) (r : Run) → Within r
    → arguments_checked area k ts fs (cursor_of r) ≡ (arguments_fit area k ts fs >>= (λ _. ok (cursor_of (pack_all r (filled area ts fs)))))

measured-field : (area : List ℕ) (fs : List Field) → MeasuredAs area fs → (role : Role) (u : Bool) (n : Count) → MeasuredAs area (record { role = role; unsigned = u; count = n } ∷ fs)
unfolding arguments_checked field_checked arguments_fit filled pack_all
measured-field area fs ih (Data s) u n k ts r w = by (argument_fits area s n k t) refl
  where
    t : Slot
    t = next_slot ts

    after : Run
    after = pack_one r (Data s) n (shown area t).items

    by : (o : Result (Unit {0})) → argument_fits area s n k t ≡ o
        → ((o >>= (λ _. ok (advance (cursor_of r) (Data s) n t.len))) >>= arguments_checked area (k + 1) (drop 1 ts) fs)
        ≡ ((o >>= (λ _. arguments_fit area (suc k) (drop 1 ts) fs)) >>= (λ _. ok (cursor_of (pack_all after (filled area (drop 1 ts) fs)))))
    by (ok v) e =
        let p = packs-data area t r s n w (checked-argument area s n k t e) in
        rw (add-one, p.cursor) (ih (suc k) (drop 1 ts) after (pack-within r (Data s) n (shown area t).items w))
    by (refused why place) e = refl
measured-field area fs ih (Move m) u n k ts r w =
    let p = packs-move area (next_slot ts) r m n w in
    rw (add-zero, p.cursor) (ih k ts (pack_one r (Move m) n []) (pack-within r (Move m) n [] w))

pub measured-as : (area : List ℕ) (fs : List Field) → MeasuredAs area fs
unfolding arguments_checked arguments_fit filled pack_all
measured-as area [] k ts r w = refl
measured-as area (f ∷ fs) k ts r w = measured-field area fs (measured-as area fs) f.role f.unsigned f.count k ts r w

-- ---- and the writing pass is the whole run's bytes

abbrev WrittenAs : List ℕ → List Field → Type 0
WrittenAs area fs =
    (k : ℕ) (ts : List Slot) (r : Run) (size : ℕ) (lent : List ℕ) → Within r → HasRoom (arguments_checked area k ts fs (cursor_of r)) size
    → written area ts fs (cursor_of r) (held r lent) ≡ held (pack_all r (filled area ts fs)) lent

written-field : (area : List ℕ) (fs : List Field) → WrittenAs area fs → (role : Role) (u : Bool) (n : Count) → WrittenAs area (record { role = role; unsigned = u; count = n } ∷ fs)
unfolding arguments_checked field_checked written filled pack_all
written-field area fs ih (Data s) u n k ts r size lent w room = by (argument_fits area s n k t) refl room
  where
    t : Slot
    t = next_slot ts

    after : Run
    after = pack_one r (Data s) n (shown area t).items

    by : (o : Result (Unit {0})) → argument_fits area s n k t ≡ o
        → HasRoom ((o >>= (λ _. ok (advance (cursor_of r) (Data s) n t.len))) >>= arguments_checked area (k + 1) (drop 1 ts) fs) size
        → written area (drop 1 ts) fs (advance (cursor_of r) (Data s) n t.len) (put area t (held r lent) (cursor_of r) (Data s) n)
        ≡ held (pack_all after (filled area (drop 1 ts) fs)) lent
    by (ok v) e room =
        let p = packs-data area t r s n w (checked-argument area s n k t e) in
        let room' : HasRoom (arguments_checked area (k + 1) (drop 1 ts) fs (cursor_of after)) size = rw p.cursor at room in
        rw (p.cursor, p.bytes lent) (ih (k + 1) (drop 1 ts) after size lent (pack-within r (Data s) n (shown area t).items w) room')
    by (refused why place) e room = absurd room
written-field area fs ih (Move m) u n k ts r size lent w room =
    let p = packs-move area (next_slot ts) r m n w in
    let after : Run = pack_one r (Move m) n [] in
    let room' : HasRoom (arguments_checked area (k + 0) ts fs (cursor_of after)) size = rw p.cursor at room in
    rw (p.cursor, p.bytes lent) (ih (k + 0) ts after size lent (pack-within r (Move m) n [] w) room')

pub written_as : (area : List ℕ) (fs : List Field) → WrittenAs area fs
unfolding arguments_checked written filled pack_all
written_as area [] k ts r size lent w room = refl
written_as area (f ∷ fs) k ts r size lent w room = written-field area fs (written_as area fs) f.role f.unsigned f.count k ts r size lent w room

-- ---- room

pub room-ok : (o : Result Cursor) (size : ℕ) → HasRoom o size → (d : Cursor) × (o ≡ ok d) × (d.end ≤ size)
room-ok (ok d) size h = (d, refl, h)
room-ok (refused why place) size h = absurd h

pub room-step : (o : Result Cursor) (g : Cursor → Result Cursor) (size : ℕ) → HasRoom (o >>= g) size → (d : Cursor) × (o ≡ ok d) × HasRoom (g d) size
room-step (ok d) g size h = (d, refl, h)
room-step (refused why place) g size h = absurd h

-- the highest position only grows
advance-grows : (c : Cursor) (role : Role) (n : Count) (have : ℕ) → c.end ≤ (advance c role n have).end
advance-grows c (Data s) n have = omega arith
advance-grows c (Move Skip) n have = omega arith
advance-grows c (Move Back) n have = omega arith
advance-grows c (Move Goto) n have = omega arith

pub room-end : (area : List ℕ) (fs : List Field) (k : ℕ) (ts : List Slot) (c : Cursor) (size : ℕ) → HasRoom (arguments_checked area k ts fs c) size → c.end ≤ size
unfolding arguments_checked
room-end area [] k ts c size h = h
room-end area (f ∷ fs) k ts c size h =
    let (d, e, l) = room-step (field_checked area k (next_slot ts) c f.role f.count) (arguments_checked area (k + slots_taken f) (drop (slots_taken f) ts) fs) size h in
    let a : d ≡ advance c f.role f.count (next_slot ts).len = stepped-advance area k (next_slot ts) c f.role f.count d e in
    let b : c.end ≤ d.end = rw a (advance-grows c f.role f.count (next_slot ts).len) in
    omega (arith, room-end area fs (k + slots_taken f) (drop (slots_taken f) ts) d size l)
