-- What the passes of the writer keep: one entry stored, the entries so far measured, and the entries so far stored.
use Rattle.std.specs.Prelude.{if◌then◌else◌}
use Prim.Native.Nat.{ℕ, zero, suc, ◌+◌, ◌*◌, ◌/◌, ◌≤◌, ◌<◌}
use native.Mathlib.Numerals.{add-one}
use native.Mathlib.Omega.{arith}
use mathlib.Core.Path.{◌≡◌, refl, sym, ap, ◌∙◌, subst}
use mathlib.Core.Bool.{Bool, true, false}
use mathlib.Core.List.{List, [], ◌∷◌, ◌++◌, append_assoc, append-nil}
use borrow.Author.Tests.{eq-eqb}
use lib.Dec.{eqb}
use lib.ListN.{length, drop, set, length-append, drop_of_length-le}
use lib.Seq.{sets-eq}
use Rattle.layout.specs.declared.Refusal.TheVariants.{BadSlot}
use Rattle.layout.specs.Refusals.{ok, refused}
use Rattle.layout.proofs.Laws.{demanded}
use Rattle.record.specs.Bytes.{store_at, join, number_bytes}
use Rattle.record.specs.declared.slots.Slot.{Slot}
use Rattle.record.specs.Slots.{slot_at}
use Rattle.record.specs.Table.{slots_of, slot_width, max_area, number_limit, item_size}
use Rattle.record.proofs.Stores.{length-store_at, store-none, runs, Wrote, wrote_none, wrote-next, add-run}
use Rattle.record.proofs.SlotLaws.{slot-here}
use Rattle.record.proofs.Tables.{length-slots}
use Rattle.record.proofs.NumberLaws.{length-number_bytes}
use Rattle.std.specs.Prelude.{Ok, Err}
use Rattle.record.specs.declared.Answer.{Answer}
use Rattle.record.specs.Packing.{refusal}
use Rattle.sheet.specs.Entries.{entry_bytes, body_bytes}
use Rattle.sheet.specs.Sheet.{header_size, sheet_bytes, value_size, entry_of, entries_of, slot_writable, slots_writable}
use Rattle.sheet.specs.inside.Steps.{sheet_for, body_for}
use Rattle.sheet_write.specs.inside.store.{MeasuredAs, EntryRoom, BodyRoom}
use Rattle.sheet.proofs.Entries.{length-entry}
use Rattle.sheet.proofs.Tables.{slot-inside, length-value, store-next}

-- ---- one entry

-- nothing is stored where nothing is set
pub value_none : (out area : List ℕ) (at : ℕ) (s : Slot) → s.kind ≡ 0 → out ≡ store_at out at (entry_of area s).value
unfolding entry_of
value_none out area at s h = rw (eq-eqb s.kind 0 h) (sym (store-none out at))

module _ (area : List ℕ) (s : Slot) (fits : slot_writable (length area) s ≡ true) where
  -- a value is no longer than the area
  pub size_small : value_size s ≤ length area
  size_small = go (eqb s.kind 0) (slot-inside area s fits)
    where
      go : (z : Bool) → (z ≡ false → s.start + s.len * item_size s.kind ≤ length area) → (if z then 0 else s.len * item_size s.kind) ≤ length area
      go true h = omega arith
      go false h = omega (arith, h refl)

  -- length, kind and value, stored one after the other, are the entry
  pub entry-stored : (w : ℕ) (out out₁ out₂ : List ℕ) (at size : ℕ) → size ≡ value_size s → at + (suc w + length (entry_of area s).value) ≤ length out
      → out₁ ≡ store_at out at (number_bytes w (size + 1)) → out₂ ≡ store_at (set out₁ (at + w) s.kind) (at + suc w) (entry_of area s).value
      → out₂ ≡ store_at out at (entry_bytes w (entry_of area s))
  unfolding entry_bytes entry_of
  entry-stored w out out₁ out₂ at size e h p q =
      let v : List ℕ = (entry_of area s).value in
      let nb : List ℕ = number_bytes w (size + 1) in
      let width : length nb ≡ w = length-number_bytes w (size + 1) in
      let long : length (store_at out at nb) ≡ length out = length-store_at out at nb (omega arith) in
      let kind : set (store_at out at nb) (at + w) s.kind ≡ store_at (store_at out at nb) (at + w) (s.kind ∷ []) = sets-eq (s.kind ∷ []) (store_at out at nb) (at + w) (omega arith) in
      let head : store_at (store_at out at nb) (at + w) (s.kind ∷ []) ≡ store_at out at (nb ++ (s.kind ∷ [])) = store-next out at nb (s.kind ∷ []) (at + w) (omega arith) (omega arith) in
      let more : length (nb ++ (s.kind ∷ [])) ≡ length nb + 1 = length-append nb (s.kind ∷ []) in
      let n : size + 1 ≡ suc (length v) = omega (arith, length-value area s fits) in
      let front : set out₁ (at + w) s.kind ≡ store_at out at (nb ++ (s.kind ∷ [])) = ap (λ (o : List ℕ). set o (at + w) s.kind) p ∙ kind ∙ head in
      q ∙ ap (λ (o : List ℕ). store_at o (at + suc w) v) front ∙ store-next out at (nb ++ (s.kind ∷ [])) v (at + suc w) (omega arith) (omega arith)
      ∙ ap (store_at out at) (append_assoc nb (s.kind ∷ []) v ∙ ap (λ (m : ℕ). number_bytes w m ++ (s.kind ∷ v)) n)

-- ---- slots by number

slot_next : (ns : List ℕ) (k : ℕ) → slot_width * k + slot_width ≤ length ns → drop k (slots_of ns) ≡ slot_at ns k ∷ drop (suc k) (slots_of ns)
slot_next ns k h = rw add-one at (slot-here ns k h)

-- the bytes of slot number k
abbrev pub entry_at : ℕ → List ℕ → List ℕ → ℕ → List ℕ
entry_at w area ns k = entry_bytes w (entry_of area (slot_at ns k))

module _ (w : ℕ) (area ns : List ℕ) where
  -- the first k entries, and then the others
  runs-front : (k : ℕ) → slot_width * k ≤ length ns → runs k (entry_at w area ns) ++ body_bytes w (entries_of area (drop k (slots_of ns))) ≡ body_for w ns area
  unfolding runs body_bytes entries_of join
  runs-front zero h = refl
  runs-front (suc k) h =
      let here : drop k (slots_of ns) ≡ slot_at ns k ∷ drop (suc k) (slots_of ns) = slot_next ns k (omega arith) in
      append_assoc (runs k (entry_at w area ns)) (entry_at w area ns k) (body_bytes w (entries_of area (drop (suc k) (slots_of ns))))
      ∙ ap (λ (ts : List Slot). runs k (entry_at w area ns) ++ body_bytes w (entries_of area ts)) (sym here) ∙ runs-front k (omega arith)

  runs-small : (k : ℕ) → slot_width * k ≤ length ns → length (runs k (entry_at w area ns)) ≤ length (body_for w ns area)
  runs-small k h =
      let rest : List ℕ = body_bytes w (entries_of area (drop k (slots_of ns))) in
      let sum : length (runs k (entry_at w area ns)) + length rest ≡ length (body_for w ns area) = sym (length-append (runs k (entry_at w area ns)) rest) ∙ ap length (runs-front k h) in
      omega arith

  no_slot : (k : ℕ) → length ns / slot_width ≤ k → drop k (slots_of ns) ≡ []
  no_slot k h = let past : length (slots_of ns) ≤ k = omega (arith, length-slots ns) in drop_of_length-le (slots_of ns) past

  runs-all : (k : ℕ) → slot_width * k ≤ length ns → length ns / slot_width ≤ k → runs k (entry_at w area ns) ≡ body_for w ns area
  unfolding body_bytes entries_of join
  runs-all k h l = sym (append-nil (runs k (entry_at w area ns))) ∙ (rw (no_slot k l) at (runs-front k h))

  -- the check of the slots from number k on
  module _ (k : ℕ) (inside : slot_width * k + slot_width ≤ length ns) where
    fits-here : slots_writable area k (drop k (slots_of ns)) ≡ ok tt → (slot_writable (length area) (slot_at ns k) ≡ true) × (slots_writable area (suc k) (drop (suc k) (slots_of ns)) ≡ ok tt)
    unfolding slots_writable
    fits-here h = demanded (slot_writable (length area) (slot_at ns k)) BadSlot k (λ _. slots_writable area (suc k) (drop (suc k) (slots_of ns))) tt (rw (slot_next ns k inside) at h)

    fits_next : slot_writable (length area) (slot_at ns k) ≡ true → slots_writable area k (drop k (slots_of ns)) ≡ slots_writable area (suc k) (drop (suc k) (slots_of ns))
    unfolding slots_writable
    fits_next h = rw (slot_next ns k inside, h)

    fits_not : slot_writable (length area) (slot_at ns k) ≡ false → slots_writable area k (drop k (slots_of ns)) ≡ refused BadSlot k
    unfolding slots_writable
    fits_not h = rw (slot_next ns k inside, h)

  fits-done : (k : ℕ) → length ns / slot_width ≤ k → slots_writable area k (drop k (slots_of ns)) ≡ ok tt
  unfolding slots_writable
  fits-done k h = rw (no_slot k h)

  -- ---- the first pass

  -- the slots before number k fit, and with their entries the header takes `size` bytes
  pub record Sizing (k size : ℕ) : Type 0 where
    pub within : slot_width * k ≤ length ns
    pub fits : slots_writable area 0 (slots_of ns) ≡ slots_writable area k (drop k (slots_of ns))
    pub is : size ≡ header_size w + length (runs k (entry_at w area ns))
    pub small : size ≤ header_size w + k * (suc w + max_area)

  pub sizing-none : Sizing 0 (header_size w)
  unfolding runs
  sizing-none = record { within = omega arith; fits = refl; is = omega arith; small = omega arith }

  pub sizing-done : (k size : ℕ) → Sizing k size → length ns / slot_width ≤ k → size < number_limit → MeasuredAs w ns area (Ok size)
  sizing-done k size s h small =
      let all : runs k (entry_at w area ns) ≡ body_for w ns area = runs-all k s.within h in
      (s.fits ∙ fits-done k h, s.is ∙ rw all, small)

  module _ (k size : ℕ) (s : Sizing k size) (l : k < length ns / slot_width) (a : Slot) (e : a ≡ slot_at ns k) where
    inside : slot_width * k + slot_width ≤ length ns
    inside = omega arith

    pub sizing-bad : slot_writable (length area) a ≡ false → {r : Answer} → r ≡ refusal BadSlot k → MeasuredAs w ns area (Err r)
    sizing-bad h q = (k, s.fits ∙ fits_not k inside (subst (λ (t : Slot). slot_writable (length area) t ≡ false) e h), q)

    module _ (h : slot_writable (length area) a ≡ true) (limit : length area ≤ max_area) where
      fit : slot_writable (length area) (slot_at ns k) ≡ true
      fit = subst (λ (t : Slot). slot_writable (length area) t ≡ true) e h

      sizing-small : (n : ℕ) → n ≡ value_size a → n ≤ max_area
      sizing-small n q = omega (arith, q, size_small area a h, limit)

      pub sizing-more : (n : ℕ) → n ≡ value_size a → Sizing (k + 1) (size + (suc w + n))
      unfolding runs
      sizing-more n q =
          let long : length (entry_of area a).value ≡ n = length-value area a h ∙ sym q in
          let value : length (entry_of area (slot_at ns k)).value ≡ n = rw (← e) long in
          let size : length (entry_at w area ns k) ≡ w + suc (length (entry_of area (slot_at ns k)).value) = length-entry w (entry_of area (slot_at ns k)) in
          let entry : length (entry_at w area ns k) ≡ suc w + n = omega arith in
          let grown : length (runs (suc k) (entry_at w area ns)) ≡ length (runs k (entry_at w area ns)) + (suc w + n) = length-append (runs k (entry_at w area ns)) (entry_at w area ns k) ∙ rw entry in
          rw add-one
          (record {
            within = omega arith;
            fits = s.fits ∙ fits_next k inside fit;
            is = omega (arith, s.is, grown);
            small = omega (arith, s.small, sizing-small n q, add-run k (suc w + max_area));
          })

  -- ---- the second pass

  -- the entries of the slots before number k stand after the header, and the next is due at the place `at`
  pub record Storing (lent out : List ℕ) (k at : ℕ) : Type 0 where
    pub within : slot_width * k ≤ length ns
    pub fits : slots_writable area k (drop k (slots_of ns)) ≡ ok tt
    pub place : at ≡ header_size w + length (runs k (entry_at w area ns))
    pub wrote : Wrote lent (header_size w) (entry_at w area ns) out k

  pub storing-none : (lent : List ℕ) → slots_writable area 0 (slots_of ns) ≡ ok tt → Storing lent lent 0 (header_size w)
  unfolding runs
  storing-none lent h = record { within = omega arith; fits = h; place = omega arith; wrote = wrote_none }

  pub storing-done : (lent out : List ℕ) (k at : ℕ) → Storing lent out k at → length ns / slot_width ≤ k → out ≡ store_at lent (header_size w) (body_for w ns area)
  storing-done lent out k at s h = s.wrote.is ∙ ap (store_at lent (header_size w)) (runs-all k s.within h)

  module _ (lent out : List ℕ) (k at : ℕ) (room : BodyRoom w ns area (length lent)) (s : Storing lent out k at) (l : k < length ns / slot_width) (a : Slot) (e : a ≡ slot_at ns k) where
    storing-inside : slot_width * k + slot_width ≤ length ns
    storing-inside = omega arith

    storing-fits : slot_writable (length area) (slot_at ns k) ≡ true
    storing-fits = (fits-here k storing-inside s.fits).0

    storing-entry : at + length (entry_at w area ns k) ≤ length lent
    unfolding runs
    storing-entry =
        let grown : length (runs (suc k) (entry_at w area ns)) ≡ length (runs k (entry_at w area ns)) + length (entry_at w area ns k) = length-append (runs k (entry_at w area ns)) (entry_at w area ns k) in
        omega (arith, runs-small (suc k) (omega arith), s.place, room.room)

    pub storing-room : EntryRoom w area a at (length out)
    storing-room =
        let size : length (entry_at w area ns k) ≡ w + suc (length (entry_of area (slot_at ns k)).value) = length-entry w (entry_of area (slot_at ns k)) in
        subst (λ (t : Slot). EntryRoom w area t at (length out)) (sym e)
        (record { fits = storing-fits; room = omega (arith, storing-entry, s.wrote.long, size); small = omega (arith, s.wrote.long, room.small) })

    pub storing-more : (out' : List ℕ) (at' : ℕ)
        → (out' ≡ store_at out at (entry_bytes w (entry_of area a))) × (at' ≡ at + length (entry_bytes w (entry_of area a)))
        → Storing lent out' (k + 1) at'
    unfolding runs
    storing-more out' at' p =
        let q : (out' ≡ store_at out at (entry_at w area ns k)) × (at' ≡ at + length (entry_at w area ns k)) =
        subst (λ (t : Slot). (out' ≡ store_at out at (entry_bytes w (entry_of area t))) × (at' ≡ at + length (entry_bytes w (entry_of area t)))) e p in
        let grown : length (runs (suc k) (entry_at w area ns)) ≡ length (runs k (entry_at w area ns)) + length (entry_at w area ns k) = length-append (runs k (entry_at w area ns)) (entry_at w area ns k) in
        let more : Wrote lent (header_size w) (entry_at w area ns) out' (suc k) = rw add-one at (wrote-next {to = at} s.wrote s.place storing-entry q.0) in
        rw add-one
        (record {
          within = omega arith;
          fits = (fits-here k storing-inside s.fits).1;
          place = omega (arith, q.1, s.place, grown);
          wrote = more;
        })

-- ---- header and body

-- the header and the entries, stored one after the other, are the sheet
pub sheet-stored : (v w : ℕ) (ns area out out₁ out₂ : List ℕ) (n : ℕ) → n ≡ length (body_for w ns area) → header_size w + length (body_for w ns area) ≤ length out
    → out₁ ≡ store_at (set out 0 v) 1 (number_bytes w n) → out₂ ≡ store_at out₁ (header_size w) (body_for w ns area)
    → out₂ ≡ store_at out 0 (sheet_for v w ns area)
unfolding sheet_bytes
sheet-stored v w ns area out out₁ out₂ n e room p q =
    let body : List ℕ = body_for w ns area in
    let nb : List ℕ = number_bytes w n in
    let width : length nb ≡ w = length-number_bytes w n in
    let first : set out 0 v ≡ store_at out 0 (v ∷ []) = sets-eq (v ∷ []) out 0 (omega arith) in
    let head : out₁ ≡ store_at out 0 (v ∷ nb) = p ∙ ap (λ (o : List ℕ). store_at o 1 nb) first ∙ store-next out 0 (v ∷ []) nb 1 (omega arith) (omega arith) in
    q ∙ ap (λ (o : List ℕ). store_at o (suc w) body) head ∙ store-next out 0 (v ∷ nb) body (suc w) (omega arith) (omega arith)
    ∙ ap (λ (m : ℕ). store_at out 0 (v ∷ (number_bytes w m ++ body))) e
