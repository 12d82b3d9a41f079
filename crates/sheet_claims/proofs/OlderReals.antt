-- A reader that knows kinds up to 3 takes the entries before the first real's and not that one, so they end before the
-- sheet does. Where there is no such entry it takes them all.
use Rattle.std.specs.Prelude.{if◌then◌else◌}
use Prim.Native.Nat.{ℕ, zero, suc, ◌+◌, ◌<◌}
use native.Mathlib.Omega.{arith}
use mathlib.Core.Path.{◌≡◌, refl, sym, ap, ap₂, ◌∙◌}
use mathlib.Core.Bool.{Bool, true, false, ◌&&◌}
use mathlib.Core.List.{List, [], ◌∷◌, ◌++◌}
use borrow.Author.Tests.{le-leb, lt-leb, ne_eqb}
use lib.Dec.{eqb, leb}
use lib.ListN.{length, drop, get_or, length-append}
use Rattle.record.specs.Bytes.{join}
use Rattle.sheet.specs.Entries.{Entry, entry_bytes, body_bytes, begins_entry, entry_in, entries_from, entries_in}
use Rattle.sheet.specs.Sheet.{header_size, width_in, entries_at, entries_end, reads_sheet, read_sheet}
use Rattle.sheet.proofs.Entries.{length-entry}
use Rattle.sheet_claims.specs.Older.{older_width, older_reads, older_read}
use Rattle.sheet_claims.specs.OlderKinds.{first_last, begins_first, first_from, first_at, first_reads, first_read, second_reads, second_read, AllKnown, FirstAsBefore, SecondAsToday, FirstAsToday, FirstReal, HoldsEntries, RealsRefused, RealsRefusedLater}
use Rattle.sheet_claims.proofs.Older.{read-as-before}

body-none : (w : ℕ) → length (body_bytes w []) ≡ 0
unfolding body_bytes join
body-none w = refl

body_more : (w : ℕ) (e : Entry) (es : List Entry)
    → length (body_bytes w (e ∷ es)) ≡ length (entry_bytes w e) + length (body_bytes w es)
unfolding body_bytes join
body_more w e es = length-append (entry_bytes w e) (body_bytes w es)

module _ (real : Entry) (after : List Entry) (new : first_last < real.kind) where
  -- an entry x of kind k, and the entries that follow it for either reader
  module _ (x : Entry) (k : ℕ) (is : x.kind ≡ k) (more others : List Entry)
      (same : (rest : List Entry) → AllKnown rest → more ≡ rest ++ (real ∷ after) → others ≡ rest) where
    choose : (t : Bool) (before : List Entry) → AllKnown before
        → (if t then x ∷ more else []) ≡ before ++ (real ∷ after)
        → (if t && leb k first_last then x ∷ others else []) ≡ before
    choose false [] known e = let z : ◌≡◌ {A = ℕ} 0 1 = cc in absurd (omega arith)
    choose false (p ∷ before) known e = let z : ◌≡◌ {A = ℕ} 0 1 = cc in absurd (omega arith)
    choose true [] known e =
        let first : x ≡ real = cc in
        let kind : real.kind ≡ k = sym (ap (λ (y : Entry). y.kind) first) ∙ is in
        rw (lt-leb k first_last (omega arith))
    choose true (p ∷ before) known e =
        let first : x ≡ p = cc in
        let rest : more ≡ before ++ (real ∷ after) = cc in
        let kind : p.kind ≡ k = sym (ap (λ (y : Entry). y.kind) first) ∙ is in
        rw (le-leb k first_last (omega (arith, known.0)))
        (ap₂ (λ (y : Entry) (ys : List Entry). y ∷ ys) first (same before known.1 rest))

  front : (w n : ℕ) (bs : List ℕ) (before : List Entry) → AllKnown before
      → entries_from w n bs ≡ before ++ (real ∷ after) → first_from w n bs ≡ before
  unfolding entries_from first_from begins_first entry_in
  front w n [] [] known e = let z : ◌≡◌ {A = ℕ} 0 1 = cc in absurd (omega arith)
  front w n [] (p ∷ before) known e = let z : ◌≡◌ {A = ℕ} 0 1 = cc in absurd (omega arith)
  front w (suc n) (b ∷ bs) before known e = front w n bs before known e
  front w zero (b ∷ bs) before known e =
      let x = entry_in w (b ∷ bs) in
      let to : ℕ = w + length x.value in
      choose x (get_or (b ∷ bs) w 0) refl (entries_from w to bs) (first_from w to bs) (λ rest k s. front w to bs rest k s)
      (begins_entry w (b ∷ bs)) before known e

  -- the entries before the real's are shorter than all
  shorter : (w : ℕ) (before : List Entry)
      → length (body_bytes w before) < length (body_bytes w (before ++ (real ∷ after)))
  shorter w [] = omega (arith, body-none w, body_more w real after, length-entry w real)
  shorter w (p ∷ before) =
      omega (arith, body_more w p before, body_more w p (before ++ (real ∷ after)), shorter w before)

-- what either reader finds in such a sheet: the entries before the real's, which end before the sheet does
module _ (w : ℕ) (sheet : List ℕ) (es before : List Entry) (h : HoldsEntries w sheet es) (f : FirstReal es before) where
  new : first_last < f.entry.kind
  new = omega (arith, f.is_real)

  taken : first_at w sheet ≡ before
  unfolding entries_in
  taken = front f.entry f.after new w 0 (drop (header_size w) sheet) before f.known (h.entries ∙ f.split)

  short : entries_end w before ≡ length sheet → ⊥
  unfolding entries_end
  short e =
      let whole : entries_end w (before ++ (f.entry ∷ f.after)) ≡ length sheet =
      ap (entries_end w) (sym f.split) ∙ h.whole in
      omega (arith, whole, shorter f.entry f.after new w before)

  cut : eqb (entries_end w before) (length sheet) ≡ false
  cut = ne_eqb (entries_end w before) (length sheet) short

pub reals-refused : RealsRefused
unfolding first_read first_reads
reals-refused sheet es before v h f slots area mark lent =
    let w : ℕ = older_width in
    rw (lent, v, h.header, taken w sheet es before h f, cut w sheet es before h f)

pub reals-refused-later : RealsRefusedLater
unfolding second_read second_reads
reals-refused-later sheet es before v h f slots area mark lent =
    let w : ℕ = width_in sheet in
    rw (lent, v, h.header, taken w sheet es before h f, cut w sheet es before h f)

-- ---- where no entry is a real's

-- an entry x of kind k, and the entries that follow it for either reader
known_more : (x : Entry) (k : ℕ) → x.kind ≡ k → (more others : List Entry) → (AllKnown more → others ≡ more)
    → (t : Bool)
    → AllKnown (if t then x ∷ more else [])
    → (if t && leb k first_last then x ∷ others else []) ≡ (if t then x ∷ more else [])
known_more x k is more others same false known = refl
known_more x k is more others same true known =
    rw (le-leb k first_last (omega (arith, known.0))) (ap (λ (es : List Entry). x ∷ es) (same known.1))

known_from : (w n : ℕ) (bs : List ℕ) → AllKnown (entries_from w n bs) → first_from w n bs ≡ entries_from w n bs
unfolding entries_from first_from begins_first entry_in
known_from w n [] known = refl
known_from w (suc n) (b ∷ bs) known = known_from w n bs known
known_from w zero (b ∷ bs) known =
    let x = entry_in w (b ∷ bs) in
    let to : ℕ = w + length x.value in
    known_more x (get_or (b ∷ bs) w 0) refl (entries_from w to bs) (first_from w to bs) (λ k. known_from w to bs k)
    (begins_entry w (b ∷ bs)) known

known_at : (w : ℕ) (sheet : List ℕ) → AllKnown (entries_at w sheet) → first_at w sheet ≡ entries_at w sheet
unfolding entries_in
known_at w sheet known = known_from w 0 (drop (header_size w) sheet) known

pub first-as-before : FirstAsBefore
unfolding first_read first_reads older_read older_reads
first-as-before sheet slots area mark known = rw (known_at older_width sheet known)

pub second-as-today : SecondAsToday
unfolding second_read second_reads read_sheet reads_sheet
second-as-today sheet slots area mark known = rw (known_at (width_in sheet) sheet known)

pub first-as-today : FirstAsToday
first-as-today sheet slots area mark lent version known =
    read-as-before sheet slots area mark lent version ∙ sym (first-as-before sheet slots area mark known)
