-- What the older reader accepted has version 1 and keeps to the wider limits. A version 2 sheet has lengths that
-- version 1 has no room for, so it is longer than the older reader takes; a part of it begins with its version.
use Rattle.std.specs.Prelude.{if◌then◌else◌}
use Prim.Native.Nat.{ℕ, zero, suc, ◌+◌, ◌*◌, ◌%◌, ◌^◌, ◌≤◌, ◌<◌}
use native.Mathlib.Nat.{not-suc-le-zero}
use native.Mathlib.Omega.{arith}
use mathlib.Core.Path.{◌≡◌, refl, sym, ap, ap₂, ◌∙◌, subst}
use mathlib.Core.Bool.{Bool, true, false, ◌||◌, not, ◌&&◌}
use mathlib.Core.List.{List, [], ◌∷◌}
use borrow.Author.Tests.{le-leb, lt-leb, leb-true, eqb-true, ne_eqb, ltb-false, not-true}
use lib.Dec.{eqb, leb}
use lib.ListN.{length, take, drop, length-take}
use lib.Seq.{take-append_seam}
use Rattle.layout.specs.declared.Refusal.TheVariants.{BadSize, BadSlots, NoRoom, BadSheet, BadVersion}
use Rattle.layout.specs.Refusals.{Result, ok, refused, ◌>>=◌, demand}
use Rattle.layout.proofs.Laws.{demanded, no-number-zero}
use Rattle.record.specs.Table.{slots_of, slot_width, max_slots}
use Rattle.record.proofs.Bytes.{and-true}
use Rattle.sheet.specs.Entries.{Entry, body_bytes, entry_values}
use Rattle.sheet.specs.Sheet.{version1, version2, width_of, sheet_bytes, fits_version1, version_for, entries_of, version_of, version_known, width_in, header_fits, entries_at, entries_end, version_needed, sheet_read_effect, write_sheet, reads_sheet, read_sheet}
use Rattle.sheet.specs.inside.Steps.{sheet_lent_fits, table_sheet}
use Rattle.sheet.proofs.Tables.{slots-sound}
use Rattle.sheet.proofs.Sheets.{length-body, length-sheet, sheet-version, sheet-entries}
use Rattle.sheet.proofs.Calls.{lengths-fit, wrote, wrote-short, write_done, read-it}
use Rattle.sheet.specs.Claims.{sheet_of}
use Rattle.sheet_claims.specs.Older.{older_area, older_sheet, older_table, older_lent, older_width, older_known, older_reads, older_read}
use Rattle.sheet_claims.specs.OlderClaims.{ReadAsBefore, AcceptedAsBefore, Newer, WrittenNewer, AcceptedNewer, WholeRefused, CutRefused}

-- ---- old sheets

older-ok : (slots area : List ℕ) (mark : ℕ) (o : Result (List Entry)) → (sheet_read_effect slots area mark o).answer.number ≡ 0 → (es : List Entry) × (o ≡ ok es)
older-ok slots area mark (ok es) h = (es, refl)
older-ok slots area mark (refused why place) h = no-number-zero why h

-- what an accepted call has passed
record OlderIt (sheet slots area : List ℕ) (mark : ℕ) : Type 0 where
  sizes : older_lent (length sheet) (length slots) (length area) mark ≡ true
  known : older_known sheet ≡ true
  header : header_fits older_width sheet ≡ true
  whole : entries_end older_width (entries_at older_width sheet) ≡ length sheet
  rows : length (entries_at older_width sheet) ≤ length (slots_of slots)
  room : mark + length (entry_values (entries_at older_width sheet)) ≤ length area

older-it : (sheet slots area : List ℕ) (mark : ℕ) → (older_read sheet slots area mark).answer.number ≡ 0 → OlderIt sheet slots area mark
unfolding older_read older_reads
older-it sheet slots area mark h =
    let (es, e) = older-ok slots area mark (older_reads sheet slots area mark) h in
    let (sizes, e₁) = demanded _ BadSize 0 _ es e in
    let (known, e₂) = demanded _ BadVersion 0 _ es e₁ in
    let (header, e₃) = demanded _ BadSheet 0 _ es e₂ in
    let (whole, e₄) = demanded _ BadSheet _ _ es e₃ in
    let (rows, e₅) = demanded _ BadSlots 0 _ es e₄ in
    let (room, e₆) = demanded _ NoRoom 0 _ es e₅ in
    record { sizes = sizes; known = known; header = header; whole = eqb-true _ _ whole; rows = leb-true _ _ rows; room = leb-true _ _ room }

first-version : (sheet : List ℕ) → older_known sheet ≡ true → version_of sheet ≡ version1
unfolding older_known
first-version [] h = refl
first-version (b ∷ bs) h = eqb-true b version1 h

-- the wider limits hold what the older ones held
wider : (slots area sheet mark : ℕ) → older_lent sheet slots area mark ≡ true → sheet_lent_fits slots area sheet mark ≡ true
wider slots area sheet mark h =
    let (size, table) = and-true (leb sheet older_sheet) (older_table slots area mark) h in
    let (runs, start) = and-true (leb slots (slot_width * max_slots) && eqb (slots % slot_width) 0 && leb area older_area) (leb mark area) table in
    let (whole, limit) = and-true (leb slots (slot_width * max_slots) && eqb (slots % slot_width) 0) (leb area older_area) runs in
    let (few, rows) = and-true (leb slots (slot_width * max_slots)) (eqb (slots % slot_width) 0) whole in
    let fits = lengths-fit slots area sheet (record {
      table = leb-true _ _ few;
      rows = eqb-true _ _ rows;
      limit = omega (arith, leb-true area older_area limit);
      size = omega (arith, leb-true sheet older_sheet size);
    }) in
    rw (fits, start)

or-false : (x : Bool) → (x || false) ≡ x
or-false true = refl
or-false false = refl

-- a version that is not 2 is known to one reader where it is to the other, and has the older width
one-version : (sheet : List ℕ) → (version_of sheet ≡ version2 → ⊥) → (version_known (version_of sheet) ≡ older_known sheet) × (width_in sheet ≡ older_width)
unfolding older_known
one-version [] n = (refl, refl)
one-version (b ∷ bs) n = rw (ne_eqb b version2 n) (or-false (eqb b version1), refl)

only-first : (v : ℕ) → (v ≡ version2 → ⊥) → version_known v ≡ true → v ≡ version1
only-first v n h = eqb-true v version1 (sym (or-false (eqb v version1)) ∙ (rw (ne_eqb v version2 n) at h))

-- what either reader says of a sheet, by its width and by whether its version is known and needed
abbrev judged : List ℕ → List ℕ → List ℕ → ℕ → ℕ → Bool → Bool → Result (List Entry)
judged sheet slots area mark w known needed = do
  _ ← demand known BadVersion 0
  _ ← demand (header_fits w sheet) BadSheet 0
  let es = entries_at w sheet
  _ ← demand (eqb (entries_end w es) (length sheet)) BadSheet (entries_end w es)
  _ ← demand needed BadSheet 0
  _ ← demand (leb (length es) (length (slots_of slots))) BadSlots 0
  _ ← demand (leb (mark + length (entry_values es)) (length area)) NoRoom 0
  ok es

module _ (sheet slots area : List ℕ) (mark : ℕ) (lent : older_lent (length sheet) (length slots) (length area) mark ≡ true) where
  today : reads_sheet sheet slots area mark ≡ judged sheet slots area mark (width_in sheet) (version_known (version_of sheet)) (version_needed (version_of sheet) (entries_at (width_in sheet) sheet))
  unfolding reads_sheet
  today = rw (wider (length slots) (length area) (length sheet) mark lent)

  before : older_reads sheet slots area mark ≡ judged sheet slots area mark older_width (older_known sheet) true
  unfolding older_reads
  before = rw lent

  -- the fitting rule asks nothing of version 1; of another version it is not reached
  same : (known : Bool) → version_known (version_of sheet) ≡ known → width_in sheet ≡ older_width → (version_of sheet ≡ version2 → ⊥)
      → judged sheet slots area mark (width_in sheet) known (version_needed (version_of sheet) (entries_at (width_in sheet) sheet)) ≡ judged sheet slots area mark older_width known true
  same false e w n = refl
  same true e w n =
      let needed : version_needed (version_of sheet) (entries_at (width_in sheet) sheet) ≡ true = ap (λ (v : ℕ). version_needed v (entries_at (width_in sheet) sheet)) (only-first (version_of sheet) n e) in
      ap₂ (λ (x : ℕ) (b : Bool). judged sheet slots area mark x true b) w needed

pub read-as-before : ReadAsBefore
unfolding read_sheet older_read
read-as-before sheet slots area mark lent n =
    let k = one-version sheet n in
    ap (sheet_read_effect slots area mark)
    (today sheet slots area mark lent
    ∙ same sheet slots area mark lent (version_known (version_of sheet)) refl k.1 n
    ∙ ap (λ (b : Bool). judged sheet slots area mark older_width b true) k.0
    ∙ sym (before sheet slots area mark lent))

pub accepted-as-before : AcceptedAsBefore
accepted-as-before sheet slots area mark h =
    let p = older-it sheet slots area mark h in
    let first : version_of sheet ≡ version1 = first-version sheet p.known in
    let other : version_of sheet ≡ version2 → ⊥ = λ two. omega arith in
    read-as-before sheet slots area mark p.sizes other

-- ---- version 2 sheets

-- version 1 has no room for its lengths
needed-not : (v : ℕ) (t : Bool) → v ≡ version2 → (eqb v version1 || not t) ≡ true → t ≡ false
needed-not v t e h = not-true t (rw e at h)

pub accepted-newer : AcceptedNewer
accepted-newer sheet slots area mark h two =
    let got = read-it sheet slots area mark h in
    let width : width_in sheet ≡ width_of version2 = ap width_of two in
    record {
      version = two;
      whole = subst (λ (w : ℕ). entries_end w (entries_at w sheet) ≡ length sheet) width got.whole;
      needed = subst (λ (w : ℕ). fits_version1 (entries_at w sheet) ≡ false) width (needed-not (version_of sheet) (fits_version1 (entries_at (width_in sheet) sheet)) two got.needed);
    }

pub written-newer : WrittenNewer
written-newer slots area buffer h two =
    let p = wrote slots area buffer h in
    let es : List Entry = entries_of area (slots_of slots) in
    let sheet : sheet_of (write_sheet slots area buffer) ≡ table_sheet slots area = ap sheet_of
    (sym (write_done slots area buffer p.sizes p.fits p.room)) ∙ take-append_seam (table_sheet slots area)
    (drop (length (table_sheet slots area)) buffer) in
    let version : version_for es ≡ version2 = sym (sheet-version (version_for es) (width_of (version_for es)) es) ∙ ap version_of (sym sheet) ∙ two in
    let short : length (body_bytes (width_of version2) es) < 256 ^ width_of version2 = subst (λ (v : ℕ). length (body_bytes (width_of v) es) < 256 ^ width_of v) version (wrote-short p es refl) in
    let second : sheet_of (write_sheet slots area buffer) ≡ sheet_bytes version2 (width_of version2) es = sheet ∙ ap (λ (v : ℕ). sheet_bytes v (width_of v) es) version in
    let found : entries_at (width_of version2) (sheet_bytes version2 (width_of version2) es) ≡ es = sheet-entries version2 (width_of version2) es short (slots-sound area 0 (slots_of slots) p.fits) in
    subst Newer (sym second)
    (record {
      version = sheet-version version2 (width_of version2) es;
      whole = ap (entries_end (width_of version2)) found ∙ sym (length-sheet version2 (width_of version2) es);
      needed = ap fits_version1 found ∙ not_first (fits_version1 es) version;
    })
  where
    not_first : (t : Bool) → (if t then version1 else version2) ≡ version2 → t ≡ false
    not_first true e = absurd (omega arith)
    not_first false e = refl

module _ (sheet : List ℕ) (n : Newer sheet) where
  long : older_sheet < length sheet
  unfolding fits_version1 entries_end
  long =
      let es : List Entry = entries_at 4 sheet in
      let over : 65536 ≤ length (body_bytes 2 es) = ltb-false (length (body_bytes 2 es)) 65536 n.needed in
      let end : 5 + length (body_bytes 4 es) ≡ length sheet = n.whole in
      omega (arith, over, end, length-body 2 es, length-body 4 es)

pub whole-refused : WholeRefused
unfolding older_read older_reads
whole-refused sheet n slots area mark = rw (lt-leb (length sheet) older_sheet (long sheet n))

pub cut-refused : CutRefused
unfolding older_read older_reads older_known
cut-refused sheet n zero some few slots area mark table = absurd (not-suc-le-zero some)
cut-refused [] n (suc k) some few slots area mark table = absurd (not-suc-le-zero (long [] n))
cut-refused (b ∷ bs) n (suc k) some few slots area mark table =
    let size : length (take (suc k) (b ∷ bs)) ≤ older_sheet = omega (arith, length-take (suc k) (b ∷ bs)) in
    let two : b ≡ version2 = n.version in
    rw (le-leb (length (take (suc k) (b ∷ bs))) older_sheet size, table, two)
