-- The header's length counts every entry's bytes, so it is the greatest of all lengths: where it fits, they all do.
use Rattle.std.specs.Prelude.{if◌then◌else◌}
use Prim.Native.Nat.{suc, ◌+◌, ◌≤◌, ◌<◌}
use native.Mathlib.Decide.{dec_le}
use native.Mathlib.Nat.{lt_of_not-le}
use native.Mathlib.Omega.{arith}
use mathlib.Core.Path.{◌≡◌, refl, sym, ap, ◌∙◌}
use mathlib.Core.Bool.{Bool, true}
use mathlib.Core.List.{List, [], ◌∷◌, map}
use borrow.Author.Tests.{le-leb, lt-leb, lt-ltb, le-ltb}
use lib.ListN.{length, drop, length-append}
use lib.Seq.{take-append_seam}
use Rattle.record.specs.Bytes.{join}
use Rattle.record.specs.Table.{slots_of}
use Rattle.sheet.specs.Entries.{Entry, entry_bytes, body_bytes}
use Rattle.sheet.specs.Sheet.{version1, version2, width_of, fits_version1, entries_of, write_sheet, version_of}
use Rattle.sheet.specs.inside.Steps.{table_sheet, version_of_table}
use Rattle.sheet.specs.Claims.{sheet_of, max_length1, lengths_for, all_fit, FittingRule, WrittenVersion}
use Rattle.sheet.proofs.Entries.{length-entry}
use Rattle.sheet.proofs.Sheets.{sheet-version}
use Rattle.sheet.proofs.Calls.{wrote, write_done}

body_more : (e : Entry) (es : List Entry) → length (body_bytes 2 (e ∷ es)) ≡ 3 + length e.value + length (body_bytes 2 es)
unfolding body_bytes join
body_more e es = length-append (entry_bytes 2 e) (body_bytes 2 es) ∙ omega (arith, length-entry 2 e)

-- each entry's length is less than all of them take
entries_fit : (es : List Entry) → length (body_bytes 2 es) ≤ max_length1 → all_fit (map (λ (e : Entry). suc (length e.value)) es) ≡ true
entries_fit [] h = refl
entries_fit (e ∷ es) h =
    let sum = body_more e es in
    rw (le-leb (suc (length e.value)) max_length1 (omega arith)) (entries_fit es (omega arith))

pub fitting-rule : FittingRule
unfolding fits_version1 lengths_for
fitting-rule es = elim (dec_le (length (body_bytes 2 es)) max_length1) [
  | yes h ↦ rw (lt-ltb (length (body_bytes 2 es)) 65536 (omega arith), le-leb (length (body_bytes 2 es)) max_length1 h) (sym (entries_fit es h))
  | no h ↦ (let over : max_length1 < length (body_bytes 2 es) = lt_of_not-le h in
      rw (le-ltb (length (body_bytes 2 es)) 65536 over, lt-leb (length (body_bytes 2 es)) max_length1 over))
]

pub written-version : WrittenVersion
written-version slots area buffer h =
    let p = wrote slots area buffer h in
    let es : List Entry = entries_of area (slots_of slots) in
    let sheet : sheet_of (write_sheet slots area buffer) ≡ table_sheet slots area = ap sheet_of
    (sym (write_done slots area buffer p.sizes p.fits p.room)) ∙ take-append_seam (table_sheet slots area)
    (drop (length (table_sheet slots area)) buffer) in
    ap version_of sheet ∙ sheet-version (version_of_table slots area) (width_of (version_of_table slots area)) es ∙ ap (λ (b : Bool). if b then version1 else version2) (fitting-rule es)
