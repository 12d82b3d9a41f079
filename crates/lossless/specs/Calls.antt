-- A reading and a packing one after the other, as `read_and_pack` makes them, and what M-107 says of the two.
use Rattle.std.specs.Prelude.{ℕ, ◌≡◌, List, map, eqb, if◌then◌else◌}
use Rattle.layout.specs.Refusals.{ok}
use Rattle.record.specs.declared.Answer.{Answer}
use Rattle.record.specs.Table.{slots_of, shown}
use Rattle.record.specs.Packing.{Packed, pack, pack_effect}
use Rattle.record.specs.Reading.{Read, read}
use Rattle.lossless.specs.Claim.{Layout, Archived, shown_by}

-- all that the two calls are lent: the reader's four runs and its mark, and the packer's buffer
pub record LentToReread : Type 0 where
  pub layout : List ℕ
  pub bytes : List ℕ
  pub slots : List ℕ
  pub area : List ℕ
  pub mark : ℕ
  pub output : List ℕ

-- all that the two calls leave: the last answer, the reader's table and area, and the packer's output
pub record ReadAndPacked : Type 0 where
  pub answer : Answer
  pub slots : List ℕ
  pub area : List ℕ
  pub output : List ℕ

abbrev pub reading_first : LentToReread → Read
reading_first c = read c.layout c.bytes c.slots c.area c.mark

abbrev pub then_packed : Read → Packed → ReadAndPacked
then_packed r p = record { answer = p.answer; slots = r.slots; area = r.area; output = p.output }

-- The two calls: where the reader refuses, nothing is packed; else all slots are, from the area that it left.
unfoldable pub read_and_packed : LentToReread → ReadAndPacked
read_and_packed c =
    let r = reading_first c in
    then_packed r
    (if eqb r.answer.number 0
    then pack c.layout r.slots r.area c.output
    else record { answer = r.answer; output = c.output })

-- ---- M-107 of the two calls

-- the two calls are lent what the claim speaks of
abbrev pub lent_by : (l : Layout) → Archived l → LentToReread
lent_by l r =
    record { layout = l.text; bytes = r.bytes; slots = r.slots; area = r.area; mark = r.mark; output = r.output }

-- THE EFFECT OF A CALL of `read_and_pack`, and that it loses nothing
pub record ReadsAndPacksAs (c : LentToReread) (x : ReadAndPacked) : Type 0 where
  pub effect : x ≡ read_and_packed c
  -- the packing was accepted with the record's length, and stored the record
  pub gives_back :
      (l : Layout) (r : Archived l) → c ≡ lent_by l r
      → record { answer = x.answer; output = x.output } ≡ pack_effect c.output (ok c.bytes)
  -- a record of the layout that shows the values which the call left is the one that it read
  pub tells-apart :
      (l : Layout) (r s : Archived l) → c ≡ lent_by l r → map (shown x.area) (slots_of x.slots) ≡ shown_by l s
      → c.bytes ≡ s.bytes
