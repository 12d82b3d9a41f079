-- Rescuing what is whole of a damaged sheet (02, M-109 and M-111, whose fitting rule does not bind here): THE EFFECT OF
-- THE CALL is `rescue`.
use Rattle.std.specs.Prelude.{ℕ, ◌+◌, ◌-◌, ◌&&◌, List, [], ◌++◌, length, take, replicate, leb, if◌then◌else◌}
use Rattle.layout.specs.declared.Refusal.{Refusal}
use Rattle.layout.specs.declared.Refusal.TheVariants.{BadSize, BadSlots, NoRoom, BadVersion}
use Rattle.layout.specs.Refusals.{number_of, Result, ok, refused, ◌>>=◌, demand}
use Rattle.record.specs.Table.{unset, slots_of, max_slots}
use Rattle.sheet.specs.Entries.{Entry, entry_values, entries_in}
use Rattle.sheet.specs.Sheet.{header_size, sheet_sizes_fit, version_of, version_known, width_in, entries_at, entries_end, put_entries}
use Rattle.rescue.specs.declared.fill.Rescued.{Rescued}

-- ---- what is kept

-- the whole entries at the front of a sheet, at most n, whatever length its header states; w is the width of a length
unfoldable pub kept_in : ℕ → ℕ → List ℕ → List Entry
unfolding entries_in
kept_in w n sheet = take n (entries_at w sheet)

-- the bytes that belong neither to the header nor to a kept entry: all of them, where the header is not whole
unfoldable pub dropped_of : ℕ → List ℕ → List Entry → ℕ
unfolding entries_end
dropped_of w sheet es = if leb (header_size w) (length sheet) then length sheet - entries_end w es else length sheet

-- a slot that is not set, as an entry
abbrev pub cleared_entry : Entry
cleared_entry = record { kind = unset; value = [] }

-- the kept entries, then cleared ones, n in all
abbrev pub filled_up : ℕ → List Entry → List Entry
filled_up n es = es ++ replicate (n - length es) cleared_entry

-- the kept entries, or the first refusal of 1, 13, 5 and 11
unfoldable pub rescues : List ℕ → ℕ → List ℕ → List ℕ → ℕ → Result (List Entry)
unfolding slots_of kept_in entry_values
rescues sheet legs slots area mark = do
  _ ← demand (sheet_sizes_fit (length slots) (length area) (length sheet) && leb mark (length area) && leb legs max_slots)
      BadSize 0
  _ ← demand (version_known (version_of sheet)) BadVersion 0
  _ ← demand (leb legs (length (slots_of slots))) BadSlots 0
  let es = kept_in (width_in sheet) legs sheet
  _ ← demand (leb (mark + length (entry_values es)) (length area)) NoRoom 0
  ok es

-- ---- what a call leaves

-- the four numbers of an answer (declared in src/fill.rt): 0, kept, cleared and dropped; or a refusal's number and
-- place, 0 and 0
abbrev pub saved : ℕ → ℕ → ℕ → Rescued
saved kept cleared dropped = record { number = 0; first = kept; second = cleared; third = dropped }

abbrev pub rescue_refused : Refusal → ℕ → Rescued
rescue_refused why place = record { number = number_of why; first = place; second = 0; third = 0 }

-- all that a call leaves: the answer, the slots and the area
pub record Outcome : Type 0 where
  pub answer : Rescued
  pub slots : List ℕ
  pub area : List ℕ

-- what is left where the entries es are kept: they and the cleared ones after them go in as a reading puts entries
abbrev pub keeping : List ℕ → ℕ → List ℕ → List ℕ → ℕ → List Entry → Outcome
keeping sheet legs slots area mark es =
    let put = put_entries slots area mark (filled_up legs es) in
    record {
      answer = saved (length es) (legs - length es) (dropped_of (width_in sheet) sheet es);
      slots = put.slots;
      area
          = put.area;
    }

-- what a call leaves: the kept entries put in; a refusal changes nothing
abbrev pub rescue_effect : List ℕ → ℕ → List ℕ → List ℕ → ℕ → Result (List Entry) → Outcome
rescue_effect sheet legs slots area mark (ok es) = keeping sheet legs slots area mark es
rescue_effect sheet legs slots area mark (refused why place) =
    record { answer = rescue_refused why place; slots = slots; area = area }

unfoldable pub rescue : List ℕ → ℕ → List ℕ → List ℕ → ℕ → Outcome
unfolding rescues dropped_of put_entries
rescue sheet legs slots area mark = rescue_effect sheet legs slots area mark (rescues sheet legs slots area mark)
