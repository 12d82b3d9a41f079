-- Fields with their places, for code that walks over the text.
use Rattle.std.specs.Prelude.{ℕ, suc, ◌+◌, Bool, List, drop, get_or}
use Rattle.layout.specs.declared.Field.{Field}
use Rattle.layout.specs.Refusals.{Result}
use Rattle.layout.specs.Layout.{flagged, to_nat, count_length}
use Rattle.describe.specs.Placed.{Placed, placed_from}

-- the fields that are still to come from the place `at` on
unfoldable pub placed_rest : Bool → List ℕ → ℕ → Result (List Placed)
unfolding placed_from
placed_rest packing text at = placed_from packing at 0 (drop at text)

-- how many bytes the flag and the count in front take
abbrev pub tail_length : List ℕ → ℕ
tail_length cs = to_nat (flagged cs) + count_length (drop (to_nat (flagged cs)) cs)

-- a field that was found where its type character stands
abbrev pub placed_at : List ℕ → ℕ → Field → Placed
placed_at text at f =
    record { what = f; place = at; letter = get_or text at 0; size = suc (tail_length (drop (suc at) text)) }
