-- The premise can be met: the layouts of `evolution`'s own instance, each record read by each layout whole, and the new
-- one cut inside its added fields.
use mathlib.Core.Path.{refl}
use mathlib.Core.Bool.{Bool, true}
use Prim.Native.Nat.{ℕ}
use lib.ListN.{length, replicate}
use Rattle.evolution.specs.Claim.{text_of, slots_by, output_by, record_by}
use Rattle.evolution.specs.Pair.{pair}
use Rattle.evolution.proofs.Instance.{whole, cut_short}
use Rattle.evolution.specs.Calls.{LentToBoth, Meant}

-- what the calls are lent for a packing by one of the two layouts and a reading by one, with `size` bytes for the
-- values
abbrev lent : Bool → Bool → ℕ → ℕ → LentToBoth
lent packed layout cut size = record {
  written_by = text_of pair packed;
  slots = slots_by pair packed;
  area = pair.area;
  output = output_by pair packed;
  cut = cut;
  read_by = text_of pair layout;
  table = replicate 8 9;
  values = replicate size 9;
  mark = 1;
}

meant : (packed layout : Bool) → Meant pair packed layout (lent packed layout (length (record_by pair packed)) 12)
meant packed layout = record { writer = refl; arguments = refl; items = refl; buffer = refl; reader = refl; reading = whole packed layout }

meant-cut : (layout : Bool) → Meant pair true layout (lent true layout 5 4)
meant-cut layout = record { writer = refl; arguments = refl; items = refl; buffer = refl; reader = refl; reading = cut_short layout }
