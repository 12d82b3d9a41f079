-- A call by a layout is the call by its fields.
use Prim.Native.Nat.{ℕ}
use mathlib.Core.Path.{◌≡◌, refl}
use mathlib.Core.Bool.{true, false}
use mathlib.Core.List.{List}
use lib.ListN.{length}
use Rattle.layout.specs.Layout.{fields_of}
use Rattle.record.specs.Packing.{packs, pack_fields, pack}
use Rattle.record.specs.Reading.{reads, read, read_steps, read_all, read_fields}

pub pack-fields : (layout slots area output : List ℕ) → pack layout slots area output ≡ pack_fields (length layout) (fields_of true layout) slots area output
unfolding pack packs pack_fields
pack-fields layout slots area output = refl

pub read-fields : (layout bs slots area : List ℕ) (mark : ℕ) → read_all layout bs slots area mark ≡ read_fields (length layout) (fields_of false layout) bs slots area mark
unfolding reads read read_steps read_fields
read-fields layout bs slots area mark = refl
