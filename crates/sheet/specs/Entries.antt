-- The entries of a sheet (02, M-100): the bytes of each, and the entries that stand at the front of a run of bytes.
-- w is the width of a length: how many bytes it has.
use Rattle.std.specs.Prelude.{ℕ, zero, suc, ◌+◌, ◌-◌, ◌%◌, Bool, ◌&&◌, List, [], ◌∷◌, ◌++◌, map, length, get_or, eqb, leb, if◌then◌else◌}
use Rattle.record.specs.Bytes.{part, join, number_bytes, number_at}
use Rattle.record.specs.Table.{unset, max_kind, item_size}

-- ---- an entry

-- a slot as a sheet holds it: the kind, and the bytes of the value; one that is not set has kind 0 and no bytes
pub record Entry : Type 0 where
  pub kind : ℕ
  pub value : List ℕ

-- n bytes are a value of the kind: none where nothing is set, else whole items
abbrev pub whole_items : ℕ → ℕ → Bool
whole_items kind n = if eqb kind unset then eqb n 0 else eqb (n % item_size kind) 0

-- the bytes of an entry: how long the rest of it is, its kind byte, its value
unfoldable pub entry_bytes : ℕ → Entry → List ℕ
unfolding number_bytes
entry_bytes w e = number_bytes w (suc (length e.value)) ++ (e.kind ∷ e.value)

-- entries one after the other: as a sheet has them, and their values alone
unfoldable pub body_bytes : ℕ → List Entry → List ℕ
unfolding entry_bytes join
body_bytes w es = join (map (entry_bytes w) es)

unfoldable pub entry_values : List Entry → List ℕ
unfolding join
entry_values es = join (map (λ (e : Entry). e.value) es)

-- ---- entries in a run of bytes

-- bs begins with a whole entry: its length is there, is not 0 and is no more than what remains; the kind is known and
-- has whole items
unfoldable pub begins_entry : ℕ → List ℕ → Bool
unfolding number_at
begins_entry w bs =
    let n = number_at w bs 0 in
    let kind = get_or bs w 0 in
    leb w (length bs) && leb 1 n && leb n (length bs - w) && leb kind max_kind && whole_items kind (n - 1)

-- the entry that bs begins with
unfoldable pub entry_in : ℕ → List ℕ → Entry
unfolding number_at
entry_in w bs = record { kind = get_or bs w 0; value = part bs (suc w) (number_at w bs 0 - 1) }

-- the entries in bs after its first n bytes, which belong to the entry before, up to the first that is wrong
unfoldable pub entries_from : ℕ → ℕ → List ℕ → List Entry
unfolding begins_entry entry_in
entries_from w n [] = []
entries_from w (suc n) (b ∷ bs) = entries_from w n bs
entries_from w zero (b ∷ bs) =
    let e = entry_in w (b ∷ bs) in
    let more = e ∷ entries_from w (w + length e.value) bs in
    if begins_entry w (b ∷ bs) then more else []

-- THE WHOLE ENTRIES AT THE FRONT of bs; where they end before bs does, a wrong entry follows
unfoldable pub entries_in : ℕ → List ℕ → List Entry
unfolding entries_from
entries_in w bs = entries_from w 0 bs
