-- What both passes need: the bytes of values one after the other, and that a field that is found lies in the record.
use Prim.Native.Nat.{ℕ, ◌+◌, ◌≤◌, ◌<◌}
use native.Mathlib.Nat.{le_refl}
use native.Mathlib.Omega.{arith}
use mathlib.Core.Path.{◌≡◌, refl, sym, ap, ◌∙◌}
use mathlib.Core.List.{List, [], ◌∷◌, ◌++◌, append_assoc, append-nil}
use lib.ListN.{length, get_or}
use Rattle.std.specs.declared.option.Option.TheVariants.{Some, None}
use Rattle.layout.specs.inside.Parsing.{decoded}
use Rattle.layout.proofs.Numbered.{shape-fits}
use Rattle.record.specs.declared.Cursor.{Cursor}
use Rattle.record.specs.Bytes.{join}
use Rattle.record.specs.Table.{max_record, Value, area_bytes, value_bytes}
use Rattle.reading.specs.declared.positions.Found.{Found}
use Rattle.reading.specs.inside.positions.{GoesTo, StepAs}
use Rattle.reading.specs.inside.value.{InRecord, value_of}
use Rattle.reading.proofs.positions.Turns.{Ran, Ended, ran-end, ran-short, ran-moved, ran-found}
use Rattle.reading.proofs.positions.Turns as runs

pub value-bytes-append : (vs ws : List Value) → value_bytes (vs ++ ws) ≡ value_bytes vs ++ value_bytes ws
unfolding value_bytes join
value-bytes-append [] ws = refl
value-bytes-append (v ∷ vs) ws = ap (λ (r : List ℕ). area_bytes v ++ r) (value-bytes-append vs ws) ∙ sym (append_assoc (area_bytes v) (value_bytes vs) (value_bytes ws))

pub value-bytes-one : (v : Value) → value_bytes (v ∷ []) ≡ area_bytes v
unfolding value_bytes join
value-bytes-one v = append-nil (area_bytes v)

-- ---- a turn of either pass

module _ {bs : List ℕ} (ws : List ℕ) {i : ℕ} {c : Cursor} {vs : List Value} (ran : Ran bs (decoded (length ws) ws) i c vs) where
  pub turn-end : length ws ≤ i → i ≤ length ws → Ended bs (decoded (length ws) ws) vs (length ws)
  turn-end h k = let e : i ≡ length ws = omega arith in rw e at (ran-end _ _ (le_refl _) ran h)

  module _ (l : i < length ws) where
    pub turn-short : StepAs (get_or ws i 0) c None → Ended bs (decoded (length ws) ws) vs (i + 1)
    turn-short g = ran-short _ _ (le_refl _) ran l g.0 refl refl g.1

    module _ {d : Cursor} where
      pub turn-moved : GoesTo (get_or ws i 0) c d None → Ran bs (decoded (length ws) ws) (i + 1) d vs
      turn-moved g = ran-moved _ _ (le_refl _) ran l g.0 g.1

      module _ {f : Found} (g : GoesTo (get_or ws i 0) c d (Some f)) where
        -- the bytes of a field that is found lie in the record
        pub turn-inside : length bs ≤ max_record → InRecord bs f
        turn-inside m = rw g.3 (g.0, record { form = shape-fits _ g.0; within = omega (arith, ran.inside, ran.size, g.1); limit = m })

        pub turn-found : runs.Found bs (decoded (length ws) ws) i c.at d vs (value_of bs f)
        turn-found = rw g.3 (ran-found _ _ (le_refl _) ran l g.0 refl refl g.1 g.2)
