-- Each way out of the call is one law of the definition: what was tested on the way is its premise.
use Prim.Native.Nat.{ℕ, ◌*◌, ◌/◌, ◌≤◌, ◌<◌}
use native.Mathlib.Nat.{zero-add}
use native.Mathlib.Omega.{arith}
use mathlib.Core.Path.{◌≡◌, sym, ap, ◌∙◌}
use mathlib.Core.Bool.{false}
use mathlib.Core.List.{List, ◌++◌}
use lib.ListN.{length, drop, length-map}
use borrow.Author.Tests.{le-leb, lt-leb}
use Rattle.layout.specs.declared.Refusal.{Refusal}
use Rattle.layout.specs.declared.Refusal.TheVariants.{BadSize, NoRoom}
use Rattle.layout.specs.Refusals.{refused}
use Rattle.layout.specs.Layout.{max_layout, fields_of}
use Rattle.layout.specs.inside.Parsing.{decoded}
use Rattle.layout.proofs.Decoded.{Learnt, decoded-length}
use Rattle.record.specs.Packing.{accepted, refusal}
use Rattle.describe.specs.Placed.{Placed}
use Rattle.describe.proofs.Places.{Placing, placing, placed-refused}
use Rattle.describe.specs.Rows.{track_start, rows_of, row_size, row_bytes, listing, listed}
use Rattle.describe.specs.inside.Walk.{Holds, Written}
use Rattle.describe.proofs.fields.Listing.{length-rows, rows-count}

-- the codes of the text, out of what `parse` answers
pub holds : (layout : List ℕ) → length layout ≤ max_layout → (n slots : ℕ) (ws : List ℕ)
    → Learnt (fields_of false layout) n slots ws → Holds layout n ws
holds layout short n slots ws l = record { few = l.few; room = l.room; short = short; fields = l.fields }

module _ (layout out : List ℕ) where
  pub too_long : max_layout < length layout → record { answer = refusal BadSize 0; output = out } ≡ listed layout out
  unfolding listed listing
  too_long h = rw (lt-leb (length layout) max_layout h)

  pub refused-fields : length layout ≤ max_layout → (why : Refusal) (place : ℕ)
      → fields_of false layout ≡ refused why place
      → record { answer = refusal why place; output = out } ≡ listed layout out
  unfolding listed listing
  refused-fields short why place e =
      rw (le-leb (length layout) max_layout short, placed-refused false layout why place e)

  module _ (n : ℕ) (ws : List ℕ) (h : Holds layout n ws) where
    placed : Placing false layout (decoded n ws)
    placed = placing false layout (decoded n ws) h.fields

    count : length placed.placed ≡ n
    count = sym (length-map placed.placed (λ p. p.what)) ∙ ap length placed.same ∙ decoded-length n ws h.few

    pub no_room : length out / row_size < n → record { answer = refusal NoRoom 0; output = out } ≡ listed layout out
    unfolding listed listing
    no_room k =
        let more : length out < length placed.placed * row_size = omega (arith, count) in
        rw (le-leb (length layout) max_layout h.short, placed.here, lt-leb (length placed.placed * row_size) (length out) more)

    pub told : n ≤ length out / row_size → (out' : List ℕ) → Written layout out out' → record { answer = accepted n 0; output = out' } ≡ listed layout out
    unfolding listed listing rows_of
    told k out' w =
        let ps : List Placed = placed.placed in
        let fits : length ps * row_size ≤ length out = omega (arith, count) in
        let many : length (rows_of ps) ≡ n = rows-count 0 track_start ps ∙ count in
        let there : out' ≡ row_bytes (rows_of ps) ++ drop (length (rows_of ps) * row_size) out =
        w ps placed.here ∙ ap (λ (m : ℕ). row_bytes (rows_of ps) ++ drop m out) (zero-add (length (row_bytes (rows_of ps))) ∙ length-rows (rows_of ps)) in
        rw (le-leb (length layout) max_layout h.short, placed.here, le-leb (length ps * row_size) (length out) fits, ← there, many)
