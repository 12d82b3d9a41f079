-- The walk over the text that writes a row for each field: the fields from here on are those that the codes still hold,
-- and the rows written so far with the rows of the fields ahead are all rows.
use Prim.Native.Nat.{ℕ, suc, ◌+◌, ◌*◌, ◌≤◌, ◌<◌}
use native.Mathlib.Nat.{lt_of_not-le}
use native.Mathlib.Decide.{dec_le}
use native.Mathlib.Omega.{arith}
use mathlib.Core.Path.{◌≡◌, refl, sym, ap, ◌∙◌}
use mathlib.Core.Bool.{false}
use mathlib.Core.List.{List, [], ◌∷◌, ◌++◌, append-nil, append_assoc}
use lib.ListN.{length, get_or, drop, length-append}
use Rattle.layout.specs.declared.Field.{Field}
use Rattle.layout.specs.Refusals.{ok}
use Rattle.layout.specs.Layout.{to_nat, takes_slot, slots_taken}
use Rattle.layout.specs.Codes.{field_of}
use Rattle.layout.specs.inside.Parsing.{decoded, FieldOf}
use Rattle.layout.proofs.Laws.{ok-inj}
use Rattle.layout.proofs.Steps.{bit_le}
use Rattle.layout.proofs.Decoded.{next_field, no_field}
use Rattle.record.specs.Bytes.{store_at, big_endian}
use Rattle.record.proofs.NumberLaws.{length-big_endian}
use Rattle.record.proofs.Stores.{length-store_at, store-none, store-next, add-run}
use Rattle.describe.specs.Placed.{Placed, fields_in}
use Rattle.describe.specs.inside.Texts.{placed_rest, tail_length, placed_at}
use Rattle.describe.proofs.Counts.{AllCounted, counts-limited}
use Rattle.describe.proofs.Places.{Placing, placing, at-start, at-end, over-space, tail-inside, Standing, standing}
use Rattle.describe.specs.declared.fields.Track.{Track}
use Rattle.describe.specs.declared.fields.Row.{Row}
use Rattle.describe.specs.Rows.{onward, track_start, row_of, rows_from, rows_of, number_size, row_size, row_numbers, row_bytes}
use Rattle.describe.specs.inside.Walk.{field_reach, layout_reach, Safe, Holds, Written}
use Rattle.describe.proofs.fields.Moves.{most-more, Near, onward_near}

pub length-rows : (rs : List Row) → length (row_bytes rs) ≡ length rs * row_size
unfolding row_bytes
length-rows [] = refl
length-rows (r ∷ rs) =
    length-append (big_endian number_size (row_numbers r)) (row_bytes rs) ∙ (omega (arith, length-big_endian number_size (row_numbers r), length-rows rs))

pub rows-count : (k : ℕ) (t : Track) (ps : List Placed) → length (rows_from k t ps) ≡ length ps
unfolding rows_from
rows-count k t [] = refl
rows-count k t (p ∷ ps) = ap suc (rows-count (k + slots_taken p.what) (onward t p.what.role p.what.count) ps)

-- ---- in front of the byte `at` of the text: of all fields i have their rows in d, and take `slot` slots

pub record Listing (text : List ℕ) (n : ℕ) (ws d₀ : List ℕ) (all : List Placed) (d : List ℕ) (t : Track) (slot i at : ℕ) : Type 0 where
  pub within : at ≤ length text
  pub long : length d ≡ length d₀
  pub few : i ≤ n
  pub taken : slot ≤ i
  pub near : Near (i * field_reach) t
  pub ahead : List Placed
  pub here : placed_rest false text at ≡ ok ahead
  pub same : fields_in ahead ≡ drop i (decoded n ws)
  pub counted : AllCounted (fields_in ahead)
  pub done : List ℕ
  pub size : length done ≡ i * row_size
  pub is : d ≡ store_at d₀ 0 done
  pub so-far : row_bytes (rows_of all) ≡ done ++ row_bytes (rows_from slot t ahead)

module _ (text : List ℕ) (n : ℕ) (ws d₀ : List ℕ) (h : Holds text n ws) where
  -- all fields, with their places
  pub everything : Placing false text (decoded n ws)
  everything = placing false text (decoded n ws) h.fields

  abbrev pub all : List Placed
  all = everything.placed

  pub listing_none : Listing text n ws d₀ all d₀ track_start 0 0 0
  unfolding rows_of
  listing_none = record {
    within = omega arith;
    long = refl;
    few = omega arith;
    taken = omega arith;
    near = (omega arith, omega arith);
    ahead = all;
    here = sym (at-start false text) ∙ everything.here;
    same = everything.same;
    counted = counts-limited false text (fields_in all) (h.fields ∙ ap ok (sym everything.same));
    done = [];
    size = refl;
    is = sym (store-none d₀ 0);
    so-far = refl;
  }

  module _ (d : List ℕ) (t : Track) (slot i at : ℕ) (l : Listing text n ws d₀ all d t slot i at) where
    pub listing-space : at < length text → get_or text at 0 ≡ 32 → Listing text n ws d₀ all d t slot i (at + 1)
    listing-space k e = record {
      within = omega arith;
      long = l.long;
      few = l.few;
      taken = l.taken;
      near = l.near;
      ahead = l.ahead;
      here = sym (over-space false text at k e) ∙ l.here;
      same = l.same;
      counted = l.counted;
      done = l.done;
      size = l.size;
      is = l.is;
      so-far = l.so-far;
    }

    pub listing-done : length text ≤ at → Written text d₀ d
    unfolding rows_from row_bytes
    listing-done k ps e =
        let none : [] ≡ l.ahead = ok-inj (sym (at-end false text at k) ∙ l.here) in
        let same : all ≡ ps = ok-inj (sym everything.here ∙ e) in
        let rows : row_bytes (rows_of all) ≡ l.done ++ [] = rw (← none) at l.so-far in
        l.is ∙ ap (store_at d₀ 0) (sym (append-nil l.done) ∙ sym rows ∙ ap (λ (qs : List Placed). row_bytes (rows_of qs)) same)

    -- ---- a field stands here

    module _ (k : at < length text) (solid : get_or text at 0 ≡ 32 → ⊥) where
      stands : Standing false text at l.ahead
      stands = standing false text at l.ahead k solid l.here

      split : stands.what ∷ fields_in stands.others ≡ drop i (decoded n ws)
      split = sym (ap fields_in stands.split) ∙ l.same

      pub listing-some : i < n
      listing-some = elim (dec_le n i) [
        | yes z ↦ (
            let none : stands.what ∷ fields_in stands.others ≡ [] = split ∙ no_field n ws h.few i z in
            let e : ◌≡◌ {A = ℕ} 0 1 = cc in
            absurd (omega arith)
            )
        | no z ↦ lt_of_not-le z
      ]

      -- one of the codes, so that the reader has read it
      found : (stands.what ≡ field_of (get_or ws i 0)) × (fields_in stands.others ≡ drop (i + 1) (decoded n ws))
      found =
          let both : stands.what ∷ fields_in stands.others ≡ field_of (get_or ws i 0) ∷ drop (i + 1) (decoded n ws) =
          split ∙ next_field n ws h.few i listing-some in
          (cc, cc)

      module _ (f : Field) (code : FieldOf (get_or ws i 0) f) where
        same-field : stands.what ≡ f
        same-field = found.0 ∙ sym code.same

        pub listing-taken : Safe f.role f.count t
        listing-taken = record {
          role = code.role;
          count = code.count;
          near =
              most-more (i * field_reach) layout_reach t.at (omega (arith, listing-some, h.few, h.room)) l.near.0;
        }

        -- the field ends inside the text
        pub listing-inside : (r : Row) → r ≡ row_of slot t (placed_at text at f) → at + r.size ≤ length text
        listing-inside r row = omega (arith, ap (λ (x : Row). x.size) row, tail-inside text at k)

        pub listing-next : (r : Row) → r ≡ row_of slot t (placed_at text at f) → (d' : List ℕ)
            → d' ≡ store_at d (i * row_size) (big_endian number_size (row_numbers r))
            → (u : Track) → u ≡ onward t f.role f.count → (m : ℕ) → m ≡ to_nat (takes_slot f.role)
            → n * row_size ≤ length d₀
            → Listing text n ws d₀ all d' u (slot + m) (i + 1) (at + r.size)
        unfolding rows_from row_bytes
        listing-next r row d' e u on m taken room =
            let bytes : List ℕ = big_endian number_size (row_numbers r) in
            let one : length bytes ≡ row_size = length-big_endian number_size (row_numbers r) in
            let place : at + r.size ≡ suc at + tail_length (drop (suc at) text) =
            omega (arith, ap (λ (x : Row). x.size) row) in
            let first : l.ahead ≡ placed_at text at f ∷ stands.others =
            stands.split ∙ ap (λ (g : Field). placed_at text at g ∷ stands.others) same-field in
            let count : AllCounted (f ∷ fields_in stands.others) = rw first at l.counted in
            let grown : length (l.done ++ bytes) ≡ (i + 1) * row_size =
            length-append l.done bytes ∙ (omega (arith, l.size)) in
            let fits : (i + 1) * row_size ≤ n * row_size = omega (arith, listing-some) in
            let is : d' ≡ store_at d₀ 0 (l.done ++ bytes) =
            store-next {to = i * row_size} d₀ 0 l.done bytes l.is (omega (arith, l.size)) e refl (omega arith) in
            let rest : List ℕ = row_bytes (rows_from (slot + m) u stands.others) in
            let this : row_bytes (rows_from slot t (placed_at text at f ∷ stands.others)) ≡ bytes ++ rest =
            rw (row, on, taken) in
            let ahead : row_bytes (rows_from slot t l.ahead) ≡ bytes ++ rest =
            ap (λ (qs : List Placed). row_bytes (rows_from slot t qs)) first ∙ this in
            record {
              within = listing-inside r row;
              long = ap length is ∙ length-store_at d₀ 0 (l.done ++ bytes) (omega arith);
              few = omega (arith, listing-some);
              taken = omega (arith, l.taken, bit_le (takes_slot f.role));
              near =
                  rw (add-run i field_reach, on) (onward_near (i * field_reach) t l.near f.count count.0 f.role code.role);
              ahead = stands.others;
              here = rw place stands.after;
              same = found.1;
              counted = count.1;
              done = l.done ++ bytes;
              size = grown;
              is = is;
              so-far = l.so-far ∙ ap (λ (bs : List ℕ). l.done ++ bs) ahead ∙ sym (append_assoc l.done bytes rest);
            }
