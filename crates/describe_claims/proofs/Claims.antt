-- The claim, put together: each part is a law of the files beside this one, at the fields of the layout.
use Prim.Native.Nat.{ℕ, ◌*◌, ◌≤◌}
use native.Mathlib.Omega.{arith}
use mathlib.Core.Path.{◌≡◌, refl, sym, ap, ◌∙◌}
use mathlib.Core.Bool.{true, false}
use mathlib.Core.List.{List, ◌++◌}
use lib.ListN.{length, length-map}
use borrow.Author.Tests.{le-leb}
use Rattle.layout.specs.Refusals.{ok}
use Rattle.layout.specs.Layout.{max_layout, fields_of, slot_count}
use Rattle.layout.proofs.Laws.{ok-inj, packed-reads}
use Rattle.record.specs.declared.Answer.{Answer}
use Rattle.record.specs.Table.{slots_of}
use Rattle.record.specs.Packing.{start, filled, accepted, packs, pack}
use Rattle.runs.proofs.Calls.{packs-passed, accepted-result}
use Rattle.describe.specs.Description.{least_length, described}
use Rattle.describe.specs.Claim.{Packing}
use Rattle.describe.proofs.Describes.{described-fields}
use Rattle.describe.specs.Places.{MadeOf}
use Rattle.describe.proofs.Counts.{fields-kept, fields-few}
use Rattle.describe.proofs.Places.{placed-fields}
use Rattle.describe.proofs.Spelled.{places}
use Rattle.describe.specs.Rows.{track_start, rows_of, row_size, listing, list_effect, listed}
use Rattle.describe.proofs.fields.Listing.{rows-count}
use Rattle.describe_claims.specs.Claim.{Taken, fields_taken, rows_by, PackedToo, AllMet, Says, Fields, Starts}
use Rattle.describe_claims.proofs.Letters.{AllLetters, made-letters, letters-sound}
use Rattle.describe_claims.proofs.Follows.{all-met, fields-filled, all-serve}
use Rattle.describe_claims.proofs.Opens.{rows-decided}
use Rattle.describe_claims.proofs.Lengths.{rows-reach}
use Rattle.describe_claims.proofs.Plain.{rows-slots, rows_taken, rows-begin, reads_whole, reads-cut}
use Rattle.describe_claims.proofs.Numbers.{rows_fit, rows-numbers}

module _ (layout : List ℕ) (a : Taken layout) where
  read-fields : fields_of false layout ≡ ok (fields_taken a)
  read-fields = placed-fields false layout a.placed a.has-fields

  few : length a.placed ≤ max_layout
  few =
      let all : length (fields_taken a) ≡ length a.placed = length-map a.placed (λ p. p.what) in
      omega (arith, fields-few false layout (fields_taken a) read-fields, a.short)

  made : MadeOf false layout 0 a.placed
  made = (places false layout).made a.placed a.has-fields

  letters : AllLetters a.placed
  letters = made-letters false layout 0 a.placed made

  answers : (output : List ℕ) → length (rows_by a) * row_size ≤ length output
      → listed layout output ≡ list_effect output (ok (rows_by a))
  unfolding listed listing rows_of
  answers output h =
      let many : length (rows_by a) ≡ length a.placed = rows-count 0 track_start a.placed in
      let room : length a.placed * row_size ≤ length output = rw (← many) h in
      rw (le-leb (length layout) max_layout a.short, a.has-fields, le-leb (length a.placed * row_size) (length output) room)

  -- the fields of a packing are those that reading reads
  met : (p : Packing layout) → AllMet start (filled p.area (slots_of p.slots) (fields_taken a)) (rows_by a)
  unfolding pack rows_of
  met p =
      let (bs, e) = accepted-result p.output (packs layout p.slots p.area p.output) p.accepted in
      let (fs, t) = packs-passed layout p.slots p.area p.output bs e in
      let same : fs ≡ fields_taken a = ok-inj (sym (packed-reads layout fs t.fields).0 ∙ read-fields) in
      all-met a.placed (filled p.area (slots_of p.slots) (fields_taken a)) 0 track_start start (fields-filled p.area (fields_taken a) (slots_of p.slots))
      (all-serve p.area (fields_taken a) 0 (slots_of p.slots) (rw same at t.served)) (omega arith) (refl, refl)

  told : PackedToo a → described layout ≡ accepted (slot_count (fields_taken a)) (least_length (fields_taken a))
  told e = described-fields layout (fields_taken a) (le-leb (length layout) max_layout a.short) e

  pub says : Says layout a
  says = record {
    answers = answers;
    numbers =
        rows-numbers (rows_by a) (rows_fit false layout a.short a.placed few made letters (fields-kept false layout (fields_taken a) read-fields));
    fields = read-fields;
    made = made;
    slots = rows-slots a.placed few;
    met = met;
    decided =
        λ e many enough. rows-decided many enough a.placed few (letters-sound a.placed letters) (fields-kept true layout (fields_taken a) e);
    described-slots = λ e. ap (λ (x : Answer). x.first) (told e) ∙ rows_taken a.placed few;
    described-length =
        λ e s. ap (λ (x : Answer). x.second) (told e) ∙ rows-reach a.placed s (fields-kept true layout (fields_taken a) e) letters;
    begins = rows-begin a.placed few;
    whole = λ h size k. reads_whole (fields_taken a) h size k ∙ sym (rows-begin a.placed few h);
    cut = λ h bs. rw (rows-begin a.placed few h) (reads-cut bs (fields_taken a) h (letters-sound a.placed letters));
  }

pub fields-say : Fields
fields-say layout a = says layout a

pub rows_start : Starts
rows_start l a =
    let same : l.fields ++ l.added ≡ fields_taken a =
    ok-inj (sym (packed-reads l.new (l.fields ++ l.added) l.new-fields).0 ∙ read-fields l.new a) in
    rw same (rows-begin a.placed (few l.new a) (rw same at l.is_plain))
