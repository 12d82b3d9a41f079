-- Laws of a reading followed by a packing: M-107 of the two calls follows from the theorem, because they are lent what
-- it speaks of.
use Prim.Native.Nat.{ℕ}
use mathlib.Core.Path.{◌≡◌, refl, sym, ap, ◌∙◌}
use mathlib.Core.List.{List, map}
use borrow.Author.Tests.{eq-eqb, ne_eqb}
use Rattle.layout.specs.Refusals.{ok}
use Rattle.record.specs.declared.Answer.{Answer}
use Rattle.record.specs.Table.{slots_of, Value, shown}
use Rattle.record.specs.Packing.{Packed, pack, pack_effect}
use Rattle.lossless.specs.Claim.{Layout, Archived, reading_of, shown_by, LosesNothing}
use Rattle.lossless.specs.Calls.{LentToReread, ReadAndPacked, reading_first, then_packed, read_and_packed, lent_by, ReadsAndPacksAs}
use Rattle.lossless.proofs.LosesNothing.{loses-nothing}

module _ (c : LentToReread) (a : Answer) (slots area : List ℕ) (called : record { answer = a; slots = slots; area = area } ≡ reading_first c) where
  pub then-refused : (a.number ≡ 0 → ⊥) → record { answer = a; slots = slots; area = area; output = c.output } ≡ read_and_packed c
  unfolding read_and_packed
  then-refused h = rw (← called, ne_eqb a.number 0 h)

  pub then-packed : a.number ≡ 0 → (p : Answer) (out : List ℕ) → record { answer = p; output = out } ≡ pack c.layout slots area c.output
      → record { answer = p; slots = slots; area = area; output = out } ≡ read_and_packed c
  unfolding read_and_packed
  then-packed h p out e = rw (← called, eq-eqb a.number 0 h) (ap (then_packed (record { answer = a; slots = slots; area = area })) e)

abbrev packed_part : ReadAndPacked → Packed
packed_part x = record { answer = x.answer; output = x.output }

abbrev shown_part : ReadAndPacked → List Value
shown_part x = map (shown x.area) (slots_of x.slots)

module _ (l : Layout) (r : Archived l) where
  packs : packed_part (read_and_packed (lent_by l r)) ≡ pack_effect r.output (ok r.bytes)
  unfolding read_and_packed
  packs =
      let claim : LosesNothing l = loses-nothing l in
      let zero : (reading_of l r).answer.number ≡ 0 = ap (λ (a : Answer). a.number) (claim.sets-all r) in
      rw (eq-eqb (reading_of l r).answer.number 0 zero) (claim.gives_back r)

  shows : shown_part (read_and_packed (lent_by l r)) ≡ shown_by l r
  unfolding read_and_packed
  shows = refl

-- so the effect of the calls has every part of the promise
pub promised : (c : LentToReread) (x : ReadAndPacked) → x ≡ read_and_packed c → ReadsAndPacksAs c x
promised c x e = record {
  effect = e;
  gives_back = λ l r lent. ap packed_part e ∙ rw lent (packs l r);
  tells-apart = λ l r s lent same.
      let left : shown_part x ≡ shown_by l r = ap shown_part e ∙ rw lent (shows l r) in
      ap (λ (c : LentToReread). c.bytes) lent ∙ (loses-nothing l).tells-apart r s (sym left ∙ same);
}
