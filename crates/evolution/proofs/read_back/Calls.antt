-- Laws of a packing followed by a reading: the record lies in the buffer, and demand 3 of the two calls.
use Prim.Native.Nat.{ℕ, ◌≤◌, ◌<◌, min}
use native.Mathlib.Omega.{arith}
use mathlib.Core.Path.{sym, ◌≡◌, ap, ap₂, ◌∙◌, subst}
use mathlib.Core.Bool.{Bool}
use mathlib.Core.List.{List, map}
use lib.ListN.{length-append, length, take, length-take}
use lib.Seq.{take-take, take_all}
use borrow.Author.Tests.{eq-eqb, ne_eqb}
use Rattle.layout.specs.Refusals.{Result, ok, refused}
use Rattle.layout.proofs.Laws.{no-number-zero}
use Rattle.record.specs.declared.Answer.{Answer}
use Rattle.record.specs.declared.ReadAnswer.{ReadAnswer}
use Rattle.record.specs.Table.{slots_of, shown}
use Rattle.record.specs.Slots.{slot_at}
use Rattle.record.specs.Packing.{packs, pack, pack_effect, Packed}
use Rattle.record.specs.Reading.{Read, put_into, with_steps, read_all}
use Rattle.record.proofs.Fields.{split}
use Rattle.evolution.specs.Claim.{Layouts, packed_by, fields_by, due, starts, carried_out, ReadsBack}
use Rattle.evolution.specs.Calls.{LentToBoth, PackedAndRead, packing_first, then_read, packed_and_read, Meant, KeepsBack, ReadsBackAs}
use Rattle.evolution.proofs.ReadsBack.{demand3}

-- an accepted record lies in the buffer
effect-room : (output : List ℕ) (r : Result (List ℕ)) → (pack_effect output r).answer.number ≡ 0 → (pack_effect output r).answer.first ≤ length (pack_effect output r).output
effect-room output (ok bs) e = rw length-append (omega arith)
effect-room output (refused why place) e = no-number-zero why e

pub record-room : (written_by slots area output : List ℕ) (a : Answer) (out : List ℕ) → record { answer = a; output = out } ≡ pack written_by slots area output
    → a.number ≡ 0 → a.first ≤ length out
unfolding pack
record-room written_by slots area output a out called =
    subst (λ (p : Packed). p.answer.number ≡ 0 → p.answer.first ≤ length p.output) (sym called) (effect-room output (packs written_by slots area output))

-- a cut at the smaller of two places
pub take-least : (cut n : ℕ) (xs : List ℕ) → take cut (take n xs) ≡ take (min cut n) xs
take-least cut n xs =
    split cut n
    (λ (h : cut ≤ n). let e : min cut n ≡ cut = omega arith in rw e (take-take cut n xs h))
    (λ (h : n < cut). let e : min cut n ≡ n = omega arith in rw e (take_all cut (take n xs) (omega (arith, length-take n xs))))

-- ---- the two calls

abbrev read_part : PackedAndRead → Read
read_part x = record { answer = x.answer.answer; slots = x.table; area = x.values }

module _ (c : LentToBoth) where
  module _ (a : Answer) (out : List ℕ) (called : record { answer = a; output = out } ≡ packing_first c) where
    pub then-refused : (a.number ≡ 0 → ⊥) → record { answer = record { answer = a; steps = 0 }; output = out; table = c.table; values = c.values } ≡ packed_and_read c
    unfolding packed_and_read
    then-refused h = rw (← called, ne_eqb a.number 0 h)

    pub then-read : a.number ≡ 0 → (k : ℕ) → k ≡ min c.cut a.first → (r : ReadAnswer) (table' values' : List ℕ)
        → record { answer = r; slots = table'; area = values' } ≡ read_all c.read_by (take k out) c.table c.values c.mark
        → record { answer = r; output = out; table = table'; values = values' } ≡ packed_and_read c
    unfolding packed_and_read
    then-read h k least r table' values' e =
        rw (← called, eq-eqb a.number 0 h)
        (ap (then_read (record { answer = a; output = out }))
        (e ∙ ap (λ (bs : List ℕ). read_all c.read_by bs c.table c.values c.mark) (ap (λ (i : ℕ). take i out) least ∙ sym (take-least c.cut a.first out))))

  -- demand 3, of two calls that are such as it speaks of
  module _ (l : Layouts) (packed layout : Bool) (h : Meant l packed layout c) where
    same-packing : packing_first c ≡ packed_by l packed
    same-packing = rw (h.writer, h.arguments, h.items, h.buffer)

    back : ReadsBack l
    back = demand3 l

    accepts : (packed_by l packed).answer.number ≡ 0
    accepts = ap (λ (p : Packed). p.answer.number) (back.packings packed)

    -- what is left, as the claim says it
    left : packed_and_read c ≡ then_read (packed_by l packed) (with_steps (put_into c.table c.values c.mark (starts l) (due l layout c.cut)) (carried_out c.cut 0 (fields_by l layout)))
    unfolding packed_and_read
    left =
        rw (same-packing, eq-eqb (packed_by l packed).answer.number 0 accepts, h.reader)
        (ap₂ (λ (x : Read) (k : ℕ). then_read (packed_by l packed) (with_steps x k))
        (back.readings packed layout c.cut c.table c.values c.mark h.reading)
        (back.steps packed layout c.cut c.table c.values c.mark h.reading))

    kept : KeepsBack l packed layout c (packed_and_read c)
    kept =
        record {
          packings = same-packing ∙ back.packings packed;
          output = ap (λ (x : PackedAndRead). x.output) left ∙ ap (λ (p : Packed). p.output) (back.packings packed);
          readings = ap read_part left;
          shows =
              ap (λ (x : PackedAndRead). map (shown x.values) (take (length (due l layout c.cut)) (slots_of x.table))) left
              ∙ ap (λ (r : Read). map (shown r.area) (take (length (due l layout c.cut)) (slots_of r.slots)))
              (sym (back.readings packed layout c.cut c.table c.values c.mark h.reading))
              ∙ back.shows packed layout c.cut c.table c.values c.mark h.reading;
          positions =
              λ i inside.
              ap (λ (x : PackedAndRead). (slot_at x.table i).position) left
              ∙ ap (λ (r : Read). (slot_at r.slots i).position) (sym (back.readings packed layout c.cut c.table c.values c.mark h.reading))
              ∙ back.positions packed layout c.cut c.table c.values c.mark h.reading i inside;
          steps = ap (λ (x : PackedAndRead). x.answer.steps) left;
        }

  -- so the effect of the calls keeps the whole promise
  pub promised : (x : PackedAndRead) → x ≡ packed_and_read c → ReadsBackAs c x
  promised x e =
      record {
        effect = e;
        demand3 = λ l packed layout h. subst (KeepsBack l packed layout c) (sym e) (kept l packed layout h);
      }
