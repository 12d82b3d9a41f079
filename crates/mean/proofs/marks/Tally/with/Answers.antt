-- The number read is the mark that the slot shows.
use Rattle.std.proofs.Common.{sym, ◌∙◌, eq-eqb, ne_eqb, le-leb}
use Rattle.std.proofs.lemmas.Bool.{lt-leb}
use Rattle.mean.specs.Mean.{leg_of}
use Rattle.mean.proofs.marks.LegLaws.{mark-at}
use Rattle.mean.proofs.marks.Tally.with.Goals as goal

pub returns-then-mark-gt-MAX_MARK : goal.returns-then-mark-gt-MAX_MARK
unfolding leg_of
returns-then-mark-gt-MAX_MARK c =
    let integers = sym c.is_integers.ensures ∙ c.if-not-is_integers.false in
    let one = eq-eqb _ _ c.if-slot-ne1.false in
    let mark = mark-at c.args.area.now c.args.slot integers one ∙ sym c.number_at-mark.ensures.0 in
    simp (ne_eqb _ _ c.if-slot-eq-UNSET.false, sym c.is_inside.ensures ∙ c.if-not-is_inside.false, integers, one, mark, lt-leb _ _ c.if-mark-gt-MAX_MARK.true, c.refused-then-mark-gt-MAX_MARK.ensures)

pub returns : goal.returns
unfolding leg_of
returns c =
    let integers = sym c.is_integers.ensures ∙ c.if-not-is_integers.false in
    let one = eq-eqb _ _ c.if-slot-ne1.false in
    let mark = mark-at c.args.area.now c.args.slot integers one ∙ sym c.number_at-mark.ensures.0 in
    simp (ne_eqb _ _ c.if-slot-eq-UNSET.false, sym c.is_inside.ensures ∙ c.if-not-is_inside.false, integers, one, mark, le-leb _ _ c.if-mark-gt-MAX_MARK.false)
