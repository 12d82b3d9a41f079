-- Line by line of the request: each way out is one law of the definition.
use Rattle.std.proofs.Common.{arith, rules, sym, ◌∙◌, ◌≡◌, true}
use Rattle.sheet.specs.Sheet.{version_of, version_known}
use Rattle.record.proofs.Tables.{length-slots}
use Rattle.rescue.proofs.fill.Calls.{rescue-sizes, rescue-version, rescue-slots}
use Rattle.rescue.proofs.rescue.Goals as goal

pub returns-then-not-sizes_fit : goal.returns-then-not-sizes_fit
returns-then-not-sizes_fit c = rw c.refused.ensures (rescue-sizes _ _ _ _ _ (sym c.sizes_fit.ensures ∙ c.if-not-sizes_fit.true))

pub returns-in_default : goal.returns-in_default
returns-in_default c =
    rw c.refused-in_default.ensures (rescue-version _ _ _ _ _ (sym c.sizes_fit.ensures ∙ c.if-not-sizes_fit.false) c.in_default.ensures)

pub returns-then-slots-legs : goal.returns-then-slots-legs
returns-then-slots-legs c =
    let known : version_known (version_of c.args.sheet.now) ≡ true = search rules in
    rw c.refused-then-slots-legs.ensures
    (rescue-slots _ _ _ _ _ (sym c.sizes_fit.ensures ∙ c.if-not-sizes_fit.false) known (omega (arith, length-slots c.args.slots.now, c.if-slots-legs.true)))

pub rescue_entries-requires : goal.rescue_entries-requires
rescue_entries-requires c =
    let known : version_known (version_of c.args.sheet.now) ≡ true = search rules in (
      record {
        sizes = sym c.sizes_fit.ensures ∙ c.if-not-sizes_fit.false;
        versions = known;
        rows = omega (arith, length-slots c.args.slots.now, c.if-slots-legs.false);
      },
      c.in-Some.ensures,
    )
