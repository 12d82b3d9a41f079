-- Check by check, each way out is one law of the definition.
use Rattle.std.proofs.Common.{◌≡◌, true, false, sym, ◌∙◌, rules}
use Rattle.sheet.specs.Sheet.{version_of, version_known, width_in, header_fits}
use Rattle.sheet.proofs.Calls.{read-sizes, read-version, read-header}
use Rattle.sheet_read.proofs.read.Goals as goal

pub returns-then-not-lent_fits : goal.returns-then-not-lent_fits
returns-then-not-lent_fits c = rw c.refused.ensures (read-sizes _ _ _ _ (sym c.lent_fits.ensures ∙ c.if-not-lent_fits.true))

pub returns-in_default : goal.returns-in_default
returns-in_default c =
    rw c.refused-in_default.ensures (read-version _ _ _ _ (sym c.lent_fits.ensures ∙ c.if-not-lent_fits.false) c.in_default.ensures)

pub returns-then-not-header_fits : goal.returns-then-not-header_fits
returns-then-not-header_fits c =
    let known : version_known (version_of c.args.sheet.now) ≡ true = search rules in
    let header : header_fits (width_in c.args.sheet.now) c.args.sheet.now ≡ false =
    rw (← c.in-Some.ensures) (sym c.header_fits.ensures ∙ c.if-not-header_fits.true) in
    rw c.refused-then-not-header_fits.ensures (read-header _ _ _ _ (sym c.lent_fits.ensures ∙ c.if-not-lent_fits.false) known header)
