-- The type, the flag and the count that were seen make the step that the definition takes.
use mathlib.Core.Path.{sym, ap, ◌∙◌}
use Rattle.layout.specs.Layout.{to_nat}
use Rattle.layout.proofs.Numbered.{number-unknown, slot-numbered}
use Rattle.layout.proofs.Steps.{flag-bit, seen, found-unknown, read-large, read-meaningless, read-item}
use Rattle.layout.proofs.parser.read_field.Goals as goal

pub returns-then-d-gt-LAST_TYPE : goal.returns-then-d-gt-LAST_TYPE
returns-then-d-gt-LAST_TYPE c =
    rw c.at.ensures (found-unknown _ _ _ c.requires.1 (c.type_number-d.ensures.0 ∙ number-unknown _ c.if-d-gt-LAST_TYPE.true))

pub returns-then-t-gt-LAST_COUNT : goal.returns-then-t-gt-LAST_COUNT
returns-then-t-gt-LAST_COUNT c =
    rw (c.at-then-t-gt-LAST_COUNT.ensures, c.from.ensures, flag-bit c.tail_at-t.result.flag)
    (read-large _ _ _ _ _ _ _ (seen _ _ _ _ _ _ c.requires c.if-d-gt-LAST_TYPE.false c.type_number-d.ensures c.tail_at-t.ensures) c.if-t-gt-LAST_COUNT.true)

pub returns-then-not-has_meaning : goal.returns-then-not-has_meaning
returns-then-not-has_meaning c =
    rw c.at-then-not-has_meaning.ensures
    (read-meaningless _ _ _ _ _ _ _ (seen _ _ _ _ _ _ c.requires c.if-d-gt-LAST_TYPE.false c.type_number-d.ensures c.tail_at-t.ensures) c.if-t-gt-LAST_COUNT.false
    (sym c.has_meaning.ensures ∙ c.if-not-has_meaning.true))

pub returns : goal.returns
returns c =
    rw (c.from-2.ensures, flag-bit c.tail_at-t.result.flag)
    (read-item _ _ _ _ _ _ _ (seen _ _ _ _ _ _ c.requires c.if-d-gt-LAST_TYPE.false c.type_number-d.ensures c.tail_at-t.ensures) c.if-t-gt-LAST_COUNT.false
    (sym c.has_meaning.ensures ∙ c.if-not-has_meaning.false) _ (c.slots_in.ensures ∙ ap to_nat (slot-numbered c.type_number-d.result)))
