-- Each way out is one law of the verdict on a number; what was tested on the way is its premise.
use Prim.Native.Nat.{◌%◌}
use mathlib.Core.Path.{◌≡◌, sym, ◌∙◌}
use mathlib.Core.Bool.{true}
use Rattle.layout.specs.Codes.{flag_unit}
use Rattle.layout.proofs.Numbered.{meaning-data}
use Rattle.plans.specs.Plans.{is_type}
use Rattle.plans.proofs.Fields.{type-data, type-spare, type-gap, type-past, type-move, judged-type, judged-over, judged-misused, judged-good}
use Rattle.plans.proofs.judge_one.Goals.{then-d-lt-SKIP-via-then-d-lt-SKIP, then-d-lt-SKIP-via-else-d-lt-SKIP+then-d-gt-LAST_TYPE}
use Rattle.plans.proofs.judge_one.Goals as goal

pub returns-then-d-eq-SPARE : goal.returns-then-d-eq-SPARE
returns-then-d-eq-SPARE c = judged-type _ _ (type-spare _ c.if-d-eq-SPARE.true)

pub returns-then-w-ge-END_COUNT : goal.returns-then-w-ge-END_COUNT
returns-then-w-ge-END_COUNT c = judged-over _ _ (type-data _ c.if-d-le-LAST_DATA.true c.if-d-eq-SPARE.false) c.if-w-ge-END_COUNT.true

pub returns-then-d-le-LAST_DATA : goal.returns-then-d-le-LAST_DATA
returns-then-d-le-LAST_DATA c = judged-good _ _ (type-data _ c.if-d-le-LAST_DATA.true c.if-d-eq-SPARE.false) c.if-w-ge-END_COUNT.false (sym (meaning-data _ _ _ c.if-d-le-LAST_DATA.true))

pub returns-then-d-lt-SKIP : goal.returns-then-d-lt-SKIP
returns-then-d-lt-SKIP c =
    elim c.then-d-lt-SKIP.branch [
      | then-d-lt-SKIP-via-then-d-lt-SKIP w ↦ judged-type _ _ (type-gap _ c.if-d-le-LAST_DATA.false w.if-d-lt-SKIP.true)
      | then-d-lt-SKIP-via-else-d-lt-SKIP+then-d-gt-LAST_TYPE w ↦ judged-type _ _ (type-past _ c.if-d-le-LAST_DATA.false w.if-d-gt-LAST_TYPE.true)
    ]

pub returns-then-w-ge-END_COUNT-2 : goal.returns-then-w-ge-END_COUNT-2
returns-then-w-ge-END_COUNT-2 c =
    let moves : is_type (c.args.w % flag_unit) ≡ true = type-move _ c.if-d-le-LAST_DATA.false c.if-d-lt-SKIP.false c.if-d-gt-LAST_TYPE.false in judged-over _ _ (moves) c.if-w-ge-END_COUNT-2.true

pub returns-then-not-has_meaning : goal.returns-then-not-has_meaning
returns-then-not-has_meaning c =
    let moves : is_type (c.args.w % flag_unit) ≡ true = type-move _ c.if-d-le-LAST_DATA.false c.if-d-lt-SKIP.false c.if-d-gt-LAST_TYPE.false in judged-misused _ _ (moves) c.if-w-ge-END_COUNT-2.false (sym c.has_meaning.ensures ∙ c.if-not-has_meaning.true)

pub returns : goal.returns
returns c =
    let moves : is_type (c.args.w % flag_unit) ≡ true = type-move _ c.if-d-le-LAST_DATA.false c.if-d-lt-SKIP.false c.if-d-gt-LAST_TYPE.false in judged-good _ _ (moves) c.if-w-ge-END_COUNT-2.false (sym c.has_meaning.ensures ∙ c.if-not-has_meaning.false)
