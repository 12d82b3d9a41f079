-- Every byte put is the one a text before it, so that the text goes on again and again.
use mathlib.Core.Path.{sym, ◌∙◌}
use Rattle.perl.proofs.items.Blocks.{again-none, again-over, again-once, again-more, again-done}
use Rattle.perl.proofs.items.again.Goals as goal

pub returns-in_err-end : goal.returns-in_err-end
returns-in_err-end c =
    λ s d st. rw c.from_residual-in_err-end.ensures (again-none s d c.args.to c.args.times c.args.out.now c.requires.2 (rw c.in_err-end.was at st))

pub returns-then-all-gt-MAX_LAYOUT : goal.returns-then-all-gt-MAX_LAYOUT
returns-then-all-gt-MAX_LAYOUT c =
    λ s d st. rw c.in_ok-to.was
    (again-over s d c.in_ok-to.to c.in_ok-end.end c.args.out.now (rw c.in_ok-end.was at c.requires.1) (rw (c.in_ok-to.was, c.in_ok-end.was) at st)
    c.args.times c.if-all-gt-MAX_LAYOUT.true)

pub loop-j-init : goal.loop-j-init
loop-j-init c =
    let q = c.requires in
    λ s d st. again-once s d _ _ _ (rw c.in_ok-end.was at q.1) st _ q.2 (sym st.long ∙ q.4) c.if-all-gt-MAX_LAYOUT.false

pub loop-j-preserved : goal.loop-j-preserved
loop-j-preserved c =
    let q = c.requires in
    λ s d st. again-more s d _ _ _ (rw c.in_ok-end.was at q.1) st _ q.2 (sym st.long ∙ q.4) c.if-all-gt-MAX_LAYOUT.false
    _ _ c.loop-j.auto.j (c.loop-j.invariant s d st) c.loop-j-test.true

pub returns : goal.returns
returns c =
    let q = c.requires in
    λ s d st. rw c.in_ok-to.was
    (again-done s d _ _ _ (rw c.in_ok-end.was at q.1) (rw (c.in_ok-to.was, c.in_ok-end.was) at st) _ q.2 (sym st.long ∙ q.4) c.if-all-gt-MAX_LAYOUT.false
    _ _ c.loop-j.auto.j (c.loop-j.invariant s d (rw (c.in_ok-to.was, c.in_ok-end.was) at st)) c.loop-j.auto.j-end c.loop-j-test.false)
