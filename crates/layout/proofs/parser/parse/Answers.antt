-- The loop keeps `Reading`: the codes so far are the fields of the text before the place.
use mathlib.Core.Path.{refl, subst}
use Rattle.layout.specs.inside.Parsing.{FoundAs, Parses}
use borrow.Author.Rules.{rules}
use Rattle.layout.specs.Layout.{fields_of}
use Rattle.layout.proofs.Turns.{reading-none, reading-spaces, reading-more, reading-bad, reading-done}
use Rattle.layout.proofs.parser.parse.Goals as goal

pub loop-packing-init : goal.loop-packing-init
loop-packing-init c = reading-none _ _ _ _ refl

pub returns-then-text-p : goal.returns-then-text-p
returns-then-text-p c =
    let s = c.spaces_end-p.ensures in
    reading-done _ _ _ _ _ _ _ (reading-spaces _ _ _ _ _ _ _ c.loop-packing.invariant c.requires _ s.from s.within (s.same _)) c.requires c.if-text-p.true

pub returns-in_err-item : goal.returns-in_err-item
returns-in_err-item c =
    let s = c.spaces_end-p.ensures in
    let bad = reading-bad _ _ _ _ _ _ _ (reading-spaces _ _ _ _ _ _ _ c.loop-packing.invariant c.requires _ s.from s.within (s.same _)) c.requires _ c.if-text-p.false (subst (FoundAs _ _ _) c.in_err-item.was c.read_field.ensures) in
    subst (λ r. Parses (fields_of c.args.packing c.args.text.now) r c.loop-packing.codes) (search rules) bad

pub loop-packing-preserved : goal.loop-packing-preserved
loop-packing-preserved c =
    let s = c.spaces_end-p.ensures in
    reading-more _ _ _ _ _ _ _ (reading-spaces _ _ _ _ _ _ _ c.loop-packing.invariant c.requires _ s.from s.within (s.same _)) c.requires _ c.if-text-p.false (subst (FoundAs _ _ _) c.in_ok-item.was c.read_field.ensures)
