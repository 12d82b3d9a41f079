-- A slot below the number of those that are set shows the value that it tells of.

use Rattle.std.proofs.Common.{◌≡◌, arith, ◌+◌, ◌-◌, ◌*◌, ◌≤◌, length, drop}
use Rattle.record.specs.Table.{item_size}
use lib.ListN.{length-take, length-drop}
use Rattle.compare.proofs.report.Findings.{shown-none, value-shown}
use Rattle.compare.proofs.report.Side.value.Goals as goal

pub returns-then-self-i : goal.returns-then-self-i
returns-then-self-i c = shown-none _ _ _ _ c.if-self-i.true

pub slice_bounds-result-end : goal.slice_bounds-result-end
slice_bounds-result-end c =
    let s = c.slot_at-s.result in
    let v = value-shown _ _ _ _ c.args.self.now.shows c.if-self-i.false c.slot_at-s.ensures in
    let inside : s.start + s.len * c.item_size.result ≤ length c.args.self.now.area.now = rw c.item_size.ensures v.0 in
    omega (arith, inside)

pub returns : goal.returns
returns c =
    let s = c.slot_at-s.result in
    let area = c.args.self.now.area.now in
    let v = value-shown _ _ _ _ c.args.self.now.shows c.if-self-i.false c.slot_at-s.ensures in
    let size = s.len * item_size s.kind in
    let all : s.start + s.len * c.item_size.result - s.start ≡ size = rw c.item_size.ensures (omega arith) in
    rw all (omega (arith, length-take size (drop s.start area), length-drop s.start area, c.args.self.now.shows.limit), (_, v.1))
