-- Each call goes deeper or further on: a group's items are read one level deeper, an item where the sequence stands.
-- The loop keeps what was read and stored of the items so far.
use Rattle.std.proofs.Common.{length, ◌-◌, ◌+◌, ◌*◌}
use Rattle.perl.specs.Tokens.{max_depth}
use Rattle.perl.proofs.readers.Turns.{Turn}
use Rattle.perl.proofs.readers.+item_sequence.Given as goal

abbrev pub decreases-item : goal.decreases-item
decreases-item l = max_depth - l.depth + 2 * (length l.text.now - l.p)

abbrev pub decreases-sequence : goal.decreases-sequence
decreases-sequence l = max_depth - l.depth + 2 * (length l.text.now - l.at) + 1

abbrev pub invariant-sequence-loop-span : goal.invariant-sequence-loop-span
invariant-sequence-loop-span l = Turn l.depth l.text l.at l.fn.to l.initial.out l.span l.filled l.out

abbrev pub decreases-sequence-loop-span : goal.decreases-sequence-loop-span
decreases-sequence-loop-span l = length l.text - l.span.next
