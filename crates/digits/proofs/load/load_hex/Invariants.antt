-- The loop keeps that the characters of the first k bytes are in their place.

use Rattle.record.proofs.Stores.{Put}
use Rattle.digits.proofs.load.DigitChars.{shown_chars}
use Rattle.digits.proofs.load.load_hex.Given as goal
use Rattle.std.proofs.Common.{true, length, ◌*◌}

abbrev pub invariant-loop-k : goal.invariant-loop-k
invariant-loop-k l = Put l.fn.shown 0 (shown_chars true l.high (length l.fn.shown) l.bytes) l.shown (2 * l.k)
