-- Each arm is the definition's.
use borrow.Author.Tests.{lt-ltb, le-ltb}
use Rattle.record.specs.Reading.{digit_char}
use Rattle.digits.proofs.chars.char_of.Goals as goal

pub returns-then-d-lt10 : goal.returns-then-d-lt10
unfolding digit_char
returns-then-d-lt10 c = rw (lt-ltb _ _ c.if-d-lt10.true)

pub returns-else-d-lt10 : goal.returns-else-d-lt10
unfolding digit_char
returns-else-d-lt10 c = rw (le-ltb _ _ c.if-d-lt10.false)
