-- The tests are those of the definition, in its order.
use borrow.Author.Tests.{lt-ltb, le-ltb}
use Rattle.layout.proofs.width.Goals as goal

pub returns-then-k-lt-INT_16 : goal.returns-then-k-lt-INT_16
returns-then-k-lt-INT_16 c = rw (lt-ltb _ 8 c.if-k-lt-INT_16.true)

pub returns-then-k-lt-INT_32 : goal.returns-then-k-lt-INT_32
returns-then-k-lt-INT_32 c = rw (le-ltb _ 8 c.if-k-lt-INT_16.false, lt-ltb _ 10 c.if-k-lt-INT_32.true)

pub returns-then-k-lt-INT_64 : goal.returns-then-k-lt-INT_64
returns-then-k-lt-INT_64 c = rw (le-ltb _ 8 c.if-k-lt-INT_16.false, le-ltb _ 10 c.if-k-lt-INT_32.false, lt-ltb _ 12 c.if-k-lt-INT_64.true)

pub returns-else-k-lt-INT_64 : goal.returns-else-k-lt-INT_64
returns-else-k-lt-INT_64 c = rw (le-ltb _ 8 c.if-k-lt-INT_16.false, le-ltb _ 10 c.if-k-lt-INT_32.false, le-ltb _ 12 c.if-k-lt-INT_64.false)
