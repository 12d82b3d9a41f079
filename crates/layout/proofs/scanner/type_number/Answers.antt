-- Inside the 64 bytes from `@` on the letter's number is the byte's; outside them no byte names a type, and 32 more
-- than any number is above the last.
use Prim.Native.Nat.{◌+◌, ◌%◌}
use native.Mathlib.Omega.{arith}
use mathlib.Core.Path.{◌≡◌, sym, ◌∙◌}
use Rattle.layout.proofs.Letters.{no-letter}
use Rattle.layout.proofs.Numbered.{number-unknown}
use Rattle.layout.proofs.scanner.type_number.Goals as goal

pub returns-then-c-eq1 : goal.returns-then-c-eq1
returns-then-c-eq1 c =
    let letter : c.args.c % 64 + 64 ≡ c.args.c = omega (arith, c.if-c-eq1.true) in
    (rw letter at c.letter-n.ensures.0, c.letter-n.ensures.1)

pub returns-else-c-eq1 : goal.returns-else-c-eq1
returns-else-c-eq1 c =
    (no-letter _ c.if-c-eq1.false ∙ sym (number-unknown (c.letter-n.result + 32) (omega arith)), λ h. absurd (omega arith))
