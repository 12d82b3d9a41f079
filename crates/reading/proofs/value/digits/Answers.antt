-- In either base the bytes that the call stores are the value's.
use native.Mathlib.Omega.{arith}
use mathlib.Core.Path.{◌≡◌}
use Rattle.record.specs.Bytes.{ceil_div}
use Rattle.reading.proofs.value.Loads.{digits-asked, loaded-digits}
use Rattle.reading.proofs.value.digits.Goals as goal

pub slice_bounds-load_hex-end : goal.slice_bounds-load_hex-end
slice_bounds-load_hex-end c =
    omega (arith, (digits-asked _ _ _ c.requires.inside.1 c.requires.room c.requires.form).1)

pub returns-then-hex : goal.returns-then-hex
returns-then-hex c =
    let (inside, room) = digits-asked _ _ _ c.requires.inside.1 c.requires.room c.requires.form in
    let hex = c.if-hex.true in
    let b : c.div_ceil.result ≡ ceil_div c.args.found.items 2 = omega (arith, c.div_ceil.ensures) in
    rw (c.requires.form, hex, c.string.ensures) (loaded-digits _ (rw hex at inside) room b (c.load_hex.ensures _))

pub slice_bounds-load_binary-end : goal.slice_bounds-load_binary-end
slice_bounds-load_binary-end c =
    omega (arith, (digits-asked _ _ _ c.requires.inside.1 c.requires.room c.requires.form).1)

pub returns : goal.returns
returns c =
    let (inside, room) = digits-asked _ _ _ c.requires.inside.1 c.requires.room c.requires.form in
    let binary = c.if-hex.false in
    let b : c.div_ceil-2.result ≡ ceil_div c.args.found.items 8 = omega (arith, c.div_ceil-2.ensures) in
    rw (c.requires.form, binary, c.string-2.ensures) (loaded-digits _ (rw binary at inside) room b (c.load_binary.ensures.effect _))
