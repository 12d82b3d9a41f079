-- The bytes that the call stores are the value's.
use native.Mathlib.Omega.{arith}
use mathlib.Core.Bool.{false}
use Rattle.reading.proofs.value.Loads.{text-asked, size-text, loaded-text}
use Rattle.reading.proofs.value.text.Goals as goal

pub text_len-len-requires : goal.text_len-len-requires
text_len-len-requires c = (text-asked _ _ _ c.requires.inside.1 c.requires.room c.requires.form).0.within

pub copy-requires : goal.copy-requires
copy-requires c =
    let asked = text-asked _ _ _ c.requires.inside.1 c.requires.room c.requires.form in
    let x = c.text_len-len.ensures in
    (rw ((size-text asked.0 x).size false) asked.1, omega (arith, asked.0.within, x.short))

pub returns : goal.returns
returns c =
    let asked = text-asked _ _ _ c.requires.inside.1 c.requires.room c.requires.form in
    rw (c.requires.form, c.string.ensures) (loaded-text _ asked.0 c.text_len-len.ensures c.copy.ensures)
