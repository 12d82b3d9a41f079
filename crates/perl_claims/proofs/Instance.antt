-- The premises of the claims can be met: M-105's own template is a spelling of its tree, and two texts have a first bad
-- place, one of them their length.
use mathlib.Core.Path.{refl}
use mathlib.Core.Bool.{true, false}
use mathlib.Core.List.{[]}
use Rattle.layout.specs.Quoted.{bytes}
use Rattle.perl.specs.Template.{Template, done, next, single, group, template_of}
use Rattle.perl_claims.specs.Spelling.{Spells}
use Rattle.perl_claims.specs.Claim.{FirstBad, Places}
use Rattle.perl_claims.proofs.Spelling.{read-spelled}
use Rattle.perl_claims.proofs.Places.{places}

-- twice two unsigned integers and three characters, then a byte
abbrev tree : Template
tree =
    next
    (group
    (next (single (record { letter = 83; unsigned = true; count = bytes "2" }))
    (next (single (record { letter = 97; unsigned = false; count = bytes "3" })) done)) 2)
    (next (single (record { letter = 99; unsigned = true; count = [] })) done)

spelled : Spells 0 tree (bytes "(n2a3)2 C")
unfolding template_of
spelled = read-spelled (bytes "(n2a3)2 C") tree refl

-- the 7 of 4,097
digit-bad : FirstBad (bytes "a4097") 4
unfolding Places template_of
digit-bad = (places (bytes "a4097") 4).0 refl

-- a group that is not closed
end-bad : FirstBad (bytes "(a ") 3
unfolding Places template_of
end-bad = (places (bytes "(a ") 3).0 refl
