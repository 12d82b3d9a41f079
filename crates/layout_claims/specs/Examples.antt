-- Worked examples of layout text (01, Layout text; 02, M-101, M-106 and M-111), computed from the definitions: one
-- statement, proved in proofs/Examples.antt.
use Prim.Native.String.{String}
use Rattle.std.specs.Prelude.{◌≡◌, Bool, true, false, List, [], ◌∷◌}
use Rattle.layout.specs.declared.Role.{Role}
use Rattle.layout.specs.declared.Role.TheVariants.{Data, Move}
use Rattle.layout.specs.declared.Motion.TheVariants.{Skip, Goto}
use Rattle.layout.specs.declared.Shape.TheVariants.{Text, Integers}
use Rattle.layout.specs.declared.Count.{Count}
use Rattle.layout.specs.declared.Count.TheVariants.{Absent, Star, Times}
use Rattle.layout.specs.declared.Field.{Field}
use Rattle.layout.specs.declared.Refusal.TheVariants.{BadType, BadCount, BadMove}
use Rattle.layout.specs.Refusals.{Result, ok, refused}
use Rattle.layout.specs.Layout.{fields_of}
use Rattle.layout.specs.Quoted.{bytes}

-- what a text gives in packing, in reading, and in both
abbrev pub Packs : String → Result (List Field) → Type 0
Packs t r = fields_of true (bytes t) ≡ r

abbrev pub Reads : String → Result (List Field) → Type 0
Reads t r = fields_of false (bytes t) ≡ r

abbrev pub Gives : String → Result (List Field) → Type 0
Gives t r = (packing : Bool) → fields_of packing (bytes t) ≡ r

-- the fields `a`, `c`, `x` and `@` with a flag or none and a count or none
abbrev field_by : Role → Bool → Count → Field
field_by k u n = record { role = k; unsigned = u; count = n }

abbrev letters : Bool → Count → Field
letters = field_by (Data (Text 0))

abbrev bytes_of : Bool → Count → Field
bytes_of = field_by (Data (Integers 1 false))

abbrev skips : Bool → Count → Field
skips = field_by (Move Skip)

abbrev goes : Bool → Count → Field
goes = field_by (Move Goto)

unfoldable pub Examples : Type 0
Examples =
    Gives "" (ok [])
    × Gives "   " (ok [])
    × Gives " c  a3 " (ok (bytes_of false Absent ∷ letters false (Times 3) ∷ []))
    × Gives "cu0005" (ok (bytes_of true (Times 5) ∷ []))
    × Gives "a32768" (ok (letters false (Times 32768) ∷ []))
    × Gives "a*c35" (ok (letters false Star ∷ bytes_of false (Times 35) ∷ []))
    × Gives "au20xu2@u*" (ok (letters true (Times 20) ∷ skips true (Times 2) ∷ goes true Star ∷ []))
    × Reads "xu*" (ok (skips true Star ∷ []))
    -- number 2: a space ends a field, a count is a star or digits, a flag stands once and before the count; a tab is no
    -- space
    × Gives "c 3" (refused BadType 2)
    × Gives "c*5" (refused BadType 2)
    × Gives "c5*" (refused BadType 2)
    × Gives "auu" (refused BadType 2)
    × Gives "c3u" (refused BadType 2)
    × Gives "a c\t" (refused BadType 3)
    × Reads "x*u" (refused BadType 2)
    -- number 3, at the first digit, a leading zero too; whatever follows
    × Gives "a32769" (refused BadCount 1)
    × Gives "cu00032769" (refused BadCount 2)
    × Gives "a c99999999999!" (refused BadCount 3)
    -- number 4, at the type character; the first fault from the left counts
    × Gives "@u" (refused BadMove 0)
    × Gives "c @ 5" (refused BadMove 2)
    × Gives "@uu" (refused BadMove 0)
    × Packs "x*u" (refused BadMove 0)
    × Packs "xu*" (refused BadMove 0)
    × Packs "cx*a99999" (refused BadMove 1)
    × Reads "cx*a99999" (refused BadCount 4)
