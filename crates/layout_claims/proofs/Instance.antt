-- The premises of the claims can be met: a layout that is written in every way the grammar has, a fault of each number,
-- and a byte that goes on with the field before it.
use mathlib.Core.Path.{refl}
use mathlib.Core.Bool.{true, false}
use mathlib.Core.List.{List, [], ◌∷◌}
use Rattle.layout.specs.declared.Role.TheVariants.{Data, Move}
use Rattle.layout.specs.declared.Motion.TheVariants.{Goto}
use Rattle.layout.specs.declared.Shape.TheVariants.{Text, Integers}
use Rattle.layout.specs.declared.Count.TheVariants.{Absent, Star, Times}
use Rattle.layout.specs.declared.Field.{Field}
use Rattle.layout.specs.declared.Refusal.TheVariants.{BadType, BadCount, BadMove}
use Rattle.layout.specs.Layout.{type_of, fields_of}
use Rattle.layout.specs.Quoted.{bytes}
use Rattle.layout_claims.specs.Spelling.{absent, star, written, nothing, Spelled}
use Rattle.layout_claims.specs.Faults.{Faulty, GoesOn}
use Rattle.layout_claims.specs.Claim.{Spellings, Places}
use Rattle.layout_claims.proofs.Judged.{spellings, places}

abbrev fields : List Field
fields =
    record { role = Data (Text 0); unsigned = false; count = Absent }
    ∷ record { role = Data (Integers 1 false); unsigned = true; count = Times 35 }
    ∷ record { role = Move Goto; unsigned = false; count = Star }
    ∷ []

spelled : Spelled true fields (bytes " acu035 @* ")
unfolding Spellings fields_of
spelled = (spellings true (bytes " acu035 @* ") fields).0 refl

unknown-byte : Faulty true (bytes "c 3") BadType 2
unfolding Places fields_of
unknown-byte = (places true (bytes "c 3") BadType 2).0 refl

large-count : Faulty true (bytes "a cu00032769") BadCount 4
unfolding Places fields_of
large-count = (places true (bytes "a cu00032769") BadCount 4).0 refl

misused-count : Faulty true (bytes "a xu*5") BadMove 2
unfolding Places fields_of
misused-count = (places true (bytes "a xu*5") BadMove 2).0 refl

goes_on : GoesOn (bytes "cu") 42
unfolding type_of
goes_on =
    record {
      start = [];
      bytes = bytes "cu";
      parts = refl;
      form = ([], nothing);
      short = (_, written {u = true} {n = Absent} refl absent);
      long = (_, written {u = true} {n = Star} refl star);
    }
