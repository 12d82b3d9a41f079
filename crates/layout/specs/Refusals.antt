-- What a call is refused with: the numbers, and checks one after the other. The first eleven are those of document 01,
-- "Numbers that come back"; those of the requests (02) follow, and the last two are those of `extends`. The type Refusal
-- is the source's: a case for each line of the table in include/curlew.h, in its order.
use Rattle.std.specs.Prelude.{ℕ, suc, Bool, true, false}
use Rattle.layout.specs.declared.Refusal.{Refusal}
use Rattle.layout.specs.declared.Refusal.TheVariants.{BadSize, BadType, BadCount, BadMove, BadSlots, NotSet, BadSlot, WrongKind, BadList, BadDigit, NoRoom, BadSheet, BadVersion, BadMark, BadTemplate, BadReal, OtherFields, NotPlain}

-- the line of a refusal in the table, counted from 0 as bytes and slots are
abbrev pub line_of : Refusal → ℕ
line_of BadSize = 0
line_of BadType = 1
line_of BadCount = 2
line_of BadMove = 3
line_of BadSlots = 4
line_of NotSet = 5
line_of BadSlot = 6
line_of WrongKind = 7
line_of BadList = 8
line_of BadDigit = 9
line_of NoRoom = 10
line_of BadSheet = 11
line_of BadVersion = 12
line_of BadMark = 13
line_of BadTemplate = 14
line_of BadReal = 15
line_of OtherFields = 16
line_of NotPlain = 17

-- the number of a refusal: 0 is that of an accepted call, so the first line has 1
abbrev pub number_of : Refusal → ℕ
number_of why = suc (line_of why)

-- what a check gives: a value, or a refusal and its place
pub data Result (A : Type 0) : Type 0 where
  ok : A → Result A
  refused : Refusal → ℕ → Result A

-- One check after the other, in a `do` block: the first that fails gives the result, and those after it are not looked
-- at.
infixl 20 ◌>>=◌
abbrev pub ◌>>=◌ : {A B : Type 0} → Result A → (A → Result B) → Result B
ok a >>= f = f a
refused why place >>= f = refused why place

-- one check: passes where the test is true, and else refuses at the place
abbrev pub demand : Bool → Refusal → ℕ → Result (Unit {0})
demand true why place = ok tt
demand false why place = refused why place
