-- The parts that a Perl template is made of (02, M-105): its letters, and its numbers with their limits.
use Rattle.std.specs.Prelude.{ℕ, zero, suc, ◌+◌, ◌-◌, ◌*◌, Bool, true, false, ◌&&◌, List, [], ◌∷◌, eqb, leb, ltb, if◌then◌else◌}
use Rattle.layout.specs.Layout.{is_decimal}
use Rattle.std.specs.declared.option.Option.{Option}
use Rattle.std.specs.declared.option.Option.TheVariants.{Some, None}
use Rattle.perl.specs.declared.tokens.Letter.{Letter}

-- ---- the limits (02, M-105)

-- the largest count: a limit of its own, not that of layouts
abbrev pub max_template_count : ℕ
max_template_count = 4096

-- how many groups may stand one in the other, and how often one may be repeated
abbrev pub max_depth : ℕ
max_depth = 8

abbrev pub max_repeat : ℕ
max_repeat = 64

-- ---- the letters (02, M-105): ours for a Perl letter, and whether our flag `u` follows it

abbrev pub becomes : ℕ → Bool → Option Letter
becomes b u = Some (record { byte = b; unsigned = u })

unfoldable pub letter_of : ℕ → Option Letter
letter_of c =
    if eqb c 97 then becomes 97 false  -- a
    else if eqb c 98 then becomes 98 false  -- b
    else if eqb c 66 then becomes 66 false  -- B
    else if eqb c 104 then becomes 104 false  -- h
    else if eqb c 72 then becomes 72 false  -- H
    else if eqb c 120 then becomes 120 false  -- x
    else if eqb c 67 then becomes 99 true  -- C: cu
    else if eqb c 110 then becomes 83 true  -- n: Su
    else if eqb c 78 then becomes 73 true  -- N: Iu
    else if eqb c 118 then becomes 115 true  -- v: su
    else if eqb c 86 then becomes 105 true  -- V: iu
    else None

-- ---- numbers (02, M-105: counts and repeats)

-- the number that the digit c makes after digits that made `before`
abbrev pub with_digit : ℕ → ℕ → ℕ
with_digit before c = 10 * before + (c - 48)

-- c is a digit that leads to a number from 1 to the limit; so no number begins with 0
unfoldable pub continues : ℕ → ℕ → ℕ → Bool
continues limit before c = is_decimal c && ltb 0 (with_digit before c) && leb (with_digit before c) limit

-- The number in front, after digits that made `before`, and how many further digits it has. It ends before a digit that
-- would lead past the limit; no item begins with a digit, so that this one is the stray byte.
unfoldable pub number_in : ℕ → ℕ → List ℕ → ℕ
unfolding continues
number_in limit before [] = before
number_in limit before (c ∷ cs) = if continues limit before c then number_in limit (with_digit before c) cs else before

unfoldable pub digits_in : ℕ → ℕ → List ℕ → ℕ
unfolding continues
digits_in limit before [] = 0
digits_in limit before (c ∷ cs) = if continues limit before c then suc (digits_in limit (with_digit before c) cs) else 0

-- how often a group is written, by its repeat: once where none stands, which reads as 0
abbrev pub repeat_of : ℕ → ℕ
repeat_of zero = 1
repeat_of (suc n) = suc n
