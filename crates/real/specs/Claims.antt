-- What holds of every single and double that the definitions compute (02, M-108): the single is the nearest one and no
-- other is, and the double is the single's own value. Proved in proofs/NarrowLaws.antt and proofs/WidenLaws.antt.
use Rattle.std.specs.Prelude.{ℕ, ◌+◌, ◌-◌, ◌*◌, ◌^◌, ◌≤◌, ◌<◌, ◌≡◌}
use Rattle.real.specs.Patterns.{double_sign, double_body, single_sign, single_body, double_magnitude, single_magnitude, single_infinity, is_nan, is_single_nan}
use Rattle.real.specs.Narrowing.{Narrowed, single_of}
use Rattle.real.specs.Widening.{Widened, double_of}

-- ---- the order of patterns is that of their magnitudes: no two patterns share one

abbrev pub SinglesRise : Type 0
SinglesRise = (a b : ℕ) → a < b → single_magnitude a < single_magnitude b

abbrev pub DoublesRise : Type 0
DoublesRise = (a b : ℕ) → a < b → double_magnitude a < double_magnitude b

-- ---- the single of a double

-- the computed single has the sign of the double, and of the finite singles it is the nearest, at a tie the even one
abbrev pub SingleNearest : Type 0
SingleNearest = (d : ℕ) → Narrowed d (single_of d)

-- no double has two nearest singles
abbrev pub SingleUnique : Type 0
SingleUnique = (d s t : ℕ) → Narrowed d s → Narrowed d t → s ≡ t

-- a double not below the largest finite single, an infinity too, becomes that single with the sign
abbrev pub SingleSaturates : Type 0
SingleSaturates =
    (d : ℕ) → single_magnitude (single_infinity - 1) ≤ double_magnitude (double_body d)
    → single_of d ≡ double_sign d * 2 ^ 31 + (single_infinity - 1)

-- the computed single is always finite, and a pattern of four bytes
abbrev pub SingleFinite : Type 0
SingleFinite = (d : ℕ) → single_body (single_of d) < single_infinity

abbrev pub SingleFits : Type 0
SingleFits = (d : ℕ) → d < 2 ^ 64 → single_of d < 2 ^ 32

-- ---- the double of a single

-- the computed double has the sign and the magnitude of the single, an infinity stays one, and a NaN's fraction moves
-- up
abbrev pub DoubleExact : Type 0
DoubleExact = (s : ℕ) → Widened s (double_of s)

-- no single has two doubles of its own value
abbrev pub DoubleUnique : Type 0
DoubleUnique = (s c d : ℕ) → Widened s c → Widened s d → c ≡ d

-- the computed double is a pattern of eight bytes; and it is a NaN where the single is one, and nowhere else
abbrev pub DoubleFits : Type 0
DoubleFits = (s : ℕ) → s < 2 ^ 32 → double_of s < 2 ^ 64

abbrev pub DoubleNaN : Type 0
DoubleNaN = (s : ℕ) → is_nan (double_of s) ≡ is_single_nan s

-- ---- there and back

-- a finite single comes back from its double, an infinity as the largest finite single; so what was stored once is
-- stored the same again
abbrev pub SingleComesBack : Type 0
SingleComesBack = (s : ℕ) → single_body s < single_infinity → single_of (double_of s) ≡ s

abbrev pub InfinityComesBack : Type 0
InfinityComesBack =
    (s : ℕ) → single_body s ≡ single_infinity → single_of (double_of s) ≡ single_sign s * 2 ^ 31 + (single_infinity - 1)

abbrev pub StoredAgain : Type 0
StoredAgain = (d : ℕ) → single_of (double_of (single_of d)) ≡ single_of d
