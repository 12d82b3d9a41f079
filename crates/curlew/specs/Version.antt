-- The version of the library: 1,000 times its first part plus the second, as the C header has it
-- (CURLEW_VERSION_NUMBER).
use Rattle.std.specs.Prelude.{ℕ}

abbrev pub version : ℕ
version = 2001
