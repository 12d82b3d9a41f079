-- The answer where the second table is not served, by what the check of the first reading says.
use Rattle.std.specs.Prelude.{List, ℕ, ◌≡◌, eqb, if◌then◌else◌}
use Rattle.layout.specs.declared.Refusal.TheVariants.{BadSize}
use Rattle.record.specs.declared.Answer.{Answer}
use Rattle.record.specs.Packing.{refusal}
use Rattle.reader.specs.inside.Checks.{read_checked}
use Rattle.host.specs.Host.{reply_of}

abbrev pub second_cut : Answer → Answer
second_cut a = if eqb a.number 0 then refusal BadSize 0 else a

-- the answer `second_cut` is returned as r, and written into the reply
abbrev pub SecondRefused : List ℕ → List ℕ → List ℕ → List ℕ → List ℕ → List ℕ → ℕ → Type 0
SecondRefused layout first slots area reply reply' r =
    let a = second_cut (read_checked layout first slots area 0) in
    (r ≡ a.number) × (reply' ≡ reply_of a)
