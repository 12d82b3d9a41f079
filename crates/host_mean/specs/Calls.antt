-- The mean of the marked legs for a C host (02, M-104; 01, Slot tables). THE EFFECT OF A CALL is `curlew_mean`, at the
-- end.
use Rattle.std.specs.Prelude.{ℕ, ◌+◌, ◌*◌, ◌≡◌, List, [], ◌∷◌, ◌++◌, Float, Option, None, Some}
use Rattle.std.specs.Float.{binary64}
use Rattle.std.specs.Float.Ieee.{to_bits}
use Rattle.layout.specs.declared.Refusal.TheVariants.{BadSize}
use Rattle.layout.specs.Refusals.{number_of}
use Rattle.record.specs.Bytes.{number_bytes}
use Rattle.record.specs.Table.{integer_size}
use Rattle.record.specs.Packing.{refusal}
use Rattle.mean.specs.declared.marks.Marks.{Marks}
use Rattle.mean.specs.Mean.{mean}
use Rattle.host.specs.Numbers.{number_size, numbers_in, numbers_bytes}
use Rattle.host.specs.Host.{guarded}

-- ---- the reply

-- 1 where a mean follows, 0 where no leg is marked
abbrev pub follows : Option Float → ℕ
follows None = 0
follows (Some x) = 1

-- the bit pattern of a mean; 0 where there is none
unfoldable pub pattern : Option Float → ℕ
unfolding to_bits
pattern None = 0
pattern (Some x) = to_bits binary64 x

-- the answer's three numbers, whether a mean follows, and the bytes of its pattern
unfoldable pub mean_reply : Marks → List ℕ
unfolding numbers_bytes number_bytes pattern
mean_reply r =
    numbers_bytes (r.answer.number ∷ r.answer.first ∷ r.answer.second ∷ follows r.mean ∷ [])
    ++ number_bytes integer_size (pattern r.mean)

abbrev pub mean_reply_size : ℕ
mean_reply_size = number_size * 4 + integer_size

-- ---- the call

-- all that a call leaves: the number that it returns, and every byte of the reply
pub record MeanCall : Type 0 where
  pub returned : ℕ
  pub reply : List ℕ

-- what the call on numbers answers, as a C host sees it
unfoldable pub mean_call : Marks → MeanCall
unfolding mean_reply
mean_call r = record { returned = r.answer.number; reply = mean_reply r }

unfoldable pub curlew_mean : List ℕ → List ℕ → List ℕ → MeanCall
unfolding mean_call numbers_in mean
curlew_mean slots area reply =
    guarded mean_reply_size reply slots
    (record { returned = number_of BadSize; reply = reply })
    (mean_call (record { answer = refusal BadSize 0; mean = None }))
    (mean_call (mean (numbers_in slots) area))

-- what a call promises that returned r; and what it promises where the reply is written and the slots are whole
abbrev pub HostMeans : List ℕ → List ℕ → List ℕ → List ℕ → ℕ → Type 0
HostMeans slots area reply reply' r =
    record { returned = r; reply = reply' } ≡ curlew_mean slots area reply

abbrev pub MeanServed : List ℕ → List ℕ → List ℕ → List ℕ → ℕ → Type 0
MeanServed slots area reply reply' r =
    record { returned = r; reply = reply' } ≡ mean_call (mean (numbers_in slots) area)
