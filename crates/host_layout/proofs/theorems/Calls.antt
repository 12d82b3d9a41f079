-- What each way out of the calls leaves is what the definition gives.
use Prim.Native.Nat.{ℕ}
use mathlib.Core.Path.{◌≡◌}
use mathlib.Core.Bool.{true, false}
use mathlib.Core.List.{List}
use lib.Dec.{eqb}
use lib.ListN.{length}
use Rattle.layout.specs.declared.Refusal.TheVariants.{BadSize}
use Rattle.layout.specs.Refusals.{number_of}
use Rattle.host.specs.Host.{long_reply_size, long_reply}
use Rattle.promises.specs.declared.Told.{Told}
use Rattle.host_layout.specs.Theorems.{told_call}

module _ (t : Told) (reply : List ℕ) where
  pub unwritten : eqb (length reply) long_reply_size ≡ false → record { returned = number_of BadSize; reply = reply } ≡ told_call t reply
  unfolding told_call
  unwritten h = rw h

  pub replied : {reply' : List ℕ} {s : Told} {r : ℕ} → eqb (length reply) long_reply_size ≡ true → s ≡ t → (r ≡ s.answer.number) × (reply' ≡ long_reply s.answer s.fourth)
      → record { returned = r; reply = reply' } ≡ told_call t reply
  unfolding told_call
  replied h p q = rw (h, ← p, q.0, q.1)
