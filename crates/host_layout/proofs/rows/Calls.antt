-- What each way out of the call leaves is what the definition gives.
use Prim.Native.Nat.{ℕ}
use mathlib.Core.Path.{◌≡◌}
use mathlib.Core.Bool.{true, false}
use mathlib.Core.List.{List}
use lib.Dec.{eqb}
use lib.ListN.{length}
use Rattle.layout.specs.declared.Refusal.TheVariants.{BadSize}
use Rattle.layout.specs.Refusals.{number_of}
use Rattle.record.specs.declared.Answer.{Answer}
use Rattle.host.specs.Host.{reply_size, reply_of}
use Rattle.host.proofs.Calls.{pack-replied}
use Rattle.describe.specs.Rows.{listed}
use Rattle.host_layout.specs.Fields.{curlew_fields}

module _ (layout output reply : List ℕ) where
  pub unwritten : eqb (length reply) reply_size ≡ false → record { returned = number_of BadSize; output = output; reply = reply } ≡ curlew_fields layout output reply
  unfolding curlew_fields
  unwritten h = rw h

  pub replied : {output' reply' : List ℕ} {a : Answer} {r : ℕ} → eqb (length reply) reply_size ≡ true → record { answer = a; output = output' } ≡ listed layout output
      → (r ≡ a.number) × (reply' ≡ reply_of a)
      → record { returned = r; output = output'; reply = reply' } ≡ curlew_fields layout output reply
  unfolding curlew_fields
  replied h p q = rw h (pack-replied q p)
