-- What each way out of the call leaves is what the definition gives.
use Prim.Native.Nat.{ℕ}
use mathlib.Core.Path.{◌≡◌}
use mathlib.Core.Bool.{true, false}
use mathlib.Core.List.{List}
use lib.Dec.{eqb}
use lib.ListN.{length}
use Rattle.layout.specs.declared.Refusal.TheVariants.{BadSize}
use Rattle.layout.specs.Refusals.{number_of}
use Rattle.record.specs.declared.Answer.{Answer}
use Rattle.host.specs.Host.{reply_size, reply_of}
use Rattle.describe.specs.Description.{described}
use Rattle.host_layout.specs.Layouts.{layout_call, curlew_layout}

module _ (layout reply : List ℕ) where
  pub unwritten : eqb (length reply) reply_size ≡ false → record { returned = number_of BadSize; reply = reply } ≡ curlew_layout layout reply
  unfolding curlew_layout
  unwritten h = rw h

  pub replied : {reply' : List ℕ} {a : Answer} {r : ℕ} → eqb (length reply) reply_size ≡ true → a ≡ described layout → (r ≡ a.number) × (reply' ≡ reply_of a)
      → record { returned = r; reply = reply' } ≡ curlew_layout layout reply
  unfolding curlew_layout layout_call
  replied h p q = rw (h, ← p, q.0, q.1)
