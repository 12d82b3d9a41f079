-- What each way out of the call leaves is what the definition gives.
use Prim.Native.Nat.{ℕ}
use mathlib.Core.Path.{◌≡◌}
use mathlib.Core.Bool.{true, false}
use mathlib.Core.List.{List}
use lib.Dec.{eqb}
use lib.ListN.{length}
use Rattle.layout.specs.declared.Refusal.TheVariants.{BadSize}
use Rattle.layout.specs.Refusals.{number_of}
use Rattle.record.specs.declared.Answer.{Answer}
use Rattle.host.specs.Host.{reply_size, reply_of}
use Rattle.perl.specs.Conversion.{from_perl}
use Rattle.host_layout.specs.Templates.{perl_call, curlew_from_perl}

module _ (template layout reply : List ℕ) where
  pub unwritten : eqb (length reply) reply_size ≡ false → record { returned = number_of BadSize; layout = layout; reply = reply } ≡ curlew_from_perl template layout reply
  unfolding curlew_from_perl
  unwritten h = rw h

  pub replied : {layout' reply' : List ℕ} {a : Answer} {r : ℕ} → eqb (length reply) reply_size ≡ true
      → record { answer = a; layout = layout' } ≡ from_perl template layout → (r ≡ a.number) × (reply' ≡ reply_of a)
      → record { returned = r; layout = layout'; reply = reply' } ≡ curlew_from_perl template layout reply
  unfolding curlew_from_perl perl_call
  replied h p q = rw (h, ← p, q.0, q.1)
