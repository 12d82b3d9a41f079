-- Perl templates for a C host (document 02, M-105; document 01, Slot tables). THE EFFECT OF A CALL is `curlew_from_perl`.
use Rattle.std.specs.Prelude.{ℕ, ◌≡◌, List, eqb, length, if◌then◌else◌}
use Rattle.layout.specs.declared.Refusal.TheVariants.{BadSize}
use Rattle.layout.specs.Refusals.{number_of}
use Rattle.host.specs.Host.{reply_size, reply_of}
use Rattle.perl.specs.Conversion.{Converted, from_perl}

-- all that a call leaves: the number that it returns, every byte of the layout's buffer, and every byte of the reply
pub record PerlCall : Type 0 where
  pub returned : ℕ
  pub layout : List ℕ
  pub reply : List ℕ

-- what the call leaves, as a C host sees it
unfoldable pub perl_call : Converted → PerlCall
unfolding reply_of
perl_call c = record { returned = c.answer.number; layout = c.layout; reply = reply_of c.answer }

-- the call; a reply of another size than the call's own: nothing is written
unfoldable pub curlew_from_perl : List ℕ → List ℕ → List ℕ → PerlCall
unfolding perl_call from_perl
curlew_from_perl template layout reply =
    if eqb (length reply) reply_size then perl_call (from_perl template layout)
    else record { returned = number_of BadSize; layout = layout; reply = reply }

-- what a call promises that returned r
abbrev pub HostConverts : List ℕ → List ℕ → List ℕ → List ℕ → List ℕ → ℕ → Type 0
HostConverts template layout layout' reply reply' r =
    record { returned = r; layout = layout'; reply = reply' }
    ≡ curlew_from_perl template layout reply
