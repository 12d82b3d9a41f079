-- What a refusal leaves of a run that was lent, and what an accepted comparison.
use Prim.Native.Nat.{ℕ}
use mathlib.Core.Path.{◌≡◌}
use mathlib.Core.List.{List}
use borrow.Author.Tests.{eq-eqb, ne_eqb}
use Rattle.record.specs.declared.Answer.{Answer}
use Rattle.record.specs.Bytes.{store_at}
use Rattle.host_compare.specs.inside.report.{put_back}

module _ (a : Answer) (lent bytes : List ℕ) where
  pub left_back : (a.number ≡ 0 → ⊥) → lent ≡ put_back a lent bytes
  unfolding put_back
  left_back h = rw (ne_eqb a.number 0 h)

  pub set_back : {lent' : List ℕ} → a.number ≡ 0 → lent' ≡ store_at lent 0 bytes → lent' ≡ put_back a lent bytes
  unfolding put_back
  set_back h e = rw (eq-eqb a.number 0 h) e
