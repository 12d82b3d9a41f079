-- What code that packs in place goes by: the cursor stays within what is reached, the length is the highest position,
-- and a store in the lent buffer is a store of the run.
use Prim.Native.Nat.{ℕ, ◌+◌, ◌-◌, ◌≤◌, ◌<◌, max}
use native.Mathlib.Omega.{arith}
use mathlib.Core.Path.{◌≡◌, sym, ap, ◌∙◌}
use mathlib.Core.List.{List, ◌++◌, append-nil, append_assoc}
use lib.ListN.{length, take, drop, replicate, length-append, length-replicate, length-take, length-drop, drop_of_length-le}
use lib.Seq.{take-append-le, drop-append-le, drop-append-add, drop-drop}
use Rattle.layout.specs.declared.Role.{Role}
use Rattle.layout.specs.declared.Role.TheVariants.{Data, Move}
use Rattle.layout.specs.declared.Motion.TheVariants.{Skip, Back, Goto}
use Rattle.layout.specs.declared.Count.{Count}
use Rattle.layout.specs.declared.Count.TheVariants.{Absent, Star, Times}
use Rattle.layout.specs.inside.Parsing.{FitCount}
use Rattle.record.specs.Geometry.{goto_in, amount}
use Rattle.record.specs.Packing.{stored, Run, store, pack_one, goto}
use Rattle.record.specs.inside.Cursor.{cursor_of}
use Rattle.record.proofs.Fields.{split}

-- a count that a code holds asks for few more than there are
pub amount-small : (n : Count) (all : ℕ) → FitCount n → amount n all < 8388608 + all
amount-small Absent all h = omega arith
amount-small Star all h = omega arith
amount-small (Times n) all h = omega arith

abbrev pub Within : Run → Type 0
Within r = r.at ≤ length r.out

pub length-store : (r : Run) (bs : List ℕ) → Within r → length (store r bs).out ≡ max (length r.out) (r.at + length bs)
length-store r bs h = simp (length-append, length-take, length-drop) (omega arith)

store-within : (r : Run) (bs : List ℕ) → Within r → Within (store r bs)
store-within r bs h = rw (length-store r bs h) (omega arith)

goto-within : (r : Run) (n : Count) → Within (goto r n)
goto-within r n = rw (length-append, length-replicate) (omega arith)

-- the cursor is never past the bytes reached
pub pack-within : (r : Run) (k : Role) (n : Count) (xs : List ℕ) → Within r → Within (pack_one r k n xs)
unfolding pack_one
pack-within r (Data s) n xs h = store-within r (stored s (amount n (length xs)) xs) h
pack-within r (Move Skip) n xs h = store-within r (replicate (amount n 0) 0) h
pack-within r (Move Back) n xs h = omega arith
pack-within r (Move Goto) n xs h = goto-within r n

-- the result is as long as the highest position
pub pack-length : (r : Run) (k : Role) (n : Count) (xs : List ℕ) → Within r → length (pack_one r k n xs).out ≡ max (length r.out) (pack_one r k n xs).at
unfolding pack_one
pack-length r (Data s) n xs h = length-store r (stored s (amount n (length xs)) xs) h
pack-length r (Move Skip) n xs h = length-store r (replicate (amount n 0) 0) h
pack-length r (Move Back) n xs h = omega arith
pack-length r (Move Goto) n xs h = rw (length-append, length-replicate) (omega arith)

-- ---- the code's cursor makes the run's moves

pub cursor-store : (r : Run) (bs : List ℕ) → Within r
    → cursor_of (store r bs) ≡ record { at = r.at + length bs; end = max (length r.out) (r.at + length bs) }
cursor-store r bs h = ap (λ (e : ℕ). record { at = r.at + length bs; end = e }) (length-store r bs h)

pub cursor-goto : (r : Run) (n : Count)
    → cursor_of (goto r n) ≡ record { at = goto_in (length r.out) n; end = max (length r.out) (goto_in (length r.out) n) }
cursor-goto r n =
    let e : length (goto r n).out ≡ max (length r.out) (goto_in (length r.out) n) = rw (length-append, length-replicate) (omega arith) in
    ap (λ (e : ℕ). record { at = goto_in (length r.out) n; end = e }) e

-- ---- the lent buffer holds the bytes reached, and after them what was lent
abbrev pub held : Run → List ℕ → List ℕ
held r lent = r.out ++ drop (length r.out) lent

pub store-held : (r : Run) (bs lent : List ℕ) → Within r
    → take r.at (held r lent) ++ bs ++ drop (r.at + length bs) (held r lent) ≡ held (store r bs) lent
store-held r bs lent h =
    let out : List ℕ = r.out in
    let end : ℕ = r.at + length bs in
    let old : List ℕ = drop (length out) lent in
    let len : length (store r bs).out ≡ max (length out) end = length-store r bs h in
    ap (λ (x : List ℕ). x ++ bs ++ drop end (out ++ old)) (take-append-le r.at out old h)
    ∙ split end (length out)
    (λ (k : end ≤ length out).
    let same : length (store r bs).out ≡ length out = omega arith in
    ap (λ (x : List ℕ). take r.at out ++ bs ++ x) (drop-append-le end out old k)
    ∙ sym (append_assoc (take r.at out ++ bs) (drop end out) old)
    ∙ ap (λ (n : ℕ). (store r bs).out ++ drop n lent) (sym same))
    (λ (k : length out < end).
    let more : length (store r bs).out ≡ end = omega arith in
    let past : end ≡ length out + (end - length out) = omega arith in
    ap (λ (x : List ℕ). take r.at out ++ bs ++ x)
    (ap (λ (n : ℕ). drop n (out ++ old)) past ∙ drop-append-add out old (end - length out) ∙ drop-drop (end - length out) (length out) lent ∙ ap (λ (n : ℕ). drop n lent) (sym past))
    ∙ ap (λ (x : List ℕ). x ++ drop end lent) (sym (append-nil (take r.at out ++ bs)) ∙ ap (λ (x : List ℕ). take r.at out ++ bs ++ x) (sym (drop_of_length-le out {i = end} (omega arith))))
    ∙ ap (λ (n : ℕ). (store r bs).out ++ drop n lent) (sym more))
