use mathlib.Core.Path.{◌≡◌, refl, sym, ap, ◌∙◌}
use mathlib.Core.List.{List}
use Prim.Native.Nat.{ℕ, suc, ◌+◌, ◌-◌, ◌/◌, ◌%◌, ◌<◌}
use native.Mathlib.Omega.{arith}
use lib.ListN.{set}
use Rattle.pouring.specs.Poured.{poured, low}
use Rattle.pouring.proofs.PouredLaws.{poured_none, poured_last}
use Rattle.pouring.proofs.LowLaws.{low-length}
use Rattle.pouring.proofs.digits.put_low.Goals as goal

-- The last of j digits is put.
last-put : (base from : ℕ) (out : List ℕ) (at j n : ℕ) → 0 < j
    → poured (set out (at + (j - 1)) (from + n % base)) at (low base from (j - 1) (n / base)) ≡ poured out at (low base from j n)
unfolding low
last-put base from out at j n h =
    let l = low base from (j - 1) (n / base) in
    let e : suc (j - 1) ≡ j = omega arith in
    rw low-length at (sym (poured_last out at l (from + n % base))) ∙ ap (λ (k : ℕ). poured out at (low base from k n)) e

pub loop-j-init : goal.loop-j-init
loop-j-init c = refl

pub loop-j-preserved : goal.loop-j-preserved
loop-j-preserved c =
    let a = c.args in
    let l = c.loop-j in
    last-put a.base a.from l.out a.at l.j l.left c.loop-j-test.true ∙ l.invariant

pub returns : goal.returns
unfolding low
returns c =
    let l = c.loop-j in
    let e : l.j ≡ 0 = omega arith in
    sym (poured_none l.out _) ∙ rw e at l.invariant
