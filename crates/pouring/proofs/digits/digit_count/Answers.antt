use mathlib.Core.Path.{◌≡◌, ap}
use Prim.Native.Nat.{◌+◌, ◌-◌}
use native.Mathlib.Omega.{arith}
use lib.ListN.{length, length-append}
use Rattle.shapes.proofs.BytesLaws.{digits_one, digits_more, digits_none}
use Rattle.pouring.proofs.digits.digit_count.Goals as goal

pub loop-count-init : goal.loop-count-init
loop-count-init c = let e : c.args.most - 0 ≡ c.args.most = omega arith in λ from. rw e (omega arith)

pub returns-then-left-base : goal.returns-then-left-base
returns-then-left-base c =
    let a = c.args in
    let l = c.loop-count in
    (omega arith, λ from. omega (arith, l.invariant from, ap length (digits_one a.base from (a.most - l.count) l.left c.if-left-base.true (omega arith))))

pub loop-count-preserved : goal.loop-count-preserved
loop-count-preserved c =
    let a = c.args in
    let l = c.loop-count in
    let e : a.most - l.count - 1 ≡ a.most - (l.count + 1) = omega arith in
    λ from. omega (arith, l.invariant from, simp (length-append, e) at (ap length (digits_more a.base from (a.most - l.count) l.left c.if-left-base.false (omega arith))))

pub returns : goal.returns
returns c =
    let a = c.args in
    let l = c.loop-count in
    (omega arith, λ from. omega (arith, l.invariant from, ap length (digits_none a.base from (a.most - l.count) l.left (omega arith))))
