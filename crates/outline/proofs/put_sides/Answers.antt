use Rattle.outline.proofs.WrittenLaws.{written_none, written-more}
use mathlib.Core.Path.{◌≡◌, ap, ◌∙◌}
use Prim.Native.Nat.{◌+◌}
use native.Mathlib.Omega.{arith}
use Rattle.outline.specs.Outline.{sides_on, written}
use Rattle.outline.proofs.put_sides.Goals as goal

pub loop-k-init : goal.loop-k-init
loop-k-init c =
    let a = c.args in
    written_none a.upper a.chain.now a.next.now

pub put_side-requires : goal.put_side-requires
put_side-requires c =
    let l = c.loop-k in
    let within = c.requires.1 in
    (omega (arith, c.requires.0), omega (arith, l.auto.next, within l.k (omega arith)), omega (arith, l.auto.next, within (l.k + 1) (omega arith)))

pub loop-k-preserved : goal.loop-k-preserved
loop-k-preserved c =
    let a = c.args in
    let l = c.loop-k in
    written-more a.upper a.chain.now a.next.now l.k l.invariant c.put_side.ensures

pub returns : goal.returns
returns c =
    let a = c.args in
    let l = c.loop-k in
    let e : l.k ≡ a.a = omega arith in
    l.invariant ∙ ap (λ k. written (sides_on a.upper a.chain.now k) a.next.now) e
