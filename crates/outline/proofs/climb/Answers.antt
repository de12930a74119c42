use mathlib.Core.Path.{◌≡◌, ◌∙◌}
use Prim.Native.Nat.{◌+◌, ◌<◌}
use native.Mathlib.Omega.{arith}
use lib.ListN.{length-set}
use Rattle.triangles.specs.Chain.{places_of}
use Rattle.triangles.proofs.SweptLaws.{next_read, next_length}
use Rattle.outline.proofs.ClimbLaws.{climb-start, climb-next, climbed}
use Rattle.outline.proofs.climb.Goals as goal

pub loop-q-init : goal.loop-q-init
loop-q-init c =
    let a = c.args in
    climb-start (places_of a.x.now a.y.now) a.upper a.order.now a.chain.now (omega (arith, c.requires)) (omega (arith, c.requires))

pub left_of-j-requires : goal.left_of-j-requires
left_of-j-requires c =
    let a = c.args in
    let l = c.loop-q in
    let same = l.auto.chain ∙ length-set a.chain.now 0 _ in
    let more : l.q-index + 1 < a.n = omega (arith, c.loop-q-test.true, next_length a.order.now a.n c.requires.1) in
    (omega (arith, l.invariant.below, same, more, c.requires.2), c.requires.3, c.requires.4)

pub bounds-chain-j : goal.bounds-chain-j
bounds-chain-j c =
    let a = c.args in
    let l = c.loop-q in
    let same = l.auto.chain ∙ length-set a.chain.now 0 _ in
    let more : l.q-index + 1 < a.n = omega (arith, c.loop-q-test.true, next_length a.order.now a.n c.requires.1) in
    omega (arith, l.invariant.below, same, c.left_of-j.ensures.1, more, c.requires.2)

pub loop-q-preserved : goal.loop-q-preserved
loop-q-preserved c =
    let a = c.args in
    let l = c.loop-q in
    let f = places_of a.x.now a.y.now in
    let same = l.auto.chain ∙ length-set a.chain.now 0 _ in
    let more : l.q-index + 1 < a.n = omega (arith, c.loop-q-test.true, next_length a.order.now a.n c.requires.1) in
    let read = next_read a.order.now a.n l.q-index more in
    let e = rw read at c.left_of-j.ensures.0 in
    rw read
    (climb-next f a.upper a.order.now l.invariant (omega (arith, more, c.requires.1)) (omega (arith, more, same, c.requires.2)) e)

pub returns : goal.returns
returns c =
    let a = c.args in
    let l = c.loop-q in
    let all : l.q-index + 1 ≡ a.n = omega (arith, c.loop-q-test.false, l.auto.q-index-end, next_length a.order.now a.n c.requires.1, c.requires.0) in
    climbed (places_of a.x.now a.y.now) a.upper a.order.now a.n c.requires.1 all l.invariant
