use mathlib.Core.Path.{◌≡◌, ap, ◌∙◌}
use mathlib.Core.List.{◌++◌, map}
use Prim.Native.Nat.{◌+◌, ◌*◌, ◌<◌}
use native.Mathlib.Omega.{arith}
use lib.ListN.{length, take, drop, length-set}
use Rattle.triangles.specs.Chain.{places_of}
use Rattle.triangles.specs.Mesh.{lowest_first}
use Rattle.sweep.specs.Sweep.{flat}
use Rattle.triangles.specs.Growth.{swept}
use Rattle.triangles.proofs.SweptLaws.{going_start, going-fits, going_next, next_read, next_length}
use Rattle.triangles.proofs.chain.sweep.Goals as goal

pub loop-q-init : goal.loop-q-init
loop-q-init c =
    let a = c.args in
    going_start (places_of a.x.now a.y.now) a.order.now a.triangles.now a.lo.now a.up.now (omega (arith, c.requires)) (omega (arith, c.requires)) (omega (arith, c.requires))

pub grow-grown-requires : goal.grow-grown-requires
grow-grown-requires c =
    let a = c.args in
    let l = c.loop-q in
    let g = l.invariant in
    let lo-same = l.auto.lo ∙ length-set a.lo.now 0 _ in
    let up_same = l.auto.up ∙ length-set a.up.now 0 _ in
    let more : l.q-index + 1 < a.n = omega (arith, c.loop-q-test.true, next_length a.order.now a.n c.requires.1) in
    let f = places_of a.x.now a.y.now in (
      omega (arith, g.a_below, lo-same, more, c.requires.2),
      omega (arith, g.b-below, up_same, more, c.requires.3),
      rw (next_read a.order.now a.n l.q-index more) (omega (arith, l.auto.triangles, going-fits f a.order.now a.n c.requires.0 c.requires.1 c.requires.5 g more c.requires.4)),
      c.requires.6,
      c.requires.7,
    )

pub loop-q-preserved : goal.loop-q-preserved
loop-q-preserved c =
    let a = c.args in
    let l = c.loop-q in
    let g = l.invariant in
    let lo-same = l.auto.lo ∙ length-set a.lo.now 0 _ in
    let up_same = l.auto.up ∙ length-set a.up.now 0 _ in
    let more : l.q-index + 1 < a.n = omega (arith, c.loop-q-test.true, next_length a.order.now a.n c.requires.1) in
    let w = rw (next_read a.order.now a.n l.q-index more) at c.grow-grown.ensures in
    going_next (places_of a.x.now a.y.now) a.order.now a.n c.requires.0 c.requires.1 c.requires.5 g more (omega (arith, lo-same, c.requires.2)) (omega (arith, up_same, c.requires.3)) c.requires.4 w

pub returns : goal.returns
returns c =
    let a = c.args in
    let l = c.loop-q in
    let f = places_of a.x.now a.y.now in
    let h = l.invariant.held in
    let all : l.q-index + 1 ≡ a.n = omega (arith, c.loop-q-test.false, l.auto.q-index-end, next_length a.order.now a.n c.requires.1, c.requires.0) in (
      h.count ∙ ap (λ m. length (swept f (take m a.order.now)).tris) all,
      h.room_is ∙ ap (λ m. flat (map lowest_first (swept f (take m a.order.now)).tris) ++ drop (3 * l.grown.k) a.triangles.now) all,
    )
