use mathlib.Core.Path.{◌≡◌, refl, ap, ◌∙◌}
use native.Mathlib.Omega.{arith}
use Rattle.neighbours.specs.Room.{threes}
use Rattle.hull.specs.MeshOf.{runs_in}
use Rattle.sweep.specs.Members.{total}
use Rattle.conditions.proofs.TriangleLaws.{runs-next}
use Rattle.conditions.proofs.side.runs_in.Goals as goal

pub loop-k-init : goal.loop-k-init
unfolding threes total
loop-k-init c = (refl, omega arith)

pub loop-k-preserved : goal.loop-k-preserved
loop-k-preserved c =
    let a = c.args in
    let l = c.loop-k in
    let r = c.runs_of-sum.ensures in
    (omega (arith, l.invariant.0, r.0, runs-next a.i a.j l.k a.triangles.now), omega (arith, l.invariant.1, r.1))

pub returns : goal.returns
returns c =
    let a = c.args in
    let l = c.loop-k in
    let e : l.k ≡ a.t = omega arith in
    l.invariant.0 ∙ ap (λ k. runs_in a.i a.j (threes k a.triangles.now)) e
