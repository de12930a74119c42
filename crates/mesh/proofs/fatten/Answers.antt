-- `fatten` meets its contract: the sweep, the swaps, the list by three numbers, and its copy. Assumes nothing.
use mathlib.Core.Path.{sym, ap, ◌∙◌}
use native.Mathlib.Omega.{arith}
use Rattle.survey.specs.Survey.{survey}
use mathlib.Core.List.{◌++◌}
use Prim.Native.Nat.{◌*◌}
use lib.ListN.{drop}
use Rattle.sweep.specs.Sweep.{flat}
use Rattle.triangles.specs.Mesh.{triangles}
use Rattle.hull.proofs.MeshOfLaws.{mesh_of}
use Rattle.hull.proofs.SoundLaws.{mesh-triangles-fit}
use Rattle.fatter.specs.Fatter.{fatter}
use Rattle.fatter.proofs.FatterLaws.{fatter-count}
use Rattle.mesh.proofs.SwapLaws.{swept-threes, swept-mesh, triangles-few, listed-front}
use Rattle.mesh.proofs.fatten.Goals as goal

pub fill-t-requires : goal.fill-t-requires
fill-t-requires c = (c.requires.0, omega (arith, c.requires.0.least, c.requires.1))

pub swap_sides-requires : goal.swap_sides-requires
swap_sides-requires c =
    let v = survey c.args.x.now c.args.y.now c.args.z.now in
    let w = c.fill-t in
    (c.requires.0, swept-mesh v c.requires.0 _ _ w.ensures.0 w.ensures.1, omega (arith, c.requires.1, w.auto.room))

pub list-requires : goal.list-requires
list-requires c =
    let v = survey c.args.x.now c.args.y.now c.args.z.now in
    let w = c.fill-t in
    let few = triangles-few v c.requires.0 _ _ (swept-mesh v c.requires.0 _ _ w.ensures.0 w.ensures.1) in
    (few.1, omega (arith, few.2, c.requires.1, w.auto.room, c.swap_sides.auto.room))

pub overflow_mul-t : goal.overflow_mul-t
overflow_mul-t c =
    let v = survey c.args.x.now c.args.y.now c.args.z.now in
    let w = c.fill-t in
    omega (arith, (triangles-few v c.requires.0 _ _ (swept-mesh v c.requires.0 _ _ w.ensures.0 w.ensures.1)).1)

pub copy-requires : goal.copy-requires
copy-requires c =
    let v = survey c.args.x.now c.args.y.now c.args.z.now in
    let w = c.fill-t in
    let few = triangles-few v c.requires.0 _ _ (swept-mesh v c.requires.0 _ _ w.ensures.0 w.ensures.1) in (
      omega (arith, few.2, c.requires.1, w.auto.room, c.swap_sides.auto.room, c.list.auto.room),
      omega (arith, c.requires.2, w.ensures.0, mesh-triangles-fit v c.requires.0 (triangles v) (mesh_of v c.requires.0)),
    )

pub returns : goal.returns
returns c =
    let v = survey c.args.x.now c.args.y.now c.args.z.now in
    let w = c.fill-t in
    let same = swept-threes v c.requires.0 _ _ w.ensures.0 w.ensures.1 in
    let front = listed-front v w.result _ _ c.swap_sides.ensures c.list.ensures in (
      w.ensures.0 ∙ sym (fatter-count v c.requires.0 (triangles v) (mesh_of v c.requires.0)),
      c.copy.ensures ∙ ap (λ l. l ++ drop (3 * w.result) c.args.triangles.now) (front ∙ ap (λ ts. flat (fatter v ts)) same),
    )
