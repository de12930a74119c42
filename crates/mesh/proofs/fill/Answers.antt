-- `fill` meets its contract: the triangles of the sweep, with their sides swapped and listed where the kind asks for it. Assumes nothing.
use mathlib.Core.Path.{sym, ap, ◌∙◌}
use native.Mathlib.Omega.{arith}
use Rattle.survey.specs.Survey.{survey}
use Prim.Native.Nat.{◌*◌}
use lib.ListN.{length, take}
use lib.Seq.{take_at}
use Rattle.sweep.specs.Sweep.{flat}
use Rattle.triangles.specs.Mesh.{triangles}
use Rattle.neighbours.proofs.RoomLaws.{length-flat}
use Rattle.hull.proofs.MeshOfLaws.{mesh_of}
use Rattle.fatter.specs.Fatter.{fatter}
use Rattle.fatter.proofs.FatterLaws.{fatter-count}
use Rattle.mesh.proofs.KindLaws.{kind-old, kind-new}
use Rattle.mesh.proofs.SwapLaws.{swept-threes, swept-mesh, triangles-few, listed-front}
use Rattle.mesh.proofs.fill.Goals as goal

pub swap_sides-requires : goal.swap_sides-requires
swap_sides-requires c =
    let v = survey c.args.x.now c.args.y.now c.args.z.now in
    let w = c.fill-t in
    (c.requires.0, swept-mesh v c.requires.0 _ _ w.ensures.0 w.ensures.1, omega (arith, c.requires.1, w.auto.room))

pub list-requires : goal.list-requires
list-requires c =
    let v = survey c.args.x.now c.args.y.now c.args.z.now in
    let w = c.fill-t in
    let few = triangles-few v c.requires.0 _ _ (swept-mesh v c.requires.0 _ _ w.ensures.0 w.ensures.1) in
    (few.1, omega (arith, few.2, c.requires.1, w.auto.room, c.swap_sides.auto.room))

pub returns-then-kind-ne0 : goal.returns-then-kind-ne0
returns-then-kind-ne0 c =
    let v = survey c.args.x.now c.args.y.now c.args.z.now in
    let w = c.fill-t in
    let new = kind-new v c.if-kind-ne0.true in
    let same = swept-threes v c.requires.0 _ _ w.ensures.0 w.ensures.1 in (
      w.ensures.0 ∙ sym (fatter-count v c.requires.0 (triangles v) (mesh_of v c.requires.0)) ∙ ap length (sym new),
      listed-front v w.result _ _ c.swap_sides.ensures c.list.ensures ∙ ap (λ ts. flat (fatter v ts)) same ∙ ap flat (sym new),
    )

pub returns-else-kind-ne0 : goal.returns-else-kind-ne0
returns-else-kind-ne0 c =
    let v = survey c.args.x.now c.args.y.now c.args.z.now in
    let w = c.fill-t in
    let old = kind-old v c.if-kind-ne0.false in
    let long = length-flat (triangles v) ∙ ap (λ k. 3 * k) (sym w.ensures.0) in (
      w.ensures.0 ∙ ap length (sym old),
      ap (take (3 * w.result)) w.ensures.1 ∙ take_at (flat (triangles v)) _ (3 * w.result) long ∙ ap flat (sym old),
    )
