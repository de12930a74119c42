-- `runs_of` meets its contract: the steps from each corner to the next. Assumes nothing.
use mathlib.Core.Path.{ap, ◌∙◌}
use native.Mathlib.Omega.{arith}
use Rattle.hull.specs.MeshOf.{runs}
use Rattle.conditions.proofs.side.runs_of.Goals as goal

pub returns : goal.returns
returns c =
    let a = c.args in (
      omega (arith, c.step_is.ensures.0, c.step_is-2.ensures.0, c.step_is-3.ensures.0)
          ∙ ap (runs a.i a.j) c.corners_at-t.ensures,
      omega (arith, c.step_is.ensures.1, c.step_is-2.ensures.1, c.step_is-3.ensures.1),
    )
