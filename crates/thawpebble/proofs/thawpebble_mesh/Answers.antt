-- `thawpebble_mesh` meets its contract: a mesh has few triangles. Assumes nothing.
use mathlib.Core.Path.{sym, ◌∙◌}
use Prim.Native.Nat.{ℕ, ◌<◌}
use native.Mathlib.Omega.{arith}
use lib.ListN.{length}
use Rattle.survey.specs.Survey.{survey}
use Rattle.mesh.proofs.JobLaws.{done-few}
use Rattle.thawpebble.proofs.AnswerLaws.{if_ok}
use Rattle.thawpebble.proofs.thawpebble_mesh.Goals as goal

pub tell_count-requires : goal.tell_count-requires
tell_count-requires c =
    let a = c.args in
    if_ok (λ (n : ℕ). n < 4294967296) c.mesh.result
    (λ n e.
    omega (arith, done-few (survey a.x.now a.y.now a.z.now) a.kind (length a.triangles.now) (length a.work.now) n (sym c.mesh.ensures.0 ∙ e)))
