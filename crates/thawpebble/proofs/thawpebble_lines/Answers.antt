-- `thawpebble_lines` meets its contract: there are few lines and few vertices. Assumes nothing.
use mathlib.Core.Path.{sym, ap, ◌∙◌}
use Prim.Native.Nat.{◌<◌}
use native.Mathlib.Omega.{arith}
use lib.ListN.{length}
use mir.Facts.{to_z-of_z}
use Rattle.survey.specs.Checks.{checked}
use Rattle.survey.specs.Survey.{survey}
use Rattle.survey.specs.declared.answers.Drawn.{Drawn}
use Rattle.survey.proofs.FitLaws.{passed-fit}
use Rattle.mesh.specs.Kinds.{triangles_of}
use Rattle.mesh.proofs.KindLaws.{kind-mesh}
use Rattle.lines.specs.Job.{lengths, is_wrong, drawn}
use Rattle.lines.proofs.JobLaws.{done-few}
use Rattle.thawpebble.proofs.AnswerLaws.{if_ok}
use Rattle.thawpebble.proofs.thawpebble_lines.Goals as goal

pub tell_lines-requires : goal.tell_lines-requires
tell_lines-requires c =
    let a = c.args in
    let s = survey a.x.now a.y.now a.z.now in
    let room = lengths (length a.vx.now) (length a.vy.now) (length a.records.now) (length a.slopes.now) (length a.work.now) in
    let r = c.lines-answer.ensures.answer ∙ ap (λ z. drawn s a.kind z a.style room) (to_z-of_z c.ranges.level) in
    if_ok (λ (d : Drawn). (d.lines < 4294967296) × (d.vertices < 4294967296)) c.lines-answer.result
    (λ d e.
    let few = done-few s (triangles_of a.kind s) (is_wrong a.kind a.level a.style) a.level a.style room (checked s)
    (λ p. let f = passed-fit s p in (f, kind-mesh a.kind s f)) d.lines d.vertices (sym r ∙ e) in
    (omega (arith, few.0), omega (arith, few.1)))
