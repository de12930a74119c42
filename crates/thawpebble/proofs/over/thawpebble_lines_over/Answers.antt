-- `thawpebble_lines_over` meets its contract: there are few lines and few vertices. Assumes nothing.
use mathlib.Core.Path.{sym, ap, ◌∙◌}
use Prim.Native.Nat.{◌<◌}
use native.Mathlib.Omega.{arith}
use lib.ListN.{length}
use mir.Facts.{to_z-of_z}
use Rattle.survey.specs.Survey.{survey}
use Rattle.survey.specs.declared.answers.Drawn.{Drawn}
use Rattle.woven.specs.Accepted.{supplied_in, checked_over}
use Rattle.woven.proofs.AcceptedLaws.{passed-mesh}
use Rattle.lines.specs.Job.{lengths, is_off}
use Rattle.lines.proofs.JobLaws.{done-few}
use Rattle.lines_over.specs.Job.{drawn_on}
use Rattle.thawpebble.proofs.AnswerLaws.{if_ok}
use Rattle.thawpebble.proofs.over.thawpebble_lines_over.Goals as goal

pub tell_lines-requires : goal.tell_lines-requires
tell_lines-requires c =
    let a = c.args in
    let s = survey a.x.now a.y.now a.z.now in
    let l = a.triangles.now in
    let room = lengths (length a.vx.now) (length a.vy.now) (length a.records.now) (length a.slopes.now) (length a.work.now) in
    let r = c.lines_over-answer.ensures.answer ∙ ap (λ z. drawn_on s l z a.style room) (to_z-of_z c.ranges.level) in
    if_ok (λ (d : Drawn). (d.lines < 4294967296) × (d.vertices < 4294967296)) c.lines_over-answer.result
    (λ d e.
    let few = done-few s (supplied_in l) (is_off a.level a.style) a.level a.style room (checked_over s l)
    (λ p. let m = passed-mesh s l p in (m.0, m.2)) d.lines d.vertices (sym r ∙ e) in
    (omega (arith, few.0), omega (arith, few.1)))
