-- `height` meets its contract: each test is one case of `heighted`, and a survey that passes the checks is fit. Assumes nothing.
use mathlib.Core.Path.{sym, ◌∙◌}
use native.Mathlib.Omega.{arith}
use lib.ListN.{length}
use lib.Seq.{length-take-le}
use Rattle.whole.specs.Place.{place}
use Rattle.survey.specs.Survey.{survey}
use Rattle.survey.proofs.FitLaws.{passed-fit}
use Rattle.height.proofs.JobLaws.{not_far, not_tight}
use Rattle.height.proofs.height.Goals as goal

pub is_tight-requires : goal.is_tight-requires
is_tight-requires c =
    let a = c.args in
    omega (arith, (passed-fit (survey a.x.now a.y.now a.z.now) (sym c.check.ensures ∙ c.in_ok-check.was)).most)

pub work_room-worked-requires : goal.work_room-worked-requires
work_room-worked-requires c =
    let a = c.args in
    omega (arith, (passed-fit (survey a.x.now a.y.now a.z.now) (sym c.check.ensures ∙ c.in_ok-check.was)).most)

pub height_of-height-requires : goal.height_of-height-requires
height_of-height-requires c =
    let a = c.args in
    let s = survey a.x.now a.y.now a.z.now in
    let near = not_far (place a.px a.py) (sym c.is_far.ensures ∙ c.if-is_far.false) in
    let room = not_tight s (length a.slopes.now) (length a.work.now) (sym c.is_tight.ensures ∙ c.if-is_tight.false) in
    let lent = c.work_room-worked in (
      passed-fit s (sym c.check.ensures ∙ c.in_ok-check.was),
      near.0,
      near.1,
      room.0,
      omega (arith, lent.ensures, room.1, length-take-le lent.result a.work.now (omega (arith, lent.ensures, room.1))),
    )

pub slope_room-requires : goal.slope_room-requires
slope_room-requires c =
    let a = c.args in
    omega (arith, (passed-fit (survey a.x.now a.y.now a.z.now) (sym c.check.ensures ∙ c.in_ok-check.was)).most)
