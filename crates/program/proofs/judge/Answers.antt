-- `judge` meets its contract: a survey that passes the checks is fit. Assumes nothing.
use mathlib.Core.Path.{refl, sym, ap, ◌∙◌, subst}
use mathlib.Core.List.{◌++◌}
use native.Mathlib.Omega.{arith}
use lib.ListN.{drop}
use Rattle.survey.specs.Survey.{survey}
use Rattle.std.specs.Prelude.{⊤}
use Rattle.survey.specs.Answer.{Answer}
use Rattle.survey.proofs.FitLaws.{passed-fit}
use Rattle.program.specs.Program.{any_opening_by}
use Rattle.program.specs.Opened.{any_opened_by, Worked, slopes_room}
use Rattle.program.proofs.judge.Goals as goal

pub prepare-requires : goal.prepare-requires
prepare-requires c =
    let a = c.args in
    let s = survey a.x.now a.y.now a.z.now in
    let fit = passed-fit s (sym c.check.ensures ∙ c.in-Ok.is) in
    let most = fit.most in
    (fit, c.requires.0, omega (arith, most, c.requires.1), omega (arith, most, c.requires.2), omega (arith, c.requires.3))

pub returns-in-Err : goal.returns-in-Err
returns-in-Err c =
    let a = c.args in
    let s = survey a.x.now a.y.now a.z.now in
    let e = sym c.in-Err.is ∙ c.check.ensures in
    let r = c.refuse in record {
      value = r.ensures.by_index a.kind a.report s a.style a.levels ∙ ap (any_opened_by a.kind a.report s a.style a.levels) e;
      worked = subst (λ (q : Answer ⊤). Worked a.kind s q a.work.now a.work.now) e refl;
      slopes_after = ap (λ (q : Answer ⊤). slopes_room s a.style q a.slopes.now) e;
      room_after = r.ensures.room_after ∙ ap (λ (q : Answer ⊤). any_opening_by a.report a.style q ++ drop r.result.bytes a.room.now) e;
    }

pub returns-in-Ok : goal.returns-in-Ok
returns-in-Ok c =
    let a = c.args in
    let s = survey a.x.now a.y.now a.z.now in
    let e = sym c.in-Ok.is ∙ c.check.ensures in
    let r = c.prepare in record {
      value = r.ensures.value ∙ ap (any_opened_by a.kind a.report s a.style a.levels) e;
      worked = subst (λ (q : Answer ⊤). Worked a.kind s q a.work.now r.new.work) e r.ensures.worked;
      slopes_after = r.ensures.slopes_after ∙ ap (λ (q : Answer ⊤). slopes_room s a.style q a.slopes.now) e;
      room_after = r.ensures.room_after ∙ ap (λ (q : Answer ⊤). any_opening_by a.report a.style q ++ drop r.result.bytes a.room.now) e;
    }
