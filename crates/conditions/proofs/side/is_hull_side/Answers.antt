-- `is_hull_side` meets its contract: two ends, and no station beside. Assumes nothing.
use borrow.Author.Tests.{eq-eqb}
use mathlib.Core.Path.{sym, ap, ◌∙◌}
use mathlib.Core.Bool.{not}
use Rattle.survey.specs.Survey.{survey}
use Rattle.conditions.proofs.ConditionLaws.{hull_not, hull_is}
use Rattle.conditions.proofs.side.is_hull_side.Goals as goal

pub returns-then-i-j : goal.returns-then-i-j
returns-then-i-j c =
    let a = c.args in
    ap not c.has_beside.ensures
    ∙ sym (hull_is (survey a.x.now a.y.now a.z.now) a.i a.j c.requires.1 c.requires.2 c.if-i-j.true)

pub returns-else-i-j : goal.returns-else-i-j
returns-else-i-j c =
    let a = c.args in
    ap not (eq-eqb a.i a.j c.if-i-j.false) ∙ sym (hull_not (survey a.x.now a.y.now a.z.now) a.i a.j c.if-i-j.false)
