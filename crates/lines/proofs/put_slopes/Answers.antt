-- `put_slopes` meets its contract: the style decides. Assumes nothing.
use Rattle.slopes.specs.Job.{slopes_of}
use Rattle.survey.specs.Survey.{survey}
use Rattle.survey.specs.Rooms.{slope_room}
use lib.ListN.{length, drop, replicate}
use lib.IntN.{pos}
use borrow.Author.Tests.{eq-eqb, ne_eqb}
use mathlib.Core.List.{◌++◌}
use mathlib.Core.Bool.{cond}
use mathlib.Core.Path.{sym, ap, ◌∙◌}
use Rattle.lines.proofs.put_slopes.Goals as goal

pub returns-then-style-eq0 : goal.returns-then-style-eq0
returns-then-style-eq0 c =
    let a = c.args in
    c.clear.ensures
    ∙ ap (λ n. replicate n (pos 0) ++ drop n a.room.now) c.slope_room.ensures
    ∙ ap (λ b. cond b (replicate (slope_room (length a.x.now)) (pos 0)) (slopes_of (survey a.x.now a.y.now a.z.now)) ++ drop (slope_room (length a.x.now)) a.room.now)
    (sym (eq-eqb a.style 0 c.if-style-eq0.true))

pub returns-else-style-eq0 : goal.returns-else-style-eq0
returns-else-style-eq0 c =
    let a = c.args in
    c.fill.ensures
    ∙ ap (λ b. cond b (replicate (slope_room (length a.x.now)) (pos 0)) (slopes_of (survey a.x.now a.y.now a.z.now)) ++ drop (slope_room (length a.x.now)) a.room.now)
    (sym (ne_eqb a.style 0 c.if-style-eq0.false))
