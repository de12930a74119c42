-- `has_beside` meets its contract: the search's test is `is_beside` at each station. Assumes nothing.
use borrow.Author.Rules.{rules}
use borrow.Author.Tests.{tests}
use mathlib.Core.Bool.{◌||◌}
use lib.ListN.{length}
use Rattle.hull.specs.Hull.{is_right, is_between}
use Rattle.lists.proofs.FoundLaws.{any-below}
use Rattle.survey.specs.Survey.{survey}
use Rattle.conditions.proofs.side.has_beside.Goals as goal

pub returns : goal.returns
returns c =
    let a = c.args in
    let s = survey a.x.now a.y.now a.z.now in
    any-below (λ w. is_right s a.i a.j w || is_between s a.i a.j w) (length a.x.now) _ c.any.ensures.ran (λ k b q m. search (rules, tests))
