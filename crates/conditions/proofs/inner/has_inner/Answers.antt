-- `has_inner` meets its contract: the search's test is `is_inner` at each station. Assumes nothing.
use borrow.Author.Rules.{rules}
use borrow.Author.Tests.{tests}
use lib.ListN.{length}
use Rattle.lists.proofs.FoundLaws.{any-below}
use Rattle.survey.specs.Survey.{survey}
use Rattle.sweep.specs.Sweep.{tri}
use Rattle.woven.specs.Accepted.{is_inner}
use Rattle.conditions.proofs.inner.has_inner.Goals as goal

pub returns : goal.returns
returns c =
    let a = c.args in
    any-below (is_inner (survey a.x.now a.y.now a.z.now) (tri a.a a.b a.c)) (length a.x.now) _ c.any.ensures.ran (λ k b q m. search (rules, tests))
