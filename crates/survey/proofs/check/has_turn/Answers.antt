-- `has_turn` meets its contract: `is_off_line` is the search's test at each station. Assumes nothing.
use borrow.Author.Rules.{rules}
use mathlib.Core.List.{[]}
use lib.ListN.{length}
use Rattle.lists.proofs.FoundLaws.{any-below}
use Rattle.survey.specs.Checks.{is_turn}
use Rattle.survey.specs.Survey.{survey}
use Rattle.survey.proofs.check.has_turn.Goals as goal

pub returns : goal.returns
returns c = λ zs. any-below (is_turn (survey c.args.x.now c.args.y.now []) 0 1) (length c.args.x.now) _ c.any.ensures.ran (λ k b q m. search rules)
