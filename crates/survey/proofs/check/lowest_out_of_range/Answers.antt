use borrow.Author.Rules.{rules}
use Rattle.lists.proofs.BelowLaws.{found_lowest}
use Rattle.lists.proofs.FoundLaws.{find-below}
use Rattle.survey.proofs.check.lowest_out_of_range.Goals as goal

pub returns : goal.returns
returns c = found_lowest _ _ _ (find-below _ _ _ _ c.find.ensures.ran (λ k b q m. search rules))
