-- `lowest_wrong_tag` meets its contract: it is sought, and `is_wrong_tag` its test at each station. Assumes nothing.
use borrow.Author.Rules.{rules}
use Rattle.lists.proofs.BelowLaws.{found_lowest}
use Rattle.lists.proofs.FoundLaws.{find-below}
use Rattle.rendering.specs.Writer.{is_wrong_tag}
use Rattle.tags.proofs.lowest_wrong_tag.Goals as goal

pub returns : goal.returns
returns c = found_lowest _ _ _ (find-below _ (is_wrong_tag c.args.tags.now) c.args.n _ c.find.ensures.ran (λ k b q h. search rules))
