-- `tag_size` meets its contract: it is the first zero that is sought. Assumes nothing.
use mathlib.Core.Path.{◌∙◌}
use borrow.Author.Rules.{rules}
use Rattle.std.proofs.Common.{tests}
use mathlib.Core.Bool.{Bool}
use Prim.Native.Nat.{ℕ}
use lib.Dec.{eqb}
use Rattle.rendering.specs.Filed.{tag_byte_of}
use Rattle.lists.proofs.FoundLaws.{find-below, lowest_or}
use Rattle.tags.proofs.tag_size.Goals as goal

pub returns : goal.returns
returns c =
    let test : ℕ → Bool = λ j. eqb (tag_byte_of c.args.tags.now c.args.i j) 0 in
    c.unwrap_or.ensures ∙ lowest_or test 8 _ (find-below _ test 8 _ c.find.ensures.ran (λ k b q h. search (rules, tests)))
