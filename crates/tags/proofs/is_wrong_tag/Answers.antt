-- `is_wrong_tag` meets its contract: a tag that has bytes is wrong if one of them is. Assumes nothing.
use mathlib.Core.Path.{◌≡◌, ◌∙◌}
use mathlib.Core.List.{List}
use Prim.Native.Nat.{ℕ, ◌≤◌}
use borrow.Author.Rules.{rules}
use borrow.Author.Tests.{lt-ltb, le-ltb}
use Rattle.lists.specs.Lowest.{some}
use Rattle.lists.proofs.FoundLaws.{any-below}
use Rattle.rendering.specs.Filed.{tag_size}
use Rattle.rendering.specs.Writer.{is_wrong_byte, is_wrong_tag}
use Rattle.tags.proofs.is_wrong_tag.Goals as goal

-- The tag has bytes, so that it is wrong if one of them is.
by_bytes : (tags : List ℕ) (i size : ℕ) → size ≡ tag_size tags i → 1 ≤ size → some (is_wrong_byte tags i) 8 ≡ is_wrong_tag tags i
by_bytes tags i size e h = rw (← e, le-ltb _ _ h)

pub returns-then-size-lt1 : goal.returns-then-size-lt1
returns-then-size-lt1 c = rw (← c.tag_size-size.ensures, lt-ltb _ _ c.if-size-lt1.true)

pub returns-else-size-lt1 : goal.returns-else-size-lt1
returns-else-size-lt1 c =
    let e = c.tag_size-size.ensures in
    any-below (is_wrong_byte c.args.tags.now c.args.i) 8 _ c.any.ensures.ran (λ k b q h. search rules)
    ∙ by_bytes c.args.tags.now c.args.i _ e c.if-size-lt1.false
