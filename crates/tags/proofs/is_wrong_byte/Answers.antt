-- `is_wrong_byte` meets its contract: each test is one of the definition. Assumes nothing.
use mathlib.Core.Path.{ap, ◌∙◌}
use mathlib.Core.Bool.{not}
use borrow.Author.Tests.{lt-ltb, le-ltb}
use Rattle.tags.proofs.is_wrong_byte.Goals as goal

pub returns-then-j-size : goal.returns-then-j-size
returns-then-j-size c = ap not c.is_word_byte.ensures ∙ rw (lt-ltb _ _ c.if-j-size.true)

pub returns-else-j-size : goal.returns-else-j-size
returns-else-j-size c = simp (le-ltb _ _ c.if-j-size.false)
