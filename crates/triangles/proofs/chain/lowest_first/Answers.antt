-- `lowest_first` meets its contract: at each `return` the tests that led there decide `lowest_first`. Assumes nothing.
use mathlib.Core.Path.{sym, ◌∙◌}
use Rattle.triangles.specs.Mesh.{lowest_first}
use Rattle.triangles.proofs.chain.lowest_first.Goals as goal

pub returns-then-is_lowest : goal.returns-then-is_lowest
unfolding lowest_first
returns-then-is_lowest c = rw (sym c.is_lowest.ensures ∙ c.if-is_lowest.true)

pub returns-then-is_lowest-2 : goal.returns-then-is_lowest-2
unfolding lowest_first
returns-then-is_lowest-2 c = rw (sym c.is_lowest.ensures ∙ c.if-is_lowest.false, sym c.is_lowest-2.ensures ∙ c.if-is_lowest-2.true)

pub returns : goal.returns
unfolding lowest_first
returns c = rw (sym c.is_lowest.ensures ∙ c.if-is_lowest.false, sym c.is_lowest-2.ensures ∙ c.if-is_lowest-2.false)
