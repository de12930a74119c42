-- `is_level_list` meets its contract: the loop is a search for a level that is wrong behind the one before it. Assumes nothing.
use mathlib.Core.Path.{◌≡◌}
use lib.ListN.{length}
use Rattle.rendering.specs.Writer.{level_before, is_wrong_level}
use Rattle.lists.proofs.SearchLaws.{Sought}
use Rattle.levels.proofs.is_level_list.Given as goal

abbrev pub invariant-loop-level : goal.invariant-loop-level
invariant-loop-level l = Sought (is_wrong_level l.levels) (length l.levels) l.level-index × (l.last ≡ level_before l.levels l.level-index)
