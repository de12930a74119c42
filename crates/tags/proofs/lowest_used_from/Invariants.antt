-- `lowest_used_from` meets its contract: the loop is a search, and keeps the tags of the stations before. Assumes nothing.
use mathlib.Core.Path.{◌≡◌}
use lib.ListN.{take}
use Rattle.lists.specs.Table.{table}
use Rattle.feeding.specs.Marks.{Marked}
use Rattle.rendering.specs.Filed.{tag_number}
use Rattle.rendering.specs.Writer.{is_used_tag}
use Rattle.lists.proofs.SearchLaws.{Sought}
use Rattle.tags.proofs.lowest_used_from.Given as goal

abbrev pub invariant-loop-i : goal.invariant-loop-i
invariant-loop-i l =
    Sought (is_used_tag l.tags) l.n l.i × (take l.i l.seen ≡ table (tag_number l.tags) l.i) × Marked (take l.i l.seen) l.marks
