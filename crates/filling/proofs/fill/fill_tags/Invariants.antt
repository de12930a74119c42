-- `fill_tags` meets its contract. Assumes nothing.
use mathlib.Core.Path.{◌≡◌}
use mathlib.Core.List.{◌++◌}
use Prim.Native.Nat.{◌*◌}
use lib.ListN.{drop}
use Rattle.lists.specs.Rows.{rows}
use Rattle.rendering.specs.Values.{tag_row, tag_in}
use Rattle.filling.proofs.fill.fill_tags.Given as goal

abbrev pub invariant-loop-i : goal.invariant-loop-i
invariant-loop-i l = l.room ≡ rows (λ k. tag_row (tag_in l.values k)) l.i ++ drop (8 * l.i) l.initial.room
