-- `fill_near` meets its contract: after i turns the first i rows stand in the slice. Assumes nothing.
use mathlib.Core.Path.{◌≡◌}
use mathlib.Core.List.{◌++◌}
use Prim.Native.Nat.{◌*◌}
use lib.ListN.{drop}
use Rattle.nearest.specs.Places.{places}
use Rattle.nearest.specs.Four.{near_row}
use Rattle.lists.specs.Rows.{rows}
use Rattle.nearest.proofs.fill_near.Given as goal

abbrev pub invariant-loop-i : goal.invariant-loop-i
invariant-loop-i l = l.near ≡ rows (near_row (places l.x l.y)) l.i ++ drop (4 * l.i) l.initial.near
