-- `fill_rows` meets its contract: after i turns the first i rows stand in the room. Assumes nothing.
use mathlib.Core.Path.{◌≡◌}
use mathlib.Core.List.{List, ◌++◌}
use Prim.Native.Nat.{ℕ, ◌*◌}
use lib.IntN.{ℤ}
use lib.ListN.{drop}
use Rattle.nearest.specs.Places.{places, value_in}
use Rattle.slopes.specs.Slopes.{five_at, row}
use Rattle.lists.specs.Rows.{rows}
use Rattle.slopes.proofs.slope.fill_rows.Given as goal

-- the row of each station
abbrev pub fives : List ℕ → List ℕ → List ℤ → List ℤ → ℕ → List ℤ
fives x y p q i = row (five_at (places x y) (value_in p) (value_in q) i)

abbrev pub invariant-loop-i : goal.invariant-loop-i
invariant-loop-i l = l.room ≡ rows (fives l.x l.y l.p l.q) l.i ++ drop (5 * l.i) l.initial.room
