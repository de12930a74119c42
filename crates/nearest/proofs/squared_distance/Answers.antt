-- `squared_distance` meets its contract: the squares of two gaps of coordinates and their sum fit a u32. Assumes nothing.
use mathlib.Core.Path.{◌≡◌}
use Prim.Native.Nat.{ℕ, ◌*◌, ◌≤◌}
use native.Mathlib.Omega.{arith}
use Rattle.survey.specs.Limits.{most_coordinate}
use Rattle.nearest.specs.Nearest.{gap, squared_distance}
use Rattle.nearest.proofs.DistanceLaws.{square_le}
use Rattle.nearest.proofs.squared_distance.Goals as goal

-- the square of a result that is a gap
square : {a b r : ℕ} → r ≡ gap a b → a ≤ most_coordinate → b ≤ most_coordinate → r * r ≤ 67092481
square e h k = rw e (square_le h k)

pub overflow_add-result : goal.overflow_add-result
overflow_add-result c = omega (arith, square c.abs_diff-dx.ensures c.requires.0 c.requires.2, square c.abs_diff-dy.ensures c.requires.1 c.requires.3)

pub returns : goal.returns
unfolding squared_distance
returns c = rw (c.abs_diff-dx.ensures, c.abs_diff-dy.ensures)
