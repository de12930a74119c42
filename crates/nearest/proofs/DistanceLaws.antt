-- No two places of a survey are as far apart as `far`, and two that are apart have a distance above 0. Assumes nothing.
use Prim.Native.Nat.{ℕ, ◌*◌, ◌≤◌, ◌<◌}
use native.Mathlib.Nat.{mul-le-mul}
use native.Mathlib.Omega.{arith}
use Rattle.whole.specs.Place.{Place}
use Rattle.survey.specs.Limits.{most_coordinate}
use Rattle.nearest.specs.Nearest.{gap, squared_distance}
use Rattle.nearest.specs.Four.{far}

-- The square of a gap of coordinates.
pub square_le : {a b : ℕ} → a ≤ most_coordinate → b ≤ most_coordinate → gap a b * gap a b ≤ 67092481
square_le {a} {b} h k = mul-le-mul within within
  where
    within : gap a b ≤ 8191
    within = omega arith

pub distance-near : {a b : Place} → a.x ≤ most_coordinate → a.y ≤ most_coordinate → b.x ≤ most_coordinate → b.y ≤ most_coordinate → squared_distance a b < far
unfolding squared_distance
distance-near h k l m = omega (arith, square_le h l, square_le k m)
