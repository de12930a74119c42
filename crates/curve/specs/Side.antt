-- A side by the stations at its ends: document 01, "The curve along a side". Low is its lower-numbered station, high its
-- higher-numbered one, whatever their heights. Assumes nothing.
use Rattle.std.specs.Prelude.{◌≤◌, ℤ, pos, ◌-ℤ◌}
use Rattle.whole.specs.Range.{Within}
use Rattle.survey.specs.Limits.{most_coordinate, most_height, most_slope}
use Rattle.curve.specs.declared.side.End.{End}

-- 'A side runs from its lower-numbered station to its higher, by (dx,dy).'
abbrev pub dx : End → End → ℤ
dx low high = pos high.x -ℤ pos low.x

abbrev pub dy : End → End → ℤ
dy low high = pos high.y -ℤ pos low.y

-- The numbers of a station that has passed the checks, with its slopes.
pub record InRange (e : End) : Type 0 where
  pub x-range : e.x ≤ most_coordinate
  pub y-range : e.y ≤ most_coordinate
  pub z-range : Within most_height e.z
  pub p-range : Within most_slope e.p
  pub q-range : Within most_slope e.q
  pub r-range : Within most_slope e.r
  pub s-range : Within most_slope e.s
  pub t-range : Within most_slope e.t
