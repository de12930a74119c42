-- On which side of a segment stations and places lie: document 02, L11. Places are in 128ths. Assumes nothing.
use Rattle.std.specs.Prelude.{true, not, List, ◌≡◌, ℕ, ◌+◌, ◌*◌, ◌<◌, ℤ, pos, ◌<ℤ◌}
use Rattle.whole.specs.Place.{Place, place}
use Rattle.whole.specs.Turn.{turn}
use Rattle.sweep.specs.Sweep.{Three}
use Rattle.survey.specs.Survey.{Survey, place_of}
use Rattle.trace.specs.Side.{◌⟶◌, left_corner, is_side}
use Rattle.hull.specs.MeshOf.{CornerOf}
use Rattle.spots.specs.Lines.{is_below}
use Rattle.ground.specs.Segments.{station_place}

-- m parts of p and n of q: a place of the segment from p to q, in (m + n)-ths. It is inside the segment where both are above 0.
abbrev pub mixed : ℕ → Place → ℕ → Place → Place
mixed m p n q = place (m * p.x + n * q.x) (m * p.y + n * q.y)

-- u and v lie strictly on the two sides of the line through p and q; strictly on one side of it.
pub data Apart (p q u v : Place) : Type 0 where
  left-right : pos 0 <ℤ turn p q u → turn p q v <ℤ pos 0 → Apart p q u v
  right-left : turn p q u <ℤ pos 0 → pos 0 <ℤ turn p q v → Apart p q u v

pub data Together (p q u v : Place) : Type 0 where
  left : pos 0 <ℤ turn p q u → pos 0 <ℤ turn p q v → Together p q u v
  right : turn p q u <ℤ pos 0 → turn p q v <ℤ pos 0 → Together p q u v

-- The segment from p to q divides the corners of a triangle by the level: those below strictly on one side of it, the others strictly on
-- the other, and so none on it.
pub record Divides (s : Survey) (level : ℤ) (t : Three ℕ) (p q : Place) : Type 0 where
  pub alike : (j k : ℕ) → CornerOf j t → CornerOf k t → is_below s level k ≡ is_below s level j → Together p q (station_place s j) (station_place s k)
  pub unlike : (j k : ℕ) → CornerOf j t → CornerOf k t → is_below s level k ≡ not (is_below s level j) → Apart p q (station_place s j) (station_place s k)

-- The place p lies on a side of the mesh, strictly between a station that is below the level and one that is not: it is m 128ths of station i
-- and n of station j.
pub record BetweenUnlike (s : Survey) (ts : List (Three ℕ)) (level : ℤ) (p : Place) : Type 0 where
  pub i : ℕ
  pub j : ℕ
  pub side : is_side (left_corner ts) (i ⟶ j) ≡ true
  pub unlike : is_below s level j ≡ not (is_below s level i)
  pub m : ℕ
  pub n : ℕ
  pub some-m : 0 < m
  pub some-n : 0 < n
  pub all : m + n ≡ 128
  pub at : p ≡ mixed m (place_of s i) n (place_of s j)
