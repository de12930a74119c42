-- What is at hand when lines are drawn: a survey's lists and slopes, and a side that the level crosses. Assumes nothing.
use Rattle.std.specs.Prelude.{true, cond, List, ◌++◌, ◌≡◌, ℕ, ◌*◌, ◌≤◌, ◌<◌, ℤ, pos, length, replicate}
use Rattle.sweep.specs.Sweep.{Three}
use Rattle.survey.specs.Survey.{Survey, count, height_of}
use Rattle.survey.specs.Fit.{Fit}
use Rattle.survey.specs.Rooms.{slope_room}
use Rattle.curve.specs.Below.{is_crossed}
use Rattle.curve.specs.Curve.{is_straight}
use Rattle.curve.specs.Side.{InRange}
use Rattle.slopes.specs.Job.{slopes_of}
use Rattle.neighbours.specs.Room.{Holds}
use Rattle.hull.specs.MeshOf.{MeshOf}
use Rattle.spots.specs.Lines.{end_at}

-- The lists are of one length, that of a survey, and there are five slopes to a station.
pub record Listed (s : Survey) (slopes : List ℤ) : Type 0 where
  pub ys-count : length s.ys ≡ count s
  pub zs-count : length s.zs ≡ count s
  pub most : count s ≤ 1024
  pub five : 5 * count s ≤ length slopes

-- Stations i and j are in range, and the level passes between them.
pub record Crossing (s : Survey) (slopes : List ℤ) (level : ℤ) (i j : ℕ) : Type 0 where
  pub low_in : i < count s
  pub high_in : j < count s
  pub low-range : InRange (end_at s slopes i)
  pub high-range : InRange (end_at s slopes j)
  pub crossed : is_crossed level (height_of s i) (height_of s j) ≡ true

-- The slopes that a style asks for: a straight line asks for none, so zeros stand for them.
abbrev pub slopes_for : Survey → ℕ → List ℤ
slopes_for s style = cond (is_straight style) (replicate (slope_room (count s)) (pos 0)) (slopes_of s)

-- What one preparation leaves for every level: the records of a mesh ts and its sides in order in the work room, and the slopes.
pub record Prepared (s : Survey) (ts : List (Three ℕ)) (style : ℕ) (work : List ℕ) (slopes : List ℤ) : Type 0 where
  pub fit : Fit s
  pub mesh : MeshOf s ts
  pub holds : Holds ts (count s) work
  pub rest : List ℤ
  pub slopes-are : slopes ≡ slopes_for s style ++ rest
