-- The figures of a level as the code counts them: document 02, L12. Assumes nothing.
use Rattle.std.specs.Prelude.{Bool, true, false, cond, List, [], ◌∷◌, ◌++◌, ◌≡◌, ℕ, ◌*◌, ◌≤◌, ◌<◌, ℤ, pos, length, get_or, ◌<ℤ◌}
use Rattle.survey.specs.Fit.{Fit}
use Rattle.survey.specs.Limits.{most_coordinate}
use Rattle.survey.specs.Survey.{Survey, count}
use Rattle.curve.specs.Side.{InRange}
use Rattle.curve.specs.declared.spot.Spot.{Spot}
use Rattle.sweep.specs.Sweep.{Three}
use Rattle.trace.specs.Side.{◌⟶◌}
use Rattle.neighbours.specs.Room.{threes}
use Rattle.hull.specs.MeshOf.{MeshOf, OnStations, twice_of}
use Rattle.spots.specs.Lines.{end_at}
use Rattle.spots.specs.Prepared.{Listed, slopes_for}
use Rattle.ground.specs.Segments.{station_place, spot_place}
use Rattle.parcels.specs.Area.{twice_within}
use Rattle.parcels.specs.Parts.{part_of}
use Rattle.parcels.specs.Served.{ground_of, served_of, unserved_of}
use Rattle.served.specs.declared.outline.Cut.{Cut}
use Rattle.survey.specs.declared.answers.Figures.{Figures}

-- Both figures of a level over a mesh ts of a survey.
abbrev pub figures_of : Survey → List (Three ℕ) → ℕ → ℤ → Figures
figures_of s ts style level = record { served = served_of s ts style level; unserved = unserved_of s ts style level }

-- What is at hand when a level is counted: stations that passed the checks, t triangles of a mesh at the front of a room, and the slopes that the
-- style asks for.
pub record AtHand (s : Survey) (t : ℕ) (work : List ℕ) (style : ℕ) (slopes : List ℤ) : Type 0 where
  pub fit : Fit s
  pub mesh : MeshOf s (threes t work)
  pub long : 3 * t ≤ length work
  pub rest : List ℤ
  pub slopes-are : slopes ≡ slopes_for s style ++ rest

-- How far a place goes in 128ths, and the most that twice the area within four such places can be.
abbrev pub most_place : ℕ
most_place = 128 * most_coordinate

abbrev pub most_area : ℕ
most_area = 4 * (most_place * most_place)

pub record Near (p : Spot) : Type 0 where
  pub x-near : p.x ≤ most_place
  pub y-near : p.y ≤ most_place

-- A survey's lists with slopes, all in range.
pub record AllRanged (s : Survey) (slopes : List ℤ) : Type 0 where
  pub listed : Listed s slopes
  pub ranged : (k : ℕ) → k < count s → InRange (end_at s slopes k)

-- A triangle on stations, counterclockwise.
pub record Counter (s : Survey) (t : Three ℕ) : Type 0 where
  pub stations : OnStations s t
  pub positive : pos 0 <ℤ twice_of s t

-- Station k as a corner, in 128ths.
abbrev pub corner_spot : List ℕ → List ℕ → ℕ → Spot
corner_spot xs ys k = record { x = 128 * get_or xs k 0; y = 128 * get_or ys k 0 }

-- The two parts of a triangle, counterclockwise v, w, u, from which the level cuts off the corner v.
pub record CutAt (s : Survey) (slopes : List ℤ) (style : ℕ) (level : ℤ) (v w u : ℕ) (r : Cut) : Type 0 where
  pub corner_is : pos r.corner
      ≡ twice_within (station_place s v ∷ spot_place s slopes style level (v ⟶ w) ∷ spot_place s slopes style level (u ⟶ v) ∷ [])
  pub rest_is : pos r.rest
      ≡ twice_within (spot_place s slopes style level (v ⟶ w) ∷ station_place s w ∷ station_place s u ∷ spot_place s slopes style level (u ⟶ v) ∷ [])
  pub corner-most : r.corner ≤ most_area
  pub rest-most : r.rest ≤ most_area

-- The corner's part and the rest as figures, by the side of the level that the corner is on.
abbrev pub figures_by : Bool → Cut → Figures
figures_by below r = record { served = cond below r.rest r.corner; unserved = cond below r.corner r.rest }

-- The figures of one triangle, and those of many, by the slopes that are given.
pub record PartsOf (s : Survey) (slopes : List ℤ) (style : ℕ) (level : ℤ) (t : Three ℕ) (r : Figures) : Type 0 where
  pub served-part : pos r.served ≡ twice_within (part_of s slopes style level false t)
  pub unserved-part : pos r.unserved ≡ twice_within (part_of s slopes style level true t)
  pub served-most : r.served ≤ most_area
  pub unserved-most : r.unserved ≤ most_area

pub record Tallied (s : Survey) (slopes : List ℤ) (style : ℕ) (level : ℤ) (ts : List (Three ℕ)) (r : Figures) : Type 0 where
  pub served_is : pos r.served ≡ ground_of s ts slopes style level false
  pub unserved_is : pos r.unserved ≡ ground_of s ts slopes style level true
