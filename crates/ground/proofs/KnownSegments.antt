-- Segments of small surveys, by computation: two that touch, two that are one, and two of different styles that cross. Assumes nothing.
use mathlib.Core.Bool.{xor}
use mathlib.Core.List.{List, [], ◌∷◌}
use mathlib.Core.Path.{◌≡◌, refl}
use Prim.Native.Nat.{ℕ}
use lib.IntN.{ℤ, pos}
use Rattle.whole.specs.Place.{place}
use Rattle.whole.specs.Cut.{cut}
use Rattle.whole.specs.Rounding.{rounded}
use Rattle.whole.specs.Turn.{across, climb, turn}
use Rattle.sweep.specs.Page.{is_before, every, is_clear, is_side, sides_to, sides_of, hull_of, facing, run_fan, grow, lead, page}
use Rattle.sweep.specs.Sweep.{Three, tri, joined}
use Rattle.survey.specs.Survey.{Survey, survey}
use Rattle.curve.specs.Bracket.{bracket_of}
use Rattle.curve.specs.Curve.{slope_d, slope_e, control_heights, weighed, smooth_at, curve_of}
use Rattle.curve.specs.Spot.{spot_at}
use Rattle.curve.specs.Weights.{weight_of}
use Rattle.trace.specs.Crossed.{is_crossed}
use Rattle.trace.specs.Side.{side_of}
use Rattle.nearest.specs.Nearest.{squared_distance, nearest, neighbours}
use Rattle.normal.specs.Normal.{added, normal_at}
use Rattle.slopes.specs.Job.{slopes_of}
use Rattle.slopes.specs.Slopes.{slope_p, slope_q, slope_r, slope_s, slope_t}
use Rattle.triangles.specs.Mesh.{lowest_first, triangles}
use Rattle.triangles.specs.Order.{insert_in, in_order_below}
use Rattle.spots.specs.Lines.{spot_on}
use Rattle.ground.specs.Meeting.{CrossProperly}
use Rattle.ground.specs.Segments.{spot_place, side_spots, spots_in}
use Rattle.ground.specs.Sides.{left-right, right-left}
use Rattle.ground.proofs.MeetingLaws.{apart-proper}

-- Stations at (0,0), (0,1) and (1,0), with their triangle.
abbrev corner : List ℤ → Survey
corner zs = survey (0 ∷ 0 ∷ 1 ∷ []) (0 ∷ 1 ∷ 0 ∷ []) zs

abbrev triangle : Three ℕ
triangle = tri 0 2 1

abbrev touching : Survey
touching = corner (pos 0 ∷ pos 1 ∷ pos 65 ∷ [])

abbrev alike : Survey
alike = corner (pos 0 ∷ pos 0 ∷ pos 65 ∷ [])

-- 'they may touch': straight, the levels 64 and 65 have one spot in common, or both.
pub may-touch :
    (spots_in touching (slopes_of touching) 0 (pos 64) triangle ≡ place 127 0 ∷ place 125 3 ∷ [])
    × (spots_in touching (slopes_of touching) 0 (pos 65) triangle ≡ place 127 0 ∷ place 127 1 ∷ [])
unfolding
    spots_in side_spots spot_place is_crossed side_of spot_on xor bracket_of curve_of spot_at smooth_at weighed weight_of control_heights slope_d slope_e
    slope_p slope_q slope_r slope_s slope_t normal_at added neighbours nearest squared_distance across climb turn rounded cut
may-touch = (refl, refl)

pub may_be_one :
    (spots_in alike (slopes_of alike) 0 (pos 64) triangle ≡ place 127 0 ∷ place 127 1 ∷ [])
    × (spots_in alike (slopes_of alike) 0 (pos 65) triangle ≡ place 127 0 ∷ place 127 1 ∷ [])
unfolding
    spots_in side_spots spot_place is_crossed side_of spot_on xor bracket_of curve_of spot_at smooth_at weighed weight_of control_heights slope_d slope_e
    slope_p slope_q slope_r slope_s slope_t normal_at added neighbours nearest squared_distance across climb turn rounded cut
may_be_one = (refl, refl)

-- 'in one style' is needed: over a triangle of the survey's mesh, the level 1 drawn straight and the level 2 drawn smooth cross properly.
abbrev square : Survey
square = survey (0 ∷ 0 ∷ 1 ∷ 1 ∷ []) (0 ∷ 1 ∷ 0 ∷ 1 ∷ []) (pos 7 ∷ pos 0 ∷ pos 2 ∷ pos 8 ∷ [])

pub styles-cross :
    (triangles square ≡ triangle ∷ tri 1 2 3 ∷ [])
    × (spots_in square (slopes_of square) 0 (pos 1) triangle ≡ place 63 65 ∷ place 0 109 ∷ [])
    × (spots_in square (slopes_of square) 1 (pos 2) triangle ≡ place 59 69 ∷ place 0 83 ∷ [])
    × CrossProperly (place 63 65) (place 0 109) (place 59 69) (place 0 83)
unfolding
    triangles lowest_first in_order_below insert_in page lead grow run_fan facing hull_of sides_of sides_to is_side is_clear every is_before joined
    spots_in side_spots spot_place is_crossed side_of spot_on xor bracket_of curve_of spot_at smooth_at weighed weight_of control_heights slope_d slope_e
    slope_p slope_q slope_r slope_s slope_t normal_at added neighbours nearest squared_distance across climb turn rounded cut
styles-cross = (
  refl,
  refl,
  refl,
  apart-proper (right-left (record { lt = tt }) (record { lt = tt })) (left-right (record { lt = tt }) (record { lt = tt })),
)
