-- The served and the unserved ground of two small surveys, by computation. Assumes nothing.
--
-- The square Q of document 01 with z 0, 10, 10, 0, straight. Its triangles are (0,1,2) and (1,3,2), each of twice the area 64, or 1,048,576 in
-- squares of a 128th; stations 1 and 2 are at (1024,0) and (0,1024) in 128ths, station 3 at (1024,1024). The side of 1 and 2 is crossed at none of
-- the levels below.
--
-- Level 5 (T3). Stations 0 and 3 are below. In (0,1,2) the spots (504,0) and (0,504) cut off (0,0), which has 504 · 504 = 254,016; the part
-- (504,0), (1024,0), (0,1024), (0,504) has 1,048,576 - 254,016 = 794,560. In (1,3,2) the spots (1024,520) and (520,1024) cut off (1024,1024), 504
-- away on both sides: the same again. Served 2 · 794,560, unserved 2 · 254,016.
-- Level 10 (T4). Stations 1 and 2 are at the level, and so not below. The spots are (1016,0), (0,1016) and (1024,8), (8,1024): in each
-- triangle 1016 · 1016 = 1,032,256 is below and 1,048,576 - 1,032,256 = 16,320 is not. Served 2 · 16,320, unserved 2 · 1,032,256.
-- Level 0 (T5) serves all, 2 · 1,048,576, and level 11 nothing.
--
-- A square of side 1 with z 7, 0, 2, 8 at level 2, where the styles differ. Its triangles are (0,2,1) and (1,2,3), each of 16,384, and station 1
-- alone, at (0,128), is below. Straight, the spots are (0,91), (127,1) and (31,128): 37 · 127 and 31 · 127 are below. Smooth, they are (0,83),
-- (59,69) and (41,128): 45 · 59 and 41 · 59 are.
use mathlib.Core.Bool.{xor}
use mathlib.Core.List.{[], ◌∷◌}
use mathlib.Core.Path.{◌≡◌, refl}
use Prim.Native.Nat.{ℕ}
use lib.IntN.{ℤ, pos}
use Rattle.whole.specs.Cut.{cut}
use Rattle.whole.specs.Rounding.{rounded}
use Rattle.whole.specs.Turn.{across, climb, turn}
use Rattle.sweep.specs.Hull.{cross}
use Rattle.sweep.specs.Members.{sum}
use Rattle.sweep.specs.Page.{is_before, every, is_clear, is_side, sides_to, sides_of, hull_of, facing, run_fan, grow, lead, page}
use Rattle.sweep.specs.Sweep.{joined}
use Rattle.survey.specs.Survey.{Survey, survey}
use Rattle.curve.specs.Bracket.{bracket_of}
use Rattle.curve.specs.Curve.{slope_d, slope_e, control_heights, weighed, smooth_at, curve_of}
use Rattle.curve.specs.Spot.{spot_at}
use Rattle.curve.specs.Weights.{weight_of}
use Rattle.trace.specs.Crossed.{is_crossed}
use Rattle.trace.specs.Side.{side_of}
use Rattle.nearest.specs.Nearest.{squared_distance, nearest, neighbours}
use Rattle.normal.specs.Normal.{added, normal_at}
use Rattle.slopes.specs.Slopes.{slope_p, slope_q, slope_r, slope_s, slope_t}
use Rattle.triangles.specs.Mesh.{lowest_first, triangles}
use Rattle.triangles.specs.Order.{insert_in, in_order_below}
use Rattle.spots.specs.Lines.{spot_on}
use Rattle.ground.specs.Segments.{spot_place, side_spots}
use Rattle.parcels.specs.Area.{onward, twice_within}
use Rattle.parcels.specs.Parts.{corner_on, part_of}
use Rattle.parcels.specs.Served.{ground_of, served_of, unserved_of}

abbrev square : Survey
square = survey (0 ∷ 8 ∷ 0 ∷ 8 ∷ []) (0 ∷ 0 ∷ 8 ∷ 8 ∷ []) (pos 0 ∷ pos 10 ∷ pos 10 ∷ pos 0 ∷ [])

abbrev bent : Survey
bent = survey (0 ∷ 0 ∷ 1 ∷ 1 ∷ []) (0 ∷ 1 ∷ 0 ∷ 1 ∷ []) (pos 7 ∷ pos 0 ∷ pos 2 ∷ pos 8 ∷ [])

-- Both figures of a level.
abbrev Figures : Survey → ℕ → ℤ → ℕ → ℕ → Type 0
Figures s style level served unserved = (served_of s (triangles s) style level ≡ served) × (unserved_of s (triangles s) style level ≡ unserved)

pub square-figures :
    Figures square 0 (pos 0) 2097152 0 × Figures square 0 (pos 5) 1589120 508032
    × Figures square 0 (pos 10) 32640 2064512 × Figures square 0 (pos 11) 0 2097152
unfolding
    ground_of sum twice_within onward cross part_of corner_on side_spots spot_place spot_on side_of is_crossed spot_at bracket_of curve_of xor
    triangles lowest_first in_order_below insert_in page lead grow run_fan facing hull_of sides_of sides_to is_side is_clear every is_before joined across climb turn
square-figures = ((refl, refl), (refl, refl), (refl, refl), (refl, refl))

pub bent-figures : Figures bent 0 (pos 2) 24132 8636 × Figures bent 1 (pos 2) 27694 5074
unfolding
    ground_of sum twice_within onward cross part_of corner_on side_spots spot_place spot_on side_of is_crossed spot_at bracket_of curve_of xor
    triangles lowest_first in_order_below insert_in page lead grow run_fan facing hull_of sides_of sides_to is_side is_clear every is_before joined across climb turn
    smooth_at weighed weight_of control_heights slope_d slope_e slope_p slope_q slope_r slope_s slope_t normal_at added neighbours nearest squared_distance rounded cut
bent-figures = ((refl, refl), (refl, refl))
