-- T1 and T2 of document 01, of the definition, and a hull with a station in the middle of a side. Assumes nothing.
use mathlib.Core.List.{[], ◌∷◌}
use mathlib.Core.Path.{◌≡◌, refl}
use lib.IntN.{pos}
use Rattle.whole.specs.Turn.{turn}
use Rattle.survey.specs.Survey.{Survey, survey}
use Rattle.sweep.specs.Hull.{cross}
use Rattle.sweep.specs.Members.{sum}
use Rattle.sweep.specs.Sweep.{tri, edge, joined}
use Rattle.sweep.specs.Page.{is_before, every, is_clear, is_side, sides_to, sides_of, hull_of, facing, run_fan, grow, lead, page}
use Rattle.hull.specs.Hull.{is_right, is_between, is_hull_side, is_hull_station, passing, pairs_from, hull_sides, hull_stations, twice_hull}
use Rattle.triangles.specs.Order.{insert_in, in_order_below}
use Rattle.triangles.specs.Mesh.{lowest_first, triangles}

-- 'Square Q: (0,0), (8,0), (0,8), (8,8)': 'triangles (0,1,2), (1,3,2)'.
pub square : triangles (survey (0 ∷ 8 ∷ 0 ∷ 8 ∷ []) (0 ∷ 0 ∷ 8 ∷ 8 ∷ []) (pos 0 ∷ pos 0 ∷ pos 0 ∷ pos 0 ∷ [])) ≡ tri 0 1 2 ∷ tri 1 3 2 ∷ []
unfolding triangles lowest_first in_order_below insert_in page lead grow run_fan facing hull_of sides_of sides_to is_side is_clear every is_before joined turn
square = refl

-- 'Q5 adds (4,4)': '(0,4,2), (0,1,4), (1,3,4), (2,4,3)'.
pub centred : triangles (survey (0 ∷ 8 ∷ 0 ∷ 8 ∷ 4 ∷ []) (0 ∷ 0 ∷ 8 ∷ 8 ∷ 4 ∷ []) (pos 0 ∷ pos 0 ∷ pos 0 ∷ pos 0 ∷ pos 0 ∷ [])) ≡
    tri 0 4 2 ∷ tri 0 1 4 ∷ tri 1 3 4 ∷ tri 2 4 3 ∷ []
unfolding triangles lowest_first in_order_below insert_in page lead grow run_fan facing hull_of sides_of sides_to is_side is_clear every is_before joined turn
centred = refl

-- Station 3 stands in the middle of the side from 0 to 1: it is a hull station, and the side is two.
abbrev straight : Survey
straight = survey (0 ∷ 8 ∷ 0 ∷ 4 ∷ []) (0 ∷ 0 ∷ 8 ∷ 0 ∷ []) (pos 0 ∷ pos 0 ∷ pos 0 ∷ pos 0 ∷ [])

pub straight-sides : hull_sides straight ≡ edge 0 3 ∷ edge 1 2 ∷ edge 2 0 ∷ edge 3 1 ∷ []
unfolding pairs_from passing is_hull_side is_right is_between is_before turn
straight-sides = refl

pub straight-stations : hull_stations straight ≡ 0 ∷ 1 ∷ 2 ∷ 3 ∷ []
unfolding passing is_hull_station is_hull_side is_right is_between is_before turn
straight-stations = refl

pub straight-area : twice_hull straight ≡ pos 64
unfolding pairs_from passing is_hull_side is_right is_between is_before turn cross sum
straight-area = refl
