-- Small meshes of the second kind, computed: a tie stays, a long side goes, and of two sides the lowest goes first. Assumes nothing.
use mathlib.Core.List.{[], ◌∷◌}
use mathlib.Core.Path.{◌≡◌, refl}
use lib.IntN.{pos}
use Rattle.whole.specs.Turn.{turn, across, climb}
use Rattle.survey.specs.Survey.{Survey, survey}
use Rattle.sweep.specs.Members.{total}
use Rattle.sweep.specs.Sweep.{tri, joined}
use Rattle.sweep.specs.Page.{is_before, every, is_clear, is_side, sides_to, sides_of, hull_of, facing, run_fan, grow, lead, page}
use Rattle.trace.specs.Side.{is_same, left_corner}
use Rattle.triangles.specs.Order.{insert_in, in_order_below}
use Rattle.triangles.specs.Mesh.{lowest_first, triangles}
use Rattle.hull.specs.MeshOf.{step_is}
use Rattle.circle.specs.Circle.{apart, circle}
use Rattle.listing.specs.Listed.{is_no_later, insert, listed}
use Rattle.fatter.specs.Fatter.{fatter}
use Rattle.fatter.specs.Swap.{may_swap, swaps_at, lower, higher, is_left, exchange, swap, swap_lowest, load, slack, swaps_up_to, swaps}

abbrev square : Survey
square = survey (0 ∷ 8 ∷ 0 ∷ 8 ∷ []) (0 ∷ 0 ∷ 8 ∷ 8 ∷ []) (pos 0 ∷ pos 0 ∷ pos 0 ∷ pos 0 ∷ [])

-- 'ties stay': the four stations of a square are on one circle.
pub square-stays : fatter square (tri 0 1 2 ∷ tri 1 3 2 ∷ []) ≡ tri 0 1 2 ∷ tri 1 3 2 ∷ []
unfolding fatter listed insert is_no_later lowest_first swaps swaps_up_to slack load total is_left swaps_at lower higher may_swap swap_lowest swap exchange step_is left_corner is_same circle apart across climb turn
square-stays = refl

-- A long kite, cut along by the sweep, is cut across.
abbrev kite : Survey
kite = survey (5 ∷ 4 ∷ 6 ∷ 5 ∷ []) (0 ∷ 10 ∷ 10 ∷ 20 ∷ []) (pos 0 ∷ pos 0 ∷ pos 0 ∷ pos 0 ∷ [])

pub kite-sweep : triangles kite ≡ tri 0 3 1 ∷ tri 0 2 3 ∷ []
unfolding triangles lowest_first in_order_below insert_in page lead grow run_fan facing hull_of sides_of sides_to is_side is_clear every is_before joined turn
kite-sweep = refl

pub kite-fatter : fatter kite (tri 0 3 1 ∷ tri 0 2 3 ∷ []) ≡ tri 0 2 1 ∷ tri 1 2 3 ∷ []
unfolding fatter listed insert is_no_later lowest_first swaps swaps_up_to slack load total is_left swaps_at lower higher may_swap swap_lowest swap exchange step_is left_corner is_same circle apart across climb turn
kite-fatter = refl

-- A house: both 2-4 and 3-4 may be swapped at first. 2-4 gives way to 0-3, then 3-4 to 0-1, and of the four stations on one circle 0-3
-- stays. With 3-4 first it would be 1-2.
abbrev house : Survey
house = survey (0 ∷ 2 ∷ 0 ∷ 2 ∷ 1 ∷ []) (1 ∷ 1 ∷ 0 ∷ 0 ∷ 2 ∷ []) (pos 0 ∷ pos 0 ∷ pos 0 ∷ pos 0 ∷ pos 0 ∷ [])

pub house-fatter : fatter house (tri 0 2 4 ∷ tri 2 3 4 ∷ tri 1 4 3 ∷ []) ≡ tri 0 1 4 ∷ tri 0 2 3 ∷ tri 0 3 1 ∷ []
unfolding fatter listed insert is_no_later lowest_first swaps swaps_up_to slack load total is_left swaps_at lower higher may_swap swap_lowest swap exchange step_is left_corner is_same circle apart across climb turn
house-fatter = refl
