-- Heights that are known, by computation. Assumes nothing.
use mathlib.Core.List.{[], ◌∷◌}
use mathlib.Core.Path.{◌≡◌, refl}
use lib.Ieee as Ieee
use lib.IntN.{pos, negsuc}
use Rattle.whole.specs.Cut.{cut}
use Rattle.whole.specs.Place.{place}
use Rattle.whole.specs.Rounding.{rounded}
use Rattle.whole.specs.Turn.{across, climb, turn}
use Rattle.survey.specs.Answers.{height_gives}
use Rattle.survey.specs.Checks.{is_repeat, is_one_line, checked}
use Rattle.survey.specs.Survey.{Survey, survey}
use Rattle.std.specs.Prelude.{Ok, Err}
use Rattle.survey.specs.declared.answers.Height.TheVariants.{Own, Outside}
use Rattle.survey.specs.declared.refusal.Refusal.TheVariants.{Number, Room}
use Rattle.sweep.specs.Members.{total}
use Rattle.sweep.specs.Sweep.{joined}
use Rattle.sweep.specs.Page.{is_before, every, is_clear, is_side, sides_to, sides_of, hull_of, facing, run_fan, grow, lead, page}
use Rattle.trace.specs.Side.{is_same, left_corner}
use Rattle.nearest.specs.Nearest.{squared_distance, nearest, neighbours}
use Rattle.normal.specs.Normal.{added, normal_at}
use Rattle.slopes.specs.Slopes.{slope_p, slope_q, slope_r, slope_s, slope_t}
use Rattle.triangles.specs.Order.{insert_in, in_order_below}
use Rattle.hull.specs.Hull.{is_right, is_between, is_hull_side}
use Rattle.triangles.specs.Mesh.{lowest_first, triangles}
use Rattle.circle.specs.Circle.{apart, circle}
use Rattle.hull.specs.MeshOf.{step_is}
use Rattle.listing.specs.Listed.{is_no_later, insert, listed}
use Rattle.fatter.specs.Fatter.{fatter}
use Rattle.fatter.specs.Swap.{may_swap, swaps_at, lower, higher, is_left as is_any_left, exchange, swap, swap_lowest, load, slack, swaps_up_to, swaps}
use Rattle.mesh.specs.Kinds.{triangles_of}
use Rattle.quintic.specs.Quintic.{steps_of, corner_of, steep_of, p41_of, p14_of, mixed_of, m_of, middle_of, coefficients, u_of, v_of, nested}
use Rattle.held.specs.Held.{is_left, is_held, interpolated}
use Rattle.height.specs.Height.{is_outside, height_at}
use Rattle.height.specs.Job.{heighted}

abbrev stations : Survey
stations = survey (46 ∷ 173 ∷ 187 ∷ 93 ∷ []) (320 ∷ 885 ∷ 433 ∷ 746 ∷ []) (negsuc 229 ∷ pos 353 ∷ pos 435 ∷ negsuc 201 ∷ [])

-- 'nested in v, then in u': at this place the other nesting gives other bits.
pub nested-height : height_gives (Ok (height_at stations (triangles stations) (place 128 557))) ≡ (0, pos 1 ∷ pos 0x405e9efeb6fab46a ∷ [])
unfolding height_at is_outside is_hull_side is_right is_between is_held is_left interpolated steps_of corner_of steep_of p41_of p14_of mixed_of m_of middle_of coefficients
    u_of v_of nested triangles lowest_first in_order_below insert_in page lead grow run_fan facing hull_of sides_of sides_to is_side is_clear every is_before joined turn
    slope_p slope_q slope_r slope_s slope_t normal_at added neighbours nearest squared_distance across climb rounded cut
    Ieee.to_bits Ieee.of_bits Ieee.of_int Ieee.add Ieee.sub Ieee.mul Ieee.div Ieee.neg
nested-height = refl

-- 'Kind 0 is the old mesh, 1 this one': a long kite, low at its far ends. The old mesh cuts it along, from low to low, and the other across,
-- from high to high.
abbrev kite : Survey
kite = survey (5 ∷ 4 ∷ 6 ∷ 5 ∷ []) (0 ∷ 10 ∷ 10 ∷ 20 ∷ []) (pos 0 ∷ pos 10 ∷ pos 10 ∷ pos 0 ∷ [])

pub either-kind :
    (height_gives (heighted kite 0 (place 5 10) 20 64) ≡ (0, pos 1 ∷ pos 0x3ffaaa2c00000000 ∷ []))
    × (height_gives (heighted kite 1 (place 5 10) 20 64) ≡ (0, pos 1 ∷ pos 0x4020aaab00000004 ∷ []))
unfolding checked is_repeat is_one_line height_at is_outside is_hull_side is_right is_between is_held is_left interpolated steps_of corner_of steep_of p41_of p14_of mixed_of m_of
    middle_of coefficients u_of v_of nested triangles_of triangles lowest_first in_order_below insert_in page lead grow run_fan facing hull_of sides_of sides_to is_side
    is_clear every is_before joined turn slope_p slope_q slope_r slope_s slope_t normal_at added neighbours nearest squared_distance across climb rounded cut
    fatter listed insert is_no_later swaps swaps_up_to slack load total is_any_left swaps_at lower higher may_swap swap_lowest swap exchange step_is left_corner is_same
    circle apart Ieee.to_bits Ieee.of_bits Ieee.of_int Ieee.add Ieee.sub Ieee.mul Ieee.div Ieee.neg
either-kind = (refl, refl)

-- The survey that document 01 prints: a station, a place on the hull's edge, a place outside, a kind that there is not, a place out of range, and
-- rooms too short.
abbrev printed : Survey
printed = survey (0 ∷ 8 ∷ 0 ∷ []) (0 ∷ 0 ∷ 8 ∷ []) (pos 0 ∷ pos 10 ∷ pos 10 ∷ [])

pub on_a_station : heighted printed 0 (place 8 0) 15 48 ≡ Ok (Own (pos 10))
unfolding checked is_repeat is_one_line height_at turn
on_a_station = refl

-- 5 is 0x4014000000000000.
pub on_the-edge : height_gives (heighted printed 0 (place 4 0) 15 48) ≡ (0, pos 1 ∷ pos 0x4014000000000000 ∷ [])
unfolding checked is_repeat is_one_line height_at is_outside is_hull_side is_right is_between is_held is_left interpolated steps_of corner_of steep_of p41_of p14_of mixed_of m_of
    middle_of coefficients u_of v_of nested triangles_of triangles lowest_first in_order_below insert_in page lead grow run_fan facing hull_of sides_of sides_to is_side
    is_clear every is_before joined turn slope_p slope_q slope_r slope_s slope_t normal_at added neighbours nearest squared_distance across climb rounded cut
    Ieee.to_bits Ieee.of_bits Ieee.of_int Ieee.add Ieee.sub Ieee.mul Ieee.div Ieee.neg
on_the-edge = refl

pub beyond-the-edge : heighted printed 0 (place 8 8) 15 48 ≡ Ok Outside
unfolding checked is_repeat is_one_line height_at is_outside is_hull_side is_right is_between is_left is_before turn
beyond-the-edge = refl

pub no_such-kind : heighted printed 2 (place 8 0) 15 48 ≡ Err Number
unfolding checked is_repeat is_one_line turn
no_such-kind = refl

pub out_of_range : heighted printed 0 (place 8192 0) 0 0 ≡ Err Number
unfolding checked is_repeat is_one_line turn
out_of_range = refl

pub slopes-short : heighted printed 0 (place 8 0) 14 48 ≡ Err Room
unfolding checked is_repeat is_one_line turn
slopes-short = refl

pub work-short : heighted printed 0 (place 8 0) 15 47 ≡ Err Room
unfolding checked is_repeat is_one_line turn
work-short = refl
