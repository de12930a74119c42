-- Every row of the table of known maps holds, by computation; those of the served ground by `square-figures` of `parcels`. Assumes nothing.
use mathlib.Core.Path.{refl}
use mathlib.Core.Bool.{xor}
use Rattle.whole.specs.Cut.{cut}
use Rattle.whole.specs.Rounding.{rounded}
use Rattle.whole.specs.Turn.{across, climb, turn}
use Rattle.survey.specs.Checks.{is_repeat, is_one_line, checked}
use Rattle.sweep.specs.Sweep.{joined}
use Rattle.sweep.specs.Page.{is_before, every, is_clear, is_side, sides_to, sides_of, hull_of, facing, run_fan, grow, lead, page}
use Rattle.curve.specs.Weights.{weight_of}
use Rattle.curve.specs.Curve.{slope_d, slope_e, control_heights, weighed, smooth_at, curve_of}
use Rattle.curve.specs.Bracket.{bracket_of}
use Rattle.curve.specs.Spot.{spot_at}
use Rattle.trace.specs.Side.{is_same, side_of, left_corner, is_side as is_side_of, inward}
use Rattle.trace.specs.Crossed.{is_crossed, row, rows, crossed}
use Rattle.trace.specs.Lines.{remove, strike, first_hull, open_lines, closed_lines, passed, lines_over, lines, vertices, record_of, records}
use Rattle.trace.specs.Mesh.{count}
use Rattle.trace.specs.Walk.{next, walk}
use Rattle.nearest.specs.Nearest.{squared_distance, nearest, neighbours}
use Rattle.normal.specs.Normal.{added, normal_at}
use Rattle.slopes.specs.Slopes.{slope_p, slope_q, slope_r, slope_s, slope_t}
use Rattle.triangles.specs.Order.{insert_in, in_order_below}
use Rattle.triangles.specs.Mesh.{lowest_first, triangles}
use Rattle.spots.specs.Lines.{lines_of, spot_on, spots_of}
use Rattle.parcels.proofs.KnownGround.{square-figures}
use Rattle.promises.specs.KnownMaps.{AllHold, known_maps}

pub known-maps : AllHold known_maps
unfolding
    triangles lowest_first in_order_below insert_in page lead grow run_fan facing hull_of sides_of sides_to is_side is_clear every is_before joined turn
    is_same side_of left_corner is_side_of inward is_crossed row rows crossed next walk remove strike first_hull open_lines closed_lines passed
    lines_over lines vertices record_of records count lines_of spot_on spots_of
    xor bracket_of curve_of spot_at smooth_at weighed weight_of control_heights slope_d slope_e
    slope_p slope_q slope_r slope_s slope_t normal_at added neighbours nearest squared_distance across climb rounded cut
    checked is_repeat is_one_line
known-maps = (
  λ zs. refl,
  (
    λ zs. refl,
    ((refl, refl), ((refl, refl), ((refl, refl), ((refl, refl), (refl, (refl, (refl, (refl, (refl, (refl, (refl, (refl, (refl, ((refl, refl), ((refl, refl), ((refl, refl), (square-figures.1, (square-figures.2, (square-figures.0, (refl, (refl, tt))))))))))))))))))))),
  ),
)
