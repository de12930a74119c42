-- The whole report on the survey that document 01 prints, with one level more, in both styles, and on refused ones, by computation.
-- Assumes nothing.
--
-- In 128ths the stations are (0,0), (1024,0) and (0,1024). Level 5 cuts off (0,0) at (504,0) and (0,504): 504 · 504 of 1024 · 1024 is below. Level
-- 10 cuts it off at (1016,0) and (0,1016).
use mathlib.Core.Path.{◌≡◌, refl}
use mathlib.Core.Bool.{xor}
use mathlib.Core.List.{List, [], ◌++◌}
use Prim.Native.Nat.{ℕ}
use Prim.Native.String.{String}
use Rattle.whole.specs.Turn.{across, climb, turn}
use Rattle.whole.specs.Rounding.{rounded}
use Rattle.whole.specs.Cut.{cut}
use Rattle.survey.specs.Checks.{is_repeat, is_one_line, checked}
use Rattle.shapes.specs.Line.{read, said, is_used}
use Rattle.shapes.specs.Bytes.{digits_of, value_bytes}
use Rattle.forms.specs.Form.{feed}
use Rattle.forms.specs.Written.{written}
use Rattle.formats.specs.Surveys.{stations as station_form, level_lines}
use Rattle.formats.proofs.Examples.{bytes}
use Rattle.rendering.specs.Scan.{scanned}
use Rattle.rendering.specs.Values.{filed_by}
use Rattle.sweep.specs.Hull.{cross}
use Rattle.sweep.specs.Members.{sum}
use Rattle.sweep.specs.Sweep.{joined}
use Rattle.sweep.specs.Page.{is_before, every, is_clear, is_side, sides_to, sides_of, hull_of, facing, run_fan, grow, lead, page}
use Rattle.triangles.specs.Order.{insert_in, in_order_below}
use Rattle.triangles.specs.Mesh.{lowest_first, triangles}
use Rattle.trace.specs.Side.{side_of}
use Rattle.trace.specs.Crossed.{is_crossed}
use Rattle.curve.specs.Bracket.{bracket_of}
use Rattle.curve.specs.Curve.{slope_d, slope_e, control_heights, weighed, smooth_at, curve_of}
use Rattle.curve.specs.Spot.{spot_at}
use Rattle.curve.specs.Weights.{weight_of}
use Rattle.nearest.specs.Nearest.{squared_distance, nearest, neighbours}
use Rattle.normal.specs.Normal.{added, normal_at}
use Rattle.slopes.specs.Slopes.{slope_p, slope_q, slope_r, slope_s, slope_t}
use Rattle.spots.specs.Lines.{spot_on}
use Rattle.mesh.specs.Kinds.{triangles_of}
use Rattle.ground.specs.Segments.{spot_place, side_spots}
use Rattle.parcels.specs.Area.{onward, twice_within}
use Rattle.parcels.specs.Parts.{corner_on, part_of}
use Rattle.parcels.specs.Served.{ground_of}
use Rattle.contour.specs.Contour.{refusal_of}
use Rattle.report.specs.Report.{heading_of, block_of}
use Rattle.program.specs.Program.{judged}
use Rattle.reporting.specs.Reporting.{report_text}

-- The survey in a style, with the last station's place.
abbrev example : String → String → List ℕ
example style place =
    bytes "survey=1\nstyle=" ++ bytes style ++ bytes "\npoints=3\ntag=A7\nx=0\ny=0\nz=0\ntag=a7\nx=8\ny=0\nz=10\ntag=B1\n" ++ bytes place
    ++ bytes "z=10\nlevels=2\nlevel=5\nlevel=10\n"

abbrev reported : String → List ℕ
reported style =
    bytes "served=1\nstyle=" ++ bytes style ++ bytes "\nlevel=5\nserved=794560\nunserved=254016\nlevel=10\nserved=16320\nunserved=1032256\n"

-- Both styles; no text at all; station 2 at the place of station 1; all stations on one line.
pub record KnownReports : Type 0 where
  pub straight : report_text 0 (example "straight" "x=0\ny=8\n") ≡ reported "straight"
  pub smooth : report_text 0 (example "smooth" "x=0\ny=8\n") ≡ reported "smooth"
  pub no_text : report_text 0 [] ≡ bytes "refused=7\nat=1\n"
  pub same_place : report_text 0 (example "straight" "x=8\ny=0\n") ≡ bytes "refused=3\nat=2\n"
  pub one_line : report_text 0 (example "straight" "x=4\ny=0\n") ≡ bytes "refused=4\nat=0\n"

pub known-reports : KnownReports
unfolding
    report_text triangles_of judged scanned feed read said is_used station_form level_lines filed_by checked is_repeat is_one_line turn heading_of block_of refusal_of
    written value_bytes digits_of ground_of sum twice_within onward cross part_of corner_on side_spots spot_place spot_on side_of is_crossed spot_at bracket_of curve_of
    triangles lowest_first in_order_below insert_in page lead grow run_fan facing hull_of sides_of sides_to is_side is_clear every is_before joined xor
    squared_distance nearest neighbours added normal_at slope_p slope_q slope_r slope_s slope_t rounded cut slope_d slope_e control_heights weighed
    smooth_at weight_of across climb
known-reports = record { straight = refl; smooth = refl; no_text = refl; same_place = refl; one_line = refl }
