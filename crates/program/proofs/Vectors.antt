-- The program's whole output on the survey that document 01 prints, in both styles, on one with a level that nothing crosses, and on
-- refused ones, by computation. Assumes nothing.
use mathlib.Core.Path.{◌≡◌, refl}
use mathlib.Core.Bool.{xor}
use mathlib.Core.List.{List, [], ◌∷◌, ◌++◌}
use Prim.Native.Nat.{ℕ}
use Rattle.whole.specs.Turn.{across, climb, turn}
use Rattle.whole.specs.Rounding.{rounded}
use Rattle.whole.specs.Cut.{cut}
use Rattle.survey.specs.Checks.{is_repeat, is_one_line, checked}
use Rattle.shapes.specs.Line.{read, said, is_used}
use Rattle.shapes.specs.Bytes.{digits_of, value_bytes}
use Rattle.forms.specs.Form.{feed}
use Rattle.forms.specs.Written.{written}
use Rattle.formats.specs.Surveys.{stations as station_form, level_lines}
use Rattle.formats.specs.Contours.{drawn, vertices as vertex_form}
use Rattle.rendering.specs.Scan.{scanned}
use Rattle.rendering.specs.Values.{filed_by}
use Rattle.sweep.specs.Sweep.{joined}
use Rattle.sweep.specs.Page.{is_before, every, is_clear, is_side as is_page_side, sides_to, sides_of, hull_of, facing, run_fan, grow, lead, page}
use Rattle.triangles.specs.Order.{insert_in, in_order_below}
use Rattle.triangles.specs.Mesh.{lowest_first, triangles}
use Rattle.trace.specs.Side.{is_same, side_of, left_corner, is_side, inward}
use Rattle.trace.specs.Crossed.{is_crossed, row, rows, crossed}
use Rattle.trace.specs.Lines.{remove, strike, first_hull, open_lines, closed_lines, passed, lines_over, lines, vertices, record_of, records}
use Rattle.trace.specs.Walk.{next, walk}
use Rattle.curve.specs.Bracket.{bracket_of}
use Rattle.curve.specs.Curve.{slope_d, slope_e, control_heights, weighed, smooth_at, curve_of}
use Rattle.curve.specs.Weights.{weight_of}
use Rattle.nearest.specs.Nearest.{squared_distance, nearest, neighbours}
use Rattle.normal.specs.Normal.{added, normal_at}
use Rattle.slopes.specs.Slopes.{slope_p, slope_q, slope_r, slope_s, slope_t}
use Rattle.curve.specs.Spot.{spot_at}
use Rattle.spots.specs.Lines.{lines_of, spot_on, spots_of}
use Rattle.contour.specs.Contour.{heading_of, block_of, refusal_of}
use Rattle.mesh.specs.Kinds.{triangles_of}
use Rattle.program.specs.Program.{judged, contour_text}

-- style=straight, style=smooth
abbrev straight_line : List ℕ
straight_line = 115 ∷ 116 ∷ 121 ∷ 108 ∷ 101 ∷ 61 ∷ 115 ∷ 116 ∷ 114 ∷ 97 ∷ 105 ∷ 103 ∷ 104 ∷ 116 ∷ 10 ∷ []

abbrev smooth_line : List ℕ
smooth_line = 115 ∷ 116 ∷ 121 ∷ 108 ∷ 101 ∷ 61 ∷ 115 ∷ 109 ∷ 111 ∷ 111 ∷ 116 ∷ 104 ∷ 10 ∷ []

-- survey=1 / style / points=3, with the style's line
abbrev heading : List ℕ → List ℕ
heading style =
    115 ∷ 117 ∷ 114 ∷ 118 ∷ 101 ∷ 121 ∷ 61 ∷ 49 ∷ 10
    ∷ style ++ (112 ∷ 111 ∷ 105 ∷ 110 ∷ 116 ∷ 115 ∷ 61 ∷ 51 ∷ 10 ∷ [])

-- tag=A7 / x=0 / y=0 / z=0 / tag=a7 / x=8 / y=0 / z=10 / tag=B1 / x, y / z=10, with the digits of the last x and y
abbrev stations : ℕ → ℕ → List ℕ
stations x y =
    116 ∷ 97 ∷ 103 ∷ 61 ∷ 65 ∷ 55 ∷ 10
    ∷ 120 ∷ 61 ∷ 48 ∷ 10
    ∷ 121 ∷ 61 ∷ 48 ∷ 10
    ∷ 122 ∷ 61 ∷ 48 ∷ 10
    ∷ 116 ∷ 97 ∷ 103 ∷ 61 ∷ 97 ∷ 55 ∷ 10
    ∷ 120 ∷ 61 ∷ 56 ∷ 10
    ∷ 121 ∷ 61 ∷ 48 ∷ 10
    ∷ 122 ∷ 61 ∷ 49 ∷ 48 ∷ 10
    ∷ 116 ∷ 97 ∷ 103 ∷ 61 ∷ 66 ∷ 49 ∷ 10
    ∷ 120 ∷ 61 ∷ x ∷ 10
    ∷ 121 ∷ 61 ∷ y ∷ 10
    ∷ 122 ∷ 61 ∷ 49 ∷ 48 ∷ 10 ∷ []

-- levels=1 / level=5
abbrev level : List ℕ
level =
    108 ∷ 101 ∷ 118 ∷ 101 ∷ 108 ∷ 115 ∷ 61 ∷ 49 ∷ 10
    ∷ 108 ∷ 101 ∷ 118 ∷ 101 ∷ 108 ∷ 61 ∷ 53 ∷ 10 ∷ []

-- levels=2 / level=5 / level=11
abbrev two_levels : List ℕ
two_levels =
    108 ∷ 101 ∷ 118 ∷ 101 ∷ 108 ∷ 115 ∷ 61 ∷ 50 ∷ 10
    ∷ 108 ∷ 101 ∷ 118 ∷ 101 ∷ 108 ∷ 61 ∷ 53 ∷ 10
    ∷ 108 ∷ 101 ∷ 118 ∷ 101 ∷ 108 ∷ 61 ∷ 49 ∷ 49 ∷ 10 ∷ []

-- level=11 / lines=0
abbrev uncrossed : List ℕ
uncrossed = 108 ∷ 101 ∷ 118 ∷ 101 ∷ 108 ∷ 61 ∷ 49 ∷ 49 ∷ 10 ∷ 108 ∷ 105 ∷ 110 ∷ 101 ∷ 115 ∷ 61 ∷ 48 ∷ 10 ∷ []

-- 'Output, whole: contours=1 / style=straight / level=5 / lines=1 / kind=open / vertices=2 / x=504 / y=0 / x=0 / y=504', with the style's
-- line
abbrev printed : List ℕ → List ℕ
printed style =
    99 ∷ 111 ∷ 110 ∷ 116 ∷ 111 ∷ 117 ∷ 114 ∷ 115 ∷ 61 ∷ 49 ∷ 10
    ∷ style ++ (
    108 ∷ 101 ∷ 118 ∷ 101 ∷ 108 ∷ 61 ∷ 53 ∷ 10
    ∷ 108 ∷ 105 ∷ 110 ∷ 101 ∷ 115 ∷ 61 ∷ 49 ∷ 10
    ∷ 107 ∷ 105 ∷ 110 ∷ 100 ∷ 61 ∷ 111 ∷ 112 ∷ 101 ∷ 110 ∷ 10
    ∷ 118 ∷ 101 ∷ 114 ∷ 116 ∷ 105 ∷ 99 ∷ 101 ∷ 115 ∷ 61 ∷ 50 ∷ 10
    ∷ 120 ∷ 61 ∷ 53 ∷ 48 ∷ 52 ∷ 10
    ∷ 121 ∷ 61 ∷ 48 ∷ 10
    ∷ 120 ∷ 61 ∷ 48 ∷ 10
    ∷ 121 ∷ 61 ∷ 53 ∷ 48 ∷ 52 ∷ 10 ∷ [])

-- refused=N / at=M, by their digits
abbrev refused : ℕ → ℕ → List ℕ
refused number at = 114 ∷ 101 ∷ 102 ∷ 117 ∷ 115 ∷ 101 ∷ 100 ∷ 61 ∷ number ∷ 10 ∷ 97 ∷ 116 ∷ 61 ∷ at ∷ 10 ∷ []

-- The example; the same in the smooth style, T8; with one level more; no text at all; station 2 at the place of station 1; all stations on
-- one line.
pub record KnownTexts : Type 0 where
  pub example : contour_text 0 (heading straight_line ++ (stations 48 56 ++ level)) ≡ printed straight_line
  pub smooth : contour_text 0 (heading smooth_line ++ (stations 48 56 ++ level)) ≡ printed smooth_line
  pub two-levels : contour_text 0 (heading straight_line ++ (stations 48 56 ++ two_levels)) ≡ printed straight_line ++ uncrossed
  pub no_text : contour_text 0 [] ≡ refused 55 49
  pub same_place : contour_text 0 (heading straight_line ++ (stations 56 48 ++ level)) ≡ refused 51 50
  pub one_line : contour_text 0 (heading straight_line ++ (stations 52 48 ++ level)) ≡ refused 52 48

pub known-texts : KnownTexts
unfolding
    contour_text triangles_of judged scanned feed read said is_used station_form level_lines filed_by checked is_repeat is_one_line turn heading_of block_of refusal_of
    written value_bytes digits_of drawn vertex_form lines_of spot_on spots_of bracket_of curve_of spot_at triangles lowest_first in_order_below insert_in page lead grow
    run_fan facing hull_of sides_of sides_to is_page_side is_clear every is_before joined is_same side_of left_corner is_side inward is_crossed row rows
    crossed next walk remove strike first_hull open_lines closed_lines passed lines_over lines vertices record_of records xor
    squared_distance nearest neighbours added normal_at slope_p slope_q slope_r slope_s slope_t rounded cut slope_d slope_e control_heights weighed
    smooth_at weight_of across climb
known-texts = record { example = refl; smooth = refl; two-levels = refl; no_text = refl; same_place = refl; one_line = refl }
