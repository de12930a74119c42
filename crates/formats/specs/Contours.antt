-- Contour text, line by line: document 01, "Text", and document 02, L2 and L6. Assumes nothing.
use Rattle.std.specs.Prelude.{[], ℕ, zero, suc, ◌-◌, ◌*◌}
use Rattle.forms.specs.Form.{Form, end, line, may}
use Rattle.survey.specs.Limits.{most_stations, most_coordinate, most_levels}
use Rattle.survey.specs.Rooms.{vertex_room, record_room}
use Rattle.formats.specs.Lines.{least_height, contours_line, style_line, x_line, y_line, level_line, lines_line, kind_line, vertices_line, exact_line}
use Rattle.formats.specs.Surveys.{above, plain}

-- 'x and y run from 0 to 1,048,448', in 128ths
abbrev pub most_spot : ℕ
most_spot = 128 * most_coordinate

-- n vertices. `exact` is what follows a y.
unfoldable pub vertices : (Form → Form) → ℕ → Form → Form
vertices exact zero rest = rest
vertices exact (suc n) rest = line (x_line most_spot) [] (λ x. line (y_line most_spot) [] (λ y. exact (vertices exact n rest)))

-- n lines, to which `left` vertices may still be given: 'at the vertices or lines line that passes the limit'.
unfoldable pub drawn : (Form → Form) → ℕ → ℕ → Form → Form
drawn exact zero left rest = rest
drawn exact (suc n) left rest =
    line kind_line [] (λ k. line (vertices_line k left) [] (λ v. vertices exact v (drawn exact n (left - v) rest)))

-- The lines of a level: no more of them, nor of vertices, 'than the largest survey can give'.
abbrev pub from_lines : (Form → Form) → Form → Form
from_lines exact rest = line (lines_line (record_room most_stations)) [] (λ n. drawn exact n (vertex_room most_stations) rest)

-- At most m levels more, each above the last: 'Further levels repeat from the level line.'
unfoldable pub further : (Form → Form) → ℕ → ℕ → Form
further exact zero least = end
further exact (suc m) least = may (level_line least) [] (λ v. from_lines exact (further exact m (above v)))

-- 'levels rising, 1 to 64 of them'
abbrev pub contours : ℕ → (Form → Form) → Form
contours edition exact =
    line (contours_line edition) [] (λ e. line style_line [] (λ s. line (level_line least_height) [] (λ v. from_lines exact (further exact (most_levels - 1) (above v)))))

abbrev pub contours1 : Form
contours1 = contours 1 plain

-- 'contours=2 with exact=0 or exact=1 after each y'
abbrev pub with_exact : Form → Form
with_exact rest = line exact_line [] (λ m. rest)

abbrev pub contours2 : Form
contours2 = contours 2 with_exact

-- The heading alone, and the block of one level, as they are written: 'contours=1 / style=straight', 'level=5 / lines=1' and the lines.
abbrev pub heading : Form
heading = line (contours_line 1) [] (λ e. line style_line [] (λ s. end))

abbrev pub block : Form
block = line (level_line least_height) [] (λ v. from_lines plain end)
