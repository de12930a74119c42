-- The bytes of a block, part by part as they are put one behind the other. Assumes nothing.
use Rattle.std.specs.Prelude.{List, ◌++◌, ℕ, ◌+◌, length, get_or}
use Rattle.shapes.specs.Bytes.{line_bytes}
use Rattle.lists.specs.Rows.{rows}
use Rattle.survey.specs.Limits.{most_stations}
use Rattle.survey.specs.Rooms.{vertex_room, record_room}
use Rattle.formats.specs.Lines.{least_height, x_line, y_line, level_line, lines_line, kind_line, vertices_line}
use Rattle.formats.specs.Contours.{most_spot}
use Rattle.plotting.specs.Records.{vertices_of, kind_of, vertices_before}

-- Vertex i, and the n from vertex `from` on.
abbrev pub vertex_bytes : List ℕ → List ℕ → ℕ → List ℕ
vertex_bytes xs ys i = line_bytes (x_line most_spot) (get_or xs i 0) ++ line_bytes (y_line most_spot) (get_or ys i 0)

abbrev pub vertices_bytes : List ℕ → List ℕ → ℕ → ℕ → List ℕ
vertices_bytes xs ys from n = rows (λ j. vertex_bytes xs ys (from + j)) n

-- The line of record r, and all lines. The bytes of a number do not show its range.
abbrev pub count_bytes : ℕ → List ℕ
count_bytes n = line_bytes (vertices_line 0 (vertex_room most_stations)) n

abbrev pub drawn_bytes : List ℕ → List ℕ → ℕ → ℕ → List ℕ
drawn_bytes xs ys from r = (line_bytes kind_line (kind_of r) ++ count_bytes (vertices_of r)) ++ vertices_bytes xs ys from (vertices_of r)

abbrev pub lines_bytes : List ℕ → List ℕ → List ℕ → ℕ → List ℕ
lines_bytes records xs ys n = rows (λ i. drawn_bytes xs ys (vertices_before records i) (get_or records i 0)) n

-- The level, told 32,768 above itself, the count of lines, and the lines.
abbrev pub block_bytes : ℕ → List ℕ → List ℕ → List ℕ → List ℕ
block_bytes level records xs ys =
    (line_bytes (level_line least_height) level ++ line_bytes (lines_line (record_room most_stations)) (length records)) ++ lines_bytes records xs ys (length records)
