-- The bytes of a station's lines and of a level's: document 01, "Text". Assumes nothing.
use Rattle.std.specs.Prelude.{List, ◌++◌, ℕ, ℤ, pos, get_or}
use Rattle.shapes.specs.Bytes.{line_bytes}
use Rattle.survey.specs.Limits.{most_coordinate}
use Rattle.formats.specs.Lines.{told, least_height, tag_line, x_line, y_line, z_line, level_line}
use Rattle.rendering.specs.Filed.{tag_number}

-- 'tag, x, y, z for each station', by these values and by the lists.
abbrev pub row_text : ℕ → ℕ → ℕ → ℕ → List ℕ
row_text tag x y z =
    line_bytes tag_line tag ++ (line_bytes (x_line most_coordinate) x ++ (line_bytes (y_line most_coordinate) y ++ line_bytes z_line z))

unfoldable pub station_text : List ℕ → List ℕ → List ℕ → List ℤ → ℕ → List ℕ
station_text tags xs ys zs i = row_text (tag_number tags i) (get_or xs i 0) (get_or ys i 0) (told (get_or zs i (pos 0)))

-- 'one level line each'
unfoldable pub level_text : List ℤ → ℕ → List ℕ
level_text levels k = line_bytes (level_line least_height) (told (get_or levels k (pos 0)))
