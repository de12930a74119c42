-- The values of the lines of a survey's text, and the survey of such values: document 01, "Text". Assumes nothing.
use Rattle.std.specs.Prelude.{List, [], ◌∷◌, ◌++◌, ℕ, ◌+◌, ◌*◌, ◌-◌, ℤ, pos, neg_ℤ, ◌+ℤ◌, length, get_or, replicate}
use Rattle.lists.specs.Rows.{rows}
use Rattle.lists.specs.Table.{table}
use Rattle.shapes.specs.Line.{zero_at}
use Rattle.shapes.specs.Bytes.{word_bytes}
use Rattle.survey.specs.Limits.{most_tag}
use Rattle.formats.specs.Lines.{told}
use Rattle.rendering.specs.Filed.{Filed, filed, count, tag_number}

-- 'tag, x, y, z for each station'
abbrev pub station_values : Filed → ℕ → List ℕ
station_values s i = tag_number s.tags i ∷ get_or s.xs i 0 ∷ get_or s.ys i 0 ∷ told (get_or s.zs i (pos 0)) ∷ []

abbrev pub level_value : Filed → ℕ → ℕ
level_value s k = told (get_or s.levels k (pos 0))

-- 'survey=1, style, points, then tag, x, y, z for each station, then levels (1 to 64) and one level line each'
unfoldable pub values_of : Filed → List ℕ
values_of s =
    1 ∷ s.style ∷ count s ∷ (rows (station_values s) (count s) ++ (length s.levels ∷ table (level_value s) (length s.levels)))

-- A whole number by what is told of it.
abbrev pub untold : ℕ → ℤ
untold v = pos v +ℤ neg_ℤ (pos zero_at)

-- The 8 bytes of a tag, 'the unused end of each zero'.
abbrev pub tag_row : ℕ → List ℕ
tag_row w = word_bytes w ++ replicate (most_tag - length (word_bytes w)) 0

-- Value k of a list of them. Of a survey's values three stand before the first station, and each station has four.
abbrev pub value_at : List ℕ → ℕ → ℕ
value_at vs k = get_or vs k 0

abbrev pub points_in : List ℕ → ℕ
points_in vs = value_at vs 2

abbrev pub levels_in : List ℕ → ℕ
levels_in vs = value_at vs (3 + 4 * points_in vs)

abbrev pub tag_in : List ℕ → ℕ → ℕ
tag_in vs i = value_at vs (3 + 4 * i)

abbrev pub x_in : List ℕ → ℕ → ℕ
x_in vs i = value_at vs (4 + 4 * i)

abbrev pub y_in : List ℕ → ℕ → ℕ
y_in vs i = value_at vs (5 + 4 * i)

abbrev pub z_in : List ℕ → ℕ → ℤ
z_in vs i = untold (value_at vs (6 + 4 * i))

abbrev pub level_in : List ℕ → ℕ → ℤ
level_in vs k = untold (value_at vs (4 + 4 * points_in vs + k))

unfoldable pub filed_by : List ℕ → Filed
filed_by vs =
    let n = points_in vs in
    filed (value_at vs 1) (rows (λ i. tag_row (tag_in vs i)) n) (table (x_in vs) n) (table (y_in vs) n) (table (z_in vs) n) (table (level_in vs) (levels_in vs))
