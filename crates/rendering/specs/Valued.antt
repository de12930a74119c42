-- The values of a right survey text by their places, each in its range: document 01, "Text". Assumes nothing.
use Rattle.std.specs.Prelude.{◌≡◌, false, List, ℕ, zero, suc, ◌+◌, ◌*◌, ◌<◌, ◌≤◌, pos, length}
use Rattle.lists.specs.Table.{table}
use Rattle.shapes.specs.Line.{is_used}
use Rattle.shapes.specs.Ranges.{IsWord}
use Rattle.survey.specs.Limits.{least_stations, most_stations, most_coordinate, most_height, most_levels}
use Rattle.formats.specs.Lines.{told, least_height}
use Rattle.formats.specs.Surveys.{above}
use Rattle.rendering.specs.Values.{value_at, points_in, levels_in, tag_in, x_in, y_in}

-- Station i is in its ranges, and no station before it has its tag.
pub record Station (vs : List ℕ) (i : ℕ) : Type 0 where
  pub word : IsWord (tag_in vs i)
  pub free : is_used (table (tag_in vs) i) (tag_in vs i) ≡ false
  pub x : x_in vs i ≤ most_coordinate
  pub y : y_in vs i ≤ most_coordinate
  pub z : (least_height ≤ value_at vs (6 + 4 * i)) × (value_at vs (6 + 4 * i) ≤ told (pos most_height))

-- The least that level k may be, of levels as they are told: one above the level before it.
abbrev pub floor_by : (ℕ → ℕ) → ℕ → ℕ
floor_by level zero = least_height
floor_by level (suc k) = above (level k)

abbrev pub Level : (ℕ → ℕ) → ℕ → Type 0
Level level k = (floor_by level k ≤ level k) × (level k ≤ told (pos most_height))

abbrev pub level_at : List ℕ → ℕ → ℕ
level_at vs k = value_at vs (4 + 4 * points_in vs + k)

-- The values of a right text, and that each has a room for it.
pub record Valued (vs : List ℕ) : Type 0 where
  pub long : length vs ≡ 4 + 4 * points_in vs + levels_in vs
  pub edition : value_at vs 0 ≡ 1
  pub style : value_at vs 1 ≤ 1
  pub least : least_stations ≤ points_in vs
  pub most : points_in vs ≤ most_stations
  pub station : (i : ℕ) → i < points_in vs → Station vs i
  pub some_level : 1 ≤ levels_in vs
  pub levels : levels_in vs ≤ most_levels
  pub rise : (k : ℕ) → k < levels_in vs → Level (level_at vs) k
  pub x : (i : ℕ) → i < points_in vs → x_in vs i < 65536
  pub y : (i : ℕ) → i < points_in vs → y_in vs i < 65536
  pub z : (i : ℕ) → i < points_in vs → value_at vs (6 + 4 * i) < 65536
  pub level : (k : ℕ) → k < levels_in vs → level_at vs k < 65536
