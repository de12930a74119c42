-- What demand 2 asks of a survey: 'in range, with distinct places not all on one line'. Assumes nothing.
use Rattle.std.specs.Prelude.{true, ◌≡◌, ℕ, ◌<◌, ◌≤◌, pos, length}
use Rattle.whole.specs.Range.{Within}
use Rattle.whole.specs.Turn.{turn}
use Rattle.survey.specs.Limits.{least_stations, most_stations, most_coordinate, most_height}
use Rattle.survey.specs.Survey.{Survey, count, place_of, height_of, in_use}

-- Three stations that are not in line.
pub record OffLine (s : Survey) : Type 0 where
  pub i : ℕ
  pub j : ℕ
  pub k : ℕ
  pub i-used : in_use s i ≡ true
  pub j-used : in_use s j ≡ true
  pub k-used : in_use s k ≡ true
  pub turned : turn (place_of s i) (place_of s j) (place_of s k) ≡ pos 0 → ⊥

pub record Fit (s : Survey) : Type 0 where
  pub ys-count : length s.ys ≡ count s
  pub zs-count : length s.zs ≡ count s
  pub least : least_stations ≤ count s
  pub most : count s ≤ most_stations
  pub x-range : (k : ℕ) → k < count s → (place_of s k).x ≤ most_coordinate
  pub y-range : (k : ℕ) → k < count s → (place_of s k).y ≤ most_coordinate
  pub z-range : (k : ℕ) → k < count s → Within most_height (height_of s k)
  pub apart : (j k : ℕ) → j < k → in_use s j ≡ true → in_use s k ≡ true → place_of s j ≡ place_of s k → ⊥
  pub spread : OffLine s
