-- What a survey that passed the checks says of its places, which is all that the neighbours depend on. Assumes nothing.
use Rattle.std.specs.Prelude.{true, List, [], ◌≡◌, ℕ, ◌<◌, ◌≤◌, ℤ, pos, length, get_or}
use Rattle.whole.specs.Range.{Within}
use Rattle.survey.specs.Fit.{OffLine}
use Rattle.survey.specs.Limits.{least_stations, most_stations, most_coordinate}
use Rattle.survey.specs.Survey.{Survey, survey, place_of, in_use}

-- Stations with no heights.
abbrev pub places : List ℕ → List ℕ → Survey
places xs ys = survey xs ys []

-- `Fit`, but for the heights.
pub record Placed (xs ys : List ℕ) : Type 0 where
  pub ys-count : length ys ≡ length xs
  pub least : least_stations ≤ length xs
  pub most : length xs ≤ most_stations
  pub x-range : (k : ℕ) → k < length xs → (place_of (places xs ys) k).x ≤ most_coordinate
  pub y-range : (k : ℕ) → k < length xs → (place_of (places xs ys) k).y ≤ most_coordinate
  pub apart : (j k : ℕ) → j < k → in_use (places xs ys) j ≡ true → in_use (places xs ys) k ≡ true → place_of (places xs ys) j ≡ place_of (places xs ys) k → ⊥
  pub spread : OffLine (places xs ys)

-- The value of each station in a list, and a list of values of which each is within a bound.
abbrev pub value_in : List ℤ → ℕ → ℤ
value_in hs k = get_or hs k (pos 0)

pub record High (bound : ℕ) (xs : List ℕ) (hs : List ℤ) : Type 0 where
  pub enough : length xs ≤ length hs
  pub within : (k : ℕ) → k < length xs → Within bound (value_in hs k)
