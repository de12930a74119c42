-- What the rooms are filled from: the values of a right text, by their places. Assumes nothing.
use Rattle.std.specs.Prelude.{ℕ, ◌+◌, ◌*◌, ◌≤◌, ◌<◌, List, ◌≡◌, length, get_or}
use Rattle.survey.specs.Limits.{most_stations}
use Rattle.survey.specs.Rooms.{tag_room}

-- The value that stands i steps behind a place.
abbrev pub every : List ℕ → ℕ → ℕ → ℕ → ℕ
every values first step i = get_or values (first + step * i) 0

-- Values of 16 bits, n of them, that stand a step apart.
abbrev pub Apart : List ℕ → ℕ → ℕ → ℕ → Type 0
Apart values first step n = (i : ℕ) → i < n → (first + step * i < length values) × (every values first step i < 65536)

-- Of n stations and m levels: how many values there are, and that each fits its room.
pub record Laid (values : List ℕ) (n m : ℕ) : Type 0 where
  pub long : length values ≡ 4 + 4 * n + m
  pub most : n ≤ most_stations
  pub style : get_or values 1 0 ≤ 1
  pub x : (i : ℕ) → i < n → every values 4 4 i < 65536
  pub y : (i : ℕ) → i < n → every values 5 4 i < 65536
  pub z : Apart values 6 4 n
  pub level : Apart values (4 + 4 * n) 1 m

-- Rooms that suffice are each long enough.
pub record Rooms (n m xs ys zs tags levels : ℕ) : Type 0 where
  pub x : n ≤ xs
  pub y : n ≤ ys
  pub z : n ≤ zs
  pub tag : tag_room n ≤ tags
  pub level : m ≤ levels
