-- The ranges of a survey's numbers: document 01, "The four jobs", "Slopes" and "Text"; and the most ground that there can be: document 02, L12.
-- Each limit stands here and, where the code of several crates needs it, in `src/limits.rt`. Assumes nothing.
use Rattle.std.specs.Prelude.{Bool, ◌&&◌, ◌||◌, ℕ, ◌*◌, leb, ltb, ℤ, pos, neg_ℤ}
use Rattle.std.specs.Int.Signed.{lt_z}

-- 'A survey has 3 to 1,024 stations.'
abbrev pub least_stations : ℕ
least_stations = 3

abbrev pub most_stations : ℕ
most_stations = 1024

abbrev pub is_count : ℕ → Bool
is_count n = leb least_stations n && leb n most_stations

-- 'A station has x and y from 0 to 8,191'
abbrev pub most_coordinate : ℕ
most_coordinate = 8191

abbrev pub beyond : ℕ → Bool
beyond x = ltb most_coordinate x

-- 'and a height z from -32,767 to 32,767, all whole.'
abbrev pub most_height : ℕ
most_height = 32767

abbrev pub too_far : ℤ → Bool
too_far z = lt_z z (neg_ℤ (pos most_height)) || lt_z (pos most_height) z

-- 'twice the area of each part is counted in squares of a 128th', of which a square of 8,191 has the most.
abbrev pub most_ground : ℕ
most_ground = 16384 * (2 * (most_coordinate * most_coordinate))

-- Slopes are 'cut to within ±268,435,456'.
abbrev pub most_slope : ℕ
most_slope = 268435456

-- 'levels (1 to 64)'
abbrev pub most_levels : ℕ
most_levels = 64

-- 'A tag is 1 to 8 ASCII letters, digits or hyphens'
abbrev pub most_tag : ℕ
most_tag = 8

-- 'Text is at most 65,535 bytes'
abbrev pub most_text : ℕ
most_text = 65535
