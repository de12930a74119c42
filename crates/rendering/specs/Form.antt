-- A survey in the form that its text asks: document 01, "Text". Assumes nothing.
use Rattle.std.specs.Prelude.{◌≡◌, true, false, ℕ, ◌<◌, ◌≤◌, pos, length, get_or}
use Rattle.whole.specs.Range.{Within}
use Rattle.survey.specs.Limits.{least_stations, most_stations, most_coordinate, most_height}
use Rattle.survey.specs.Rooms.{tag_room}
use Rattle.rendering.specs.Filed.{Filed, count, tag_number}
use Rattle.rendering.specs.Writer.{is_wrong_tag, is_level_list}

-- The lists are of one length and in range, each tag is of the stated form and no two are one, the levels rise.
pub record InForm (s : Filed) : Type 0 where
  pub ys-count : length s.ys ≡ count s
  pub zs-count : length s.zs ≡ count s
  pub tags-count : length s.tags ≡ tag_room (count s)
  pub least : least_stations ≤ count s
  pub most : count s ≤ most_stations
  pub x-range : (i : ℕ) → i < count s → get_or s.xs i 0 ≤ most_coordinate
  pub y-range : (i : ℕ) → i < count s → get_or s.ys i 0 ≤ most_coordinate
  pub z-range : (i : ℕ) → i < count s → Within most_height (get_or s.zs i (pos 0))
  pub tag-form : (i : ℕ) → i < count s → is_wrong_tag s.tags i ≡ false
  pub tags-apart : (i j : ℕ) → i < j → j < count s → tag_number s.tags i ≡ tag_number s.tags j → ⊥
  pub style-range : s.style ≤ 1
  pub levels-form : is_level_list s.levels ≡ true
