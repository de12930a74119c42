-- 'Rooms needed, whatever the survey': document 01, "Refusal numbers", for n stations. Assumes nothing.
use Rattle.std.specs.Prelude.{Bool, ◌||◌, ℕ, ◌*◌, ◌-◌, ◌/◌, ltb}
use Rattle.survey.specs.Limits.{most_tag}

-- 'triangles 3(2n-5) numbers'
abbrev pub triangle_room : ℕ → ℕ
triangle_room n = 3 * (2 * n - 5)

-- 'slopes 5n'
abbrev pub slope_room : ℕ → ℕ
slope_room n = 5 * n

-- 'line vertices 3n-6 each for x and y'
abbrev pub vertex_room : ℕ → ℕ
vertex_room n = 3 * n - 6

-- 'line records (3n-6)/2 rounded down'
abbrev pub record_room : ℕ → ℕ
record_room n = (3 * n - 6) / 2

-- 'work room 16n numbers of 16 bits'
abbrev pub work_room : ℕ → ℕ
work_room n = 16 * n

-- '8n bytes of tags'
abbrev pub tag_room : ℕ → ℕ
tag_room n = most_tag * n

-- 6: 'lent room too short', of a slope room and a work room.
abbrev pub is_tight : ℕ → ℕ → ℕ → Bool
is_tight n slopes work = ltb slopes (slope_room n) || ltb work (work_room n)
