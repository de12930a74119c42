-- The lines of every text: document 01, "Text", and document 02. A key, like a word, is the number that its letters make in base 256.
-- Assumes nothing.
use Rattle.std.specs.Prelude.{Bool, cond, ℕ, suc, ◌+◌, ◌-◌, eqb, leb, ℤ, pos, negsuc, neg_ℤ}
use Rattle.shapes.specs.declared.line.Kind.TheVariants.{Natural, Whole, Tag, Choice}
use Rattle.shapes.specs.declared.line.Shape.{Shape}
use Rattle.shapes.specs.Line.{zero_at}
use Rattle.survey.specs.Limits.{least_stations, most_stations, most_height, most_levels}

abbrev pub number : ℕ → ℕ → ℕ → Shape
number key least most = record { key = key; kind = Natural least most }

abbrev pub choice : ℕ → ℕ → ℕ → Shape
choice key a b = record { key = key; kind = Choice a b }

-- A whole number is told 32,768 above itself.
abbrev pub told : ℤ → ℕ
told (pos n) = zero_at + n
told (negsuc n) = zero_at - suc n

abbrev pub least_height : ℕ
least_height = told (neg_ℤ (pos most_height))

abbrev pub height : ℕ → ℕ → Shape
height key least = record { key = key; kind = Whole least (told (pos most_height)) }

-- survey, levelset, contours, served and walk, each with its edition
abbrev pub survey_line : ℕ → Shape
survey_line edition = number 0x737572766579 edition edition

abbrev pub levelset_line : Shape
levelset_line = number 0x6c6576656c736574 1 1

abbrev pub contours_line : ℕ → Shape
contours_line edition = number 0x636f6e746f757273 edition edition

abbrev pub served_line : Shape
served_line = number 0x736572766564 1 1

abbrev pub walk_line : Shape
walk_line = number 0x77616c6b 1 1

-- style: straight or smooth; 'Style is 0 straight, 1 smooth.'
abbrev pub style_line : Shape
style_line = choice 0x7374796c65 0x7374726169676874 0x736d6f6f7468

abbrev pub is_style : ℕ → Bool
is_style style = leb style 1

-- points: 'A survey has 3 to 1,024 stations', 'points from 1 to 65,535' of a walk
abbrev pub points_line : Shape
points_line = number 0x706f696e7473 least_stations most_stations

abbrev pub logged_line : Shape
logged_line = number 0x706f696e7473 1 65535

-- tag, x, y, z and void of a station
abbrev pub tag_line : Shape
tag_line = record { key = 0x746167; kind = Tag }

abbrev pub x_line : ℕ → Shape
x_line most = number 0x78 0 most

abbrev pub y_line : ℕ → Shape
y_line most = number 0x79 0 most

abbrev pub z_line : Shape
z_line = height 0x7a least_height

abbrev pub void_line : Shape
void_line = number 0x766f6964 0 1

-- levels: '1 to 64', and level, 'strictly rising'
abbrev pub levels_line : Shape
levels_line = number 0x6c6576656c73 1 most_levels

abbrev pub level_line : ℕ → Shape
level_line least = height 0x6c6576656c least

-- lines, kind (open or closed), vertices and exact of contour text
abbrev pub lines_line : ℕ → Shape
lines_line most = number 0x6c696e6573 0 most

abbrev pub kind_line : Shape
kind_line = choice 0x6b696e64 0x6f70656e 0x636c6f736564

-- 'fewer than 2 vertices in an open line or 3 in a closed one' are refused, and more than are left.
abbrev pub vertices_line : ℕ → ℕ → Shape
vertices_line kind left = number 0x7665727469636573 (cond (eqb kind 0) 2 3) left

abbrev pub exact_line : Shape
exact_line = number 0x6578616374 0 1

-- served and unserved of a level, refused and at of a refusal
abbrev pub ground_line : ℕ → Shape
ground_line most = number 0x736572766564 0 most

abbrev pub unserved_line : ℕ → Shape
unserved_line most = number 0x756e736572766564 0 most

abbrev pub refused_line : ℕ → Shape
refused_line most = number 0x72656675736564 0 most

abbrev pub at_line : ℕ → Shape
at_line most = number 0x6174 0 most
