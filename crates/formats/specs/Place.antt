-- Where in its form a text is: the line that is expected, and what the lines before it left to count. Assumes nothing.
use Rattle.std.specs.Prelude.{Bool, true, false, cond, List, [], ◌∷◌, ◌++◌, ℕ, ◌+◌, ◌*◌, ◌-◌, ltb}
use Rattle.shapes.specs.declared.line.Shape.{Shape}
use Rattle.forms.specs.Form.{Form, end, line}
use Rattle.survey.specs.Limits.{most_stations, most_coordinate, most_levels}
use Rattle.formats.specs.declared.place.Line.{Line}
use Rattle.formats.specs.declared.place.Line.TheVariants.{End, Survey, Style, Points, Tag, X, Y, Z, Levels, Level}
use Rattle.formats.specs.declared.place.Place.{Place}
use Rattle.formats.specs.Lines.{least_height, survey_line, style_line, points_line, tag_line, x_line, y_line, z_line, levels_line, level_line}
use Rattle.formats.specs.Surveys.{above, level_lines, level_list, from_z, from_y, from_x, stations, from_points, from_style, plain, survey}

-- The stations of survey=1, and what follows them.
abbrev pub stations_left : ℕ → List ℕ → Form
stations_left n used = stations plain level_list n used

-- The form of the lines from a place on, where these tags are used. `left` counts the stations or levels behind this one.
abbrev pub form_of : Line → ℕ → ℕ → List ℕ → Form
form_of End left least used = end
form_of Survey left least used = survey 1 plain level_list used
form_of Style left least used = from_style plain level_list used
form_of Points left least used = from_points plain level_list used
form_of Tag left least used = line tag_line used (λ t. from_x plain (stations_left left (used ++ (t ∷ []))))
form_of X left least used = from_x plain (stations_left left used)
form_of Y left least used = from_y plain (stations_left left used)
form_of Z left least used = from_z plain (stations_left left used)
form_of Levels left least used = level_list
form_of Level left least used = line (level_line least) [] (λ v. level_lines left (above v))

abbrev pub form_at : Place → List ℕ → Form
form_at p used = form_of p.line p.left p.least used

-- The shape of the line at a place.
abbrev pub shape_of : Line → ℕ → Shape
shape_of End least = tag_line
shape_of Survey least = survey_line 1
shape_of Style least = style_line
shape_of Points least = points_line
shape_of Tag least = tag_line
shape_of X least = x_line most_coordinate
shape_of Y least = y_line most_coordinate
shape_of Z least = z_line
shape_of Levels least = levels_line
shape_of Level least = level_line least

-- The place behind a line.
abbrev pub placed : Line → ℕ → ℕ → Place
placed l left least = record { line = l; left = left; least = least }

abbrev pub to_stations : ℕ → ℕ → Place
to_stations n least = cond (ltb n 1) (placed Levels 0 least) (placed Tag (n - 1) least)

abbrev pub to_levels : ℕ → ℕ → Place
to_levels n least = cond (ltb n 1) (placed End 0 least) (placed Level (n - 1) least)

abbrev pub next_of : Line → ℕ → ℕ → ℕ → Place
next_of End left least v = placed End left least
next_of Survey left least v = placed Style left least
next_of Style left least v = placed Points left least
next_of Points left least v = to_stations v least
next_of Tag left least v = placed X left least
next_of X left least v = placed Y left least
next_of Y left least v = placed Z left least
next_of Z left least v = to_stations left least
next_of Levels left least v = to_levels v least_height
next_of Level left least v = to_levels left (above v)

-- As many lines, at most, are still to come, and as many of them are tag lines.
abbrev pub lines_ahead : Line → ℕ → ℕ
lines_ahead End left = 0
lines_ahead Survey left = 4 * most_stations + most_levels + 4
lines_ahead Style left = 4 * most_stations + most_levels + 3
lines_ahead Points left = 4 * most_stations + most_levels + 2
lines_ahead Tag left = 4 * left + most_levels + 5
lines_ahead X left = 4 * left + most_levels + 4
lines_ahead Y left = 4 * left + most_levels + 3
lines_ahead Z left = 4 * left + most_levels + 2
lines_ahead Levels left = most_levels + 1
lines_ahead Level left = left + 1

abbrev pub tags_ahead : Line → ℕ → ℕ
tags_ahead End left = 0
tags_ahead Survey left = most_stations
tags_ahead Style left = most_stations
tags_ahead Points left = most_stations
tags_ahead Tag left = left + 1
tags_ahead X left = left
tags_ahead Y left = left
tags_ahead Z left = left
tags_ahead Levels left = 0
tags_ahead Level left = 0

abbrev pub is_end : Line → Bool
is_end End = true
is_end Survey = false
is_end Style = false
is_end Points = false
is_end Tag = false
is_end X = false
is_end Y = false
is_end Z = false
is_end Levels = false
is_end Level = false

abbrev pub is_tag : Line → Bool
is_tag Tag = true
is_tag End = false
is_tag Survey = false
is_tag Style = false
is_tag Points = false
is_tag X = false
is_tag Y = false
is_tag Z = false
is_tag Levels = false
is_tag Level = false

-- The tags that the line at a place must differ from, and those used behind it: only a tag line has some and adds one.
abbrev pub used_of : Line → List ℕ → List ℕ
used_of l used = cond (is_tag l) used []

abbrev pub tags_of : Line → List ℕ → ℕ → List ℕ
tags_of l used v = cond (is_tag l) (used ++ (v ∷ [])) used

abbrev pub tag_one : Line → ℕ
tag_one l = cond (is_tag l) 1 0
