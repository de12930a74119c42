-- Survey text, line by line: document 01, "Text", and document 02, L5 and L7. Assumes nothing.
use Rattle.std.specs.Prelude.{cond, List, [], ◌∷◌, ◌++◌, ℕ, zero, suc, ◌+◌, ltb}
use Rattle.forms.specs.Form.{Form, end, line}
use Rattle.survey.specs.Limits.{most_coordinate}
use Rattle.formats.specs.Lines.{least_height, survey_line, levelset_line, style_line, points_line, tag_line, x_line, y_line, z_line, void_line, levels_line, level_line}

-- 'strictly rising': the least level above v. Above the highest there is none, and no range has 65,536.
abbrev pub above : ℕ → ℕ
above v = cond (ltb v 65536) (v + 1) 65536

-- 'levels (1 to 64) and one level line each, strictly rising'
unfoldable pub level_lines : ℕ → ℕ → Form
level_lines zero least = end
level_lines (suc m) least = line (level_line least) [] (λ v. level_lines m (above v))

abbrev pub level_list : Form
level_list = line levels_line [] (λ m. level_lines m least_height)

-- 'tag, x, y, z for each station', where these tags are used. `void` is what follows a z.
abbrev pub from_z : (Form → Form) → Form → Form
from_z void rest = line z_line [] (λ z. void rest)

abbrev pub from_y : (Form → Form) → Form → Form
from_y void rest = line (y_line most_coordinate) [] (λ y. from_z void rest)

abbrev pub from_x : (Form → Form) → Form → Form
from_x void rest = line (x_line most_coordinate) [] (λ x. from_y void rest)

unfoldable pub stations : (Form → Form) → Form → ℕ → List ℕ → Form
stations void rest zero used = rest
stations void rest (suc n) used = line tag_line used (λ t. from_x void (stations void rest n (used ++ (t ∷ []))))

-- 'in this order: survey=1, style, points, then ..'
abbrev pub from_points : (Form → Form) → Form → List ℕ → Form
from_points void rest used = line points_line [] (λ n. stations void rest n used)

abbrev pub from_style : (Form → Form) → Form → List ℕ → Form
from_style void rest used = line style_line [] (λ s. from_points void rest used)

abbrev pub survey : ℕ → (Form → Form) → Form → List ℕ → Form
survey edition void rest used = line (survey_line edition) [] (λ e. from_style void rest used)

-- Nothing stands behind a z.
abbrev pub plain : Form → Form
plain rest = rest

abbrev pub survey1 : Form
survey1 = survey 1 plain level_list []

-- 'Text starting survey=2 has no levels lines; levels come in a text of their own'
abbrev pub survey2 : Form
survey2 = survey 2 plain end []

abbrev pub levelset1 : Form
levelset1 = line levelset_line [] (λ e. level_list)

-- 'void=0 or void=1 after z, text survey=3, otherwise as survey=2'
abbrev pub with_void : Form → Form
with_void rest = line void_line [] (λ v. rest)

abbrev pub survey3 : Form
survey3 = survey 3 with_void end []
