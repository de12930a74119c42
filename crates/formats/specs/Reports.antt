-- The other texts, line by line: document 02, L12 and L13, and document 01's refusal. Assumes nothing.
use Rattle.std.specs.Prelude.{[], ℕ, zero, suc, ◌-◌, ◌*◌}
use Rattle.forms.specs.Form.{Form, end, line, may}
use Rattle.survey.specs.Limits.{most_coordinate, most_levels}
use Rattle.formats.specs.Lines.{least_height, served_line, walk_line, style_line, logged_line, x_line, y_line, z_line, level_line, ground_line, unserved_line, refused_line, at_line}
use Rattle.formats.specs.Surveys.{above}

-- 'twice the area of each part is counted in squares of a 128th', of which a square of 8,191 has the most
abbrev pub most_ground : ℕ
most_ground = 16384 * (2 * (most_coordinate * most_coordinate))

-- 'served=1, style, then level, served and unserved for each level', of which there are 1 to 64, rising
abbrev pub ground : Form → Form
ground rest = line (ground_line most_ground) [] (λ s. line (unserved_line most_ground) [] (λ u. rest))

unfoldable pub grounds : ℕ → ℕ → Form
grounds zero least = end
grounds (suc m) least = may (level_line least) [] (λ v. ground (grounds m (above v)))

abbrev pub served1 : Form
served1 = line served_line [] (λ e. line style_line [] (λ s. line (level_line least_height) [] (λ v. ground (grounds (most_levels - 1) (above v)))))

-- The heading alone, and the figures of one level, as they are written: 'served=1, style', 'level, served and unserved'.
abbrev pub heading : Form
heading = line served_line [] (λ e. line style_line [] (λ s. end))

abbrev pub block : Form
block = line (level_line least_height) [] (λ v. ground end)

-- 'walk=1, points from 1 to 65,535, then x, y, z lines in a station's ranges'
unfoldable pub logged : ℕ → Form
logged zero = end
logged (suc n) = line (x_line most_coordinate) [] (λ x. line (y_line most_coordinate) [] (λ y. line z_line [] (λ z. logged n)))

abbrev pub walk1 : Form
walk1 = line walk_line [] (λ e. line logged_line [] (λ n. logged n))

-- 'refused=N / at=M'; both are numbers of 32 bits.
abbrev pub refusal : Form
refusal = line (refused_line 4294967295) [] (λ n. line (at_line 4294967295) [] (λ m. end))
