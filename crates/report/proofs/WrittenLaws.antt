-- The heading and a block by their lines. Assumes nothing.
use mathlib.Core.Path.{◌≡◌}
use mathlib.Core.List.{◌++◌, append-nil}
use Prim.Native.Nat.{ℕ}
use Rattle.shapes.specs.Bytes.{line_bytes}
use Rattle.forms.specs.Written.{written}
use Rattle.survey.specs.Limits.{most_ground}
use Rattle.formats.specs.Lines.{least_height, served_line, style_line, level_line, ground_line, unserved_line}
use Rattle.report.specs.Report.{heading_of, block_text}

pub heading-written : (style : ℕ) → heading_of style ≡ line_bytes served_line 1 ++ line_bytes style_line style
unfolding heading_of written
heading-written style = rw append-nil

pub block_written : (level served unserved : ℕ)
    → block_text level served unserved
    ≡ line_bytes (level_line least_height) level ++ (line_bytes (ground_line most_ground) served ++ line_bytes (unserved_line most_ground) unserved)
unfolding written
block_written level served unserved = rw append-nil
