-- How long a text can be, so that a room of fixed size suffices: no line has more than thirty bytes. Assumes nothing.
use mathlib.Core.Path.{◌≡◌}
use mathlib.Core.Bool.{false}
use mathlib.Core.List.{◌++◌}
use Prim.Native.Nat.{ℕ, ◌≤◌}
use native.Mathlib.Omega.{arith}
use borrow.Author.Tests.{le-leb}
use lib.IntN.{ℤ}
use lib.ListN.{length, length-append}
use Rattle.shapes.specs.Bytes.{line_bytes}
use Rattle.shapes.proofs.BytesLaws.{line-length}
use Rattle.std.specs.Prelude.{Ok}
use Rattle.survey.specs.Limits.{most_ground}
use Rattle.formats.specs.Lines.{told, least_height, served_line, style_line, level_line, ground_line, unserved_line}
use Rattle.plotting.proofs.LengthLaws.{two-most}
use Rattle.contour.proofs.AnswerLaws.{is_fit}
use Rattle.report.specs.Report.{heading_of, block_text, block_of}
use Rattle.report.specs.Writer.{is_outside, heading_answer, block_answer}
use Rattle.report.proofs.WrittenLaws.{heading-written, block_written}

heading-most : (style : ℕ) → length (heading_of style) ≤ 60
heading-most style = rw heading-written (two-most served_line 1 style_line style)

block-most : (level served unserved : ℕ) → length (block_text level served unserved) ≤ 90
block-most level served unserved =
    let first = line_bytes (level_line least_height) level in
    let figures = line_bytes (ground_line most_ground) served ++ line_bytes (unserved_line most_ground) unserved in
    rw block_written
    (omega (
      arith,
      length-append first figures,
      line-length (level_line least_height) level,
      two-most (ground_line most_ground) served (unserved_line most_ground) unserved,
    ))

-- A room of 60 bytes suffices for every heading of a style, and one of 90 for every block that passes 5.
pub heading-done : (style room : ℕ) → style ≤ 1 → 60 ≤ room → heading_answer style room ≡ Ok (length (heading_of style))
unfolding heading_answer
heading-done style room h l = rw (le-leb _ _ h) (is_fit (heading_of style) room (omega (arith, heading-most style)))

pub block-done : (level : ℤ) (served unserved room : ℕ) → is_outside level served unserved ≡ false → 90 ≤ room
    → block_answer level served unserved room ≡ Ok (length (block_of level served unserved))
unfolding block_of block_answer
block-done level served unserved room h l = rw h (is_fit (block_of level served unserved) room (omega (arith, block-most (told level) served unserved)))
