-- The program: 'a program that reads a survey on standard input and writes contour text'. Document 01, "The four jobs and the text" and
-- "Text"; the same over the other kind of mesh, document 02, L1; and the opening of the report, L12. Assumes nothing.
use Rattle.std.specs.Prelude.{Bool, cond, List, ◌++◌, ℕ, ℤ, pos, length, get_or, Ok, Err, ⊤}
use Rattle.survey.specs.Checks.{checked}
use Rattle.survey.specs.Refusals.{number_of, carried_by}
use Rattle.survey.specs.Survey.{Survey}
use Rattle.survey.specs.Answer.{Answer}
use Rattle.survey.specs.declared.refusal.Refusal.{Refusal}
use Rattle.lists.specs.Rows.{rows}
use Rattle.rendering.specs.Filed.{Filed, stations}
use Rattle.rendering.specs.Scan.{Scanned, scanned}
use Rattle.rendering.specs.Scan as scan
use Rattle.text.specs.Reader.{survey_of}
use Rattle.sweep.specs.Sweep.{Three}
use Rattle.trace.specs.Lines.{records}
use Rattle.slopes.specs.Job.{slopes_of}
use Rattle.mesh.specs.Kinds.{triangles_of}
use Rattle.spots.specs.Lines.{lines_of, spots_of, xs_of, ys_of}
use Rattle.contour.specs.Contour.{heading_of, block_of, refusal_of}
use Rattle.contour.specs.Writer.{block_answer}
use Rattle.report.specs.Report.{heading_of as report_heading}

-- The coordinates of a level's vertices, over a mesh ts of the survey.
abbrev pub xs_at : Survey → List (Three ℕ) → ℕ → ℤ → List ℕ
xs_at s ts style level = xs_of (spots_of s ts (slopes_of s) style level)

abbrev pub ys_at : Survey → List (Three ℕ) → ℕ → ℤ → List ℕ
ys_at s ts style level = ys_of (spots_of s ts (slopes_of s) style level)

-- The block of a level: the records of its lines, and their vertices.
abbrev pub level_text : Survey → List (Three ℕ) → ℕ → ℤ → List ℕ
level_text s ts style level = block_of level (records (lines_of s ts level)) (xs_at s ts style level) (ys_at s ts style level)

abbrev pub level_answer : Survey → List (Three ℕ) → ℕ → ℤ → ℕ → Answer ℕ
level_answer s ts style level room = block_answer level (records (lines_of s ts level)) (xs_at s ts style level) (ys_at s ts style level) room

-- The bytes of a room that suffices for the block of every level.
abbrev pub text_room : ℕ
text_room = 153360

-- 'The reader tests ranges (7) but not 3 or 4': the first fault of the text, and then that of the survey.
abbrev pub judged_by : Scanned → Answer ⊤
judged_by (scan.Refused why) = Err why
judged_by (scan.Right s) = checked (stations s)

unfoldable pub judged : List ℕ → Answer ⊤
judged t = judged_by (scanned t)

-- 'A refused survey gives only refused=N / at=M.'
abbrev pub refused_text : Refusal → List ℕ
refused_text why = refusal_of (number_of why) (carried_by why)

-- The heading of contour text, or of a report of the served ground.
abbrev pub heading_by : Bool → ℕ → List ℕ
heading_by report style = cond report (report_heading style) (heading_of style)

-- The heading, or the two lines of a refusal.
abbrev pub opening_by : ℕ → Answer ⊤ → List ℕ
opening_by style (Ok _) = heading_of style
opening_by style (Err why) = refused_text why

abbrev pub opening : List ℕ → List ℕ
opening t = opening_by (survey_of t).style (judged t)

-- The same of either text.
abbrev pub any_opening_by : Bool → ℕ → Answer ⊤ → List ℕ
any_opening_by report style (Ok _) = heading_by report style
any_opening_by report style (Err why) = refused_text why

abbrev pub any_opening : Bool → List ℕ → List ℕ
any_opening report t = any_opening_by report (survey_of t).style (judged t)

-- A number of a survey that passed, and 0 of one that is refused.
abbrev pub if_passed : ℕ → Answer ⊤ → ℕ
if_passed n (Ok _) = n
if_passed n (Err why) = 0

-- As many blocks as levels, and none after a refusal.
abbrev pub block_count : List ℕ → ℕ
block_count t = if_passed (length (survey_of t).levels) (judged t)

-- The block of level k, over the mesh of a kind.
abbrev pub block_in : ℕ → Filed → ℕ → List ℕ
block_in kind s k = level_text (stations s) (triangles_of kind (stations s)) s.style (get_or s.levels k (pos 0))

abbrev pub block_at : ℕ → List ℕ → ℕ → List ℕ
block_at kind t k = block_in kind (survey_of t) k

-- 'contours=1 / style=straight', then the levels in their order: 'Further levels repeat from the level line.'
abbrev pub text_by : ℕ → Filed → Answer ⊤ → List ℕ
text_by kind s (Ok _) = heading_of s.style ++ rows (block_in kind s) (length s.levels)
text_by kind s (Err why) = refused_text why

-- All bytes of standard output, from all bytes of standard input. 'The program stays with 0': its text is that of kind 0.
unfoldable pub contour_text : ℕ → List ℕ → List ℕ
contour_text kind t = text_by kind (survey_of t) (judged t)
