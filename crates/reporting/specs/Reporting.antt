-- The report programs: from a survey's text the report of its served ground. Document 02, L12. Assumes nothing.
use Rattle.std.specs.Prelude.{List, ◌++◌, ℕ, ℤ, pos, length, get_or, Ok, Err, ⊤}
use Rattle.lists.specs.Rows.{rows}
use Rattle.survey.specs.Survey.{Survey}
use Rattle.survey.specs.Answer.{Answer}
use Rattle.rendering.specs.Filed.{Filed, stations}
use Rattle.text.specs.Reader.{survey_of}
use Rattle.sweep.specs.Sweep.{Three}
use Rattle.mesh.specs.Kinds.{triangles_of}
use Rattle.parcels.specs.Served.{served_of, unserved_of}
use Rattle.report.specs.Report.{heading_of, block_of}
use Rattle.program.specs.Program.{judged, refused_text}

-- 'for each level, the ground served (not below) and unserved', over a mesh ts of the survey.
abbrev pub level_figures : Survey → List (Three ℕ) → ℕ → ℤ → List ℕ
level_figures s ts style level = block_of level (served_of s ts style level) (unserved_of s ts style level)

-- The figures of level k, over the mesh of a kind.
abbrev pub figures_in : ℕ → Filed → ℕ → List ℕ
figures_in kind s k = level_figures (stations s) (triangles_of kind (stations s)) s.style (get_or s.levels k (pos 0))

abbrev pub figures_at : ℕ → List ℕ → ℕ → List ℕ
figures_at kind t k = figures_in kind (survey_of t) k

-- 'served=1, style, then level, served and unserved for each level'. A refused survey gives what it gives in contour text.
abbrev pub report_by : ℕ → Filed → Answer ⊤ → List ℕ
report_by kind s (Ok _) = heading_of s.style ++ rows (figures_in kind s) (length s.levels)
report_by kind s (Err why) = refused_text why

-- All bytes of standard output, from all bytes of standard input.
unfoldable pub report_text : ℕ → List ℕ → List ℕ
report_text kind t = report_by kind (survey_of t) (judged t)
