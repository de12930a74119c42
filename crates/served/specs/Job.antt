-- What the report's call answers, and what its rooms hold then: document 02, L12. The refusals are those of the lines job; of its rooms the slope
-- room and the work room are lent. Assumes nothing.
use Rattle.std.specs.Prelude.{cond, List, ◌++◌, ℕ, ℤ, pos, drop, replicate, Ok, Err, ⊤}
use Rattle.sweep.specs.Sweep.{Three}
use Rattle.survey.specs.Checks.{checked}
use Rattle.survey.specs.Rooms.{slope_room, work_room, is_tight}
use Rattle.survey.specs.Survey.{Survey, count}
use Rattle.survey.specs.Answer.{Answer, figures_done}
use Rattle.survey.specs.declared.answers.Figures.{Figures}
use Rattle.survey.specs.declared.refusal.Refusal.TheVariants.{Number, Room}
use Rattle.mesh.specs.Kinds.{triangles_of}
use Rattle.lines.specs.Job.{is_wrong}
use Rattle.parcels.specs.Served.{served_of, unserved_of}

-- Both figures of a level over a mesh ts.
abbrev pub figures_over : Survey → List (Three ℕ) → ℕ → ℤ → Answer Figures
figures_over s ts style level = figures_done (served_of s ts style level) (unserved_of s ts style level)

abbrev pub counted_after : Survey → ℕ → ℤ → ℕ → ℕ → ℕ → Answer ⊤ → Answer Figures
counted_after s kind level style slopes work (Err why) = Err why
counted_after s kind level style slopes work (Ok _) =
    cond (is_wrong kind level style) (Err Number)
    (cond (is_tight (count s) slopes work) (Err Room) (figures_over s (triangles_of kind s) style level))

-- The answer for a survey, a kind of mesh, a level, a style and the lengths of the two rooms.
abbrev pub counted : Survey → ℕ → ℤ → ℕ → ℕ → ℕ → Answer Figures
counted s kind level style slopes work = counted_after s kind level style slopes work (checked s)

-- 'the work room asked for (not what is longer) is all zero after it'; 'slope room 5n also for height and lines, zeroed as work room is'. A
-- refusal leaves both as they were.
abbrev pub slopes_in : Answer Figures → Survey → List ℤ → List ℤ
slopes_in (Ok d) s old = replicate (slope_room (count s)) (pos 0) ++ drop (slope_room (count s)) old
slopes_in (Err why) s old = old

abbrev pub work_in : Answer Figures → Survey → List ℕ → List ℕ
work_in (Ok d) s old = replicate (work_room (count s)) 0 ++ drop (work_room (count s)) old
work_in (Err why) s old = old
