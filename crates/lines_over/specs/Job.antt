-- The lines of a level over a mesh that is handed in: document 02, L10: 'the calls that take one make this check themselves, with refusal 9
-- in the same place'. The rooms are those of the lines job. Assumes nothing.
use Rattle.std.specs.Prelude.{List, ℕ, ℤ}
use Rattle.survey.specs.Survey.{Survey}
use Rattle.survey.specs.Answer.{Answer}
use Rattle.survey.specs.declared.answers.Drawn.{Drawn}
use Rattle.woven.specs.Accepted.{supplied_in, checked_over}
use Rattle.lines.specs.Job.{Lengths, is_off, drawn_over}

-- The answer for a survey, the list of its mesh, a level, a style and the rooms.
abbrev pub drawn_on : Survey → List ℕ → ℤ → ℕ → Lengths → Answer Drawn
drawn_on s l level style room = drawn_over s (supplied_in l) (is_off level style) level style room (checked_over s l)
