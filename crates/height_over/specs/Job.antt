-- The height over a mesh that is handed in: document 02, L10: 'the calls that take one make this check themselves, with refusal 9 in the
-- same place'. The rooms are those of the height job. Assumes nothing.
use Rattle.std.specs.Prelude.{false, List, ℕ}
use Rattle.whole.specs.Place.{Place}
use Rattle.survey.specs.Survey.{Survey}
use Rattle.survey.specs.Answer.{Answer}
use Rattle.survey.specs.declared.answers.Height.{Height}
use Rattle.woven.specs.Accepted.{supplied_in, checked_over}
use Rattle.height.specs.Job.{height_over}

-- The answer for a survey, the list of its mesh, a place and the lengths of the two rooms.
abbrev pub heighted_on : Survey → List ℕ → Place → ℕ → ℕ → Answer Height
heighted_on s l p slopes work = height_over s (supplied_in l) false p slopes work (checked_over s l)
