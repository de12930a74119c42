-- The survey that document 01 prints, and a station whose last neighbour is replaced, by computation. Assumes nothing.
use mathlib.Core.Path.{◌≡◌, refl}
use mathlib.Core.List.{[], ◌∷◌}
use lib.IntN.{pos}
use Rattle.whole.specs.Cut.{cut}
use Rattle.whole.specs.Rounding.{rounded}
use Rattle.whole.specs.Turn.{across, climb, turn}
use Rattle.survey.specs.Survey.{Survey, survey}
use Rattle.survey.specs.Checks.{is_repeat, is_one_line, checked}
use Rattle.std.specs.Prelude.{Ok, Err}
use Rattle.survey.specs.declared.refusal.Refusal.TheVariants.{Room}
use Rattle.nearest.specs.Nearest.{squared_distance, nearest, neighbours}
use Rattle.normal.specs.Normal.{added, normal_at}
use Rattle.slopes.specs.Slopes.{slope_p, slope_q, slope_r, slope_s, slope_t}
use Rattle.slopes.specs.Job.{sloped, slopes_of}

abbrev printed : Survey
printed = survey (0 ∷ 8 ∷ 0 ∷ []) (0 ∷ 0 ∷ 8 ∷ []) (pos 0 ∷ pos 10 ∷ pos 10 ∷ [])

-- T7: 'the survey above: p = q = 81,920, r = s = t = 0 everywhere.'
pub printed-slopes :
    slopes_of printed
    ≡ pos 81920 ∷ pos 81920 ∷ pos 0 ∷ pos 0 ∷ pos 0
    ∷ pos 81920 ∷ pos 81920 ∷ pos 0 ∷ pos 0 ∷ pos 0
    ∷ pos 81920 ∷ pos 81920 ∷ pos 0 ∷ pos 0 ∷ pos 0 ∷ []
unfolding slope_p slope_q slope_r slope_s slope_t normal_at added neighbours nearest squared_distance across climb turn rounded cut
printed-slopes = refl

-- Its slopes need room for 15.
pub printed-done : sloped printed 15 ≡ Ok tt
unfolding checked is_repeat is_one_line turn
printed-done = refl

pub printed-short : sloped printed 14 ≡ Err Room
unfolding checked is_repeat is_one_line turn
printed-short = refl

-- 'ties to the lower number': the corners of a square are equally far from its middle, station 4.
pub square-neighbours : neighbours (survey (0 ∷ 8 ∷ 0 ∷ 8 ∷ 4 ∷ []) (0 ∷ 0 ∷ 8 ∷ 8 ∷ 4 ∷ []) []) 4 ≡ 0 ∷ 1 ∷ 2 ∷ 3 ∷ []
unfolding neighbours nearest squared_distance turn
square-neighbours = refl

-- 'the last taken is replaced by the nearest station off that line': station 0's four nearest are on one line, so 5 replaces 4.
pub line-neighbours : neighbours (survey (0 ∷ 1 ∷ 2 ∷ 3 ∷ 4 ∷ 2 ∷ 2 ∷ []) (0 ∷ 0 ∷ 0 ∷ 0 ∷ 0 ∷ 9 ∷ 10 ∷ []) []) 0 ≡ 1 ∷ 2 ∷ 3 ∷ 5 ∷ []
unfolding neighbours nearest squared_distance turn
line-neighbours = refl
