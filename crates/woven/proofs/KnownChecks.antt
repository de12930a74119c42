-- Triangles that are handed in, checked by computation: document 02, L10. Assumes nothing.
use mathlib.Core.List.{[], ◌∷◌}
use mathlib.Core.Path.{◌≡◌, refl}
use lib.IntN.{pos}
use Rattle.whole.specs.Turn.{turn}
use Rattle.survey.specs.Checks.{checked, is_repeat, is_one_line}
use Rattle.survey.specs.Survey.{Survey, survey}
use Rattle.std.specs.Prelude.{Ok, Err}
use Rattle.survey.specs.declared.refusal.Refusal.TheVariants.{Mesh}
use Rattle.sweep.specs.Hull.{cross}
use Rattle.sweep.specs.Members.{sum, total}
use Rattle.sweep.specs.Page.{is_before, every}
use Rattle.neighbours.specs.Room.{threes}
use Rattle.hull.specs.Hull.{is_right, is_between, is_hull_side, passing, pairs_from}
use Rattle.hull.specs.MeshOf.{step_is}
use Rattle.held.specs.Held.{is_left, is_held}
use Rattle.woven.specs.Accepted.{is_wrong_length, is_inner, is_sewn, is_faultless, first_wrong, is_unused, is_accepted, wrong_at, checked_over}

-- 'Square Q'.
abbrev square : Survey
square = survey (0 ∷ 8 ∷ 0 ∷ 8 ∷ []) (0 ∷ 0 ∷ 8 ∷ 8 ∷ []) (pos 0 ∷ pos 0 ∷ pos 0 ∷ pos 0 ∷ [])

-- The other diagonal than ours, from other corners.
pub other_diagonal : checked_over square (3 ∷ 0 ∷ 1 ∷ 0 ∷ 3 ∷ 2 ∷ []) ≡ Ok tt
unfolding checked is_repeat is_one_line is_wrong_length is_accepted wrong_at is_unused first_wrong is_faultless is_sewn is_inner is_held is_left threes is_hull_side is_right
    is_between is_before step_is total every turn cross sum pairs_from passing
other_diagonal = refl

-- Too many: 'at most 2n-5'.
pub too_many : checked_over square (3 ∷ 0 ∷ 1 ∷ 0 ∷ 3 ∷ 2 ∷ 3 ∷ 0 ∷ 1 ∷ 0 ∷ 3 ∷ 2 ∷ []) ≡ Err (Mesh 4)
unfolding checked is_repeat is_one_line is_wrong_length is_accepted wrong_at turn
too_many = refl

-- Two triangles and a number.
pub one_number-more : checked_over square (3 ∷ 0 ∷ 1 ∷ 0 ∷ 3 ∷ 2 ∷ 0 ∷ []) ≡ Err (Mesh 2)
unfolding checked is_repeat is_one_line is_wrong_length is_accepted wrong_at turn
one_number-more = refl

-- One triangle and a number.
pub four-numbers : checked_over square (0 ∷ 1 ∷ 2 ∷ 3 ∷ []) ≡ Err (Mesh 1)
unfolding checked is_repeat is_one_line is_wrong_length is_accepted wrong_at turn
four-numbers = refl

-- 'counterclockwise': one triangle, and then the same clockwise, so that each side is run once each way.
pub clockwise : checked_over square (0 ∷ 1 ∷ 2 ∷ 0 ∷ 2 ∷ 1 ∷ []) ≡ Err (Mesh 1)
unfolding checked is_repeat is_one_line is_wrong_length is_accepted wrong_at is_unused first_wrong is_faultless is_sewn is_inner is_held is_left threes is_hull_side is_right
    is_between is_before step_is total every turn
clockwise = refl

-- A gap: the side from 1 to 2 is none of the hull, and is not run back.
pub gap : checked_over square (0 ∷ 1 ∷ 2 ∷ []) ≡ Err (Mesh 0)
unfolding checked is_repeat is_one_line is_wrong_length is_accepted wrong_at is_unused first_wrong is_faultless is_sewn is_inner is_held is_left threes is_hull_side is_right
    is_between is_before step_is total every turn
gap = refl

-- An overlap, though the areas sum to the hull's: the side from 0 to 1 is run twice. Both are wrong, and the first is carried.
pub overlap : checked_over square (0 ∷ 1 ∷ 2 ∷ 0 ∷ 1 ∷ 3 ∷ []) ≡ Err (Mesh 0)
unfolding checked is_repeat is_one_line is_wrong_length is_accepted wrong_at is_unused first_wrong is_faultless is_sewn is_inner is_held is_left threes is_hull_side is_right
    is_between is_before step_is total every turn
overlap = refl

-- Our mesh with its first triangle once more: the sides of that are run twice.
pub one_twice : checked_over square (0 ∷ 1 ∷ 2 ∷ 1 ∷ 3 ∷ 2 ∷ 0 ∷ 1 ∷ 2 ∷ []) ≡ Err (Mesh 0)
unfolding checked is_repeat is_one_line is_wrong_length is_accepted wrong_at is_unused first_wrong is_faultless is_sewn is_inner is_held is_left threes is_hull_side is_right
    is_between is_before step_is total every turn
one_twice = refl

-- No triangle is wrong, and every station is unused.
pub empty : checked_over square [] ≡ Err (Mesh 0)
unfolding checked is_repeat is_one_line is_wrong_length is_accepted wrong_at is_unused first_wrong threes every turn
empty = refl

-- 'Q5 adds (4,4)'.
abbrev centred : Survey
centred = survey (0 ∷ 8 ∷ 0 ∷ 8 ∷ 4 ∷ []) (0 ∷ 0 ∷ 8 ∷ 8 ∷ 4 ∷ []) (pos 0 ∷ pos 0 ∷ pos 0 ∷ pos 0 ∷ pos 0 ∷ [])

-- The square's own triangles have it on a side: the first is wrong.
pub station-left_out : checked_over centred (0 ∷ 1 ∷ 2 ∷ 1 ∷ 3 ∷ 2 ∷ []) ≡ Err (Mesh 0)
unfolding checked is_repeat is_one_line is_wrong_length is_accepted wrong_at is_unused first_wrong is_faultless is_sewn is_inner is_held is_left threes is_hull_side is_right
    is_between is_before step_is total every turn
station-left_out = refl

-- With it they are four.
pub four-round_it : checked_over centred (4 ∷ 0 ∷ 1 ∷ 4 ∷ 1 ∷ 3 ∷ 3 ∷ 2 ∷ 4 ∷ 2 ∷ 0 ∷ 4 ∷ []) ≡ Ok tt
unfolding checked is_repeat is_one_line is_wrong_length is_accepted wrong_at is_unused first_wrong is_faultless is_sewn is_inner is_held is_left threes is_hull_side is_right
    is_between is_before step_is total every turn cross sum pairs_from passing
four-round_it = refl

-- Station 3 stands in the middle of the side from 0 to 1.
abbrev straight : Survey
straight = survey (0 ∷ 8 ∷ 0 ∷ 4 ∷ []) (0 ∷ 0 ∷ 8 ∷ 0 ∷ []) (pos 0 ∷ pos 0 ∷ pos 0 ∷ pos 0 ∷ [])

-- 'no station in use lies in a triangle (edges counted) except as its corner': of the first triangle nothing else is wrong.
pub on_an_edge : checked_over straight (0 ∷ 1 ∷ 2 ∷ 0 ∷ 3 ∷ 1 ∷ []) ≡ Err (Mesh 0)
unfolding checked is_repeat is_one_line is_wrong_length is_accepted wrong_at is_unused first_wrong is_faultless is_sewn is_inner is_held is_left threes is_hull_side is_right
    is_between is_before step_is total every turn
on_an_edge = refl

-- 'positive area': the first triangle has none.
pub in_line : checked_over straight (0 ∷ 3 ∷ 1 ∷ 0 ∷ 1 ∷ 2 ∷ []) ≡ Err (Mesh 0)
unfolding checked is_repeat is_one_line is_wrong_length is_accepted wrong_at is_unused first_wrong is_faultless is_sewn is_inner is_held is_left threes is_hull_side is_right
    is_between is_before step_is total every turn
in_line = refl

-- Number 4 is no station.
abbrev apart : Survey
apart = survey (8 ∷ 0 ∷ 8 ∷ 4 ∷ []) (0 ∷ 8 ∷ 8 ∷ 8 ∷ []) (pos 0 ∷ pos 0 ∷ pos 0 ∷ pos 0 ∷ [])

-- 'of stations in use': of the first triangle nothing else is wrong.
pub no_station : checked_over apart (4 ∷ 0 ∷ 1 ∷ 0 ∷ 4 ∷ 1 ∷ []) ≡ Err (Mesh 0)
unfolding checked is_repeat is_one_line is_wrong_length is_accepted wrong_at is_unused first_wrong is_faultless is_sewn is_inner is_held is_left threes is_hull_side is_right
    is_between is_before step_is total every turn
no_station = refl
