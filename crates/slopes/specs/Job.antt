-- The slopes job: what it answers, and what the slope room holds afterwards: document 01, "Refusal numbers" and "Slopes".
-- Assumes nothing.
use Rattle.std.specs.Prelude.{cond, List, ◌++◌, ℕ, ltb, ℤ, drop, Ok, Err, ⊤}
use Rattle.survey.specs.Survey.{Survey, count, height_of}
use Rattle.survey.specs.Rooms.{slope_room}
use Rattle.survey.specs.Checks.{checked}
use Rattle.survey.specs.Answer.{Answer}
use Rattle.survey.specs.declared.refusal.Refusal.TheVariants.{Room}
use Rattle.slopes.specs.Slopes.{slopes_at}
use Rattle.lists.specs.Rows.{rows}

-- 'The four jobs test 1, 2, 3, 4, 5, 6 in that order.' Here nothing can be 5, and 6 is a slope room too short.
abbrev pub answer : Survey → ℕ → Answer ⊤ → Answer ⊤
answer s room (Err why) = Err why
answer s room (Ok _) = cond (ltb room (slope_room (count s))) (Err Room) (Ok tt)

abbrev pub sloped : Survey → ℕ → Answer ⊤
sloped s room = answer s room (checked s)

-- 'Order for each station: p, q, r, s, t.' 'Any refusal leaves all lent memory untouched. Entries past what a done job writes are
-- untouched too'.
abbrev pub slopes_of : Survey → List ℤ
slopes_of s = rows (slopes_at s (height_of s)) (count s)

abbrev pub room_after : Survey → Answer ⊤ → List ℤ → List ℤ
room_after s (Ok _) room = slopes_of s ++ drop (slope_room (count s)) room
room_after s (Err why) room = room
