-- The height job: what it answers, and what its rooms hold then: document 01, "Refusal numbers" and "Height at a place", and document 02,
-- L1. ts is the mesh that the height is taken over. Assumes nothing.
use Rattle.std.specs.Prelude.{Bool, cond, ◌||◌, List, ◌++◌, ℕ, ltb, ℤ, pos, drop, replicate, Ok, Err, ⊤}
use Rattle.whole.specs.Place.{Place}
use Rattle.survey.specs.Checks.{checked}
use Rattle.survey.specs.Limits.{beyond}
use Rattle.survey.specs.Rooms.{slope_room, work_room}
use Rattle.survey.specs.Survey.{Survey, count}
use Rattle.survey.specs.Answer.{Answer}
use Rattle.survey.specs.declared.answers.Height.{Height}
use Rattle.survey.specs.declared.refusal.Refusal.TheVariants.{Number, Room}
use Rattle.sweep.specs.Sweep.{Three}
use Rattle.mesh.specs.Kinds.{is_no_kind, triangles_of}
use Rattle.height.specs.Height.{height_at}

-- 5: 'place out of range'. 'A place has the range of x and y.'
abbrev pub is_far : Place → Bool
is_far p = beyond p.x || beyond p.y

-- 6: 'lent room too short': slopes 5n, work 16n.
abbrev pub is_tight : Survey → ℕ → ℕ → Bool
is_tight s slopes work = ltb slopes (slope_room (count s)) || ltb work (work_room (count s))

-- 'The four jobs test 1, 2, 3, 4, 5, 6 in that order. The first that applies is given.' A place in range but outside the hull is an
-- answer. Over the mesh ts, where what else is asked for may be wrong.
abbrev pub height_over : Survey → List (Three ℕ) → Bool → Place → ℕ → ℕ → Answer ⊤ → Answer Height
height_over s ts wrong p slopes work (Err why) = Err why
height_over s ts wrong p slopes work (Ok _) =
    cond (wrong || is_far p) (Err Number) (cond (is_tight s slopes work) (Err Room) (Ok (height_at s ts p)))

-- 'Kind 0 is the old mesh, 1 this one; another number is refusal 5.'
abbrev pub height_after : Survey → ℕ → Place → ℕ → ℕ → Answer ⊤ → Answer Height
height_after s kind p slopes work c = height_over s (triangles_of kind s) (is_no_kind kind) p slopes work c

-- The answer for a survey, a kind, a place and the lengths of the two rooms.
abbrev pub heighted : Survey → ℕ → Place → ℕ → ℕ → Answer Height
heighted s kind p slopes work = height_after s kind p slopes work (checked s)

-- A room whose first n numbers are 0, and the rest as it was.
abbrev pub zeroed {ℓ} : {A : Type ℓ} → A → ℕ → List A → List A
zeroed zero n old = replicate n zero ++ drop n old

-- The slope room and the work room: 'all zero after it', whichever of the three kinds is given; a refusal leaves them as they were.
abbrev pub slopes_after : Answer Height → Survey → List ℤ → List ℤ
slopes_after (Ok h) s old = zeroed (pos 0) (slope_room (count s)) old
slopes_after (Err why) s old = old

abbrev pub work_after : Answer Height → Survey → List ℕ → List ℕ
work_after (Ok h) s old = zeroed 0 (work_room (count s)) old
work_after (Err why) s old = old
