-- What the mesh job answers, and what its rooms hold then: document 01, "Refusal numbers" and "Mesh", and document 02, L1. Assumes nothing.
use Rattle.std.specs.Prelude.{cond, ◌||◌, List, ◌++◌, ℕ, ◌*◌, ltb, length, drop, replicate, Ok, Err, ⊤}
use Rattle.survey.specs.Checks.{checked}
use Rattle.survey.specs.Rooms.{triangle_room, work_room}
use Rattle.survey.specs.Survey.{Survey, count}
use Rattle.survey.specs.Answer.{Answer}
use Rattle.survey.specs.declared.refusal.Refusal.TheVariants.{Number, Room}
use Rattle.sweep.specs.Sweep.{flat}
use Rattle.mesh.specs.Kinds.{is_no_kind, triangles_of}

-- After the checks 5 is left, for a kind that there is not, and 6: 'lent room too short'.
abbrev pub meshed_after : Survey → ℕ → ℕ → ℕ → Answer ⊤ → Answer ℕ
meshed_after s kind room work (Err why) = Err why
meshed_after s kind room work (Ok _) =
    cond (is_no_kind kind) (Err Number)
    (cond (ltb room (triangle_room (count s)) || ltb work (work_room (count s))) (Err Room) (Ok (length (triangles_of kind s))))

-- The answer for a survey, a kind and the lengths of the two rooms.
abbrev pub meshed : Survey → ℕ → ℕ → ℕ → Answer ℕ
meshed s kind room work = meshed_after s kind room work (checked s)

-- The triangle room: the triangles, and the rest as it was.
abbrev pub triangles_in : Answer ℕ → Survey → ℕ → List ℕ → List ℕ
triangles_in (Ok n) s kind old = flat (triangles_of kind s) ++ drop (3 * n) old
triangles_in (Err why) s kind old = old

-- The work room: 'all zero after it', and the rest as it was.
abbrev pub work_in : Answer ℕ → Survey → List ℕ → List ℕ
work_in (Ok n) s old = replicate (work_room (count s)) 0 ++ drop (work_room (count s)) old
work_in (Err why) s old = old
