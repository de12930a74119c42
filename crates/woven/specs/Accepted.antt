-- The check of a mesh that is handed in: document 02, L10. l is the list of its numbers, three to a triangle; ts are triangles of the list.
-- Assumes nothing.
use Rattle.std.specs.Prelude.{Bool, cond, not, ◌&&◌, ◌||◌, List, [], ◌∷◌, ℕ, zero, suc, ◌*◌, ◌-◌, ◌/◌, ◌%◌, min, eqb, ltb, pos, ◌-ℤ◌, length, Ok, Err, ⊤}
use Rattle.std.specs.Int.Signed.{lt_z}
use Rattle.lists.specs.Lowest.{some}
use Rattle.survey.specs.Checks.{is_nonzero, checked}
use Rattle.survey.specs.Survey.{Survey, count, place_of, in_use}
use Rattle.survey.specs.Answer.{Answer}
use Rattle.survey.specs.declared.refusal.Refusal.TheVariants.{Mesh}
use Rattle.sweep.specs.Members.{sum}
use Rattle.sweep.specs.Page.{every}
use Rattle.sweep.specs.Sweep.{Three}
use Rattle.neighbours.specs.Room.{threes}
use Rattle.hull.specs.Hull.{is_hull_side, twice_hull}
use Rattle.hull.specs.MeshOf.{twice_of, runs_in}
use Rattle.held.specs.Held.{is_held}

-- 'the list holds whole triangles': how many, and which.
abbrev pub whole_in : List ℕ → ℕ
whole_in l = length l / 3

abbrev pub supplied_in : List ℕ → List (Three ℕ)
supplied_in l = threes (whole_in l) l

-- 'whole triangles, at most 2n-5 (n counting stations in use)', where it is not so.
unfoldable pub is_wrong_length : Survey → List ℕ → Bool
is_wrong_length s l = not (eqb (length l % 3) 0) || ltb (2 * count s - 5) (whole_in l)

-- 'of stations in use'
abbrev pub is_numbered : Survey → Three ℕ → Bool
is_numbered s t = in_use s t.a && (in_use s t.b && in_use s t.c)

-- 'counterclockwise with positive area'
abbrev pub is_positive : Survey → Three ℕ → Bool
is_positive s t = lt_z (pos 0) (twice_of s t)

-- 'no station in use lies in a triangle (edges counted) except as its corner': station k does.
abbrev pub is_corner : ℕ → Three ℕ → Bool
is_corner k t = eqb k t.a || (eqb k t.b || eqb k t.c)

unfoldable pub is_inner : Survey → Three ℕ → ℕ → Bool
is_inner s t k = in_use s k && (is_held (place_of s) (place_of s k) t && not (is_corner k t))

-- 'each side is run by two triangles, once each way, or is a hull side with one': the side from i to j is so.
unfoldable pub is_sewn : Survey → List (Three ℕ) → ℕ → ℕ → Bool
is_sewn s ts i j = eqb (runs_in i j ts) 1 && (eqb (runs_in j i ts) 1 || (is_hull_side s i j && eqb (runs_in j i ts) 0))

-- A triangle of ts without 'a wrong number, turn, inner station or side'.
unfoldable pub is_faultless : Survey → List (Three ℕ) → Three ℕ → Bool
is_faultless s ts t =
    is_numbered s t
    && (is_positive s t && (not (some (is_inner s t) (count s)) && (is_sewn s ts t.a t.b && (is_sewn s ts t.b t.c && is_sewn s ts t.c t.a))))

-- 'the first triangle, in its order, with a wrong number, turn, inner station or side', of the triangles us of ts; where none is
-- wrong, how many they are.
unfoldable pub first_wrong : Survey → List (Three ℕ) → List (Three ℕ) → ℕ
first_wrong s ts [] = zero
first_wrong s ts (t ∷ us) = cond (is_faultless s ts t) (suc (first_wrong s ts us)) zero

-- 'every station in use is a corner': station k is none.
unfoldable pub is_unused : Survey → List (Three ℕ) → ℕ → Bool
is_unused s ts k = in_use s k && every (λ t. not (is_corner k t)) ts

-- 'the areas sum to the hull's'
abbrev pub is_whole_area : Survey → List (Three ℕ) → Bool
is_whole_area s ts = not (is_nonzero (sum (twice_of s) ts -ℤ twice_hull s))

-- 'accepted exactly if'
unfoldable pub is_accepted : Survey → List ℕ → Bool
is_accepted s l =
    not (is_wrong_length s l)
    && (eqb (first_wrong s (supplied_in l) (supplied_in l)) (whole_in l)
    && (not (some (is_unused s (supplied_in l)) (count s)) && is_whole_area s (supplied_in l)))

-- What refusal 9 carries: 'A wrong length is tested first', and carries 'the count of whole triangles'; so does an unused station or a wrong
-- sum, where no triangle is wrong. A count that 32 bits do not hold is carried as the largest that they do.
unfoldable pub wrong_at : Survey → List ℕ → ℕ
wrong_at s l = cond (is_wrong_length s l) (min (whole_in l) 4294967295) (first_wrong s (supplied_in l) (supplied_in l))

-- 9 'comes after 4'.
abbrev pub accepted_after : Survey → List ℕ → Answer ⊤ → Answer ⊤
accepted_after s l (Err why) = Err why
accepted_after s l (Ok _) = cond (is_accepted s l) (Ok tt) (Err (Mesh (wrong_at s l)))

-- The checks of a survey and of a mesh of it that is handed in: refusals 1 to 4, then 9.
abbrev pub checked_over : Survey → List ℕ → Answer ⊤
checked_over s l = accepted_after s l (checked s)
