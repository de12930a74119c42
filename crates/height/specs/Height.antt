-- The height at a place of a survey: document 01, "Height at a place". ts are the triangles of the survey's mesh. Assumes nothing.
use Rattle.std.specs.Prelude.{Bool, cond, not, ◌&&◌, List, ℕ, ltb, length, get_or}
use Rattle.lists.specs.Lowest.{some}
use Rattle.whole.specs.Place.{Place}
use Rattle.survey.specs.Survey.{Survey, count, place_of, height_of}
use Rattle.survey.specs.declared.answers.Height.{Height}
use Rattle.survey.specs.declared.answers.Height.TheVariants.{Own, Between, Outside}
use Rattle.sweep.specs.Sweep.{Three, tri}
use Rattle.hull.specs.Hull.{is_hull_side}
use Rattle.held.specs.Held.{station_at, is_left, holder, interpolated}

-- 'outside the hull': strictly to the right of a side of the convex outline, which is defined without the mesh.
abbrev pub is_beyond : Survey → Place → ℕ → ℕ → Bool
is_beyond s p i j = is_hull_side s i j && not (is_left (place_of s i) (place_of s j) p)

unfoldable pub is_outside : Survey → Place → Bool
is_outside s p = some (λ i. some (is_beyond s p i) (count s)) (count s)

-- Triangle k of a list, and the first that holds the place.
abbrev pub triangle_at : List (Three ℕ) → ℕ → Three ℕ
triangle_at ts k = get_or ts k (tri 0 0 0)

abbrev pub first_holding : Survey → List (Three ℕ) → Place → Three ℕ
first_holding s ts p = triangle_at ts (holder (place_of s) (triangle_at ts) (length ts) p)

-- 'The answer is one of three kinds: a station's own height, an interpolated height, or outside the hull. A place on a station gives
-- that z exactly. Else the first triangle in the list that holds the place, edges included, is used'.
unfoldable pub height_at : Survey → List (Three ℕ) → Place → Height
height_at s ts p =
    cond (ltb (station_at s p) (count s)) (Own (height_of s (station_at s p)))
    (cond (is_outside s p) Outside (Between (interpolated s (first_holding s ts p) p)))
