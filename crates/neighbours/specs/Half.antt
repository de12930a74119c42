-- The half-sides of a list of triangles. Half-side 3·k + j is side j of triangle k, from its corner j to its next corner, as the
-- triangle's boundary runs; so its number is also the place of the corner that it starts from. A side between two triangles has two
-- half-sides, run opposite ways; a hull side has one. Assumes nothing.
use Rattle.std.specs.Prelude.{cond, List, ℕ, ◌+◌, ◌*◌, ◌-◌, ◌/◌, ◌%◌, ltb, eqb, length, get_or}
use Rattle.std.proofs.Math.Option.{Option, none, some}
use Rattle.lists.specs.Lowest.{lowest}
use Rattle.sweep.specs.Sweep.{Three, flat}
use Rattle.trace.specs.Side.{Directed, ◌⟶◌, is_same, reversed}

-- The triangle that a half-side is of; the next and the previous half-side of the same triangle.
abbrev pub triangle_of : ℕ → ℕ
triangle_of h = h / 3

unfoldable pub after : ℕ → ℕ
after h = cond (eqb (h % 3) 2) (h - 2) (h + 1)

unfoldable pub before : ℕ → ℕ
before h = cond (eqb (h % 3) 0) (h + 2) (h - 1)

-- The corner that half-side h starts from, where the corners stand in a list; and the half-side as it runs.
abbrev pub corner_in : List ℕ → ℕ → ℕ
corner_in l h = get_or l h 0

abbrev pub runs_by : (ℕ → ℕ) → ℕ → Directed
runs_by corner h = corner h ⟶ corner (after h)

unfoldable pub side_at : List (Three ℕ) → ℕ → Directed
side_at ts h = runs_by (corner_in (flat ts)) h

-- The half-side that runs as d, if a triangle has one; and the half-side across h, which runs the same side the other way.
abbrev pub given : ℕ → ℕ → Option ℕ
given m i = cond (ltb i m) (some i) none

unfoldable pub half_of : List (Three ℕ) → Directed → Option ℕ
half_of ts d = given (3 * length ts) (lowest (λ g. is_same d (side_at ts g)) (3 * length ts))

abbrev pub twin : List (Three ℕ) → ℕ → Option ℕ
twin ts h = half_of ts (reversed (side_at ts h))
