-- The hull of a survey: document 01, "Mesh": 'the hull is the convex outline of all the stations, defined without the mesh'. Assumes
-- nothing.
use Rattle.std.specs.Prelude.{Bool, cond, not, ◌&&◌, ◌||◌, List, [], ◌∷◌, ◌++◌, map, ℕ, zero, suc, eqb, ℤ, pos, length}
use Rattle.std.specs.Int.Signed.{lt_z}
use Rattle.lists.specs.Lowest.{some}
use Rattle.whole.specs.Turn.{turn}
use Rattle.survey.specs.Checks.{is_nonzero}
use Rattle.survey.specs.Survey.{Survey, count, place_of, in_use}
use Rattle.sweep.specs.Hull.{cross}
use Rattle.sweep.specs.Members.{sum}
use Rattle.sweep.specs.Page.{is_before}
use Rattle.sweep.specs.Sweep.{EdgeOf, edge}

-- Station w lies to the right of the side from i to j.
unfoldable pub is_right : Survey → ℕ → ℕ → ℕ → Bool
is_right s i j w = lt_z (turn (place_of s i) (place_of s j) (place_of s w)) (pos 0)

-- Station w stands on the line of stations i and j, strictly between them.
unfoldable pub is_between : Survey → ℕ → ℕ → ℕ → Bool
is_between s i j w =
    not (is_nonzero (turn (place_of s i) (place_of s j) (place_of s w)))
    && ((is_before (place_of s i) (place_of s w) && is_before (place_of s w) (place_of s j))
    || (is_before (place_of s j) (place_of s w) && is_before (place_of s w) (place_of s i)))

-- The side from station i to station j of the convex outline, as it runs counterclockwise: no station lies to its right, and none
-- between its ends, so that 'stations in the middle of a straight hull side stay hull stations'.
unfoldable pub is_hull_side : Survey → ℕ → ℕ → Bool
is_hull_side s i j =
    (in_use s i && in_use s j) && (not (eqb i j) && not (some (λ w. is_right s i j w || is_between s i j w) (count s)))

-- A station 'on the hull's edge': an end of a hull side.
unfoldable pub is_hull_station : Survey → ℕ → Bool
is_hull_station s k = some (λ j. is_hull_side s k j || is_hull_side s j k) (count s)

-- The numbers below n that pass a test, and the pairs of numbers below n that do, by rising first number, then rising second.
unfoldable pub passing : (ℕ → Bool) → ℕ → List ℕ
passing p zero = []
passing p (suc k) = passing p k ++ cond (p k) (k ∷ []) []

unfoldable pub pairs_from : (ℕ → ℕ → Bool) → ℕ → ℕ → List (EdgeOf ℕ)
pairs_from p n zero = []
pairs_from p n (suc i) = pairs_from p n i ++ map (edge i) (passing (p i) n)

abbrev pub pairs_passing : (ℕ → ℕ → Bool) → ℕ → List (EdgeOf ℕ)
pairs_passing p n = pairs_from p n n

-- The hull's sides and its stations, each once.
abbrev pub hull_sides : Survey → List (EdgeOf ℕ)
hull_sides s = pairs_passing (is_hull_side s) (count s)

abbrev pub hull_stations : Survey → List ℕ
hull_stations s = passing (is_hull_station s) (count s)

-- 'With b stations on the hull's edge'
abbrev pub hull_count : Survey → ℕ
hull_count s = length (hull_stations s)

-- 'twice the hull's area': the sum of x_i·y_j - y_i·x_j over the hull's sides.
abbrev pub twice_hull : Survey → ℤ
twice_hull s = sum (λ e. cross (place_of s e.from) (place_of s e.to)) (hull_sides s)
