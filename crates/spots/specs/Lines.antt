-- The lines of a level over any mesh ts of a survey, and the spots that they pass: document 01, "Lines" and "The curve along a side".
-- Assumes nothing.
use Rattle.std.specs.Prelude.{Bool, ◌&&◌, List, map, ℕ, ◌+◌, ◌*◌, ◌/◌, ◌%◌, ℤ, pos, get_or}
use Rattle.sweep.specs.Sweep.{Three}
use Rattle.survey.specs.Survey.{Survey, count, place_of, height_of, in_use}
use Rattle.curve.specs.declared.side.End.{End}
use Rattle.curve.specs.declared.spot.Spot.{Spot}
use Rattle.curve.specs.Below.{below}
use Rattle.curve.specs.Bracket.{bracket_of}
use Rattle.curve.specs.Curve.{curve_of, scaled}
use Rattle.curve.specs.Spot.{spot_of}
use Rattle.trace.specs.Side.{Directed, ◌⟶◌}
use Rattle.trace.specs.Lines.{Line, lines, vertices}

-- Station k 'is below the level'.
abbrev pub is_below : Survey → ℤ → ℕ → Bool
is_below s level k = in_use s k && below level (height_of s k)

-- The lines of a level over the mesh.
unfoldable pub lines_of : Survey → List (Three ℕ) → ℤ → List Line
lines_of s ts level = lines ts (is_below s level) (count s)

-- Station k at an end of a side, with its slopes by a list of five for each station.
abbrev pub end_at : Survey → List ℤ → ℕ → End
end_at s slopes k =
    record {
      x = (place_of s k).x;
      y = (place_of s k).y;
      z = height_of s k;
      p = get_or slopes (5 * k) (pos 0);
      q = get_or slopes (5 * k + 1) (pos 0);
      r = get_or slopes (5 * k + 2) (pos 0);
      s = get_or slopes (5 * k + 3) (pos 0);
      t = get_or slopes (5 * k + 4) (pos 0);
    }

-- The spot on the side from station i to station j, of its first change of side.
abbrev pub spot_between : Survey → List ℤ → ℕ → ℤ → ℕ → ℕ → Spot
spot_between s slopes style level i j =
    let low = end_at s slopes i in
    let high = end_at s slopes j in
    spot_of low high (bracket_of (curve_of style low high) (scaled style level))

unfoldable pub spot_on : Survey → List ℤ → ℕ → ℤ → Directed → Spot
spot_on s slopes style level (i ⟶ j) = spot_between s slopes style level i j

-- 'Each crossed side gives one vertex': the spots of all lines, one line after another.
unfoldable pub spots_of : Survey → List (Three ℕ) → List ℤ → ℕ → ℤ → List Spot
spots_of s ts slopes style level = map (spot_on s slopes style level) (vertices (lines_of s ts level))

-- Their coordinates.
abbrev pub xs_of : List Spot → List ℕ
xs_of l = map (λ p. p.x) l

abbrev pub ys_of : List Spot → List ℕ
ys_of l = map (λ p. p.y) l

-- The spot on the side that a number stands for, its lower station by its higher half.
abbrev pub spot_at : Survey → List ℤ → ℕ → ℤ → ℕ → Spot
spot_at s slopes style level m = spot_between s slopes style level (m / 65536) (m % 65536)
