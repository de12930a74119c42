-- Demand 3: what is drawn between two joined stations, 'for every accepted survey, level and style', over any mesh of the survey. Assumes
-- nothing.
use Rattle.std.specs.Prelude.{true, false, List, ◌≡◌, ℕ, ◌+◌, ◌≤◌, ◌<◌, ℤ, pos, ◌+ℤ◌, ◌≤ℤ◌, ◌<ℤ◌}
use Rattle.sweep.specs.Sweep.{Three}
use Rattle.survey.specs.Survey.{Survey, count, height_of}
use Rattle.curve.specs.declared.side.End.{End}
use Rattle.curve.specs.declared.spot.Spot.{Spot}
use Rattle.curve.specs.Below.{below, is_crossed}
use Rattle.curve.specs.Bracket.{is_change, Bracket}
use Rattle.curve.specs.Curve.{curve_of, scaled}
use Rattle.curve.specs.Side.{dx, dy}
use Rattle.curve.specs.Spot.{stop_at, Drawn, Onward}
use Rattle.trace.specs.Side.{◌⟶◌, left_corner, is_side}
use Rattle.trace.specs.Lines.{vertices}
use Rattle.trace.specs.Mesh.{count as count_of}
use Rattle.slopes.specs.Job.{slopes_of}
use Rattle.hull.specs.MeshOf.{MeshOf}
use Rattle.spots.specs.Lines.{lines_of, end_at, spot_on}

-- 'a joined pair carries exactly one drawn spot if one end is below the level and the other isn't; otherwise none'.
pub record Carried (s : Survey) (ts : List (Three ℕ)) (level : ℤ) (style i j : ℕ) : Type 0 where
  pub one : is_crossed level (height_of s i) (height_of s j) ≡ true
      → (count_of (i ⟶ j) (vertices (lines_of s ts level)) ≡ 1)
      × Drawn style (end_at s (slopes_of s) i) (end_at s (slopes_of s) j) level (spot_on s (slopes_of s) style level (i ⟶ j))
  pub only : (a b : Spot) → Drawn style (end_at s (slopes_of s) i) (end_at s (slopes_of s) j) level a
      → Drawn style (end_at s (slopes_of s) i) (end_at s (slopes_of s) j) level b → a ≡ b
  pub none : is_crossed level (height_of s i) (height_of s j) ≡ false
      → (count_of (i ⟶ j) (vertices (lines_of s ts level)) ≡ 0)
      × ((a : Spot) → Drawn style (end_at s (slopes_of s) i) (end_at s (slopes_of s) j) level a → ⊥)

-- 'The spot is the middle of the first sixty-fourth of the side, counted from the lower-numbered station, where the exact curve of that
-- style is below the level at one end and not below at the other; it is 1/128 of the side from either end of that piece.' The piece is
-- from stop k to stop k + 1; in 128ths the side is 128 times (dx, dy).
pub record Middle (style : ℕ) (low high : End) (level : ℤ) (spot : Spot) (k : ℕ) : Type 0 where
  pub change : is_change (curve_of style low high) (scaled style level) k ≡ true
  pub first : (j : ℕ) → j < k → is_change (curve_of style low high) (scaled style level) j ≡ false
  pub x : (pos spot.x ≡ stop_at low.x high.x k +ℤ dx low high) × (stop_at low.x high.x (k + 1) ≡ pos spot.x +ℤ dx low high)
  pub y : (pos spot.y ≡ stop_at low.y high.y k +ℤ dy low high) × (stop_at low.y high.y (k + 1) ≡ pos spot.y +ℤ dy low high)

-- 'Along a side, spots of two levels in one style stand in order of height; they may coincide.' The spot of the higher level, b, is as
-- near the higher end as that of a, or nearer; and so are the brackets of any curve.
pub record Ordered (a b : ℤ) : Type 0 where
  pub spots : (style : ℕ) (low high : End) (p q : Spot) → Drawn style low high a p → Drawn style low high b q
      → (low.z <ℤ high.z → Onward low high p q) × (high.z <ℤ low.z → Onward low high q p)
  pub rising : (curve : ℕ → ℤ) (j k : ℕ) → Bracket curve a j → Bracket curve b k → below a (curve 0) ≡ true → j ≤ k
  pub falling : (curve : ℕ → ℤ) (j k : ℕ) → Bracket curve a j → Bracket curve b k → below b (curve 0) ≡ false → k ≤ j

pub record Crossing : Type 0 where
  pub carried : (s : Survey) (ts : List (Three ℕ)) → MeshOf s ts → (level : ℤ) (style i j : ℕ) → i < count s → j < count s
      → is_side (left_corner ts) (i ⟶ j) ≡ true
      → Carried s ts level style i j
  pub middle : (style : ℕ) (low high : End) (level : ℤ) (spot : Spot) (d : Drawn style low high level spot)
      → Middle style low high level spot d.k
  pub ordered : (a b : ℤ) → a ≤ℤ b → Ordered a b
