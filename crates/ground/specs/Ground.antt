-- What a mesh of a survey promises of the ground and of the lines on it: document 02, L11. Assumes nothing.
use Rattle.std.specs.Prelude.{true, false, List, [], ◌∷◌, map, ◌⊎◌, ◌↔◌, ◌≡◌, ℕ, ◌+◌, ◌*◌, ◌<◌, ℤ, length, get_or, ◌≤ℤ◌}
use Rattle.whole.specs.Place.{Place, place}
use Rattle.whole.specs.Turn.{turn}
use Rattle.sweep.specs.Cover.{Holds, Inside, scale}
use Rattle.sweep.specs.Members.{Any, In}
use Rattle.sweep.specs.Sweep.{Three, tri, EdgeOf, edge}
use Rattle.survey.specs.Survey.{Survey, count, place_of}
use Rattle.trace.specs.Crossed.{is_crossed}
use Rattle.trace.specs.Side.{◌⟶◌, left_corner, is_side}
use Rattle.slopes.specs.Job.{slopes_of}
use Rattle.hull.specs.MeshOf.{CornerOf, placed, InHull}
use Rattle.spots.specs.Lines.{is_below, spots_of}
use Rattle.ground.specs.Meeting.{MeetInside, CrossProperly}
use Rattle.ground.specs.Segments.{station_place, standing, spot_place, spots_in, segments}
use Rattle.ground.specs.Sides.{mixed, Together, Divides, BetweenUnlike}

-- In a style and at a level, with the slopes of the survey: where the vertices of all lines stand, one line after another; the ends of the
-- segment in a triangle, if there is one; the segments of the lines.
abbrev pub vertices_at : Survey → List (Three ℕ) → ℕ → ℤ → List Place
vertices_at s ts style level = map standing (spots_of s ts (slopes_of s) style level)

abbrev pub ends_in : Survey → ℕ → ℤ → Three ℕ → List Place
ends_in s style level t = spots_in s (slopes_of s) style level t

abbrev pub segments_at : Survey → List (Three ℕ) → ℕ → ℤ → List (EdgeOf Place)
segments_at s ts style level = segments s ts (slopes_of s) style level

-- 'each whole-number place in the hull lies in some triangle, edges counted, and strictly inside at most one'; one that is not in the hull
-- lies in none.
pub record Covered (s : Survey) (ts : List (Three ℕ)) : Type 0 where
  pub held : (q : Place) → InHull s 1 q ↔ Any (λ t. Holds turn (placed s t) q) ts
  pub once : (q : Place) (i j : ℕ) → i < length ts → j < length ts
      → Inside (placed s (get_or ts i (tri 0 0 0))) q → Inside (placed s (get_or ts j (tri 0 0 0))) q → i ≡ j

-- The lines of a level, as a map shows them.
pub record Shown (s : Survey) (ts : List (Three ℕ)) (style : ℕ) (level : ℤ) : Type 0 where
  -- Every vertex lies on a side of the mesh, strictly between a station below the level and one not below it. No two vertices, of one line
  -- or of two, are at one place.
  pub between : (p : Place) → In p (vertices_at s ts style level) → BetweenUnlike s ts level p
  pub distinct : (i j : ℕ) → i < j → j < length (vertices_at s ts style level)
      → get_or (vertices_at s ts style level) i (place 0 0) ≡ get_or (vertices_at s ts style level) j (place 0 0) → ⊥
  -- A triangle has one segment or none, and the segments of the lines are these and no others, each that of one triangle.
  pub two-or_none : (t : Three ℕ)
      → (ends_in s style level t ≡ []) ⊎ ((p : Place) × (q : Place) × (ends_in s style level t ≡ p ∷ q ∷ []))
  pub drawn : (t : Three ℕ) → In t ts → (p q : Place) → ends_in s style level t ≡ p ∷ q ∷ []
      → In (edge p q) (segments_at s ts style level) ⊎ In (edge q p) (segments_at s ts style level)
  pub no_other : (p q : Place) → In (edge p q) (segments_at s ts style level)
      → Any (λ t. (ends_in s style level t ≡ p ∷ q ∷ []) ⊎ (ends_in s style level t ≡ q ∷ p ∷ [])) ts
  pub one_triangle : (t u : Three ℕ) → In t ts → In u ts → (p q : Place) → ends_in s style level t ≡ p ∷ q ∷ []
      → (ends_in s style level u ≡ p ∷ q ∷ []) ⊎ (ends_in s style level u ≡ q ∷ p ∷ []) → t ≡ u
  -- No reading is on the wrong side of a line: a triangle's segment has the corners below the level strictly on one side and the others
  -- strictly on the other; where there is no segment all corners are on one side of the level. And no station is on a segment.
  pub divides : (t : Three ℕ) → In t ts → (p q : Place) → ends_in s style level t ≡ p ∷ q ∷ [] → Divides s level t p q
  pub undivided : (t : Three ℕ) → ends_in s style level t ≡ [] → (j k : ℕ) → CornerOf j t → CornerOf k t → is_below s level j ≡ is_below s level k
  pub off_stations : (p q : Place) → In (edge p q) (segments_at s ts style level) → (k : ℕ) → k < count s → (m n : ℕ) → 0 < m + n
      → mixed m p n q ≡ scale (m + n) (station_place s k) → ⊥
  -- Where a segment meets the straight way between two joined stations, one of them is below the level and the other is not, and the place
  -- is that side's spot. It is m parts of p and n of q, and k parts of station i and l of station j: k + l is 128 times m + n, for stations
  -- are in whole units and p and q in 128ths.
  pub at_spots : (p q : Place) → In (edge p q) (segments_at s ts style level) → (i j : ℕ) → is_side (left_corner ts) (i ⟶ j) ≡ true
      → (m n k l : ℕ) → 0 < m + n → k + l ≡ (m + n) * 128 → mixed m p n q ≡ mixed k (place_of s i) l (place_of s j)
      → (is_crossed (is_below s level) (i ⟶ j) ≡ true) × (mixed m p n q ≡ scale (m + n) (spot_place s (slopes_of s) style level (i ⟶ j)))

-- 'in one style, the drawn segments of two different levels never cross properly in any triangle; they may touch'; nor do any two segments
-- anywhere on the map: where two meet in a place inside both, they are one.
pub record Uncrossed (s : Survey) (ts : List (Three ℕ)) (style : ℕ) (a b : ℤ) : Type 0 where
  pub in_triangle : (t : Three ℕ) → In t ts → (p q u v : Place)
      → ends_in s style a t ≡ p ∷ q ∷ [] → ends_in s style b t ≡ u ∷ v ∷ [] → CrossProperly p q u v → ⊥
  pub anywhere : (p q u v : Place)
      → In (edge p q) (segments_at s ts style a) → In (edge u v) (segments_at s ts style b) → CrossProperly p q u v → ⊥
  pub one_segment : (p q u v : Place)
      → In (edge p q) (segments_at s ts style a) → In (edge u v) (segments_at s ts style b) → MeetInside p q u v
      → ((p ≡ u) × (q ≡ v)) ⊎ ((p ≡ v) × (q ≡ u))

-- Where lines of two levels touch, they do not change sides either. Of a level and one that is not lower: in no triangle is an end of the
-- lower one's segment strictly on that side of the line through the higher one's segment on which a corner is that is not below the higher
-- level; and where only the lower one has a segment, all corners are below the higher.
pub record Nested (s : Survey) (ts : List (Three ℕ)) (style : ℕ) (lower higher : ℤ) : Type 0 where
  pub never-beyond : (t : Three ℕ) → In t ts → (p q u v : Place) → ends_in s style lower t ≡ p ∷ q ∷ [] → ends_in s style higher t ≡ u ∷ v ∷ []
      → (k : ℕ) → CornerOf k t → is_below s higher k ≡ false → (Together u v (station_place s k) p → ⊥) × (Together u v (station_place s k) q → ⊥)
  pub all_below : (t : Three ℕ) → In t ts → (p q : Place) → ends_in s style lower t ≡ p ∷ q ∷ [] → ends_in s style higher t ≡ []
      → (k : ℕ) → CornerOf k t → is_below s higher k ≡ true

-- All of it, of one mesh: in every style, at every level and pair of levels.
pub record Ground (s : Survey) (ts : List (Three ℕ)) : Type 0 where
  pub covered : Covered s ts
  pub shown : (style : ℕ) (level : ℤ) → Shown s ts style level
  pub uncrossed : (style : ℕ) (a b : ℤ) → Uncrossed s ts style a b
  pub nested : (style : ℕ) (lower higher : ℤ) → lower ≤ℤ higher → Nested s ts style lower higher
