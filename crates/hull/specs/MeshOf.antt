-- What makes a list of triangles of station numbers a mesh of a survey: document 01, "Mesh". It does not say in which order the
-- triangles stand, nor from which corner each is written. Assumes nothing.
use Rattle.std.specs.Prelude.{Bool, true, false, cond, ◌&&◌, List, ◌≡◌, ℕ, ◌+◌, ◌*◌, ◌≤◌, ◌<◌, eqb, ltb, ℤ, pos, length, ◌≤ℤ◌, ◌<ℤ◌}
use Rattle.whole.specs.Place.{Place}
use Rattle.whole.specs.Turn.{turn}
use Rattle.survey.specs.Survey.{Survey, count, place_of}
use Rattle.sweep.specs.Cover.{Holds, Inside, scale, big}
use Rattle.sweep.specs.Hull.{twice}
use Rattle.sweep.specs.Members.{Any, In, sum, total}
use Rattle.sweep.specs.Sweep.{Three, Triangle, tri, EdgeOf}
use Rattle.hull.specs.Hull.{is_hull_side, hull_count, pairs_passing, twice_hull}

-- The places of a triangle's corners, and twice its area.
abbrev pub placed : Survey → Three ℕ → Triangle
placed s t = tri (place_of s t.a) (place_of s t.b) (place_of s t.c)

abbrev pub twice_of : Survey → Three ℕ → ℤ
twice_of s t = twice (placed s t)

-- Station k is a corner of a triangle.
pub data CornerOf (k : ℕ) (t : Three ℕ) : Type 0 where
  at_a : k ≡ t.a → CornerOf k t
  at_b : k ≡ t.b → CornerOf k t
  at_c : k ≡ t.c → CornerOf k t

-- All corners of a triangle are stations of the survey.
pub record OnStations (s : Survey) (t : Three ℕ) : Type 0 where
  pub on_a : t.a < count s
  pub on_b : t.b < count s
  pub on_c : t.c < count s

-- The step from a to b is that from i to j: 1, or 0. How often a triangle's boundary, and those of a list of triangles, run from
-- station i to station j.
unfoldable pub step_is : ℕ → ℕ → ℕ → ℕ → ℕ
step_is i j a b = cond (eqb a i && eqb b j) 1 0

abbrev pub runs : ℕ → ℕ → Three ℕ → ℕ
runs i j t = step_is i j t.a t.b + step_is i j t.b t.c + step_is i j t.c t.a

abbrev pub runs_in : ℕ → ℕ → List (Three ℕ) → ℕ
runs_in i j ts = total (runs i j) ts

-- The sides of the triangles on stations below n, each once, from its lower to its higher station.
unfoldable pub is_side_in : List (Three ℕ) → ℕ → ℕ → Bool
is_side_in ts i j = ltb i j && ltb 0 (runs_in i j ts + runs_in j i ts)

abbrev pub sides_in : ℕ → List (Three ℕ) → List (EdgeOf ℕ)
sides_in n ts = pairs_passing (is_side_in ts) n

-- The place q, in k-ths, is within the hull, edges counted.
abbrev pub InHull : Survey → ℕ → Place → Type 0
InHull s k q = (i j : ℕ) → is_hull_side s i j ≡ true → pos 0 ≤ℤ turn (scale k (place_of s i)) (scale k (place_of s j)) q

-- The place q, in k-ths, is outside the hull: to the right of one of its sides.
pub record OffHull (s : Survey) (k : ℕ) (q : Place) : Type 0 where
  pub i : ℕ
  pub j : ℕ
  pub side : is_hull_side s i j ≡ true
  pub right : turn (scale k (place_of s i)) (scale k (place_of s j)) q <ℤ pos 0

-- The triangles ts, in any order and each from any of its corners, are a mesh of the survey s.
pub record MeshOf (s : Survey) (ts : List (Three ℕ)) : Type 0 where
  -- 'Triangles are written counterclockwise': 'Twice the areas are whole, positive, and sum to twice the hull's area'.
  pub stations : (t : Three ℕ) → In t ts → OnStations s t
  pub positive : (t : Three ℕ) → In t ts → pos 0 <ℤ twice_of s t
  pub areas : sum (twice_of s) ts ≡ twice_hull s
  -- 'With b stations on the hull's edge there are 2n-b-2 triangles and 3n-b-3 sides'.
  pub triangle-count : length ts + hull_count s + 2 ≡ 2 * count s
  pub side-count : length (sides_in (count s) ts) + hull_count s + 3 ≡ 3 * count s
  -- Every station is a corner, and a triangle holds no station, edges counted, but its corners.
  pub used : (k : ℕ) → k < count s → Any (CornerOf k) ts
  pub clear : (t : Three ℕ) → In t ts → (k : ℕ) → k < count s → Holds turn (placed s t) (place_of s k) → CornerOf k t
  -- No two triangles run along a side in one direction. A hull side is run counterclockwise, and never back; any other side that is run
  -- is run both ways.
  pub once : (i j : ℕ) → runs_in i j ts ≤ 1
  pub hull : (i j : ℕ) → is_hull_side s i j ≡ true → (runs_in i j ts ≡ 1) × (runs_in j i ts ≡ 0)
  pub shared : (i j : ℕ) → is_hull_side s i j ≡ false → 0 < runs_in i j ts → runs_in j i ts ≡ 1
  -- The triangles cover the hull and nothing else, and do not overlap: of places in k-ths, for any k above 0.
  pub covered : (k : ℕ) → 0 < k → (q : Place) → InHull s k q → Any (λ t. Holds turn (big k (placed s t)) q) ts
  pub outside : (k : ℕ) → 0 < k → (q : Place) → OffHull s k q → (t : Three ℕ) → In t ts → Holds turn (big k (placed s t)) q → ⊥
  pub inside : (k : ℕ) → 0 < k → (q : Place) (t u : Three ℕ) → In t ts → In u ts → Inside (big k (placed s t)) q → Inside (big k (placed s u)) q → t ≡ u
