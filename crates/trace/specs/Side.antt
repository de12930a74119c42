-- The sides of a mesh: document 01, "Lines" and "The curve along a side". A mesh is a list of triangles of station numbers, each
-- written counterclockwise. Assumes nothing.
use Rattle.std.specs.Prelude.{Bool, true, false, cond, ◌&&◌, ◌||◌, List, [], ◌∷◌, ℕ, ltb, eqb}
use Rattle.std.proofs.Math.Option.{Option, none, some}
use Rattle.sweep.specs.Sweep.{Three}

infix 90 ◌⟶◌
-- A directed side: a side as it is run, from one station to another.
pub data Directed : Type 0 where
  ◌⟶◌ : ℕ → ℕ → Directed

-- 1 if so, else 0.
abbrev pub bit : Bool → ℕ
bit true = 1
bit false = 0

-- The same side in the same direction.
unfoldable pub is_same : Directed → Directed → Bool
is_same (a ⟶ b) (c ⟶ d) = eqb a c && eqb b d

-- The same side in the other direction.
abbrev pub reversed : Directed → Directed
reversed (a ⟶ b) = b ⟶ a

-- 'A side runs from its lower-numbered station to its higher': the side that is run, so directed.
unfoldable pub side_of : Directed → Directed
side_of (a ⟶ b) = cond (ltb a b) (a ⟶ b) (b ⟶ a)

-- 'the triangle left of it as it runs': the triangle whose own boundary runs the side in that direction. Its third corner, if there
-- is such a triangle.
unfoldable pub left_corner : List (Three ℕ) → Directed → Option ℕ
left_corner [] d = none
left_corner (t ∷ ts) d =
    cond (is_same d (t.a ⟶ t.b)) (some t.c) (cond (is_same d (t.b ⟶ t.c)) (some t.a) (cond (is_same d (t.c ⟶ t.a)) (some t.b) (left_corner ts d)))

-- There is one.
abbrev pub is_there : Option ℕ → Bool
is_there none = false
is_there (some c) = true

-- A side of the mesh, as it runs: some triangle has it, on its left or on its right. From here on a mesh is its left corners.
unfoldable pub is_side : (Directed → Option ℕ) → Directed → Bool
is_side left (i ⟶ j) = ltb i j && (is_there (left (i ⟶ j)) || is_there (left (j ⟶ i)))

-- A hull side has one triangle: the side, directed so that this one is left of it. None where there is a triangle on either hand.
abbrev pub inward_by : Directed → Option ℕ → Option ℕ → Option Directed
inward_by d none r = some (reversed d)
inward_by d (some c) none = some d
inward_by d (some c) (some r) = none

unfoldable pub inward : (Directed → Option ℕ) → Directed → Option Directed
inward left d = inward_by d (left d) (left (reversed d))
