-- The crossed sides, and the order of sides: document 01, "Lines". `left` gives the mesh by its left corners and `below` the stations
-- below the level. Assumes nothing.
use Rattle.std.specs.Prelude.{Bool, cond, not, ◌&&◌, List, [], ◌∷◌, ◌++◌, ℕ, zero, suc, ◌<◌}
use Rattle.std.specs.Bool.{beq}
use Rattle.std.proofs.Math.Option.{Option}
use Rattle.trace.specs.Side.{Directed, ◌⟶◌, is_side}

-- A side is crossed if one of its stations is below the level and the other is not.
unfoldable pub is_crossed : (ℕ → Bool) → Directed → Bool
is_crossed below (i ⟶ j) = not (beq (below i) (below j))

-- 'Sides are ordered by (lower, higher) station.'
pub data Before : Directed → Directed → Type 0 where
  lower : {a b c d : ℕ} → a < c → Before (a ⟶ b) (c ⟶ d)
  higher : {a b d : ℕ} → b < d → Before (a ⟶ b) (a ⟶ d)

-- In that order: those of i ⟶ j, .., i ⟶ (j + k - 1) that pass p; then those from i, .., i + k - 1 to stations below n.
unfoldable pub row : (Directed → Bool) → ℕ → ℕ → ℕ → List Directed
row p i j zero = []
row p i j (suc k) = cond (p (i ⟶ j)) (i ⟶ j ∷ row p i (suc j) k) (row p i (suc j) k)

unfoldable pub rows : (Directed → Bool) → ℕ → ℕ → ℕ → List Directed
rows p n i zero = []
rows p n i (suc k) = row p i 0 n ++ rows p n (suc i) k

-- The sides of a mesh of n stations, in order; and the crossed ones.
unfoldable pub sides : (Directed → Option ℕ) → ℕ → List Directed
sides left n = rows (is_side left) n 0 n

unfoldable pub crossed : (Directed → Option ℕ) → (ℕ → Bool) → ℕ → List Directed
crossed left below n = rows (λ d. is_side left d && is_crossed below d) n 0 n
