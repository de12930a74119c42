-- The bracket where a curve passes a level: document 01, "The curve along a side", and demand 3. A curve gives a value at each of
-- the 65 stops of a side, and stop 0 is the lower-numbered station. Assumes nothing.
use Rattle.std.specs.Prelude.{Bool, not, ◌≡◌, ℕ, ◌+◌, ◌≤◌, ◌<◌, ℤ}
use Rattle.std.specs.Bool.{xor}
use Rattle.lists.specs.Lowest.{lowest}
use Rattle.curve.specs.Below.{below}

-- The curve is 'below the level at one end and not below at the other' of the sixty-fourth from stop k to stop k + 1.
abbrev pub is_change : (ℕ → ℤ) → ℤ → ℕ → Bool
is_change curve level k = xor (below level (curve k)) (below level (curve (k + 1)))

-- 'the first sixty-fourth of the side, counted from the lower-numbered station, where the curve is below the level at one end and
-- not below at the other'; 64 where there is none.
unfoldable pub bracket_of : (ℕ → ℤ) → ℤ → ℕ
bracket_of curve level = lowest (is_change curve level) 64

-- The same without a search. k is the bracket: the stops from 0 to k are on stop 0's side of the level, and stop k + 1 is not.
pub record Bracket (curve : ℕ → ℤ) (level : ℤ) (k : ℕ) : Type 0 where
  pub within : k < 64
  pub before : (i : ℕ) → i ≤ k → below level (curve i) ≡ below level (curve 0)
  pub after : below level (curve (k + 1)) ≡ not (below level (curve 0))
