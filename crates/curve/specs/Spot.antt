-- The spot of a bracket, and what is drawn on a side: document 01, "The curve along a side", and demand 3. Assumes nothing.
use Rattle.std.specs.Prelude.{true, ◌≡◌, ℕ, ◌+◌, ◌-◌, ◌*◌, ℤ, pos, ◌+ℤ◌, ◌-ℤ◌, ◌*ℤ◌}
use Rattle.curve.specs.declared.side.End.{End}
use Rattle.curve.specs.declared.spot.Spot.{Spot}
use Rattle.curve.specs.Below.{is_crossed}
use Rattle.curve.specs.Side.{dx, dy}
use Rattle.curve.specs.Curve.{curve_of, scaled}
use Rattle.curve.specs.Bracket.{Bracket}

-- 'The spot of bracket k .. is, in 128ths, 128·x1 + (2k+1)·dx, and likewise y.' The product by dx = x2 - x1 is multiplied out, so
-- that all is natural: 2k + 1 is below 128.
unfoldable pub spot_at : ℕ → ℕ → ℕ → ℕ
spot_at x1 x2 k = 128 * x1 + (2 * k + 1) * x2 - (2 * k + 1) * x1

abbrev pub spot_of : End → End → ℕ → Spot
spot_of low high k = record { x = spot_at low.x high.x k; y = spot_at low.y high.y k }

-- Where stop k stands between x1 and x2, in 128ths: 'bracket k (0 to 63, from k/64 to (k+1)/64)'.
abbrev pub stop_at : ℕ → ℕ → ℕ → ℤ
stop_at x1 x2 k = pos 128 *ℤ pos x1 +ℤ pos (2 * k) *ℤ (pos x2 -ℤ pos x1)

-- Demand 3: what is drawn on the side from low to high. It 'carries exactly one drawn spot if one end is below the level and the
-- other isn't; otherwise none'.
pub record Drawn (style : ℕ) (low high : End) (level : ℤ) (spot : Spot) : Type 0 where
  pub crossed : is_crossed level low.z high.z ≡ true
  pub k : ℕ
  pub bracket : Bracket (curve_of style low high) (scaled style level) k
  pub at : spot ≡ spot_of low high k

-- b is as far along the side from low as a is, or n 128ths of the side further: 'in order .. they may coincide'.
pub record Onward (low high : End) (a b : Spot) : Type 0 where
  pub n : ℕ
  pub x-onward : pos b.x ≡ pos a.x +ℤ pos n *ℤ dx low high
  pub y-onward : pos b.y ≡ pos a.y +ℤ pos n *ℤ dy low high
