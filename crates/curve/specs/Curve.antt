-- The curve along a side at its 65 stops, k / 64 of the way for k from 0 to 64: document 01, "The curve along a side". Stop 0 is
-- the lower-numbered station. A curve's value is the height times its scale, and is compared with the level times that scale.
-- Assumes nothing.
use Rattle.std.specs.Prelude.{Bool, cond, List, [], ◌∷◌, ℕ, ◌*◌, ◌-◌, ◌^◌, eqb, ℤ, pos, ◌+ℤ◌, ◌-ℤ◌, ◌*ℤ◌, get_or}
use Rattle.whole.specs.Range.{Within}
use Rattle.whole.specs.Rounding.{rounded}
use Rattle.whole.specs.Cut.{cut}
use Rattle.curve.specs.declared.side.End.{End}
use Rattle.curve.specs.Side.{dx, dy}
use Rattle.curve.specs.Weights.{weight_of}

-- 'Straight, at k/64: z1·(64-k) + z2·k'
abbrev pub straight_at : ℤ → ℤ → ℕ → ℤ
straight_at z1 z2 k = z1 *ℤ pos (64 - k) +ℤ z2 *ℤ pos k

-- 'at each end D = p·dx + q·dy .. divided by 256 with the rounding above, then D cut to ±33,554,432'
abbrev pub most_d : ℕ
most_d = 33554432

unfoldable pub slope_d : ℤ → ℤ → ℤ → ℤ → ℤ
slope_d p q dx dy = cut most_d (rounded (p *ℤ dx +ℤ q *ℤ dy) 256)

-- 'and E = r·dx² + 2·s·dx·dy + t·dy², divided by 256 with the rounding above, then .. E to ±134,217,728'
abbrev pub most_e : ℕ
most_e = 134217728

unfoldable pub slope_e : ℤ → ℤ → ℤ → ℤ → ℤ → ℤ
slope_e r s t dx dy = cut most_e (rounded (r *ℤ (dx *ℤ dx) +ℤ pos 2 *ℤ s *ℤ dx *ℤ dy +ℤ t *ℤ (dy *ℤ dy)) 256)

-- 'With Z = 5,120·z the six control heights are Z1, Z1+4D1, Z1+8D1+E1, Z2-8D2+E2, Z2-4D2, Z2.'
abbrev pub six_heights : ℤ → ℤ → ℤ → ℤ → ℤ → ℤ → List ℤ
six_heights z1 D1 E1 z2 D2 E2 =
    let Z1 = pos 5120 *ℤ z1 in
    let Z2 = pos 5120 *ℤ z2 in
    Z1 ∷ (Z1 +ℤ pos 4 *ℤ D1) ∷ (Z1 +ℤ pos 8 *ℤ D1 +ℤ E1) ∷ (Z2 -ℤ pos 8 *ℤ D2 +ℤ E2) ∷ (Z2 -ℤ pos 4 *ℤ D2) ∷ Z2 ∷ []

unfoldable pub control_heights : End → End → List ℤ
control_heights low high =
    six_heights
    low.z (slope_d low.p low.q (dx low high) (dy low high)) (slope_e low.r low.s low.t (dx low high) (dy low high))
    high.z (slope_d high.p high.q (dx low high) (dy low high)) (slope_e high.r high.s high.t (dx low high) (dy low high))

-- How far control heights go: 5,120 · 32,767 + 8 · 33,554,432 + 134,217,728.
abbrev pub most_control : ℕ
most_control = 570420224

pub record ControlsFit (h : List ℤ) : Type 0 where
  pub each : (i : ℕ) → Within most_control (get_or h i (pos 0))

-- Control height i by its weight at stop k, and how far that goes: 2 ^ 30 control heights.
abbrev pub most_weighed : ℕ
most_weighed = 612484051764248576

unfoldable pub weighed : List ℤ → ℕ → ℕ → ℤ
weighed h k i = pos (weight_of k i) *ℤ get_or h i (pos 0)

-- 'The weighted sum' of the control heights at stop k.
unfoldable pub smooth_at : List ℤ → ℕ → ℤ
smooth_at h k = weighed h k 0 +ℤ weighed h k 1 +ℤ weighed h k 2 +ℤ weighed h k 3 +ℤ weighed h k 4 +ℤ weighed h k 5

-- 'Style is 0 straight, 1 smooth.'
abbrev pub is_straight : ℕ → Bool
is_straight style = eqb style 0

unfoldable pub curve_of : ℕ → End → End → ℕ → ℤ
curve_of style low high = cond (is_straight style) (straight_at low.z high.z) (smooth_at (control_heights low high))

-- 'against 64 times the level'; 'compared with 5,120·2^30 times the level'
abbrev pub scale_of : ℕ → ℕ
scale_of style = cond (is_straight style) 64 (5120 * 2 ^ 30)

abbrev pub scaled : ℕ → ℤ → ℤ
scaled style level = pos (scale_of style) *ℤ level
