-- The sides of the survey that document 01 prints: T8, by computation. Assumes nothing.
use mathlib.Core.Path.{◌≡◌, refl}
use mathlib.Core.Bool.{xor}
use mathlib.Core.List.{List, [], ◌∷◌}
use Prim.Native.Nat.{ℕ}
use lib.IntN.{ℤ, pos}
use Rattle.whole.specs.Rounding.{rounded}
use Rattle.whole.specs.Cut.{cut}
use Rattle.curve.specs.declared.side.End.{End}
use Rattle.curve.specs.declared.spot.Spot.{Spot}
use Rattle.curve.specs.Weights.{weight_of}
use Rattle.curve.specs.Curve.{slope_d, slope_e, control_heights, weighed, smooth_at, curve_of, scaled}
use Rattle.curve.specs.Bracket.{bracket_of}
use Rattle.curve.specs.Spot.{spot_at, spot_of}

-- Its three stations, with the slopes of T7: 'p = q = 81,920, r = s = t = 0 everywhere'.
abbrev station : ℕ → ℕ → ℤ → End
station x y z = record { x = x; y = y; z = z; p = pos 81920; q = pos 81920; r = pos 0; s = pos 0; t = pos 0 }

abbrev bracket_at : ℕ → End → End → ℕ
bracket_at style low high = bracket_of (curve_of style low high) (scaled style (pos 5))

-- The brackets of its three sides at its level; 64 is none.
abbrev brackets : ℕ → List ℕ
brackets style =
    bracket_at style (station 0 0 (pos 0)) (station 8 0 (pos 10))
    ∷ bracket_at style (station 0 0 (pos 0)) (station 0 8 (pos 10))
    ∷ bracket_at style (station 8 0 (pos 10)) (station 0 8 (pos 10))
    ∷ []

-- T8: 'its smooth lines equal its straight ones.'
pub smooth_is_straight : brackets 1 ≡ brackets 0
unfolding xor bracket_of curve_of smooth_at weighed weight_of control_heights slope_d slope_e rounded cut
smooth_is_straight = refl

-- The two spots of its line, as it is printed: 'x=504 / y=0 / x=0 / y=504'.
abbrev spots : ℕ → List Spot
spots style =
    spot_of (station 0 0 (pos 0)) (station 8 0 (pos 10)) (bracket_at style (station 0 0 (pos 0)) (station 8 0 (pos 10)))
    ∷ spot_of (station 0 0 (pos 0)) (station 0 8 (pos 10)) (bracket_at style (station 0 0 (pos 0)) (station 0 8 (pos 10)))
    ∷ []

pub printed-spots : spots 0 ≡ record { x = 504; y = 0 } ∷ record { x = 0; y = 504 } ∷ []
unfolding xor bracket_of curve_of spot_at
printed-spots = refl
