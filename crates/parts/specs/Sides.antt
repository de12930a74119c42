-- The ranges in which the bracket and the spot of a side can be asked. Assumes nothing.
use Rattle.std.specs.Prelude.{Bool, not, ◌&&◌, ◌||◌, ℕ, ℤ, pos, neg_ℤ}
use Rattle.std.specs.Int.Signed.{lt_z}
use Rattle.survey.specs.Limits.{beyond, too_far, most_slope}
use Rattle.curve.specs.declared.side.End.{End}
use Rattle.curve.specs.Below.{is_crossed}
use Rattle.curve.specs.Curve.{curve_of, scaled}
use Rattle.curve.specs.Bracket.{bracket_of}

unfoldable pub is_height : ℤ → Bool
is_height z = not (too_far z)

unfoldable pub is_slope : ℤ → Bool
is_slope p = not (lt_z p (neg_ℤ (pos most_slope)) || lt_z (pos most_slope) p)

abbrev pub are_slopes : ℤ → ℤ → ℤ → ℤ → ℤ → Bool
are_slopes p q r s t = is_slope p && (is_slope q && (is_slope r && (is_slope s && is_slope t)))

unfoldable pub can_end : End → Bool
can_end e = not (beyond e.x) && (not (beyond e.y) && (is_height e.z && are_slopes e.p e.q e.r e.s e.t))

abbrev pub end_of : ℕ → ℕ → ℤ → ℤ → ℤ → ℤ → ℤ → ℤ → End
end_of x y z p q r s t = record { x = x; y = y; z = z; p = p; q = q; r = r; s = s; t = t }

unfoldable pub can_draw : End → End → ℤ → Bool
can_draw low high level = can_end low && (can_end high && (is_height level && is_crossed level low.z high.z))

abbrev pub bracket_at : ℕ → End → End → ℤ → ℕ
bracket_at style low high level = bracket_of (curve_of style low high) (scaled style level)
