-- The control heights of a side fit, and so does their weighted sum: 'Nothing exceeds 64 signed bits.' Assumes nothing.
--
-- D and E are within their cuts, whatever the slopes, so a control height's bound follows from the range of the heights. The weights
-- at a stop are parts of 2 ^ 30, by the row sum, so the weighted sum goes no further than 2 ^ 30 control heights.
use mathlib.Core.Path.{◌≡◌, subst}
use mathlib.Core.List.{List}
use Prim.Native.Nat.{ℕ, zero, suc, ◌+◌, ◌*◌, ◌^◌, ◌≤◌, ◌<◌}
use native.Mathlib.Nat.{le_refl}
use native.Mathlib.Omega.{arith}
use lib.IntN.{ℤ, pos}
use lib.ListN.{get_or}
use mir.Syntax.{w32}
use Rattle.whole.specs.Range.{Within}
use Rattle.whole.proofs.RangeLaws.{within_more, within-add, within-mul, within-pos}
use Rattle.whole.proofs.Expression.{Signed, var, lit, wide, ◌⊕◌, ◌⊖◌, ◌⊗◌, within}
use Rattle.whole.proofs.CutLaws.{cut-within}
use Rattle.survey.specs.Limits.{most_height}
use Rattle.curve.specs.declared.side.End.{End}
use Rattle.curve.specs.Side.{dx, dy}
use Rattle.curve.specs.Weights.{weight_of}
use Rattle.curve.specs.Curve.{most_d, slope_d, most_e, slope_e, control_heights, most_control, ControlsFit, most_weighed, weighed, smooth_at}
use Rattle.curve.proofs.WeightLaws.{row-sum, weight-le}

-- 'then D cut to ±33,554,432 and E to ±134,217,728'
pub D-within : (p q x y : ℤ) → Within most_d (slope_d p q x y)
unfolding slope_d
D-within p q x y = cut-within most_d _

pub E-within : (r s t x y : ℤ) → Within most_e (slope_e r s t x y)
unfolding slope_e
E-within r s t x y = cut-within most_e _

-- The control heights as expressions of the code, counted from the station: Z, then with 4D, then with 8D and E; from the lower-numbered
-- station D goes forward, from the higher one back.
abbrev pub own : ℤ → Signed
own z = lit (pos 5120) ⊗ wide w32 (var z most_height)

abbrev pub next : ℤ → ℤ → Signed
next z d = own z ⊕ lit (pos 4) ⊗ var d most_d

abbrev pub second : ℤ → ℤ → ℤ → Signed
second z d e = own z ⊕ lit (pos 8) ⊗ var d most_d ⊕ var e most_e

abbrev pub second_back : ℤ → ℤ → ℤ → Signed
second_back z d e = own z ⊖ lit (pos 8) ⊗ var d most_d ⊕ var e most_e

abbrev pub next_back : ℤ → ℤ → Signed
next_back z d = own z ⊖ lit (pos 4) ⊗ var d most_d

module _ (low high : End) (low_in : Within most_height low.z) (high_in : Within most_height high.z) where
  D1 : Within most_d (slope_d low.p low.q (dx low high) (dy low high))
  D1 = D-within low.p low.q (dx low high) (dy low high)

  D2 : Within most_d (slope_d high.p high.q (dx low high) (dy low high))
  D2 = D-within high.p high.q (dx low high) (dy low high)

  E1 : Within most_e (slope_e low.r low.s low.t (dx low high) (dy low high))
  E1 = E-within low.r low.s low.t (dx low high) (dy low high)

  E2 : Within most_e (slope_e high.r high.s high.t (dx low high) (dy low high))
  E2 = E-within high.r high.s high.t (dx low high) (dy low high)

  control-within : (i : ℕ) → Within most_control (get_or (control_heights low high) i (pos 0))
  unfolding control_heights
  control-within zero = within_more (within (own low.z) (tt, low_in)) tt
  control-within (suc zero) = within_more (within (next low.z _) ((tt, low_in), (tt, D1))) tt
  control-within (suc (suc zero)) = within (second low.z _ _) (((tt, low_in), (tt, D1)), E1)
  control-within (suc (suc (suc zero))) = within (second_back high.z _ _) (((tt, high_in), (tt, D2)), E2)
  control-within (suc (suc (suc (suc zero)))) = within_more (within (next_back high.z _) ((tt, high_in), (tt, D2))) tt
  control-within (suc (suc (suc (suc (suc zero))))) = within_more (within (own high.z) (tt, high_in)) tt
  control-within (suc (suc (suc (suc (suc (suc i)))))) = within-pos (omega arith)

  pub controls-fit : ControlsFit (control_heights low high)
  controls-fit = record { each = control-within }

-- Six weights of one row, each by the same bound.
shared :
    (a b c d e f : ℕ) → a + b + c + d + e + f ≡ 2 ^ 30
    → a * most_control + b * most_control + c * most_control + d * most_control + e * most_control + f * most_control ≡ most_weighed
shared a b c d e f h = omega arith

module _ (h : List ℤ) (k : ℕ) (fit : ControlsFit h) where
  weighed-within : (i : ℕ) → Within (weight_of k i * most_control) (weighed h k i)
  unfolding weighed
  weighed-within i = within-mul (within-pos (le_refl (weight_of k i))) (fit.each i)

  -- One weighed control height, and all six together.
  pub weighed-bound : (i : ℕ) → k ≤ 64 → i < 6 → Within most_weighed (weighed h k i)
  weighed-bound i l m = record { by = omega (arith, (weighed-within i).by, weight-le k i l m) }

  pub smooth-within : k ≤ 64 → Within most_weighed (smooth_at h k)
  unfolding smooth_at
  smooth-within l =
      let w = weighed-within in
      subst (λ (n : ℕ). Within n (smooth_at h k))
      (shared (weight_of k 0) (weight_of k 1) (weight_of k 2) (weight_of k 3) (weight_of k 4) (weight_of k 5) (row-sum k l))
      (within-add (within-add (within-add (within-add (within-add (w 0) (w 1)) (w 2)) (w 3)) (w 4)) (w 5))
