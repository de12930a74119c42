-- A height in its range is told as a number in that of its line. Assumes nothing.
use mathlib.Core.Path.{◌≡◌}
use Prim.Native.Nat.{◌≤◌}
use native.Mathlib.Omega.{arith}
use lib.IntN.{ℤ, pos, negsuc, ◌+ℤ◌}
use Rattle.whole.specs.Range.{Within}
use Rattle.whole.proofs.Bridge.{Is, int, is_nat, is_add, is_eq}
use Rattle.whole.proofs.RangeLaws.{within-order}
use Rattle.shapes.specs.Line.{zero_at}
use Rattle.survey.specs.Limits.{most_height}
use Rattle.formats.specs.Lines.{told, least_height}

module _ (z : ℤ) (h : Within most_height z) where
  -- z is what is told of it less 32,768.
  pub told_is : Is z (told z) zero_at
  told_is = go z h
    where
      go : (z : ℤ) → Within most_height z → Is z (told z) zero_at
      go (pos n) h = record { is = omega arith }
      go (negsuc n) h = record { is = omega (arith, h.by) }

  pub sum_told : z +ℤ pos 32768 ≡ pos (told z)
  sum_told = is_eq (is_add told_is (is_nat 32768)) (is_nat (told z)) (omega arith)

  pub told-range : (least_height ≤ told z) × (told z ≤ told (pos most_height))
  told-range = let b = within-order h in (omega (arith, int, told_is.is, b.0), omega (arith, int, told_is.is, b.1))
