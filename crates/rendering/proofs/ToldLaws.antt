-- A whole number and what is told of it undo each other, in range. Assumes nothing.
use mathlib.Core.Path.{◌≡◌}
use Prim.Native.Nat.{ℕ, ◌≤◌}
use native.Mathlib.Omega.{arith}
use lib.IntN.{ℤ, pos}
use Rattle.whole.specs.Range.{Within}
use Rattle.whole.proofs.Bridge.{Is, int, is_sub}
use Rattle.whole.proofs.RangeLaws.{order-within}
use Rattle.shapes.specs.Line.{zero_at}
use Rattle.survey.specs.Limits.{most_height}
use Rattle.formats.specs.Lines.{told, least_height}
use Rattle.formats.proofs.ToldLaws.{told_is}
use Rattle.rendering.specs.Values.{untold}

-- What is told by v is v less 32,768.
pub untold_is : (v : ℕ) → Is (untold v) v zero_at
untold_is v = is_sub v zero_at

pub untold-within : (v : ℕ) → least_height ≤ v → v ≤ told (pos most_height) → Within most_height (untold v)
untold-within v h l = order-within (omega (arith, int, (untold_is v).is)) (omega (arith, int, (untold_is v).is))

pub untold-told : (z : ℤ) → Within most_height z → untold (told z) ≡ z
untold-told z h = omega (arith, int, (told_is z h).is, (untold_is (told z)).is)

pub told-untold : (v : ℕ) → least_height ≤ v → v ≤ told (pos most_height) → told (untold v) ≡ v
told-untold v h l = omega (arith, (told_is (untold v) (untold-within v h l)).is, (untold_is v).is)
