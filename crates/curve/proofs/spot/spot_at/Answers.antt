-- `spot_at` meets its contract: 2k + 1 is below 128, so that nothing exceeds a u32 nor falls below 0. Assumes nothing.
use mathlib.Core.Path.{refl}
use Rattle.curve.specs.Spot.{spot_at}
use Rattle.curve.proofs.spot.spot_at.Goals as goal

pub returns : goal.returns
unfolding spot_at
returns c = refl
