-- `slope_of` meets its contract: a number of 32 bits goes through its bits unchanged. Assumes nothing.
use mathlib.Core.Path.{ap}
use mir.Facts.{to_z-of_z}
use Rattle.quintic.specs.Quintic.{over}
use Rattle.quintic.proofs.slope_of.Goals as goal

pub returns : goal.returns
returns c = ap over (to_z-of_z c.ranges.p)
