-- `nest` meets its contract: its operations are those of `nested`, in their order. Assumes nothing.
use mathlib.Core.Path.{refl}
use Rattle.quintic.specs.Quintic.{nested}
use Rattle.quintic.proofs.nest.Goals as goal

pub returns : goal.returns
unfolding nested
returns c = refl
