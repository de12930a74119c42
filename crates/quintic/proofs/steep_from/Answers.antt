-- `steep_from` meets its contract: its operations are those of `steep_of`, in their order. Assumes nothing.
use mathlib.Core.Path.{refl}
use Rattle.quintic.specs.Quintic.{steep_of}
use Rattle.quintic.proofs.steep_from.Goals as goal

pub returns : goal.returns
unfolding steep_of
returns c = refl
