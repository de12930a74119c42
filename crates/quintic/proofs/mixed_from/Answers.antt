-- `mixed_from` meets its contract: its operations are those of `mixed_of`, in their order. Assumes nothing.
use mathlib.Core.Path.{refl}
use Rattle.quintic.specs.Quintic.{mixed_of}
use Rattle.quintic.proofs.mixed_from.Goals as goal

pub returns : goal.returns
unfolding mixed_of
returns c = refl
