-- `is_rising` meets its contract. Assumes nothing.
use mathlib.Core.Path.{ap, ap₂, ◌∙◌}
use lib.Dec.{ltb}
use Rattle.neighbours.specs.Half.{corner_in}
use Rattle.tracing.proofs.scan.is_rising.Goals as goal

pub returns : goal.returns
returns c = ap₂ ltb c.corner.ensures (c.corner-2.ensures ∙ ap (corner_in c.args.room.now) c.after.ensures.0)
