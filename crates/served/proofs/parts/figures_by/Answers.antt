-- `figures_by` meets its contract: the corner is below the level or not. Assumes nothing.
use mathlib.Core.Path.{sym}
use Rattle.served.specs.Figures.{figures_by}
use Rattle.served.proofs.parts.figures_by.Goals as goal

pub returns-then-below : goal.returns-then-below
returns-then-below c = λ i. figures_by (sym c.if-below.true i) c.args.cut

pub returns-else-below : goal.returns-else-below
returns-else-below c = λ i. figures_by (sym c.if-below.false i) c.args.cut
