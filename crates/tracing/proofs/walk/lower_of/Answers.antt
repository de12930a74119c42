-- `lower_of` meets its contract: none is higher than every half-side. Assumes nothing.
use native.Mathlib.Omega.{arith}
use Rattle.tracing.proofs.CodeLaws.{lower-across, lower_own}
use Rattle.tracing.proofs.walk.lower_of.Goals as goal

pub returns-then-e-g : goal.returns-then-e-g
returns-then-e-g c = (lower-across c.args.g.0 c.args.e c.if-e-g.true c.requires, omega (arith, c.if-e-g.true))

pub returns-else-e-g : goal.returns-else-e-g
returns-else-e-g c = (lower_own c.args.g.0 c.args.e c.if-e-g.false, omega arith)
